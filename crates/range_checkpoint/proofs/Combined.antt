-- Pages that are merged, and what is written of them.
use Rattle.std.proofs.Common.{◌≡◌, ℕ, Bool, true, false, Option, Some, None, refl, sym, ap, subst, ◌∙◌, inl, inr}
use Rattle.std.specs.Prelude.{◌&&◌, [], is_some, if◌then◌else◌}
use Rattle.blocks.proofs.Formats.{some_is}
use Rattle.memtable.specs.declared.cell.Place.{Place}
use Rattle.memtable.specs.Entries.{Entries}
use Rattle.memtable.specs.Layers.{Layers}
use Rattle.streams.specs.declared.table.Position.{Position}
use Rattle.metadata.specs.declared.record.KeyRange.{KeyRange}
use Rattle.checkpoint.specs.Lookup.{PageSource}
use Rattle.checkpoint.specs.Merges.{ChangesState, LeadsTo, MergeState, next_place, no_merge, with_at_hand, with_page}
use Rattle.checkpoint.specs.PageGroups.{PagesState, next_group, pages_to_write, will_fit}
use Rattle.model_partition.specs.declared.checkpoint_job.CheckpointPhase.{CheckpointPhase}
use Rattle.model_partition.specs.declared.server_context.ServerContext.{ServerContext}
use Rattle.model_partition.specs.CheckpointStates.{CheckpointState}
use Rattle.model_partition.specs.Range.{RangeOutcome, RangeState, answers}
use Rattle.model_partition.specs.Checkpoints.{asks_page, begins_combining, begins_pages, combined_pages, merges_next, new_job, next_append, number_to_apply, page_comes, page_read, rows_go, with_fixed, with_phase}
use Rattle.model_partition.specs.Getting.{held_at}
use Rattle.model_partition.specs.PlaceReads.{places_of}
use Rattle.model_partition.specs.Loading.{Group}
use Rattle.range_checkpoint.specs.Combining.{IsPageOf, combined_append, combined_or_newer, combining_job}
use Rattle.range_checkpoint.specs.declared.starts.CheckpointStart.{CheckpointStart}

-- ---- what is written

and_so : (b : Bool) → b ≡ (b && true)
and_so true = refl
and_so false = refl

and_not : (b : Bool) → false ≡ (b && false)
and_not true = refl
and_not false = refl

abbrev writing : CheckpointState → Bool → PagesState → CheckpointState
writing job combine pages = record job { combine = combine; merge = no_merge; pages = pages }

chosen : (job : CheckpointState) (a b : PagesState) (fits : Bool) (x : Bool × PagesState) → x ≡ (if fits then (true, a) else (false, b)) →
    (if fits then writing job job.combine a else writing job false b) ≡ writing job (job.combine && x.0) x.1
chosen job a b true x is =
    ap (λ (c : Bool). writing job c a) (and_so job.combine) ∙ ap (λ (y : Bool × PagesState). writing job (job.combine && y.0) y.1) (sym is)
chosen job a b false x is =
    ap (λ (c : Bool). writing job c b) (and_not job.combine) ∙ ap (λ (y : Bool × PagesState). writing job (job.combine && y.0) y.1) (sym is)

-- the pages of what was merged under what is newer, or of the latter alone
pub combined_goes : (job : CheckpointState) (newer : Entries) (x : Bool × PagesState) (phase : CheckpointPhase) (blocks : Option Group) → x ≡ combined_or_newer job.merge newer →
    ((j : CheckpointState) → j.pages ≡ x.1 → next_append j (next_group x.1) ≡ (with_phase j phase, blocks)) →
    combined_append job newer ≡ (with_phase (writing job (job.combine && x.0) x.1) phase, blocks)
combined_goes job newer x phase blocks is next =
    ap (λ (j : CheckpointState). next_append j (next_group j.pages)) (chosen job (combined_pages job.merge newer) (pages_to_write newer) (will_fit (combined_pages job.merge newer)) x is)
    ∙ next (writing job (job.combine && x.0) x.1) refl

-- ---- the page that has come

pub page_none : (d : ServerContext) (r : RangeState) (source : PageSource) (keys : KeyRange) (control : Option CheckpointState) (entries : Option Entries) → IsPageOf source keys control entries None → page_read d r control entries ≡ answers d r []
page_none d r source keys None entries is = refl
page_none d r source keys (Some job) None is = refl
page_none d r source keys (Some job) (Some entries) is =
    elim is [ inl none ↦ absurd cc | inr none ↦ ap (λ (o : Option Place). page_comes d r job o entries) none ]

-- whatever the checkpoint comes to with its changes
pub page_some : (d : ServerContext) (r : RangeState) (source : PageSource) (control : Option CheckpointState) (entries : Option Entries) (changes : ChangesState) (o : RangeOutcome) → held_at r.held ≡ source →
    IsPageOf source r.said.keys control entries (Some changes) →
    ((job : CheckpointState) (m : MergeState) → control ≡ Some job → LeadsTo changes job.merge m → merges_next d (record r { reading = None }) (record job { merge = m }) (next_place m) ≡ o) →
    page_read d r control entries ≡ o
page_some d r source None entries changes o held is goes = absurd cc
page_some d r source (Some job) None changes o held is goes = absurd is
page_some d r source (Some job) (Some entries) changes o held is goes = by (next_place job.merge) is.0
  where
    leads : LeadsTo changes job.merge (with_at_hand (held_at r.held) r.said.keys (with_page r.said.keys job.merge entries))
    leads = subst (λ (s : PageSource). LeadsTo changes job.merge (with_at_hand s r.said.keys (with_page r.said.keys job.merge entries))) (sym held) is.1

    by : (p : Option Place) → is_some p ≡ true → page_comes d r job p entries ≡ o
    by None some = absurd cc
    by (Some place) some = goes job (with_at_hand (held_at r.held) r.said.keys (with_page r.said.keys job.merge entries)) refl leads

-- ---- changes that are taken

-- into the merge of the checkpoint that is under way
pub taken : (x : Option CheckpointState) (own job : CheckpointState) (m after : MergeState) (changes : ChangesState) → x ≡ Some own → x ≡ Some job → LeadsTo changes job.merge m →
    ((n : MergeState) → LeadsTo changes own.merge n → after ≡ n) → Some (record own { merge = after }) ≡ Some (record job { merge = m })
taken x own job m after changes is other leads take =
    let same : own ≡ job = some_is own job (sym is ∙ other) in
    ap (λ (a : MergeState). Some (record own { merge = a })) (take m (subst (λ (j : CheckpointState). LeadsTo changes j.merge m) (sym same) leads))
    ∙ ap (λ (j : CheckpointState). Some (record j { merge = m })) same

-- the checkpoint that is under way goes on with its next page
pub reads_on : (d : ServerContext) (r : RangeState) (job : CheckpointState) (m : MergeState) (place : Place) (control : Option CheckpointState) (o : RangeOutcome) → Some place ≡ next_place m →
    control ≡ Some (record job { merge = m }) → asks_page d (record r { control = control }) place (places_of r place.extent) ≡ o → merges_next d r (record job { merge = m }) (next_place m) ≡ o
reads_on d r job m place control o behind is asked =
    ap (merges_next d r (record job { merge = m })) (sym behind)
    ∙ ap (λ (c : Option CheckpointState). asks_page d (record r { control = c }) place (places_of r place.extent)) (sym is) ∙ asked

-- the same changes lead on from the same job
pub leads_from : (x : Option CheckpointState) (own job : CheckpointState) (m : MergeState) (changes : ChangesState) → x ≡ Some own → x ≡ Some job → LeadsTo changes job.merge m → LeadsTo changes own.merge m
leads_from x own job m changes is other leads = subst (λ (j : CheckpointState). LeadsTo changes j.merge m) (sym (some_is own job (sym is ∙ other))) leads

-- ---- the first step

abbrev fixed_with : RangeState → Layers → RangeState
fixed_with r layers = record r { live = layers.live; fixed = layers.fixed }

abbrev plain : Position → ℕ → PagesState → CheckpointPhase → CheckpointState
plain position next pages phase = record { position = position; next = next; combine = false; merge = no_merge; pages = pages; phase = phase }

pub pages_begun : (d : ServerContext) (r : RangeState) (position : Position) (next : ℕ) (pages : PagesState) (phase : CheckpointPhase) (blocks : Option Group) (job : CheckpointState) (layers : Layers) (o : RangeOutcome) →
    r.position ≡ position → number_to_apply r.out r.next ≡ next → pages ≡ pages_to_write r.live →
    ((j : CheckpointState) → j.pages ≡ pages → next_append j (next_group pages) ≡ (with_phase j phase, blocks)) →
    job ≡ record { position = position; next = next; combine = false; merge = no_merge; pages = pages; phase = phase } → layers ≡ record { live = []; fixed = Some r.live } →
    rows_go d (record r { live = layers.live; fixed = layers.fixed }) (job, blocks) ≡ o → begins_pages d r ≡ o
pages_begun d r position next pages phase blocks job layers o at number are first is fixed written =
    ap (λ (p : PagesState). rows_go d (with_fixed r) (next_append (new_job r) (next_group p))) (sym are)
    ∙ ap (rows_go d (with_fixed r)) (first (new_job r) (sym are))
    ∙ ap (λ (p : Position). rows_go d (with_fixed r) (plain p (number_to_apply r.out r.next) (pages_to_write r.live) phase, blocks)) at
    ∙ ap (λ (n : ℕ). rows_go d (with_fixed r) (plain position n (pages_to_write r.live) phase, blocks)) number
    ∙ ap (λ (p : PagesState). rows_go d (with_fixed r) (plain position next p phase, blocks)) (sym are)
    ∙ ap (λ (j : CheckpointState). rows_go d (with_fixed r) (j, blocks)) (sym is)
    ∙ ap (λ (t : Layers). rows_go d (fixed_with r t) (job, blocks)) (sym fixed) ∙ written

-- those that are at hand are merged first
abbrev after_hand : ServerContext → RangeState → PageSource → CheckpointState → RangeOutcome
after_hand d r source job =
    merges_next d (record (with_fixed r) { reading = None }) (record job { merge = with_at_hand source r.said.keys job.merge }) (next_place (with_at_hand source r.said.keys job.merge))

combining_begun : (d : ServerContext) (r : RangeState) (start : CheckpointStart) (source : PageSource) (job : CheckpointState) → r.position ≡ start.position → number_to_apply r.out r.next ≡ start.next → held_at r.held ≡ source →
    job ≡ combining_job start r.indexes → begins_combining d r ≡ after_hand d r source job
combining_begun d r start source job at number held is =
    ap (λ (p : Position). after_hand d r (held_at r.held) (combining_job (record { position = p; next = number_to_apply r.out r.next; combine = start.combine }) r.indexes)) at
    ∙ ap (λ (n : ℕ). after_hand d r (held_at r.held) (combining_job (record { position = start.position; next = n; combine = start.combine }) r.indexes)) number
    ∙ ap (after_hand d r (held_at r.held)) (sym is)
    ∙ ap (λ (s : PageSource). after_hand d r s job) held

-- the next page is asked for
pub combining_reads : (d : ServerContext) (r : RangeState) (start : CheckpointStart) (source : PageSource) (changes : ChangesState) (job : CheckpointState) (place : Place) (after : MergeState) (layers : Layers) (o : RangeOutcome) →
    r.position ≡ start.position → number_to_apply r.out r.next ≡ start.next → held_at r.held ≡ source → job ≡ combining_job start r.indexes →
    LeadsTo changes job.merge (with_at_hand source r.said.keys job.merge) → ((m : MergeState) → LeadsTo changes job.merge m → Some place ≡ next_place m) →
    ((m : MergeState) → LeadsTo changes job.merge m → after ≡ m) → layers ≡ record { live = []; fixed = Some r.live } →
    asks_page d (record r { live = layers.live; fixed = layers.fixed; reading = None; control = Some (record job { merge = after }) }) place (places_of r place.extent) ≡ o → begins_combining d r ≡ o
combining_reads d r start source changes job place after layers o at number held is leads behind take fixed asked =
    let m : MergeState = with_at_hand source r.said.keys job.merge in
    combining_begun d r start source job at number held is
    ∙ reads_on d (record (with_fixed r) { reading = None }) job m place (Some (record job { merge = after })) o (behind m leads)
    (ap (λ (a : MergeState). Some (record job { merge = a })) (take m leads))
    (ap (λ (t : Layers). asks_page d (record (fixed_with r t) { reading = None; control = Some (record job { merge = after }) }) place (places_of r place.extent)) (sym fixed) ∙ asked)

-- what all come to is written
pub combining_writes : (d : ServerContext) (r : RangeState) (start : CheckpointStart) (source : PageSource) (changes : ChangesState) (job next : CheckpointState) (blocks : Option Group) (newer : Entries) (layers : Layers) (o : RangeOutcome) →
    r.position ≡ start.position → number_to_apply r.out r.next ≡ start.next → held_at r.held ≡ source → job ≡ combining_job start r.indexes →
    LeadsTo changes job.merge (with_at_hand source r.said.keys job.merge) → ((m : MergeState) → LeadsTo changes job.merge m → None ≡ next_place m) →
    ((m : MergeState) → LeadsTo changes job.merge m → combined_append (record job { merge = m }) newer ≡ (next, blocks)) → newer ≡ r.live → layers ≡ record { live = []; fixed = Some r.live } →
    rows_go d (record r { live = layers.live; fixed = layers.fixed; reading = None }) (next, blocks) ≡ o → begins_combining d r ≡ o
combining_writes d r start source changes job next blocks newer layers o at number held is leads behind append live fixed written =
    let m : MergeState = with_at_hand source r.said.keys job.merge in
    combining_begun d r start source job at number held is
    ∙ ap (merges_next d (record (with_fixed r) { reading = None }) (record job { merge = m })) (sym (behind m leads))
    ∙ ap (λ (es : Entries). rows_go d (record (with_fixed r) { reading = None }) (combined_append (record job { merge = m }) es)) (sym live)
    ∙ ap (rows_go d (record (with_fixed r) { reading = None })) (append m leads)
    ∙ ap (λ (t : Layers). rows_go d (record (fixed_with r t) { reading = None }) (next, blocks)) (sym fixed) ∙ written
