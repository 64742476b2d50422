-- Whatever comes to servers, what is kept of a range at all of them stays so, where its streams keep their order.
use Rattle.std.proofs.Common.{◌≡◌, ◌⊎◌, ℕ, ◌-◌, List, [], ◌++◌, Bool, true, false, ◌&&◌, ◌==◌, Option, Some, None, slice_set, refl, sym, ap, ◌∙◌, subst, inl, inr, append-nil, if◌then◌else◌}
use Rattle.std.specs.BTreeMap.{insert_entry}
use Rattle.std.specs.Ordering.{nat_cmp}
use Rattle.std.proofs.lemmas.Bool.{cases_eq}
use Rattle.wire.specs.declared.note.Note.{Note}
use Rattle.wire.specs.declared.packet.Packet.{Packet}
use Rattle.model_streams.specs.Maps.{entry_at}
use Rattle.model_partition.specs.declared.server_context.ServerContext.{ServerContext}
use Rattle.model_partition.specs.declared.table_note.TableNote.{TableNote}
use Rattle.model_histories.specs.Log.{only}
use Rattle.model_partition.specs.Past.{Bytes}
use Rattle.model_partition.specs.Range.{RangeState, RangeOutcome}
use Rattle.model_partition.specs.Server.{ServerState, ServerOutcome, range_of, set_range, new_range, split_of, set_split}
use Rattle.model_partition.specs.declared.split_job.SplitJob.{SplitJob}
use Rattle.model_partition.specs.Servers.{ServerCell}
use Rattle.model_histories.specs.StreamActions.{StreamAction, SideAction, split_sides}
use Rattle.model_histories.specs.ServerRun.{ServerRun, RangeEffect, Begins, Does, Rests, first_history, with_effect, with_outcome, after_actions, after_sides, stream_named}
use Rattle.model_histories.specs.ServedTables.{AreSeenAs}
use Rattle.laws_loads.proofs.Entries.{entry_set, entry_other}
use Rattle.laws_loads.specs.RangeView.{view_after_all}
use Rattle.laws_server_runs.specs.Places.{StepLaid, RunLaid}
use Rattle.laws_server_runs.specs.RangeInvariant.{StreamsKept, InOrder}
use Rattle.laws_server_runs.specs.RunInvariant.{view_at, AreApart, Taken, RunBehind, RunOn}
use Rattle.laws_server_runs.specs.Turns.{IsStep, LeavesSplit, IsEffect, Own, None_done, OfOthers, Turn, Idles, Opens, Acts, HoldNoMore, RunStep, Keeps, Passes, Turns}
use Rattle.laws_server_runs.proofs.Actions.{same_test, other_test, actions_here, actions_apart, actions_beside, actions_bytes, actions_rest, AreOthers, SidesBeside, sides_beside, sides_rest}
use Rattle.laws_server_runs.proofs.Beside.{Was, IsNew, IsBeside, beside_on}
use Rattle.laws_server_runs.proofs.Fronts.{SeenBoth, seen_both, longer_twice}
use Rattle.laws_server_runs.proofs.LaidRuns.{sides_laid}
use Rattle.laws_server_runs.proofs.LaidSplits.{laid_step}
use Rattle.laws_server_runs.proofs.SideActions.{sides_append, sides_others}
use Rattle.laws_server_runs.proofs.SplitTurns.{step_turn}
use Rattle.laws_server_runs.proofs.Others.{streams_same}
use Rattle.laws_server_runs.proofs.OwnNotes.{only_both, own_notes, other_notes}
use Rattle.laws_server_runs.proofs.RangeLists.{inserted_here, inserted_other, dropped_here, dropped_other, left_here, left_other}
use Rattle.laws_server_runs.proofs.RunSteps.{IsAny, IsAnyPair}
use Rattle.laws_server_runs.proofs.Steps.{stepped_on}

and_false : (b : Bool) → (b && false) ≡ false
and_false true = refl
and_false false = refl

module _ (texts : ℕ → Bytes) (subject : ℕ) (taken : Taken) (x : ServerRun) (laid : RunLaid x) (kept : RunBehind texts subject taken x) where
  abbrev Kept : ServerRun → Type 0
  Kept y = InOrder texts (view_at subject y 0) → RunOn texts subject taken x kept y

  -- nothing is shown
  silent : (notes : List Note) → AreSeenAs texts (x.notes ++ []) notes → (before : List Note) × AreSeenAs texts x.notes before × (only subject notes ≡ only subject before)
  silent notes seen = (notes, subst (λ l. AreSeenAs texts l notes) (append-nil x.notes) seen, refl)

  -- servers that hold no more than they held
  like_was : (servers : List ServerCell) → HoldNoMore x.servers servers → (y : ServerRun) → ((t : ℕ) → y.history t subject ≡ x.history t subject) →
      (t : ℕ) (c : ServerCell) (q : ServerState) → entry_at servers t ≡ Some c → c.state ≡ Some q → (r : RangeState) → range_of q.ranges subject ≡ Some r → Was texts subject taken x kept y t q r ⊎ IsNew texts subject taken x kept y t q r
  like_was servers like y same t c q there up r held = elim (like t c q there up) [
    | inl none ↦ absurd (let z : None ≡ Some r = sym (ap (λ l. range_of l subject) none.0) ∙ held in cc)
    | inr old ↦ inl (old.0, old.1, old.2, old.3, sym (ap (λ l. range_of l subject) old.4) ∙ held, same t, ap (λ l. split_of l subject) old.5)
  ]

  abbrev Beside : ServerRun → Type 0
  Beside y = IsBeside texts subject taken x kept y

  pub keeps_beside : (servers : List ServerCell) (packets : List Packet) → HoldNoMore x.servers servers → Beside (with_outcome x (record { servers = servers; packets = packets; notes = [] }))
  keeps_beside servers packets like =
      let y : ServerRun = with_outcome x (record { servers = servers; packets = packets; notes = [] }) in
      record { holds = like_was servers like y (λ t. refl); story = λ kind. refl; answered = refl; notes = silent }

  keeps : (servers : List ServerCell) (packets : List Packet) → HoldNoMore x.servers servers → RunOn texts subject taken x kept (with_outcome x (record { servers = servers; packets = packets; notes = [] }))
  keeps servers packets like = beside_on texts subject taken x kept (with_outcome x (record { servers = servers; packets = packets; notes = [] })) (keeps_beside servers packets like)

  pub passes_beside : (servers : List ServerCell) → HoldNoMore x.servers servers → Beside (record x { servers = servers })
  passes_beside servers like =
      let y : ServerRun = record x { servers = servers } in
      record { holds = like_was servers like y (λ t. refl); story = λ kind. refl; answered = refl; notes = λ notes seen. (notes, seen, refl) }

  passes : (servers : List ServerCell) → HoldNoMore x.servers servers → RunOn texts subject taken x kept (record x { servers = servers })
  passes servers like = beside_on texts subject taken x kept (record x { servers = servers }) (passes_beside servers like)

  -- ---- a server takes a turn

  module _ (s : ℕ) (cell : ServerCell) (st : ServerState) (at : entry_at x.servers s ≡ Some cell) (is : cell.state ≡ Some st) where
    abbrev Next : RangeEffect → ServerOutcome → ServerRun
    Next e o = with_outcome (with_effect s x e) (record { servers = slice_set x.servers (s - 1) (record cell { state = Some o.after }); packets = o.packets; notes = o.notes })

    -- what the servers hold of the range after a turn that is none of the range
    module _ (next : ServerState) (y : ServerRun) (servers_are : y.servers ≡ slice_set x.servers (s - 1) (record cell { state = Some next })) (apart : (t : ℕ) → (t ≡ s → ⊥) → y.history t subject ≡ x.history t subject)
        (mine : (r : RangeState) → range_of next.ranges subject ≡ Some r → Was texts subject taken x kept y s next r ⊎ IsNew texts subject taken x kept y s next r) where
      held_by : (t : ℕ) (c : ServerCell) (q : ServerState) → entry_at y.servers t ≡ Some c → c.state ≡ Some q → (r : RangeState) → range_of q.ranges subject ≡ Some r → Was texts subject taken x kept y t q r ⊎ IsNew texts subject taken x kept y t q r
      held_by t c q there up r held = elim (cases_eq t s) [
        | inl same ↦
            (let both : Some (record cell { state = Some next }) ≡ Some c =
            sym (entry_set x.servers s cell (record cell { state = Some next }) at) ∙ sym (ap (λ l. entry_at l s) servers_are) ∙ subst (λ n. entry_at y.servers n ≡ Some c) same there in
            let is_cell : record cell { state = Some next } ≡ c = cc in
            let state : Some next ≡ Some q = ap (λ (z : ServerCell). z.state) is_cell ∙ up in
            let e : next ≡ q = cc in
            subst (λ n. Was texts subject taken x kept y n q r ⊎ IsNew texts subject taken x kept y n q r) (sym same)
            (subst (λ z. Was texts subject taken x kept y s z r ⊎ IsNew texts subject taken x kept y s z r) e (mine r (ap (λ (z : ServerState). range_of z.ranges subject) e ∙ held))))
        | inr other ↦ inl (c, q, sym (entry_other x.servers s cell (record cell { state = Some next }) at t other) ∙ sym (ap (λ l. entry_at l t) servers_are) ∙ there, up, held, apart t other, refl)
      ]

    pub idles_beside : (next : ServerState) (packets : List Packet) → next.ranges ≡ st.ranges → next.splits ≡ st.splits → Beside (Next Rests (record { after = next; packets = packets; notes = [] }))
    idles_beside next packets same splits =
        let y : ServerRun = Next Rests (record { after = next; packets = packets; notes = [] }) in
        record {
          holds = held_by next y refl (λ t other. refl) (λ r held. inl (cell, st, at, is, sym (ap (λ l. range_of l subject) same) ∙ held, refl, ap (λ l. split_of l subject) splits));
          story = λ kind. refl;
          answered = refl;
          notes = silent;
        }

    idles : (next : ServerState) (packets : List Packet) → next.ranges ≡ st.ranges → next.splits ≡ st.splits → RunOn texts subject taken x kept (Next Rests (record { after = next; packets = packets; notes = [] }))
    idles next packets same splits = beside_on texts subject taken x kept (Next Rests (record { after = next; packets = packets; notes = [] })) (idles_beside next packets same splits)

    pub opens_beside : (range : ℕ) (d : ServerContext) (generation until : ℕ) (next : ServerState) (packets : List Packet) → next.ranges ≡ insert_entry nat_cmp st.ranges range (new_range d range generation until) → next.splits ≡ set_split st.splits range None →
        Beside (Next (Begins range) (record { after = next; packets = packets; notes = [] }))
    opens_beside range d generation until next packets new splits =
        record {
          holds = held_by next y refl (λ t other. ap (λ b. if b then first_history else x.history t subject) (ap (λ b. b && (subject == range)) (other_test t s other))) mine;
          story = λ kind. refl;
          answered = refl;
          notes = silent;
        }
      where
        y : ServerRun
        y = Next (Begins range) (record { after = next; packets = packets; notes = [] })

        mine : (r : RangeState) → range_of next.ranges subject ≡ Some r → Was texts subject taken x kept y s next r ⊎ IsNew texts subject taken x kept y s next r
        mine r held = elim (cases_eq subject range) [
          | inl same ↦
              (let found : Some (new_range d range generation until) ≡ Some r =
              sym (inserted_here st.ranges range (new_range d range generation until)) ∙ sym (ap (λ l. range_of l range) new) ∙ subst (λ n. range_of next.ranges n ≡ Some r) same held in
              let is_new : new_range d range generation until ≡ r = cc in
              let cleared : ((s == s) && (subject == range)) ≡ true = (λ i. same_test s i && (ap (λ n. n == range) same ∙ same_test range) i) in
              inr (
                d,
                generation,
                until,
                sym is_new ∙ ap (λ n. new_range d n generation until) (sym same),
                ap (λ b. if b then first_history else x.history s subject) cleared,
                ap (λ l. split_of l subject) splits ∙ ap (split_of (set_split st.splits range None)) same ∙ dropped_here st.splits range (laid.splits s cell st at is),
              ))
          | inr other ↦
              inl (
                cell,
                st,
                at,
                is,
                sym (inserted_other st.ranges range (new_range d range generation until) subject other) ∙ sym (ap (λ l. range_of l subject) new) ∙ held,
                ap (λ b. if b then first_history else x.history s subject) ((λ i. (s == s) && other_test subject range other i) ∙ and_false (s == s)),
                ap (λ l. split_of l subject) splits ∙ dropped_other st.splits range subject other,
              )
        ]

    opens : (range : ℕ) (d : ServerContext) (generation until : ℕ) (next : ServerState) (packets : List Packet) → next.ranges ≡ insert_entry nat_cmp st.ranges range (new_range d range generation until) → next.splits ≡ set_split st.splits range None →
        RunOn texts subject taken x kept (Next (Begins range) (record { after = next; packets = packets; notes = [] }))
    opens range d generation until next packets new splits =
        beside_on texts subject taken x kept (Next (Begins range) (record { after = next; packets = packets; notes = [] })) (opens_beside range d generation until next packets new splits)

    -- what a step leaves of the splits
    split_here : (range : ℕ) (later : Option SplitJob) (after : List (ℕ × SplitJob)) → LeavesSplit st.splits range later after → split_of after range ≡ later
    split_here range later after (inl (same, is_later)) = ap (λ l. split_of l range) same ∙ is_later
    split_here range None after (inr e) = ap (λ l. split_of l range) e ∙ dropped_here st.splits range (laid.splits s cell st at is)
    split_here range (Some job) after (inr e) = ap (λ l. split_of l range) e ∙ inserted_here st.splits range job

    split_other : (range : ℕ) (later : Option SplitJob) (after : List (ℕ × SplitJob)) (k : ℕ) → (k ≡ range → ⊥) → LeavesSplit st.splits range later after → split_of after k ≡ split_of st.splits k
    split_other range later after k other (inl (same, is_later)) = ap (λ l. split_of l k) same
    split_other range None after k other (inr e) = ap (λ l. split_of l k) e ∙ dropped_other st.splits range k other
    split_other range (Some job) after k other (inr e) = ap (λ l. split_of l k) e ∙ inserted_other st.splits range job k other

    -- ---- a range acts

    module _ (r : RangeState) (actions : List StreamAction) (o : RangeOutcome) (later : Option SplitJob) (next : ServerState) (packets : List Packet) where
      abbrev After : ℕ → ServerRun
      After range = Next (Does range r.load.generation actions) (record { after = next; packets = packets; notes = o.notes })

      step_laid : (range : ℕ) → range_of st.ranges range ≡ Some r → (job : Option SplitJob) → IsStep IsAnyPair r job actions o later → StepLaid range (view_at range x s) r.load.generation actions o
      step_laid range held job step = laid_step range (view_at range x s) r (laid.ranges s cell st at is range r held) IsAnyPair job actions o later step

      -- the range itself
      pub acts_here : range_of st.ranges subject ≡ Some r → IsStep IsAnyPair r (split_of st.splits subject) actions o later → next.ranges ≡ set_range st.ranges subject o.after → LeavesSplit st.splits subject later next.splits → Kept (After subject)
      acts_here held step left splits order =
          let all : InOrder texts (view_at subject (After subject) s) = record { log = order.log; metadata = order.metadata; once = order.once; ends = order.ends; shown = order.shown; answered = order.answered } in
          let here : InOrder texts (view_after_all r.load.generation (view_at subject x s) actions) = subst (λ v. InOrder texts v) (actions_here s subject r.load.generation x actions) all in
          let streams : StreamsKept texts kept.run (view_at subject x s) = streams_same texts kept.run (view_at subject x 0) (view_at subject x s) refl refl kept.streams in
          let l : StepLaid subject (view_at subject x s) r.load.generation actions o = step_laid subject held (split_of st.splits subject) step in
          stepped_on texts subject taken x kept s cell st at is r held actions o later
          (step_turn texts subject kept.run (view_at subject x s) r streams (laid.ranges s cell st at is subject r held).low IsAnyPair (split_of st.splits subject) actions o later step (kept.ranges s cell st at is r held) here)
          (λ notes seen. own_notes texts (view_after_all r.load.generation (view_at subject x s) actions).shown subject r.load.generation o.notes notes l.notes seen)
          next (ap (λ z. range_of z subject) left ∙ left_here st.ranges subject r o.after (laid.ascending s cell st at is) held) (split_here subject later next.splits splits) packets

      -- another range
      pub is_beside : (range : ℕ) → (subject ≡ range → ⊥) → range_of st.ranges range ≡ Some r → (job : Option SplitJob) → IsStep IsAnyPair r job actions o later → next.ranges ≡ set_range st.ranges range o.after → LeavesSplit st.splits range later next.splits →
          Beside (After range)
      is_beside range other held job step left splits = record {
        holds = held_by next (After range) refl (λ t apart. same_history t)
            (λ z found. inl (cell, st, at, is, sym (left_other st.ranges range o.after subject other) ∙ sym (ap (λ l. range_of l subject) left) ∙ found, same_history s, split_other range later next.splits subject other splits));
        story = λ kind. actions_beside s range r.load.generation (stream_named subject kind) (other_test subject range other) x actions;
        answered = (actions_bytes s range r.load.generation subject other x actions).1;
        notes = told;
      }
        where
          same_history : (t : ℕ) → (after_actions s range r.load.generation x actions).history t subject ≡ x.history t subject
          same_history t = actions_apart s range r.load.generation t subject ((λ i. (t == s) && other_test subject range other i) ∙ and_false (t == s)) x actions

          told : (notes : List Note) → AreSeenAs texts ((after_actions s range r.load.generation x actions).notes ++ o.notes) notes →
              (before : List Note) × AreSeenAs texts x.notes before × (only subject notes ≡ only subject before)
          told notes seen =
              let b : SeenBoth texts (after_actions s range r.load.generation x actions).notes o.notes notes = seen_both texts (after_actions s range r.load.generation x actions).notes o.notes notes seen in
              let l : StepLaid range (view_at range x s) r.load.generation actions o = step_laid range held job step in
              let none : only subject b.later ≡ [] = other_notes texts (view_after_all r.load.generation (view_at range x s) actions).shown range r.load.generation subject other o.notes b.later l.notes b.second_seen in (
                b.before,
                subst (λ l. AreSeenAs texts l b.before) (actions_rest s range r.load.generation x actions).1 b.first_seen,
                ap (only subject) b.is ∙ only_both subject b.before b.later ∙ ap (λ l. only subject b.before ++ l) none ∙ append-nil (only subject b.before),
              )

      pub acts : (range : ℕ) → range_of st.ranges range ≡ Some r → IsStep IsAnyPair r (split_of st.splits range) actions o later → next.ranges ≡ set_range st.ranges range o.after → LeavesSplit st.splits range later next.splits → Kept (After range)
      acts range held step left splits order = elim (cases_eq subject range) [
        | inl same ↦
            subst (λ n. range_of st.ranges n ≡ Some r → IsStep IsAnyPair r (split_of st.splits n) actions o later → next.ranges ≡ set_range st.ranges n o.after → LeavesSplit st.splits n later next.splits → Kept (After n)) same acts_here
            held step left splits order
        | inr other ↦ beside_on texts subject taken x kept (After range) (is_beside range other held (split_of st.splits range) step left splits)
      ]

-- ---- the two ranges that a split makes

module _ (texts : ℕ → Bytes) (subject : ℕ) (taken : Taken) (s g : ℕ) (x : ServerRun) (kept : RunBehind texts subject taken x) (sides : List SideAction) (others : AreOthers subject sides) where
  abbrev told_run : ServerRun
  told_run = after_sides s g x sides

  apart : SidesBeside subject x told_run
  apart = sides_beside s g subject x sides others

  pub told_beside : IsBeside texts subject taken x kept told_run
  told_beside = record {
    holds = λ t c q there up r held. inl (c, q, subst (λ l. entry_at l t ≡ Some c) (sides_rest s g x sides).0 there, up, held, apart.history t, refl);
    story = λ kind. apart.story (stream_named subject kind) refl;
    answered = apart.answered;
    notes = λ notes seen. (notes, subst (λ l. AreSeenAs texts l notes) (sides_rest s g x sides).1 seen, refl);
  }

  -- a range that is none of them
  pub sides_on : RunOn texts subject taken x kept told_run
  sides_on = beside_on texts subject taken x kept told_run told_beside

-- ---- one step, and then another

module _ (texts : ℕ → Bytes) (subject : ℕ) (taken : Taken) (x : ServerRun) (old : RunBehind texts subject taken x) where
  pub both_on : (y : ServerRun) (first : RunOn texts subject taken x old y) (z : ServerRun) → RunOn texts subject taken y first.kept z → RunOn texts subject taken x old z
  both_on y first z second = record { kept = second.kept; goes = longer_twice old.run first.kept.run second.kept.run first.goes second.goes }

-- ---- a step of all

module _ (texts : ℕ → Bytes) (subject : ℕ) (taken : Taken) (x : ServerRun) (laid : RunLaid x) (kept : RunBehind texts subject taken x) (apart : AreApart subject x.servers) where
  abbrev KeptThen : ServerRun → Type 0
  KeptThen y = InOrder texts (view_at subject y 0) → RunOn texts subject taken x kept y

  module _ (s : ℕ) (cell : ServerCell) (st : ServerState) (at : entry_at x.servers s ≡ Some cell) (is : cell.state ≡ Some st) where
    abbrev Then : RangeEffect → ServerOutcome → ServerRun
    Then e o = with_outcome (with_effect s x e) (record { servers = slice_set x.servers (s - 1) (record cell { state = Some o.after }); packets = o.packets; notes = o.notes })

    effect_kept : (range : ℕ) (r : RangeState) → range_of st.ranges range ≡ Some r → (job : Option SplitJob) → split_of st.splits range ≡ job → (e : RangeEffect) (o : RangeOutcome) (later : Option SplitJob) → IsEffect IsAnyPair range r job e o later →
        (next : ServerState) (packets : List Packet) → next.ranges ≡ set_range st.ranges range o.after → LeavesSplit st.splits range later next.splits → KeptThen (Then e (record { after = next; packets = packets; notes = o.notes }))
    effect_kept range r held job split e o later (Own own actions after left_job step unheard) next packets left splits order =
        acts texts subject taken x laid kept s cell st at is r actions o later next packets range held (subst (λ j. IsStep IsAnyPair r j actions o later) (sym split) step) left splits order
    effect_kept range r held job split e o later (None_done own after left_job step unheard) next packets left splits order =
        acts texts subject taken x laid kept s cell st at is r [] o later next packets range held (subst (λ j. IsStep IsAnyPair r j [] o later) (sym split) step) left splits order
    effect_kept range r held job split e o later (OfOthers splitting d body after left_job step heard) next packets left splits order =
        subst (λ servers. KeptThen (with_outcome y (record { servers = slice_set servers (s - 1) (record cell { state = Some next }); packets = packets; notes = o.notes }))) rest from_sides order
      where
        sides : List SideAction
        sides = split_sides d r splitting body

        others : AreOthers subject sides
        others = sides_others subject d r splitting body (apart s cell st at is range splitting split)

        y : ServerRun
        y = after_sides s splitting.generation x sides

        rest : y.servers ≡ x.servers
        rest = (sides_rest s splitting.generation x sides).0

        aside : RunOn texts subject taken x kept y
        aside = sides_on texts subject taken s splitting.generation x kept sides others

        from_sides : KeptThen (with_outcome y (record { servers = slice_set y.servers (s - 1) (record cell { state = Some next }); packets = packets; notes = o.notes }))
        from_sides now =
            both_on texts subject taken x kept y aside (with_outcome y (record { servers = slice_set y.servers (s - 1) (record cell { state = Some next }); packets = packets; notes = o.notes }))
            (acts texts subject taken y (sides_laid s splitting.generation x laid sides (sides_append d r splitting body)) aside.kept
            s cell st (subst (λ l. entry_at l s ≡ Some cell) (sym rest) at) is r [] o later next packets range held (subst (λ j. IsStep IsAnyPair r j [] o later) (sym split) step) left splits now)

    turn_kept : (e : RangeEffect) (o : ServerOutcome) → Turn IsAny IsAnyPair st e o → KeptThen (Then e o)
    turn_kept e o (Idles next packets same splits) order = idles texts subject taken x laid kept s cell st at is next packets same splits
    turn_kept e o (Opens range assigned d generation until next packets new splits) order = opens texts subject taken x laid kept s cell st at is range d generation until next packets new splits
    turn_kept e o (Acts range r held effect ro later is_effect next packets left splits) order = effect_kept range r held (split_of st.splits range) refl effect ro later is_effect next packets left splits order

  -- whatever comes to servers none of whose splits makes the range
  pub step_on : (notes : List TableNote) (y : ServerRun) → RunStep IsAny IsAnyPair x notes y → KeptThen y
  step_on notes y (Keeps servers packets like) order = keeps texts subject taken x laid kept servers packets like
  step_on notes y (Passes servers like) order = passes texts subject taken x laid kept servers like
  step_on notes y (Turns s cell st at is e o turn) order = turn_kept s cell st at is e o turn order

  pub step_kept : (notes : List TableNote) (y : ServerRun) → RunStep IsAny IsAnyPair x notes y → InOrder texts (view_at subject y 0) → RunBehind texts subject taken y
  step_kept notes y step order = (step_on notes y step order).kept
