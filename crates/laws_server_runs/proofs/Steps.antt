-- A step of a range at one server keeps what is kept of it at all servers.
use Rattle.std.proofs.Common.{◌≡◌, ⊎_elim, ℕ, suc, ◌-◌, List, [], ◌∷◌, ◌++◌, true, ◌&&◌, ◌==◌, Some, Option, slice_set, refl, sym, ap, ◌∙◌, subst, inl, inr, arith, append_assoc}
use Rattle.std.proofs.lemmas.Bool.{cases_eq}
use Rattle.wire.specs.declared.note.Note.{Note}
use Rattle.wire.specs.declared.packet.Packet.{Packet}
use Rattle.model_streams.specs.Maps.{entry_at}
use Rattle.model_partition.specs.declared.stage.Stage.{Stage}
use Rattle.model_partition.specs.declared.stage.Stage.TheVariants as stages
use Rattle.model_histories.specs.Log.{only, without_gots}
use Rattle.model_partition.specs.Past.{Bytes}
use Rattle.model_partition.specs.Range.{RangeState, RangeOutcome, is_serving}
use Rattle.model_partition.specs.Server.{ServerState, range_of, split_of}
use Rattle.model_partition.specs.declared.split_job.SplitJob.{SplitJob}
use Rattle.model_partition.specs.Servers.{ServerCell}
use Rattle.model_histories.specs.StreamActions.{StreamAction}
use Rattle.model_histories.specs.ServerRun.{ServerRun, after_actions, with_outcome}
use Rattle.model_histories.specs.ServedTables.{AreSeenAs, ServesAt}
use Rattle.laws_loads.proofs.Entries.{entry_set, entry_other}
use Rattle.laws_loads.specs.RangeView.{RangeView, view_after_all}
use Rattle.laws_tables.specs.Runs.{Run, IsServing}
use Rattle.laws_server_runs.specs.RangeInvariant.{StageIs, RangeKept, StreamsKept, AreObserved, GoesOn, Rests, Adds, IsLonger, IsAlone, ServesAnew}
use Rattle.laws_server_runs.specs.RunInvariant.{view_at, with_stage, HeldKept, HeldIf, TurnKept, HasLoad, Taken, RunBehind, RunOn}
use Rattle.laws_server_runs.proofs.Actions.{other_test, actions_here, actions_apart, actions_rest}
use Rattle.laws_server_runs.proofs.Fronts.{SeenBoth, seen_both}
use Rattle.laws_server_runs.proofs.ConfirmedLoads.{has_behind, has_front, new_load}
use Rattle.laws_server_runs.proofs.Others.{streams_same, others_kept}
use Rattle.laws_server_runs.proofs.OwnNotes.{only_both}

module _ (texts : ℕ → Bytes) (subject : ℕ) where
  -- a load of its generation was confirmed
  pub shown_at : (run : Run) (v : RangeView) (u : RangeState) → RangeKept texts subject run v u → is_serving u.stage ≡ true → IsServing run u.load.generation
  shown_at run v u k serves = by u.stage k.stage serves
    where
      by : (stage : Stage) → StageIs texts run v u stage → is_serving stage ≡ true → IsServing run u.load.generation
      by stages.Serving b e = b.shown
      by stages.Opening b e = absurd cc
      by (stages.Checking kind) b e = absurd cc
      by (stages.Reading kind position) b e = absurd cc
      by (stages.Indexing position) b e = absurd cc
      by stages.Confirming b e = absurd cc

  -- the range that is served at a server, and what is kept of it
  pub kept_at : (taken : Taken) (x : ServerRun) (k : RunBehind texts subject taken x) (t : ℕ) (u : RangeState) (at : ServesAt x t subject u) → HeldKept texts subject k.run (view_at subject x t) u (split_of at.state.splits subject)
  kept_at taken x k t u at = k.ranges t at.cell at.state at.there at.runs u at.held

  -- a run that goes on has all that it had
  goes_behind : (g : ℕ) (run next : Run) → GoesOn g run next → IsLonger run next
  goes_behind g run next Rests = ([], refl)
  goes_behind g run next (Adds event earlier on under) = let more : IsLonger run earlier = goes_behind g run earlier on in (event ∷ more.0, ap (λ l. event ∷ l) more.1)

  module _ (taken : Taken) (x : ServerRun) (k : RunBehind texts subject taken x) (s : ℕ) (cell : ServerCell) (st : ServerState) (at : entry_at x.servers s ≡ Some cell) (is : cell.state ≡ Some st)
      (r : RangeState) (held : range_of st.ranges subject ≡ Some r) (actions : List StreamAction) (o : RangeOutcome) (later : Option SplitJob)
      (step : TurnKept texts subject k.run (view_at subject x s) r actions o later)
      (own_seen : (notes : List Note) → AreSeenAs texts o.notes notes → only subject notes ≡ without_gots notes)
      (after : ServerState) (left : range_of after.ranges subject ≡ o.after) (left_split : split_of after.splits subject ≡ later) (packets : List Packet) where
    abbrev g : ℕ
    g = r.load.generation

    abbrev y : ServerRun
    y = after_actions s subject g x actions

    abbrev next_cell : ServerCell
    next_cell = record cell { state = Some after }

    abbrev pub next_run : ServerRun
    next_run = with_outcome y (record { servers = slice_set x.servers (s - 1) next_cell; packets = packets; notes = o.notes })

    here : view_at subject next_run s ≡ view_after_all g (view_at subject x s) actions
    here = actions_here s subject g x actions

    -- the range before the step is served
    r_serves : is_serving r.stage ≡ true → ServesAt x s subject r
    r_serves e = record { cell = cell; state = st; there = at; runs = is; held = held; serves = e }

    -- ---- the range itself

    own_range : (z : RangeState) → range_of after.ranges subject ≡ Some z → HeldKept texts subject step.next (view_at subject next_run s) z (split_of after.splits subject) × (z.load.generation ≡ g)
    own_range z found =
        let h : HeldIf texts subject step.next (view_after_all g (view_at subject x s) actions) g (Some z) later =
        subst (λ q. HeldIf texts subject step.next (view_after_all g (view_at subject x s) actions) g q later) (sym left ∙ found) step.kept in
        (subst (λ j. HeldKept texts subject step.next (view_at subject next_run s) z j) (sym left_split) (subst (λ v. HeldKept texts subject step.next v z later) (sym here) h.0), h.1)

    -- ---- the others

    longer : IsLonger (x.answered subject) (next_run.answered subject)
    longer = subst (λ (v : RangeView). IsLonger (x.answered subject) v.answered) (sym here) step.longer

    no_more : (n : ℕ) → n ≡ suc n → ⊥
    no_more n e = omega (arith, e)

    history_apart : (t : ℕ) → (t ≡ s → ⊥) → next_run.history t subject ≡ x.history t subject
    history_apart t apart = actions_apart s subject g t subject (ap (λ b. b && (subject == subject)) (other_test t s apart)) x actions

    other_range : (t : ℕ) → (t ≡ s → ⊥) → (u : RangeState) (j : Option SplitJob) → ((is_serving u.stage ≡ true) → ServesAt x t subject u) → HeldKept texts subject k.run (view_at subject x t) u j →
        HeldKept texts subject step.next (view_at subject next_run t) u j
    other_range t apart u j serves h = elim step.alone [
      | inl still ↦
          with_range (others_kept texts subject k.run step.next (with_stage (view_at subject x t) h.split) u (with_stage (view_at subject next_run t) h.split) (history_apart t apart) refl h.range (suc u.load.generation)
          (subst (λ z. GoesOn (suc u.load.generation) k.run z) (sym still) Rests) longer (λ e same. no_more u.load.generation same))
      | inr first ↦ elim first [
        | inl served ↦ on (λ e same. apart (k.own t s u r (serves e) (r_serves served) same))
        | inr none ↦ on (λ e same. none (subst (λ z. IsServing k.run z) same (shown_at k.run (with_stage (view_at subject x t) h.split) u h.range e)))
      ]
    ]
      where
        with_range : RangeKept texts subject step.next (with_stage (view_at subject next_run t) h.split) u → HeldKept texts subject step.next (view_at subject next_run t) u j
        with_range kept = record { split = h.split; range = kept; splits = h.splits }

        on : (is_serving u.stage ≡ true → u.load.generation ≡ g → ⊥) → HeldKept texts subject step.next (view_at subject next_run t) u j
        on never = with_range (others_kept texts subject k.run step.next (with_stage (view_at subject x t) h.split) u (with_stage (view_at subject next_run t) h.split) (history_apart t apart) refl h.range g step.goes longer never)

    -- ---- all servers

    there_before : (t : ℕ) → (t ≡ s → ⊥) → (c : ServerCell) → entry_at next_run.servers t ≡ Some c → entry_at x.servers t ≡ Some c
    there_before t apart c there = sym (entry_other x.servers s cell next_cell at t apart) ∙ there

    at_here : (c : ServerCell) (q : ServerState) → entry_at next_run.servers s ≡ Some c → c.state ≡ Some q → after ≡ q
    at_here c q there up =
        let found : Some next_cell ≡ Some c = sym (entry_set x.servers s cell next_cell at) ∙ there in
        let same : next_cell ≡ c = cc in
        let state : Some after ≡ Some q = ap (λ (z : ServerCell). z.state) same ∙ up in
        cc

    all_ranges : (t : ℕ) (c : ServerCell) (q : ServerState) → entry_at next_run.servers t ≡ Some c → c.state ≡ Some q → (u : RangeState) → range_of q.ranges subject ≡ Some u →
        HeldKept texts subject step.next (view_at subject next_run t) u (split_of q.splits subject)
    all_ranges t c q there up u found = elim (cases_eq t s) [
      | inl same ↦
          (let e : after ≡ q = at_here c q (subst (λ n. entry_at next_run.servers n ≡ Some c) same there) up in
          subst (λ n. HeldKept texts subject step.next (view_at subject next_run n) u (split_of q.splits subject)) (sym same)
          (subst (λ (z : ServerState). HeldKept texts subject step.next (view_at subject next_run s) u (split_of z.splits subject)) e (own_range u (ap (λ (z : ServerState). range_of z.ranges subject) e ∙ found)).0))
      | inr apart ↦
          (let old : entry_at x.servers t ≡ Some c = there_before t apart c there in
          other_range t apart u (split_of q.splits subject) (λ e. record { cell = c; state = q; there = old; runs = up; held = found; serves = e }) (k.ranges t c q old up u found))
    ]

    -- ---- who serves

    -- the range that the server serves after the step
    record IsOwn (u : RangeState) : Type 0 where
      generation : u.load.generation ≡ g
      was : IsAlone texts k.run r

    own_after : (u : RangeState) → ServesAt next_run s subject u → IsOwn u
    own_after u b =
        let e : after ≡ b.state = at_here b.cell b.state b.there b.runs in
        let found : range_of after.ranges subject ≡ Some u = ap (λ (z : ServerState). range_of z.ranges subject) e ∙ b.held in
        let new : ServesAnew texts k.run r (Some u) = subst (λ q. ServesAnew texts k.run r q) (sym left ∙ found) step.anew in
        record { generation = (own_range u found).1; was = new b.serves }

    before : (t : ℕ) → (t ≡ s → ⊥) → (u : RangeState) → ServesAt next_run t subject u → ServesAt x t subject u
    before t apart u b = record { cell = b.cell; state = b.state; there = there_before t apart b.cell b.there; runs = b.runs; held = b.held; serves = b.serves }

    not_both : (t : ℕ) → (t ≡ s → ⊥) → (u w : RangeState) → ServesAt next_run s subject u → ServesAt next_run t subject w → u.load.generation ≡ w.load.generation → ⊥
    not_both t apart u w one two same =
        let mine : IsOwn u = own_after u one in
        let theirs : ServesAt x t subject w = before t apart w two in
        let equal : g ≡ w.load.generation = sym mine.generation ∙ same in
        ⊎_elim {C = ⊥} (λ served. apart (k.own t s w r theirs (r_serves served) (sym equal)))
        (λ none. none (subst (λ z. IsServing k.run z) (sym equal) (shown_at k.run (with_stage (view_at subject x t) (kept_at taken x k t w theirs).split) w (kept_at taken x k t w theirs).range theirs.serves)))
        mine.was

    own_one : (a b : ℕ) (u w : RangeState) → ServesAt next_run a subject u → ServesAt next_run b subject w → u.load.generation ≡ w.load.generation → a ≡ b
    own_one a b u w one two same = elim (cases_eq a s) [
      | inl here_a ↦ elim (cases_eq b s) [
        | inl here_b ↦ here_a ∙ sym here_b
        | inr apart_b ↦ absurd (not_both b apart_b u w (subst (λ n. ServesAt next_run n subject u) here_a one) two same)
      ]
      | inr apart_a ↦ elim (cases_eq b s) [
        | inl here_b ↦ absurd (not_both a apart_a w u (subst (λ n. ServesAt next_run n subject w) here_b two) one (sym same))
        | inr apart_b ↦ k.own a b u w (before a apart_a u one) (before b apart_b w two) same
      ]
    ]

    -- ---- what is seen

    all_seen : (notes : List Note) → AreSeenAs texts next_run.notes notes → AreObserved texts subject step.next (taken.notes ++ only subject notes)
    all_seen notes seen =
        let b : SeenBoth texts y.notes o.notes notes = seen_both texts y.notes o.notes notes seen in
        let old : AreObserved texts subject k.run (taken.notes ++ only subject b.before) = k.seen b.before (subst (λ l. AreSeenAs texts l b.before) (actions_rest s subject g x actions).1 b.first_seen) in
        let new : AreObserved texts subject step.next ((taken.notes ++ only subject b.before) ++ without_gots b.later) = step.seen (taken.notes ++ only subject b.before) b.later old b.second_seen in
        let all : only subject notes ≡ only subject b.before ++ without_gots b.later = ap (only subject) b.is ∙ only_both subject b.before b.later ∙ ap (λ l. only subject b.before ++ l) (own_seen b.later b.second_seen) in
        subst (λ l. AreObserved texts subject step.next l) (append_assoc taken.notes (only subject b.before) (without_gots b.later) ∙ sym (ap (λ l. taken.notes ++ l) all)) new

    -- ---- what was loaded

    -- what this step adds to the run
    more : IsLonger k.run step.next
    more = goes_behind g k.run step.next step.goes

    abbrev own_part : Run
    own_part = more.0 ++ k.behind.0

    loaded_under : (h : ℕ) → HasLoad h k.behind.0 → HasLoad h own_part
    loaded_under h old = has_behind h more.0 k.behind.0 old

    own_loaded : (u : RangeState) → ServesAt next_run s subject u → HasLoad u.load.generation own_part
    own_loaded u b =
        let mine : IsOwn u = own_after u b in
        let e : after ≡ b.state = at_here b.cell b.state b.there b.runs in
        let now : HeldKept texts subject step.next (view_at subject next_run s) u (split_of after.splits subject) = (own_range u (ap (λ (z : ServerState). range_of z.ranges subject) e ∙ b.held)).0 in
        let shown : IsServing step.next g = subst (IsServing step.next) mine.generation (shown_at step.next (with_stage (view_at subject next_run s) now.split) u now.range b.serves) in
        let own : HasLoad g own_part = elim mine.was [
          | inl served ↦ loaded_under g (k.loaded s r (r_serves served))
          | inr none ↦ has_front g more.0 k.behind.0 (new_load g more.0 k.run (subst (λ z. IsServing z g) more.1 shown) none)
        ] in
        subst (λ h. HasLoad h own_part) (sym mine.generation) own

    all_loaded : (t : ℕ) (u : RangeState) → ServesAt next_run t subject u → HasLoad u.load.generation own_part
    all_loaded t u b = elim (cases_eq t s) [
      | inl same ↦ own_loaded u (subst (λ n. ServesAt next_run n subject u) same b)
      | inr apart ↦ loaded_under u.load.generation (k.loaded t u (before t apart u b))
    ]

    pub stepped_on : RunOn texts subject taken x k next_run
    stepped_on = record {
      kept = record {
        run = step.next;
        behind = (own_part, more.1 ∙ ap (λ z. more.0 ++ z) k.behind.1 ∙ sym (append_assoc more.0 k.behind.0 taken.run));
        ranges = all_ranges;
        own = own_one;
        loaded = all_loaded;
        streams = streams_same texts step.next (view_at subject next_run s) (view_at subject next_run 0) refl refl (subst (λ v. StreamsKept texts step.next v) (sym here) step.streams);
        seen = all_seen;
      };
      goes = more;
    }
