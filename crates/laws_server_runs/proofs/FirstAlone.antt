-- Where the map assigns the first range alone, servers hold and show no other.
use Rattle.std.proofs.Common.{◌≡◌, ℕ, ◌-◌, List, [], ◌∷◌, ◌++◌, Option, Some, None, slice_set, refl, sym, ap, ◌∙◌, subst, inl, inr}
use Rattle.std.proofs.lemmas.Bool.{cases_eq}
use Rattle.wire.specs.declared.actor.ActorId.TheVariants as actors
use Rattle.wire.specs.declared.note.Note.{Note}
use Rattle.model_streams.specs.Maps.{entry_at}
use Rattle.model_partition.specs.declared.table_note.TableNote.{TableNote}
use Rattle.model_histories.specs.Log.{only, without_gots}
use Rattle.model_partition.specs.Past.{Bytes, first_range}
use Rattle.model_partition.specs.Range.{RangeState, RangeOutcome}
use Rattle.model_partition.specs.Server.{ServerState, ServerOutcome, range_of, set_range, new_range, split_of}
use Rattle.model_partition.specs.declared.split_job.SplitJob.{SplitJob}
use Rattle.model_partition.specs.Servers.{ServerCell}
use Rattle.model_histories.specs.ServerRun.{ServerRun, RangeEffect, ServerEvent, Takes, GivesUp, Checkpoints, Splits, Stops, Starts, Moment, Builds, run_of, after_event}
use Rattle.model_histories.specs.StreamActions.{StreamAction, PlacedBytes}
use Rattle.model_histories.specs.ServedTables.{IsOfFirst, IsFirst, AreFirst, AreSeenAs}
use Rattle.laws_loads.proofs.Entries.{entry_set, entry_other}
use Rattle.laws_loads.specs.RangeView.{view_after_all}
use Rattle.laws_server_runs.specs.Places.{NotesWithin, StepLaid, RunLaid}
use Rattle.laws_server_runs.specs.RunInvariant.{view_at}
use Rattle.laws_server_runs.specs.Turns.{IsStep, IsEffect, Own, None_done, OfOthers, Turn, Idles, Opens, Acts, outcome_of, IsOfServers, RunStep, Keeps, Passes, Turns}
use Rattle.laws_server_runs.proofs.Fronts.{SeenBoth, seen_both}
use Rattle.laws_server_runs.proofs.LaidRuns.{bare, all_laid, event_notes}
use Rattle.laws_server_runs.proofs.LaidSplits.{laid_step}
use Rattle.laws_server_runs.proofs.OwnNotes.{only_both, own_notes}
use Rattle.laws_server_runs.proofs.RangeLists.{inserted_other, left_other}
use Rattle.laws_server_runs.proofs.RunSteps.{IsAnyPair, AllAssigned, any_numbered, event_kind, event_step}
use Rattle.laws_server_runs.proofs.Unmerged.{unmerged}
use Rattle.laws_tables.proofs.WithoutGots.{without-append}

abbrev IsTheFirst : ℕ → Type 0
IsTheFirst range = range ≡ first_range

first_assigned : (event : ServerEvent) → IsFirst event → AllAssigned IsTheFirst event
first_assigned (Takes s p) first = λ range generation until from body. subst (λ b. IsOfFirst actors.Map b) body (subst (λ a. IsOfFirst a p.body) from first)
first_assigned (GivesUp s range pick) first = tt
first_assigned (Checkpoints s range combine) first = tt
first_assigned (Splits s range key) first = tt
first_assigned (Stops s call) first = tt
first_assigned (Starts s now batch) first = tt
first_assigned (Moment now) first = tt
first_assigned (Builds source range) first = tt

-- each range at a server is the first
abbrev HoldsFirst : List ServerCell → Type 0
HoldsFirst servers = (s : ℕ) (cell : ServerCell) (st : ServerState) → entry_at servers s ≡ Some cell → cell.state ≡ Some st → (k : ℕ) (r : RangeState) → range_of st.ranges k ≡ Some r → k ≡ first_range

-- and these observations are of it
abbrev AreOfFirst : List TableNote → Type 0
AreOfFirst notes = (g : ℕ) × (placed : List PlacedBytes) × NotesWithin first_range g placed notes

module _ (x : ServerRun) (laid : RunLaid x) (first : HoldsFirst x.servers) where
  module _ (s : ℕ) (cell : ServerCell) (st : ServerState) (at : entry_at x.servers s ≡ Some cell) (is : cell.state ≡ Some st) where
    one_first : (next : ServerState) → ((k : ℕ) (r : RangeState) → range_of next.ranges k ≡ Some r → k ≡ first_range) → HoldsFirst (slice_set x.servers (s - 1) (record cell { state = Some next }))
    one_first next mine t c q there up k r held = elim (cases_eq t s) [
      | inl same ↦
          (let both : Some (record cell { state = Some next }) ≡ Some c =
          sym (entry_set x.servers s cell (record cell { state = Some next }) at) ∙ subst (λ n. entry_at (slice_set x.servers (s - 1) (record cell { state = Some next })) n ≡ Some c) same there in
          let is_cell : record cell { state = Some next } ≡ c = cc in
          let state : Some next ≡ Some q = ap (λ (z : ServerCell). z.state) is_cell ∙ up in
          let e : next ≡ q = cc in
          mine k r (ap (λ (z : ServerState). range_of z.ranges k) e ∙ held))
      | inr other ↦ first t c q (sym (entry_other x.servers s cell (record cell { state = Some next }) at t other) ∙ there) up k r held
    ]

    effect_first : (range : ℕ) (r : RangeState) → range_of st.ranges range ≡ Some r → (job : Option SplitJob) (actions : List StreamAction) (o : RangeOutcome) (later : Option SplitJob) → IsStep IsAnyPair r job actions o later →
        (next : ServerState) → next.ranges ≡ set_range st.ranges range o.after → HoldsFirst (slice_set x.servers (s - 1) (record cell { state = Some next })) × AreOfFirst o.notes
    effect_first range r held job actions o later taken next left = (
      one_first next mine,
      (r.load.generation, (view_after_all r.load.generation (view_at range x s) actions).shown, subst (λ n. NotesWithin n r.load.generation (view_after_all r.load.generation (view_at range x s) actions).shown o.notes) is_first step.notes),
    )
      where
        is_first : range ≡ first_range
        is_first = first s cell st at is range r held

        step : StepLaid range (view_at range x s) r.load.generation actions o
        step = laid_step range (view_at range x s) r (laid.ranges s cell st at is range r held) IsAnyPair job actions o later taken

        mine : (k : ℕ) (z : RangeState) → range_of next.ranges k ≡ Some z → k ≡ first_range
        mine k z found = elim (cases_eq k range) [
          | inl same ↦ same ∙ is_first
          | inr other ↦ first s cell st at is k z (sym (left_other st.ranges range o.after k other) ∙ sym (ap (λ l. range_of l k) left) ∙ found)
        ]

    any_effect : (range : ℕ) (r : RangeState) → range_of st.ranges range ≡ Some r → (job : Option SplitJob) (e : RangeEffect) (o : RangeOutcome) (later : Option SplitJob) → IsEffect IsAnyPair range r job e o later →
        (next : ServerState) → next.ranges ≡ set_range st.ranges range o.after → HoldsFirst (slice_set x.servers (s - 1) (record cell { state = Some next })) × AreOfFirst o.notes
    any_effect range r held job e o later (Own own actions after left_job step unheard) next left = effect_first range r held job actions o later step next left
    any_effect range r held job e o later (None_done own after left_job step unheard) next left = effect_first range r held job [] o later step next left
    any_effect range r held job e o later (OfOthers split d body after left_job step heard) next left = effect_first range r held (Some split) [] o later step next left

    turn_first : (e : RangeEffect) (o : ServerOutcome) → Turn IsTheFirst IsAnyPair st e o → HoldsFirst (slice_set x.servers (s - 1) (record cell { state = Some o.after })) × AreOfFirst o.notes
    turn_first e o (Idles next packets same splits) = (one_first next (λ k r held. first s cell st at is k r (sym (ap (λ l. range_of l k) same) ∙ held)), (0, [], tt))
    turn_first e o (Opens range assigned d generation until next packets new splits) = (one_first next mine, (0, [], tt))
      where
        mine : (k : ℕ) (r : RangeState) → range_of next.ranges k ≡ Some r → k ≡ first_range
        mine k r held = elim (cases_eq k range) [
          | inl same ↦ same ∙ assigned
          | inr other ↦ first s cell st at is k r (sym (inserted_other st.ranges range (new_range d range generation until) k other) ∙ sym (ap (λ l. range_of l k) new) ∙ held)
        ]
    turn_first e o (Acts range r held effect ro later is_effect next packets left splits) = any_effect range r held (split_of st.splits range) effect ro later is_effect next left

  step_first : (notes : List TableNote) (y : ServerRun) → RunStep IsTheFirst IsAnyPair x notes y → HoldsFirst y.servers × AreOfFirst notes
  step_first notes y (Keeps servers packets like) = (
    λ t c q there up k r held. elim (like t c q there up) [
      | inl none ↦ absurd (let z : None ≡ Some r = sym (ap (λ l. range_of l k) none.0) ∙ held in cc)
      | inr old ↦ first t old.0 old.1 old.2 old.3 k r (sym (ap (λ l. range_of l k) old.4) ∙ held)
    ],
    (0, [], tt),
  )
  step_first notes y (Passes servers like) = (
    λ t c q there up k r held. elim (like t c q there up) [
      | inl none ↦ absurd (let z : None ≡ Some r = sym (ap (λ l. range_of l k) none.0) ∙ held in cc)
      | inr old ↦ first t old.0 old.1 old.2 old.3 k r (sym (ap (λ l. range_of l k) old.4) ∙ held)
    ],
    (0, [], tt),
  )
  step_first notes y (Turns s cell st at is e o turn) = turn_first s cell st at is e o turn

module _ (texts : ℕ → Bytes) (batch servers : ℕ) where
  -- so what is seen is of the first range alone
  record IsOfTheFirst (x : ServerRun) : Type 0 where
    holds : HoldsFirst x.servers
    seen : (notes : List Note) → AreSeenAs texts x.notes notes → only first_range notes ≡ without_gots notes

  one_taken : (event : ServerEvent) (earlier : List ServerEvent) → IsOfServers event → IsFirst event → IsOfTheFirst (run_of batch servers earlier) → IsOfTheFirst (run_of batch servers (event ∷ earlier))
  one_taken event earlier is first old = record { holds = step.0; seen = all }
    where
      x : ServerRun
      x = run_of batch servers earlier

      more : List TableNote
      more = (outcome_of x.servers event).notes

      step : HoldsFirst (after_event x event).servers × AreOfFirst more
      step = step_first x (all_laid batch servers earlier) old.holds more (after_event x event) (event_step IsTheFirst IsAnyPair x (unmerged batch servers earlier) event is (first_assigned event first) (any_numbered event))

      all : (notes : List Note) → AreSeenAs texts (after_event x event).notes notes → only first_range notes ≡ without_gots notes
      all notes seen =
          let b : SeenBoth texts x.notes more notes = seen_both texts x.notes more notes (subst (λ l. AreSeenAs texts l notes) (event_notes batch servers x event) seen) in
          ap (only first_range) b.is ∙ only_both first_range b.before b.later
          ∙ (λ i. old.seen b.before b.first_seen i ++ own_notes texts step.1.1 first_range step.1.0 more b.later step.1.2 b.second_seen i)
          ∙ sym (ap without_gots b.is ∙ without-append b.before b.later)

  one_more : (event : ServerEvent) (earlier : List ServerEvent) → IsFirst event → IsOfTheFirst (run_of batch servers earlier) → IsOfTheFirst (run_of batch servers (event ∷ earlier))
  one_more event earlier first old = elim (event_kind event) [
    | inl is ↦ one_taken event earlier is first old
    | inr build ↦ subst (λ e. IsOfTheFirst (after_event (run_of batch servers earlier) e)) (sym build.2) (record { holds = old.holds; seen = old.seen })
  ]

  none_yet : IsOfTheFirst (run_of batch servers [])
  none_yet = record {
    holds = λ s cell st at up k r held. absurd (let z : None ≡ Some r = sym (ap (λ l. range_of l k) (bare batch servers s cell st at up)) ∙ held in cc);
    seen = nothing;
  }
    where
      nothing : (notes : List Note) → AreSeenAs texts [] notes → only first_range notes ≡ without_gots notes
      nothing [] seen = refl
      nothing (note ∷ notes) seen = absurd seen

  of_first : (events : List ServerEvent) → AreFirst events → IsOfTheFirst (run_of batch servers events)
  of_first [] first = none_yet
  of_first (event ∷ earlier) first = one_more event earlier first.0 (of_first earlier first.1)

  pub only_first : (events : List ServerEvent) → AreFirst events → (notes : List Note) → AreSeenAs texts (run_of batch servers events).notes notes → only first_range notes ≡ without_gots notes
  only_first events first notes seen = (of_first events first).seen notes seen
