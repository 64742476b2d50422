-- Whatever comes to servers, each of their splits is one of a range that is served, under its generation, and drained where it must be.
use Rattle.std.proofs.Common.{◌≡◌, ◌⊎◌, ℕ, ◌-◌, List, [], ◌∷◌, Option, Some, None, slice_set, refl, sym, ap, ◌∙◌, subst, inl, inr}
use Rattle.std.proofs.lemmas.Bool.{cases_eq}
use Rattle.model_streams.specs.Maps.{entry_at}
use Rattle.model_partition.specs.declared.split_job.SplitJob.{SplitJob}
use Rattle.model_partition.specs.declared.table_note.TableNote.{TableNote}
use Rattle.model_partition.specs.Range.{RangeState, RangeOutcome}
use Rattle.model_partition.specs.Server.{ServerState, ServerOutcome, range_of, new_range, split_of}
use Rattle.model_partition.specs.Servers.{ServerCell}
use Rattle.model_histories.specs.ServerRun.{ServerRun, RangeEffect, ServerEvent, after_event, first_run, run_of}
use Rattle.laws_server_runs.specs.ChildInvariant.{SplitHolds, SplitHoldsIf, SplitsHold}
use Rattle.laws_server_runs.specs.Places.{RunLaid}
use Rattle.laws_server_runs.specs.Turns.{IsEffect, Own, None_done, OfOthers, Turn, Idles, Opens, Acts, HoldNoMore, RunStep, Keeps, Passes, Turns, IsOfServers, outcome_of}
use Rattle.laws_server_runs.proofs.LaidRuns.{no_splits, all_laid}
use Rattle.laws_server_runs.proofs.RunSteps.{IsAny, IsAnyPair, IsBuild, any_assigned, any_numbered, event_kind, event_step}
use Rattle.laws_server_runs.proofs.SplitJobs.{step_holds}
use Rattle.laws_server_runs.proofs.TurnChanges.{ChangesOne, opened_one, acted_one, found_after}
use Rattle.laws_server_runs.proofs.Unmerged.{HaveNoMerges, unmerged}

-- ---- a step of all

module _ (x : ServerRun) (laid : RunLaid x) (old : SplitsHold x.servers) where
  module _ (s : ℕ) (cell : ServerCell) (st : ServerState) (at : entry_at x.servers s ≡ Some cell) (is : cell.state ≡ Some st) where
    -- at one server
    abbrev HereHold : ServerState → Type 0
    HereHold q = (k : ℕ) (r : RangeState) (job : SplitJob) → range_of q.ranges k ≡ Some r → split_of q.splits k ≡ Some job → SplitHolds r job

    pub here : (range : ℕ) (r : RangeState) → range_of st.ranges range ≡ Some r → (job : Option SplitJob) → split_of st.splits range ≡ job → SplitHoldsIf (Some r) job
    here range r held None split = tt
    here range r held (Some job) split = old s cell st at is range r job held split

    one_holds : (next : ServerState) → HereHold next → SplitsHold (slice_set x.servers (s - 1) (record cell { state = Some next }))
    one_holds next mine t c q there up = elim (found_after x.servers s cell at next t c q there up) [
      | inl same ↦ subst HereHold same.1 mine
      | inr other ↦ old t c q other.1 up
    ]

    both : (after : Option RangeState) (later : Option SplitJob) (r : RangeState) (job : SplitJob) → after ≡ Some r → later ≡ Some job → SplitHoldsIf after later → SplitHolds r job
    both None later r job a l h = absurd cc
    both (Some z) None r job a l h = absurd cc
    both (Some z) (Some other) r job a l h = let range_is : z ≡ r = cc in let job_is : other ≡ job = cc in subst (λ j. SplitHolds r j) job_is (subst (λ y. SplitHolds y other) range_is h)

    changed_hold : (next : ServerState) (range : ℕ) (after : Option RangeState) (later : Option SplitJob) → ChangesOne st next range after later → SplitHoldsIf after later → HereHold next
    changed_hold next range after later c h k r job held split = elim (cases_eq k range) [
      | inl same ↦
          both after later r job (sym c.range_here ∙ subst (λ n. range_of next.ranges n ≡ Some r) same held) (sym c.split_here ∙ subst (λ n. split_of next.splits n ≡ Some job) same split) h
      | inr other ↦ old s cell st at is k r job (sym (c.ranges k other) ∙ held) (sym (c.splits k other) ∙ split)
    ]

    effect_holds : (range : ℕ) (r : RangeState) → range_of st.ranges range ≡ Some r → (job : Option SplitJob) → split_of st.splits range ≡ job → (e : RangeEffect) (o : RangeOutcome) (later : Option SplitJob) → IsEffect IsAnyPair range r job e o later → SplitHoldsIf o.after later
    effect_holds range r held job split e o later (Own own actions after left_job step unheard) = step_holds r (laid.ranges s cell st at is range r held).confirmed IsAnyPair job actions o later step (here range r held job split)
    effect_holds range r held job split e o later (None_done own after left_job step unheard) = step_holds r (laid.ranges s cell st at is range r held).confirmed IsAnyPair job [] o later step (here range r held job split)
    effect_holds range r held job split e o later (OfOthers splitting d body after left_job step heard) =
        step_holds r (laid.ranges s cell st at is range r held).confirmed IsAnyPair (Some splitting) [] o later step (here range r held (Some splitting) split)

    turn_holds : (e : RangeEffect) (o : ServerOutcome) → Turn IsAny IsAnyPair st e o → SplitsHold (slice_set x.servers (s - 1) (record cell { state = Some o.after }))
    turn_holds e o (Idles next packets same splits) = one_holds next (λ k r job held split. old s cell st at is k r job (sym (ap (λ l. range_of l k) same) ∙ held) (sym (ap (λ l. split_of l k) splits) ∙ split))
    turn_holds e o (Opens range assigned d generation until next packets new splits) =
        one_holds next (changed_hold next range (Some (new_range d range generation until)) None (opened_one st next (laid.ascending s cell st at is) (laid.splits s cell st at is) range d generation until new splits) tt)
    turn_holds e o (Acts range r held effect ro later is_effect next packets left splits) =
        one_holds next
        (changed_hold next range ro.after later (acted_one st next (laid.ascending s cell st at is) (laid.splits s cell st at is) range r held ro.after later left splits)
        (effect_holds range r held (split_of st.splits range) refl effect ro later is_effect))

  held_so : (servers : List ServerCell) → HoldNoMore x.servers servers → SplitsHold servers
  held_so servers like t c q there up k r job held split = elim (like t c q there up) [
    | inl none ↦ absurd (let z : None ≡ Some r = sym (ap (λ l. range_of l k) none.0) ∙ held in cc)
    | inr was ↦ old t was.0 was.1 was.2 was.3 k r job (sym (ap (λ l. range_of l k) was.4) ∙ held) (sym (ap (λ l. split_of l k) was.5) ∙ split)
  ]

  pub splits_step : (notes : List TableNote) (y : ServerRun) → RunStep IsAny IsAnyPair x notes y → SplitsHold y.servers
  splits_step notes y (Keeps servers packets like) = held_so servers like
  splits_step notes y (Passes servers like) = held_so servers like
  splits_step notes y (Turns s cell st at is e o turn) = turn_holds s cell st at is e o turn

-- ---- whatever comes

first_hold : (batch servers : ℕ) → SplitsHold (first_run batch servers).servers
first_hold batch servers s cell st at up k r job held split = absurd (let z : None ≡ Some job = sym (ap (λ l. split_of l k) (no_splits batch servers s cell st at up)) ∙ split in cc)

event_holds : (x : ServerRun) → RunLaid x → HaveNoMerges x.servers → SplitsHold x.servers → (event : ServerEvent) → IsOfServers event ⊎ IsBuild event → SplitsHold (after_event x event).servers
event_holds x laid whole old event (inl is) =
    splits_step x laid old (outcome_of x.servers event).notes (after_event x event) (event_step IsAny IsAnyPair x whole event is (any_assigned event) (any_numbered event))
event_holds x laid whole old event (inr build) = subst (λ e. SplitsHold (after_event x e).servers) (sym build.2) old

pub splits_hold : (batch servers : ℕ) (events : List ServerEvent) → SplitsHold (run_of batch servers events).servers
splits_hold batch servers [] = first_hold batch servers
splits_hold batch servers (event ∷ earlier) =
    event_holds (run_of batch servers earlier) (all_laid batch servers earlier) (unmerged batch servers earlier) (splits_hold batch servers earlier) event (event_kind event)
