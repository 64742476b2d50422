-- A split that waited for its end at a server has closed its range since: whoever serves that under the generation of the split has it paused.
use Rattle.std.proofs.Common.{◌≡◌, ℕ, List, ◌∷◌, ◌++◌, sym, ap, ◌∙◌, subst, append_assoc}
use Rattle.std.proofs.lemmas.List.{append_cancel_right}
use Rattle.model_partition.specs.declared.split_job.SplitJob.{SplitJob}
use Rattle.model_partition.specs.declared.split_job.SplitPhase.{SplitPhase}
use Rattle.model_partition.specs.declared.split_job.SplitPhase.TheVariants as phases
use Rattle.model_partition.specs.Past.{Bytes}
use Rattle.model_partition.specs.Range.{RangeState}
use Rattle.model_histories.specs.ServerRun.{ServerRun, ServerEvent, Builds, run_of}
use Rattle.laws_server_runs.specs.BornRanges.{AllInOrder}
use Rattle.laws_server_runs.specs.ChildInvariant.{IsDrained, SplitPhaseHolds, IsCompleting, ChildAt, AreBornSo, ChildKept, IsBuiltBy}
use Rattle.laws_server_runs.specs.ClosedRanges.{HasPaused, SplitPlan, IsClosed}
use Rattle.laws_server_runs.specs.RangeInvariant.{IsLonger}
use Rattle.laws_server_runs.specs.RunInvariant.{HasLoad, Taken, RunBehind}
use Rattle.laws_server_runs.specs.StoodRanges.{plan_of, AsksBuild}
use Rattle.laws_server_runs.proofs.ChildTheorem.{all_children}
use Rattle.laws_server_runs.proofs.CompletedMoments.{IsBuiltSo, built_so}
use Rattle.laws_server_runs.proofs.ConfirmedLoads.{has_behind}
use Rattle.laws_server_runs.proofs.StoodRanges.{stood_after}

module _ (texts : ℕ → Bytes) (batch servers range child : ℕ) where
  abbrev run : List ServerEvent → ServerRun
  run events = run_of batch servers events

  -- whoever serves the range under the generation has it paused, and it was loaded under that
  pub record ClosedSince (events : List ServerEvent) (born : AreBornSo texts batch servers events) (order : AllInOrder texts batch servers events) (g : ℕ) : Type 0 where
    pub plan : SplitPlan
    pub closed : IsClosed plan range g (run events)
    pub loaded : HasLoad g (all_children texts batch servers events born order range).kept.behind.0

  -- the load is one of the range's own part still
  load_stays : (taken : Taken) (moment x : ServerRun) (old : RunBehind texts range taken moment) (now : RunBehind texts range taken x) (g : ℕ) → (goes : IsLonger old.run now.run) → HasLoad g old.behind.0 → HasLoad g now.behind.0
  load_stays taken moment x old now g goes load =
      subst (HasLoad g)
      (append_cancel_right (goes.0 ++ old.behind.0) now.behind.0 taken.run
      (append_assoc goes.0 old.behind.0 taken.run ∙ ap (λ z. goes.0 ++ z) (sym old.behind.1) ∙ sym goes.1 ∙ now.behind.1))
      (has_behind g goes.0 old.behind.0 load)

  closed_so : (after late early : List ServerEvent) (asks : AsksBuild (run early) range child) (born : AreBornSo texts batch servers (after ++ (late ++ Builds range child ∷ early))) (order : AllInOrder texts batch servers (after ++ (late ++ Builds range child ∷ early))) →
      ClosedSince (after ++ (late ++ Builds range child ∷ early)) born order asks.job.generation
  closed_so after late early asks born order =
      let x : ServerRun = run (after ++ (late ++ Builds range child ∷ early)) in
      let kept : ChildKept texts (IsBuiltBy (after ++ (late ++ Builds range child ∷ early))) range x = all_children texts batch servers (after ++ (late ++ Builds range child ∷ early)) born order range in
      let s = stood_after texts range child batch servers early asks after late born order in
      record { plan = plan_of asks.range asks.job; closed = s.closed; loaded = load_stays kept.taken (run early) x s.old kept.kept asks.job.generation s.goes s.loaded }

  pub closed_then : (server : ℕ) (events : List ServerEvent) (born : AreBornSo texts batch servers events) (order : AllInOrder texts batch servers events) (after until : List ServerEvent) (is : events ≡ after ++ until) (split : ChildAt (run until) server range child) →
      IsCompleting split.job.phase → ClosedSince events born order split.job.generation
  closed_then server events born order after until is split waits =
      let b : IsBuiltSo texts batch servers server range child events until split = built_so texts batch servers server range child events born order after until is split waits in
      let parts : events ≡ b.after ++ (b.late ++ Builds range child ∷ b.early) = b.is ∙ ap (λ l. b.after ++ l) b.until_is in
      subst (ClosedSince events born order) (sym b.same.generation)
      (subst (λ l. (one : AreBornSo texts batch servers l) (other : AllInOrder texts batch servers l) → ClosedSince l one other b.asks.job.generation) (sym parts) (closed_so b.after b.late b.early b.asks) born order)

-- a range that its split has paused is paused
pub drained : (r : RangeState) (job : SplitJob) (phase : SplitPhase) → HasPaused phase → SplitPhaseHolds r job phase → IsDrained r
drained r job phases.Record paused h = h
drained r job (phases.Seal kind q) paused h = h
drained r job (phases.Build q) paused h = h
drained r job (phases.Keys out c) paused h = h.0
drained r job (phases.Complete q) paused h = h.0
drained r job (phases.Begin q) paused h = absurd paused
drained r job phases.Checkpoint paused h = absurd paused
drained r job phases.Queue paused h = absurd paused
