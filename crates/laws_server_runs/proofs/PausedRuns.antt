-- While a range is paused for its split nothing is out under its generation in its run, and nothing is noted.
use Rattle.std.proofs.Common.{◌≡◌, ℕ, Some, None, sym, ap, ◌∙◌, subst}
use Rattle.wire.specs.declared.streams.StreamKind.TheVariants as kinds
use Rattle.model_streams.specs.Maps.{entry_at}
use Rattle.model_partition.specs.declared.split_job.SplitJob.{SplitJob}
use Rattle.model_partition.specs.declared.split_job.SplitPhase.{SplitPhase}
use Rattle.model_partition.specs.declared.split_job.SplitPhase.TheVariants as phases
use Rattle.model_partition.specs.Past.{Bytes}
use Rattle.model_partition.specs.Range.{RangeState}
use Rattle.model_partition.specs.Server.{ServerState, range_of, split_of}
use Rattle.model_partition.specs.Servers.{ServerCell}
use Rattle.model_histories.specs.ServerRun.{ServerRun}
use Rattle.laws_loads.specs.RangeView.{RangeView, SplitStage, Free}
use Rattle.laws_tables.specs.Runs.{Run, Serving, first_beginning, held}
use Rattle.laws_server_runs.specs.CheckpointInvariant.{HoldsNone, HoldsCheckpoint, out_beside, parts_of}
use Rattle.laws_server_runs.specs.ChildInvariant.{IsDrained, SplitPhaseHolds, SplitHolds, HasNothingOut, IsPaused}
use Rattle.laws_server_runs.specs.RangeInvariant.{append_of, Matches, Serves}
use Rattle.laws_server_runs.specs.RunInvariant.{view_at, with_stage, PhaseKept, HeldKept, Taken, RunBehind}
use Rattle.laws_server_runs.proofs.ServedNotes.{serves_of}

free_when : (split : SplitStage) (job : SplitJob) (phase : SplitPhase) → IsPaused phase → PhaseKept split job phase → split ≡ Free
free_when split job (phases.Seal kind q) paused k = k
free_when split job (phases.Build q) paused k = k
free_when split job (phases.Keys out c) paused k = k
free_when split job (phases.Complete q) paused k = k
free_when split job (phases.Begin q) paused k = absurd paused
free_when split job phases.Checkpoint paused k = absurd paused
free_when split job phases.Queue paused k = absurd paused
free_when split job phases.Record paused k = absurd paused

pub drained_when : (r : RangeState) (job : SplitJob) (phase : SplitPhase) → IsPaused phase → SplitPhaseHolds r job phase → IsDrained r
drained_when r job (phases.Seal kind q) paused h = h
drained_when r job (phases.Build q) paused h = h
drained_when r job (phases.Keys out c) paused h = h.0
drained_when r job (phases.Complete q) paused h = h.0
drained_when r job (phases.Begin q) paused h = absurd paused
drained_when r job phases.Checkpoint paused h = absurd paused
drained_when r job phases.Queue paused h = absurd paused
drained_when r job phases.Record paused h = absurd paused

module _ (texts : ℕ → Bytes) (subject : ℕ) (run : Run) (v : RangeView) (r : RangeState) (job : SplitJob) (h : HeldKept texts subject run v r (Some job)) (holds : SplitHolds r job) (paused : IsPaused job.phase) where
  abbrev now : RangeView
  now = with_stage v h.split

  abbrev s : Serving
  s = held first_beginning run r.load.generation

  free : h.split ≡ Free
  free = free_when h.split job job.phase paused h.splits.1

  drained : IsDrained r
  drained = drained_when r job job.phase paused holds.phase

  serves : Serves texts run now r
  serves = serves_of texts subject run now r holds.serving h.range

  m : Matches texts now s r
  m = serves.matches

  none : HoldsNone (parts_of now s r)
  none = subst (HoldsCheckpoint texts (parts_of now s r)) drained.control m.checkpoint

  -- what its metadata says is what its records say
  pub paused_nothing : HasNothingOut run job.generation r.said
  paused_nothing = subst (λ g. HasNothingOut run g r.said) (sym holds.generation) (record {
    shown = serves.shown;
    out = m.out ∙ ap (append_of (v.history.append kinds.Log)) drained.out;
    noted = none.noted;
    record_out = subst (λ z. out_beside z s.record_out ≡ None) free none.record_out;
    says = m.said;
  })

-- at a server
pub paused_at : (texts : ℕ → Bytes) (subject : ℕ) (taken : Taken) (x : ServerRun) (kept : RunBehind texts subject taken x) (s : ℕ) (cell : ServerCell) (st : ServerState) → entry_at x.servers s ≡ Some cell → cell.state ≡ Some st →
    (r : RangeState) (job : SplitJob) → range_of st.ranges subject ≡ Some r → split_of st.splits subject ≡ Some job → SplitHolds r job → IsPaused job.phase → HasNothingOut kept.run job.generation r.said
paused_at texts subject taken x kept s cell st there up r job held_by split holds paused =
    paused_nothing texts subject kept.run (view_at subject x s) r job (subst (HeldKept texts subject kept.run (view_at subject x s) r) split (kept.ranges s cell st there up r held_by)) holds paused
