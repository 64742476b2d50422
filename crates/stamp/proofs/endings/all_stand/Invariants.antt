use Rattle.std.proofs.Common.{◌≡◌, ◌<◌, ℕ, Some}
use Rattle.std.specs.Prelude.{slice_get}
use Rattle.stamp_traces.specs.Passes.{PassStands}
use Rattle.stamp_run.specs.Passes.{AreAnswers, RunPass}
use Rattle.stamp.proofs.endings.all_stand.Given as goal

abbrev pub invariant-loop-pass : goal.invariant-loop-pass
invariant-loop-pass g l = record {
  stand : (k : ℕ) (p : RunPass) → k < l.pass-index → slice_get l.passes k ≡ Some p → PassStands l.trace.journal.entries p.sight;
  answered : (k : ℕ) (p : RunPass) → k < l.pass-index → slice_get l.passes k ≡ Some p → AreAnswers l.trace.journal.entries p.answered;
}
