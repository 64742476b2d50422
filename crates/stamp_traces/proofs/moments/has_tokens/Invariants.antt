use Rattle.std.proofs.Common.{◌≡◌, ◌<◌, ℕ, Some}
use Rattle.std.specs.Prelude.{slice_get}
use Rattle.stamp_traces.specs.Shown.{IsTokenAt}
use Rattle.stamp_traces.proofs.moments.has_tokens.Given as goal

abbrev pub invariant-loop-i : goal.invariant-loop-i
invariant-loop-i g l = (k : ℕ) (s : _) → k < l.i → slice_get l.steps k ≡ Some s → IsTokenAt l.tokens s.number s.before
