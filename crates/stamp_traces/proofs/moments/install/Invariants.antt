use Rattle.std.proofs.Common.{◌≡◌, length, drop}
use Rattle.stamp_traces.specs.Moments.{with_tokens}
use Rattle.stamp_traces.proofs.moments.install.Given as goal

abbrev pub invariant-loop-i : goal.invariant-loop-i
invariant-loop-i g l = (with_tokens l.tokens.items (drop l.i l.steps) ≡ with_tokens l.initial.tokens.items l.steps) × (length l.tokens.items ≡ length l.initial.tokens.items)
