use Rattle.std.proofs.Common.{◌≡◌, length}
use Rattle.stamp.proofs.stamp.cells.Given as goal

abbrev pub invariant-loop-number : goal.invariant-loop-number
invariant-loop-number g l = length l.cells.items ≡ l.number
