use Rattle.std.proofs.Common.{◌≤◌, ◌+◌, ◌-◌, length}
use Rattle.replica.specs.Ends.{binary_digits}
use Rattle.replica.proofs.Searching.{ended}
use Rattle.replica.proofs.ends.Ends.find.Given as goal

abbrev pub invariant-loop-low : goal.invariant-loop-low
invariant-loop-low l = record {
  low : l.low ≤ ended l.offset l.self.ends;
  high : ended l.offset l.self.ends ≤ l.high;
  within : l.high ≤ length l.self.ends;
  probes : l.probes + binary_digits (l.high - l.low) ≤ l.fn.probes + binary_digits (length l.self.ends);
}

abbrev pub decreases-loop-low : goal.decreases-loop-low
decreases-loop-low l = l.high - l.low
