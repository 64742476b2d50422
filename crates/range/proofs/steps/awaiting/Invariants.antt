use Rattle.std.proofs.Common.{◌≡◌}
use Rattle.model_partition.specs.Server.{awaiting}
use Rattle.range.proofs.steps.awaiting.Given as goal

abbrev pub invariant-loop-range : goal.invariant-loop-range
invariant-loop-range l = awaiting l.fn.ranges.entries l.fn.request ≡ awaiting l.range-iterator l.fn.request
