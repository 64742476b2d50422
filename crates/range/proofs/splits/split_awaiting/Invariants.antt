use Rattle.std.proofs.Common.{◌≡◌}
use Rattle.model_partition.specs.Server.{split_awaiting}
use Rattle.range.proofs.splits.split_awaiting.Given as goal

abbrev pub invariant-loop-range : goal.invariant-loop-range
invariant-loop-range l = split_awaiting l.fn.splits.entries l.fn.request ≡ split_awaiting l.range-iterator l.fn.request
