use Rattle.std.proofs.Common.{◌≡◌}
use Rattle.model_partition.specs.Server.{merge_awaiting}
use Rattle.range.proofs.merge_jobs.merge_awaiting.Given as goal

abbrev pub invariant-loop-left : goal.invariant-loop-left
invariant-loop-left l = merge_awaiting l.fn.merges.entries l.fn.request ≡ merge_awaiting l.left-iterator l.fn.request
