use Rattle.std.proofs.Common.{◌≡◌}
use Rattle.model_partition.specs.Server.{merge_with}
use Rattle.range.proofs.merge_jobs.merge_with.Given as goal

abbrev pub invariant-loop-left : goal.invariant-loop-left
invariant-loop-left l = merge_with l.fn.merges.entries l.fn.range ≡ merge_with l.left-iterator l.fn.range
