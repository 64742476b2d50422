use Rattle.std.proofs.Common.{◌≡◌, take, map}
use Rattle.model_partition.specs.JoinedRanges.{closed_region}
use Rattle.range_merge.proofs.joined.all_closed.Given as goal

abbrev pub invariant-loop-one : goal.invariant-loop-one
invariant-loop-one l = l.made.items ≡ map (closed_region l.keys l.log l.first) (take l.one-index l.all)
