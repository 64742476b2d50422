use Rattle.std.proofs.Common.{◌≡◌, take, map}
use Rattle.model_partition.specs.JoinedRanges.{cut_index}
use Rattle.range_merge.proofs.joined.all_cut.Given as goal

abbrev pub invariant-loop-one : goal.invariant-loop-one
invariant-loop-one l = l.made.items ≡ map (cut_index l.keys) (take l.one-index l.all)
