use Rattle.std.proofs.Common.{◌≡◌, drop}
use Rattle.model_partition.specs.Loading.{said_after}
use Rattle.range_replay.proofs.reading.fold_groups.Given as goal

abbrev pub invariant-loop-group : goal.invariant-loop-group
invariant-loop-group l = said_after l.said (drop l.group-index l.groups) ≡ said_after l.fn.said l.groups
