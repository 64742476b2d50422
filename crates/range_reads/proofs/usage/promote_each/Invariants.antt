use Rattle.std.proofs.Common.{◌≡◌, drop}
use Rattle.model_partition.specs.Getting.{used_all}
use Rattle.range_reads.proofs.usage.promote_each.Given as goal

abbrev pub invariant-loop-place : goal.invariant-loop-place
invariant-loop-place l = used_all l.held (drop l.place-index l.places) ≡ used_all l.initial.held l.places
