use Rattle.std.proofs.Common.{◌≡◌, drop}
use Rattle.model_partition.specs.Getting.{read_at}
use Rattle.range_reads.proofs.awaited.read_of.Given as goal

abbrev pub invariant-loop-get : goal.invariant-loop-get
invariant-loop-get l = read_at (drop l.get-index l.gets) l.number ≡ read_at l.gets l.number
