use Rattle.std.proofs.Common.{◌≡◌, take, drop}
use Rattle.std.specs.List.{AllByRecursion}
use Rattle.checkpoint.specs.Lookup.{HasIndex}
use Rattle.model_partition.specs.Getting.{pages_of_key}
use Rattle.range_reads.proofs.usage.pages_of_key.Given as goal

abbrev pub invariant-loop-one : goal.invariant-loop-one
invariant-loop-one l = record {
  found : l.places.items ≡ pages_of_key (take l.one-index l.indexes) l.key;
  indexes : AllByRecursion HasIndex (drop l.one-index l.indexes);
}
