use Rattle.model_partition.proofs.Partitions.{once}
use Rattle.pmap.proofs.partition_map.PartitionMap.ranges.Goals as goal

pub returns-clause-once : goal.returns-clause-once
returns-clause-once g c = rw c.entries.ensures.value (once c.self.inside.table.map.ranges c.entries.ensures.sound.partition)
