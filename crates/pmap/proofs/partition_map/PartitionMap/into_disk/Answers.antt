use Rattle.std.proofs.Common.{rules}
use Rattle.pmap.proofs.partition_map.PartitionMap.into_disk.Goals as goal

pub returns-clause-disk : goal.returns-clause-disk
returns-clause-disk g c = search rules

pub returns-clause-stands : goal.returns-clause-stands
returns-clause-stands g c = search rules
