use Rattle.std.proofs.Common.{rules}
use Rattle.pmap.proofs.partition_map.PartitionMap.is_stopped.Goals as goal

pub returns : goal.returns
returns c = search rules
