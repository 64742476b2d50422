use Rattle.pmap.proofs.ReplaysRecords.{performs_failed}
use Rattle.pmap.proofs.partition_map.PartitionMap.handle.Goals as goal

pub returns-in-Map-clause-failed : goal.returns-in-Map-clause-failed
returns-in-Map-clause-failed g c = performs_failed g.D.Disk.state _ _ _ c.take.result c.take.ensures.performed
