use Rattle.std.proofs.Common.{ap, rules}
use Rattle.model_partition.specs.Replay.{map_fits}
use Rattle.world_map.proofs.map_actor.MapActor.start.Goals as goal

pub unreachable-requires-in-Err-restart : goal.unreachable-requires-in-Err-restart
unreachable-requires-in-Err-restart c =
    let undamaged = c.in-Err-restart.ensures.damaged c.in-Ok.file.version c.in-Ok.file.records c.into_disk.ensures.stands (ap map_fits c.in-Ok.ensures.ok.2) in
    search rules

pub returns-in-Ok-restart : goal.returns-in-Ok-restart
returns-in-Ok-restart c = search rules
