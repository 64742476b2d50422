use Rattle.std.proofs.Common.{rules}
use Rattle.world_map.proofs.map_actor.MapActor.restart.Goals as goal

pub returns-in-Ok-restart-clause-ok : goal.returns-in-Ok-restart-clause-ok
returns-in-Ok-restart-clause-ok c = search rules
