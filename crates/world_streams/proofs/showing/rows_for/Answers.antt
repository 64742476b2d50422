use Rattle.std.proofs.Common.{rules}
use Rattle.world_streams.proofs.showing.rows_for.Goals as goal

pub returns-in-Ok : goal.returns-in-Ok
returns-in-Ok c = search rules
