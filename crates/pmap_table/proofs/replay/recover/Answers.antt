use Rattle.std.proofs.Common.{rules}
use Rattle.pmap_table.proofs.replay.recover.Goals as goal

pub returns-clause-after : goal.returns-clause-after
returns-clause-after c = search rules
