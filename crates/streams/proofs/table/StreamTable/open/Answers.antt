use Rattle.std.proofs.Common.{rules}
use Rattle.streams.proofs.table.StreamTable.open.Goals as goal

pub returns-in-Ok-clause-ok : goal.returns-in-Ok-clause-ok
returns-in-Ok-clause-ok c = search rules
