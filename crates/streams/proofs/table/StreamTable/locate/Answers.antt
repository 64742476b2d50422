use Rattle.std.proofs.Common.{rules}
use Rattle.streams.proofs.table.StreamTable.locate.Goals as goal

pub returns-in-Some-at : goal.returns-in-Some-at
returns-in-Some-at c = search rules
