use Rattle.std.proofs.Common.{rules}
use Rattle.memtable.proofs.cell.Cell.size.Goals as goal

pub returns-in-Inline : goal.returns-in-Inline
returns-in-Inline c = search rules
