use Rattle.std.proofs.Common.{rules}
use Rattle.memtable.proofs.cell.entry_size.Goals as goal

pub returns : goal.returns
returns c = search rules
