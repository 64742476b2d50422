use Rattle.std.proofs.Common.{rules}
use Rattle.memtable.proofs.mem_table.MemTable.get.Goals as goal

pub returns-in-Some-fixed : goal.returns-in-Some-fixed
returns-in-Some-fixed c = search rules
