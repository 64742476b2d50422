use Rattle.std.proofs.Common.{rules}
use Rattle.disk.proofs.memory.MemDisk.new.Goals as goal

pub returns-clause-steady : goal.returns-clause-steady
returns-clause-steady c = search rules
