use Rattle.std.proofs.Common.{rules}
use Rattle.disk.proofs.memory.MemDisk.told.Goals as goal

pub returns : goal.returns
returns c = search rules
