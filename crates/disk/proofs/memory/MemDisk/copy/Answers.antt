use Rattle.std.proofs.Common.{rules}
use Rattle.disk.proofs.memory.MemDisk.copy.Goals as goal

pub returns-clause-seen : goal.returns-clause-seen
returns-clause-seen c = search rules
