use Rattle.std.proofs.Common.{rules}
use Rattle.disk.proofs.memory.MemDisk.stop_at.Goals as goal

pub returns-clause-told : goal.returns-clause-told
returns-clause-told c = search rules

pub returns-clause-same : goal.returns-clause-same
returns-clause-same c = search rules
