use Rattle.std.proofs.Common.{rules}
use Rattle.disk.proofs.memory.MemDisk.cancel_stop.Goals as goal

pub returns-clause-steady : goal.returns-clause-steady
returns-clause-steady c = search rules

pub returns-clause-same : goal.returns-clause-same
returns-clause-same c = search rules
