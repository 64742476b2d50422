use Rattle.std.proofs.Common.{rules}
use Rattle.disk.proofs.file.RecordFile+MemDisk.copy_disk.Goals as goal

pub returns-clause-stands : goal.returns-clause-stands
returns-clause-stands c = search rules
