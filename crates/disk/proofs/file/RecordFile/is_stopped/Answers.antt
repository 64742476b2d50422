use Rattle.std.proofs.Common.{rules}
use Rattle.disk.proofs.file.RecordFile.is_stopped.Goals as goal

pub returns : goal.returns
returns c = search rules
