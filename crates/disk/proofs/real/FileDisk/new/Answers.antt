use Rattle.std.proofs.Common.{rules}
use Rattle.disk.proofs.real.FileDisk.new.Goals as goal

pub returns : goal.returns
returns g c = search rules
