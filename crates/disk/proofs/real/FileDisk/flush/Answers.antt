use Rattle.std.proofs.Common.{rules}
use Rattle.disk.proofs.real.FileDisk.flush.Goals as goal

pub returns-then-is_err-clause-answer : goal.returns-then-is_err-clause-answer
returns-then-is_err-clause-answer g c = search rules
