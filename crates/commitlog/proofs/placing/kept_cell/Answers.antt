use Rattle.std.proofs.Common.{rules}
use Rattle.commitlog.proofs.placing.kept_cell.Goals as goal

pub returns-in_ok-clone-in-Some : goal.returns-in_ok-clone-in-Some
returns-in_ok-clone-in-Some c = search rules
