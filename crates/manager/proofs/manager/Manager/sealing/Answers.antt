use Rattle.std.proofs.Common.{rules}
use Rattle.manager.proofs.manager.Manager.sealing.Goals as goal

pub returns-in-Some : goal.returns-in-Some
returns-in-Some g c = search rules
