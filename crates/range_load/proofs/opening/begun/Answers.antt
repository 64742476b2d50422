use Rattle.std.proofs.Common.{rules}
use Rattle.range_load.proofs.opening.begun.Goals as goal

pub returns-in-Ok : goal.returns-in-Ok
returns-in-Ok c = search rules
