use Rattle.std.proofs.Common.{rules}
use Rattle.range_load.proofs.confirming.serves.Goals as goal

pub returns-clause-ok : goal.returns-clause-ok
returns-clause-ok c = search rules
