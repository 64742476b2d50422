use Rattle.std.proofs.Common.{rules}
use Rattle.range_load.proofs.opening.begin_load.Goals as goal

-- src/opening.rt:141:5
pub returns-in-Ok-clause-content : goal.returns-in-Ok-clause-content
returns-in-Ok-clause-content c until = c.in-Ok.ensures c.args.range c.args.generation until (search rules)
