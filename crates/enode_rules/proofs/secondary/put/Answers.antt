use Rattle.std.proofs.Common.{rules}
use Rattle.enode_rules.proofs.secondary.put.Goals as goal

pub returns : goal.returns
returns g c = search rules

pub returns-then-offset-length : goal.returns-then-offset-length
returns-then-offset-length g c = search rules
