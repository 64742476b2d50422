use Rattle.std.proofs.Common.{rules}
use Rattle.enode_rules.proofs.appending.append.Goals as goal

pub returns-in-Some : goal.returns-in-Some
returns-in-Some g c = rw c.fill.ensures (search rules)
