use Rattle.std.proofs.Common.{rules}
use Rattle.enode.proofs.node.Node.replica.Goals as goal

pub returns-in-Some : goal.returns-in-Some
returns-in-Some g c = search rules
