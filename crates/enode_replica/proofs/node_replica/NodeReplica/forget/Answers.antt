use Rattle.std.proofs.Common.{rules}
use Rattle.enode_replica.proofs.node_replica.NodeReplica.forget.Goals as goal

pub returns : goal.returns
returns c = search rules
