use Rattle.std.proofs.Common.{rules}
use Rattle.enode_replica.proofs.node_replica.NodeReplica.freeze.Goals as goal

pub returns-clause-file : goal.returns-clause-file
returns-clause-file g c = search rules
