use Rattle.std.proofs.Common.{rules}
use Rattle.replica.specs.State.{content_of}
use Rattle.enode_replica.proofs.Queued.{within_drop}
use Rattle.enode_replica.proofs.node_replica.NodeReplica.answer.Goals as goal

pub invariant_of-self : goal.invariant_of-self
invariant_of-self c = rw c.drop_first.ensures (within_drop (content_of c.self.inside.replica) c.args.count c.self.inside.waiting c.self.invariant)

pub returns : goal.returns
returns c = search rules
