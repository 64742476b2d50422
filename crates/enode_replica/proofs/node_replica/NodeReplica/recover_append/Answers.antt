use Rattle.enode_replica.proofs.Queued.{within_put}
use Rattle.enode_replica.proofs.node_replica.NodeReplica.recover_append.Goals as goal

pub invariant_of-self : goal.invariant_of-self
invariant_of-self c = within_put _ _ c.args.group c.self.inside.waiting c.put.result c.put.ensures.ok c.put.ensures.refused c.self.invariant
