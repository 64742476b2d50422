use Rattle.std.proofs.Common.{rules}
use Rattle.enode_replica.proofs.Queued.{within_put}
use Rattle.enode_replica.proofs.node_replica.NodeReplica.put.Goals as goal

pub invariant_of-self : goal.invariant_of-self
invariant_of-self g c = within_put _ _ c.args.group.now c.self.inside.waiting c.add_group.result c.add_group.ensures.after c.add_group.ensures.same c.self.invariant

pub returns-clause-file : goal.returns-clause-file
returns-clause-file g c = search rules
