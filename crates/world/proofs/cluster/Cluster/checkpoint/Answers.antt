use Rattle.std.proofs.Common.{subst, OnOk}
use Rattle.world.specs.Cluster.{ClusterState, ClusterSimulates}
use Rattle.model_streams.specs.declared.event.Event.TheVariants.{Checkpoint}
use Rattle.world.proofs.ClusterSimulation.{if_ok, cluster_of, checkpoint_came, servers_stay}
use Rattle.world.proofs.cluster.Cluster.checkpoint.Goals as goal

pub returns-clause-ok : goal.returns-clause-ok
returns-clause-ok c =
    let was : ClusterState = cluster_of c.self.inside.stream_layer c.self.inside.servers c.self.inside.map in
    subst (λ (x : ClusterState). OnOk c.checkpoint.result (ClusterSimulates x (cluster_of c.checkpoint.new.self c.checkpoint.new.servers c.self.inside.map) (Checkpoint c.args.server c.args.range c.args.combine))) c.self.view_is
    (if_ok c.checkpoint.result
    (λ h. servers_stay c.self.inside.stream_layer c.checkpoint.new.self c.self.inside.servers c.checkpoint.new.servers c.self.inside.map (Checkpoint c.args.server c.args.range c.args.combine) c.checkpoint.ensures.servers_same
    (checkpoint_came was c.checkpoint.new.self c.checkpoint.new.servers.cells c.args.server c.args.range c.args.combine h)) c.checkpoint.ensures.ok)
