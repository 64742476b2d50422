use Rattle.std.proofs.Common.{subst, OnOk}
use Rattle.world.specs.Cluster.{ClusterState, ClusterSimulates}
use Rattle.model_streams.specs.declared.event.Event.TheVariants.{Split}
use Rattle.world.proofs.ClusterSimulation.{if_ok, cluster_of, split_came, servers_stay}
use Rattle.world.proofs.cluster.Cluster.split.Goals as goal

pub returns-clause-ok : goal.returns-clause-ok
returns-clause-ok c =
    let was : ClusterState = cluster_of c.self.inside.stream_layer c.self.inside.servers c.self.inside.map in
    subst (λ (x : ClusterState). OnOk c.split.result (ClusterSimulates x (cluster_of c.split.new.self c.split.new.servers c.self.inside.map) (Split c.args.server c.args.range c.args.key.now))) c.self.view_is
    (if_ok c.split.result
    (λ h. servers_stay c.self.inside.stream_layer c.split.new.self c.self.inside.servers c.split.new.servers c.self.inside.map (Split c.args.server c.args.range c.args.key.now) c.split.ensures.servers_same
    (split_came was c.split.new.self c.split.new.servers.cells c.args.server c.args.range c.args.key.now h)) c.split.ensures.ok)
