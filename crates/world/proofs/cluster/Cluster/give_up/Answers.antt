use Rattle.std.proofs.Common.{subst, OnOk}
use Rattle.world.specs.Cluster.{ClusterState, ClusterSimulates}
use Rattle.model_streams.specs.declared.event.Event.TheVariants.{GiveUp}
use Rattle.world.proofs.ClusterSimulation.{if_ok, cluster_of, give_up_came, servers_stay}
use Rattle.world.proofs.cluster.Cluster.give_up.Goals as goal

pub returns-clause-ok : goal.returns-clause-ok
returns-clause-ok c =
    let was : ClusterState = cluster_of c.self.inside.stream_layer c.self.inside.servers c.self.inside.map in
    subst (λ (x : ClusterState). OnOk c.give_up.result (ClusterSimulates x (cluster_of c.give_up.new.self c.give_up.new.servers c.self.inside.map) (GiveUp c.args.server c.args.range c.args.pick.now))) c.self.view_is
    (if_ok c.give_up.result
    (λ h. servers_stay c.self.inside.stream_layer c.give_up.new.self c.self.inside.servers c.give_up.new.servers c.self.inside.map (GiveUp c.args.server c.args.range c.args.pick.now) c.give_up.ensures.servers_same
    (give_up_came was c.give_up.new.self c.give_up.new.servers.cells c.args.server c.args.range c.args.pick.now h)) c.give_up.ensures.ok)
