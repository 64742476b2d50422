use Rattle.std.proofs.Common.{subst, OnOk}
use Rattle.world.specs.Cluster.{ClusterState, ClusterSimulates}
use Rattle.model_streams.specs.declared.event.Event.TheVariants.{Merge}
use Rattle.world.proofs.ClusterSimulation.{if_ok, cluster_of, merge_came, servers_stay}
use Rattle.world.proofs.cluster.Cluster.merge.Goals as goal

pub returns-clause-ok : goal.returns-clause-ok
returns-clause-ok c =
    let was : ClusterState = cluster_of c.self.inside.stream_layer c.self.inside.servers c.self.inside.map in
    subst (λ (x : ClusterState). OnOk c.merge.result (ClusterSimulates x (cluster_of c.merge.new.self c.merge.new.servers c.self.inside.map) (Merge c.args.server c.args.left c.args.right))) c.self.view_is
    (if_ok c.merge.result
    (λ h. servers_stay c.self.inside.stream_layer c.merge.new.self c.self.inside.servers c.merge.new.servers c.self.inside.map (Merge c.args.server c.args.left c.args.right) c.merge.ensures.servers_same
    (merge_came was c.merge.new.self c.merge.new.servers.cells c.args.server c.args.left c.args.right h)) c.merge.ensures.ok)
