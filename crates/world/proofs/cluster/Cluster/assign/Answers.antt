use Rattle.std.proofs.Common.{subst, OnOk}
use Rattle.model_streams.specs.declared.event.Event.TheVariants.{Assign}
use Rattle.world.specs.Cluster.{ClusterState, ClusterSimulates}
use Rattle.world.proofs.ClusterSimulation.{if_ok, cluster_of, assign_came}
use Rattle.world.proofs.cluster.Cluster.assign.Goals as goal

pub returns-clause-ok : goal.returns-clause-ok
returns-clause-ok c =
    let was : ClusterState = cluster_of c.self.inside.stream_layer c.self.inside.servers c.self.inside.map in
    subst (λ (x : ClusterState). OnOk c.assign.result (ClusterSimulates x (record was { stream_layer = c.assign.new.self; map = c.assign.new.map }) (Assign c.args.range c.args.server c.args.until))) c.self.view_is
    (if_ok c.assign.result (assign_came was c.assign.new.self c.assign.new.map c.args.range c.args.server c.args.until) c.assign.ensures.ok)
