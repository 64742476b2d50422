use Rattle.std.proofs.Common.{subst, OnOk}
use Rattle.world.specs.Cluster.{ClusterState, ClusterSimulates}
use Rattle.model_streams.specs.declared.event.Event.TheVariants.{Submit}
use Rattle.world.proofs.ClusterSimulation.{if_ok, cluster_of, submit_came}
use Rattle.world.proofs.cluster.Cluster.submit_copy.Goals as goal

pub returns-clause-ok : goal.returns-clause-ok
returns-clause-ok c =
    let was : ClusterState = cluster_of c.self.inside.stream_layer c.self.inside.servers c.self.inside.map in
    subst (λ (x : ClusterState). OnOk c.submit_copy.result (ClusterSimulates x (record was { stream_layer = c.submit_copy.new.self }) (Submit c.args.user c.args.to c.args.body.now))) c.self.view_is
    (if_ok c.submit_copy.result (submit_came was c.submit_copy.new.self c.args.user c.args.to c.args.body.now) c.submit_copy.ensures.ok)
