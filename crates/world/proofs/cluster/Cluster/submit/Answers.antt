use Rattle.std.proofs.Common.{subst, OnOk}
use Rattle.world.specs.Cluster.{ClusterState, ClusterSimulates}
use Rattle.model_streams.specs.declared.event.Event.TheVariants.{Submit}
use Rattle.world.proofs.ClusterSimulation.{if_ok, cluster_of, submit_came}
use Rattle.world.proofs.cluster.Cluster.submit.Goals as goal

pub returns-clause-ok : goal.returns-clause-ok
returns-clause-ok c =
    let was : ClusterState = cluster_of c.self.inside.stream_layer c.self.inside.servers c.self.inside.map in
    subst (λ (x : ClusterState). OnOk c.submit.result (ClusterSimulates x (record was { stream_layer = c.submit.new.self }) (Submit c.args.user c.args.to c.args.body))) c.self.view_is
    (if_ok c.submit.result (submit_came was c.submit.new.self c.args.user c.args.to c.args.body) c.submit.ensures.ok)
