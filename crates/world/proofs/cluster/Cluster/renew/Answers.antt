use Rattle.std.proofs.Common.{subst, OnOk}
use Rattle.model_streams.specs.declared.event.Event.TheVariants.{Renew}
use Rattle.world.specs.Cluster.{ClusterState, ClusterSimulates}
use Rattle.world.proofs.ClusterSimulation.{if_ok, cluster_of, renew_came}
use Rattle.world.proofs.cluster.Cluster.renew.Goals as goal

pub returns-clause-ok : goal.returns-clause-ok
returns-clause-ok c =
    let was : ClusterState = cluster_of c.self.inside.stream_layer c.self.inside.servers c.self.inside.map in
    subst (λ (x : ClusterState). OnOk c.renew.result (ClusterSimulates x (record was { stream_layer = c.renew.new.self; map = c.renew.new.map }) (Renew c.args.range c.args.server c.args.until))) c.self.view_is
    (if_ok c.renew.result (renew_came was c.renew.new.self c.renew.new.map c.args.range c.args.server c.args.until) c.renew.ensures.ok)
