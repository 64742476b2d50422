use Rattle.std.proofs.Common.{subst, OnOk, IfSome, slice_get}
use Rattle.model_streams.specs.declared.event.Event.TheVariants.{Deliver}
use Rattle.world.specs.Cluster.{ClusterState, ClusterSimulates, IsBelow, addressee_of}
use Rattle.world.proofs.ClusterSimulation.{if_ok, cluster_of, deliver_came, goes_below_them}
use Rattle.world.proofs.cluster.Cluster.pass_on.Goals as goal

pub returns-clause-ok : goal.returns-clause-ok
returns-clause-ok c =
    let was : ClusterState = cluster_of c.self.inside.stream_layer c.self.inside.servers c.self.inside.map in
    subst (λ (x : ClusterState). IfSome (addressee_of (slice_get x.stream_layer.post c.args.number)) IsBelow →
    OnOk c.deliver.result (ClusterSimulates x (record was { stream_layer = c.deliver.new.self }) (Deliver c.args.number))) c.self.view_is
    (λ is. if_ok c.deliver.result (deliver_came was c.deliver.new.self c.args.number (goes_below_them (slice_get was.stream_layer.post c.args.number) is)) c.deliver.ensures.ok) c.requires
