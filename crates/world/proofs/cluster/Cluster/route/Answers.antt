use Rattle.std.proofs.Common.{◌≡◌, Some, subst, OnOk, slice_get}
use Rattle.wire.specs.declared.actor.ActorId.TheVariants.{Map}
use Rattle.model_streams.specs.declared.event.Event.TheVariants.{Deliver}
use Rattle.world.specs.Cluster.{ClusterState, ClusterSimulates, addressee_of}
use Rattle.world.proofs.ClusterSimulation.{if_ok, cluster_of, route_came_if}
use Rattle.world.proofs.cluster.Cluster.route.Goals as goal

pub returns-clause-ok : goal.returns-clause-ok
returns-clause-ok c =
    let was : ClusterState = cluster_of c.self.inside.stream_layer c.self.inside.servers c.self.inside.map in
    subst (λ (x : ClusterState). addressee_of (slice_get x.stream_layer.post c.args.number) ≡ Some Map →
    OnOk c.route.result (ClusterSimulates x (record was { stream_layer = c.route.new.self; map = c.route.new.map }) (Deliver c.args.number))) c.self.view_is
    (λ is. if_ok c.route.result (route_came_if was c.route.new.self c.route.new.map c.args.number is) c.route.ensures.ok) c.requires
