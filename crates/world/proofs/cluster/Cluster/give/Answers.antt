use Rattle.std.proofs.Common.{◌≡◌, Some, subst, OnOk, slice_get}
use Rattle.wire.specs.declared.actor.ActorId.TheVariants.{Server}
use Rattle.model_streams.specs.declared.event.Event.TheVariants.{Deliver}
use Rattle.world.specs.Cluster.{ClusterState, ClusterSimulates, addressee_of}
use Rattle.world.proofs.ClusterSimulation.{if_ok, cluster_of, give_came_if, servers_stay}
use Rattle.world.proofs.cluster.Cluster.give.Goals as goal

pub returns-clause-ok : goal.returns-clause-ok
returns-clause-ok c =
    let was : ClusterState = cluster_of c.self.inside.stream_layer c.self.inside.servers c.self.inside.map in
    subst (λ (x : ClusterState). addressee_of (slice_get x.stream_layer.post c.args.number) ≡ Some (Server c.args.server) →
    OnOk c.give.result (ClusterSimulates x (cluster_of c.give.new.self c.give.new.servers c.self.inside.map) (Deliver c.args.number))) c.self.view_is
    (λ is. if_ok c.give.result
    (λ h. servers_stay c.self.inside.stream_layer c.give.new.self c.self.inside.servers c.give.new.servers c.self.inside.map (Deliver c.args.number) c.give.ensures.servers_same
    (give_came_if was c.give.new.self c.give.new.servers.cells c.args.number c.args.server is h)) c.give.ensures.ok) c.requires
