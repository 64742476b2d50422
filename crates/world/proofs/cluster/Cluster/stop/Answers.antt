use Rattle.std.proofs.Common.{sym, subst}
use Rattle.wire.specs.declared.actor.ActorId.{ActorId}
use Rattle.wire.specs.declared.actor.ActorId.TheVariants.{Server}
use Rattle.world.specs.Cluster.{ClusterState, ClusterSimulates, IsBelow}
use Rattle.model_streams.specs.declared.event.Event.TheVariants.{Stop}
use Rattle.world.proofs.ClusterSimulation.{cluster_of, stop_came, stop_map_came, stop_server_came, servers_stay}
use Rattle.world.proofs.cluster.Cluster.stop.Goals as goal

pub returns-in-Node : goal.returns-in-Node
returns-in-Node c =
    let was : ClusterState = cluster_of c.self.inside.stream_layer c.self.inside.servers c.self.inside.map in
    subst (λ (x : ClusterState). ClusterSimulates x (record was { stream_layer = c.stop-in-Node.new.self }) (Stop c.args.actor c.args.call c.args.keep)) c.self.view_is
    (stop_came was c.stop-in-Node.new.self c.args.actor c.args.call c.args.keep (subst IsBelow (sym c.in-Node.is) tt) c.stop-in-Node.ensures)

pub returns-in-Manager : goal.returns-in-Manager
returns-in-Manager c =
    let was : ClusterState = cluster_of c.self.inside.stream_layer c.self.inside.servers c.self.inside.map in
    subst (λ (x : ClusterState). ClusterSimulates x (record was { stream_layer = c.stop-in-Manager.new.self }) (Stop c.args.actor c.args.call c.args.keep)) c.self.view_is
    (stop_came was c.stop-in-Manager.new.self c.args.actor c.args.call c.args.keep (subst IsBelow (sym c.in-Manager.is) tt) c.stop-in-Manager.ensures)

pub returns-in-Map : goal.returns-in-Map
returns-in-Map c =
    let was : ClusterState = cluster_of c.self.inside.stream_layer c.self.inside.servers c.self.inside.map in
    subst (λ (x : ClusterState). ClusterSimulates x (record was { map = c.stop-in-Map.new.self }) (Stop c.args.actor c.args.call c.args.keep)) c.self.view_is
    (subst (λ (a : ActorId). ClusterSimulates was (record was { map = c.stop-in-Map.new.self }) (Stop a c.args.call c.args.keep)) (sym c.in-Map.is)
    (stop_map_came was c.stop-in-Map.new.self c.args.call c.args.keep c.stop-in-Map.ensures.stops))

pub returns-in-Server : goal.returns-in-Server
returns-in-Server c =
    let was : ClusterState = cluster_of c.self.inside.stream_layer c.self.inside.servers c.self.inside.map in
    let event = Stop (Server c.in-Server.server) c.args.call c.args.keep in
    subst (λ (x : ClusterState). ClusterSimulates x (cluster_of c.self.inside.stream_layer c.stop.new.self c.self.inside.map) (Stop c.args.actor c.args.call c.args.keep)) c.self.view_is
    (subst (λ (a : ActorId). ClusterSimulates was (cluster_of c.self.inside.stream_layer c.stop.new.self c.self.inside.map) (Stop a c.args.call c.args.keep)) (sym c.in-Server.is)
    (servers_stay c.self.inside.stream_layer c.self.inside.stream_layer c.self.inside.servers c.stop.new.self c.self.inside.map event c.stop.ensures.same
    (stop_server_came was c.stop.new.self.cells c.in-Server.server c.args.call c.args.keep c.stop.ensures.stops)))
