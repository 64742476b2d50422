use Rattle.std.proofs.Common.{sym, subst, OnOk}
use Rattle.wire.specs.declared.actor.ActorId.{ActorId}
use Rattle.wire.specs.declared.actor.ActorId.TheVariants.{Server}
use Rattle.world.specs.Cluster.{ClusterState, ClusterSimulates, IsBelow}
use Rattle.model_streams.specs.declared.event.Event.TheVariants.{Restart}
use Rattle.world.proofs.ClusterSimulation.{if_ok, cluster_of, restart_came, restart_map_came, restart_server_came, servers_stay}
use Rattle.world.proofs.cluster.Cluster.restart.Goals as goal

pub returns-in-Node-clause-ok : goal.returns-in-Node-clause-ok
returns-in-Node-clause-ok c =
    let was : ClusterState = cluster_of c.self.inside.stream_layer c.self.inside.servers c.self.inside.map in
    subst (λ (x : ClusterState). OnOk c.restart-in-Node.result (ClusterSimulates x (record was { stream_layer = c.restart-in-Node.new.self }) (Restart c.args.actor))) c.self.view_is
    (if_ok c.restart-in-Node.result (restart_came was c.restart-in-Node.new.self c.args.actor (subst IsBelow (sym c.in-Node.is) tt)) c.restart-in-Node.ensures.ok)

pub returns-in-Manager-clause-ok : goal.returns-in-Manager-clause-ok
returns-in-Manager-clause-ok c =
    let was : ClusterState = cluster_of c.self.inside.stream_layer c.self.inside.servers c.self.inside.map in
    subst (λ (x : ClusterState). OnOk c.restart-in-Manager.result (ClusterSimulates x (record was { stream_layer = c.restart-in-Manager.new.self }) (Restart c.args.actor))) c.self.view_is
    (if_ok c.restart-in-Manager.result (restart_came was c.restart-in-Manager.new.self c.args.actor (subst IsBelow (sym c.in-Manager.is) tt)) c.restart-in-Manager.ensures.ok)

pub returns-in-Map-clause-ok : goal.returns-in-Map-clause-ok
returns-in-Map-clause-ok c =
    let was : ClusterState = cluster_of c.self.inside.stream_layer c.self.inside.servers c.self.inside.map in
    subst (λ (x : ClusterState). OnOk c.restart-in-Map.result (ClusterSimulates x (record was { map = c.restart-in-Map.new.self }) (Restart c.args.actor))) c.self.view_is
    (subst (λ (a : ActorId). OnOk c.restart-in-Map.result (ClusterSimulates was (record was { map = c.restart-in-Map.new.self }) (Restart a))) (sym c.in-Map.is)
    (if_ok c.restart-in-Map.result (restart_map_came was c.restart-in-Map.new.self) c.restart-in-Map.ensures.ok))

pub returns-in-Server-clause-ok : goal.returns-in-Server-clause-ok
returns-in-Server-clause-ok c =
    let was : ClusterState = cluster_of c.self.inside.stream_layer c.self.inside.servers c.self.inside.map in
    let event = Restart (Server c.in-Server.server) in
    subst (λ (x : ClusterState). ClusterSimulates x (cluster_of c.self.inside.stream_layer c.restart.new.self c.self.inside.map) (Restart c.args.actor)) c.self.view_is
    (subst (λ (a : ActorId). ClusterSimulates was (cluster_of c.self.inside.stream_layer c.restart.new.self c.self.inside.map) (Restart a)) (sym c.in-Server.is)
    (servers_stay c.self.inside.stream_layer c.self.inside.stream_layer c.self.inside.servers c.restart.new.self c.self.inside.map event c.restart.ensures.same
    (restart_server_came was c.restart.new.self.cells c.in-Server.server c.restart.ensures.starts)))
