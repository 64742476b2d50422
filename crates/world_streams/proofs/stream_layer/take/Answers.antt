use Rattle.std.proofs.lemmas.Result.{on_ok_weaker}
use Rattle.world_steps.specs.ActorStep.{stream_step}
use Rattle.world_streams.proofs.EventSimulation.{node_moved, moved_manager, moved_nowhere, to_map, to_server, to_user}
use Rattle.world_streams.proofs.stream_layer.take.Goals as goal

pub returns-in-Node-clause-ok : goal.returns-in-Node-clause-ok
returns-in-Node-clause-ok c = node_moved c.args.nodes.now c.give.new.self c.args.manager.now c.in-Node.number c.args.packet.now c.give.result (stream_step c.give.new.step) c.in-Node.is c.give.ensures.ok

pub returns-in-Manager-clause-ok : goal.returns-in-Manager-clause-ok
returns-in-Manager-clause-ok c =
    on_ok_weaker c.give_manager.result
    (λ h. moved_manager c.args.nodes.now c.args.manager.now c.give_manager.new.manager c.args.packet.now (stream_step c.give_manager.new.step) c.in-Manager.is h)
    c.give_manager.ensures.ok

pub returns-in-Map-clause-ok : goal.returns-in-Map-clause-ok
returns-in-Map-clause-ok c = rw c.requires (moved_nowhere c.args.nodes.now c.args.manager.now c.args.packet.now (to_map c.args.packet.now c.in-Map.is))

pub returns-in-Server-clause-ok : goal.returns-in-Server-clause-ok
returns-in-Server-clause-ok c = rw c.requires (moved_nowhere c.args.nodes.now c.args.manager.now c.args.packet.now (to_server c.args.packet.now c.in-Server.field-0 c.in-Server.is))

pub returns-in-User-clause-ok : goal.returns-in-User-clause-ok
returns-in-User-clause-ok c = rw c.requires (moved_nowhere c.args.nodes.now c.args.manager.now c.args.packet.now (to_user c.args.packet.now c.in-User.field-0 c.in-User.is))
