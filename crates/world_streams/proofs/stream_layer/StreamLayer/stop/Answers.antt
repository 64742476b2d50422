use Rattle.std.proofs.Common.{sym, subst}
use Rattle.wire.specs.declared.actor.ActorId.{ActorId}
use Rattle.model_streams.specs.StreamSystem.{StreamSystem, stop}
use Rattle.world_steps.specs.ActorStep.{nothing}
use Rattle.world_manager.specs.Seen.{ManagerSimulates}
use Rattle.world_streams.specs.StreamLayer.{StreamLayerState, StreamLayerMirrors}
use Rattle.world_streams.proofs.EventSimulation.{state, manager_goes}
use Rattle.world_streams.proofs.stream_layer.StreamLayer.stop.Goals as goal

pub returns-in-Manager : goal.returns-in-Manager
returns-in-Manager c =
    let was : StreamLayerState = state c.self.inside.nodes c.self.inside.manager c.self.inside.post.items c.self.inside.notes.items in
    subst (λ (r : StreamLayerState). (w : StreamSystem) → StreamLayerMirrors r w → StreamLayerMirrors (record was { manager = c.stop-in-Manager.new.self }) (stop w c.args.actor c.args.call c.args.keep)) c.self.view_is
    (manager_goes was c.stop-in-Manager.new.self (λ w. stop w c.args.actor c.args.call c.args.keep)
    (subst (λ (a : ActorId). ManagerSimulates c.self.inside.manager c.stop-in-Manager.new.self (λ w. stop w a c.args.call c.args.keep) nothing) (sym c.in-Manager.is) c.stop-in-Manager.ensures))
