use Rattle.std.proofs.Common.{◌++◌, ◌∙◌, ap, refl, subst}
use Rattle.model_streams.specs.StreamSystem.{StreamSystem, manager_decides}
use Rattle.world_steps.specs.ActorStep.{ActorStep}
use Rattle.world_streams.specs.StreamLayer.{StreamLayerState, StreamLayerMirrors}
use Rattle.world_streams.proofs.EventSimulation.{state, decided_one}
use Rattle.world_streams.proofs.stream_layer.StreamLayer.decide.Goals as goal

pub returns-clause-ok : goal.returns-clause-ok
returns-clause-ok c =
    let was : StreamLayerState = state c.self.inside.nodes c.self.inside.manager c.self.inside.post.items c.self.inside.notes.items in
    let is : StreamLayerState = state c.self.inside.nodes c.decide.new.self c.move_in.new.list.items c.move_in-2.new.self.items in
    subst (λ (r : StreamLayerState). (w : StreamSystem) → StreamLayerMirrors r w → StreamLayerMirrors is (manager_decides w c.args.extent)) c.self.view_is
    (decided_one was is c.args.extent c.in_ok-step.step refl c.in_ok-step.ensures.ok
    (c.move_in.ensures ∙ (λ i. c.make_room.ensures.same i ++ (c.into_vec.ensures ∙ ap (λ (s : ActorStep). s.packets) c.step.view_is) i))
    (c.move_in-2.ensures ∙ (λ i. c.make_room-2.ensures.same i ++ (c.into_vec-2.ensures ∙ ap (λ (s : ActorStep). s.notes) c.step.view_is) i)))
