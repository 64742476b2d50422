use Rattle.std.proofs.Common.{◌++◌, ◌∙◌, List, ap, subst, arith, slice_index_or}
use Rattle.wire.specs.declared.note.Note.{Note}
use Rattle.wire.specs.declared.packet.Packet.{Packet}
use Rattle.model_streams.specs.declared.event.Event.TheVariants.{Deliver}
use Rattle.model_streams.specs.StreamSystem.{StreamSystem, happens}
use Rattle.world_steps.specs.ActorStep.{stream_step}
use Rattle.world_streams.specs.StreamLayer.{StreamLayerState, StreamLayerMirrors}
use Rattle.world_streams.proofs.EventSimulation.{state, undelivered, delivered_one}
use Rattle.world_streams.proofs.stream_layer.StreamLayer.deliver.Goals as goal

pub returns-then-number-len-clause-ok : goal.returns-then-number-len-clause-ok
returns-then-number-len-clause-ok c =
    subst (λ (r : StreamLayerState). (w : StreamSystem) → StreamLayerMirrors r w → StreamLayerMirrors r (happens w (Deliver c.args.number))) c.self.view_is
    (undelivered (state c.self.inside.nodes c.self.inside.manager c.self.inside.post.items c.self.inside.notes.items) c.args.number (omega (arith, c.self.inside.post.ok, c.len.ensures, c.if-number-len.true)))

pub returns-in-Ok-clause-ok : goal.returns-in-Ok-clause-ok
returns-in-Ok-clause-ok c =
    subst (λ (r : StreamLayerState). (w : StreamSystem) → StreamLayerMirrors r w → StreamLayerMirrors (state c.take.new.nodes c.take.new.manager c.move_step.new.post.items c.move_step.new.notes.items) (happens w (Deliver c.args.number))) c.self.view_is
    (delivered_one (state c.self.inside.nodes c.self.inside.manager c.self.inside.post.items c.self.inside.notes.items) (state c.take.new.nodes c.take.new.manager c.move_step.new.post.items c.move_step.new.notes.items)
    c.args.number c.index.result.now (stream_step c.take.new.step)
    (omega (arith, c.self.inside.post.ok, c.len.ensures, c.if-number-len.false))
    (c.index.ensures ∙ ap (λ l. slice_index_or l c.args.number c.index.result.now) c.make_room.ensures.same)
    c.in-Ok.ensures.ok
    (c.move_step.ensures.sent ∙ ap (λ (l : List Packet). l ++ c.take.new.step.packets) c.make_room.ensures.same)
    (c.move_step.ensures.shown ∙ ap (λ (l : List Note). l ++ c.take.new.step.notes) c.make_room-2.ensures.same))
