use Rattle.std.proofs.Common.{◌≡◌, ◌∙◌, ◌++◌, ◌<◌, ap, length, refl, slice_index_or, subst, sym}
use Rattle.model_partition.specs.Servers.{server_takes}
use Rattle.world_servers.specs.Servers.{outcome}
use Rattle.world_steps.specs.ActorStep.{ActorStep}
use Rattle.world_streams.specs.StreamLayer.{StreamLayerState}
use Rattle.world_streams.proofs.ServerOutput.{took_packet}
use Rattle.world_streams.proofs.stream_layer.StreamLayer.give.Goals as goal

pub returns-clause-ok : goal.returns-clause-ok
returns-clause-ok c =
    let step : ActorStep = record { packets = c.step.inside.packets; notes = c.step.inside.notes; tables = c.step.inside.tables.items; refusal = c.step.inside.refusal } in
    rw (← c.self.view_is)
    (took_packet _ _ c.args.servers.now.cells c.give.new.servers.cells c.args.server c.args.number c.index.result.now step
    (subst (λ (r : StreamLayerState). c.args.number < length r.post) (sym c.self.view_is) c.requires)
    (c.index.ensures ∙ ap (λ l. slice_index_or l c.args.number c.index.result.now) c.make_room.ensures.same)
    (subst (λ (t : ActorStep). server_takes c.args.servers.now.cells c.args.server c.index.result.now ≡ outcome c.give.new.servers.cells t) (sym c.step.view_is) c.in_ok-taken.ensures.ok)
    refl refl (c.move_in.ensures ∙ (λ i. c.make_room.ensures.same i ++ c.into_vec.ensures i)) (cc (c.make_room-2.ensures.same, c.give.ensures.same)))
