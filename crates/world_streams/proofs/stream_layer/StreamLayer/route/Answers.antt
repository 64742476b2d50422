use Rattle.std.proofs.Common.{◌≡◌, ◌++◌, ◌<◌, ◌∙◌, List, ap, length, slice_index_or, subst, sym}
use Rattle.wire.specs.declared.note.Note.{Note}
use Rattle.wire.specs.declared.packet.Packet.{Packet}
use Rattle.model_partition.specs.Cluster.{map_takes}
use Rattle.world_map.specs.Seen.{MapSimulates}
use Rattle.world_steps.specs.ActorStep.{ActorStep}
use Rattle.world_streams.specs.StreamLayer.{StreamLayerState}
use Rattle.world_streams.proofs.ServerOutput.{routed}
use Rattle.world_streams.proofs.stream_layer.StreamLayer.route.Goals as goal

pub returns-clause-ok : goal.returns-clause-ok
returns-clause-ok c =
    let step : ActorStep = record { packets = c.step.inside.packets; notes = c.step.inside.notes; tables = c.step.inside.tables.items; refusal = c.step.inside.refusal } in
    let r : StreamLayerState = record { nodes = c.self.inside.nodes; manager = c.self.inside.manager; post = c.self.inside.post.items; notes = c.self.inside.notes.items } in
    let posts : c.move_in.new.list.items ≡ r.post ++ step.packets = c.move_in.ensures ∙ (λ i. c.make_room.ensures.same i ++ c.into_vec.ensures i) in
    let shows : c.move_in-2.new.self.items ≡ r.notes ++ step.notes = c.move_in-2.ensures ∙ (λ i. c.make_room-2.ensures.same i ++ c.into_vec-2.ensures i) in
    rw (← c.self.view_is)
    (routed r (record r { post = c.move_in.new.list.items; notes = c.move_in-2.new.self.items }) c.args.number c.index.result.now step.packets step.notes (λ (p : Packet) (sent : List Packet) (shown : List Note). MapSimulates c.args.map.now c.give.new.self (λ d. map_takes d p) sent shown)
    (subst (λ (x : StreamLayerState). c.args.number < length x.post) (sym c.self.view_is) c.requires)
    (c.index.ensures ∙ ap (λ l. slice_index_or l c.args.number c.index.result.now) c.make_room.ensures.same)
    (subst (λ (s : ActorStep). MapSimulates c.args.map.now c.give.new.self (λ d. map_takes d c.index.result.now) s.packets s.notes) (sym c.step.view_is) c.in_ok-step.ensures.ok)
    (λ i. record r { post = posts i; notes = shows i }))
