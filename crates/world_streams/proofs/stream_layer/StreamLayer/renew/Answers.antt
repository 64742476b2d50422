use Rattle.std.proofs.Common.{◌≡◌, ◌++◌, ◌∙◌, List, [], ap, subst, sym}
use Rattle.wire.specs.declared.packet.Packet.{Packet}
use Rattle.model_partition.specs.Cluster.{renews}
use Rattle.world_map.specs.Seen.{MapSimulates}
use Rattle.world_steps.specs.ActorStep.{ActorStep}
use Rattle.world_streams.specs.StreamLayer.{StreamLayerState}
use Rattle.world_streams.proofs.ServerOutput.{map_called}
use Rattle.world_streams.proofs.stream_layer.StreamLayer.renew.Goals as goal

pub returns-clause-ok : goal.returns-clause-ok
returns-clause-ok c =
    let step : ActorStep = record { packets = c.step.inside.packets; notes = c.step.inside.notes; tables = c.step.inside.tables.items; refusal = c.step.inside.refusal } in
    let r : StreamLayerState = record { nodes = c.self.inside.nodes; manager = c.self.inside.manager; post = c.self.inside.post.items; notes = c.self.inside.notes.items } in
    let posts : c.move_in.new.list.items ≡ r.post ++ step.packets = c.move_in.ensures ∙ (λ i. c.make_room.ensures.same i ++ c.into_vec.ensures i) in
    rw (← c.self.view_is)
    (map_called r (record r { post = c.move_in.new.list.items }) step.packets (MapSimulates c.args.map.now c.renew.new.self (λ d. renews d c.args.range c.args.server c.args.until))
    (subst (λ (s : ActorStep). MapSimulates c.args.map.now c.renew.new.self (λ d. renews d c.args.range c.args.server c.args.until) s.packets []) (sym c.step.view_is) c.in_ok-step.ensures.ok)
    (ap (λ (l : List Packet). record r { post = l }) posts))
