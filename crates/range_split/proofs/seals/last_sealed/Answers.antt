use Rattle.std.proofs.Common.{List, ◌∷◌, [], ◌++◌, sym, ap, ◌∙◌}
use Rattle.wire.specs.declared.packet.Packet.{Packet}
use Rattle.model_partition.specs.Range.{RangeState}
use Rattle.range_split.proofs.Sealing.{seals_on, sent}
use Rattle.range_split.proofs.seals.last_sealed.Goals as goal

pub returns-clause-ok : goal.returns-clause-ok
returns-clause-ok c =
    let job = c.args.job.now in
    let kind = c.args.sealed.kind in
    let length = c.args.sealed.length in
    let after : RangeState = c.seal_last_of.new.state in
    let packet : Packet = c.seals_or_builds.result in
    let packets = c.push_reserved.ensures.items ∙ ap (λ (l : List Packet). l ++ packet ∷ []) c.in_ok-packets.ensures.items in
    seals_on c.args.context.now c.args.state.now job c.seals_or_builds.new.job kind c.args.sealed.extent length after c.first_open_after-found.result packet
    (sym c.is_open_last.ensures ∙ c.if-not-is_open_last.false) c.seal_last_of.ensures c.first_open_after-found.ensures (c.seals_or_builds.ensures after)
    ∙ sent c.args.context.now after c.seals_or_builds.new.job packet c.sends.result c.push_reserved.new.self.items c.sends.ensures packets
