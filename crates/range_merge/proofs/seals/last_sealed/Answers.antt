use Rattle.std.proofs.Common.{List, ◌∷◌, [], ◌++◌, sym, ap, ◌∙◌}
use Rattle.wire.specs.declared.packet.Packet.{Packet}
use Rattle.model_partition.specs.Range.{RangeState}
use Rattle.range_merge.proofs.Sealing.{seals_on, sent}
use Rattle.range_merge.proofs.seals.last_sealed.Goals as goal

pub returns-clause-ok : goal.returns-clause-ok
returns-clause-ok c =
    let job = c.args.job.now in
    let side = c.args.sealed.now.side in
    let kind = c.args.sealed.now.kind in
    let length = c.args.sealed.now.length in
    let left : RangeState = c.seal_left.new.left in
    let right : RangeState = c.seal_right.new.right in
    let packet : Packet = c.seals_or_builds.result in
    let packets = c.push_reserved.ensures.items ∙ ap (λ (l : List Packet). l ++ packet ∷ []) c.in_ok-packets.ensures.items in
    seals_on c.args.context.now c.args.left.now c.args.right.now job c.seals_or_builds.new.job side kind c.args.sealed.now.extent length left right c.first_open_after-found.result packet
    (sym c.is_open_last.ensures ∙ c.if-not-is_open_last.false) c.seal_left.ensures c.seal_right.ensures c.first_open_after-found.ensures
    (c.seals_or_builds.ensures left right c.in_ok-streams.ensures)
    ∙ sent c.args.context.now left right c.seals_or_builds.new.job packet c.sends.result c.push_reserved.new.self.items c.sends.ensures packets
