use Rattle.std.proofs.Common.{◌≡◌, ℕ, ◌+◌, ◌<◌, List, [], ◌∷◌, ◌++◌, length, map, take, get_or, sym, ap, ◌∙◌}
use Rattle.std.proofs.lemmas.List.{map_more, take_all}
use Rattle.wire.specs.declared.packet.Packet.{Packet}
use Rattle.wire.specs.declared.refusal.Refusal.TheVariants as refusals
use Rattle.model_partition.specs.declared.waiting.WaitingGet.{WaitingGet}
use Rattle.model_partition.specs.Range.{refuses}
use Rattle.range_reads.proofs.awaited.refusals_of.Goals as goal

one_more : (told : WaitingGet → Packet) (gets : List WaitingGet) (i : ℕ) (get : WaitingGet) (packet : Packet) (before after : List Packet) → i < length gets → get ≡ get_or gets i get → packet ≡ told get
    → before ≡ map told (take i gets) → after ≡ before ++ packet ∷ [] → after ≡ map told (take (i + 1) gets)
one_more told gets i get packet before after lt is packet_is before_is after_is =
    after_is ∙ (λ j. before_is j ++ (packet_is ∙ ap told is) j ∷ []) ∙ sym (map_more told gets i get lt)

pub loop-get-preserved : goal.loop-get-preserved
loop-get-preserved c =
    one_more (λ g. refuses c.args.context.now g.from g.request refusals.NotOwner) c.args.gets.now c.loop-get.get-index c.get-item.result c.refuses.result c.loop-get.packets.items c.push.new.self.items
    c.loop-get-test.true c.get-item.is c.refuses.ensures c.loop-get.invariant c.in_ok-push.ensures.items

pub returns : goal.returns
returns c =
    c.loop-get.invariant ∙ ap (map (λ (g : WaitingGet). refuses c.args.context.now g.from g.request refusals.NotOwner)) (take_all c.loop-get.get-index c.args.gets.now c.loop-get-test.false)
