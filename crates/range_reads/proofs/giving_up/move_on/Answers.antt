use Rattle.std.proofs.Common.{◌-◌, length, Option, ap, ◌∙◌}
use Rattle.std.specs.Prelude.{slice_get, option_to_list}
use Rattle.model_partition.specs.declared.waiting.PlaceRead.{PlaceRead}
use Rattle.range_reads.specs.Lookups.{seen}
use Rattle.range_reads.specs.Moving.{last_asked}
use Rattle.range_reads.proofs.Moves.{moves}
use Rattle.range_reads.proofs.giving_up.move_on.Goals as goal

pub returns : goal.returns
returns c = λ held r.
    let g = c.args.get.now in
    let d = c.args.asking.now.context.now in
    let reads = c.in_ok-reads.ensures.reads in
    let last = c.in_ok-reads.ensures.last in
    let packets = c.asks_again-packet.ensures held r ∙ ap (λ (o : Option PlaceRead). last_asked c.args.asking.now.context.now (seen c.args.asking.now held r) o) last in
    moves d (seen c.args.asking.now held r) g (slice_get g.reads (length g.reads - 1)) c.in_ok-key.key c.in_ok-reads.field-0.reads.items (option_to_list c.asks_again-packet.result) c.in_ok-key.ensures.cases reads packets
