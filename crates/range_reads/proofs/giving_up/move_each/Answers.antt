use Rattle.std.proofs.Common.{[], ◌∷◌, List, length, map, ap, ◌∙◌, arith, length-append}
use Rattle.std.specs.Prelude.{option_to_list}
use Rattle.std.specs.List.{flat_map}
use Rattle.std.proofs.lemmas.List.{take_all}
use Rattle.model_partition.specs.declared.waiting.WaitingGet.{WaitingGet}
use Rattle.model_partition.specs.Getting.{gives_up_get}
use Rattle.range_reads.specs.Lookups.{seen}
use Rattle.range_reads.proofs.Moves.{next_get, next_packets, at_most_one}
use Rattle.range_reads.proofs.giving_up.move_each.Goals as goal

pub loop-get-preserved : goal.loop-get-preserved
loop-get-preserved c =
    let moved = c.in_ok-moved.moved in
    let packets = option_to_list moved.packet in
    record {
      gets = λ held r. next_get (gives_up_get c.args.asking.now.context.now (seen c.args.asking.now held r)) c.args.gets.now c.loop-get.get-index c.get-item.result moved.get packets c.loop-get.all.gets.items c.add.new.all.gets.items
          c.loop-get-test.true c.get-item.is (c.in_ok-moved.ensures held r) (c.loop-get.invariant.gets held r) c.in_ok-add.ensures.gets;
      packets = λ held r. next_packets (gives_up_get c.args.asking.now.context.now (seen c.args.asking.now held r)) c.args.gets.now c.loop-get.get-index c.get-item.result moved.get packets c.loop-get.all.packets.items c.add.new.all.packets.items
          c.loop-get-test.true c.get-item.is (c.in_ok-moved.ensures held r) (c.loop-get.invariant.packets held r) c.in_ok-add.ensures.packets;
      count = omega (arith, ap length c.in_ok-add.ensures.gets, length-append c.loop-get.all.gets.items (c.in_ok-moved.moved.get ∷ []), c.loop-get.invariant.count);
      bound = omega (arith, ap length c.in_ok-add.ensures.packets, length-append c.loop-get.all.packets.items (option_to_list c.in_ok-moved.moved.packet), at_most_one c.in_ok-moved.moved.packet, c.loop-get.invariant.bound);
    }

pub returns-clause-gets : goal.returns-clause-gets
returns-clause-gets c = λ held r.
    c.loop-get.invariant.gets held r
    ∙ ap (λ (l : List WaitingGet). map (λ (g : WaitingGet). (gives_up_get c.args.asking.now.context.now (seen c.args.asking.now held r) g).0) l) (take_all c.loop-get.get-index c.args.gets.now (omega (arith, c.loop-get-test.false)))

pub returns-clause-packets : goal.returns-clause-packets
returns-clause-packets c = λ held r.
    c.loop-get.invariant.packets held r
    ∙ ap (λ (l : List WaitingGet). flat_map (λ (g : WaitingGet). (gives_up_get c.args.asking.now.context.now (seen c.args.asking.now held r) g).1) l) (take_all c.loop-get.get-index c.args.gets.now (omega (arith, c.loop-get-test.false)))
