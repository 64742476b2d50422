use Rattle.std.proofs.Common.{◌+◌, List, map, drop, sym, ap, ◌∙◌}
use Rattle.model_partition.specs.declared.waiting.WaitingGet.{WaitingGet}
use Rattle.model_partition.specs.Getting.{try_all, without}
use Rattle.range_reads.specs.Looking.{view_content}
use Rattle.range_reads.specs.Lookups.{seen}
use Rattle.range_reads.proofs.Tries.{with_done, goes_on, next_try, counted_on, no_more, all_tried}
use Rattle.range_reads.proofs.trying.try_each.Goals as goal

pub loop-get-preserved : goal.loop-get-preserved
loop-get-preserved c =
    let d = c.args.asking.now.context.now in
    let tries = c.loop-get.tries in
    let after = c.take_in.new.tries in
    let told = c.in_ok-take_in.ensures in
    let gets = c.args.gets.now in
    record {
      value = λ r.
          let s = seen c.args.asking.now (view_content c.args.view.now) r in
          goes_on d s tries.count c.in_ok-left.left (map (without c.args.answered.now) (drop (c.loop-get.get-index + 1) gets)) c.in_ok-one.one tries.waiting.items after.waiting.items tries.packets.items after.packets.items tries.notes.items after.notes.items after.count
          (c.in_ok-one.ensures.value r) told.waiting told.count told.packets told.notes
          ∙ ap (λ (l : List WaitingGet). with_done c.loop-get.tries.waiting.items c.loop-get.tries.packets.items c.loop-get.tries.notes.items (try_all (record c.args.asking.now.context.now { count = c.loop-get.tries.count }) (seen c.args.asking.now (view_content c.args.view.now) r) l))
          (next_try c.args.answered.now gets c.loop-get.get-index c.get-item.result c.in_ok-left.left c.loop-get-test.true c.get-item.is c.in_ok-left.ensures)
          ∙ c.loop-get.invariant.value r;
      counted = counted_on d.count c.loop-get.get-index tries.count c.in_ok-one.one.count after.count c.loop-get.invariant.counted c.in_ok-one.ensures.bound told.count;
      waiting = no_more c.loop-get.get-index c.in_ok-one.one.waiting tries.waiting.items after.waiting.items c.loop-get.invariant.waiting told.waiting;
      packets = no_more c.loop-get.get-index c.in_ok-one.one.packet tries.packets.items after.packets.items c.loop-get.invariant.packets told.packets;
      notes = no_more c.loop-get.get-index c.in_ok-one.one.note tries.notes.items after.notes.items c.loop-get.invariant.notes told.notes;
    }

pub returns-clause-value : goal.returns-clause-value
returns-clause-value c = λ r.
    let d = c.args.asking.now.context.now in
    let s = seen c.args.asking.now (view_content c.args.view.now) r in
    sym (c.loop-get.invariant.value r) ∙ all_tried d s c.loop-get.tries.count c.args.answered.now c.args.gets.now c.loop-get.get-index c.loop-get.tries.waiting.items c.loop-get.tries.packets.items c.loop-get.tries.notes.items c.loop-get-test.false
