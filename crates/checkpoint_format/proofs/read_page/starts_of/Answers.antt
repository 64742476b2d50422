use Rattle.std.proofs.Common.{◌-◌, arith}
use Rattle.checkpoint_format.specs.Walk.{count_at, part_entry}
use Rattle.checkpoint_format.proofs.Walk.{begins, never_begins, damaged}
use Rattle.checkpoint_format.proofs.Starts.{begun, count_small, one_more, start_small}
use Rattle.checkpoint_format.proofs.read_page.starts_of.Goals as goal

pub returns-in_default : goal.returns-in_default
returns-in_default c =
    never_begins c.args.page.now (λ i. omega (arith, c.type_inv.page i)) (damaged c.in_default.field-0 (count_at c.args.page.now) c.in_default.ensures.fault c.in_default.ensures.read)

pub loop-init : goal.loop-init
loop-init c =
    let page = c.args.page.now in
    let read = begins page c.in-Ok.count c.in-Ok.rest.now (λ i. omega (arith, c.type_inv.page i)) c.in-Ok.ensures.read in
    record {
      begun = rw c.in_ok-starts.ensures.items (begun page c.in-Ok.rest.now (c.in-Ok.count - 0) read c.in-Ok.ensures.end);
      small = count_small page (c.in-Ok.count, c.in-Ok.rest.now) c.in-Ok.ensures.read;
      bytes = λ i. omega (arith, c.type_inv.page i);
    }

pub overflow_cast-start : goal.overflow_cast-start
overflow_cast-start c =
    let e = c.in-Ok-entry_above.entry in
    let i = c.loop.invariant in
    record { fits = omega (arith, start_small c.args.page.now c.loop.rest.now (part_entry e) e.after.now i.bytes i.begun.end i.small c.in-Ok-entry_above.ensures.entry) }

pub loop-preserved : goal.loop-preserved
loop-preserved c =
    let e = c.in-Ok-entry_above.entry in
    let h = c.in-Ok-entry_above.ensures in
    let more = one_more c.args.page.now c.loop.starts.items c.in-Ok.count c.loop.counter c.loop.last.now c.loop.rest.now (part_entry e) e.after.now c.loop.invariant.begun c.loop-test.true h.read h.entry h.end in
    record {
      begun = rw c.in_ok-push.ensures.items more;
      small = c.loop.invariant.small;
      bytes = c.loop.invariant.bytes;
    }
