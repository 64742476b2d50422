use Rattle.std.proofs.Common.{sym, ap, arith}
use Rattle.checkpoint_format.specs.Page.{entries_at}
use Rattle.checkpoint_format.specs.Walk.{count_at, part_entry}
use Rattle.checkpoint_format.proofs.Walk.{has_entries, begins, never_begins, damaged, has_more, walk_goes_on}
use Rattle.checkpoint_format.proofs.page.is_page.Goals as goal

pub returns-in_default : goal.returns-in_default
returns-in_default c =
    let bytes = c.args.bytes.now in
    sym (ap has_entries (never_begins bytes (λ i. omega (arith, c.type_inv.bytes i)) (damaged c.in_default.field-0 (count_at bytes) c.in_default.ensures.fault c.in_default.ensures.read)))

pub loop-init : goal.loop-init
loop-init c = ap has_entries (begins c.args.bytes.now c.in-Ok.count c.in-Ok.rest.now (λ i. omega (arith, c.type_inv.bytes i)) c.in-Ok.ensures.read)

pub loop-preserved : goal.loop-preserved
loop-preserved c =
    let e = c.in-Ok-entry_above.entry in
    walk_goes_on c.in-Ok.count c.loop.counter c.loop.last.now c.loop.rest.now has_entries has_entries (has_entries (entries_at c.args.bytes.now)) (part_entry e) e.after.now c.loop-test.true c.in-Ok-entry_above.ensures.read (has_more (part_entry e)) c.loop.invariant
