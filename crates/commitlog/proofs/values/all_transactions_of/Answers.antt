use Rattle.std.proofs.Common.{length}
use Rattle.std.proofs.lemmas.Result.{err_from_is_err_and}
use Rattle.commitlog.specs.Reading.{each_of, changes_of}
use Rattle.commitlog.proofs.Loop.{each_steps, each_stops}
use Rattle.commitlog.proofs.values.all_transactions_of.Goals as goal

pub returns-in_err-changes : goal.returns-in_err-changes
returns-in_err-changes c =
    let total = length c.args.blocks.now in
    let p = err_from_is_err_and c.from_residual-in_err-changes.result c.from_residual-in_err-changes.ensures.1 in
    let h = rw (c.deref.ensures.value, c.item.view_is) at c.in_err-changes.ensures in
    rw (p.1, p.2) (each_stops (changes_of total) c.in_err-changes.field-0.0 c.loop-item.made.items c.loop-item.rest.now c.args.items.now c.loop-item.item-index c.item-item.result (each_of (changes_of total) c.args.blocks.now c.args.items.now) c.loop-item-test.true c.item-item.is h c.loop-item.invariant)

pub loop-item-preserved : goal.loop-item-preserved
loop-item-preserved c =
    let total = length c.args.blocks.now in
    let h = rw (c.deref.ensures.value, c.item.view_is) at c.in_ok-changes.ensures in
    rw (c.in_ok-push.ensures.items, c.in_ok-of.ensures) (each_steps (changes_of total) c.loop-item.made.items c.loop-item.rest.now c.args.items.now c.loop-item.item-index c.item-item.result c.in_ok-changes.changes.items c.in_ok-changes.after.now (each_of (changes_of total) c.args.blocks.now c.args.items.now) c.loop-item-test.true c.item-item.is h c.loop-item.invariant)
