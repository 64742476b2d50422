use Rattle.std.proofs.lemmas.Result.{err_from_is_err_and}
use Rattle.commitlog.specs.Reading.{each_of, change_of}
use Rattle.commitlog.proofs.Loop.{each_steps, each_stops}
use Rattle.commitlog.proofs.values.changes_of.Goals as goal

pub returns-in_err-change : goal.returns-in_err-change
returns-in_err-change c =
    let p = err_from_is_err_and c.from_residual-in_err-change.result c.from_residual-in_err-change.ensures.1 in
    rw (p.1, p.2) (each_stops (change_of c.args.total) c.in_err-change.field-0.0 c.loop-item.made.items c.loop-item.rest.now c.args.items.now c.loop-item.item-index c.item-item.result (each_of (change_of c.args.total) c.args.blocks.now c.args.items.now) c.loop-item-test.true c.item-item.is c.in_err-change.ensures c.loop-item.invariant)

pub loop-item-preserved : goal.loop-item-preserved
loop-item-preserved c =
    rw c.in_ok-push.ensures.items (each_steps (change_of c.args.total) c.loop-item.made.items c.loop-item.rest.now c.args.items.now c.loop-item.item-index c.item-item.result c.in_ok-change.change c.in_ok-change.after.now (each_of (change_of c.args.total) c.args.blocks.now c.args.items.now) c.loop-item-test.true c.item-item.is c.in_ok-change.ensures c.loop-item.invariant)
