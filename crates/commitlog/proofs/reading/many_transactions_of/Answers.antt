use Rattle.std.proofs.lemmas.Result.{err_from_is_err_and}
use Rattle.blocks.specs.Format.{many_at}
use Rattle.blocks.proofs.Loop.{goes_on, ends}
use Rattle.commitlog.specs.Reading.{transaction_at}
use Rattle.commitlog.proofs.reading.many_transactions_of.Goals as goal

pub returns-in_err-changes : goal.returns-in_err-changes
returns-in_err-changes c =
    let p = err_from_is_err_and c.from_residual.result c.from_residual.ensures.1 in
    rw (p.1, p.2) (ends transaction_at c.in_err-changes.field-0.0 c.loop.read.items c.args.count c.loop.counter c.loop.rest.now (many_at transaction_at c.args.count c.args.bytes.now) c.loop-test.true c.in_err-changes.ensures c.loop.invariant)

pub loop-preserved : goal.loop-preserved
loop-preserved c =
    rw c.in_ok-push.ensures.items (goes_on transaction_at c.loop.read.items c.args.count c.loop.counter c.loop.rest.now c.in_ok-changes.changes c.in_ok-changes.after.now (many_at transaction_at c.args.count c.args.bytes.now) c.loop-test.true c.in_ok-changes.ensures c.loop.invariant)
