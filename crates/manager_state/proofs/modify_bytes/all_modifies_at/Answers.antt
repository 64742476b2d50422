use Rattle.std.proofs.lemmas.Result.{err_from_is_err_and}
use Rattle.blocks.specs.Format.{many_at}
use Rattle.model_streams.specs.RecordBytes.{modify_at}
use Rattle.blocks.proofs.Loop.{goes_on, ends}
use Rattle.manager_state.proofs.modify_bytes.all_modifies_at.Goals as goal

pub returns-in_err-one : goal.returns-in_err-one
returns-in_err-one c =
    let p = err_from_is_err_and c.from_residual.result c.from_residual.ensures.1 in
    rw (p.1, p.2) (ends modify_at c.in_err-one.field-0.0 c.loop.read.items c.args.count c.loop.counter c.loop.rest.now (many_at modify_at c.args.count c.args.bytes.now) c.loop-test.true c.in_err-one.ensures c.loop.invariant.read)

pub loop-preserved : goal.loop-preserved
loop-preserved c =
    let items = c.in_ok-push.ensures.items in
    rw items (record {
      read = goes_on modify_at c.loop.read.items c.args.count c.loop.counter c.loop.rest.now c.in_ok-one.one c.in_ok-one.after.now (many_at modify_at c.args.count c.args.bytes.now) c.loop-test.true c.in_ok-one.ensures c.loop.invariant.read;
    })
