use Rattle.std.proofs.lemmas.Result.{err_from_is_err_and}
use Rattle.blocks.specs.Format.{many_at}
use Rattle.metadata.specs.Reading.{index_at}
use Rattle.blocks.proofs.Loop.{goes_on, ends}
use Rattle.metadata.proofs.reading.all_indexes_of.Goals as goal

pub returns-in_err-index : goal.returns-in_err-index
returns-in_err-index c =
    let p = err_from_is_err_and c.from_residual.result c.from_residual.ensures.1 in
    rw (p.1, p.2) (ends index_at c.in_err-index.field-0.0 c.loop.read.items c.args.count c.loop.counter c.loop.rest.now (many_at index_at c.args.count c.args.bytes.now) c.loop-test.true c.in_err-index.ensures c.loop.invariant.read)

pub loop-preserved : goal.loop-preserved
loop-preserved c =
    let items = c.in_ok-push.ensures.items in
    rw items (record {
      read = goes_on index_at c.loop.read.items c.args.count c.loop.counter c.loop.rest.now c.in_ok-index.index c.in_ok-index.after.now (many_at index_at c.args.count c.args.bytes.now) c.loop-test.true c.in_ok-index.ensures c.loop.invariant.read;
    })
