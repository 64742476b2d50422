use Rattle.std.proofs.lemmas.Result.{err_from_is_err_and}
use Rattle.blocks.specs.Format.{many_at}
use Rattle.metadata.specs.Reading.{region_at}
use Rattle.blocks.proofs.Loop.{goes_on, ends}
use Rattle.metadata.proofs.reading.all_regions_of.Goals as goal

pub returns-in_err-region : goal.returns-in_err-region
returns-in_err-region c =
    let p = err_from_is_err_and c.from_residual.result c.from_residual.ensures.1 in
    rw (p.1, p.2) (ends region_at c.in_err-region.field-0.0 c.loop.read.items c.args.count c.loop.counter c.loop.rest.now (many_at region_at c.args.count c.args.bytes.now) c.loop-test.true c.in_err-region.ensures c.loop.invariant.read)

pub loop-preserved : goal.loop-preserved
loop-preserved c =
    let items = c.in_ok-push.ensures.items in
    rw items (record {
      read = goes_on region_at c.loop.read.items c.args.count c.loop.counter c.loop.rest.now c.in_ok-region.region c.in_ok-region.after.now (many_at region_at c.args.count c.args.bytes.now) c.loop-test.true c.in_ok-region.ensures c.loop.invariant.read;
    })
