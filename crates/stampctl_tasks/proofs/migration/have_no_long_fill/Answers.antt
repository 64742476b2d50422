use Rattle.block_types.specs.declared.record.Version.TheVariants.{V2}
use Rattle.blocks.specs.Record.{Fits}
use Rattle.stampctl_tasks.proofs.EachLemmas.{next_done, next_left}
use Rattle.stampctl_tasks.proofs.migration.have_no_long_fill.Goals as goal

pub fits_all-requires : goal.fits_all-requires
fits_all-requires c =
    let left = c.loop-written.invariant.left in
    (left.0, (next_left (Fits left.0) c.args.records.now c.loop-written.written-index c.written-item.result c.written-item.is c.loop-written-test.true left.1).0)

pub loop-written-preserved : goal.loop-written-preserved
loop-written-preserved c =
    let left = c.loop-written.invariant.left in
    record {
      left = (left.0, (next_left (Fits left.0) c.args.records.now c.loop-written.written-index c.written-item.result c.written-item.is c.loop-written-test.true left.1).1);
      done = next_done (Fits V2) c.args.records.now c.loop-written.written-index c.written-item.result c.written-item.is c.loop-written-test.true (c.fits_all.ensures.fits c.if-not-fits_all.false V2) c.loop-written.invariant.done;
    }
