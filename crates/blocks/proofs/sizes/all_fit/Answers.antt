use Rattle.blocks.proofs.Lengths.{next_left, next_done, all_done}
use Rattle.blocks.proofs.sizes.all_fit.Goals as goal

pub fits_all-requires : goal.fits_all-requires
fits_all-requires c =
    let left = c.loop-written.invariant.left in
    (left.0, (next_left c.args.records.now c.loop-written.written-index c.written-item.result c.written-item.is c.loop-written-test.true left.0 left.1).0)

pub loop-written-preserved : goal.loop-written-preserved
loop-written-preserved c =
    let left = c.loop-written.invariant.left in
    record {
      left = (left.0, (next_left c.args.records.now c.loop-written.written-index c.written-item.result c.written-item.is c.loop-written-test.true left.0 left.1).1);
      done = λ v. next_done c.args.records.now c.loop-written.written-index c.written-item.result c.written-item.is c.loop-written-test.true v (c.fits_all.ensures.fits c.if-not-fits_all.false v) (c.loop-written.invariant.done v);
    }

pub returns : goal.returns
returns c = λ _ v. all_done c.args.records.now c.loop-written.written-index v c.loop-written-test.false (c.loop-written.invariant.done v)
