use Rattle.std.proofs.Common.{◌∙◌, arith, sym}
use Rattle.std.proofs.lemmas.List.{length_push}
use Rattle.std.proofs.lemmas.Result.{err_from_is_err_and}
use Rattle.block_types.specs.Limits.{IsBlock}
use Rattle.blocks.specs.Format.{many_at}
use Rattle.blocks.specs.Reading.{block_at}
use Rattle.blocks.proofs.Loop.{goes_on, ends, All-push, all_compared-push}
use Rattle.blocks.proofs.reading.blocks_of.Goals as goal

pub returns-in_err-block-clause-read : goal.returns-in_err-block-clause-read
returns-in_err-block-clause-read c =
    let p = err_from_is_err_and c.from_residual.result c.from_residual.ensures.1 in
    rw (p.1, p.2) (ends (block_at c.args.version) c.in_err-block.field-0.0 c.loop.read.items c.args.count c.loop.counter c.loop.rest.now (many_at (block_at c.args.version) c.args.count c.args.bytes.now) c.loop-test.true c.in_err-block.ensures.read c.loop.invariant.read)

pub loop-preserved : goal.loop-preserved
loop-preserved c =
    let items = c.in_ok-push.ensures.items in
    let i = c.loop.invariant in
    rw items (record {
      read = goes_on (block_at c.args.version) c.loop.read.items c.args.count c.loop.counter c.loop.rest.now c.in_ok-block.block c.in_ok-block.after.now (many_at (block_at c.args.version) c.args.count c.args.bytes.now) c.loop-test.true c.in_ok-block.ensures.read i.read;
      kept = c.in_ok-block.ensures.kept ∙ (rw i.kept (sym (all_compared-push c.args.version c.loop.read.items c.in_ok-block.block)));
      count = omega (arith, i.count, length_push c.loop.read.items c.in_ok-block.block);
      fit = All-push IsBlock c.loop.read.items c.in_ok-block.block i.fit c.in_ok-block.ensures.fits;
      end = c.in_ok-block.ensures.end;
    })
