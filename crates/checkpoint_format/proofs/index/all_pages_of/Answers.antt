use Rattle.std.proofs.lemmas.Result.{err_from_is_err_and}
use Rattle.blocks.specs.Format.{many_at}
use Rattle.blocks.proofs.Loop.{goes_on, ends}
use Rattle.checkpoint_format.specs.Index.{one_page_at}
use Rattle.checkpoint_format.proofs.index.all_pages_of.Goals as goal

pub returns-in_err-page : goal.returns-in_err-page
returns-in_err-page c =
    let p = err_from_is_err_and c.from_residual.result c.from_residual.ensures.1 in
    rw (p.1, p.2) (ends one_page_at c.in_err-page.field-0.0 c.loop.read.items c.args.count c.loop.counter c.loop.rest.now (many_at one_page_at c.args.count c.args.bytes.now) c.loop-test.true c.in_err-page.ensures c.loop.invariant)

pub loop-preserved : goal.loop-preserved
loop-preserved c =
    rw c.in_ok-push.ensures.items (goes_on one_page_at c.loop.read.items c.args.count c.loop.counter c.loop.rest.now c.in_ok-page.page c.in_ok-page.after.now (many_at one_page_at c.args.count c.args.bytes.now) c.loop-test.true c.in_ok-page.ensures c.loop.invariant)
