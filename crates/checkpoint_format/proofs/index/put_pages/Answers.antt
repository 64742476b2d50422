use Rattle.std.proofs.Common.{◌++◌, List, ap, sym, ◌∙◌, subst, append_assoc}
use Rattle.std.specs.List.{flat_map, AllByRecursion}
use Rattle.commitlog.proofs.Loop.{left_at}
use Rattle.checkpoint_format.specs.declared.index.PageAt.{PageAt}
use Rattle.checkpoint_format.specs.Index.{page_at_bytes, HasFirstKey}
use Rattle.checkpoint_format.proofs.index.put_pages.Goals as goal

pub put_page-requires : goal.put_page-requires
put_page-requires c =
    let left = left_at c.args.pages.now c.loop-page.page-index c.page-item.result c.loop-page-test.true c.page-item.is in
    (subst (AllByRecursion HasFirstKey) left c.loop-page.invariant.fits).0

pub loop-page-preserved : goal.loop-page-preserved
loop-page-preserved c =
    let left = left_at c.args.pages.now c.loop-page.page-index c.page-item.result c.loop-page-test.true c.page-item.is in
    record {
      text = rw c.in_ok-put_page.ensures (append_assoc c.loop-page.out.items (page_at_bytes c.page-item.result) _ ∙ sym (ap (λ (l : List PageAt). c.loop-page.out.items ++ flat_map page_at_bytes l) left) ∙ c.loop-page.invariant.text);
      fits = (subst (AllByRecursion HasFirstKey) left c.loop-page.invariant.fits).1;
    }
