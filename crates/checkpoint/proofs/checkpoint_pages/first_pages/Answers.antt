use Rattle.std.proofs.Common.{sym, arith}
use Rattle.std.proofs.lemmas.List.{take_all, length-take-le}
use Rattle.checkpoint.proofs.checkpoint_pages.first_pages.Goals as goal

pub slice_bounds-result-end : goal.slice_bounds-result-end
slice_bounds-result-end c = sym (length-take-le 64 c.args.pages.now (omega (arith, c.if-pages-gt-MAX_PAGES.true)))

pub returns-else-pages-gt-MAX_PAGES : goal.returns-else-pages-gt-MAX_PAGES
returns-else-pages-gt-MAX_PAGES c = sym (take_all 64 c.args.pages.now (omega (arith, c.if-pages-gt-MAX_PAGES.false)))
