use Rattle.std.proofs.Common.{sym, arith, drop}
use Rattle.std.proofs.lemmas.List.{take_all, length-drop}
use Rattle.checkpoint.proofs.PageGroups.{none_behind}
use Rattle.checkpoint.proofs.checkpoint_pages.pages_behind.Goals as goal

pub returns-then-pages-gt-MAX_PAGES : goal.returns-then-pages-gt-MAX_PAGES
returns-then-pages-gt-MAX_PAGES c = take_all _ (drop 64 c.args.pages.now) (omega (arith, length-drop 64 c.args.pages.now))

pub returns-else-pages-gt-MAX_PAGES : goal.returns-else-pages-gt-MAX_PAGES
returns-else-pages-gt-MAX_PAGES c = sym (none_behind 64 c.args.pages.now (omega (arith, c.if-pages-gt-MAX_PAGES.false)))
