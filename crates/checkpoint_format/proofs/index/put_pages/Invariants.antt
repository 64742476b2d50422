use Rattle.std.proofs.Common.{◌≡◌, ◌++◌, drop}
use Rattle.std.specs.List.{AllByRecursion, flat_map}
use Rattle.checkpoint_format.specs.Index.{page_at_bytes, HasFirstKey}
use Rattle.checkpoint_format.proofs.index.put_pages.Given as goal

abbrev pub invariant-loop-page : goal.invariant-loop-page
invariant-loop-page l = record {
  text : l.out.items ++ flat_map page_at_bytes (drop l.page-index l.pages) ≡ l.fn.out.items ++ flat_map page_at_bytes l.pages;
  fits : AllByRecursion HasFirstKey (drop l.page-index l.pages);
}
