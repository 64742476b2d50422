use Rattle.std.proofs.Common.{◌≡◌, ◌+◌, ◌++◌, drop}
use Rattle.checkpoint.specs.PageGroups as specs
use Rattle.checkpoint.proofs.checkpoint_pages.placed_pages.Given as goal

abbrev pub invariant-loop-page : goal.invariant-loop-page
invariant-loop-page l = record {
  placed : l.placed.items ++ specs.placed_pages l.extent l.at (drop l.page-index l.pages) ≡ specs.placed_pages l.extent l.offset l.pages;
  room : l.at + specs.pages_size (drop l.page-index l.pages) ≡ l.offset + specs.pages_size l.pages;
}
