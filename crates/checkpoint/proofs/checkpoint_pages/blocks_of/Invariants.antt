use Rattle.std.proofs.Common.{◌≡◌, take}
use Rattle.checkpoint.specs.PageGroups.{page_group}
use Rattle.checkpoint.proofs.checkpoint_pages.blocks_of.Given as goal

abbrev pub invariant-loop-page : goal.invariant-loop-page
invariant-loop-page l = l.blocks.items ≡ page_group (take l.page-index l.pages)
