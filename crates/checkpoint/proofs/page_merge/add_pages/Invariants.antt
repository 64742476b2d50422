use Rattle.std.proofs.Common.{◌≡◌, ◌++◌, drop}
use Rattle.checkpoint.specs.Merges.{pages_of_index, unmerged}
use Rattle.checkpoint.proofs.page_merge.add_pages.Given as goal

abbrev pub invariant-loop-page : goal.invariant-loop-page
invariant-loop-page l = l.left.items ++ unmerged l.one.keys (drop l.page-index l.page-items) ≡ l.fn.left.items ++ pages_of_index l.one
