use Rattle.std.proofs.Common.{◌≡◌, ◌+◌, drop}
use Rattle.std.specs.List.{sum_by}
use Rattle.checkpoint_format.specs.Index.{page_at_size}
use Rattle.checkpoint_format.proofs.index.has_room.Given as goal

abbrev pub invariant-loop-page : goal.invariant-loop-page
invariant-loop-page l = sum_by page_at_size l.pages + l.left ≡ 4194295 + sum_by page_at_size (drop l.page-index l.pages)
