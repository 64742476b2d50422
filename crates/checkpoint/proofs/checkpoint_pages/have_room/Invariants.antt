use Rattle.std.proofs.Common.{◌≡◌, ◌+◌, drop}
use Rattle.std.specs.List.{sum_by}
use Rattle.checkpoint.specs.PageGroups.{entry_size}
use Rattle.checkpoint.proofs.checkpoint_pages.have_room.Given as goal

abbrev pub invariant-loop-page : goal.invariant-loop-page
invariant-loop-page l = sum_by entry_size l.pages + l.left ≡ l.room + sum_by entry_size (drop l.page-index l.pages)
