use Rattle.std.proofs.Common.{◌≡◌, ◌+◌, drop}
use Rattle.checkpoint.specs.PageGroups.{pages_size}
use Rattle.checkpoint.proofs.checkpoint_pages.has_room.Given as goal

abbrev pub invariant-loop-page : goal.invariant-loop-page
invariant-loop-page l = pages_size l.pages + l.left ≡ l.room + pages_size (drop l.page-index l.pages)
