use Rattle.std.proofs.Common.{◌≡◌, ◌-◌}
use Rattle.std.specs.Prelude.{is_some}
use Rattle.checkpoint_format.specs.Page.{entries_at}
use Rattle.checkpoint_format.proofs.Walk.{walk, has_entries}
use Rattle.checkpoint_format.proofs.page.is_page.Given as goal

abbrev pub invariant-loop : goal.invariant-loop
invariant-loop l = has_entries (walk (l.count - l.counter) l.last l.rest) ≡ is_some (entries_at l.bytes)
