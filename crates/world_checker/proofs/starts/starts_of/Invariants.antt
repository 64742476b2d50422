use Rattle.std.proofs.Common.{◌≡◌, length}
use Rattle.world_checker.specs.Starts.{AreAllStarts}
use Rattle.world_checker.proofs.starts.starts_of.Given as goal

abbrev pub invariant-loop-note : goal.invariant-loop-note
invariant-loop-note l = record { counted : length l.starts.items ≡ l.note-index; starts : AreAllStarts l.notes l.starts.items }
