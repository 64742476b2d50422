use Rattle.std.proofs.Common.{◌≤◌}
use Rattle.world_checker.specs.Checking.{MeetsFrom}
use Rattle.world_checker.proofs.search.meets_earlier.Given as goal

abbrev pub invariant-loop-below : goal.invariant-loop-below
invariant-loop-below l = record { within : l.below ≤ l.place; meets : MeetsFrom l.notes l.place l.below }

abbrev pub decreases-loop-below : goal.decreases-loop-below
decreases-loop-below l = l.below
