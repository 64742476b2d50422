use Rattle.world_checker.specs.Checking.{AllMeet}
use Rattle.world_checker.proofs.search.first_break.Given as goal

abbrev pub invariant-loop-place : goal.invariant-loop-place
invariant-loop-place l = AllMeet l.notes l.place
