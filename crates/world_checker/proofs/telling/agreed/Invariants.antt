use Rattle.std.specs.BTreeMap.{get}
use Rattle.std.specs.Ordering.{nat_cmp}
use Rattle.world_checker.specs.Checking.{ToldMeet}
use Rattle.world_checker.proofs.ToldOf.{AllNoted}
use Rattle.world_checker.proofs.telling.agreed.Given as goal

abbrev pub invariant-loop-place : goal.invariant-loop-place
invariant-loop-place l = record { noted : AllNoted l.notes l.place (get nat_cmp l.extents); meet : ToldMeet l.notes l.place }
