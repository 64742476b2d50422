use Rattle.std.proofs.Common.{◌≡◌}
use Rattle.world_checker.specs.Acknowledged.{acknowledged}
use Rattle.world_checker.proofs.example.acknowledged.Given as goal

abbrev pub invariant-loop-number : goal.invariant-loop-number
invariant-loop-number l = l.notes ≡ acknowledged l.group l.number
