use Rattle.std.proofs.Common.{◌≡◌, take}
use Rattle.world_copies.proofs.modifies.modifies.Given as goal

abbrev pub invariant-loop-modify : goal.invariant-loop-modify
invariant-loop-modify l = l.items.items ≡ take l.modify-index l.all
