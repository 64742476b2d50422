use Rattle.std.proofs.Common.{◌≡◌, take, drop}
use Rattle.replica.proofs.placed.PlacedGroups.groups_between.Given as goal

abbrev pub invariant-loop-index : goal.invariant-loop-index
invariant-loop-index l = l.items.items ≡ drop l.from (take l.index l.self.groups)
