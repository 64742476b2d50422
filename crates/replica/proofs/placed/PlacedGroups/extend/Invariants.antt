use Rattle.std.proofs.Common.{◌≡◌, ◌++◌, take, drop}
use Rattle.replica.specs.Room.{HasRoom}
use Rattle.replica.proofs.placed.PlacedGroups.extend.Given as goal

abbrev pub invariant-loop-group : goal.invariant-loop-group
invariant-loop-group l = record {
  groups : l.self.groups ≡ l.fn.self.groups ++ take l.group-index l.groups;
  room : HasRoom l.self.room (drop l.group-index l.groups);
}
