use Rattle.std.proofs.Common.{◌≡◌, length, take}
use Rattle.replica.specs.Groups.{text_length}
use Rattle.world_checker.specs.Starts.{AreStarts}
use Rattle.world_checker.proofs.starts.starts_of_groups.Given as goal

abbrev pub invariant-loop-group : goal.invariant-loop-group
invariant-loop-group l = record {
  counted : length l.starts.items ≡ l.group-index;
  at : l.at ≡ text_length (take l.group-index l.groups);
  starts : AreStarts l.groups l.starts.items;
}
