use Rattle.std.proofs.Common.{◌≡◌, ◌+◌, take, drop}
use Rattle.std.specs.List.{AllByRecursion}
use Rattle.block_types.specs.Limits.{IsGroup}
use Rattle.replica.specs.Groups.{text_length}
use Rattle.replica.proofs.kept.add_up.Given as goal

abbrev pub invariant-loop-group : goal.invariant-loop-group
invariant-loop-group l = record {
  sum : l.sum + text_length (drop l.group-index l.groups) ≡ l.left + text_length l.groups;
  each : AllByRecursion IsGroup (take l.group-index l.groups);
}
