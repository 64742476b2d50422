use Rattle.std.proofs.Common.{◌≡◌, take}
use Rattle.block_types.proofs.group.Groups.copied.Given as goal

abbrev pub invariant-loop-group : goal.invariant-loop-group
invariant-loop-group l = l.copied.items ≡ take l.group-index l.groups
