use Rattle.std.proofs.Common.{◌≡◌, ◌≤◌, ◌*◌, take}
use Rattle.block_types.specs.Limits.{groups_size}
use Rattle.script_reports.proofs.telling.size_of.Given as goal

abbrev pub invariant-loop-group : goal.invariant-loop-group
invariant-loop-group l = record {
  value : l.size ≡ groups_size (take l.group-index l.groups);
  bound : l.size ≤ 4194304 * l.group-index;
}
