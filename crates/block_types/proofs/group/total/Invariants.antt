use Rattle.std.proofs.Common.{◌≡◌, ◌≤◌, ◌*◌, take, drop, length}
use Rattle.std.specs.List.{AllByRecursion}
use Rattle.block_types.specs.Limits.{IsBlock, group_size}
use Rattle.block_types.proofs.group.total.Given as goal

abbrev pub invariant-loop-block : goal.invariant-loop-block
invariant-loop-block l = record {
  value : l.size ≡ group_size (take l.block-index l.blocks);
  bound : l.size ≤ 65536 * l.block-index;
  few : length l.blocks ≤ 64;
  good : AllByRecursion IsBlock (drop l.block-index l.blocks);
}
