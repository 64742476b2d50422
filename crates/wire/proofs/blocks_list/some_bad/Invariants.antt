use Rattle.std.proofs.Common.{◌≡◌, take, drop}
use Rattle.std.specs.List.{AllByRecursion}
use Rattle.block_types.specs.Limits.{IsBlock}
use Rattle.wire.specs.Blocks.{has_bad_block}
use Rattle.wire.proofs.blocks_list.some_bad.Given as goal

abbrev pub invariant-loop-block : goal.invariant-loop-block
invariant-loop-block l = record {
  same : has_bad_block (drop l.block-index l.blocks) ≡ has_bad_block l.blocks;
  good : AllByRecursion IsBlock (take l.block-index l.blocks);
}
