use Rattle.std.proofs.Common.{◌≡◌, ◌++◌, take, drop}
use Rattle.std.specs.List.{AllByRecursion}
use Rattle.block_types.specs.Limits.{IsBlock}
use Rattle.range_replay.proofs.groups.feed_all.Given as goal

abbrev pub invariant-loop-block : goal.invariant-loop-block
invariant-loop-block l = record {
  fed : l.reader ≡ l.fn.reader ++ take l.block-index l.blocks;
  good : AllByRecursion IsBlock (drop l.block-index l.blocks);
}
