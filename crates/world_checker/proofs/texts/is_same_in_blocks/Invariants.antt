use Rattle.std.proofs.Common.{◌↔◌, drop}
use Rattle.std.specs.List.{AllByRecursion}
use Rattle.block_types.specs.Limits.{IsBlock}
use Rattle.replica.specs.Groups.{joined}
use Rattle.model_streams.specs.Honest.{SameWhereBoth}
use Rattle.world_checker.proofs.texts.is_same_in_blocks.Given as goal

abbrev pub invariant-loop-block : goal.invariant-loop-block
invariant-loop-block l = record {
  same : SameWhereBoth l.offset l.bytes l.other (joined l.blocks) ↔ SameWhereBoth l.offset l.bytes l.at (joined (drop l.block-index l.blocks));
  good : AllByRecursion IsBlock (drop l.block-index l.blocks);
}
