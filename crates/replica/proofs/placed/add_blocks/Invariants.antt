use Rattle.std.proofs.Common.{◌≡◌, ◌+◌, ◌++◌, length, take, drop, vec_len, vec_capacity}
use Rattle.std.specs.List.{AllByRecursion}
use Rattle.block_types.specs.Limits.{IsBlock}
use Rattle.replica.specs.Groups.{joined}
use Rattle.replica.specs.Spelled.{block_sizes}
use Rattle.replica.proofs.placed.add_blocks.Given as goal

abbrev pub invariant-loop-block : goal.invariant-loop-block
invariant-loop-block l = record {
  bytes : l.text.bytes ≡ l.fn.text.bytes ++ joined (take l.block-index l.blocks);
  spare : l.text.spare + length (joined (take l.block-index l.blocks)) ≡ l.fn.text.spare;
  sizes : l.sizes.items ≡ l.fn.sizes.items ++ block_sizes (take l.block-index l.blocks);
  len : vec_len l.sizes ≡ vec_len l.fn.sizes + l.block-index;
  good : AllByRecursion IsBlock (drop l.block-index l.blocks);
  capacity : vec_capacity l.sizes ≡ vec_capacity l.fn.sizes;
}
