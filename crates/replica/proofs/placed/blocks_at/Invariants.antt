use Rattle.std.proofs.Common.{◌≡◌, ◌<◌, ◌+◌, ◌*◌, ◌++◌, drop}
use Rattle.std.specs.List.{AllByRecursion}
use Rattle.block_types.specs.Limits.{IsBlock}
use Rattle.replica.specs.Spelled.{blocks_of}
use Rattle.replica.proofs.placed.blocks_at.Given as goal

abbrev pub invariant-loop-size : goal.invariant-loop-size
invariant-loop-size l = record {
  blocks : l.blocks.items ++ blocks_of (drop l.size-index l.sizes) (drop l.at l.text.bytes) ≡ blocks_of l.sizes (drop l.offset l.text.bytes);
  all : AllByRecursion IsBlock (blocks_of (drop l.size-index l.sizes) (drop l.at l.text.bytes));
  at : l.at < 4294967296 * (l.size-index + 1);
}
