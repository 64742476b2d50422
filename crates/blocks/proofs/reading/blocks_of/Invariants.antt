use Rattle.std.proofs.Common.{◌≡◌, ◌-◌, length}
use Rattle.std.specs.List.{AllByRecursion}
use Rattle.block_types.specs.Limits.{IsBlock}
use Rattle.blocks.specs.Compared.{all_compared}
use Rattle.blocks.specs.Format.{IsEndOf, many_at}
use Rattle.blocks.specs.Reading.{block_at}
use Rattle.blocks.proofs.Loop.{with_front}
use Rattle.blocks.proofs.reading.blocks_of.Given as goal

abbrev pub invariant-loop : goal.invariant-loop
invariant-loop l = record {
  read : with_front l.read.items (many_at (block_at l.version) (l.count - l.counter) l.rest) ≡ many_at (block_at l.version) l.count l.bytes;
  kept : l.kept.items ≡ all_compared l.version l.read.items;
  count : length l.read.items ≡ l.counter;
  fit : AllByRecursion IsBlock l.read.items;
  end : IsEndOf l.rest l.text;
}
