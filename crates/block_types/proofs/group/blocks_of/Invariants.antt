use Rattle.std.proofs.Common.{◌≡◌, ◌++◌, false, length}
use Rattle.std.specs.Prelude.{nat_lt, ◌==◌, ◌||◌}
use Rattle.std.specs.List.{AllByRecursion, list_any}
use Rattle.std.specs.Vec.Iter.{into_iter_items}
use Rattle.block_types.specs.Limits.{IsBlock, texts_of}
use Rattle.block_types.proofs.group.blocks_of.Given as goal

abbrev pub invariant-loop-text : goal.invariant-loop-text
invariant-loop-text l = record {
  items : l.made.items ++ texts_of (into_iter_items l.text-iterator) ≡ texts_of l.fn.texts.items;
  fit : AllByRecursion IsBlock l.made.items;
  good : list_any (λ b. length b == 0 || nat_lt 65536 (length b)) (texts_of (into_iter_items l.text-iterator)) ≡ false;
}
