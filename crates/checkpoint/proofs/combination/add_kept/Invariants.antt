use Rattle.std.proofs.Common.{◌≡◌, ◌++◌, ◌+◌, ◌≤◌, length, vec_len}
use Rattle.std.specs.Vec.{vec_capacity}
use Rattle.std.specs.Vec.Iter.{into_iter_items}
use Rattle.checkpoint.specs.Pages.{kept_within}
use Rattle.checkpoint.proofs.combination.add_kept.Given as goal

abbrev pub invariant-loop-key : goal.invariant-loop-key
invariant-loop-key l = record {
  added : l.changes.items ++ kept_within l.within l.keys (into_iter_items l.key-iterator) ≡ l.fn.changes.items ++ kept_within l.within l.keys l.fn.entries.items;
  room : vec_len l.changes + length (into_iter_items l.key-iterator) ≤ vec_capacity l.changes;
}
