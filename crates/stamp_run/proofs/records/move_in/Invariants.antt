use Rattle.std.proofs.Common.{◌≡◌, ◌++◌, ◌≤◌, ◌+◌, length, vec_len, vec_capacity}
use Rattle.std.specs.Vec.Iter.{into_iter_items}
use Rattle.stamp_run.proofs.records.move_in.Given as goal

abbrev pub invariant-loop-item : goal.invariant-loop-item
invariant-loop-item g l =
    (l.list.items ++ into_iter_items l.item-iterator ≡ l.fn.list.items ++ l.fn.more.items)
    × (vec_len l.list + length (into_iter_items l.item-iterator) ≤ vec_capacity l.list)
    × (vec_len l.list + length (into_iter_items l.item-iterator) ≡ vec_len l.fn.list + vec_len l.fn.more)
    × (vec_capacity l.list ≡ vec_capacity l.fn.list)
