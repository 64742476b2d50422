use Rattle.std.proofs.Common.{◌≡◌, ℕ, ◌||◌, take}
use Rattle.std.specs.BTreeSet.{contains}
use Rattle.std.specs.Ordering.{nat_cmp}
use Rattle.streams.specs.Garbage.{has}
use Rattle.streams.proofs.garbage.add.Given as goal

abbrev pub invariant-loop-extent : goal.invariant-loop-extent
invariant-loop-extent l = (e : ℕ) → contains nat_cmp l.set e ≡ (contains nat_cmp l.initial.set e || has (take l.extent-index l.extents) e)
