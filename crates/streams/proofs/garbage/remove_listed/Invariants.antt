use Rattle.std.proofs.Common.{◌≡◌, ℕ, ◌&&◌, not, take}
use Rattle.std.specs.BTreeSet.{contains}
use Rattle.std.specs.Ordering.{nat_cmp}
use Rattle.streams.specs.Garbage.{is_listed}
use Rattle.streams.proofs.garbage.remove_listed.Given as goal

abbrev pub invariant-loop-listed : goal.invariant-loop-listed
invariant-loop-listed l = (e : ℕ) → contains nat_cmp l.set e ≡ (contains nat_cmp l.initial.set e && not (is_listed (take l.listed-index l.entries.items) e))
