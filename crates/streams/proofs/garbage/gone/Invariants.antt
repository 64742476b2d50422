use Rattle.std.proofs.Common.{◌≡◌, ℕ, take}
use Rattle.std.specs.BTreeSet.{contains}
use Rattle.std.specs.Ordering.{nat_cmp}
use Rattle.streams.specs.Garbage.{has_gone}
use Rattle.streams.proofs.garbage.gone.Given as goal

abbrev pub invariant-loop-listed : goal.invariant-loop-listed
invariant-loop-listed l = (e : ℕ) → contains nat_cmp l.set e ≡ has_gone (take l.listed-index l.entries.items) e
