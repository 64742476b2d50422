use Rattle.std.proofs.Common.{arith, sym, subst}
use Rattle.std.specs.List.{AllByRecursion}
use Rattle.memtable.specs.Entries.{IsFit}
use Rattle.memtable.proofs.Entries.{fits_put}
use Rattle.memtable.proofs.cell_map.CellMap.put_beside.Goals as goal

-- the same, without what is counted beside
pub invariant_of-self-2 : goal.invariant_of-self-2
invariant_of-self-2 c = (
  omega (arith, c.in_ok-all.ensures.size, c.self.invariant.0),
  (subst (AllByRecursion IsFit) (sym c.in_ok-all.ensures.entries) (fits_put _ _ c.self.invariant.1.0 c.requires.fits), c.in_ok-all.ensures.numbered c.self.invariant.1.1),
)
