use Rattle.std.proofs.Common.{rules, arith, sym, subst}
use Rattle.std.proofs.lemmas.Grind.{common_steps}
use Rattle.memtable.specs.Entries.{AreNumbered}
use Rattle.memtable.proofs.Entries.{numbered_insert}
use Rattle.memtable.proofs.layer.put_all.Goals as goal

-- the cell that was put has a number, too
pub loop-key-preserved : goal.loop-key-preserved
loop-key-preserved c = record {
  entries = grind (arith, common_steps);
  found = grind (arith, common_steps);
  size = grind (arith, common_steps);
  undos = grind (arith, common_steps);
  fits = grind (arith, common_steps);
  numbered = λ before.
      subst AreNumbered (sym c.in-Ok.ensures.entries) (numbered_insert c.of.result c.in-Some.cell c.loop-key.layer.entries c.in-Ok.ensures.numbered (c.loop-key.invariant.numbered before));
}

pub returns-in-Err-clause-err : goal.returns-in-Err-clause-err
returns-in-Err-clause-err c = search rules

pub returns-clause-entries : goal.returns-clause-entries
returns-clause-entries c = grind (arith, common_steps)

pub returns-clause-found : goal.returns-clause-found
returns-clause-found c = grind (arith, common_steps)
