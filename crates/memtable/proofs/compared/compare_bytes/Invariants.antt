use Rattle.memtable.proofs.Words.{AreAlike}
use Rattle.memtable.proofs.compared.compare_bytes.Given as goal

abbrev pub invariant-loop-at : goal.invariant-loop-at
invariant-loop-at l = AreAlike l.a l.b l.at
