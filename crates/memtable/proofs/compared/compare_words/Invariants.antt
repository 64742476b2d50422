use Rattle.std.proofs.Common.{◌-◌, ◌+◌, ◌≤◌}
use Rattle.memtable.proofs.Words.{AreAlike}
use Rattle.memtable.proofs.compared.compare_words.Given as goal

abbrev pub invariant-loop-at : goal.invariant-loop-at
invariant-loop-at l = record {
  alike : AreAlike l.a l.b l.at;
  within : l.at ≤ l.last + 8;
}

abbrev pub decreases-loop-at : goal.decreases-loop-at
decreases-loop-at l = l.last - l.at
