use Rattle.std.proofs.Common.{◌≡◌, ◌+◌, ◌++◌, drop}
use Rattle.model_partition.specs.Serving.{dones}
use Rattle.range_commit.proofs.answering.dones_of.Given as goal

abbrev pub invariant-loop-transaction : goal.invariant-loop-transaction
invariant-loop-transaction l = record {
  numbered : l.number ≡ l.first + l._transaction-index;
  notes : l.notes.items ++ dones l.range l.generation l.number (drop l._transaction-index l.group) ≡ dones l.range l.generation l.first l.group;
}
