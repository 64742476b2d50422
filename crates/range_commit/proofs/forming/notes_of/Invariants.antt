use Rattle.std.proofs.Common.{◌≡◌, ◌+◌, ◌++◌, drop}
use Rattle.model_partition.specs.Serving.{began}
use Rattle.range_commit.proofs.forming.notes_of.Given as goal

abbrev pub invariant-loop-transaction : goal.invariant-loop-transaction
invariant-loop-transaction l = record {
  numbered : l.number ≡ l.first + l.transaction-index;
  notes : l.notes.items ++ began l.range l.generation l.number (drop l.transaction-index l.group) ≡ began l.range l.generation l.first l.group;
}
