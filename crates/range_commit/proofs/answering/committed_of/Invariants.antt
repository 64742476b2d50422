use Rattle.std.proofs.Common.{◌≡◌, ◌+◌, ◌++◌, drop}
use Rattle.model_partition.specs.Serving.{committed}
use Rattle.range_commit.proofs.answering.committed_of.Given as goal

abbrev pub invariant-loop-transaction : goal.invariant-loop-transaction
invariant-loop-transaction l = record {
  numbered : l.number ≡ l.first + l.transaction-index;
  packets : l.packets.items ++ committed l.context l.number (drop l.transaction-index l.group) ≡ committed l.context l.first l.group;
}
