use Rattle.std.proofs.Common.{◌≡◌, ℕ, ◌+◌, ◌-◌, ◌≤◌, map, take, drop}
use Rattle.range_commit.specs.Queue.{AreTransactions}
use Rattle.model_partition.specs.Serving.{grown}
use Rattle.range_commit.proofs.forming.grow.Given as goal

abbrev pub invariant-loop-transaction : goal.invariant-loop-transaction
invariant-loop-transaction l = record {
  counted : l.count ≡ l.transaction-index;
  below : l.count ≤ l.batch;
  held : l.text ≡ map (λ t. t.changes) (take l.transaction-index l.waiting);
  encoded : l.encodings ≡ l.fn.encodings + l.count;
  grown : (next : ℕ) → grown next l.waiting l.count (l.batch - l.count) ≡ grown next l.waiting 0 l.batch;
  fits : AreTransactions (drop l.transaction-index l.waiting);
}
