use Rattle.std.proofs.Common.{◌≡◌, ◌+◌, ◌++◌, map, drop}
use Rattle.std.specs.List.{flat_map}
use Rattle.block_types.specs.Limits.{group_size}
use Rattle.commitlog.specs.Record.{transaction_values}
use Rattle.commitlog.specs.Places.{kept_transactions}
use Rattle.range_commit.specs.Queue.{AreTransactions}
use Rattle.range_commit.proofs.placing.put_all_cells.Given as goal

abbrev pub invariant-loop-transaction : goal.invariant-loop-transaction
invariant-loop-transaction l = record {
  cells : l.out.items ++ flat_map (λ t. t) (kept_transactions l.extent l.next (map (λ t. t.changes) (drop l.transaction-index l.group))) ≡ l.fn.out.items ++ flat_map (λ t. t) (kept_transactions l.extent l.offset (map (λ t. t.changes) l.group));
  next : l.next + group_size (flat_map transaction_values (map (λ t. t.changes) (drop l.transaction-index l.group))) ≡ l.offset + group_size (flat_map transaction_values (map (λ t. t.changes) l.group));
  fits : AreTransactions (drop l.transaction-index l.group);
}
