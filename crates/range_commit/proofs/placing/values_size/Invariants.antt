use Rattle.std.proofs.Common.{◌≡◌, ◌+◌, map, drop}
use Rattle.std.specs.List.{flat_map}
use Rattle.block_types.specs.Limits.{group_size}
use Rattle.commitlog.specs.Record.{transaction_values}
use Rattle.range_commit.proofs.placing.values_size.Given as goal

abbrev pub invariant-loop-transaction : goal.invariant-loop-transaction
invariant-loop-transaction l = l.size + group_size (flat_map transaction_values (map (λ t. t.changes) (drop l.transaction-index l.group))) ≡ group_size (flat_map transaction_values (map (λ t. t.changes) l.group))
