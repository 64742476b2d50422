use Rattle.std.proofs.Common.{◌≡◌, ◌+◌, drop}
use Rattle.block_types.specs.Limits.{group_size}
use Rattle.commitlog.specs.Record.{transaction_values}
use Rattle.commitlog.proofs.placing.offset_after.Given as goal

abbrev pub invariant-loop-change : goal.invariant-loop-change
invariant-loop-change l = l.next + group_size (transaction_values (drop l.change-index l.changes)) ≡ l.offset + group_size (transaction_values l.changes)
