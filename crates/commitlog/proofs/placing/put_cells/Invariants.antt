use Rattle.std.proofs.Common.{◌≡◌, ◌+◌, ◌++◌, drop}
use Rattle.std.specs.List.{AllByRecursion}
use Rattle.block_types.specs.Limits.{group_size}
use Rattle.commitlog.specs.Record.{transaction_values, IsChange}
use Rattle.commitlog.specs.Places.{kept_changes}
use Rattle.commitlog.proofs.placing.put_cells.Given as goal

abbrev pub invariant-loop-change : goal.invariant-loop-change
invariant-loop-change l = record {
  cells : l.out.items ++ kept_changes l.extent l.next (drop l.change-index l.changes) ≡ l.fn.out.items ++ kept_changes l.extent l.offset l.changes;
  next : l.next + group_size (transaction_values (drop l.change-index l.changes)) ≡ l.offset + group_size (transaction_values l.changes);
  fits : AllByRecursion IsChange (drop l.change-index l.changes);
}
