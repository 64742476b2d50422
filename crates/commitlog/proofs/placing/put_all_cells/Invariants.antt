use Rattle.std.proofs.Common.{◌≡◌, ◌+◌, ◌++◌, drop}
use Rattle.std.specs.List.{AllByRecursion, flat_map}
use Rattle.block_types.specs.Limits.{group_size}
use Rattle.commitlog.specs.Record.{transaction_values, IsTransaction}
use Rattle.commitlog.specs.Places.{kept_transactions}
use Rattle.commitlog.proofs.placing.put_all_cells.Given as goal

abbrev pub invariant-loop-changes : goal.invariant-loop-changes
invariant-loop-changes l = record {
  cells : l.out.items ++ flat_map (λ t. t) (kept_transactions l.extent l.next (drop l.changes-index l.all)) ≡ l.fn.out.items ++ flat_map (λ t. t) (kept_transactions l.extent l.offset l.all);
  next : l.next + group_size (flat_map transaction_values (drop l.changes-index l.all)) ≡ l.offset + group_size (flat_map transaction_values l.all);
  fits : AllByRecursion IsTransaction (drop l.changes-index l.all);
}
