use Rattle.std.proofs.Common.{◌≡◌, ◌+◌, ◌++◌, length, drop}
use Rattle.std.specs.List.{AllByRecursion, flat_map}
use Rattle.commitlog.specs.Record.{transaction_values, text_changes, change_bytes, IsChange}
use Rattle.commitlog.proofs.writing.put_changes.Given as goal

abbrev pub invariant-loop-change : goal.invariant-loop-change
invariant-loop-change l = record {
  text : l.out.items ++ flat_map change_bytes (text_changes l.next (drop l.change-index l.changes)) ≡ l.fn.out.items ++ flat_map change_bytes (text_changes l.number l.changes);
  next : l.next + length (transaction_values (drop l.change-index l.changes)) ≡ l.number + length (transaction_values l.changes);
  fits : AllByRecursion IsChange (drop l.change-index l.changes);
}
