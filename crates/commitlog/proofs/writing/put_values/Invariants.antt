use Rattle.std.proofs.Common.{◌≡◌, ◌++◌, drop}
use Rattle.std.specs.List.{AllByRecursion}
use Rattle.commitlog.specs.Record.{transaction_values, IsChange}
use Rattle.commitlog.proofs.writing.put_values.Given as goal

abbrev pub invariant-loop-change : goal.invariant-loop-change
invariant-loop-change l = record {
  values : l.out.items ++ transaction_values (drop l.change-index l.changes) ≡ l.fn.out.items ++ transaction_values l.changes;
  fits : AllByRecursion IsChange (drop l.change-index l.changes);
}
