use Rattle.std.proofs.Common.{◌≡◌, ◌+◌, drop}
use Rattle.std.specs.List.{AllByRecursion, sum_by}
use Rattle.commitlog.specs.Record.{IsTransaction}
use Rattle.commitlog.specs.Sizes.{transaction_size, text_size}
use Rattle.commitlog.proofs.sizes.sum_of.Given as goal

abbrev pub invariant-loop-changes : goal.invariant-loop-changes
invariant-loop-changes l = record {
  value : l.size + sum_by transaction_size (drop l.changes-index l.all) ≡ text_size l.all;
  fits : AllByRecursion IsTransaction (drop l.changes-index l.all);
}
