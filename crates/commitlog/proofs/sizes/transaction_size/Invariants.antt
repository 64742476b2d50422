use Rattle.std.proofs.Common.{◌≡◌, ◌≤◌, ◌+◌, ◌*◌, take, drop}
use Rattle.std.specs.List.{AllByRecursion, sum_by}
use Rattle.commitlog.specs.Record.{IsChange}
use Rattle.commitlog.specs.Sizes.{change_size}
use Rattle.commitlog.proofs.sizes.transaction_size.Given as goal

abbrev pub invariant-loop-change : goal.invariant-loop-change
invariant-loop-change l = record {
  value : l.size ≡ 1 + sum_by change_size (take l.change-index l.changes);
  bound : l.size ≤ 1 + 4359 * l.change-index;
  fits : AllByRecursion IsChange (drop l.change-index l.changes);
}
