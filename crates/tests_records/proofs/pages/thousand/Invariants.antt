use Rattle.std.specs.List.{AllByRecursion}
use Rattle.checkpoint_format.specs.Writing.{IsEntryPair}
use Rattle.tests_records.proofs.pages.thousand.Given as goal

abbrev pub invariant-loop-number : goal.invariant-loop-number
invariant-loop-number l = AllByRecursion IsEntryPair l.table.entries
