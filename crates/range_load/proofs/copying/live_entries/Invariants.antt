use Rattle.std.proofs.Common.{◌≡◌, ◌++◌}
use Rattle.range_load.proofs.copying.live_entries.Given as goal

abbrev pub invariant-loop-key : goal.invariant-loop-key
invariant-loop-key l = l.copies.items ++ l.key-iterator ≡ l.fn.table.live
