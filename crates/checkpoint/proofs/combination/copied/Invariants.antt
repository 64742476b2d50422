use Rattle.std.proofs.Common.{◌≡◌, ◌++◌}
use Rattle.checkpoint.proofs.combination.copied.Given as goal

abbrev pub invariant-loop-key : goal.invariant-loop-key
invariant-loop-key l = l.copy.entries ++ l.key-iterator ≡ l.entries.entries
