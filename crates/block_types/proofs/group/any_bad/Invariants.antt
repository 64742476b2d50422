use Rattle.std.proofs.Common.{◌≡◌, length, drop}
use Rattle.std.specs.Prelude.{nat_lt, ◌==◌, ◌||◌}
use Rattle.std.specs.List.{list_any}
use Rattle.block_types.specs.Limits.{texts_of}
use Rattle.block_types.proofs.group.any_bad.Given as goal

abbrev pub invariant-loop-text : goal.invariant-loop-text
invariant-loop-text l = list_any (λ b. length b == 0 || nat_lt 65536 (length b)) (texts_of (drop l.text-index l.texts)) ≡ list_any (λ b. length b == 0 || nat_lt 65536 (length b)) (texts_of l.texts)
