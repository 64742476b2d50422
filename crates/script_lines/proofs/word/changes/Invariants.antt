use Rattle.std.proofs.Common.{map, take}
use Rattle.script_lines.specs.Sequences.{each}
use Rattle.script_lines.specs.Words.{IsChange}
use Rattle.script_lines.proofs.word.changes.Given as goal

abbrev pub invariant-loop-word : goal.invariant-loop-word
invariant-loop-word l = each IsChange l.changes.items (take l.word-index (map (λ w. w.now) l.words))
