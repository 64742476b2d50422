use Rattle.std.proofs.Common.{map, take}
use Rattle.script_lines.specs.Copies.{bytes_of}
use Rattle.script_lines.specs.Sequences.{each}
use Rattle.script_lines.specs.Values.{IsValue}
use Rattle.script_lines.proofs.word.values.Given as goal

abbrev pub invariant-loop-word : goal.invariant-loop-word
invariant-loop-word l = each (λ copies text. IsValue text (bytes_of copies)) l.values.items (take l.word-index (map (λ w. w.now) l.words))
