use Rattle.std.proofs.Common.{◌∙◌, ℕ, List, ap, map, subst, sym}
use Rattle.script_lines.specs.Copies.{bytes_of}
use Rattle.script_lines.specs.Sequences.{each}
use Rattle.script_lines.specs.Values.{IsValue}
use Rattle.script_lines.proofs.Copying.{each_piece}
use Rattle.script_lines.proofs.Lists.{texts}
use Rattle.script_lines.proofs.word.many_blocks.Goals as goal

pub returns-in_ok-blocks_of-in-Some : goal.returns-in_ok-blocks_of-in-Some
returns-in_ok-blocks_of-in-Some c =
    let words : List (List ℕ) = texts c.args.words.now in
    let pieces = c.in_ok-blocks_of-in-Some.ensures ∙ ap (map bytes_of) c.as_slice.ensures.value in
    subst (λ (blocks : List (List ℕ)). each (λ bytes text. IsValue text bytes) blocks words) (sym pieces)
    (each_piece (λ bytes text. IsValue text bytes) c.in-Some.values.items words (rw c.in-Some.is at c.in_ok-values.ensures.found))
