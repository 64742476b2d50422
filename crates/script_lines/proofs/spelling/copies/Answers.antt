use Rattle.std.proofs.Common.{◌≡◌, ◌∙◌, ◌+◌, ◌==◌, ℕ, List, [], ap, arith, drop, length, length-drop, lit<, sym}
use Rattle.std.specs.List.{position_or_len}
use Rattle.std.specs.Str.{chars}
use Rattle.std.proofs.lemmas.List.{nil_from_length}
use Rattle.std.proofs.lemmas.Str.{chars-nil}
use Rattle.script_lines.specs.Values.{after_star}
use Rattle.script_lines.proofs.spelling.copies.Goals as goal

drop_past : (xs : List ℕ) (n : ℕ) → n ≡ length xs → drop (n + 1) xs ≡ []
drop_past xs n e = nil_from_length (drop (n + 1) xs) (grind (arith, length-drop, e))

pub returns-in_default-clause-none : goal.returns-in_default-clause-none
returns-in_default-clause-none c = λ asks.
    let word : List ℕ = c.args.word.now in
    let at_end : position_or_len (λ b. b == 42) word ≡ length word = c.in_default.ensures.byte (lit< tt) (λ w o m. m) in
    let none : after_star word ≡ [] = drop_past word (position_or_len (λ b. b == 42) word) at_end in
    let bad : ◌≡◌ {A = ℕ} 0 1 = sym (ap (λ (t : List ℕ). length (chars t)) none ∙ ap (λ (t : List ℕ). length t) chars-nil) ∙ asks.2 in
    absurd (omega arith)
