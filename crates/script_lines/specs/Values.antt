-- The numbers and the bytes that the words of a script stand for.
use Rattle.std.specs.Prelude.{◌≡◌, ◌<◌, ◌≤◌, ◌^◌, ◌==◌, ℕ, true, List, [], codes}
use Rattle.std.specs.Prelude.{length}
use Rattle.std.specs.List.{after_first, before_first, list_all, repeat}
use Rattle.std.specs.Char.{is_ascii_digit}
use Rattle.std.specs.Str.{chars}
use Rattle.std.specs.Str.Parse.{digits_value}
use Rattle.script_lines.specs.Limits.{most_copies}

-- digits alone, of a number below 2 ^ 64
abbrev pub IsNumber : List ℕ → Type 0
IsNumber word = (list_all is_ascii_digit word ≡ true) × (0 < length word) × (digits_value 10 word < 2 ^ 64)

-- the parts before and after the first star (42)
abbrev pub before_star : List ℕ → List ℕ
before_star = before_first (λ b. b == 42)

abbrev pub after_star : List ℕ → List ℕ
after_star = after_first (λ b. b == 42)

-- digits, a star and one character, as in `20*a`
abbrev pub AsksCopies : List ℕ → Type 0
AsksCopies word = (list_all is_ascii_digit (before_star word) ≡ true) × (0 < length (before_star word))
    × (length (chars (after_star word)) ≡ 1)

-- how many copies such a word asks for
abbrev pub copies_of : List ℕ → ℕ
copies_of word = digits_value 10 (before_star word)

-- the bytes of a value word
pub data IsValue (word : List ℕ) : List ℕ → Type 0 where
  nothing : word ≡ codes "-" → IsValue word []
  copies : AsksCopies word → copies_of word ≤ most_copies → IsValue word (repeat (copies_of word) (after_star word))
  itself : (AsksCopies word → ⊥) → (word ≡ codes "-" → ⊥) → IsValue word word

-- a word that asks for more copies than any word may
abbrev pub IsTooMany : List ℕ → Type 0
IsTooMany word = AsksCopies word × (most_copies < copies_of word)
