-- A line: a word, and values after it, a blank (32) before each. It is `None` where nothing states the text of a value.
use Rattle.std.specs.Prelude.{ℕ, List, [], ◌∷◌, ◌++◌, Option, None, Some, codes, decimal}
use Rattle.std.specs.Fmt.{◌++?◌}

-- the text, and one value more
abbrev pub then_value : Option (List ℕ) → Option (List ℕ) → Option (List ℕ)
then_value text value = text ++? (Some (32 ∷ []) ++? value)

abbrev pub line_one : List ℕ → Option (List ℕ) → Option (List ℕ)
line_one word value = then_value (Some word) value

abbrev pub line_two : List ℕ → Option (List ℕ) → Option (List ℕ) → Option (List ℕ)
line_two word first second = then_value (line_one word first) second

abbrev pub line_three : List ℕ → Option (List ℕ) → Option (List ℕ) → Option (List ℕ) → Option (List ℕ)
line_three word first second third = then_value (line_two word first second) third

abbrev pub line_four : List ℕ → Option (List ℕ) → Option (List ℕ) → Option (List ℕ) → Option (List ℕ) → Option (List ℕ)
line_four word first second third fourth = then_value (line_three word first second third) fourth

-- a word and three numbers, and the newline (10)
abbrev pub three_line : List ℕ → ℕ → ℕ → ℕ → List ℕ
three_line word first second third = word ++ 32 ∷ decimal first ++ 32 ∷ decimal second ++ 32 ∷ decimal third ++ 10 ∷ []

-- an answer of a word and a number, and the newline
abbrev pub told_line : ℕ → ℕ → List ℕ → ℕ → List ℕ
told_line user ticket word number = codes "user" ++ 32 ∷ decimal user ++ 32 ∷ decimal ticket ++ (word ++ 32 ∷ decimal number) ++ 10 ∷ []

-- an answer of a word and a text, and the newline
abbrev pub told_text_line : ℕ → ℕ → List ℕ → List ℕ → List ℕ
told_text_line user ticket word text = codes "user" ++ 32 ∷ decimal user ++ 32 ∷ decimal ticket ++ word ++ text ++ 10 ∷ []

-- how many bytes a value has, as a line ends, or that there is none
abbrev pub value_length : Option ℕ → List ℕ
value_length (Some size) = 32 ∷ decimal size
value_length None = codes " none"

-- a Get of a key that was answered with such a value, and the newline
abbrev pub got_line : ℕ → ℕ → List ℕ → List ℕ → List ℕ
got_line range generation key value = codes "got" ++ 32 ∷ decimal range ++ 32 ∷ decimal generation ++ 32 ∷ key ++ value ++ 10 ∷ []
