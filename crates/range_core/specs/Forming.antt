-- The group that is formed next.
use Rattle.std.specs.Prelude.{ℕ, length, Option, Some, None}
use Rattle.range_core.specs.declared.forming.Ready.{Ready}

-- how many observations it brings, if there is one
abbrev pub count_of_notes : Option Ready → ℕ
count_of_notes None = 0
count_of_notes (Some ready) = length ready.notes.items
