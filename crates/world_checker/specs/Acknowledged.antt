-- What a run of acknowledged appends of one group shows, where 64 appends fill an extent.
use Rattle.std.specs.Prelude.{ℕ, zero, suc, ◌+◌, ◌*◌, ◌/◌, ◌%◌, List, [], ◌∷◌, ◌++◌}
use Rattle.wire.specs.declared.note.Note.{Note}
use Rattle.wire.specs.declared.note.Note.TheVariants.{Acked}

-- the observation of the append of this number, counted from 0, in a run of groups of 1,024 bytes
abbrev pub acknowledgement : List (List ℕ) → ℕ → Note
acknowledgement group number = Acked (number / 64 + 1) (number % 64 * 1024) group

-- the observations of so many appends, in order
abbrev pub acknowledged : List (List ℕ) → ℕ → List Note
acknowledged group zero = []
acknowledged group (suc number) = acknowledged group number ++ acknowledgement group number ∷ []
