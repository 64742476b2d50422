-- Rows, one entry after the other.
use Rattle.std.proofs.Common.{◌≡◌, ℕ, List, [], ◌∷◌, ◌++◌, refl, ap, ◌∙◌}
use Rattle.wire.specs.declared.note.Note.{Note}
use Rattle.wire.specs.declared.rows.Row.{Row}
use Rattle.memtable.specs.declared.cell.Cell.{Cell}
use Rattle.model_partition.specs.Servers.{row_of, rows_in}

joined_on : {A : Type 0} (xs ys zs : List A) → (xs ++ ys) ++ zs ≡ xs ++ (ys ++ zs)
joined_on [] ys zs = refl
joined_on (x ∷ xs) ys zs = ap (λ l. x ∷ l) (joined_on xs ys zs)

pub one_more : (notes : List Note) (rows whole : List Row) (key : List ℕ) (cell : Cell) (rest : List (List ℕ × Cell)) →
    rows ++ rows_in notes ((key, cell) ∷ rest) ≡ whole → (rows ++ row_of notes key cell) ++ rows_in notes rest ≡ whole
one_more notes rows whole key cell rest is = joined_on rows (row_of notes key cell) (rows_in notes rest) ∙ is
