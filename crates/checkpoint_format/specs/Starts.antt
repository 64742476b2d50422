-- A page that is kept to be searched: where its entries begin.
use Rattle.std.specs.Prelude.{◌≡◌, ℕ, Bool, false, List, [], ◌∷◌, drop, map, Option, Some, None, if◌then◌else◌}
use Rattle.std.specs.Ordering.{is_lt}
use Rattle.block_types.specs.Limits.{is_within}
use Rattle.blocks.specs.Format.{◌>>=◌}
use Rattle.commitlog.specs.Reading.{counted_at}
use Rattle.memtable.specs.declared.cell.Cell.{Cell}
use Rattle.memtable.specs.Entries.{Entries, key_cmp, found}
use Rattle.checkpoint_format.specs.Page.{entry_at, entries_at}

-- the entry that begins at a place of a page
abbrev pub entry_from : List ℕ → ℕ → Option (List ℕ × Cell)
entry_from page start = entry_at (drop start page) >>= λ e. Some e.0

-- the bytes are a page, and its entries begin at these places, in order
pub record AreStarts (page starts : List ℕ) : Type 0 where
  pub entries : Entries
  pub spelled : entries_at page ≡ Some entries
  pub each : map (entry_from page) starts ≡ map (λ e. Some e) entries

-- ---- the search

-- the key that begins at a place of a page
abbrev pub key_from : List ℕ → ℕ → Option (List ℕ)
key_from page start = counted_at 2 (is_within 1 256) (drop start page) >>= λ k. Some k.0

abbrev pub is_key_below : List ℕ → Option (List ℕ) → Bool
is_key_below key None = false
is_key_below key (Some other) = is_lt (key_cmp other key)

-- whether the key that begins at a place is below another
abbrev pub is_below : List ℕ → List ℕ → ℕ → Bool
is_below page key start = is_key_below key (key_from page start)

-- the first place whose key is not below another
abbrev pub first_from : List ℕ → List ℕ → List ℕ → Option ℕ
first_from page key [] = None
first_from page key (start ∷ starts) = if is_below page key start then first_from page key starts else Some start

-- the cell of the entry that begins at a place, if its key is this
abbrev pub cell_from : List ℕ → List ℕ → ℕ → Option Cell
cell_from page key start = entry_from page start >>= λ e. found (e ∷ []) key
