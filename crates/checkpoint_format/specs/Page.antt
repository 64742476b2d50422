-- A page: keys in ascending order, each with its cell, in one block (docs/FORMATS.md).
use Rattle.std.specs.Prelude.{ℕ, zero, suc, ◌+◌, Bool, true, ◌&&◌, nat_le, List, [], ◌∷◌, ◌++◌, length, Option, Some, None, if◌then◌else◌}
use Rattle.std.specs.List.{flat_map}
use Rattle.std.specs.Ordering.{is_lt}
use Rattle.block_types.specs.Limits.{is_within}
use Rattle.blocks.specs.Format.{◌>>=◌, number_at, pair_at, only_at, many_at, whole}
use Rattle.blocks.specs.Record.{number}
use Rattle.memtable.specs.declared.cell.Cell.{Cell}
use Rattle.memtable.specs.declared.cell.Cell.TheVariants.{Deleted, Inline, Placed}
use Rattle.memtable.specs.declared.cell.Place.{Place}
use Rattle.checkpoint_format.specs.declared.page.Page.{Page}
use Rattle.memtable.specs.Entries.{Entries, key_cmp, entries_size, found}
use Rattle.memtable.specs.Cell.{entry_size, IsEntry}
use Rattle.commitlog.specs.Record.{key_bytes}
use Rattle.commitlog.specs.Reading.{counted_at, is_small}
use Rattle.metadata.specs.Record.{place as place_bytes, IsPlace}
use Rattle.metadata.specs.Reading.{place_at}

-- ---- bytes

-- a kind, and then nothing, a length and the bytes, or a place
abbrev pub cell_bytes : Cell → List ℕ
cell_bytes Deleted = number 1 0
cell_bytes (Inline value) = number 1 1 ++ (number 4 (length value) ++ value)
cell_bytes (Placed place) = number 1 2 ++ place_bytes place

abbrev pub entry_bytes : List ℕ × Cell → List ℕ
entry_bytes e = key_bytes e.0 ++ cell_bytes e.1

abbrev pub page_bytes : Entries → List ℕ
page_bytes entries = number 2 (length entries) ++ flat_map entry_bytes entries

-- ---- reading

-- the place of a value that is not beside its key
unfoldable pub large_place_at : List ℕ → Option (Place × List ℕ)
large_place_at = only_at (λ place. is_within 4097 65536 place.length) place_at

-- by the kind
unfoldable pub fields_at : ℕ → List ℕ → Option (Cell × List ℕ)
fields_at zero rest = Some (Deleted, rest)
fields_at (suc zero) rest = counted_at 4 is_small rest >>= λ v. Some (Inline v.0, v.1)
fields_at (suc (suc zero)) rest = large_place_at rest >>= λ p. Some (Placed p.0, p.1)
fields_at kind rest = None

unfoldable pub cell_at : List ℕ → Option (Cell × List ℕ)
cell_at [] = None
cell_at (kind ∷ rest) = fields_at kind rest

unfoldable pub entry_at : List ℕ → Option ((List ℕ × Cell) × List ℕ)
entry_at = pair_at (counted_at 2 (is_within 1 256)) cell_at

-- each key is above the one before it
abbrev pub is_ascending : Entries → Bool
is_ascending [] = true
is_ascending (e ∷ []) = true
is_ascending (e ∷ f ∷ entries) = is_lt (key_cmp e.0 f.0) && is_ascending (f ∷ entries)

-- at least one entry
unfoldable pub counted_entries_at : List ℕ → Option (Entries × List ℕ)
counted_entries_at bytes = do
  n ← only_at (is_within 1 65535) (number_at 2) bytes
  many_at entry_at n.0 n.1

-- the entries that a page spells, if the bytes are those of a page
unfoldable pub entries_at : List ℕ → Option Entries
entries_at bytes = if nat_le (length bytes) 65536 then whole (only_at is_ascending counted_entries_at bytes) else None

-- the cell at a key of the page that the bytes are
abbrev pub found_at : List ℕ → List ℕ → Option (Option Cell)
found_at bytes key = entries_at bytes >>= λ entries. Some (found entries key)

-- ---- what a page can have

-- the numbers of a cell's place are those that its bytes have room for
abbrev pub HasNumbers : Cell → Type 0
HasNumbers Deleted = Unit {0}
HasNumbers (Inline value) = Unit {0}
HasNumbers (Placed place) = IsPlace place

abbrev pub IsPageEntry : List ℕ × Cell → Type 0
IsPageEntry e = IsEntry e.0 e.1 × HasNumbers e.1

-- ---- writing

abbrev pub page_size : Entries → ℕ
page_size entries = 2 + entries_size entries

-- A page that has begun with some entries takes more, in their order, as long as it has room for the next.
abbrev pub pages_from : Entries → Entries → List Entries
pages_from begun [] = begun ∷ []
pages_from begun (e ∷ entries) =
    if nat_le (page_size begun + entry_size e.0 e.1) 65536 then pages_from (begun ++ e ∷ []) entries else begun ∷ pages_from (e ∷ []) entries

-- The entries of each page, all entries in their order: each page is as full as it can be. No entry makes no page.
abbrev pub pages_of : Entries → List Entries
pages_of [] = []
pages_of (e ∷ entries) = pages_from (e ∷ []) entries

-- the entries of all pages
abbrev pub joined : List Entries → Entries
joined pages = flat_map (λ page. page) pages

-- the page of some entries: its first key and its bytes
abbrev pub first_key : Entries → List ℕ
first_key [] = []
first_key (e ∷ entries) = e.0

abbrev pub page_of : Entries → Page
page_of entries = record { first = first_key entries; bytes = page_bytes entries }
