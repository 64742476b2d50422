-- One layer: keys and cells, in the order of the keys.
use Rattle.std.specs.Prelude.{ℕ, List, [], ◌∷◌, Option, Some, None, is_some, if◌then◌else◌}
use Rattle.std.specs.List.{sum_by, AllByRecursion}
use Rattle.std.specs.Ordering.{nat_cmp}
use Rattle.std.specs.Cmp.Lexicographic.{slice_cmp}
use Rattle.std.specs.declared.cmp.Ordering.{Ordering}
use Rattle.std.specs.Map.{lookup, remove_entry}
use Rattle.std.specs.BTreeMap.{insert_entry, is_at}
use Rattle.memtable.specs.declared.cell.Cell.{Cell}
use Rattle.memtable.specs.Cell.{entry_size, IsEntry, IsNumbered}

abbrev pub Entries : Type 0
Entries = List (List ℕ × Cell)

-- a key and a cell that a row may have
abbrev pub IsFit : List ℕ × Cell → Type 0
IsFit e = IsEntry e.0 e.1

-- the same of entries that may be there
abbrev pub AllFit : Option Entries → Type 0
AllFit None = Unit {0}
AllFit (Some entries) = AllByRecursion IsFit entries

-- the extents that cells name have numbers of 64 bits
abbrev pub HasNumber : List ℕ × Cell → Type 0
HasNumber e = IsNumbered e.1

abbrev pub AreNumbered : Entries → Type 0
AreNumbered entries = AllByRecursion HasNumber entries

-- keys by their bytes, a shorter one first
abbrev pub key_cmp : List ℕ → List ℕ → Ordering
key_cmp = slice_cmp nat_cmp

-- the cell at a key
abbrev pub found : Entries → List ℕ → Option Cell
found entries key = lookup (is_at (key_cmp key)) entries

-- changes from left to right, each at its key
abbrev pub put_all : Entries → List (List ℕ × Cell) → Entries
put_all entries [] = entries
put_all entries (c ∷ changes) = put_all (insert_entry key_cmp entries c.0 c.1) changes

-- the last of the changes of a key, or else what was there
abbrev pub latest : List ℕ → List (List ℕ × Cell) → Option Cell → Option Cell
latest key [] old = old
latest key (c ∷ changes) old = latest key changes (if is_at (key_cmp c.0) key then Some c.1 else old)

-- the bytes of the entries in a page
abbrev pub entries_size : Entries → ℕ
entries_size entries = sum_by (λ e. entry_size e.0 e.1) entries

-- the bytes of an entry that may be there
abbrev pub old_size : List ℕ → Option Cell → ℕ
old_size key None = 0
old_size key (Some cell) = entry_size key cell

-- ---- what a failed change takes back

-- the key as it was before a change of it
abbrev pub taken_back : List ℕ × Option Cell → Entries → Entries
taken_back (key, None) entries = remove_entry (is_at (key_cmp key)) entries
taken_back (key, Some cell) entries = if is_some (found entries key) then insert_entry key_cmp entries key cell else entries

-- each of some changes, the last one first
abbrev pub all_taken_back : List (List ℕ × Option Cell) → Entries → Entries
all_taken_back [] entries = entries
all_taken_back (undo ∷ undos) entries = taken_back undo (all_taken_back undos entries)
