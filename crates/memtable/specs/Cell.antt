-- What a row keeps of a value.
use Rattle.std.specs.Prelude.{ℕ, ◌+◌, ◌<◌, ◌≤◌, ◌^◌, List, length}
use Rattle.memtable.specs.Limits.{IsKey}
use Rattle.memtable.specs.declared.cell.Cell.{Cell}
use Rattle.memtable.specs.declared.cell.Cell.TheVariants.{Deleted, Inline, Placed}

-- a value beside its key is small, and a value by its place is large
abbrev pub IsCell : Cell → Type 0
IsCell Deleted = Unit {0}
IsCell (Inline value) = length value ≤ 4096
IsCell (Placed place) = (4097 ≤ place.length) × (place.length ≤ 65536)

-- what a row may have
abbrev pub IsEntry : List ℕ → Cell → Type 0
IsEntry key cell = IsKey key × IsCell cell

-- the number of the extent that a cell names, if it names one, has 64 bits
abbrev pub IsNumbered : Cell → Type 0
IsNumbered Deleted = Unit {0}
IsNumbered (Inline value) = Unit {0}
IsNumbered (Placed place) = place.extent < 2 ^ 64

-- the bytes of a cell in a page: a kind, and then nothing, a length and the bytes, or a place
abbrev pub cell_size : Cell → ℕ
cell_size Deleted = 1
cell_size (Inline value) = 5 + length value
cell_size (Placed place) = 17

-- the bytes of a key and its cell in a page
abbrev pub entry_size : List ℕ → Cell → ℕ
entry_size key cell = 2 + length key + cell_size cell
