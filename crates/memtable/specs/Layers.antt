-- The two layers of a memory table.
use Rattle.std.specs.Prelude.{ℕ, ◌+◌, List, Option, Some, None}
use Rattle.memtable.specs.declared.cell.Cell.{Cell}
use Rattle.memtable.specs.Entries.{Entries, found, entries_size}

pub record Layers : Type 0 where
  pub live : Entries
  pub fixed : Option Entries

-- the cell at a key of a layer that may be there
abbrev pub found_in : Option Entries → List ℕ → Option Cell
found_in None key = None
found_in (Some entries) key = found entries key

-- the cell, or else the other
abbrev pub or_else : Option Cell → Option Cell → Option Cell
or_else None other = other
or_else (Some cell) other = Some cell

-- the cell at a key: of the live layer, or else of the fixed one
abbrev pub cell_at : Layers → List ℕ → Option Cell
cell_at layers key = or_else (found layers.live key) (found_in layers.fixed key)

abbrev pub size_of : Option Entries → ℕ
size_of None = 0
size_of (Some entries) = entries_size entries

abbrev pub layers_size : Layers → ℕ
layers_size layers = entries_size layers.live + size_of layers.fixed
