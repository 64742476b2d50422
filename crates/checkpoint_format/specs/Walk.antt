-- Walking through a page entry by entry.
use Rattle.std.specs.Prelude.{◌≡◌, ◌<◌, slice_index, ℕ, zero, suc, nat_le, List, [], ◌∷◌, length, Option, Some, None, if◌then◌else◌}
use Rattle.std.specs.Ordering.{is_lt}
use Rattle.block_types.specs.Limits.{is_within}
use Rattle.blocks.specs.Format.{◌>>=◌, number_at, only_at, IsEndOf}
use Rattle.memtable.specs.declared.cell.Cell.{Cell}
use Rattle.memtable.specs.declared.cell.Cell.TheVariants as cells
use Rattle.memtable.specs.Entries.{Entries, key_cmp}
use Rattle.checkpoint_format.specs.declared.entry.CellPart.{CellPart}
use Rattle.checkpoint_format.specs.declared.entry.CellPart.TheVariants.{Deleted, Inline, Placed}
use Rattle.checkpoint_format.specs.declared.entry.EntryPart.{EntryPart}
use Rattle.checkpoint_format.specs.Page.{entry_at}

-- the cell that a part of a page spells
abbrev pub part_cell : CellPart → Cell
part_cell Deleted = cells.Deleted
part_cell (Inline value) = cells.Inline value.now
part_cell (Placed place) = cells.Placed place

abbrev pub part_entry : EntryPart → List ℕ × Cell
part_entry e = (e.key.now, part_cell e.cell)

-- how many entries there are, and the bytes after that
unfoldable pub count_at : List ℕ → Option (ℕ × List ℕ)
count_at bytes = if nat_le (length bytes) 65536 then only_at (is_within 1 65535) (number_at 2) bytes else None

-- an entry whose key is above another
unfoldable pub entry_above : List ℕ → List ℕ → Option ((List ℕ × Cell) × List ℕ)
entry_above last = only_at (λ e. is_lt (key_cmp last e.0)) entry_at

-- so many entries, each above the one before it and all above a key
abbrev pub entries_above : ℕ → List ℕ → List ℕ → Option (Entries × List ℕ)
entries_above zero last bytes = Some ([], bytes)
entries_above (suc n) last bytes = entry_above last bytes >>= λ e. entries_above n e.0.0 e.1 >>= λ others. Some (e.0 ∷ others.0, others.1)

-- the entry was read from the end of a page
pub record IsEntryOf (page : List ℕ) (entry : EntryPart) : Type 0 where
  pub bytes : (i : ℕ) → slice_index page i < 256
  pub end : IsEndOf entry.bytes.now page
  pub read : entry_at entry.bytes.now ≡ Some (part_entry entry, entry.after.now)
