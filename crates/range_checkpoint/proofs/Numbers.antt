-- The numbers of a checkpoint have their bytes.
use Rattle.std.proofs.Common.{◌≡◌, ℕ, ◌<◌, ◌^◌, true, [], ◌∷◌, refl}
use Rattle.std.proofs.lemmas.Bool.{lt-ltb}
use Rattle.streams.specs.declared.table.Position.{Position}
use Rattle.memtable.specs.declared.cell.Cell.{Cell}
use Rattle.memtable.specs.declared.cell.Cell.TheVariants.{Deleted, Inline, Placed}
use Rattle.memtable.specs.Cell.{IsNumbered}
use Rattle.memtable.specs.Entries.{AreNumbered, Entries}
use Rattle.model_partition.specs.Checkpoints.{are_numbered, have_bytes, is_numbered}

cell_numbered : (cell : Cell) → IsNumbered cell → is_numbered cell ≡ true
cell_numbered Deleted fits = refl
cell_numbered (Inline value) fits = refl
cell_numbered (Placed place) fits = lt-ltb place.extent (2 ^ 64) fits

all_numbered : (entries : Entries) → AreNumbered entries → are_numbered entries ≡ true
all_numbered [] all = refl
all_numbered (e ∷ entries) all = rw (cell_numbered e.1 all.0) (all_numbered entries all.1)

-- those of the entries by the table, and the others by their types
pub bytes_held : (entries : Entries) (position : Position) (next : ℕ) → AreNumbered entries → position.index < 2 ^ 64 → position.offset < 2 ^ 32 → next < 2 ^ 64 → have_bytes entries position next ≡ true
bytes_held entries position next all index offset number =
    rw (all_numbered entries all, lt-ltb position.index (2 ^ 64) index, lt-ltb position.offset (2 ^ 32) offset, lt-ltb next (2 ^ 64) number) refl
