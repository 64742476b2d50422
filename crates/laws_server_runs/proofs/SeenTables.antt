-- What servers show can be seen: each table that is loaded has rows, whatever bytes its values have.
use Rattle.std.proofs.Common.{◌≡◌, ℕ, List, [], ◌∷◌, is_eq, refl}
use Rattle.wire.specs.declared.note.Note.{Note}
use Rattle.wire.specs.declared.note.Note.TheVariants.{Began, Done, Loaded, Got}
use Rattle.wire.specs.declared.rows.Row.{Row}
use Rattle.memtable.specs.declared.cell.Cell.TheVariants.{Deleted, Inline, Placed}
use Rattle.memtable.specs.Entries.{Entries, key_cmp}
use Rattle.checkpoint.specs.Pages.{merged}
use Rattle.std.specs.Prelude.{map, take, drop}
use Rattle.model_partition.specs.declared.shown_table.ShownTable.{ShownTable}
use Rattle.model_partition.specs.declared.table_note.TableNote.{TableNote}
use Rattle.model_partition.specs.declared.table_note.TableNote.TheVariants as tables
use Rattle.model_histories.specs.IndexContents.{index_in, entries_in}
use Rattle.model_partition.specs.Past.{Bytes, stored}
use Rattle.model_histories.specs.ServedTables.{AreSeenAs}
use Rattle.model_histories.specs.TableContents.{table_in}
use Rattle.laws_loads.proofs.Rows.{Ordered, ordered_put, row_step, none_step}
use Rattle.laws_checkpoints.proofs.ShownRows.{ordered_merged}

module _ (texts : ℕ → Bytes) where
  -- ---- rows

  -- each value with the bytes of its place
  abbrev pub rows_at : Entries → List Row
  rows_at [] = []
  rows_at ((key, Deleted) ∷ es) = rows_at es
  rows_at ((key, Inline value) ∷ es) = record { key = key; value = value } ∷ rows_at es
  rows_at ((key, Placed place) ∷ es) = record { key = key; value = take place.length (drop place.offset (texts place.extent)) } ∷ rows_at es

  rows_are : (es : Entries) → Ordered es → (q : Bytes) → stored (rows_at es) q ≡ table_in texts es q
  rows_are [] o q = refl
  rows_are ((key, Deleted) ∷ es) o q = none_step texts (is_eq (key_cmp q key)) key q (rows_at es) es refl o.0 (rows_are es o.1 q)
  rows_are ((key, Inline value) ∷ es) o q = row_step texts (is_eq (key_cmp q key)) key q value (rows_at es) es (Inline value) refl refl (rows_are es o.1 q)
  rows_are ((key, Placed place) ∷ es) o q =
      row_step texts (is_eq (key_cmp q key)) key q (take place.length (drop place.offset (texts place.extent))) (rows_at es) es (Placed place) refl refl (rows_are es o.1 q)

  table_ordered : (table : ShownTable) → Ordered (entries_in texts table)
  table_ordered table = ordered_put (merged table.keys (map (index_in texts) table.indexes)) table.live (ordered_merged table.keys (map (index_in texts) table.indexes))

  -- ---- observations

  abbrev pub seen_as : List TableNote → List Note
  seen_as [] = []
  seen_as (tables.Began range generation number changes ∷ notes) = Began range generation number changes ∷ seen_as notes
  seen_as (tables.Done range generation number ∷ notes) = Done range generation number ∷ seen_as notes
  seen_as (tables.Got range generation key value ∷ notes) = Got range generation key value ∷ seen_as notes
  seen_as (tables.Loaded range generation table next ∷ notes) = Loaded range generation (rows_at (entries_in texts table)) next ∷ seen_as notes

  pub all_seen : (notes : List TableNote) → AreSeenAs texts notes (seen_as notes)
  all_seen [] = tt
  all_seen (tables.Began range generation number changes ∷ notes) = (refl, all_seen notes)
  all_seen (tables.Done range generation number ∷ notes) = (refl, all_seen notes)
  all_seen (tables.Got range generation key value ∷ notes) = (refl, all_seen notes)
  all_seen (tables.Loaded range generation table next ∷ notes) =
      ((rows_at (entries_in texts table), refl, λ key. rows_are (entries_in texts table) (table_ordered table) key), all_seen notes)
