-- What is owed of a served range that a split may have made: its tables are those of its line within the keys that are its own.
use Rattle.std.specs.Prelude.{◌≡◌, ℕ, suc, ◌+◌, true, List, length}
use Rattle.metadata.specs.declared.record.KeyRange.{KeyRange}
use Rattle.metadata.specs.Keys.{within}
use Rattle.model_partition.specs.Loading.{Group}
use Rattle.model_partition.specs.Past.{Bytes, after_line, empty_table}
use Rattle.model_partition.specs.Range.{RangeState, waiting_out}
use Rattle.model_histories.specs.IndexContents.{served_entries}
use Rattle.model_histories.specs.Renaming.{renamed, decoded}
use Rattle.model_histories.specs.ServedTables.{line_to, end_to}
use Rattle.model_histories.specs.ServerRun.{place_number}
use Rattle.model_histories.specs.Story.{Copy, Story, whole}
use Rattle.model_histories.specs.TableContents.{table_in}

-- The keys of a range are these, and its tables together, its indexes among them, are for each of them the table of the line that ends at its log
-- position; and the next number is the one after that line and what is out. Each load is taken for all of its copies, also those before
-- the place that it began at.
pub record IsAtLineWithin (texts : ℕ → Bytes) (keys : KeyRange) (log : Story Group) (copies : ℕ → List (Copy Group)) (r : RangeState) : Type 0 where
  pub keys_are : r.said.keys ≡ keys
  pub position : place_number r.position ≡ end_to log r.load.generation
  pub next : r.next ≡ suc (length (line_to (renamed decoded (whole Group copies log)) r.load.generation)) + length (waiting_out r.out)
  pub table : (key : Bytes) → within keys key ≡ true → table_in texts (served_entries texts r) key ≡ after_line (line_to (renamed decoded (whole Group copies log)) r.load.generation) empty_table key
