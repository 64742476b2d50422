-- Gets that the ranges of a family answer: each shows what is stored under its key in the table of the line that its generation had come to.
use Rattle.std.specs.Prelude.{◌≡◌, ℕ, ◌≤◌, true, List, [], ◌∷◌, ◌++◌, Option, Contains}
use Rattle.wire.specs.declared.note.Note.{Note}
use Rattle.wire.specs.declared.note.Note.TheVariants.{Loaded, Got}
use Rattle.wire.specs.declared.rows.Row.{Row}
use Rattle.memtable.specs.declared.cell.Place.{Place}
use Rattle.commitlog.specs.Replay.{Numbered as Group}
use Rattle.model_histories.specs.Log.{is_of, only}
use Rattle.model_histories.specs.ServedTables.{line_to}
use Rattle.model_histories.specs.Story.{Story, whole}
use Rattle.model_partition.specs.Past.{Bytes, Transaction, empty_table, after_line, kept, keys_of, kin, Replays}
use Rattle.model_partition.specs.Served.{Served}
use Rattle.laws_tables.specs.Families.{IsFamily, IsToldIn, generation_of}
use Rattle.laws_tables.specs.Layers.{Layer}
use Rattle.laws_tables.specs.Runs.{Run, log_of}

module _ (layer_at : Place → Layer) (h : List Note) (family : IsFamily layer_at h) where
  -- the log's story as a run of the range has it, each load of which shows the whole log
  abbrev pub whole_log : ℕ → Run → Story (Group Transaction)
  whole_log r run = whole (Group Transaction) (family.range r).log.copies (log_of run)

  -- A Get of a range under a generation, answered after these observations: at a moment of the range's own run at which these were what was
  -- observed of it, nothing of it had been told under a higher generation, nor anything of a range that it is an ancestor of.
  pub record IsRead (before : List Note) (r g : ℕ) (key : Bytes) (value : Option Bytes) : Type 0 where
    pub early : Run
    pub late : Run
    pub parts : family.own r ≡ late ++ early
    pub told : IsToldIn before (family.rows r) r (family.taken r) (early ++ family.taken r)
    pub loaded : (rows : List Row) × (next : ℕ) × Contains before (Loaded r g rows next)
    pub highest : (note : Note) → Contains before note → is_of r note ≡ true → generation_of note ≤ g
    pub alone : (r' : ℕ) → Contains (kin h r') r → (r' ≡ r → ⊥) → only r' before ≡ []
    pub shows : value ≡ kept (keys_of h r) (after_line (line_to (whole_log r (early ++ family.taken r)) g) empty_table) key

  abbrev pub AreReads : Type 0
  AreReads = (before after : List Note) (r g : ℕ) (key : Bytes) (value : Option Bytes) → h ≡ before ++ Got r g key value ∷ after → IsRead before r g key value

-- what a family owes to those who see it
pub record ReplaysAndServes (h : List Note) : Type 0 where
  pub replays : Replays h
  pub served : Served h replays.past
