-- What a memory table says of keys, where the bytes of extents are known.
use Rattle.std.specs.Prelude.{◌≡◌, ℕ, List, [], ◌∷◌, ◌++◌, length, take, drop, Option, Some, None}
use Rattle.wire.specs.declared.note.Note.{Note}
use Rattle.wire.specs.declared.note.Note.TheVariants.{Acked, SealedAt, Content, Seen, Began, Done, Loaded, Got, Split, Merged}
use Rattle.replica.specs.Groups.{joined, text}
use Rattle.memtable.specs.declared.cell.Cell.{Cell}
use Rattle.memtable.specs.declared.cell.Cell.TheVariants.{Deleted, Inline, Placed}
use Rattle.memtable.specs.Entries.{Entries, found}
use Rattle.model_partition.specs.Past.{Bytes, Table}

-- the bytes stand at an offset of a text
pub record StandsAt (text : Bytes) (offset : ℕ) (bytes : Bytes) : Type 0 where
  pub before : Bytes
  pub behind : Bytes
  pub is : text ≡ before ++ (bytes ++ behind)
  pub at : length before ≡ offset

module _ (texts : ℕ → Bytes) where
  -- the value of a cell, where each extent has this text
  abbrev pub value_in : Cell → Option Bytes
  value_in Deleted = None
  value_in (Inline value) = Some value
  value_in (Placed place) = Some (take place.length (drop place.offset (texts place.extent)))

  abbrev pub value_of : Option Cell → Option Bytes
  value_of None = None
  value_of (Some cell) = value_in cell

  -- the table of a layer
  abbrev pub table_in : Entries → Table
  table_in entries key = value_of (found entries key)

-- ---- observations

-- what this observation shows of an extent stands in its text
abbrev pub TellsRightly : (ℕ → Bytes) → Note → Type 0
TellsRightly texts (Acked e offset group) = StandsAt (texts e) offset (joined group)
TellsRightly texts (Content e node groups) = StandsAt (texts e) 0 (text groups)
TellsRightly texts (Seen e node offset bytes) = StandsAt (texts e) offset bytes
TellsRightly texts (SealedAt e length) = Unit {0}
TellsRightly texts (Began range generation number changes) = Unit {0}
TellsRightly texts (Done range generation number) = Unit {0}
TellsRightly texts (Loaded range generation rows next) = Unit {0}
TellsRightly texts (Got range generation key value) = Unit {0}
TellsRightly texts (Split range low high key) = Unit {0}
TellsRightly texts (Merged left right range) = Unit {0}

abbrev pub AllTellRightly : (ℕ → Bytes) → List Note → Type 0
AllTellRightly texts [] = Unit {0}
AllTellRightly texts (note ∷ notes) = TellsRightly texts note × AllTellRightly texts notes
