-- The table: what a record makes of it, whether a record fits it, and what it tells of the streams of a range.
use Rattle.std.specs.Prelude.{◌≡◌, ◌<◌, ◌≤◌, ℕ, zero, suc, Bool, true, false, not, ◌&&◌, ◌==◌, List, [], ◌∷◌, ◌++◌, length, map, Option, Some, None, slice_set}
use Rattle.block_types.specs.declared.record.Nodes.{Nodes}
use Rattle.wire.specs.declared.streams.Modify.{Modify}
use Rattle.wire.specs.declared.streams.StreamLists.{StreamLists}
use Rattle.wire.specs.declared.streams.StreamName.{StreamName}
use Rattle.streams.specs.Streams.{Stream, Streams, stream_of, create_fault, created, open_fault, opened, extended, last_of, trimmed, modified, modify_fault}
use Rattle.streams.specs.Table.{StreamTableState, streams_of, streams_with, HasRoom, HasRoomToTrim}
use Rattle.model_streams.specs.declared.extent.Extent.{Extent}
use Rattle.model_streams.specs.declared.manager_record.ManagerRecord.{ManagerRecord}
use Rattle.model_streams.specs.declared.manager_record.ManagerRecord.TheVariants.{First, CreateStream, OpenStreams, Extend, Seal, Trim, MultiModify}
use Rattle.model_streams.specs.Maps.{entry_at}
use Rattle.model_streams.specs.Manager.{Catalog, first_streams, forgotten, new_extent, sealed_to, sealed_in, is_there, is_pick, told_stream}
use Rattle.model_streams.specs.Replay.{is_closed, seal_fits, trim_fits}

-- the streams, and the extents, numbered from 1
pub record ManagerTableState : Type 0 where
  pub nodes : ℕ
  pub target : ℕ
  pub streams : Streams
  pub extents : List Extent

-- the table as the code has it, perhaps with streams that are built beside it; so many extents may be added without memory
pub record ManagerTableValue : Type 0 where
  pub nodes : ℕ
  pub target : ℕ
  pub streams : StreamTableState
  pub built : Option StreamTableState
  pub extents : List Extent
  pub room : ℕ

abbrev pub plain : ManagerTableValue → ManagerTableState
plain t = record { nodes = t.nodes; target = t.target; streams = streams_of t.streams; extents = t.extents }

abbrev pub first_table : ℕ → ℕ → ManagerTableState
first_table nodes target = record { nodes = nodes; target = target; streams = first_streams; extents = [] }

-- with another extent of that number, where there is one
abbrev pub with_entry : ManagerTableState → ℕ → Extent → ManagerTableState
with_entry t zero x = t
with_entry t (suc n) x = record t { extents = slice_set t.extents n x }

-- without what a stop drops
abbrev pub forgotten_table : ManagerTableState → ManagerTableState
forgotten_table t = record t { extents = map forgotten t.extents }

-- the lengths of the extents that are sealed
abbrev pub sealed_at : List Extent → ℕ → Option ℕ
sealed_at extents e = sealed_in (entry_at extents e)

-- the model's catalog says what the table says
pub record SameCatalog (t : ManagerTableState) (b : Catalog) : Type 0 where
  pub nodes : b.nodes ≡ t.nodes
  pub target : b.target ≡ t.target
  pub count : b.count ≡ length t.extents
  pub stream : (range kind : ℕ) → b.stream range kind ≡ t.streams range kind
  pub extent : (e : ℕ) → b.extent e ≡ entry_at t.extents e

-- ---- records

abbrev pub longer_extents : List Extent → Option Stream → Nodes → List Extent
longer_extents extents None pick = extents
longer_extents extents (Some x) pick = extents ++ new_extent pick x.fence ∷ []

-- with one more extent at the end of a stream, where there is the stream
abbrev pub longer : ManagerTableState → StreamName → Nodes → ManagerTableState
longer t s pick =
    record t {
      streams = extended t.streams s (suc (length t.extents));
      extents = longer_extents t.extents (stream_of t.streams s) pick;
    }

abbrev pub closed_if : ManagerTableState → ℕ → Option Extent → ℕ → ManagerTableState
closed_if t e None length = t
closed_if t e (Some x) length = with_entry t e (sealed_to x length)

-- what a record makes of the table
abbrev pub table_after : ManagerTableState → ManagerRecord → ManagerTableState
table_after t (First nodes target) = t
table_after t (CreateStream s fence) = record t { streams = created t.streams s fence }
table_after t (OpenStreams range generation) = record t { streams = opened t.streams range generation }
table_after t (Extend s generation pick) = longer t s pick
table_after t (Seal e length) = closed_if t e (entry_at t.extents e) length
table_after t (Trim range before to_blob) = record t { streams = trimmed t.streams range before to_blob }
table_after t (MultiModify list) = record t { streams = modified t.streams list }

abbrev pub may_lengthen : List Extent → Option ℕ → Bool
may_lengthen extents None = true
may_lengthen extents (Some e) = is_closed (entry_at extents e)

abbrev pub lengthens : List Extent → ℕ → Option Stream → Bool
lengthens extents generation None = false
lengthens extents generation (Some x) = (generation == x.fence) && may_lengthen extents (last_of x.extents)

-- whether the manager may write a record where its table is this
abbrev pub table_fits : ManagerTableState → ManagerRecord → Bool
table_fits t (First nodes target) = false
table_fits t (CreateStream s fence) = not (is_there (create_fault t.streams s))
table_fits t (OpenStreams range generation) = not (is_there (open_fault t.streams range generation))
table_fits t (Extend s generation pick) = is_pick t.nodes pick && lengthens t.extents generation (stream_of t.streams s)
table_fits t (Seal e length) = seal_fits (entry_at t.extents e)
table_fits t (Trim range before to_blob) = trim_fits (t.streams range 1) (t.streams range 3) before
table_fits t (MultiModify list) = not (is_there (modify_fault (sealed_at t.extents) t.streams list))

-- where there is the extent, with this length or open
abbrev pub lengthened_if : ManagerTableState → ℕ → Option Extent → Option ℕ → ManagerTableState
lengthened_if t e None sealed = t
lengthened_if t e (Some x) sealed = with_entry t e (record x { sealed = sealed })

-- The room that a record needs: the length of an extent that is to be sealed stands from then on.
abbrev pub with_room : ManagerTableState → ManagerRecord → ManagerTableState
with_room t (First nodes target) = t
with_room t (CreateStream s fence) = t
with_room t (OpenStreams range generation) = t
with_room t (Extend s generation pick) = t
with_room t (Seal e length) = lengthened_if t e (entry_at t.extents e) (Some length)
with_room t (Trim range before to_blob) = t
with_room t (MultiModify list) = t

-- without that room: the extent is open
abbrev pub without_room : ManagerTableState → ManagerRecord → ManagerTableState
without_room t (First nodes target) = t
without_room t (CreateStream s fence) = t
without_room t (OpenStreams range generation) = t
without_room t (Extend s generation pick) = t
without_room t (Seal e length) = lengthened_if t e (entry_at t.extents e) None
without_room t (Trim range before to_blob) = t
without_room t (MultiModify list) = t

abbrev pub HasLength : Option Extent → ℕ → Type 0
HasLength None length = Unit {0}
HasLength (Some x) length = x.sealed ≡ Some length

-- who asked for its seal is forgotten
abbrev pub unasked_if : ManagerTableState → ℕ → Option Extent → ManagerTableState
unasked_if t e None = t
unasked_if t e (Some x) = with_entry t e (record x { asker = None })

-- the streams of a list are built beside these, and may be put among them without memory
abbrev pub AreBuilt : StreamTableState → Option StreamTableState → List Modify → Type 0
AreBuilt t None list = ⊥
AreBuilt t (Some made) list = (streams_with t made ≡ modified (streams_of t) list) × (length made.entries ≤ t.room)

-- what a record adds takes no memory
abbrev pub HasRoomFor : ManagerTableValue → ManagerRecord → Type 0
HasRoomFor t (First nodes target) = Unit {0}
HasRoomFor t (CreateStream s fence) = 0 < t.streams.room
HasRoomFor t (OpenStreams range generation) = Unit {0}
HasRoomFor t (Extend s generation pick) = (0 < t.room) × HasRoom t.streams s
HasRoomFor t (Seal e length) = HasLength (entry_at t.extents e) length
HasRoomFor t (Trim range before to_blob) = HasRoomToTrim t.streams range before to_blob
HasRoomFor t (MultiModify list) = AreBuilt t.streams t.built list

-- ---- what it tells

-- the extents of the four streams of a range
abbrev pub told_lists : ManagerTableState → ℕ → StreamLists
told_lists t range =
    record {
      metadata = told_stream (entry_at t.extents) (t.streams range 0);
      log = told_stream (entry_at t.extents) (t.streams range 1);
      row_data = told_stream (entry_at t.extents) (t.streams range 2);
      blob_data = told_stream (entry_at t.extents) (t.streams range 3);
    }
