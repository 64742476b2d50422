-- A table of streams as the code has it: a list of them, in the order of their names.
use Rattle.std.specs.Prelude.{◌≡◌, ℕ, ◌+◌, ◌*◌, ◌<◌, ◌≤◌, Bool, ◌&&◌, ◌==◌, List, [], ◌∷◌, length, Option, Some, None, option_map, if◌then◌else◌, slice_index_or, slice_get, slice_set, true, nat_lt, Contains}
use Rattle.wire.specs.declared.streams.StreamName.{StreamName}
use Rattle.streams.specs.declared.fences.Fences.{Fences}
use Rattle.streams.specs.Streams.{Stream, Streams, kind_number, stream_of, with_stream, is_there, leaving, with_extents}

-- a stream under its name; so many extents may be added at its end without memory
pub record Entry : Type 0 where
  pub name : StreamName
  pub stream : Stream
  pub room : ℕ

abbrev pub has_name : ℕ → ℕ → Entry → Bool
has_name range kind x = (range == x.name.range) && (kind == kind_number x.name.kind)

-- the first one with this name
abbrev pub found : List Entry → ℕ → ℕ → Option Entry
found [] range kind = None
found (x ∷ entries) range kind = if has_name range kind x then Some x else found entries range kind

abbrev pub streams_in : List Entry → Streams
streams_in entries range kind = option_map (λ x. x.stream) (found entries range kind)

abbrev pub room_of : Option Entry → ℕ
room_of None = 0
room_of (Some x) = x.room

-- What a caller sees of a table: its streams, and how many may be added without memory.
pub record StreamTableState : Type 0 where
  pub entries : List Entry
  pub room : ℕ

abbrev pub streams_of : StreamTableState → Streams
streams_of t = streams_in t.entries

abbrev pub no_streams : Streams
no_streams range kind = None

-- one more extent may be added to the stream without memory, if there is the stream
abbrev pub HasRoomIn : List Entry → StreamName → Type 0
HasRoomIn entries s = is_there (stream_of (streams_in entries) s) ≡ true → 0 < room_of (found entries s.range (kind_number s.kind))

abbrev pub HasRoom : StreamTableState → StreamName → Type 0
HasRoom t s = HasRoomIn t.entries s

-- the log's extents below an index may be added to the blob stream without memory, where there are both streams
abbrev pub room_needed : Option Stream → ℕ → ℕ
room_needed None before = 0
room_needed (Some log) before = length (leaving before log)

abbrev pub HasRoomToTrimIn : List Entry → ℕ → ℕ → Type 0
HasRoomToTrimIn entries range before =
    is_there (streams_in entries range 3) ≡ true → room_needed (streams_in entries range 1) before ≤ room_of (found entries range 3)

abbrev pub HasRoomToTrim : StreamTableState → ℕ → ℕ → Bool → Type 0
HasRoomToTrim t range before to_blob = to_blob ≡ true → HasRoomToTrimIn t.entries range before

-- the extents of the stream at a place below an index stand at the end of the one at another place, and nothing else has changed
-- but its room
pub record IsKept (entries new : List Entry) (from to before : ℕ) : Type 0 where
  pub entry : Entry
  pub changed : new ≡ slice_set entries to entry
  pub name : (d : Entry) → let x = slice_index_or entries to d in entry.name ≡ x.name
  pub stream : (d : Entry) → let log = slice_index_or entries from d in let x = slice_index_or entries to d in
      entry.stream ≡ with_extents (leaving before log.stream) x.stream

-- ---- streams that are built beside a table

-- that these extents have left it at the front
abbrev pub with_gone : List ℕ → Stream → Stream
with_gone gone x = record x { gone = gone }

abbrev pub first_of_two : Option Stream → Option Stream → Option Stream
first_of_two None other = other
first_of_two (Some x) other = Some x

-- streams, and those of others whose names none of them has
abbrev pub streams_over : Streams → Streams → Streams
streams_over built streams range kind = first_of_two (built range kind) (streams range kind)

-- a table's streams, and over them those that were built beside it
abbrev pub streams_with : StreamTableState → StreamTableState → Streams
streams_with t built = streams_over (streams_of built) (streams_of t)

-- ---- what stands in no list any more

abbrev pub HasGone : List Entry → ℕ → Type 0
HasGone entries e = (x : Entry) × Contains entries x × Contains x.stream.gone e

abbrev pub IsListed : List Entry → ℕ → Type 0
IsListed entries e = (x : Entry) × Contains entries x × Contains x.stream.extents e

abbrev pub IsAscendingList : List ℕ → Type 0
IsAscendingList es = (i j e f : ℕ) → i < j → slice_get es i ≡ Some e → slice_get es j ≡ Some f → e < f

-- in ascending order all extents that have left a stream and stand in none now
pub record IsGarbage (entries : List Entry) (es : List ℕ) : Type 0 where
  pub ascending : IsAscendingList es
  pub each : (e : ℕ) → Contains es e → HasGone entries e × (IsListed entries e → ⊥)
  pub all : (e : ℕ) → HasGone entries e → (IsListed entries e → ⊥) → Contains es e

-- with another fence, where there is the stream
abbrev pub fenced_if : Streams → StreamName → ℕ → Option Stream → Streams
fenced_if streams s fence None = streams
fenced_if streams s fence (Some x) = with_stream streams s (record x { fence = fence })

abbrev pub fenced : Streams → StreamName → ℕ → Streams
fenced streams s fence = fenced_if streams s fence (stream_of streams s)

-- ---- the fences of a range

abbrev pub fences_from : Option ℕ → Option ℕ → Option ℕ → Option ℕ → Option Fences
fences_from (Some a) (Some b) (Some c) (Some d) = Some (record { metadata = a; log = b; row_data = c; blob_data = d })
fences_from (Some a) (Some b) (Some c) None = None
fences_from (Some a) (Some b) None d = None
fences_from (Some a) None c d = None
fences_from None b c d = None

abbrev pub fence_of : Option Stream → Option ℕ
fence_of x = option_map (λ x. x.fence) x

-- those of the four, if the four are there
abbrev pub fences_of : Streams → ℕ → Option Fences
fences_of streams range =
    fences_from (fence_of (streams range 0)) (fence_of (streams range 1)) (fence_of (streams range 2)) (fence_of (streams range 3))

abbrev pub are_below : Fences → ℕ → Bool
are_below x generation =
    nat_lt x.metadata generation && (nat_lt x.log generation && (nat_lt x.row_data generation && nat_lt x.blob_data generation))

abbrev pub are_all : Fences → ℕ → Bool
are_all x generation =
    (x.metadata == generation) && ((x.log == generation) && ((x.row_data == generation) && (x.blob_data == generation)))

-- ---- the order of names

-- the streams of a range stand side by side
abbrev pub key_of : StreamName → ℕ
key_of s = s.range * 4 + kind_number s.kind

abbrev pub key_at : List Entry → ℕ → Entry → ℕ
key_at entries i d = let x = slice_index_or entries i d in key_of x.name

abbrev pub IsStrictlySorted : List Entry → Type 0
IsStrictlySorted entries = (i j : ℕ) (d : Entry) → i < j → j < length entries → key_at entries i d < key_at entries j d

-- the entry at this place has the key
pub record IsAt (entries : List Entry) (key i : ℕ) : Type 0 where
  pub in_range : i < length entries
  pub has_key : (d : Entry) → key_at entries i d ≡ key

-- a new entry with the key belongs here: smaller keys before it, and greater ones from it on
pub record IsGapFor (entries : List Entry) (key i : ℕ) : Type 0 where
  pub in_range : i ≤ length entries
  pub smaller_before : (j : ℕ) (d : Entry) → j < i → key_at entries j d < key
  pub greater_after : (j : ℕ) (d : Entry) → i ≤ j → j < length entries → key < key_at entries j d
