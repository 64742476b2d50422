-- What is owed by the servers of a range over any streams: the premises, and that a served range's tables are the table of the
-- line that ends at its log position.
use Rattle.std.specs.Prelude.{◌≡◌, ℕ, suc, ◌+◌, max, Bool, true, false, List, [], ◌∷◌, ◌++◌, length, Option, Some, if◌then◌else◌, ◌==◌}
use Rattle.wire.specs.declared.actor.ActorId.{ActorId}
use Rattle.wire.specs.declared.actor.ActorId.TheVariants.{Map}
use Rattle.wire.specs.declared.body.Body.{Body}
use Rattle.wire.specs.declared.body.Body.TheVariants as bodies
use Rattle.wire.specs.declared.body.MapBody.TheVariants as maps
use Rattle.wire.specs.declared.note.Note.{Note}
use Rattle.wire.specs.declared.note.Note.TheVariants.{Began, Done, Loaded, Got}
use Rattle.wire.specs.declared.rows.Row.{Row}
use Rattle.commitlog.specs.Replay.{Numbered}
use Rattle.model_streams.specs.Maps.{entry_at}
use Rattle.model_partition.specs.declared.table_note.TableNote.{TableNote}
use Rattle.model_partition.specs.declared.table_note.TableNote.TheVariants as tables
use Rattle.model_histories.specs.Log.{line_shown}
use Rattle.model_partition.specs.Past.{Bytes, stored, after_line, empty_table, first_range}
use Rattle.model_histories.specs.Story.{Copy, Placed, StreamEvent, Made, Answered, Showed, Story, event_at, whole, KeepsOrder, EndsRise}
use Rattle.model_partition.specs.Range.{RangeState, waiting_out, is_serving}
use Rattle.model_partition.specs.Loading.{Group}
use Rattle.model_histories.specs.IndexContents.{entries_in, served_entries}
use Rattle.model_partition.specs.Server.{ServerState, range_of}
use Rattle.model_partition.specs.Servers.{ServerCell}
use Rattle.model_histories.specs.Renaming.{renamed, decoded}
use Rattle.model_histories.specs.TableContents.{StandsAt, table_in}
use Rattle.model_histories.specs.StreamActions.{PlacedBytes}
use Rattle.model_histories.specs.ServerRun.{ServerRun, ServerEvent, Takes, Builds, log_name, metadata_name, place_number}

-- ---- premises

-- the map assigns the first range alone
abbrev pub IsOfFirst : ActorId → Body → Type 0
IsOfFirst Map (bodies.Map (maps.Assign range generation until)) = range ≡ first_range
IsOfFirst from body = Unit {0}

abbrev pub IsFirst : ServerEvent → Type 0
IsFirst (Takes server p) = IsOfFirst p.from p.body
IsFirst event = Unit {0}

abbrev pub AreFirst : List ServerEvent → Type 0
AreFirst [] = Unit {0}
AreFirst (event ∷ earlier) = IsFirst event × AreFirst earlier

-- The map gives the number of a range to neither of the two that a split makes, and its streams are built of no other's.
abbrev pub IsOfOthers : ℕ → ActorId → Body → Type 0
IsOfOthers range Map (bodies.Map (maps.SplitBegun w low high)) = (low ≡ range → ⊥) × (high ≡ range → ⊥)
IsOfOthers range from body = Unit {0}

abbrev pub IsUnborn : ℕ → ServerEvent → Type 0
IsUnborn range (Takes server p) = IsOfOthers range p.from p.body
IsUnborn range (Builds source other) = other ≡ range → ⊥
IsUnborn range event = Unit {0}

abbrev pub AreUnborn : ℕ → List ServerEvent → Type 0
AreUnborn range [] = Unit {0}
AreUnborn range (event ∷ earlier) = IsUnborn range event × AreUnborn range earlier

-- no generation is confirmed twice
abbrev pub LoadsOnce : {A : Type 0} → Story A → Type 0
LoadsOnce {A} story = (l m g start end start' end' : ℕ) (groups groups' : List (Placed A)) →
    event_at story l ≡ Some (Showed g start end groups) → event_at story m ≡ Some (Showed g start' end' groups') → l ≡ m

-- each of these bytes stands in the text of its extent
abbrev pub AllStand : (ℕ → Bytes) → List PlacedBytes → Type 0
AllStand texts [] = Unit {0}
AllStand texts (p ∷ placed) = StandsAt (texts p.extent) p.offset p.bytes × AllStand texts placed

-- What is premised of the streams of a range, as their servers see them: the stories of its metadata and of its log keep their
-- order, no generation is confirmed twice, loads of the log end in the order of their generations, and what reads were shown and appends
-- were answered for keeps its bytes.
pub record StreamsInOrder (texts : ℕ → Bytes) (range : ℕ) (x : ServerRun) : Type 0 where
  pub metadata : KeepsOrder (x.story (metadata_name range))
  pub log : KeepsOrder (x.story (log_name range))
  pub once : LoadsOnce (x.story (log_name range))
  pub ends : EndsRise (x.story (log_name range))
  pub shown : AllStand texts (x.shown range)
  pub answered : AllStand texts (x.answered range)

-- ---- what servers show

-- An observation of a server as it is seen: a loaded table shows what its memory table and its indexes have over these texts.
abbrev pub IsSeenAs : (ℕ → Bytes) → TableNote → Note → Type 0
IsSeenAs texts (tables.Began range generation number changes) note = note ≡ Began range generation number changes
IsSeenAs texts (tables.Done range generation number) note = note ≡ Done range generation number
IsSeenAs texts (tables.Loaded range generation table next) note =
    (rows : List Row) × (note ≡ Loaded range generation rows next) × ((key : Bytes) → stored rows key ≡ table_in texts (entries_in texts table) key)
IsSeenAs texts (tables.Got range generation key value) note = note ≡ Got range generation key value

-- one by one
abbrev pub AreSeenAs : (ℕ → Bytes) → List TableNote → List Note → Type 0
AreSeenAs texts [] [] = Unit {0}
AreSeenAs texts (told ∷ more) (note ∷ notes) = IsSeenAs texts told note × AreSeenAs texts more notes
AreSeenAs texts told notes = ⊥

-- ---- the line of a generation

-- what a group adds that was formed under this generation
abbrev pub items_under : {A : Type 0} → ℕ → Option (StreamEvent (Numbered A)) → List A
items_under g (Some (Made g' group)) = if g == g' then group.items else []
items_under g event = []

-- the line that a generation has come to: what its load makes, and then each of its groups that was answered
abbrev pub line_to : {A : Type 0} → Story (Numbered A) → ℕ → List A
line_to [] g = []
line_to (Made g' group ∷ earlier) g = line_to earlier g
line_to (Answered append from to ∷ earlier) g = line_to earlier g ++ items_under g (event_at earlier append)
line_to (Showed g' start end groups ∷ earlier) g = if g == g' then line_shown groups else line_to earlier g

abbrev pub is_under : {A : Type 0} → ℕ → Option (StreamEvent A) → Bool
is_under g (Some (Made g' group)) = g == g'
is_under g event = false

-- where that line ends: behind the last of its groups that was answered, or where its load ended
abbrev pub end_to : {A : Type 0} → Story A → ℕ → ℕ
end_to [] g = 0
end_to (Made g' group ∷ earlier) g = end_to earlier g
end_to (Answered append from to ∷ earlier) g = if is_under g (event_at earlier append) then to else end_to earlier g
end_to (Showed g' start end groups ∷ earlier) g = if g == g' then max start end else end_to earlier g

-- The tables of a range together, its indexes among them, are the table of the line that ends at its log position, and the next number
-- is the one after that line and what is out. Each load is taken for all of its copies, also those before the place that it began at.
pub record IsAtLine (texts : ℕ → Bytes) (log : Story Group) (copies : ℕ → List (Copy Group)) (r : RangeState) : Type 0 where
  pub position : place_number r.position ≡ end_to log r.load.generation
  pub next : r.next ≡ suc (length (line_to (renamed decoded (whole Group copies log)) r.load.generation)) + length (waiting_out r.out)
  pub table : (key : Bytes) → table_in texts (served_entries texts r) key ≡ after_line (line_to (renamed decoded (whole Group copies log)) r.load.generation) empty_table key

-- a server that runs serves a range
pub record ServesAt (x : ServerRun) (server range : ℕ) (r : RangeState) : Type 0 where
  pub cell : ServerCell
  pub state : ServerState
  pub there : entry_at x.servers server ≡ Some cell
  pub runs : cell.state ≡ Some state
  pub held : range_of state.ranges range ≡ Some r
  pub serves : is_serving r.stage ≡ true
