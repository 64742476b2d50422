-- What servers do to the tables of a range and of those that it was split from, with checkpoints: their events, the stories of the
-- log and of the metadata, what each incarnation holds, and what is observed. Generations rise along such a chain of owners, so
-- that a generation names an incarnation.
use Rattle.std.specs.Prelude.{◌≡◌, ℕ, suc, ◌+◌, ◌-◌, ◌<◌, ◌≤◌, Bool, true, false, List, [], ◌∷◌, ◌++◌, length, map, drop, Option, Some, None, if◌then◌else◌, ◌==◌, ◌⊎◌, nat_lt, Contains}
use Rattle.wire.specs.declared.note.Note.{Note}
use Rattle.wire.specs.declared.note.Note.TheVariants.{Loaded}
use Rattle.wire.specs.declared.rows.Row.{Row}
use Rattle.streams.specs.declared.table.Position.{Position}
use Rattle.memtable.specs.declared.cell.Place.{Place}
use Rattle.commitlog.specs.Replay.{Numbered as Group}
use Rattle.metadata.specs.declared.record.KeyRange.{KeyRange}
use Rattle.metadata.specs.declared.record.Region.{Region}
use Rattle.metadata.specs.declared.record.MetaItem.{MetaItem}
use Rattle.metadata.specs.declared.record.MetaItem.TheVariants.{Ranges, Checkpoint, SplitStatus}
use Rattle.metadata.specs.Fold.{MetadataState, first_metadata, all_keys, taken}
use Rattle.metadata.specs.Keys.{within}
use Rattle.model_partition.specs.Lines.{next_after, StandsIn}
use Rattle.model_histories.specs.Log.{line_shown, begins_of, dones_at}
use Rattle.model_partition.specs.Past.{Bytes, Transaction, Table, empty_table, after_line, stored, kept, IsPrefixOf}
use Rattle.model_histories.specs.ServerRun.{place_number}
use Rattle.model_histories.specs.Story.{Placed, Made, Answered, Showed, Story, event_at}
use Rattle.model_histories.specs.StreamActions.{first_start}
use Rattle.laws_tables.specs.Layers.{Layer, empty_layer, over, flat, indexed, layer_line}
use Rattle.laws_tables.specs.Through.{OutAppend, IsLoaded}

-- ---- events

-- Loads, appends to the log and to the metadata, and their answers are seen in the two stories.
pub data Event : Type 0 where
  -- a group is formed, and its append to the log begins; that append is answered
  Forms : (generation : ℕ) (group : Group Transaction) → Event
  Logged : (generation append from to : ℕ) → Event
  -- a checkpoint begins: position and next number are noted, and the live layer becomes the fixed one
  Notes : (generation : ℕ) → Event
  -- a record is sent to the metadata; it is answered
  Records : (generation number : ℕ) (item : MetaItem) → Event
  Recorded : (generation append from to : ℕ) → Event
  -- a Trim of all that stands before a place is sent: it is taken never, once or often, now or later
  Trims : (generation place : ℕ) → Event
  -- a load is confirmed: the log from a start up to an end, and all of the metadata
  Confirms : (generation start end : ℕ) (groups : List (Placed (Group Transaction))) (metadata_end : ℕ) (records : List (Placed (Group MetaItem))) → Event

-- the newest first
abbrev pub Run : Type 0
Run = List Event

abbrev pub log_of : Run → Story (Group Transaction)
log_of [] = []
log_of (Forms g group ∷ earlier) = Made g group ∷ log_of earlier
log_of (Logged g append from to ∷ earlier) = Answered append from to ∷ log_of earlier
log_of (Confirms g start end groups metadata_end records ∷ earlier) = Showed g start end groups ∷ log_of earlier
log_of (e ∷ earlier) = log_of earlier

-- a record of the metadata is a group of one item
abbrev pub record_group : ℕ → MetaItem → Group MetaItem
record_group number item = record { first = number; items = item ∷ [] }

abbrev pub meta_of : Run → Story (Group MetaItem)
meta_of [] = []
meta_of (Records g number item ∷ earlier) = Made g (record_group number item) ∷ meta_of earlier
meta_of (Recorded g append from to ∷ earlier) = Answered append from to ∷ meta_of earlier
meta_of (Confirms g start end groups metadata_end records ∷ earlier) = Showed g 0 metadata_end records ∷ meta_of earlier
meta_of (e ∷ earlier) = meta_of earlier

-- ---- where a chain begins

-- the table of its first indexes, the first place of its log, and what its metadata says before the first record
pub record Beginning : Type 0 where
  pub table : Table
  pub place : ℕ
  pub metadata : MetadataState

-- that of the first range
abbrev pub first_beginning : Beginning
first_beginning = record { table = empty_table; place = 0; metadata = first_metadata }

-- the place from which on the log is replayed, and the number that comes first
abbrev pub start_number : List Region → ℕ
start_number regions = place_number (first_start regions)

abbrev pub first_next : List Region → ℕ
first_next [] = 1
first_next (region ∷ regions) = region.next

pub record IsBeginning (layer_at : Place → Layer) (b : Beginning) : Type 0 where
  pub place : start_number b.metadata.regions ≡ b.place
  pub next : first_next b.metadata.regions ≡ 1
  pub table : (key : Bytes) → within b.metadata.keys key ≡ true → flat (indexed layer_at b.metadata.indexes key) ≡ b.table key

-- what a line of records says, from what was said before it
abbrev pub fold_of : MetadataState → List MetaItem → MetadataState
fold_of m [] = m
fold_of m (item ∷ items) = fold_of (taken m item) items

-- what replay adds, for a server that knows the next number alone
abbrev pub added : {A : Type 0} → ℕ → List (Group A) → List A
added next [] = []
added next (group ∷ groups) = drop (next - group.first) group.items ++ added (next + length (drop (next - group.first) group.items)) groups

abbrev pub greater : ℕ → ℕ → ℕ
greater m n = if nat_lt m n then n else m

-- ---- what an incarnation holds

-- what a checkpoint has noted
pub record NotedPosition : Type 0 where
  pub place : ℕ
  pub next : ℕ

pub record Serving : Type 0 where
  pub position : ℕ
  pub next : ℕ
  -- the append that is out
  pub out : Option (OutAppend Transaction)
  pub live : Layer
  pub fixed : Layer
  -- the checkpoint that is under way
  pub noted : Option NotedPosition
  -- the line of its metadata, and the record that is out
  pub records : List MetaItem
  pub record_out : Option (OutAppend MetaItem)

abbrev pub nothing_held : Serving
nothing_held =
    record {
      position = 0;
      next = 1;
      out = None;
      live = empty_layer;
      fixed = empty_layer;
      noted = None;
      records = [];
      record_out = None;
    }

abbrev pub items_out : {A : Type 0} → Option (OutAppend A) → List A
items_out None = []
items_out (Some out) = out.group.items

-- while a group is out, its first number
abbrev pub noted_next : Option (OutAppend Transaction) → ℕ → ℕ
noted_next None next = next
noted_next (Some out) next = out.group.first

abbrev pub formed : ℕ → Group Transaction → Serving → Serving
formed append group s = record s { next = next_after group; out = Some (record { append = append; group = group }) }

abbrev pub logged : ℕ → Serving → Serving
logged to s = record s { position = to; out = None; live = layer_line (items_out s.out) s.live }

abbrev pub noting : Serving → Serving
noting s = record s { live = empty_layer; fixed = s.live; noted = Some (record { place = s.position; next = noted_next s.out s.next }) }

abbrev pub recording : ℕ → Group MetaItem → Serving → Serving
recording append group s = record s { record_out = Some (record { append = append; group = group }) }

abbrev pub recorded : Serving → Serving
recorded s = record s { fixed = empty_layer; noted = None; records = s.records ++ items_out s.record_out; record_out = None }

-- what a load shows
pub record ShownLoad : Type 0 where
  pub rows : List Row
  pub keys : KeyRange
  pub next : ℕ

module _ (b : Beginning) where
  -- what the metadata says
  abbrev pub said : List MetaItem → MetadataState
  said records = fold_of b.metadata records

  -- the transactions that a load replays
  abbrev pub replayed_by : List (Placed (Group Transaction)) → List (Placed (Group MetaItem)) → List Transaction
  replayed_by groups records = added (first_next (said (line_shown records)).regions) (map (λ p. p.group) groups)

  abbrev pub next_loaded : List (Placed (Group Transaction)) → List (Placed (Group MetaItem)) → ℕ
  next_loaded groups records = first_next (said (line_shown records)).regions + length (replayed_by groups records)

  -- the layers of a load, as one
  abbrev pub loaded_layer : (Place → Layer) → List (Placed (Group Transaction)) → List (Placed (Group MetaItem)) → Layer
  loaded_layer layer_at groups records = over (layer_line (replayed_by groups records) empty_layer) (indexed layer_at (said (line_shown records)).indexes)

  abbrev pub confirmed : ℕ → ℕ → List (Placed (Group Transaction)) → List (Placed (Group MetaItem)) → Serving
  confirmed start end groups records =
      record {
        position = greater end start;
        next = next_loaded groups records;
        out = None;
        live = layer_line (replayed_by groups records) empty_layer;
        fixed = empty_layer;
        noted = None;
        records = line_shown records;
        record_out = None;
      }

  -- what the server of a generation holds
  abbrev pub held : Run → ℕ → Serving
  held [] g = nothing_held
  held (Forms g' group ∷ earlier) g = if g == g' then formed (length (log_of earlier)) group (held earlier g) else held earlier g
  held (Logged g' append from to ∷ earlier) g = if g == g' then logged to (held earlier g) else held earlier g
  held (Notes g' ∷ earlier) g = if g == g' then noting (held earlier g) else held earlier g
  held (Records g' number item ∷ earlier) g = if g == g' then recording (length (meta_of earlier)) (record_group number item) (held earlier g) else held earlier g
  held (Recorded g' append from to ∷ earlier) g = if g == g' then recorded (held earlier g) else held earlier g
  held (Trims g' place ∷ earlier) g = held earlier g
  held (Confirms g' start end groups metadata_end records ∷ earlier) g = if g == g' then confirmed start end groups records else held earlier g

  -- ---- what is observed

  -- rows: those that the load shows which is this event of the log's story
  module _ (rows : ℕ → List Row) where
    -- what the load shows that is this event of the log's story
    abbrev pub shown_at : Run → ℕ → ShownLoad
    shown_at [] n = record { rows = []; keys = all_keys; next = 1 }
    shown_at (Confirms g start end groups metadata_end records ∷ earlier) n =
        if n == length (log_of earlier) then record { rows = rows n; keys = (said (line_shown records)).keys; next = next_loaded groups records } else shown_at earlier n
    shown_at (e ∷ earlier) n = shown_at earlier n

    -- of a range
    abbrev pub seen : ℕ → Run → List Note
    seen range [] = []
    seen range (Forms g group ∷ earlier) = seen range earlier ++ begins_of range g group.first group.items
    seen range (Logged g append from to ∷ earlier) = seen range earlier ++ dones_at range (event_at (log_of earlier) append)
    seen range (Confirms g start end groups metadata_end records ∷ earlier) = seen range earlier ++ Loaded range g (rows (length (log_of earlier))) (next_loaded groups records) ∷ []
    seen range (e ∷ earlier) = seen range earlier

-- ---- what may happen

abbrev pub IsServing : Run → ℕ → Type 0
IsServing run g = IsLoaded (log_of run) g

abbrev pub IsNarrower : KeyRange → KeyRange → Type 0
IsNarrower keys old = (key : Bytes) → within keys key ≡ true → within old key ≡ true

-- layer_at: what the index at a place says, its pages read
module _ (layer_at : Place → Layer) (b : Beginning) where
  -- what an index says that a checkpoint writes, within the range's keys: the fixed layer; where it combines, the fixed layer over all old indexes
  abbrev pub Covers : Serving → Bool → Layer → Type 0
  Covers s false layer = (key : Bytes) → within (said b s.records).keys key ≡ true → layer key ≡ s.fixed key
  Covers s true layer = (key : Bytes) → within (said b s.records).keys key ≡ true → flat (layer key) ≡ flat (over s.fixed (indexed layer_at (said b s.records).indexes) key)

  -- a checkpoint's record, only once its index is there
  abbrev pub MayCheckpoint : Serving → MetaItem → Type 0
  MayCheckpoint s item =
      (noted : NotedPosition) × (s.noted ≡ Some noted) × (combine : Bool) × (index : Place) × (position : Position)
      × (item ≡ Checkpoint combine index position noted.next) × (place_number position ≡ noted.place) × Covers s combine (layer_at index)

  -- a split's records, while no checkpoint is under way
  abbrev pub MaySplit : Serving → MetaItem → Type 0
  MaySplit s item =
      (s.noted ≡ None)
      × (((low : ℕ) × (high : ℕ) × (key : Bytes) × (item ≡ SplitStatus low high key)) ⊎ ((keys : KeyRange) × (item ≡ Ranges keys) × IsNarrower keys (said b s.records).keys))

  -- A load begins where its metadata says, or at the base that it sees, where that is later: one that the log had at its beginning,
  -- or that a Trim of a lower generation named.
  abbrev pub MayStart : Run → ℕ → ℕ → List MetaItem → Type 0
  MayStart earlier g start records =
      (base : ℕ) × ((base ≤ b.place) ⊎ ((g' : ℕ) × (g' < g) × Contains earlier (Trims g' base))) × (start ≡ greater (start_number (said b records).regions) base)

  abbrev pub MayInChain : Run → Event → Type 0
  MayInChain earlier (Forms g group) = IsServing earlier g × ((held b earlier g).out ≡ None) × (group.first ≡ (held b earlier g).next)
  MayInChain earlier (Logged g append from to) = IsServing earlier g × (group : Group Transaction) × ((held b earlier g).out ≡ Some (record { append = append; group = group }))
  MayInChain earlier (Notes g) = IsServing earlier g × ((held b earlier g).noted ≡ None) × ((held b earlier g).record_out ≡ None)
  MayInChain earlier (Records g number item) =
      IsServing earlier g × ((held b earlier g).record_out ≡ None) × (number ≡ suc (length (held b earlier g).records))
      × (MayCheckpoint (held b earlier g) item ⊎ MaySplit (held b earlier g) item)
  MayInChain earlier (Recorded g append from to) = IsServing earlier g × (group : Group MetaItem) × ((held b earlier g).record_out ≡ Some (record { append = append; group = group }))
  -- only what its answered records let go
  MayInChain earlier (Trims g place) = IsServing earlier g × (place ≤ start_number (said b (held b earlier g).records).regions)
  -- a generation is loaded once
  MayInChain earlier (Confirms g start end groups metadata_end records) =
      (IsServing earlier g → ⊥) × MayStart earlier g start (line_shown records)

  abbrev pub IsChainRun : Run → Type 0
  IsChainRun [] = Unit {0}
  IsChainRun (e ∷ earlier) = MayInChain earlier e × IsChainRun earlier

  -- the rows of each load are what its layers say within its keys
  abbrev pub ShowsLayers : (ℕ → List Row) → Run → Type 0
  ShowsLayers rows [] = Unit {0}
  ShowsLayers rows (Confirms g start end groups metadata_end records ∷ earlier) =
      ((key : Bytes) → stored (rows (length (log_of earlier))) key ≡ kept (said b (line_shown records)).keys (λ k. flat (loaded_layer b layer_at groups records k)) key)
      × ShowsLayers rows earlier
  ShowsLayers rows (e ∷ earlier) = ShowsLayers rows earlier

-- no record narrows the keys
abbrev pub KeepsKeys : Run → Type 0
KeepsKeys [] = Unit {0}
KeepsKeys (Records g number item ∷ earlier) = ((keys : KeyRange) → item ≡ Ranges keys → ⊥) × KeepsKeys earlier
KeepsKeys (e ∷ earlier) = KeepsKeys earlier

-- ---- what is owed to those who see the loads of a chain

-- the rows of a load are the table of a line within its keys, and its next number is the one after that line
pub record ShowsLine (b : Beginning) (load : ShownLoad) (line : List Transaction) : Type 0 where
  pub table : (key : Bytes) → stored load.rows key ≡ kept load.keys (after_line line b.table) key
  pub number : load.next ≡ suc (length line)

-- Each load shows a line. Lines begin one another in the order of generations; each group that was answered under a lower generation
-- stands in them at its numbers; and each transaction in them began before, under a lower generation.
pub record ChainReplays (b : Beginning) (rows : ℕ → List Row) (run : Run) : Type 0 where
  pub line : ℕ → List Transaction
  pub shown : (l g start end : ℕ) (groups : List (Placed (Group Transaction))) → event_at (log_of run) l ≡ Some (Showed g start end groups) → ShowsLine b (shown_at b rows run l) (line l)
  pub in_order : (l m g h start end start' end' : ℕ) (groups groups' : List (Placed (Group Transaction))) →
      event_at (log_of run) l ≡ Some (Showed g start end groups) → event_at (log_of run) m ≡ Some (Showed h start' end' groups') → g < h → IsPrefixOf (line l) (line m)
  pub complete : (l g start end a g' k from to : ℕ) (groups : List (Placed (Group Transaction))) (group : Group Transaction) →
      event_at (log_of run) l ≡ Some (Showed g start end groups) → event_at (log_of run) a ≡ Some (Made g' group) → g' < g →
      event_at (log_of run) k ≡ Some (Answered a from to) → StandsIn (line l) group
  pub began : (l g start end : ℕ) (groups : List (Placed (Group Transaction))) (us vs : List Transaction) (t : Transaction) →
      event_at (log_of run) l ≡ Some (Showed g start end groups) → line l ≡ us ++ t ∷ vs →
      (a : ℕ) × (g' : ℕ) × (group : Group Transaction) × (event_at (log_of run) a ≡ Some (Made g' group)) × (g' < g) × (a < l)
      × (front : List Transaction) × (back : List Transaction) × (group.items ≡ front ++ t ∷ back) × (group.first + length front ≡ suc (length us))
