-- Where the values stand that a layer has by place: within bytes that a load has read.
use Rattle.std.specs.Prelude.{◌≡◌, ◌⊎◌, ℕ, ◌+◌, ◌<◌, ◌≤◌, ◌^◌, true, false, List, [], ◌∷◌, ◌++◌, length, Option, Some, None}
use Rattle.std.specs.List.{AllByRecursion}
use Rattle.wire.specs.declared.actor.ReqNo.{ReqNo}
use Rattle.wire.specs.declared.streams.StreamKind.TheVariants as kinds
use Rattle.streams.specs.declared.table.Position.{Position}
use Rattle.client.specs.Client.{ClientState}
use Rattle.client.specs.declared.load.LoadPhase.TheVariants as phases
use Rattle.memtable.specs.declared.cell.Cell.{Cell}
use Rattle.memtable.specs.declared.cell.Cell.TheVariants.{Deleted, Inline, Placed}
use Rattle.memtable.specs.declared.cell.Place.{Place}
use Rattle.memtable.specs.Cell.{IsEntry}
use Rattle.memtable.specs.Entries.{Entries}
use Rattle.checkpoint_format.specs.Index.{index_at}
use Rattle.checkpoint_format.specs.declared.index.Index.{Index}
use Rattle.checkpoint_format.specs.declared.index.PageAt.{PageAt}
use Rattle.checkpoint.specs.declared.installed_index.InstalledIndex.{InstalledIndex}
use Rattle.checkpoint.specs.Merges.{next_place}
use Rattle.model_streams.specs.Maps.{entry_at}
use Rattle.model_partition.specs.CheckpointStates.{CheckpointState}
use Rattle.model_partition.specs.declared.checkpoint_job.CheckpointPhase.TheVariants as checkpoints
use Rattle.model_partition.specs.declared.shown_table.ShownTable.{ShownTable}
use Rattle.model_partition.specs.declared.table_note.TableNote.{TableNote}
use Rattle.model_partition.specs.declared.table_note.TableNote.TheVariants as tables
use Rattle.model_histories.specs.IndexContents.{bytes_in, pages_in, entries_in}
use Rattle.model_partition.specs.Loading.{Group}
use Rattle.model_partition.specs.Past.{Bytes}
use Rattle.model_partition.specs.Range.{RangeState, RangeOutcome, is_serving}
use Rattle.model_partition.specs.Server.{ServerState, range_of}
use Rattle.model_partition.specs.Servers.{ServerCell, entries_if}
use Rattle.model_histories.specs.StreamActions.{StreamAction, Forms, Shows, PlacedBytes}
use Rattle.model_histories.specs.ServerRun.{ServerRun, bytes_read}
use Rattle.laws_loads.specs.RangeView.{RangeView, view_after_all}
use Rattle.laws_loads.specs.Sound.{IsSound}
use Rattle.laws_loads.proofs.Rows.{Ordered}
use Rattle.laws_server_runs.specs.CheckpointInvariant.{AppendsRows}
use Rattle.laws_server_runs.specs.RunInvariant.{view_at}

-- the place lies within these bytes
pub record LiesIn (place : Place) (p : PlacedBytes) : Type 0 where
  pub extent : place.extent ≡ p.extent
  pub low : p.offset ≤ place.offset
  pub high : place.offset + place.length ≤ p.offset + length p.bytes

-- within some of them
abbrev pub IsWithin : List PlacedBytes → Place → Type 0
IsWithin [] place = ⊥
IsWithin (p ∷ placed) place = LiesIn place p ⊎ IsWithin placed place

abbrev pub CellWithin : List PlacedBytes → Cell → Type 0
CellWithin placed Deleted = Unit {0}
CellWithin placed (Inline value) = Unit {0}
CellWithin placed (Placed place) = IsWithin placed place

abbrev pub AreWithin : List PlacedBytes → Entries → Type 0
AreWithin placed [] = Unit {0}
AreWithin placed (e ∷ es) = CellWithin placed e.1 × AreWithin placed es

-- a layer in the order of its keys, whose values stand within these bytes
abbrev pub IsLaid : List PlacedBytes → Entries → Type 0
IsLaid placed es = Ordered es × AreWithin placed es

-- ---- what pages can have

-- the place of a value begins where an extent reaches
abbrev pub CellLow : Cell → Type 0
CellLow Deleted = Unit {0}
CellLow (Inline value) = Unit {0}
CellLow (Placed place) = place.offset < 2 ^ 32

abbrev pub IsLow : List ℕ × Cell → Type 0
IsLow e = IsEntry e.0 e.1 × CellLow e.1

-- a layer in the order of its keys, which pages can have but for the numbers of the extents
abbrev pub AreLow : Entries → Type 0
AreLow es = Ordered es × AllByRecursion IsLow es

-- ---- observations

-- an observation of this range under this generation; a loaded table is laid within these bytes
abbrev pub NoteWithin : ℕ → ℕ → List PlacedBytes → TableNote → Type 0
NoteWithin k g placed (tables.Began range generation number changes) = (range ≡ k) × (generation ≡ g)
NoteWithin k g placed (tables.Done range generation number) = (range ≡ k) × (generation ≡ g)
NoteWithin k g placed (tables.Loaded range generation table next) = (range ≡ k) × (generation ≡ g) × IsLaid placed table.live
NoteWithin k g placed (tables.Got range generation key value) = (range ≡ k) × (generation ≡ g)

abbrev pub NotesWithin : ℕ → ℕ → List PlacedBytes → List TableNote → Type 0
NotesWithin k g placed [] = Unit {0}
NotesWithin k g placed (note ∷ notes) = NoteWithin k g placed note × NotesWithin k g placed notes

-- each page of an index lies within these bytes
abbrev pub PagesWithin : List PlacedBytes → List PageAt → Type 0
PagesWithin placed pages = AllByRecursion (λ p. IsWithin placed p.place) pages

-- those of each index
abbrev pub IndexesWithin : List PlacedBytes → List InstalledIndex → Type 0
IndexesWithin placed indexes = AllByRecursion (λ x. PagesWithin placed x.index.pages) indexes

module _ (texts : ℕ → Bytes) where
  -- the index that stands at the place is laid within these bytes: its pages, and the values of what they have
  abbrev pub IndexLaid : List PlacedBytes → Place → Type 0
  IndexLaid placed place = (index : Index) → index_at (bytes_in texts place) ≡ Some index → PagesWithin placed index.pages × AreWithin placed (pages_in texts index.pages)

  -- a loaded table is laid within these bytes: its memory table, the pages of its indexes, and the values of what they have together
  pub record TableLaid (placed : List PlacedBytes) (table : ShownTable) : Type 0 where
    pub live : IsLaid placed table.live
    pub pages : IndexesWithin placed table.indexes
    pub entries : AreWithin placed (entries_in texts table)

  -- each loaded table is laid within the bytes of its range
  abbrev pub TablesWithin : (ℕ → List PlacedBytes) → List TableNote → Type 0
  TablesWithin placed [] = Unit {0}
  TablesWithin placed (tables.Loaded range generation table next ∷ notes) = TableLaid (placed range) table × TablesWithin placed notes
  TablesWithin placed (note ∷ notes) = TablesWithin placed notes

-- the bytes that a range's reads were shown and its appends were answered for
abbrev pub bytes_of : ServerRun → ℕ → List PlacedBytes
bytes_of x range = x.shown range ++ x.answered range

-- ---- a checkpoint

-- what reads were shown and appends were answered for, as a range sees it
abbrev pub placed_of : RangeView → List PlacedBytes
placed_of v = v.shown ++ v.answered

-- the pages that stand
abbrev pub JobWithin : List PlacedBytes → Option CheckpointState → Type 0
JobWithin placed None = Unit {0}
JobWithin placed (Some job) = PagesWithin placed job.pages.index.pages

-- while pages are left to be merged it waits for these
abbrev pub MergesFirst : Option CheckpointState → Type 0
MergesFirst None = Unit {0}
MergesFirst (Some job) = (job.phase ≡ checkpoints.Combining) ⊎ (next_place job.merge ≡ None)

-- What is kept of a checkpoint, or where there is none: what is appended for it, what it waits for, where its pages stand, and where
-- the values of its layer do.
pub record CheckpointLaid (placed : List PlacedBytes) (rows : ClientState) (fixed : Option Entries) (control : Option CheckpointState) : Type 0 where
  pub appends : AppendsRows rows control
  pub merges : MergesFirst control
  pub pages : JobWithin placed control
  pub layer : AreWithin placed (entries_if fixed)

-- ---- any range

-- What is kept of any range at a server, whatever its streams are: it has its number, its generation is confirmed where it is
-- served, until then its layer is laid within what its load has read, and then the values of its layers stand within what was shown
-- and answered.
pub record RangeLaid (k : ℕ) (v : RangeView) (r : RangeState) : Type 0 where
  pub range : r.load.range ≡ k
  pub confirmed : is_serving r.stage ≡ true → r.load.phase ≡ phases.Confirmed
  pub layer : is_serving r.stage ≡ false → IsLaid (bytes_read (v.history.reads kinds.Log)) r.live
  pub live : is_serving r.stage ≡ true → AreWithin (placed_of v) r.live
  -- what pages can have of it, whatever extents it names, and what waits can be written
  pub low : AreLow r.live
  pub sound : IsSound r
  pub checkpoint : CheckpointLaid (placed_of v) r.rows r.fixed r.control

abbrev pub RangeLaidIf : ℕ → RangeView → Option RangeState → Type 0
RangeLaidIf k v None = Unit {0}
RangeLaidIf k v (Some r) = RangeLaid k v r

-- what a step of it under a generation leaves
pub record StepLaid (k : ℕ) (v : RangeView) (generation : ℕ) (actions : List StreamAction) (o : RangeOutcome) : Type 0 where
  pub after : RangeLaidIf k (view_after_all generation v actions) o.after
  pub notes : NotesWithin k generation (view_after_all generation v actions).shown o.notes

-- no append to the metadata begins
abbrev pub IsQuiet : List StreamAction → Type 0
IsQuiet [] = Unit {0}
IsQuiet (Forms kinds.Metadata group ∷ earlier) = ⊥
IsQuiet (action ∷ earlier) = IsQuiet earlier

-- the record of a checkpoint that was under way is sent, and nothing more is said yet
pub record SendsRecord (r next : RangeState) : Type 0 where
  pub before : CheckpointState
  pub job : CheckpointState
  pub index : Place
  pub under_way : r.control ≡ Some before
  pub control : next.control ≡ Some job
  pub phase : job.phase ≡ checkpoints.Record index
  pub said : next.said ≡ r.said

abbrev pub IsRecording : RangeState → Option RangeState → Type 0
IsRecording r None = ⊥
IsRecording r (Some next) = SendsRecord r next

-- where an append to the metadata begins it is that of the record of a checkpoint
pub data FormsRecords (r : RangeState) (o : Option RangeState) : List StreamAction → Type 0 where
  Quiet : (actions : List StreamAction) (quiet : IsQuiet actions) → FormsRecords r o actions
  OfRecord : (group : Group) (earlier : List StreamAction) (quiet : IsQuiet earlier) (recording : IsRecording r o) → FormsRecords r o (Forms kinds.Metadata group ∷ earlier)

-- a table that is shown is that of the load which is confirmed
pub record IsConfirmed (r : RangeState) (actions : List StreamAction) (table : ShownTable) : Type 0 where
  pub request : ReqNo
  pub phase : r.load.phase ≡ phases.Confirming request
  pub indexes : table.indexes ≡ r.indexes
  pub keys : table.keys ≡ r.said.keys
  pub start : Position
  pub log_end : Position
  pub metadata_end : Position
  pub shows : actions ≡ Shows start log_end metadata_end ∷ []

-- this is so of each table that is shown
abbrev pub TablesAre : (ShownTable → Type 0) → List TableNote → Type 0
TablesAre Is [] = Unit {0}
TablesAre Is (tables.Loaded range generation table next ∷ notes) = Is table × TablesAre Is notes
TablesAre Is (note ∷ notes) = TablesAre Is notes

-- what a rule leaves of the range
pub record RuleLaid (k : ℕ) (v : RangeView) (r : RangeState) (actions : List StreamAction) (o : RangeOutcome) : Type 0 where
  pub step : StepLaid k v r.load.generation actions o
  pub forms : FormsRecords r o.after actions
  pub tables : TablesAre (IsConfirmed r actions) o.notes

-- ---- all servers

abbrev pub AllAbove : {A : Type 0} → ℕ → List (ℕ × A) → Type 0
AllAbove k [] = Unit {0}
AllAbove k (e ∷ es) = (k < e.0) × AllAbove k es

-- each number is below those after it
abbrev pub AreAscending : {A : Type 0} → List (ℕ × A) → Type 0
AreAscending [] = Unit {0}
AreAscending (e ∷ es) = AllAbove e.0 es × AreAscending es

-- what is kept of all servers, whatever comes to them: their ranges are in the order of their numbers, and each is laid so
pub record RunLaid (x : ServerRun) : Type 0 where
  pub ascending : (s : ℕ) (cell : ServerCell) (state : ServerState) → entry_at x.servers s ≡ Some cell → cell.state ≡ Some state → AreAscending state.ranges
  pub ranges : (s : ℕ) (cell : ServerCell) (state : ServerState) → entry_at x.servers s ≡ Some cell → cell.state ≡ Some state →
      (k : ℕ) (r : RangeState) → range_of state.ranges k ≡ Some r → RangeLaid k (view_at k x s) r
  -- so are its splits
  pub splits : (s : ℕ) (cell : ServerCell) (state : ServerState) → entry_at x.servers s ≡ Some cell → cell.state ≡ Some state → AreAscending state.splits
