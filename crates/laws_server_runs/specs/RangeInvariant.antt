-- What is kept of a range at a server: while it loads, what it made of what it read; while it is served, that it holds what a run of
-- its servers says that its generation holds.
use Rattle.std.specs.Prelude.{◌≡◌, ◌⊎◌, ℕ, ◌-◌, ◌<◌, ◌≤◌, ◌^◌, Bool, true, List, [], ◌∷◌, ◌++◌, length, drop, Option, Some, None, option_map}
use Rattle.blocks.specs.Format.{◌>>=◌}
use Rattle.wire.specs.declared.actor.ReqNo.{ReqNo}
use Rattle.wire.specs.declared.note.Note.{Note}
use Rattle.wire.specs.declared.rows.Row.{Row}
use Rattle.wire.specs.declared.streams.StreamKind.TheVariants as kinds
use Rattle.wire.specs.declared.streams.StreamExtent.{StreamExtent}
use Rattle.streams.specs.declared.table.Position.{Position}
use Rattle.memtable.specs.declared.cell.Place.{Place}
use Rattle.memtable.specs.Entries.{Entries}
use Rattle.metadata.specs.declared.record.KeyRange.{KeyRange}
use Rattle.metadata.specs.declared.record.Region.{Region}
use Rattle.metadata.specs.declared.record.MetaItem.TheVariants.{Ranges, Checkpoint, SplitStatus}
use Rattle.metadata.specs.Fold.{first_metadata}
use Rattle.metadata.specs.Keys.{within}
use Rattle.metadata.specs.declared.record.IndexRange.{IndexRange}
use Rattle.metadata.specs.Record.{IsPosition}
use Rattle.checkpoint_format.specs.declared.index.Index.{Index}
use Rattle.checkpoint_format.specs.Page.{pages_of}
use Rattle.checkpoint.specs.Pages.{AreFiled}
use Rattle.commitlog.specs.declared.log_record.LogRecord.{LogRecord}
use Rattle.commitlog.specs.Reading.{record_at}
use Rattle.commitlog.specs.Record.{spelling}
use Rattle.client.specs.declared.job.Job.TheVariants as jobs
use Rattle.client.specs.Client.{ClientState, last_extent}
use Rattle.client.specs.declared.load.LoadPhase.{LoadPhase}
use Rattle.client.specs.declared.load.LoadPhase.TheVariants as phases
use Rattle.model_partition.specs.declared.stage.Stage.{Stage}
use Rattle.model_partition.specs.declared.stage.Stage.TheVariants as stages
use Rattle.model_partition.specs.Past.{Bytes, Transaction}
use Rattle.model_histories.specs.Story.{Made, Story, event_at, KeepsOrder, EndsRise}
use Rattle.model_partition.specs.Range.{OutGroup, RangeState, RangeOutcome, is_serving}
use Rattle.model_partition.specs.declared.waiting.PlaceRead.{PlaceRead}
use Rattle.model_partition.specs.Loading.{Group, said_after, replayed, index_named, length_or}
use Rattle.model_histories.specs.Renaming.{renamed, decoded, decoded_record}
use Rattle.model_histories.specs.StreamActions.{ExtentRead, StreamAction, group_of, first_start}
use Rattle.model_histories.specs.ServerRun.{RangeHistory, place_number}
use Rattle.model_histories.specs.ServedTables.{AllStand, AreSeenAs, LoadsOnce}
use Rattle.model_histories.specs.Log.{without_gots}
use Rattle.laws_loads.specs.Sound.{IsSound}
use Rattle.laws_loads.specs.MemoryLayers.{layer_in}
use Rattle.laws_loads.specs.RangeView.{RangeView, view_after_all, log_of, metadata_of}
use Rattle.laws_tables.specs.Runs as chains
use Rattle.laws_tables.specs.Runs.{Event, Run, Serving, first_beginning, record_group, said, held, seen, IsServing, IsChainRun, ShowsLayers}
use Rattle.laws_tables.specs.Through.{OutAppend}
use Rattle.laws_checkpoints.specs.IndexLayers.{layer_at, IsWritten}
use Rattle.laws_checkpoints.specs.ShownTables.{AreInstalled, HoldsBytes}
use Rattle.laws_loads.proofs.Rows.{Ordered}
use Rattle.laws_server_runs.specs.NamedIndexes.{NamesSuch}
use Rattle.laws_server_runs.specs.CheckpointInvariant.{parts_of, HoldsCheckpoint, AppendsRows, AppendsMetadata, StandsBeside, ReadsNext}

-- ---- what a load makes of what it reads

-- the groups of all extents, in their order
abbrev pub groups_read : List ExtentRead → List Group
groups_read [] = []
groups_read (x ∷ older) = groups_read older ++ x.groups

-- the regions and the layer that these extents leave, whatever they hold
abbrev pub replayed_all : KeyRange → List ExtentRead → List Region × Entries → Option (List Region × Entries)
replayed_all keys [] z = Some z
replayed_all keys (x ∷ older) z = replayed_all keys older z >>= λ y. replayed keys x.extent (record { index = x.index; offset = 0 }) y x.groups

-- nothing is read yet
pub record HasReadNothing (h : RangeHistory) (r : RangeState) : Type 0 where
  pub metadata : h.reads kinds.Metadata ≡ []
  pub log : h.reads kinds.Log ≡ []
  pub live : r.live ≡ []
  pub fixed : r.fixed ≡ None
  pub none : r.control ≡ None
  pub indexes : r.indexes ≡ []
  pub rows : r.rows.job ≡ jobs.Idle

-- the metadata is being read
pub record ReadsMetadata (h : RangeHistory) (r : RangeState) : Type 0 where
  pub said : said_after first_metadata (groups_read (h.reads kinds.Metadata)) ≡ Some r.said
  pub log : h.reads kinds.Log ≡ []
  pub live : r.live ≡ []
  pub fixed : r.fixed ≡ None
  pub idle : r.log.job ≡ jobs.Idle
  pub none : r.control ≡ None
  pub indexes : r.indexes ≡ []
  pub rows : r.rows.job ≡ jobs.Idle

-- all of the metadata is read, and the log is being read, or the indexes after it
pub record ReadsLog (h : RangeHistory) (r : RangeState) : Type 0 where
  pub said : said_after first_metadata (groups_read (h.reads kinds.Metadata)) ≡ Some r.said
  pub made : replayed_all r.said.keys (h.reads kinds.Log) (r.said.regions, []) ≡ Some (r.regions, r.live)
  pub fixed : r.fixed ≡ None
  pub idle : r.metadata.job ≡ jobs.Idle
  pub none : r.control ≡ None
  pub rows : r.rows.job ≡ jobs.Idle
  -- the log that is applied begins in the stream
  pub begins : r.log.base ≤ (first_start r.said.regions).index

-- ---- the run of a range

-- the generation under which this is done
abbrev pub generation_of : Event → ℕ
generation_of (chains.Forms g group) = g
generation_of (chains.Logged g append from to) = g
generation_of (chains.Notes g) = g
generation_of (chains.Records g number item) = g
generation_of (chains.Recorded g append from to) = g
generation_of (chains.Trims g place) = g
generation_of (chains.Confirms g start end groups metadata_end records) = g

-- the group of a checkpoint's record, at a position; its index is one of which this is so
pub record IsCheckpointRecord (Holds : Place → Type 0) (group : Group) : Type 0 where
  pub number : ℕ
  pub combine : Bool
  pub index : Place
  pub position : Position
  pub next : ℕ
  pub spells : decoded_record group ≡ record_group number (Checkpoint combine index position next)
  pub fits : IsPosition position
  pub holds : Holds index

-- the group of a split's record
pub record IsSplitRecord (group : Group) : Type 0 where
  pub number : ℕ
  pub low : ℕ
  pub high : ℕ
  pub key : Bytes
  pub spells : decoded_record group ≡ record_group number (SplitStatus low high key)

-- the group of a record that names keys
pub record IsKeysRecord (group : Group) : Type 0 where
  pub number : ℕ
  pub keys : KeyRange
  pub spells : decoded_record group ≡ record_group number (Ranges keys)

abbrev pub IsRecord : (Place → Type 0) → Group → Type 0
IsRecord Holds group = IsCheckpointRecord Holds group ⊎ (IsSplitRecord group ⊎ IsKeysRecord group)

-- each group that was formed is one of these
abbrev pub AreCheckpoints : (Place → Type 0) → Story Group → Type 0
AreCheckpoints Holds story = (a g : ℕ) (group : Group) → event_at story a ≡ Some (Made g group) → IsRecord Holds group

-- a run goes on with events of this generation alone
pub data GoesOn (g : ℕ) (run : Run) : Run → Type 0 where
  Rests : GoesOn g run run
  Adds : (event : Event) (earlier : Run) (on : GoesOn g run earlier) (under : generation_of event ≡ g) → GoesOn g run (event ∷ earlier)

-- ---- a range that is served

-- a list with more before it
abbrev pub IsLonger : {A : Type 0} → List A → List A → Type 0
IsLonger {A} old new = (more : List A) × (new ≡ more ++ old)

-- the length of a stream's last extent has 32 bits
abbrev pub LengthFits : Option ℕ → Option StreamExtent → Type 0
LengthFits checked None = Unit {0}
LengthFits checked (Some x) = length_or x.length checked < 2 ^ 32

abbrev pub EndFits : ClientState → Type 0
EndFits c = LengthFits c.checked (last_extent c.extents)

-- the append of a group that is out, which began with this event
abbrev pub append_of : ℕ → Option OutGroup → Option (OutAppend Transaction)
append_of event out = option_map (λ o. record { append = event; group = decoded (group_of o) }) out

module _ (texts : ℕ → Bytes) where
  -- at the place stands an index of the pages of some entries, each under its first key
  abbrev pub IsOfPages : Place → Type 0
  IsOfPages place = (index : Index) × (entries : Entries) × IsWritten texts index entries place × AreFiled index.pages (pages_of entries)

  -- the indexes before a position are read, from the oldest on; the metadata names the newest first
  pub record ReadsIndexes (h : RangeHistory) (r : RangeState) (position : ℕ) : Type 0 where
    pub log : ReadsLog h r
    pub installed : AreInstalled texts r.indexes (drop (length r.said.indexes - position) r.said.indexes)

  -- the next of them is asked for
  pub record AsksIndex (r : RangeState) (position : ℕ) : Type 0 where
    pub read : PlaceRead
    pub named : IndexRange
    pub out : r.reading ≡ Some read
    pub next : index_named r.said.indexes position ≡ Some named
    pub place : read.place ≡ named.place

  -- all is read
  pub record HasReadAll (h : RangeHistory) (r : RangeState) : Type 0 where
    pub log : ReadsLog h r
    pub installed : AreInstalled texts r.indexes r.said.indexes

  -- what a range holds is what its run says that its generation holds
  pub record Matches (v : RangeView) (s : Serving) (r : RangeState) : Type 0 where
    pub position : place_number r.position ≡ s.position
    pub next : r.next ≡ s.next
    pub out : s.out ≡ append_of (v.history.append kinds.Log) r.out
    -- within its keys
    pub live : AllStand texts v.answered → (key : Bytes) → within r.said.keys key ≡ true → layer_in texts r.live key ≡ s.live key
    pub checkpoint : HoldsCheckpoint texts (parts_of v s r) r.control
    -- the metadata says what its records say, and the indexes that it names are installed
    pub said : r.said ≡ said first_beginning s.records
    pub installed : AreInstalled texts r.indexes r.said.indexes
    -- each is one of pages, and counts for all of its keys
    pub named : NamesSuch IsOfPages r.said
    -- what its client of row data appends is what the checkpoint waits for
    pub rows : AppendsRows r.rows r.control
    -- the page that is read is the one that it merges next
    pub reads : ReadsNext r.reading r.control
    -- what its split is to its metadata, and what the client of its metadata appends
    pub beside : StandsBeside v.split (v.history.append kinds.Metadata) s.record_out r.control r.said.next
    pub metadata : AppendsMetadata r.metadata.job v.split r.control
    -- its memory table is in the order of its keys
    pub ordered : Ordered r.live

  pub record Serves (run : Run) (v : RangeView) (r : RangeState) : Type 0 where
    pub shown : IsServing run r.load.generation
    pub matches : Matches v (held first_beginning run r.load.generation) r

  -- ---- any range

  abbrev pub PhaseIs : Stage → LoadPhase → Type 0
  PhaseIs stages.Opening phase = (q : ReqNo) × (phase ≡ phases.Opening q)
  PhaseIs (stages.Checking kind) phase = phase ≡ phases.Opened
  PhaseIs (stages.Reading kind position) phase = phase ≡ phases.Opened
  PhaseIs (stages.Indexing position) phase = phase ≡ phases.Opened
  PhaseIs stages.Confirming phase = (q : ReqNo) × (phase ≡ phases.Confirming q)
  PhaseIs stages.Serving phase = phase ≡ phases.Confirmed

  abbrev pub StageIs : Run → RangeView → RangeState → Stage → Type 0
  StageIs run v r stages.Opening = HasReadNothing v.history r
  StageIs run v r (stages.Checking kinds.Metadata) = ReadsMetadata v.history r
  StageIs run v r (stages.Checking kinds.Log) = ReadsLog v.history r × (r.indexes ≡ [])
  StageIs run v r (stages.Checking kinds.RowData) = ⊥
  StageIs run v r (stages.Checking kinds.BlobData) = ⊥
  StageIs run v r (stages.Reading kinds.Metadata position) = ReadsMetadata v.history r
  StageIs run v r (stages.Reading kinds.Log position) = ReadsLog v.history r × (r.indexes ≡ [])
  StageIs run v r (stages.Reading kinds.RowData position) = ⊥
  StageIs run v r (stages.Reading kinds.BlobData position) = ⊥
  StageIs run v r (stages.Indexing position) = ReadsIndexes v.history r position × AsksIndex r position
  StageIs run v r stages.Confirming = HasReadAll v.history r
  StageIs run v r stages.Serving = Serves run v r

  -- what is kept of a range of this number at a server
  pub record RangeKept (subject : ℕ) (run : Run) (v : RangeView) (r : RangeState) : Type 0 where
    pub range : r.load.range ≡ subject
    pub phase : PhaseIs r.stage r.load.phase
    pub sound : IsSound r
    pub stage : StageIs run v r r.stage
    -- what its cache holds are the bytes of its places
    pub held : HoldsBytes texts r.held

  -- ---- the streams of a range

  -- each group can be read back
  abbrev pub AllSpelled : Story Group → Type 0
  AllSpelled story = (a g : ℕ) (group : Group) → event_at story a ≡ Some (Made g group) → (r : LogRecord) × (group ≡ spelling r) × (record_at group ≡ Some r)

  -- these observations are those of a run, whose loads show what their layers say
  abbrev pub AreObserved : ℕ → Run → List Note → Type 0
  AreObserved subject run notes = (rows : ℕ → List Row) × ShowsLayers (layer_at texts) first_beginning rows run × (notes ≡ seen first_beginning rows subject run)

  -- What is kept of the streams of a range: their stories are those of a run of its servers, who do what they may.
  pub record StreamsKept (run : Run) (v : RangeView) : Type 0 where
    pub log : chains.log_of run ≡ renamed decoded (log_of v)
    pub metadata : chains.meta_of run ≡ renamed decoded_record (metadata_of v)
    pub chain : IsChainRun (layer_at texts) first_beginning run
    pub spelled : AllSpelled (log_of v)
    pub records : AreCheckpoints IsOfPages (metadata_of v)

  -- what is premised of them
  pub record InOrder (v : RangeView) : Type 0 where
    pub log : KeepsOrder (log_of v)
    pub metadata : KeepsOrder (metadata_of v)
    pub once : LoadsOnce (log_of v)
    pub ends : EndsRise (log_of v)
    pub shown : AllStand texts v.shown
    pub answered : AllStand texts v.answered

  -- ---- one step of a range

  abbrev pub KeptIf : ℕ → Run → RangeView → ℕ → Option RangeState → Type 0
  KeptIf subject run v g None = Unit {0}
  KeptIf subject run v g (Some r) = RangeKept subject run v r × (r.load.generation ≡ g)

  -- no other server serves under the generation: the range is served, or its load is the first of its generation
  abbrev pub IsAlone : Run → RangeState → Type 0
  IsAlone run r = (is_serving r.stage ≡ true) ⊎ (IsServing run r.load.generation → ⊥)

  -- a range that is served after the step was served before it, or its load is the first of its generation
  abbrev pub ServesAnew : Run → RangeState → Option RangeState → Type 0
  ServesAnew run r None = Unit {0}
  ServesAnew run r (Some next) = is_serving next.stage ≡ true → IsAlone run r

  -- what a step of a range that did these actions leaves
  pub record StepKept (subject : ℕ) (run : Run) (v : RangeView) (r : RangeState) (actions : List StreamAction) (o : RangeOutcome) : Type 0 where
    pub next : Run
    pub goes : GoesOn r.load.generation run next
    -- where the run goes on
    pub alone : (next ≡ run) ⊎ IsAlone run r
    pub kept : KeptIf subject next (view_after_all r.load.generation v actions) r.load.generation o.after
    pub streams : StreamsKept next (view_after_all r.load.generation v actions)
    pub longer : IsLonger v.answered (view_after_all r.load.generation v actions).answered
    pub anew : ServesAnew run r o.after
    pub seen : (before later : List Note) → AreObserved subject run before → AreSeenAs texts o.notes later → AreObserved subject next (before ++ without_gots later)
