-- What a server's client of one stream has to do with one incarnation of the machine of the stream: where it stands in the
-- load, and in its append job.
use Rattle.std.specs.Prelude.{◌≡◌, ◌⊎◌, ℕ, suc, ◌+◌, ◌<◌, ◌≤◌, Bool, true, false, not, List, [], ◌∷◌, ◌++◌, length, Option, Some, None, is_some, Contains}
use Rattle.block_types.specs.declared.record.Nodes.{Nodes}
use Rattle.wire.specs.declared.actor.ReqNo.{ReqNo}
use Rattle.wire.specs.declared.actor.ReqNo.TheVariants as requests
use Rattle.wire.specs.declared.body.AppendBody.TheVariants as appends
use Rattle.wire.specs.declared.body.Body.{Body}
use Rattle.wire.specs.declared.body.Body.TheVariants as bodies
use Rattle.wire.specs.declared.body.CheckBody.TheVariants as checks
use Rattle.wire.specs.declared.body.ReadBody.TheVariants as reads
use Rattle.wire.specs.declared.body.SealBody.TheVariants as seals
use Rattle.wire.specs.declared.body.StreamBody.TheVariants as streams
use Rattle.wire.specs.declared.packet.Packet.{Packet}
use Rattle.wire.specs.declared.streams.Modify.{Modify}
use Rattle.wire.specs.declared.streams.StreamExtent.{StreamExtent}
use Rattle.wire.specs.declared.streams.StreamKind.TheVariants as kinds
use Rattle.wire.specs.declared.streams.StreamName.{StreamName}
use Rattle.memtable.specs.declared.cell.Place.{Place}
use Rattle.replica.specs.Groups.{Group}
use Rattle.streams.specs.declared.table.Position.{Position}
use Rattle.metadata.specs.declared.record.Region.{Region}
use Rattle.checkpoint.specs.Merges.{next_place}
use Rattle.client.specs.declared.job.Job.{Job}
use Rattle.client.specs.declared.job.Job.TheVariants as jobs
use Rattle.client.specs.declared.job.News.{News}
use Rattle.client.specs.declared.job.News.TheVariants as news
use Rattle.client.specs.declared.load.LoadPhase.TheVariants as phases
use Rattle.client.specs.Client.{ClientState, awaits, last_extent}
use Rattle.client.specs.Load.{load_awaits}
use Rattle.commitlog.specs.Record.{spelling}
use Rattle.model_streams.specs.Manager.{sealed_lengths}
use Rattle.model_streams.specs.StreamSystem.{StreamSystem}
use Rattle.model_partition.specs.CheckpointStates.{CheckpointState, is_recording}
use Rattle.model_partition.specs.Checkpoints.{has_record_number}
use Rattle.model_partition.specs.declared.checkpoint_job.CheckpointPhase.{CheckpointPhase}
use Rattle.model_partition.specs.declared.checkpoint_job.CheckpointPhase.TheVariants.{Combining, Record, Trim}
use Rattle.model_partition.specs.declared.server_context.ServerContext.{ServerContext}
use Rattle.model_partition.specs.declared.stage.Stage.{Stage}
use Rattle.model_partition.specs.declared.stage.Stage.TheVariants as stages
use Rattle.model_partition.specs.Range.{OutGroup, RangeState, RangeOutcome, is_serving}
use Rattle.model_partition.specs.Loading.{open_region}
use Rattle.model_histories.specs.ServerRun.{place_number}
use Rattle.model_partition.specs.Serving.{record_of}
use Rattle.model_histories.specs.Story.{Copy}
use Rattle.model_histories.specs.StreamActions.{read_end, record_group}
use Rattle.model_histories.specs.StreamMachine as machine
use Rattle.model_histories.specs.ServerTurns as turns
use Rattle.laws_stream_machine.specs.Refinement.{Purpose, Sent, purpose_of, asked_number, extents_in, Opens, Checks, Seals, Reads, Confirms, Appends, Extends, Tells, IsAt, IsAsked}

-- ---- turns of one incarnation

-- what the machine is, and where the incarnation stands in it
pub record Stand : Type 0 where
  pub state : machine.MachineState Group
  pub phase : turns.Phase Group

module _ (generation : ℕ → ℕ) (i : ℕ) where
  abbrev pub turned : Stand → turns.Turn Group → Stand
  turned x t =
      record {
        state = turns.all_next Group generation x.state (turns.does Group generation x.state i x.phase t);
        phase = turns.becomes Group generation x.state x.phase t;
      }

  -- the newest first
  abbrev pub after_turns : Stand → List (turns.Turn Group) → Stand
  after_turns x [] = x
  after_turns x (t ∷ earlier) = turned (after_turns x earlier) t

  abbrev pub AreTurns : Stand → List (turns.Turn Group) → Type 0
  AreTurns x [] = Unit {0}
  AreTurns x (t ∷ earlier) =
      turns.IsTurn Group generation (after_turns x earlier).state i (after_turns x earlier).phase t × AreTurns x earlier

-- the group whose Append is out
abbrev pub group_in : turns.Phase Group → Group
group_in (turns.Sent n append group) = group
group_in phase = []

-- ---- a client

-- whether the last extent is there and not sealed
abbrev pub is_live : Option StreamExtent → Bool
is_live None = false
is_live (Some x) = not (is_some x.length)

abbrev pub number_of : Option StreamExtent → Option ℕ
number_of None = None
number_of (Some x) = Some x.extent

-- how many extents the stream has, up to the last one that the client knows
abbrev pub known : ClientState → ℕ
known c = c.base + length c.extents

-- the last extent that the client knows is not sealed, and has this number and this index
pub record LastIs (c : ClientState) (e index : ℕ) : Type 0 where
  pub places : Nodes
  pub last : last_extent c.extents ≡ Some (record { extent = e; places = places; length = None })
  pub index_is : suc index ≡ known c

-- what a load reads of the extents that its client knows: all that are sealed, and what stood in an open last one
pub data LoadOf (i : ℕ) (s : machine.MachineState Group) (c : ClientState) (read : List (Copy Group)) : Type 0 where
  OfSealed : (live : is_live (last_extent c.extents) ≡ false) (within : known c ≤ length s.core.shut) (is : read ≡ machine.all_shut (machine.first (known c) s.core.shut)) → LoadOf i s c read
  OfStood : (index found : ℕ) (stood : List (Copy Group)) (live : is_live (last_extent c.extents) ≡ true) (count : suc index ≡ known c) (checked : c.checked ≡ Some found)
      (fact : machine.In (machine.Checked i index stood (machine.base index + found)) s.facts) (within : index ≤ length s.core.shut)
      (is : read ≡ machine.all_shut (machine.first index s.core.shut) ++ stood) → LoadOf i s c read

module _ (generation : ℕ → ℕ) (name : StreamName) (w : StreamSystem) (i : ℕ) (x : Stand) (sent : List Sent) where
  -- the client is of this stream and this incarnation, and was told its extents rightly
  pub record IsTold (c : ClientState) : Type 0 where
    pub stream : c.stream ≡ name
    pub under : c.generation ≡ generation i
    pub tells : Tells generation name w x.state sent (record { base = c.base; extents = c.extents })

  -- ---- the append job

  pub record SentIs (c : ClientState) (e : ℕ) (q : ReqNo) : Type 0 where
    pub index : ℕ
    pub append : ℕ
    pub last : LastIs c e index
    pub stands : x.phase ≡ turns.Sent (suc index) append c.group
    pub for : purpose_of sent q ≡ Some (Appends i index append c.group)
    pub fact : machine.In (machine.AsksAppend i index append c.group) x.state.facts

  pub record ClosingIs (c : ClientState) (e : ℕ) (q : ReqNo) : Type 0 where
    pub index : ℕ
    pub append : ℕ
    pub last : LastIs c e index
    pub stands : x.phase ≡ turns.Closing (suc index) append c.group
    pub for : purpose_of sent q ≡ Some (Seals i index)

  pub record GrowingIs (c : ClientState) (last : Option ℕ) (q : ReqNo) : Type 0 where
    pub append : ℕ
    pub all_sealed : is_live (last_extent c.extents) ≡ false
    pub stands : x.phase ≡ turns.Growing (known c) append c.group
    pub for : purpose_of sent q ≡ Some (Extends i (known c))
    pub last_is : last ≡ number_of (last_extent c.extents)
    pub fact : machine.In (machine.AsksExtend i (known c)) x.state.facts

  -- no append job; whether the last extent is open
  abbrev pub IsIdle : ClientState → Type 0
  IsIdle c = x.phase ≡ turns.Serving (known c) (is_live (last_extent c.extents))

  -- a job of a client of a range that is served
  abbrev pub ServesBy : ClientState → Job → Type 0
  ServesBy c jobs.Idle = IsIdle c
  ServesBy c (jobs.Sent e q) = SentIs c e q
  ServesBy c (jobs.Closing e q) = ClosingIs c e q
  ServesBy c (jobs.Growing last q) = GrowingIs c last q
  ServesBy c (jobs.Checking e q) = ⊥
  ServesBy c (jobs.Shutting e q) = ⊥
  ServesBy c (jobs.Reading e places upto sealed place q) = ⊥

  -- ---- the load

  pub record CheckingIs (c : ClientState) (e : ℕ) (q : ReqNo) : Type 0 where
    pub index : ℕ
    pub last : LastIs c e index
    pub stands : x.phase ≡ turns.Checking index
    pub for : purpose_of sent q ≡ Some (Checks i index)
    pub fact : machine.In (machine.AsksCheck i index) x.state.facts

  pub record ShuttingIs (c : ClientState) (e : ℕ) (q : ReqNo) : Type 0 where
    pub index : ℕ
    pub last : LastIs c e index
    pub stands : x.phase ≡ turns.Sealing index
    pub for : purpose_of sent q ≡ Some (Seals i index)

  -- the last extent was checked at the length that the client keeps
  pub record FoundIs (c : ClientState) : Type 0 where
    pub e : ℕ
    pub index : ℕ
    pub found : ℕ
    pub stood : List (Copy Group)
    pub last : LastIs c e index
    pub stands : x.phase ≡ turns.Checking index
    pub checked : c.checked ≡ Some found
    pub fact : machine.In (machine.Checked i index stood (machine.base index + found)) x.state.facts

  -- where the load stands when all extents but an open last one are sealed and that one is checked
  pub data Readable (c : ClientState) : Type 0 where
    -- each was sealed at the opening, or there is none
    WasSealed : (live : is_live (last_extent c.extents) ≡ false) (stands : x.phase ≡ turns.Opening) → Readable c
    WasFound : (found : FoundIs c) → Readable c
    -- the last was sealed by this load
    WasShut : (index : ℕ) (index_is : suc index ≡ known c) (live : is_live (last_extent c.extents) ≡ false)
        (stands : x.phase ≡ turns.Sealing index) → Readable c

  pub record ReadingIs (c : ClientState) (e upto : ℕ) (sealed : Bool) (q : ReqNo) : Type 0 where
    pub index : ℕ
    pub at : IsAt w name index e
    pub for : purpose_of sent q ≡ Some (Reads i index upto)
    pub is_last : sealed ≡ false → LastIs c e index
    pub readable : Readable c

  -- a job of a client whose stream is loaded, and is not asked any more once its generation is to be confirmed
  abbrev pub LoadsBy : ClientState → Job → Type 0
  LoadsBy c jobs.Idle = Readable c
  LoadsBy c (jobs.Sent e q) = ⊥
  LoadsBy c (jobs.Closing e q) = ⊥
  LoadsBy c (jobs.Growing last q) = ⊥
  LoadsBy c (jobs.Checking e q) = CheckingIs c e q
  LoadsBy c (jobs.Shutting e q) = ShuttingIs c e q
  LoadsBy c (jobs.Reading e places upto sealed place q) = ReadingIs c e upto sealed q

  pub record LoadingIs (c : ClientState) : Type 0 where
    pub told : IsTold c
    pub opened : machine.In (machine.Opened i (known c)) x.state.facts
    pub job : LoadsBy c c.job

  -- OpenStreams is out
  pub record OpeningIs (q : ReqNo) : Type 0 where
    pub stands : x.phase ≡ turns.Opening
    pub for : purpose_of sent q ≡ Some (Opens i)
    pub fact : machine.In (machine.AsksOpen i) x.state.facts

  -- all is read and Confirm is out
  pub record ConfirmingIs (c : ClientState) (q : ReqNo) : Type 0 where
    pub told : IsTold c
    pub idle : c.job ≡ jobs.Idle
    pub read : List (Copy Group)
    pub end : ℕ
    pub of : LoadOf i x.state c read
    pub stands : x.phase ≡ turns.Confirming (known c) (is_live (last_extent c.extents))
    pub for : purpose_of sent q ≡ Some (Confirms i read end)
    pub fact : machine.In (machine.AsksConfirm i read end) x.state.facts
    -- it ends where the server says
    pub ends : end ≡ place_number (read_end c (record { index = c.base; offset = 0 }))

  -- the range is served
  pub record ServingIs (c : ClientState) : Type 0 where
    pub told : IsTold c
    pub job : ServesBy c c.job

  -- this stream waits until another is read
  pub record UnreadIs (c : ClientState) : Type 0 where
    pub told : IsTold c
    pub opened : machine.In (machine.Opened i (known c)) x.state.facts
    pub idle : c.job ≡ jobs.Idle
    pub stands : x.phase ≡ turns.Opening

-- ---- what grows

-- facts, sealed extents, the list of the stream and the requests that were sent are never taken back
pub record Wider (name : StreamName) (w v : StreamSystem) (s t : machine.MachineState Group) (sent more : List Sent) : Type 0 where
  pub facts : (f : machine.Fact Group) → machine.In f s.facts → machine.In f t.facts
  pub shut : (index : ℕ) (y : machine.SealedExtent Group) → machine.shut_at index s.core.shut ≡ Some y → machine.shut_at index t.core.shut ≡ Some y
  pub extents : (index e : ℕ) → IsAt w name index e → IsAt v name index e
  pub known : length (extents_in w name) ≤ length (extents_in v name)
  pub purposes : (q : ReqNo) (p : Purpose) → purpose_of sent q ≡ Some p → purpose_of more q ≡ Some p

-- ---- a range

pub record Side : Type 0 where
  pub stand : Stand
  pub sent : List Sent

-- a job of a client of a range that is served: this is so of the group of an append job, and this where there is none
abbrev pub JobIs : (Group → Type 0) → Type 0 → Job → Group → Type 0
JobIs Holds Rests jobs.Idle group = Rests
JobIs Holds Rests (jobs.Sent e q) group = Holds group
JobIs Holds Rests (jobs.Closing e q) group = Holds group
JobIs Holds Rests (jobs.Growing last q) group = Holds group
JobIs Holds Rests (jobs.Checking e q) group = ⊥
JobIs Holds Rests (jobs.Shutting e q) group = ⊥
JobIs Holds Rests (jobs.Reading e places upto sealed place q) group = ⊥

-- the group of an append job is that of the transactions that are being appended
abbrev pub GroupIs : Group → Option OutGroup → Type 0
GroupIs group out = (o : OutGroup) × (out ≡ Some o) × (group ≡ spelling (record_of o.first o.transactions))

abbrev pub OutIs : Job → Group → Option OutGroup → Type 0
OutIs job group out = JobIs (λ g. GroupIs g out) (out ≡ None) job group

-- the group is the record of the checkpoint that is under way
abbrev pub IsRecord : RangeState → Group → Type 0
IsRecord r group =
    (job : CheckpointState) × (index : Place) × (r.control ≡ Some job) × (job.phase ≡ Record index) × (group ≡ record_group r job index) × (has_record_number r ≡ true)

-- whether a record is being appended
abbrev pub is_recording_in : Option CheckpointState → Bool
is_recording_in None = false
is_recording_in (Some job) = is_recording job.phase

-- what the metadata's client appends is the record of the checkpoint that is under way
abbrev pub RecordIs : RangeState → Type 0
RecordIs r = JobIs (IsRecord r) (is_recording_in r.control ≡ false) r.metadata.job r.metadata.group

-- no checkpoint is under way, and nothing is out to row data
abbrev pub HasNoCheckpoint : RangeState → Type 0
HasNoCheckpoint r = (r.rows.job ≡ jobs.Idle) × (r.control ≡ None)

abbrev pub metadata_of : ℕ → StreamName
metadata_of range = record { range = range; kind = kinds.Metadata }

abbrev pub log_of : ℕ → StreamName
log_of range = record { range = range; kind = kinds.Log }

abbrev pub rows_of : ℕ → StreamName
rows_of range = record { range = range; kind = kinds.RowData }

-- ---- row data, which no machine follows: it is in no order, and nothing reads it but by place

-- the manager's list of row data has the extent
abbrev pub IsOfRows : StreamSystem → ℕ → ℕ → Type 0
IsOfRows w range e = (index : ℕ) × IsAt w (rows_of range) index e

-- the number is that of no request about the metadata or the log
abbrev pub IsAside : List Sent → List Sent → ReqNo → Type 0
IsAside m l q = (purpose_of m q ≡ None) × (purpose_of l q ≡ None)

module _ (range : ℕ) (w : StreamSystem) (m l : List Sent) where
  -- a job of the client of row data: it asks of an extent of that stream, under a number that is none of the other streams'
  abbrev pub RowsJob : Job → Type 0
  RowsJob jobs.Idle = Unit {0}
  RowsJob (jobs.Sent e q) = IsOfRows w range e × IsAside m l q
  RowsJob (jobs.Closing e q) = IsOfRows w range e × IsAside m l q
  RowsJob (jobs.Growing last q) = IsAside m l q
  RowsJob (jobs.Checking e q) = ⊥
  RowsJob (jobs.Shutting e q) = ⊥
  RowsJob (jobs.Reading e places upto sealed place q) = ⊥

  -- the client of row data knows extents of that stream alone
  pub record RowsStand (c : ClientState) : Type 0 where
    pub stream : c.stream ≡ rows_of range
    pub listed : (x : StreamExtent) → Contains c.extents x → IsOfRows w range x.extent
    pub job : RowsJob c.job

-- what a request about row data asks: its group is the one that is being appended, and its list is that of row data
abbrev pub AsksOfRows : ℕ → ClientState → Body → Type 0
AsksOfRows range c (bodies.Append (appends.Append e g blocks q)) = blocks ≡ c.group
AsksOfRows range c (bodies.Seal (seals.SealExtent e q)) = Unit {0}
AsksOfRows range c (bodies.Stream (streams.Extend stream g last pick q)) = stream ≡ rows_of range
AsksOfRows range c body = ⊥

-- a request of this number is about row data, and its answer is waited for
abbrev pub IsForRows : ℕ → Option RangeState → ReqNo → Body → Type 0
IsForRows range None q body = ⊥
IsForRows range (Some r) q body = (awaits r.rows.job q ≡ true) × AsksOfRows range r.rows body

-- what is told of row data is of its list: what the opening told, and an extent that was added
abbrev pub RowsTold : StreamSystem → ℕ → RangeState → Body → Type 0
RowsTold w range r (bodies.Stream (streams.Opened q lists)) = load_awaits r.load.phase q ≡ true → (x : StreamExtent) → Contains lists.row_data.extents x → IsOfRows w range x.extent
RowsTold w range r (bodies.Stream (streams.Extended q e places)) = awaits r.rows.job q ≡ true → IsOfRows w range e
RowsTold w range r body = Unit {0}

-- the log's last extent stays below what a checkpoint trims, and where the log has none its first index is named
abbrev pub BeginsInLog : ClientState → Position → Type 0
BeginsInLog log position = length log.extents ≡ 0 → position.index ≡ 0

-- the region that a load leaves open begins so
abbrev pub BeginsRightly : RangeState → Type 0
BeginsRightly r = (region : Region) → open_region r.regions ≡ Some region → BeginsInLog r.log region.start

abbrev pub TrimsPhase : ClientState → CheckpointPhase → Type 0
TrimsPhase log (Trim before to_blob q) = (before ≤ log.base) ⊎ (before < known log)
TrimsPhase log phase = Unit {0}

-- pages of older indexes are merged in the first phase alone
abbrev pub MergesPhase : CheckpointPhase → Option Place → Type 0
MergesPhase Combining next = Unit {0}
MergesPhase phase next = next ≡ None

abbrev pub TrimsJob : ClientState → Option CheckpointState → Type 0
TrimsJob log None = Unit {0}
TrimsJob log (Some job) = BeginsInLog log job.position × TrimsPhase log job.phase × MergesPhase job.phase (next_place job.merge)

module _ (generation : ℕ → ℕ) (range : ℕ) (w : StreamSystem) (i : ℕ) (m l : Side) where
  pub record IsOpening (r : RangeState) : Type 0 where
    pub q : ReqNo
    pub phase : r.load.phase ≡ phases.Opening q
    pub metadata : OpeningIs generation (metadata_of range) w i m.stand m.sent q
    pub log : OpeningIs generation (log_of range) w i l.stand l.sent q
    pub metadata_idle : r.metadata.job ≡ jobs.Idle
    pub log_idle : r.log.job ≡ jobs.Idle

  pub record LoadsMetadata (r : RangeState) : Type 0 where
    pub phase : r.load.phase ≡ phases.Opened
    pub metadata : LoadingIs generation (metadata_of range) w i m.stand m.sent r.metadata
    pub log : UnreadIs generation (log_of range) w i l.stand l.sent r.log

  pub record LoadsLog (r : RangeState) : Type 0 where
    pub phase : r.load.phase ≡ phases.Opened
    pub metadata : LoadingIs generation (metadata_of range) w i m.stand m.sent r.metadata
    pub metadata_idle : r.metadata.job ≡ jobs.Idle
    pub log : LoadingIs generation (log_of range) w i l.stand l.sent r.log

  -- both streams are read, and an index is being read
  pub record LoadsIndexes (r : RangeState) : Type 0 where
    pub phase : r.load.phase ≡ phases.Opened
    pub metadata : LoadingIs generation (metadata_of range) w i m.stand m.sent r.metadata
    pub metadata_idle : r.metadata.job ≡ jobs.Idle
    pub log : LoadingIs generation (log_of range) w i l.stand l.sent r.log
    pub log_idle : r.log.job ≡ jobs.Idle

  pub record IsConfirming (r : RangeState) : Type 0 where
    pub q : ReqNo
    pub phase : r.load.phase ≡ phases.Confirming q
    pub metadata : ConfirmingIs generation (metadata_of range) w i m.stand m.sent r.metadata q
    pub log : ConfirmingIs generation (log_of range) w i l.stand l.sent r.log q

  pub record IsServing (r : RangeState) : Type 0 where
    pub phase : r.load.phase ≡ phases.Confirmed
    pub metadata : ServingIs generation (metadata_of range) w i m.stand m.sent r.metadata
    pub record_is : RecordIs r
    pub log : ServingIs generation (log_of range) w i l.stand l.sent r.log
    pub out : OutIs r.log.job r.log.group r.out
    -- what the log is trimmed to; and pages are merged before any is written
    pub position : BeginsInLog r.log r.position
    pub trims : TrimsJob r.log r.control

  abbrev pub StageIs : RangeState → Stage → Type 0
  StageIs r stages.Opening = IsOpening r
  StageIs r (stages.Checking kinds.Metadata) = LoadsMetadata r
  StageIs r (stages.Checking kinds.Log) = LoadsLog r
  StageIs r (stages.Checking kinds.RowData) = ⊥
  StageIs r (stages.Checking kinds.BlobData) = ⊥
  StageIs r (stages.Reading kinds.Metadata position) = LoadsMetadata r
  StageIs r (stages.Reading kinds.Log position) = LoadsLog r
  StageIs r (stages.Reading kinds.RowData position) = ⊥
  StageIs r (stages.Reading kinds.BlobData position) = ⊥
  StageIs r (stages.Indexing position) = LoadsIndexes r
  StageIs r stages.Confirming = IsConfirming r
  StageIs r stages.Serving = IsServing r

  -- a range at a server is where the machines of its two streams have the incarnation stand
  pub record Follows (r : RangeState) : Type 0 where
    pub range_is : r.load.range ≡ range
    pub under : r.load.generation ≡ generation i
    -- no checkpoint is made until it is served
    pub calm : is_serving r.stage ≡ false → HasNoCheckpoint r
    pub rows : RowsStand range w m.sent l.sent r.rows
    pub stage : StageIs r r.stage

-- ---- what a step of a client does

-- whether a request is about one stream alone: the opening and the confirmation are about all streams of a range
abbrev pub is_alone : Purpose → Bool
is_alone (Opens i) = false
is_alone (Checks i index) = true
is_alone (Seals i index) = true
is_alone (Reads i index upto) = true
is_alone (Confirms i read end) = false
is_alone (Appends i index append group) = true
is_alone (Extends i n) = true

abbrev pub sent_with : ReqNo → Option Purpose → List Sent → List Sent
sent_with q None sent = sent
sent_with q (Some p) sent = record { request = q; purpose = p } ∷ sent

-- what the manager's list of a stream keeps: the extents are made, and each stands there once
pub record Listed (w : StreamSystem) (name : StreamName) : Type 0 where
  pub made : (index e : ℕ) → IsAt w name index e → w.catalog.extent e ≡ None → ⊥
  pub once : (j k e : ℕ) → IsAt w name j e → IsAt w name k e → j ≡ k

module _ (generation : ℕ → ℕ) (name : StreamName) (w : StreamSystem) (i : ℕ) where
  -- the number of a request about this stream alone
  abbrev pub IsNumbered : List Sent → ReqNo → Type 0
  IsNumbered sent q = (p : Purpose) × (purpose_of sent q ≡ Some p) × (is_alone p ≡ true)

  -- a request about an extent or the list of this stream alone
  abbrev pub IsOwn : List Sent → Body → Type 0
  IsOwn sent (bodies.Append (appends.Append e g blocks q)) = ((index : ℕ) × IsAt w name index e) × IsNumbered sent q
  IsOwn sent (bodies.Check (checks.Check e g q)) = ((index : ℕ) × IsAt w name index e) × IsNumbered sent q
  IsOwn sent (bodies.Read (reads.ReadGroups e upto sealed q)) = ((index : ℕ) × IsAt w name index e) × IsNumbered sent q
  IsOwn sent (bodies.Seal (seals.SealExtent e q)) = ((index : ℕ) × IsAt w name index e) × IsNumbered sent q
  IsOwn sent (bodies.Stream (streams.Extend stream g last pick q)) = (stream ≡ name) × IsNumbered sent q
  IsOwn sent body = ⊥

  -- what is sent, if anything, is asked, and of this stream alone
  abbrev pub IsAskedIf : Stand → List Sent → Option Packet → Type 0
  IsAskedIf x sent None = Unit {0}
  IsAskedIf x sent (Some p) = IsAsked generation name w x.state sent p.body × IsOwn sent p.body

  -- Turns of the incarnation, each allowed, and at most one more request, under this number: then it stands like this, and
  -- what is sent is asked.
  pub record Goes (x : Stand) (sent : List Sent) (q : ReqNo) (Then : Stand → List Sent → Type 0) (packet : Option Packet) : Type 0 where
    pub list : List (turns.Turn Group)
    pub allowed : AreTurns generation i x list
    pub purpose : Option Purpose
    pub then : Then (after_turns generation i x list) (sent_with q purpose sent)
    pub asked : IsAskedIf (after_turns generation i x list) (sent_with q purpose sent) packet

  -- an answer under an old generation ends all; else the client goes on, and asks nothing more once its group stands
  abbrev pub ServesAfter : List Sent → Option News → ClientState → Stand → List Sent → Type 0
  ServesAfter sent None c = λ y more. ServingIs generation name w i y more c
  ServesAfter sent (Some news.Fenced) c = λ y more. Unit {0}
  ServesAfter sent (Some (news.Appended e offset)) c = λ y more. ServingIs generation name w i y more c × (more ≡ sent)
  ServesAfter sent (Some (news.Checked e found)) c = λ y more. ServingIs generation name w i y more c
  ServesAfter sent (Some (news.Sealed e l)) c = λ y more. ServingIs generation name w i y more c
  ServesAfter sent (Some (news.Content e upto)) c = λ y more. ServingIs generation name w i y more c

-- the answer to an Extend that is waited for counts one extent more
abbrev pub IsCounted : ℕ → Stand → Type 0
IsCounted i x = (n m append : ℕ) (group : Group) → x.phase ≡ turns.Growing n append group → machine.In (machine.Extended i n m) x.state.facts → m ≡ suc n

-- ---- a range that is served, as its log has it

module _ (generation : ℕ → ℕ) (range : ℕ) (w : StreamSystem) (i : ℕ) where
  -- it says nothing of any stream's extents, whatever there is: what users are told, and reads of values
  abbrev pub IsPlain : Packet → Type 0
  IsPlain p = (u : StreamSystem) (name : StreamName) (s : machine.MachineState Group) (sent : List Sent) → IsAsked generation name u s sent p.body

  abbrev pub AreAsked : StreamName → Stand → List Sent → List Packet → Type 0
  AreAsked name x sent [] = Unit {0}
  AreAsked name x sent (p ∷ ps) = (IsPlain p ⊎ (IsAsked generation name w x.state sent p.body × IsOwn generation name w i sent p.body)) × AreAsked name x sent ps

  pub record ServesLog (x : Stand) (sent : List Sent) (r : RangeState) : Type 0 where
    pub range_is : r.load.range ≡ range
    pub under : r.load.generation ≡ generation i
    pub client : ServingIs generation (log_of range) w i x sent r.log
    pub out : OutIs r.log.job r.log.group r.out
    pub stage : r.stage ≡ stages.Serving

  -- a range that is dropped makes no turn any more
  abbrev pub ServesLogIf : Option RangeState → Stand → List Sent → Type 0
  ServesLogIf None = λ x sent. Unit {0}
  ServesLogIf (Some r) = λ x sent. ServesLog x sent r

-- ---- both streams of a range

-- a number of a request about one stream alone is none of the other's
pub record Apart (one other : List Sent) : Type 0 where
  pub here : (q : ReqNo) (p : Purpose) → purpose_of one q ≡ Some p → is_alone p ≡ true → purpose_of other q ≡ None
  pub there : (q : ReqNo) (p : Purpose) → purpose_of other q ≡ Some p → is_alone p ≡ true → purpose_of one q ≡ None

-- what the manager's lists of both, and of row data, keep: no extent stands in two of them while it is not sealed
pub record BothListed (w : StreamSystem) (range : ℕ) : Type 0 where
  pub metadata : Listed w (metadata_of range)
  pub log : Listed w (log_of range)
  pub apart : (j k e : ℕ) → IsAt w (metadata_of range) j e → IsAt w (log_of range) k e → sealed_lengths w.catalog e ≡ None → ⊥
  pub rows_made : (e : ℕ) → IsOfRows w range e → w.catalog.extent e ≡ None → ⊥
  pub rows_metadata : (k e : ℕ) → IsOfRows w range e → IsAt w (metadata_of range) k e → sealed_lengths w.catalog e ≡ None → ⊥
  pub rows_log : (k e : ℕ) → IsOfRows w range e → IsAt w (log_of range) k e → sealed_lengths w.catalog e ≡ None → ⊥

-- the server's numbers from its count on are not used
abbrev pub AreUnused : ServerContext → ℕ → List Sent → Type 0
AreUnused d count sent = (k : ℕ) → count ≤ k → purpose_of sent (requests.Server d.server d.session k) ≡ None

-- row data waits under none of them
abbrev pub IsPastRows : ServerContext → RangeState → Type 0
IsPastRows d r = (k : ℕ) → d.count ≤ k → awaits r.rows.job (requests.Server d.server d.session k) ≡ true → ⊥

-- what was sent before is known, and its numbers are those of two streams, and below the server's count
pub record IsSentBy (d : ServerContext) (count : ℕ) (m l : List Sent) : Type 0 where
  pub apart : Apart m l
  pub metadata : AreUnused d count m
  pub log : AreUnused d count l

-- at most one request more, under a number that the server had not used
pub record Adds (d : ServerContext) (sent more : List Sent) : Type 0 where
  pub number : ℕ
  pub from : d.count ≤ number
  pub purpose : Option Purpose
  pub is : more ≡ sent_with (requests.Server d.server d.session number) purpose sent

-- it asks for no stream to be built
abbrev pub BuildsNone : Body → Type 0
BuildsNone (bodies.Stream (streams.MultiModify list q)) = (m : Modify) → Contains list m → ⊥
BuildsNone body = Unit {0}

module _ (generation : ℕ → ℕ) (range : ℕ) (w : StreamSystem) (i : ℕ) where
  abbrev pub FollowsIf : Option RangeState → Side → Side → Type 0
  FollowsIf None n k = Unit {0}
  FollowsIf (Some r) n k = Follows generation range w i n k r

  -- what can have a purpose has one, in one of the streams, or is about row data
  abbrev pub IsKnown : Option RangeState → List Sent → List Sent → Body → Type 0
  IsKnown after m l body = (q : ReqNo) → asked_number body ≡ Some q → purpose_of m q ≡ None → purpose_of l q ≡ None → IsForRows range after q body

  -- each packet is asked, as both streams see it; after: the range that sends it
  abbrev pub AskedOfBoth : Option RangeState → Side → Side → List Packet → Type 0
  AskedOfBoth after n k [] = Unit {0}
  AskedOfBoth after n k (p ∷ ps) =
      (IsAsked generation (metadata_of range) w n.stand.state n.sent p.body × IsAsked generation (log_of range) w k.stand.state k.sent p.body × IsKnown after n.sent k.sent p.body × BuildsNone p.body) × AskedOfBoth after n k ps

  -- What a rule does: turns of the incarnation in both machines, each allowed, and requests of the server's next numbers; then this
  -- is so of the range and of where the machines stand, and all that is sent is asked.
  pub record BothGo (Then : Option RangeState → Side → Side → Type 0) (m l : Side) (d : ServerContext) (o : RangeOutcome) : Type 0 where
    pub metadata_turns : List (turns.Turn Group)
    pub log_turns : List (turns.Turn Group)
    pub metadata_allowed : AreTurns generation i m.stand metadata_turns
    pub log_allowed : AreTurns generation i l.stand log_turns
    -- a range that is dropped makes no turn
    pub none : o.after ≡ None → (metadata_turns ≡ []) × (log_turns ≡ [])
    pub metadata_sent : List Sent
    pub log_sent : List Sent
    pub metadata_keeps : (q : ReqNo) (p : Purpose) → purpose_of m.sent q ≡ Some p → purpose_of metadata_sent q ≡ Some p
    pub log_keeps : (q : ReqNo) (p : Purpose) → purpose_of l.sent q ≡ Some p → purpose_of log_sent q ≡ Some p
    -- numbers are never used again
    pub rises : d.count ≤ o.count
    pub metadata_adds : Adds d m.sent metadata_sent
    pub log_adds : Adds d l.sent log_sent
    pub sent_by : IsSentBy d o.count metadata_sent log_sent
    pub then : Then o.after (record { stand = after_turns generation i m.stand metadata_turns; sent = metadata_sent }) (record { stand = after_turns generation i l.stand log_turns; sent = log_sent })
    pub asked : AskedOfBoth o.after (record { stand = after_turns generation i m.stand metadata_turns; sent = metadata_sent }) (record { stand = after_turns generation i l.stand log_turns; sent = log_sent }) o.packets

  -- the range, if it is still there, is where the machines have it
  abbrev pub RuleGoes : Side → Side → ServerContext → RangeOutcome → Type 0
  RuleGoes m l d o = BothGo (λ after n k. FollowsIf after n k) m l d o
