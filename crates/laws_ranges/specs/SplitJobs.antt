-- How a range that is being split, and its split, stand in the machines of the range's streams, by what the split waits for; and what a
-- step of a split does to both.
use Rattle.std.specs.Prelude.{◌≡◌, ◌⊎◌, ℕ, suc, Bool, true, false, List, [], ◌∷◌, Option, Some, None, is_some, Contains}
use Rattle.wire.specs.declared.actor.ReqNo.{ReqNo}
use Rattle.wire.specs.declared.body.AppendBody.TheVariants as appends
use Rattle.wire.specs.declared.body.Body.{Body}
use Rattle.wire.specs.declared.body.Body.TheVariants as bodies
use Rattle.wire.specs.declared.body.SealBody.TheVariants as seals
use Rattle.wire.specs.declared.body.StreamBody.TheVariants as streams
use Rattle.wire.specs.declared.packet.Packet.{Packet}
use Rattle.wire.specs.declared.refusal.Refusal.TheVariants as refusals
use Rattle.wire.specs.declared.streams.StreamExtent.{StreamExtent}
use Rattle.wire.specs.declared.streams.StreamKind.{StreamKind}
use Rattle.wire.specs.declared.streams.StreamKind.TheVariants as kinds
use Rattle.wire.specs.declared.streams.StreamName.{StreamName}
use Rattle.client.specs.declared.job.Job.TheVariants as jobs
use Rattle.client.specs.declared.load.LoadPhase.TheVariants as loads
use Rattle.client.specs.Client.{ClientState}
use Rattle.client.specs.Load.{load_awaits}
use Rattle.client.specs.Requests.{is_same}
use Rattle.model_streams.specs.StreamSystem.{StreamSystem}
use Rattle.model_partition.specs.declared.pause.Pause.TheVariants as pauses
use Rattle.model_partition.specs.declared.server_context.ServerContext.{ServerContext}
use Rattle.model_partition.specs.declared.split_job.SplitJob.{SplitJob}
use Rattle.model_partition.specs.declared.split_job.SplitPhase.{SplitPhase}
use Rattle.model_partition.specs.declared.split_job.SplitPhase.TheVariants as phases
use Rattle.model_partition.specs.declared.stage.Stage.TheVariants as stages
use Rattle.model_partition.specs.Range.{RangeState, RangeOutcome}
use Rattle.model_partition.specs.Splits.{SplitStep, stays, open_last, all_streams, may_say_keys, phase_awaits}
use Rattle.model_histories.specs.ServerTurns as turns
use Rattle.model_histories.specs.StreamActions.{StreamAction, split_group}
use Rattle.laws_stream_machine.specs.Refinement.{Sent, purpose_of, asked_number, Seals, IsAsked}
use Rattle.laws_loads.specs.RangeView.{RangeView}
use Rattle.laws_ranges.specs.Serves.{Stand, Side, known, after_turns, JobIs, IsTold, ServingIs, metadata_of, log_of, IsOfRows, IsAside, RowsStand, IsForRows, BuildsNone, Follows, BothGo}
use Rattle.laws_ranges.specs.Seen.{AreSeen}

-- ---- clients

module _ (generation : ℕ → ℕ) (name : StreamName) (w : StreamSystem) (i : ℕ) (x : Stand) (sent : List Sent) where
  -- A client of a range that is paused, without a job. That its last extent is sealed may have been told since, which is no turn.
  pub record RestsIs (c : ClientState) : Type 0 where
    pub told : IsTold generation name w i x sent c
    pub idle : c.job ≡ jobs.Idle
    pub live : Bool
    pub stands : x.phase ≡ turns.Serving (known c) live

-- the seal of the last extent that a client knows is out under this number
pub record SealIs (i : ℕ) (sent : List Sent) (c : ClientState) (q : ReqNo) : Type 0 where
  pub index : ℕ
  pub index_is : suc index ≡ known c
  pub for : purpose_of sent q ≡ Some (Seals i index)

-- ---- the range

-- the numbers of a split's requests about row data, and of its calls
abbrev pub waits_seal : SplitPhase → ReqNo → Bool
waits_seal (phases.Seal kinds.RowData q) w = is_same q w
waits_seal phase w = false

abbrev pub waits_call : SplitPhase → ReqNo → Bool
waits_call (phases.Begin q) w = is_same q w
waits_call (phases.Build q) w = is_same q w
waits_call (phases.Complete q) w = is_same q w
waits_call phase w = false

-- Once the map has numbered the two ranges that a split makes, this one is none of them.
abbrev pub AreOthers : ℕ → SplitJob → SplitPhase → Type 0
AreOthers range job (phases.Begin q) = Unit {0}
AreOthers range job phase = (job.low ≡ range → ⊥) × (job.high ≡ range → ⊥)

module _ (generation : ℕ → ℕ) (range : ℕ) (w : StreamSystem) (i : ℕ) where
  -- A range that is paused for its split: no group is out to its log, and no checkpoint is under way.
  pub record PausedIs (m l : Side) (r : RangeState) : Type 0 where
    pub range_is : r.load.range ≡ range
    pub under : r.load.generation ≡ generation i
    pub stage : r.stage ≡ stages.Serving
    pub phase : r.load.phase ≡ loads.Confirmed
    pub pause : r.pause ≡ pauses.On
    pub control : r.control ≡ None
    pub out : r.out ≡ None
    pub log : RestsIs generation (log_of range) w i l.stand l.sent r.log
    pub rows : RowsStand range w m.sent l.sent r.rows
    -- nobody appends to its blob stream
    pub blob : open_last r.blob_data.extents ≡ None

  -- what the client of its metadata appends is the record of the split
  pub record RecordsSplit (m : Side) (r : RangeState) (job : SplitJob) : Type 0 where
    pub client : ServingIs generation (metadata_of range) w i m.stand m.sent r.metadata
    pub group : JobIs (λ group. group ≡ split_group job) (Unit {0}) r.metadata.job r.metadata.group

  -- the seal of the last extent of one of its streams is asked for, metadata first
  abbrev pub SealStands : Side → Side → RangeState → StreamKind → ReqNo → Type 0
  SealStands m l r kinds.Metadata q = SealIs i m.sent r.metadata q
  SealStands m l r kinds.Log q = SealIs i l.sent r.log q × (open_last r.metadata.extents ≡ None)
  SealStands m l r kinds.RowData q = IsAside m.sent l.sent q × (open_last r.metadata.extents ≡ None)
  SealStands m l r kinds.BlobData q = ⊥

  -- the record of its split stands
  pub record RecordedIs (m l : Side) (r : RangeState) : Type 0 where
    pub paused : PausedIs m l r
    pub metadata : RestsIs generation (metadata_of range) w i m.stand m.sent r.metadata

  abbrev pub PhaseStands : Side → Side → RangeState → SplitJob → SplitPhase → Type 0
  PhaseStands m l r job (phases.Begin q) = Follows generation range w i m l r
  PhaseStands m l r job phases.Checkpoint = Follows generation range w i m l r
  PhaseStands m l r job phases.Queue = Follows generation range w i m l r × (r.control ≡ None)
  PhaseStands m l r job phases.Record = PausedIs m l r × RecordsSplit m r job
  PhaseStands m l r job (phases.Seal kind q) = RecordedIs m l r × SealStands m l r kind q
  PhaseStands m l r job (phases.Build q) = RecordedIs m l r × (open_last r.metadata.extents ≡ None)
  PhaseStands m l r job (phases.Keys side c) = RecordedIs m l r × (open_last r.metadata.extents ≡ None) × (may_say_keys r job ≡ true)
  PhaseStands m l r job (phases.Complete q) = RecordedIs m l r × (open_last r.metadata.extents ≡ None)

  -- a range that is served, and its split, are where the machines of its two streams have the incarnation stand
  pub record FollowsSplit (m l : Side) (r : RangeState) (job : SplitJob) : Type 0 where
    pub range_is : job.range ≡ range
    pub under : job.generation ≡ generation i
    pub stage : r.stage ≡ stages.Serving
    pub others : AreOthers range job job.phase
    pub stands : PhaseStands m l r job job.phase

  -- the same of a range that may be split
  abbrev pub FollowsBoth : Option SplitJob → RangeState → Side → Side → Type 0
  FollowsBoth None r m l = Follows generation range w i m l r
  FollowsBoth (Some job) r m l = FollowsSplit m l r job

  abbrev pub FollowsBothIf : Option SplitJob → Option RangeState → Side → Side → Type 0
  FollowsBothIf job None m l = Unit {0}
  FollowsBothIf job (Some r) m l = FollowsBoth job r m l

-- ---- what a split asks

-- a seal of row data that the split waits for
abbrev pub IsForSplit : StreamSystem → ℕ → Option SplitJob → ReqNo → Body → Type 0
IsForSplit w range (Some job) q (bodies.Seal (seals.SealExtent e v)) = IsOfRows w range e × (phase_awaits job.phase q ≡ true)
IsForSplit w range job q body = ⊥

-- the streams of the two ranges of the split are to be built
abbrev pub IsBuildOf : Option SplitJob → Body → Type 0
IsBuildOf (Some job) (bodies.Stream (streams.MultiModify list q)) = list ≡ all_streams job
IsBuildOf job body = ⊥

-- the streams of the two ranges are built, or were there
abbrev pub TellsBuilt : Body → Type 0
TellsBuilt (bodies.Stream (streams.Modified q)) = Unit {0}
TellsBuilt (bodies.Append (appends.Refused q refusals.NameTaken)) = Unit {0}
TellsBuilt body = ⊥

-- no keys are being appended
abbrev pub IsUnkeyed : SplitPhase → Type 0
IsUnkeyed (phases.Keys side c) = ⊥
IsUnkeyed phase = Unit {0}

abbrev pub IsUnkeyedIf : Option SplitJob → Type 0
IsUnkeyedIf None = Unit {0}
IsUnkeyedIf (Some job) = IsUnkeyed job.phase

-- the range is served, if it is still there
abbrev pub ServedIf : Option RangeState → Type 0
ServedIf None = Unit {0}
ServedIf (Some r) = r.stage ≡ stages.Serving

-- A step that appends no keys: nothing changes, or none are being appended behind it. The range stays served.
pub record LeavesKeys (d : ServerContext) (r : RangeState) (job : SplitJob) (t : SplitStep) : Type 0 where
  pub served : ServedIf t.range
  pub keys : (t ≡ stays d r job) ⊎ IsUnkeyedIf t.job

-- what a step of a split leaves, but for what it sends
abbrev pub silent : SplitStep → RangeOutcome
silent t = record { after = t.range; count = t.count; packets = []; notes = [] }

module _ (generation : ℕ → ℕ) (range : ℕ) (w : StreamSystem) (i : ℕ) where
  -- what can have a purpose has one, in one of the streams, or is about row data, or is a seal of that which the split waits for
  abbrev pub IsKnownBy : Option RangeState → Option SplitJob → List Sent → List Sent → Body → Type 0
  IsKnownBy after job m l body =
      (q : ReqNo) → asked_number body ≡ Some q → purpose_of m q ≡ None → purpose_of l q ≡ None → IsForRows range after q body ⊎ IsForSplit w range job q body

  -- each packet is asked, as both streams see it; after: the range that sends it, and its split
  abbrev pub AskedOfSplit : Option RangeState → Option SplitJob → Side → Side → List Packet → Type 0
  AskedOfSplit after job n k [] = Unit {0}
  AskedOfSplit after job n k (p ∷ ps) =
      (IsAsked generation (metadata_of range) w n.stand.state n.sent p.body × IsAsked generation (log_of range) w k.stand.state k.sent p.body × IsKnownBy after job n.sent k.sent p.body × (BuildsNone p.body ⊎ IsBuildOf job p.body))
      × AskedOfSplit after job n k ps

  -- What a step of a split does: turns of the incarnation in both machines, each allowed, and requests of the server's next numbers; then
  -- the range and the split are where the machines stand, and all that is sent is asked.
  pub record SplitGoes (m l : Side) (d : ServerContext) (t : SplitStep) : Type 0 where
    pub goes : BothGo generation range w i (λ after n k. FollowsBothIf generation range w i t.job after n k) m l d (silent t)
    pub asked : AskedOfSplit t.range t.job
        (record { stand = after_turns generation i m.stand goes.metadata_turns; sent = goes.metadata_sent })
        (record { stand = after_turns generation i l.stand goes.log_turns; sent = goes.log_sent }) t.packets

  -- and its actions are what its turns add
  pub record SplitSees (v : RangeView) (m l : Side) (d : ServerContext) (t : SplitStep) (actions : List StreamAction) : Type 0 where
    pub step : SplitGoes m l d t
    pub seen : AreSeen generation i v m.stand l.stand step.goes.metadata_turns step.goes.log_turns actions

-- ---- the blob stream, to which nobody appends

-- each of these extents is told to be sealed
abbrev pub AreClosed : List StreamExtent → Type 0
AreClosed xs = (x : StreamExtent) → Contains xs x → is_some x.length ≡ true

-- so is all that a range knows of its blob stream
abbrev pub BlobClosedIf : Option RangeState → Type 0
BlobClosedIf None = Unit {0}
BlobClosedIf (Some r) = AreClosed r.blob_data.extents

-- and what the opening tells of it
abbrev pub BlobTold : RangeState → Body → Type 0
BlobTold r (bodies.Stream (streams.Opened q lists)) = load_awaits r.load.phase q ≡ true → AreClosed lists.blob_data.extents
BlobTold r body = Unit {0}
