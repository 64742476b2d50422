-- Where a cluster stands: the machines of each range's streams beside its run, the incarnation that each range at a server is of,
-- the numbers of requests, and what its servers have made of what came to them.
use Rattle.std.proofs.Common.{◌≡◌, ◌⊎◌, ℕ, ◌<◌, ◌≤◌, true, List, [], Option, Some, None, Contains, sym, ◌∙◌, inl, inr}
use Rattle.block_types.specs.declared.record.Nodes.{Nodes}
use Rattle.wire.specs.declared.actor.ActorId.{ActorId}
use Rattle.wire.specs.declared.actor.ActorId.TheVariants.{Map, Server}
use Rattle.wire.specs.declared.actor.ReqNo.{ReqNo}
use Rattle.wire.specs.declared.body.Body.{Body}
use Rattle.wire.specs.declared.body.Body.TheVariants as bodies
use Rattle.wire.specs.declared.body.MapBody.TheVariants as maps
use Rattle.wire.specs.declared.body.StreamBody.TheVariants as streams
use Rattle.wire.specs.declared.packet.Packet.{Packet}
use Rattle.wire.specs.declared.streams.StreamKind.TheVariants as kinds
use Rattle.wire.specs.declared.streams.StreamName.{StreamName}
use Rattle.replica.specs.Groups.{Group}
use Rattle.streams.specs.Streams.{stream_of}
use Rattle.client.specs.Client.{awaits}
use Rattle.model_streams.specs.Maps.{entry_at}
use Rattle.model_streams.specs.Outcome.{packet}
use Rattle.model_streams.specs.StreamSystem.{StreamSystem, Move, run_moves, start}
use Rattle.model_partition.specs.Servers.{ServerCell}
use Rattle.model_partition.specs.Cluster.{Cluster}
use Rattle.model_partition.specs.Past.{Bytes, first_range}
use Rattle.model_partition.specs.declared.split_job.Side.{Side as SplitSide}
use Rattle.model_partition.specs.declared.split_job.Side.TheVariants.{Low, High}
use Rattle.model_partition.specs.declared.split_job.SplitJob.{SplitJob}
use Rattle.model_partition.specs.declared.split_job.SplitPhase.{SplitPhase}
use Rattle.model_partition.specs.declared.split_job.SplitPhase.TheVariants as phases
use Rattle.model_partition.specs.Range.{RangeState}
use Rattle.model_partition.specs.Server.{ServerState, range_of, split_of}
use Rattle.model_partition.specs.Splits.{all_streams, side_range}
use Rattle.model_histories.specs.ServedTables.{AreSeenAs}
use Rattle.model_histories.specs.ServerRun.{ServerRun, RangeHistory, stream_named}
use Rattle.model_histories.specs.ServerTurns.{after_all, AreMoves}
use Rattle.model_histories.specs.ServerTurns as machine
use Rattle.model_histories.specs.Story.{Story}
use Rattle.model_histories.specs.TableContents.{AllTellRightly}
use Rattle.laws_stream_machine.specs.Refinement.{Purpose, Sent, purpose_of, IsThere}
use Rattle.laws_stream_machine.proofs.BuiltStreams.{IsAbsent}
use Rattle.laws_stream_machine.proofs.LowerLayer.{Below}
use Rattle.laws_ranges.specs.Seen.{BeganAt}
use Rattle.laws_ranges.specs.Serves.{Side, metadata_of, log_of, Apart}
use Rattle.laws_ranges.specs.SplitJobs.{waits_seal, waits_call, FollowsBoth}
use Rattle.laws_ranges.specs.SplitSides.{SideWaits, SidesStand}
use Rattle.laws_ranges.proofs.TurnsAsMoves.{stand_of}
use Rattle.laws_log_reads.specs.Reads.{HasRead}
use Rattle.laws_server_runs.specs.Places.{AreAscending}
use Rattle.laws_clusters.proofs.ClientJobs.{AsksBy}
use Rattle.laws_clusters.proofs.Copies.{AllSay}
use Rattle.laws_clusters.proofs.GrownLists.{GrewFrom}
use Rattle.laws_clusters.proofs.ObservedBytes.{AreObserved}
use Rattle.laws_clusters.proofs.MapWords.{IsWord, AreCounted, AllHave}
use Rattle.laws_clusters.proofs.RangeStreams.{HasStreams, AreOfSplits}
use Rattle.laws_clusters.proofs.RequestNumbers.{IsPast, used_number, AreNumbersPast}
use Rattle.laws_clusters.proofs.ServerNotes.{server_notes}

-- a server that runs holds a range
pub record HeldAt (servers : List ServerCell) (s range : ℕ) (r : RangeState) : Type 0 where
  pub cell : ServerCell
  pub state : ServerState
  pub there : entry_at servers s ≡ Some cell
  pub up : cell.state ≡ Some state
  pub found : range_of state.ranges range ≡ Some r

-- and has a split of it under way
pub record SplitAt (servers : List ServerCell) (s range : ℕ) (job : SplitJob) : Type 0 where
  pub cell : ServerCell
  pub state : ServerState
  pub there : entry_at servers s ≡ Some cell
  pub up : cell.state ≡ Some state
  pub found : split_of state.splits range ≡ Some job

-- the two ranges of a split are being made: their streams are asked for, or their keys are appended
abbrev pub IsMaking : SplitPhase → Type 0
IsMaking (phases.Build q) = Unit {0}
IsMaking (phases.Keys side c) = Unit {0}
IsMaking phase = ⊥

-- The server of a split holds neither of the two ranges while they are being made, no other split there makes them, and they are two.
pub record AreAside (servers : List ServerCell) : Type 0 where
  pub unheld : (s k : ℕ) (job : SplitJob) → SplitAt servers s k job → IsMaking job.phase → (side : SplitSide) (r : RangeState) → HeldAt servers s (side_range job side) r → ⊥
  pub once : (s k j : ℕ) (job other : SplitJob) → SplitAt servers s k job → SplitAt servers s j other → IsMaking job.phase → IsMaking other.phase → (side part : SplitSide) → side_range job side ≡ side_range other part → k ≡ j
  pub two : (s k : ℕ) (job : SplitJob) → SplitAt servers s k job → IsMaking job.phase → job.low ≡ job.high → ⊥

-- servers ask for more extents of no blob stream
abbrev pub ExtendNoBlobs : List Packet → Type 0
ExtendNoBlobs post =
    (server : ℕ) (to : ActorId) (stream : StreamName) (fence : ℕ) (last : Option ℕ) (pick : Nodes) (q : ReqNo) → Contains post (packet (Server server) to (bodies.Stream (streams.Extend stream fence last pick q))) → stream.kind ≡ kinds.BlobData → ⊥

-- what a split asks of the map, and what it asks to be built
abbrev pub IsSplitAsk : SplitJob → Body → Type 0
IsSplitAsk job (bodies.Stream (streams.MultiModify list q)) = list ≡ all_streams job
IsSplitAsk job (bodies.Map (maps.BeginSplit range generation key q)) = (range ≡ job.range) × (generation ≡ job.generation) × (key ≡ job.key)
IsSplitAsk job (bodies.Map (maps.CompleteSplit range generation q)) = (range ≡ job.range) × (generation ≡ job.generation)
IsSplitAsk job body = Unit {0}

-- What of a range waits for answers that are about no metadata and no log: its row data, the seal of row data for its split, and a call
-- of its split.
pub data Waiter : Type 0 where
  OfRows : Waiter
  OfSeal : Waiter
  OfCall : Waiter

abbrev pub Waits : List ServerCell → ℕ → ℕ → Waiter → ReqNo → Type 0
Waits servers s range OfRows q = (r : RangeState) × HeldAt servers s range r × (awaits r.rows.job q ≡ true)
Waits servers s range OfSeal q = (job : SplitJob) × SplitAt servers s range job × (waits_seal job.phase q ≡ true)
Waits servers s range OfCall q = (job : SplitJob) × SplitAt servers s range job × (waits_call job.phase q ≡ true)

-- it is about an extent, or a list of extents
abbrev pub IsOfExtents : Waiter → Type 0
IsOfExtents OfRows = Unit {0}
IsOfExtents OfSeal = Unit {0}
IsOfExtents OfCall = ⊥

-- a request is that of its job
abbrev pub AskedBy : List ServerCell → ℕ → ℕ → Waiter → Body → Type 0
AskedBy servers s range OfRows body = (r : RangeState) → HeldAt servers s range r → AsksBy r.rows body
AskedBy servers s range OfSeal body = Unit {0}
AskedBy servers s range OfCall body = (job : SplitJob) → SplitAt servers s range job → IsSplitAsk job body

-- a stream that is neither the metadata nor the log of a range
abbrev pub IsOther : ℕ → StreamName → Type 0
IsOther range name = (name ≡ stream_named range kinds.Metadata → ⊥) × (name ≡ stream_named range kinds.Log → ⊥)

-- the stories that servers see are these of the metadata and of the log of each range, and no other stream has one
pub record SeesAll (y : ServerRun) (metadata log : ℕ → Story Group) : Type 0 where
  pub metadata_is : (range : ℕ) → y.story (stream_named range kinds.Metadata) ≡ metadata range
  pub log_is : (range : ℕ) → y.story (stream_named range kinds.Log) ≡ log range
  pub others : (name : StreamName) → ((range : ℕ) → IsOther range name) → y.story name ≡ []

module _ (generation : ℕ → ℕ) where
  -- the machines of the metadata and the log of a range, and what servers have asked of them
  pub record Machines : Type 0 where
    pub m : List (machine.Move Group generation)
    pub l : List (machine.Move Group generation)
    pub m_sent : List Sent
    pub l_sent : List Sent

  -- What the machines of each metadata and of each log have grown from; and the range at a server, if there is one, whose split is in the midst
  -- of a step, so that nothing is said yet of the metadata of the two that it makes.
  pub record Bases : Type 0 where
    pub metadata : ℕ → List (machine.Move Group generation)
    pub logs : ℕ → List (machine.Move Group generation)
    pub midst : Option (ℕ × ℕ)

  -- the machines of a range have grown from these
  abbrev pub HaveGrown : Bases → ℕ → Machines → Type 0
  HaveGrown base range x = GrewFrom (base.metadata range) x.m × GrewFrom (base.logs range) x.l

  -- the split of a range at a server is in the midst of no step
  abbrev pub IsFirm : Bases → ℕ → ℕ → Type 0
  IsFirm base s range = base.midst ≡ Some (s, range) → ⊥

  -- a number of a request about one of them
  abbrev pub HasNumber : Machines → ReqNo → Type 0
  HasNumber x q = (p : Purpose) × ((purpose_of x.m_sent q ≡ Some p) ⊎ (purpose_of x.l_sent q ≡ Some p))

  -- it is the number of no request about them
  abbrev pub HasNone : Machines → ReqNo → Type 0
  HasNone x q = (purpose_of x.m_sent q ≡ None) × (purpose_of x.l_sent q ≡ None)

  -- no number of the one is the other's
  abbrev pub AreDistinct : Machines → Machines → Type 0
  AreDistinct one other = (q : ReqNo) → HasNumber one q → HasNone other q

  -- A number that a range waits under with its row data, or with its split, was used; where it is about extents, for no request about a
  -- metadata or a log; each request under it is that of the job; and nobody else waits for it.
  pub record Out (servers : List ServerCell) (machines : ℕ → Machines) (post : List Packet) (s range : ℕ) (by : Waiter) (q : ReqNo) : Type 0 where
    pub past : IsPast servers q
    pub none : IsOfExtents by → (j : ℕ) → HasNone (machines j) q
    pub asked : (server : ℕ) (to : ActorId) (body : Body) → Contains post (packet (Server server) to body) → used_number body ≡ Some q → AskedBy servers s range by body
    pub alone : (t k : ℕ) (other : Waiter) → Waits servers t k other q → (t ≡ s) × (k ≡ range) × (other ≡ by)

  abbrev pub AllOut : List ServerCell → (ℕ → Machines) → List Packet → Type 0
  AllOut servers machines post = (s range : ℕ) (by : Waiter) (q : ReqNo) → Waits servers s range by q → Out servers machines post s range by q

  -- where an incarnation stands in each, with the requests so far
  abbrev pub m_side : Machines → ℕ → Side
  m_side x i = record { stand = stand_of generation (after_all Group generation x.m) i; sent = x.m_sent }

  abbrev pub l_side : Machines → ℕ → Side
  l_side x i = record { stand = stand_of generation (after_all Group generation x.l) i; sent = x.l_sent }

  -- an incarnation that has done nothing with either
  abbrev pub IsIdle : Machines → ℕ → Type 0
  IsIdle x i = ((after_all Group generation x.m).phase i ≡ machine.Idle) × ((after_all Group generation x.l).phase i ≡ machine.Idle)

module _ (generation : ℕ → ℕ) (nodes target : ℕ) where
  abbrev pub here : List Move → StreamSystem
  here moves = run_moves moves (start nodes target)

  -- the stream is absent, and nothing was done with it
  pub record IsToBe (moves : List Move) (name : StreamName) (done : List (machine.Move Group generation)) (sent : List Sent) : Type 0 where
    pub absent : IsAbsent name (here moves)
    pub none_done : done ≡ []
    pub none_sent : sent ≡ []

  -- after these moves the stream is there, and the machine is the stream
  pub record IsStream (moves : List Move) (name : StreamName) (done : List (machine.Move Group generation)) (sent : List Sent) : Type 0 where
    pub there : IsThere (here moves) name
    pub below : Below generation name nodes target moves (after_all Group generation done) sent

  -- or it is absent
  abbrev pub IsBeside : List Move → StreamName → List (machine.Move Group generation) → List Sent → Type 0
  IsBeside moves name done sent = IsStream moves name done sent ⊎ IsToBe moves name done sent

  -- where the stream is there the machine is that
  pub there_below : (moves : List Move) (name : StreamName) (done : List (machine.Move Group generation)) (sent : List Sent) → IsBeside moves name done sent → IsThere (here moves) name →
      Below generation name nodes target moves (after_all Group generation done) sent
  there_below moves name done sent (inl stream) there = stream.below
  there_below moves name done sent (inr to_be) (x, is) = absurd (let none : None ≡ Some x = sym to_be.absent.absent ∙ is in cc)

  -- and where it is absent nothing was done with it
  pub absent_to_be : (moves : List Move) (name : StreamName) (done : List (machine.Move Group generation)) (sent : List Sent) → IsBeside moves name done sent → stream_of (here moves).catalog.stream name ≡ None →
      IsToBe moves name done sent
  absent_to_be moves name done sent (inl stream) none = absurd (let (x, is) = stream.there in let c : None ≡ Some x = sym none ∙ is in cc)
  absent_to_be moves name done sent (inr to_be) none = to_be

  module _ (moves : List Move) (range : ℕ) (x : Machines generation) where
    -- after these moves of the system the machines are the range's streams; those of range 0 are users'
    pub record AreBeside : Type 0 where
      pub m_are : AreMoves Group generation x.m
      pub l_are : AreMoves Group generation x.l
      pub apart : Apart x.m_sent x.l_sent
      pub metadata : 1 ≤ range → IsBeside moves (metadata_of range) x.m x.m_sent
      pub log : 1 ≤ range → IsBeside moves (log_of range) x.l x.l_sent

    -- a range at a server is of this incarnation, and this is what it has done with its streams
    pub record Holds (h : RangeHistory) (i : ℕ) (job : Option SplitJob) (r : RangeState) : Type 0 where
      pub follows : FollowsBoth generation range (here moves) i job r (m_side generation x i) (l_side generation x i)
      pub read : HasRead range (here moves) i (after_all Group generation x.m).state (after_all Group generation x.l).state h r
      pub record_append : BeganAt (h.append kinds.Metadata) ((after_all Group generation x.m).phase i)
      pub append : BeganAt (h.append kinds.Log) ((after_all Group generation x.l).phase i)

    -- it is of the incarnation that is kept of it
    pub record IsHeld (h : RangeHistory) (o : Option ℕ) (job : Option SplitJob) (r : RangeState) : Type 0 where
      pub counted : 1 ≤ range
      pub incarnation : ℕ
      pub is : o ≡ Some incarnation
      pub holds : Holds h incarnation job r

  module _ (moves : List Move) (machines : ℕ → Machines generation) (history : ℕ → RangeHistory) (i : ℕ) (r : RangeState) (job : SplitJob) where
    abbrev pub machines_of : SplitSide → Machines generation
    machines_of side = machines (side_range job side)

    -- no group is out to the log of one of the two
    abbrev pub LogRests : SplitSide → Type 0
    LogRests side = (event : ℕ) → BeganAt event ((after_all Group generation (machines_of side).l).phase i)

    -- one of the two is there, and an append to its metadata that is out began where the server says
    pub record SideIsThere (side : SplitSide) : Type 0 where
      pub counted : 1 ≤ side_range job side
      pub streams : HasStreams (here moves) (side_range job side)
      pub append : BeganAt ((history (side_range job side)).append kinds.Metadata) ((after_all Group generation (machines_of side).m).phase i)
      pub log : LogRests side

    -- How the two ranges of a split stand: where the streams of one of them are built its metadata waits for its keys, and then these are
    -- appended.
    abbrev pub KeysStand : SplitPhase → Type 0
    KeysStand (phases.Build q) = (side : SplitSide) → IsThere (here moves) (metadata_of (side_range job side)) → SideWaits generation (here moves) i (m_side generation (machines_of side) i) r job side × LogRests side
    KeysStand (phases.Keys side c) = SidesStand generation (here moves) i (m_side generation (machines_of Low) i) (m_side generation (machines_of High) i) r job (phases.Keys side c) × ((part : SplitSide) → SideIsThere part)
    KeysStand phase = Unit {0}

  -- each range of a server, under its number, is of the incarnation that is kept of it there
  pub record Runs (moves : List Move) (machines : ℕ → Machines generation) (history : ℕ → RangeHistory) (incarnation : ℕ → Option ℕ) (s : ℕ) (cell : ServerCell) (st : ServerState) : Type 0 where
    pub server : st.context.server ≡ s
    pub session : st.context.session ≡ cell.session
    pub ascending : AreAscending st.ranges
    pub held : (range : ℕ) (r : RangeState) → range_of st.ranges range ≡ Some r → IsHeld moves range (machines range) (history range) (incarnation range) (split_of st.splits range) r
    -- its splits are in the order of their ranges, and of ranges that it holds
    pub splits_ascending : AreAscending st.splits
    pub split_held : (range : ℕ) (job : SplitJob) → split_of st.splits range ≡ Some job → (r : RangeState) × (range_of st.ranges range ≡ Some r)

  -- all of a cluster, whose servers are those of a run, and whose streams have grown from a base
  pub record Standing (base : Bases generation) (c : Cluster) (y : ServerRun) : Type 0 where
    pub moves : List Move
    pub leads : here moves ≡ c.stream_layer
    -- the machines of each range; a range that nobody has opened has those in which nothing has happened
    pub machines : ℕ → Machines generation
    pub beside : (range : ℕ) → AreBeside moves range (machines range)
    pub grows : (range : ℕ) → HaveGrown generation base range (machines range)
    pub distinct : (one other : ℕ) → (one ≡ other → ⊥) → AreDistinct generation (machines one) (machines other)
    -- numbers that have a purpose were used, and so was each number that a server has asked under
    pub past : (range : ℕ) (q : ReqNo) → HasNumber generation (machines range) q → IsPast c.servers q
    pub numbers : AreNumbersPast c.servers c.stream_layer.post
    pub out : AllOut generation c.servers machines c.stream_layer.post
    pub from_map : (to : ActorId) (body : Body) → Contains c.stream_layer.post (packet Map to body) → IsWord c.stream_layer body
    -- the map's ranges have numbers from 1 on, and streams; so have the first one and each that a server holds
    pub counted : AreCounted c.map
    pub have : AllHave c.stream_layer c.map
    pub first : HasStreams c.stream_layer first_range
    pub there : (s range : ℕ) (r : RangeState) → HeldAt c.servers s range r → HasStreams c.stream_layer range
    -- servers ask to build the streams of splits alone
    pub lists : AreOfSplits c.stream_layer
    pub extends : ExtendNoBlobs c.stream_layer.post
    -- the incarnation that a range at a server is of, if it has one; those from a bound on have done nothing
    pub incarnation : (server range : ℕ) → Option ℕ
    pub bound : ℕ
    pub own : (s t j k i : ℕ) → incarnation s j ≡ Some i → incarnation t k ≡ Some i → (s ≡ t) × (j ≡ k)
    pub below : (s range i : ℕ) → incarnation s range ≡ Some i → i < bound
    pub idle : (i : ℕ) → bound ≤ i → (range : ℕ) → IsIdle generation (machines range) i
    pub cells : c.servers ≡ y.servers
    pub servers : (s : ℕ) (cell : ServerCell) (st : ServerState) → entry_at c.servers s ≡ Some cell → cell.state ≡ Some st → Runs moves machines (y.history s) (incarnation s) s cell st
    -- the two ranges of each split are aside, and stand as the incarnation of the range that is split has them
    pub aside : AreAside c.servers
    pub keys : (s range : ℕ) (r : RangeState) (job : SplitJob) → HeldAt c.servers s range r → SplitAt c.servers s range job → IsFirm generation base s range → (i : ℕ) → incarnation s range ≡ Some i →
        KeysStand moves machines (y.history s) i r job job.phase
    pub stories : SeesAll y (λ range. (after_all Group generation (machines range).m).state.story) (λ range. (after_all Group generation (machines range).l).state.story)
    -- what was formed of a metadata leaves one region of the log
    pub says : (range : ℕ) → AllSay (y.story (stream_named range kinds.Metadata))
    -- what reads were shown and what appends were answered for was observed, and what servers showed is what is seen of tables
    pub observed : (range : ℕ) → AreObserved c.stream_layer.notes (y.shown range)
    pub acked : (range : ℕ) → AreObserved c.stream_layer.notes (y.answered range)
    pub told : (texts : ℕ → Bytes) → AllTellRightly texts c.stream_layer.notes → AreSeenAs texts y.notes (server_notes c.stream_layer.notes)

  -- it stands over another base too, which its streams have grown from as well, and whose splits stand
  abbrev pub over_base : {base : Bases generation} (c : Cluster) (y : ServerRun) (x : Standing base c y) (other : Bases generation) → ((range : ℕ) → HaveGrown generation other range (x.machines range)) →
      ((s range : ℕ) (r : RangeState) (job : SplitJob) → HeldAt c.servers s range r → SplitAt c.servers s range job → IsFirm generation other s range → (i : ℕ) → x.incarnation s range ≡ Some i →
      KeysStand x.moves x.machines (y.history s) i r job job.phase) → Standing other c y
  over_base c y x other grows keys = record {
    moves = x.moves;
    leads = x.leads;
    machines = x.machines;
    beside = x.beside;
    grows = grows;
    distinct = x.distinct;
    past = x.past;
    numbers = x.numbers;
    out = x.out;
    from_map = x.from_map;
    counted = x.counted;
    have = x.have;
    first = x.first;
    there = x.there;
    lists = x.lists;
    extends = x.extends;
    incarnation = x.incarnation;
    bound = x.bound;
    own = x.own;
    below = x.below;
    idle = x.idle;
    cells = x.cells;
    servers = x.servers;
    aside = x.aside;
    keys = keys;
    stories = x.stories;
    says = x.says;
    observed = x.observed;
    acked = x.acked;
    told = x.told;
  }
