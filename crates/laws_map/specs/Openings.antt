-- Ranges that are opened, and splits that are asked for: under one generation a range is opened for one request, and split at one key.
use Rattle.std.specs.Prelude.{◌≡◌, ◌⊎◌, ◌≤◌, ℕ, List, [], Option, Some, None, Contains}
use Rattle.wire.specs.declared.actor.ReqNo.{ReqNo}
use Rattle.wire.specs.declared.actor.ReqNo.TheVariants as requests
use Rattle.wire.specs.declared.body.StreamBody.{StreamBody}
use Rattle.wire.specs.declared.body.StreamBody.TheVariants as streams
use Rattle.wire.specs.declared.body.MapBody.{MapBody}
use Rattle.wire.specs.declared.body.MapBody.TheVariants as maps
use Rattle.wire.specs.declared.body.Body.{Body}
use Rattle.wire.specs.declared.body.Body.TheVariants as bodies
use Rattle.wire.specs.declared.packet.Packet.{Packet}
use Rattle.wire.specs.declared.streams.StreamLists.{StreamLists}
use Rattle.streams.specs.Streams.{Stream}
use Rattle.client.specs.declared.load.LoadPhase.{LoadPhase}
use Rattle.client.specs.declared.load.LoadPhase.TheVariants as phases
use Rattle.client.specs.Load.{LoadState}
use Rattle.model_streams.specs.Maps.{entry_at}
use Rattle.model_streams.specs.Manager.{Catalog}
use Rattle.model_partition.specs.declared.split_job.SplitJob.{SplitJob}
use Rattle.model_partition.specs.declared.stage.Stage.{Stage}
use Rattle.model_partition.specs.declared.stage.Stage.TheVariants as stages
use Rattle.model_partition.specs.Range.{RangeState}
use Rattle.model_partition.specs.Server.{ServerState, range_of, split_of}
use Rattle.model_partition.specs.Servers.{ServerCell}
use Rattle.laws_map.specs.Naming.{Each, IsRising}
use Rattle.laws_map.specs.Generations.{HasAsked}

-- ---- packets

-- it neither asks for the streams of a range nor tells them
abbrev pub IsQuietStream : StreamBody → Type 0
IsQuietStream (streams.OpenStreams range generation q) = ⊥
IsQuietStream (streams.Opened q lists) = ⊥
IsQuietStream body = Unit {0}

-- it does not ask to split a range
abbrev pub IsQuietMap : MapBody → Type 0
IsQuietMap (maps.BeginSplit range generation key q) = ⊥
IsQuietMap body = Unit {0}

abbrev pub IsQuiet : Body → Type 0
IsQuiet (bodies.Stream body) = IsQuietStream body
IsQuiet (bodies.Map body) = IsQuietMap body
IsQuiet body = Unit {0}

abbrev pub AreQuiet : List Packet → Type 0
AreQuiet packets = Each (λ (p : Packet). IsQuiet p.body) packets

-- somebody asked under this number for the streams of the range, under this generation
pub record AsksToOpen (post : List Packet) (range generation : ℕ) (q : ReqNo) : Type 0 where
  pub packet : Packet
  pub sent : Contains post packet
  pub is : packet.body ≡ bodies.Stream (streams.OpenStreams range generation q)

-- streams were told to who asked under this number
pub record HasOpened (post : List Packet) (q : ReqNo) : Type 0 where
  pub packet : Packet
  pub lists : StreamLists
  pub sent : Contains post packet
  pub is : packet.body ≡ bodies.Stream (streams.Opened q lists)

-- the range was opened under this generation for who asked under this number
abbrev pub Grants : List Packet → ℕ → ℕ → ReqNo → Type 0
Grants post range generation q = AsksToOpen post range generation q × HasOpened post q

-- somebody asked for the split of the range at this key, under the generation
abbrev pub AsksToSplit : List Packet → ℕ → ℕ → List ℕ → Type 0
AsksToSplit post range generation key = (q : ReqNo) × HasAsked post q range generation key

-- ---- the manager

-- the first stream of the range is there, and its fence is no lower
pub record IsFenced (b : Catalog) (range generation : ℕ) : Type 0 where
  pub stream : Stream
  pub there : b.stream range 0 ≡ Some stream
  pub fence : generation ≤ stream.fence

-- What is known of openings: each number is that of one range and one generation; what was told for it was asked for, and fences the range;
-- and under one generation a range is opened for one request.
pub record AreOpenedOnce (post : List Packet) (b : Catalog) : Type 0 where
  pub once : (q : ReqNo) (range generation n g : ℕ) → AsksToOpen post range generation q → AsksToOpen post n g q → (range ≡ n) × (generation ≡ g)
  pub asked : (q : ReqNo) → HasOpened post q → (range : ℕ) × (generation : ℕ) × AsksToOpen post range generation q
  pub fenced : (range generation : ℕ) (q : ReqNo) → Grants post range generation q → IsFenced b range generation
  pub one : (range generation : ℕ) (q w : ReqNo) → Grants post range generation q → Grants post range generation w → q ≡ w

-- ---- servers

-- its streams were told to it
abbrev pub IsBeyond : LoadPhase → Type 0
IsBeyond (phases.Opening q) = ⊥
IsBeyond phase = Unit {0}

-- it waits for its streams, under this number
abbrev pub IsWaiting : ReqNo → LoadPhase → Stage → Type 0
IsWaiting q phase stage = (phase ≡ phases.Opening q) × (stage ≡ stages.Opening)

-- where a range stands that asked for its streams under this number
abbrev pub Stood : List Packet → ℕ → ℕ → ReqNo → LoadState → Stage → Type 0
Stood post range generation q load stage =
    (load.range ≡ range) × (load.generation ≡ generation) × (IsWaiting q load.phase stage ⊎ (IsBeyond load.phase × HasOpened post q))

-- a range that a server holds, in a session, asked for its streams there, and waits for them or was told them
pub record IsOpening (post : List Packet) (server session : ℕ) (range : ℕ) (r : RangeState) : Type 0 where
  pub count : ℕ
  pub asked : AsksToOpen post range r.load.generation (requests.Server server session count)
  pub stands : Stood post range r.load.generation (requests.Server server session count) r.load r.stage

-- the split of a range was asked for, as it is
abbrev pub IsAsked : List Packet → ℕ → SplitJob → Type 0
IsAsked post range job = (job.range ≡ range) × AsksToSplit post range job.generation job.key

-- the ranges and the splits of a server in its session
pub record AreOpening (post : List Packet) (s : ServerState) : Type 0 where
  pub ranges : Each (λ x. IsOpening post s.context.server s.context.session x.0 x.1) s.ranges
  pub rising : IsRising s.ranges
  pub splits : Each (λ x. IsAsked post x.0 x.1) s.splits
  pub apart : s.merges ≡ []

abbrev pub OpeningIf : List Packet → Option ServerState → Type 0
OpeningIf post None = Unit {0}
OpeningIf post (Some s) = AreOpening post s

-- it is split at this key
pub record IsSplitAt (splits : List (ℕ × SplitJob)) (range generation : ℕ) (key : List ℕ) : Type 0 where
  pub job : SplitJob
  pub there : split_of splits range ≡ Some job
  pub under : job.generation ≡ generation
  pub at : job.key ≡ key

-- A range of this generation waits for its streams under another number than this one, or is being split at the key.
abbrev pub SplitsOrWaits : List (ℕ × SplitJob) → ℕ → ℕ → List ℕ → ReqNo → RangeState → Type 0
SplitsOrWaits splits range generation key q r =
    ((w : ReqNo) × IsWaiting w r.load.phase r.stage × (w ≡ q → ⊥)) ⊎ IsSplitAt splits range generation key

-- ---- what is known of packets

abbrev pub IsKnownStream : List Packet → StreamBody → Type 0
IsKnownStream post (streams.OpenStreams range generation q) = AsksToOpen post range generation q
IsKnownStream post (streams.Opened q lists) = ⊥
IsKnownStream post body = Unit {0}

abbrev pub IsKnownMap : List Packet → MapBody → Type 0
IsKnownMap post (maps.BeginSplit range generation key q) = AsksToSplit post range generation key
IsKnownMap post body = Unit {0}

-- what it asks for has been asked for, and it tells no streams
abbrev pub IsKnown : List Packet → Body → Type 0
IsKnown post (bodies.Stream body) = IsKnownStream post body
IsKnown post (bodies.Map body) = IsKnownMap post body
IsKnown post body = Unit {0}

abbrev pub AreKnown : List Packet → List Packet → Type 0
AreKnown post packets = Each (λ (p : Packet). IsKnown post p.body) packets

-- ---- splits

-- what a server holds of a range, under this generation: it waits for its streams under another number, or is being split at the key
abbrev pub Speaks : ServerState → ℕ → ℕ → List ℕ → ReqNo → Type 0
Speaks s range generation key q = (r : RangeState) → range_of s.ranges range ≡ Some r → r.load.generation ≡ generation → SplitsOrWaits s.splits range generation key q r

-- A range that somebody asked to split was opened, under the generation, for one start of one server; and while the server holds it so, it is
-- being split at the key.
pub record IsSplitOnce (post : List Packet) (servers : List ServerCell) (range generation : ℕ) (key : List ℕ) : Type 0 where
  pub server : ℕ
  pub session : ℕ
  pub count : ℕ
  pub granted : Grants post range generation (requests.Server server session count)
  pub speaks : (cell : ServerCell) → entry_at servers server ≡ Some cell → cell.session ≡ session → (s : ServerState) → cell.state ≡ Some s → Speaks s range generation key (requests.Server server session count)
