-- Which ranges, and which generations of them, packets and servers name.
use Rattle.std.specs.Prelude.{◌≡◌, ◌<◌, ◌⊎◌, ℕ, true, List, [], ◌∷◌, Option, Some, None, Contains}
use Rattle.wire.specs.declared.actor.ReqNo.{ReqNo}
use Rattle.wire.specs.declared.body.StreamBody.{StreamBody}
use Rattle.wire.specs.declared.body.StreamBody.TheVariants as streams
use Rattle.wire.specs.declared.body.MapBody.{MapBody}
use Rattle.wire.specs.declared.body.MapBody.TheVariants as maps
use Rattle.wire.specs.declared.body.Body.{Body}
use Rattle.wire.specs.declared.body.Body.TheVariants as bodies
use Rattle.wire.specs.declared.packet.Packet.{Packet}
use Rattle.wire.specs.declared.streams.Modify.{Modify}
use Rattle.streams.specs.Streams.{Stream}
use Rattle.client.specs.Client.{ClientState}
use Rattle.model_streams.specs.Actors.{is_user}
use Rattle.model_streams.specs.Manager.{Catalog}
use Rattle.model_streams.specs.StreamSystem.{is_request}
use Rattle.model_partition.specs.declared.split_job.SplitJob.{SplitJob}
use Rattle.model_partition.specs.declared.split_job.SplitPhase.{SplitPhase}
use Rattle.model_partition.specs.declared.split_job.SplitPhase.TheVariants as phases
use Rattle.model_partition.specs.Range.{RangeState}
use Rattle.model_partition.specs.Server.{ServerState}
use Rattle.model_partition.specs.Servers.{ServerCell}
use Rattle.model_partition.specs.Splits.{all_streams, side_range}
use Rattle.model_partition.specs.Cluster.{Cluster}

-- of each of them it is so
abbrev pub Each : {A : Type 0} → (A → Type 0) → List A → Type 0
Each P [] = Unit {0}
Each P (x ∷ xs) = P x × Each P xs

-- all numbers of a list are above this one
abbrev pub IsAbove : {A : Type 0} → ℕ → List (ℕ × A) → Type 0
IsAbove n xs = Each (λ x. n < x.0) xs

-- each number of a list is below those behind it
abbrev pub IsRising : {A : Type 0} → List (ℕ × A) → Type 0
IsRising [] = Unit {0}
IsRising (x ∷ xs) = IsAbove x.0 xs × IsRising xs

-- ---- what a range names

-- it is of a stream of this range, under this generation
abbrev pub IsClientOf : ℕ → ℕ → ClientState → Type 0
IsClientOf range generation c = (c.stream.range ≡ range) × (c.generation ≡ generation)

-- the range of this number, under this generation, with all its streams
abbrev pub IsUnder : ℕ → ℕ → RangeState → Type 0
IsUnder range generation r =
    (r.load.range ≡ range)
    × (r.load.generation ≡ generation)
    × IsClientOf range generation r.metadata
    × IsClientOf range generation r.log
    × IsClientOf range generation r.rows

-- of the manager it asks no more than for its own streams, under its generation
abbrev pub AsksStreams : ℕ → ℕ → StreamBody → Type 0
AsksStreams range generation (streams.OpenStreams n g q) = (n ≡ range) × (g ≡ generation)
AsksStreams range generation (streams.Confirm n g q) = (n ≡ range) × (g ≡ generation)
AsksStreams range generation (streams.Extend s g last pick q) = (s.range ≡ range) × (g ≡ generation)
AsksStreams range generation (streams.Trim n g before to_blob q) = (n ≡ range) × (g ≡ generation)
AsksStreams range generation body = ⊥

-- nor does it ask the map for anything
abbrev pub IsFor : ℕ → ℕ → Body → Type 0
IsFor range generation (bodies.Stream body) = AsksStreams range generation body
IsFor range generation (bodies.Map body) = ⊥
IsFor range generation body = Unit {0}

abbrev pub AreFor : ℕ → ℕ → List Packet → Type 0
AreFor range generation [] = Unit {0}
AreFor range generation (p ∷ packets) = IsFor range generation p.body × AreFor range generation packets

-- ---- what is known of ranges

-- What the map makes known: a generation of a range; one that was assigned; under which number it was asked to split a range, of a generation, at a key; which
-- two numbers it told for such a request; the range, its generation, the key and the two numbers of a split; a number of a range; and a
-- generation of one that may be merged with another.
pub record Knowledge : Type 1 where
  pub knows : ℕ → ℕ → Type 0
  pub assigned : ℕ → ℕ → Type 0
  pub asked : ReqNo → ℕ → ℕ → List ℕ → Type 0
  pub begun : ReqNo → ℕ → ℕ → Type 0
  pub splits : ℕ → ℕ → List ℕ → ℕ → ℕ → Type 0
  pub numbers : ℕ → Type 0
  pub merges : ℕ → ℕ → Type 0

-- the split of this job, whose two numbers have been told
abbrev pub IsSplit : Knowledge → SplitJob → Type 0
IsSplit K job = K.splits job.range job.generation job.key job.low job.high

-- these are the streams of the two ranges of a split
pub record IsBuilt (K : Knowledge) (list : List Modify) : Type 0 where
  pub job : SplitJob
  pub is : list ≡ all_streams job
  pub known : K.knows job.range job.generation
  pub split : IsSplit K job

-- what a packet to the manager names is known
abbrev pub StreamNames : Knowledge → StreamBody → Type 0
StreamNames K (streams.CreateStream s fence q) = K.knows s.range fence
StreamNames K (streams.OpenStreams range generation q) = K.knows range generation
StreamNames K (streams.Confirm range generation q) = K.knows range generation
StreamNames K (streams.Extend s generation last pick q) = K.knows s.range generation
StreamNames K (streams.Trim range generation before to_blob q) = K.knows range generation
StreamNames K (streams.MultiModify list q) = IsBuilt K list
StreamNames K body = Unit {0}

-- there is a split of the range under this generation whose two numbers have been told
pub record IsToSplit (K : Knowledge) (range generation : ℕ) : Type 0 where
  pub key : List ℕ
  pub low : ℕ
  pub high : ℕ
  pub split : K.splits range generation key low high

-- what a packet to or from the map names is known
abbrev pub MapNames : Knowledge → MapBody → Type 0
MapNames K (maps.Assign range generation until) = K.assigned range generation
MapNames K (maps.Renew range generation until) = K.assigned range generation
MapNames K (maps.RouteIs q range server) = K.numbers range
MapNames K (maps.BeginSplit range generation key q) = K.knows range generation × K.asked q range generation key
MapNames K (maps.SplitBegun q low high) = K.begun q low high
MapNames K (maps.CompleteSplit range generation q) = K.knows range generation × IsToSplit K range generation
MapNames K (maps.BeginMerge left left_generation right right_generation q) = K.merges left left_generation × K.merges right right_generation
MapNames K (maps.MergeBegun q range) = K.numbers range
MapNames K (maps.CompleteMerge left left_generation right right_generation q) = K.merges left left_generation × K.merges right right_generation
MapNames K body = Unit {0}

abbrev pub BodyNames : Knowledge → Body → Type 0
BodyNames K (bodies.Stream body) = StreamNames K body
BodyNames K (bodies.Map body) = MapNames K body
BodyNames K body = Unit {0}

-- A user may ask for any range; all else that a packet names is known.
abbrev pub PacketNames : Knowledge → Packet → Type 0
PacketNames K p = ((is_user p.from ≡ true) × (is_request p.body ≡ true)) ⊎ BodyNames K p.body

-- ---- servers

-- a range that a server holds under a number is under that number, and under a generation that was assigned
pub record RangeNames (K : Knowledge) (range : ℕ) (r : RangeState) : Type 0 where
  pub generation : ℕ
  pub under : IsUnder range generation r
  pub known : K.assigned range generation

-- the two numbers of a split are known once the map has told them
abbrev pub PhaseNames : Knowledge → SplitJob → SplitPhase → Type 0
PhaseNames K job (phases.Begin q) = K.asked q job.range job.generation job.key
PhaseNames K job (phases.Keys side c) = IsSplit K job × IsClientOf (side_range job side) job.generation c
PhaseNames K job phase = IsSplit K job

pub record JobNames (K : Knowledge) (range : ℕ) (job : SplitJob) : Type 0 where
  pub number : job.range ≡ range
  pub known : K.knows job.range job.generation
  pub phase : PhaseNames K job job.phase

-- no merge is under way
pub record ServerNames (K : Knowledge) (s : ServerState) : Type 0 where
  pub ranges : Each (λ x. RangeNames K x.0 x.1) s.ranges
  pub splits : Each (λ x. JobNames K x.0 x.1) s.splits
  pub rising : IsRising s.splits
  pub merges : s.merges ≡ []

abbrev pub StateNames : Knowledge → Option ServerState → Type 0
StateNames K None = Unit {0}
StateNames K (Some s) = ServerNames K s

-- ---- the whole

-- of each stream that there is, the range is known under the fence
abbrev pub CatalogNames : Knowledge → Catalog → Type 0
CatalogNames K b = (range kind : ℕ) (x : Stream) → b.stream range kind ≡ Some x → K.knows range x.fence

-- all that packets, servers and the manager name is known
pub record Names (K : Knowledge) (c : Cluster) : Type 0 where
  pub post : (p : Packet) → Contains c.stream_layer.post p → PacketNames K p
  pub servers : Each (λ (cell : ServerCell). StateNames K cell.state) c.servers
  pub catalog : CatalogNames K c.stream_layer.catalog
