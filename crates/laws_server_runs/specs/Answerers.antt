-- What the map and the manager answer to servers, by their tables, over a list of what comes to servers: nothing is said here of how far a
-- split has come at its server.
use Rattle.std.specs.Prelude.{◌≡◌, ◌⊎◌, ◌<◌, ◌≤◌, ℕ, true, List, [], ◌∷◌, ◌++◌, Option, Some, Contains}
use Rattle.wire.specs.declared.actor.ActorId.{ActorId}
use Rattle.wire.specs.declared.actor.ActorId.TheVariants.{Map}
use Rattle.wire.specs.declared.actor.ReqNo.{ReqNo}
use Rattle.wire.specs.declared.body.Body.{Body}
use Rattle.wire.specs.declared.body.Body.TheVariants as bodies
use Rattle.wire.specs.declared.body.MapBody.{MapBody}
use Rattle.wire.specs.declared.body.MapBody.TheVariants as maps
use Rattle.wire.specs.declared.body.StreamBody.TheVariants as streams
use Rattle.wire.specs.declared.note.Note.{Note}
use Rattle.wire.specs.declared.packet.Packet.{Packet}
use Rattle.wire.specs.declared.streams.Modify.{Modify}
use Rattle.wire.specs.declared.streams.Source.{Source}
use Rattle.model_partition.specs.Answering.{is_answerer}
use Rattle.model_partition.specs.Loading.{Group}
use Rattle.model_partition.specs.Past.{Bytes, first_range}
use Rattle.model_histories.specs.Log.{only}
use Rattle.model_histories.specs.ServerRun.{ServerEvent, Takes, Builds, log_name, run_of}
use Rattle.model_histories.specs.Story.{Placed, Showed, event_at}
use Rattle.laws_tables.specs.Families.{IsChild}
use Rattle.laws_map.specs.Generations.{HasAsked}
use Rattle.laws_map.specs.GivenPairs.{AsksToComplete}
use Rattle.laws_map.specs.Stages.{TellsBuilt}
use Rattle.laws_server_runs.specs.BornRanges.{AllInOrder}
use Rattle.laws_server_runs.specs.ChildInvariant.{IsBuiltBy}
use Rattle.laws_server_runs.specs.Turns.{outcome_of}

-- all packets that servers have sent, the oldest first
abbrev pub sent_by : (batch servers : ℕ) → List ServerEvent → List Packet
sent_by batch servers [] = []
sent_by batch servers (event ∷ earlier) = sent_by batch servers earlier ++ (outcome_of (run_of batch servers earlier).servers event).packets

-- ---- what the map gives

-- a split that the map is asked for: of a range, under a generation, at a key
pub record AskedSplit : Type 0 where
  pub range : ℕ
  pub generation : ℕ
  pub key : List ℕ

-- the split of these
abbrev pub split_asked : (range generation : ℕ) → List ℕ → AskedSplit
split_asked range generation key = record { range = range; generation = generation; key = key }

-- What the map has given: the numbers of the two ranges of a split, and which split a number was given to; the server that a generation of a
-- range was assigned to; and the last generation of a range that was split.
pub record MapBook : Type 0 where
  pub low : AskedSplit → ℕ
  pub high : AskedSplit → ℕ
  pub given : ℕ → Option AskedSplit
  pub holder : (range generation : ℕ) → ℕ
  pub last : ℕ → Option ℕ

-- these are the two numbers of the split, which are given to no other, and are not one
pub record AreGiven (b : MapBook) (split : AskedSplit) (low high : ℕ) : Type 0 where
  pub low_is : low ≡ b.low split
  pub high_is : high ≡ b.high split
  pub low_given : b.given low ≡ Some split
  pub high_given : b.given high ≡ Some split
  pub apart : low ≡ high → ⊥

-- A generation of a range is assigned to one server. A range that a split makes is assigned under generations above the split's, and only
-- where somebody has asked to complete that; one that was split is assigned under none above its last.
pub record IsAssignedTo (b : MapBook) (sent : List Packet) (server range generation : ℕ) : Type 0 where
  pub holder : b.holder range generation ≡ server
  pub completed : (split : AskedSplit) → b.given range ≡ Some split → AsksToComplete sent split.range split.generation
  pub above : (split : AskedSplit) → b.given range ≡ Some split → split.generation < generation
  pub last : (g : ℕ) → b.last range ≡ Some g → generation ≤ g

module _ (b : MapBook) (sent : List Packet) where
  -- A range is told to a server to which it is assigned; and who asks for a split is told the two numbers that are given to it.
  abbrev pub MapTells : (server : ℕ) → MapBody → Type 0
  MapTells server (maps.Assign range generation until) = IsAssignedTo b sent server range generation
  MapTells server (maps.SplitBegun q low high) = (range generation : ℕ) (key : List ℕ) → HasAsked sent q range generation key → AreGiven b (split_asked range generation key) low high
  MapTells server body = Unit {0}

  -- where the map tells it
  abbrev pub TellsOfMap : (server : ℕ) → ActorId → Body → Type 0
  TellsOfMap server Map (bodies.Map body) = MapTells server body
  TellsOfMap server from body = Unit {0}

-- ---- what the manager builds

-- somebody asked under this number that these streams are built
pub record AsksForStreams (sent : List Packet) (list : List Modify) (q : ReqNo) : Type 0 where
  pub packet : Packet
  pub among : Contains sent packet
  pub is : packet.body ≡ bodies.Stream (streams.MultiModify list q)

-- an entry of a list makes a stream of this range of one of this source's
pub record IsBuiltOf (list : List Modify) (source range : ℕ) : Type 0 where
  pub entry : Modify
  pub among : Contains list entry
  pub range_is : entry.stream.range ≡ range
  pub stream : Source
  pub named : Contains entry.sources stream
  pub source_is : stream.stream.range ≡ source

module _ (sent : List Packet) (IsBuilt : ℕ → Type 0) where
  -- Who is told under a number, by one who gives such answers, that streams are built, or that they are there already, is told so of those that
  -- were asked for under it.
  abbrev pub TellsOfStreams : ActorId → Body → Type 0
  TellsOfStreams from body = is_answerer from body ≡ true → (q : ReqNo) → TellsBuilt q body → (list : List Modify) → AsksForStreams sent list q → (entry : Modify) → Contains list entry → IsBuilt entry.stream.range

  -- streams of a range are built once, of those that somebody asked for
  pub record MayBeBuilt (source range : ℕ) : Type 0 where
    pub new : IsBuilt range → ⊥
    pub list : List Modify
    pub request : ReqNo
    pub asked : AsksForStreams sent list request
    pub named : IsBuiltOf list source range

-- ---- over a list of events

-- what the map and the manager answer in this event is so, where this was sent before and the streams of these ranges are built
abbrev pub IsAnswered : MapBook → List Packet → (ℕ → Type 0) → ServerEvent → Type 0
IsAnswered b sent IsBuilt (Takes server p) = TellsOfMap b sent server p.from p.body × TellsOfStreams sent IsBuilt p.from p.body
IsAnswered b sent IsBuilt (Builds source range) = MayBeBuilt sent IsBuilt source range
IsAnswered b sent IsBuilt event = Unit {0}

-- so at all times
abbrev pub AreAnswered : MapBook → (batch servers : ℕ) → List ServerEvent → Type 0
AreAnswered b batch servers [] = Unit {0}
AreAnswered b batch servers (event ∷ earlier) = IsAnswered b (sent_by batch servers earlier) (IsBuiltBy earlier) event × AreAnswered b batch servers earlier

-- ---- what is observed

module _ (b : MapBook) (texts : ℕ → Bytes) (batch servers : ℕ) (events : List ServerEvent) where
  -- The map shows a split which made this range of another: of the last generation of that, whose end somebody has asked for, as somebody has
  -- asked for the split itself; and the two ranges have the numbers that were given to it.
  pub record IsShownSplit (h : List Note) (p r : ℕ) : Type 0 where
    pub child : IsChild h p r
    pub generation : ℕ
    pub last : b.last p ≡ Some generation
    pub given : AreGiven b (split_asked p generation child.key) child.low child.high
    pub request : ReqNo
    pub asked : HasAsked (sent_by batch servers events) request p generation child.key
    pub ended : AsksToComplete (sent_by batch servers events) p generation

  -- A load of a range that stood in its log when the streams of another were built of its own is a load of the same copies for both.
  abbrev pub ShareLoads : AllInOrder texts batch servers events → (p r : ℕ) → Type 0
  ShareLoads order p r =
      (late early : List ServerEvent) → events ≡ late ++ Builds p r ∷ early → (l g start end : ℕ) (groups : List (Placed Group)) → event_at ((run_of batch servers early).story (log_name p)) l ≡ Some (Showed g start end groups) →
      (order r).log.copies l ≡ (order p).log.copies l

  -- each range of which anything is observed is the first, which no split makes, or one that the map shows so
  abbrev pub AllAreShown : List Note → AllInOrder texts batch servers events → Type 0
  AllAreShown h order = (r : ℕ) → (only r h ≡ []) ⊎ ((r ≡ first_range) ⊎ ((p : ℕ) × IsShownSplit h p r × ShareLoads order p r))
