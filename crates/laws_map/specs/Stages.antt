-- How far splits have come, and what they ask for there: that the streams of the two ranges are built, and that the split is completed.
use Rattle.std.specs.Prelude.{◌≡◌, ◌⊎◌, ◌≤◌, ◌<◌, ℕ, true, List, Option, Some, None, Contains}
use Rattle.wire.specs.declared.actor.ReqNo.{ReqNo}
use Rattle.wire.specs.declared.actor.ReqNo.TheVariants as requests
use Rattle.wire.specs.declared.body.AppendBody.TheVariants as appends
use Rattle.wire.specs.declared.body.MapBody.{MapBody}
use Rattle.wire.specs.declared.body.MapBody.TheVariants as maps
use Rattle.wire.specs.declared.body.StreamBody.{StreamBody}
use Rattle.wire.specs.declared.body.StreamBody.TheVariants as streams
use Rattle.wire.specs.declared.body.Body.{Body}
use Rattle.wire.specs.declared.body.Body.TheVariants as bodies
use Rattle.wire.specs.declared.packet.Packet.{Packet}
use Rattle.wire.specs.declared.refusal.Refusal.TheVariants.{NameTaken}
use Rattle.wire.specs.declared.streams.Modify.{Modify}
use Rattle.model_partition.specs.declared.server_context.ServerContext.{ServerContext}
use Rattle.model_partition.specs.declared.split_job.SplitJob.{SplitJob}
use Rattle.model_partition.specs.declared.split_job.SplitPhase.{SplitPhase}
use Rattle.model_partition.specs.declared.split_job.SplitPhase.TheVariants as phases
use Rattle.model_partition.specs.Range.{RangeState, is_serving}
use Rattle.model_partition.specs.Server.{ServerState, ServerOutcome, range_of, split_of}
use Rattle.model_partition.specs.Splits.{all_streams, build_packet}
use Rattle.laws_map.specs.Naming.{Each}

-- the map has not numbered the two; it has; their streams are asked for; their keys are said; and the map is asked to complete it
abbrev pub stage_of : SplitPhase → ℕ
stage_of (phases.Begin q) = 0
stage_of phases.Checkpoint = 1
stage_of phases.Queue = 1
stage_of phases.Record = 1
stage_of (phases.Seal kind q) = 1
stage_of (phases.Build q) = 2
stage_of (phases.Keys side c) = 3
stage_of (phases.Complete q) = 4

-- the answers that say that the streams are there
abbrev pub TellsBuilt : ReqNo → Body → Type 0
TellsBuilt q body = (body ≡ bodies.Stream (streams.Modified q)) ⊎ (body ≡ bodies.Append (appends.Refused q NameTaken))

-- ---- what a split does

-- a number of a request of this server's session, from here on and below this count
pub record IsNew (d : ServerContext) (upto : ℕ) (q : ReqNo) : Type 0 where
  pub count : ℕ
  pub is : q ≡ requests.Server d.server d.session count
  pub from : d.count ≤ count
  pub below : count < upto

-- A split goes on: it stays that of its range, at its key, with its pair, and no stage goes back. It says the keys of the two only where it
-- was told that their streams are there; and where it waits for these it has asked for them.
pub record JobMoves (Heard : ReqNo → Type 0) (d : ServerContext) (old : SplitJob) (packets : List Packet) (job : SplitJob) : Type 0 where
  pub range : job.range ≡ old.range
  pub generation : job.generation ≡ old.generation
  pub key : job.key ≡ old.key
  pub stage : stage_of old.phase ≤ stage_of job.phase
  pub low : 1 ≤ stage_of old.phase → job.low ≡ old.low
  pub high : 1 ≤ stage_of old.phase → job.high ≡ old.high
  pub said : 3 ≤ stage_of job.phase → (3 ≤ stage_of old.phase) ⊎ ((q : ReqNo) × (old.phase ≡ phases.Build q) × Heard q)
  pub builds : (q : ReqNo) → job.phase ≡ phases.Build q → (old ≡ job) ⊎ Contains packets (build_packet d job q)

-- it asks for these streams, and waits for them; what it asks anew has a new number
pub record AsksToBuild (d : ServerContext) (old later : Option SplitJob) (upto : ℕ) (list : List Modify) (q : ReqNo) : Type 0 where
  pub job : SplitJob
  pub left : later ≡ Some job
  pub is : list ≡ all_streams job
  pub waits : job.phase ≡ phases.Build q
  pub new : (old ≡ Some job) ⊎ IsNew d upto q

-- it asks to be completed
pub record AsksToEnd (later : Option SplitJob) (range generation : ℕ) : Type 0 where
  pub job : SplitJob
  pub left : later ≡ Some job
  pub range_is : range ≡ job.range
  pub generation_is : generation ≡ job.generation
  pub ends : 4 ≤ stage_of job.phase

module _ (d : ServerContext) (old later : Option SplitJob) (upto : ℕ) where
  abbrev pub AsksOfStreams : StreamBody → Type 0
  AsksOfStreams (streams.MultiModify list q) = AsksToBuild d old later upto list q
  AsksOfStreams (streams.CreateStream s fence q) = ⊥
  AsksOfStreams body = Unit {0}

  abbrev pub AsksOfMap : MapBody → Type 0
  AsksOfMap (maps.CompleteSplit range generation q) = AsksToEnd later range generation
  AsksOfMap body = Unit {0}

  -- what is asked of this kind is asked by the split
  abbrev pub AsksOf : Body → Type 0
  AsksOf (bodies.Stream body) = AsksOfStreams body
  AsksOf (bodies.Map body) = AsksOfMap body
  AsksOf body = Unit {0}

-- ---- what a server does

-- a split that begins, of a range that serves
pub record JobBegins (ranges : List (ℕ × RangeState)) (k : ℕ) (job : SplitJob) : Type 0 where
  pub first : stage_of job.phase ≡ 0
  pub held : RangeState
  pub found : range_of ranges k ≡ Some held
  pub serves : is_serving held.stage ≡ true
  pub range : job.range ≡ held.load.range
  pub generation : job.generation ≡ held.load.generation

-- a split is as a step before left it, or begins
abbrev pub JobFrom : (Heard : ReqNo → Type 0) → ServerState → ℕ → Option SplitJob → List Packet → SplitJob → Type 0
JobFrom Heard s k None packets job = JobBegins s.ranges k job
JobFrom Heard s k (Some old) packets job = JobMoves Heard s.context old packets job

-- A step of a server: each of its splits goes on or begins, and is of a range that it holds; and what is asked of these kinds is asked by one.
pub record StagesGo (Heard : ReqNo → Type 0) (s : ServerState) (o : ServerOutcome) : Type 0 where
  pub at : ℕ
  pub jobs : (k : ℕ) (job : SplitJob) → split_of o.after.splits k ≡ Some job → ((r : RangeState) × (range_of o.after.ranges k ≡ Some r)) × JobFrom Heard s k (split_of s.splits k) o.packets job
  pub asks : Each (λ (p : Packet). AsksOf s.context (split_of s.splits at) (split_of o.after.splits at) o.after.context.count p.body) o.packets
