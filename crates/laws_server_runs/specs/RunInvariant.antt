-- What is kept of a range at all servers over a list of events, whatever other ranges they hold.
use Rattle.std.specs.Prelude.{◌≡◌, ◌⊎◌, ℕ, suc, ◌^◌, true, nat_lt, List, [], ◌∷◌, ◌++◌, Option, Some, None}
use Rattle.wire.specs.declared.note.Note.{Note}
use Rattle.model_streams.specs.Maps.{entry_at}
use Rattle.model_histories.specs.Log.{without_gots, only}
use Rattle.model_partition.specs.Past.{Bytes}
use Rattle.model_partition.specs.declared.split_job.SplitJob.{SplitJob}
use Rattle.model_partition.specs.declared.split_job.SplitPhase.{SplitPhase}
use Rattle.model_partition.specs.declared.split_job.SplitPhase.TheVariants as phases
use Rattle.model_partition.specs.Splits.{split_record}
use Rattle.model_partition.specs.Range.{RangeState, RangeOutcome, is_serving}
use Rattle.model_histories.specs.StreamActions.{StreamAction}
use Rattle.model_partition.specs.Server.{ServerState, range_of, split_of}
use Rattle.model_partition.specs.Servers.{ServerCell}
use Rattle.model_histories.specs.ServerRun.{ServerRun, stream_named}
use Rattle.model_histories.specs.ServedTables.{AreSeenAs, ServesAt}
use Rattle.laws_loads.specs.RangeView.{RangeView, SplitStage, Free, Drains, Recording, view_after_all}
use Rattle.laws_tables.specs.Runs.{Confirms, Run}
use Rattle.laws_server_runs.specs.RangeInvariant.{RangeKept, StreamsKept, AreObserved, GoesOn, IsLonger, IsAlone, ServesAnew}

-- what a range at a server sees
abbrev pub view_at : ℕ → ServerRun → ℕ → RangeView
view_at k x s = record { history = x.history s k; story = λ kind. x.story (stream_named k kind); shown = x.shown k; answered = x.answered k; split = Free }

-- ---- its split

abbrev pub with_stage : RangeView → SplitStage → RangeView
with_stage v split = record v { split = split }

-- a number of 64 bits is left after that of its record
abbrev pub LeavesNumber : SplitJob → Type 0
LeavesNumber job = nat_lt (suc job.number) (2 ^ 64) ≡ true

-- what a split is to the metadata of its range, by what it waits for
abbrev pub PhaseKept : SplitStage → SplitJob → SplitPhase → Type 0
PhaseKept split job phases.Checkpoint = (split ≡ Free) × LeavesNumber job
PhaseKept split job phases.Queue = (split ≡ Drains) × LeavesNumber job
PhaseKept split job phases.Record = (split ≡ Recording (split_record job)) × LeavesNumber job
PhaseKept split job phase = split ≡ Free

-- a range that is split is served
abbrev pub SplitKept : SplitStage → RangeState → Option SplitJob → Type 0
SplitKept split r None = split ≡ Free
SplitKept split r (Some job) = (is_serving r.stage ≡ true) × PhaseKept split job job.phase

-- Once the map has numbered the two ranges that a split makes, this one is none of them.
abbrev pub IsApartIn : ℕ → SplitJob → SplitPhase → Type 0
IsApartIn subject job (phases.Begin q) = Unit {0}
IsApartIn subject job phase = (job.low ≡ subject → ⊥) × (job.high ≡ subject → ⊥)

abbrev pub IsApart : ℕ → SplitJob → Type 0
IsApart subject job = IsApartIn subject job job.phase

-- nor of any split at servers
abbrev pub AreApart : ℕ → List ServerCell → Type 0
AreApart subject servers = (s : ℕ) (cell : ServerCell) (state : ServerState) → entry_at servers s ≡ Some cell → cell.state ≡ Some state →
    (k : ℕ) (job : SplitJob) → split_of state.splits k ≡ Some job → IsApart subject job

-- ---- what it began with

-- what the streams of a range were built of: the run that had made them by then, and what it shows, said of this range
pub record Taken : Type 0 where
  pub run : Run
  pub notes : List Note

-- they were built of no other's
abbrev pub nothing_taken : Taken
nothing_taken = record { run = []; notes = [] }

-- a load under this generation is confirmed in a part of a run
abbrev pub HasLoad : ℕ → Run → Type 0
HasLoad g [] = ⊥
HasLoad g (Confirms g' start end groups metadata_end records ∷ earlier) = (g ≡ g') ⊎ HasLoad g earlier
HasLoad g (e ∷ earlier) = HasLoad g earlier

-- ---- the range at all servers

module _ (texts : ℕ → Bytes) (subject : ℕ) where
  -- what is kept of it at one of them
  pub record HeldKept (run : Run) (v : RangeView) (r : RangeState) (job : Option SplitJob) : Type 0 where
    pub split : SplitStage
    pub range : RangeKept texts subject run (with_stage v split) r
    pub splits : SplitKept split r job

  -- What is kept of it at all servers, where its run began with what was taken: what is seen of it begins behind that.
  pub record RunBehind (taken : Taken) (x : ServerRun) : Type 0 where
    -- what all servers have done to the tables of the range
    pub run : Run
    pub behind : IsLonger taken.run run
    pub ranges : (s : ℕ) (cell : ServerCell) (state : ServerState) → entry_at x.servers s ≡ Some cell → cell.state ≡ Some state →
        (r : RangeState) → range_of state.ranges subject ≡ Some r → HeldKept run (view_at subject x s) r (split_of state.splits subject)
    -- no two servers serve the range under one generation
    pub own : (s t : ℕ) (r u : RangeState) → ServesAt x s subject r → ServesAt x t subject u → r.load.generation ≡ u.load.generation → s ≡ t
    -- each that is served was loaded behind what was taken
    pub loaded : (s : ℕ) (r : RangeState) → ServesAt x s subject r → HasLoad r.load.generation behind.0
    pub streams : StreamsKept texts run (view_at subject x 0)
    -- what was taken and what is seen of the range are what is seen of the run
    pub seen : (notes : List Note) → AreSeenAs texts x.notes notes → AreObserved texts subject run (taken.notes ++ only subject notes)

  -- what is kept of it later goes on with what was kept
  pub record RunOn (taken : Taken) (x : ServerRun) (old : RunBehind taken x) (y : ServerRun) : Type 0 where
    pub kept : RunBehind taken y
    pub goes : IsLonger old.run kept.run

  -- where its streams were not built of another's
  abbrev pub RunKept : ServerRun → Type 0
  RunKept x = RunBehind nothing_taken x

  -- whatever they were built of
  abbrev pub IsKept : ServerRun → Type 0
  IsKept x = (taken : Taken) × RunBehind taken x

  -- ---- one step of the range, with its split

  abbrev pub HeldIf : Run → RangeView → ℕ → Option RangeState → Option SplitJob → Type 0
  HeldIf run v g None job = Unit {0}
  HeldIf run v g (Some r) job = HeldKept run v r job × (r.load.generation ≡ g)

  -- what a step of a range that did these actions leaves, and the split that it leaves
  pub record TurnKept (run : Run) (v : RangeView) (r : RangeState) (actions : List StreamAction) (o : RangeOutcome) (later : Option SplitJob) : Type 0 where
    pub next : Run
    pub goes : GoesOn r.load.generation run next
    -- where the run goes on
    pub alone : (next ≡ run) ⊎ IsAlone texts run r
    pub kept : HeldIf next (view_after_all r.load.generation v actions) r.load.generation o.after later
    pub streams : StreamsKept texts next (view_after_all r.load.generation v actions)
    pub longer : IsLonger v.answered (view_after_all r.load.generation v actions).answered
    pub anew : ServesAnew texts run r o.after
    pub seen : (before later : List Note) → AreObserved texts subject run before → AreSeenAs texts o.notes later → AreObserved texts subject next (before ++ without_gots later)
