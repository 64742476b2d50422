-- What is kept of the two ranges that a split makes while its server carries it through: what the split waits for, whatever its streams
-- are, and what is out in the run of each of the two under the generation of the range that is split.
use Rattle.std.specs.Prelude.{◌≡◌, ◌⊎◌, ℕ, true, List, [], ◌∷◌, ◌++◌, length, Option, Some, None}
use Rattle.wire.specs.declared.note.Note.{Note}
use Rattle.wire.specs.declared.streams.StreamKind.{StreamKind}
use Rattle.wire.specs.declared.streams.StreamKind.TheVariants as kinds
use Rattle.metadata.specs.declared.record.KeyRange.{KeyRange}
use Rattle.metadata.specs.declared.record.MetaItem.TheVariants.{Ranges}
use Rattle.metadata.specs.Fold.{MetadataState}
use Rattle.metadata.specs.Record.{spelling as metadata_spelling}
use Rattle.model_streams.specs.Maps.{entry_at}
use Rattle.model_partition.specs.declared.pause.Pause.TheVariants as pauses
use Rattle.model_partition.specs.declared.split_job.Side.{Side}
use Rattle.model_partition.specs.declared.split_job.Side.TheVariants.{Low, High}
use Rattle.model_partition.specs.declared.split_job.SplitJob.{SplitJob}
use Rattle.model_partition.specs.declared.split_job.SplitPhase.{SplitPhase}
use Rattle.model_partition.specs.declared.split_job.SplitPhase.TheVariants as phases
use Rattle.model_partition.specs.Loading.{Group}
use Rattle.model_partition.specs.Map.{is_split_key}
use Rattle.model_partition.specs.Past.{Bytes}
use Rattle.model_partition.specs.Range.{RangeState, is_serving}
use Rattle.model_partition.specs.Server.{ServerState, range_of, split_of}
use Rattle.model_partition.specs.Servers.{ServerCell}
use Rattle.model_partition.specs.Splits.{keys_record, may_say_keys, side_keys, side_range}
use Rattle.model_histories.specs.Log.{only}
use Rattle.model_histories.specs.ServedTables.{AreSeenAs}
use Rattle.model_histories.specs.ServerRun.{ServerRun, ServerEvent, Builds, run_of, stream_named}
use Rattle.laws_tables.specs.Families.{IsNamed}
use Rattle.laws_tables.specs.Runs.{Run, Records, first_beginning, held, record_group, said, seen, IsServing, KeepsKeys}
use Rattle.laws_server_runs.specs.CheckpointInvariant.{Appends}
use Rattle.laws_server_runs.specs.FamilyMembers.{NamesOwn}
use Rattle.laws_server_runs.specs.RangeInvariant.{IsLonger}
use Rattle.laws_server_runs.specs.RunInvariant.{Taken, RunBehind}

-- ---- the split, whatever its streams are

-- it takes no transaction, none waits or is out, and no checkpoint is under way
pub record IsDrained (r : RangeState) : Type 0 where
  pub out : r.out ≡ None
  pub queue : r.queue ≡ []
  pub control : r.control ≡ None
  pub paused : r.pause ≡ pauses.On

-- the group of the record of the keys of one of the two
abbrev pub keys_group : RangeState → SplitJob → Side → Group
keys_group r job side = metadata_spelling (keys_record r job side) ∷ []

-- by what it waits for
abbrev pub SplitPhaseHolds : RangeState → SplitJob → SplitPhase → Type 0
SplitPhaseHolds r job (phases.Begin q) = Unit {0}
SplitPhaseHolds r job phases.Checkpoint = Unit {0}
SplitPhaseHolds r job phases.Queue = r.control ≡ None
SplitPhaseHolds r job phases.Record = IsDrained r
SplitPhaseHolds r job (phases.Seal kind q) = IsDrained r
SplitPhaseHolds r job (phases.Build q) = IsDrained r
SplitPhaseHolds r job (phases.Keys side c) = IsDrained r × (may_say_keys r job ≡ true) × Appends c (keys_group r job side)
SplitPhaseHolds r job (phases.Complete q) = IsDrained r × (may_say_keys r job ≡ true)

-- a range that is split is served, it is split under its own generation, and the key lies within its keys
pub record SplitHolds (r : RangeState) (job : SplitJob) : Type 0 where
  pub serving : is_serving r.stage ≡ true
  pub range : job.range ≡ r.load.range
  pub generation : job.generation ≡ r.load.generation
  pub key : is_split_key r.said.keys job.key ≡ true
  pub phase : SplitPhaseHolds r job job.phase

abbrev pub SplitHoldsIf : Option RangeState → Option SplitJob → Type 0
SplitHoldsIf None job = Unit {0}
SplitHoldsIf (Some r) None = Unit {0}
SplitHoldsIf (Some r) (Some job) = SplitHolds r job

-- each split of servers
abbrev pub SplitsHold : List ServerCell → Type 0
SplitsHold servers = (s : ℕ) (cell : ServerCell) (st : ServerState) → entry_at servers s ≡ Some cell → cell.state ≡ Some st →
    (k : ℕ) (r : RangeState) (job : SplitJob) → range_of st.ranges k ≡ Some r → split_of st.splits k ≡ Some job → SplitHolds r job

-- ---- the run of one of the two

-- under the generation nothing is out and nothing is noted, and the metadata says this
pub record HasNothingOut (run : Run) (g : ℕ) (m : MetadataState) : Type 0 where
  pub shown : IsServing run g
  pub out : (held first_beginning run g).out ≡ None
  pub noted : (held first_beginning run g).noted ≡ None
  pub record_out : (held first_beginning run g).record_out ≡ None
  pub says : m ≡ said first_beginning (held first_beginning run g).records

-- The same, but that the record of these keys is out, whose append began with this event.
pub record HasKeysOut (run : Run) (g : ℕ) (m : MetadataState) (keys : KeyRange) (append : ℕ) : Type 0 where
  pub shown : IsServing run g
  pub out : (held first_beginning run g).out ≡ None
  pub noted : (held first_beginning run g).noted ≡ None
  pub record_out : (held first_beginning run g).record_out ≡ Some (record { append = append; group = record_group m.next (Ranges keys) })
  pub says : m ≡ said first_beginning (held first_beginning run g).records

-- ---- the part of the run behind what was taken

-- a record in it names keys
abbrev pub HasName : Run → Type 0
HasName [] = ⊥
HasName (Records g number item ∷ earlier) = ((keys : KeyRange) × (item ≡ Ranges keys)) ⊎ HasName earlier
HasName (e ∷ earlier) = HasName earlier

-- no record in it does
pub record KeepsBehind (taken run : Run) : Type 0 where
  pub own : Run
  pub is : run ≡ own ++ taken
  pub none : KeepsKeys own

-- Nothing was out when the streams were built, and no keys are named since.
pub record IsUnnamed (taken run : Run) (g : ℕ) (m : MetadataState) : Type 0 where
  pub began : HasNothingOut taken g m
  pub behind : KeepsBehind taken run

-- Nothing was out then, and since then these are named, and no others, under this generation alone.
pub record NamesAlone (taken run : Run) (g : ℕ) (m : MetadataState) (keys : KeyRange) : Type 0 where
  pub began : HasNothingOut taken g m
  pub own : Run
  pub is : run ≡ own ++ taken
  pub names : NamesOwn g keys own
  pub there : HasName own

-- ---- what a split owes

-- the record of its keys was sent and answered
abbrev pub KeysStand : (taken run : Run) (g : ℕ) → MetadataState → KeyRange → Type 0
KeysStand taken run g m keys = IsNamed g keys run × NamesAlone taken run g m keys

-- The record that is said first is that of the lower one: what is owed of one of the two while that of one is out. append: the event
-- with which the server's last append to the metadata of that one began.
abbrev pub KeysHold : (taken run : Run) (append g : ℕ) → MetadataState → Bytes → (child out : Side) → Type 0
KeysHold taken run append g m key Low Low = HasKeysOut run g m (side_keys m.keys key Low) append × NamesAlone taken run g m (side_keys m.keys key Low)
KeysHold taken run append g m key High Low = HasNothingOut run g m × IsUnnamed taken run g m
KeysHold taken run append g m key Low High = KeysStand taken run g m (side_keys m.keys key Low)
KeysHold taken run append g m key High High = HasKeysOut run g m (side_keys m.keys key High) append × NamesAlone taken run g m (side_keys m.keys key High)

-- by what the split waits for: until the streams are built nothing, and at last its keys were sent and answered; m: what the metadata of the range that is split says
abbrev pub ChildHolds : (taken run : Run) (append : ℕ) → MetadataState → SplitJob → (child : Side) → SplitPhase → Type 0
ChildHolds taken run append m job child (phases.Begin q) = Unit {0}
ChildHolds taken run append m job child phases.Checkpoint = Unit {0}
ChildHolds taken run append m job child phases.Queue = Unit {0}
ChildHolds taken run append m job child phases.Record = Unit {0}
ChildHolds taken run append m job child (phases.Seal kind q) = Unit {0}
ChildHolds taken run append m job child (phases.Build q) = HasNothingOut run job.generation m × IsUnnamed taken run job.generation m
ChildHolds taken run append m job child (phases.Keys out c) = KeysHold taken run append job.generation m job.key child out
ChildHolds taken run append m job child (phases.Complete q) = KeysStand taken run job.generation m (side_keys m.keys job.key child)

-- ---- the ranges that splits at servers make

-- the map has numbered the two
abbrev pub HasPair : SplitPhase → Type 0
HasPair (phases.Begin q) = ⊥
HasPair phase = Unit {0}

-- that their streams are built is not asked for yet; it is; or it is answered
abbrev pub IsBeforeBuild : SplitPhase → Type 0
IsBeforeBuild phases.Checkpoint = Unit {0}
IsBeforeBuild phases.Queue = Unit {0}
IsBeforeBuild phases.Record = Unit {0}
IsBeforeBuild (phases.Seal kind q) = Unit {0}
IsBeforeBuild phase = ⊥

abbrev pub IsBuilding : SplitPhase → Type 0
IsBuilding (phases.Build q) = Unit {0}
IsBuilding phase = ⊥

abbrev pub IsSaying : SplitPhase → Type 0
IsSaying (phases.Keys out c) = Unit {0}
IsSaying phase = ⊥

abbrev pub IsCompleting : SplitPhase → Type 0
IsCompleting (phases.Complete q) = Unit {0}
IsCompleting phase = ⊥

-- the range is paused, and its metadata says that it is split
abbrev pub IsPaused : SplitPhase → Type 0
IsPaused (phases.Seal kind q) = Unit {0}
IsPaused (phases.Build q) = Unit {0}
IsPaused (phases.Keys out c) = Unit {0}
IsPaused (phases.Complete q) = Unit {0}
IsPaused phase = ⊥

-- a split of a range at a server makes this one
pub record ChildAt (x : ServerRun) (server range child : ℕ) : Type 0 where
  pub cell : ServerCell
  pub state : ServerState
  pub there : entry_at x.servers server ≡ Some cell
  pub runs : cell.state ≡ Some state
  pub job : SplitJob
  pub found : split_of state.splits range ≡ Some job
  pub pair : HasPair job.phase
  pub side : Side
  pub is : child ≡ side_range job side

-- no server has the range
abbrev pub IsUnheld : ℕ → ServerRun → Type 0
IsUnheld range x = (s : ℕ) (cell : ServerCell) (st : ServerState) → entry_at x.servers s ≡ Some cell → cell.state ≡ Some st → (r : RangeState) → range_of st.ranges range ≡ Some r → ⊥

-- What is premised of them, where the streams of these ranges are built.
pub record AreChildren (IsBuilt : ℕ → Type 0) (x : ServerRun) : Type 0 where
  -- no two splits make one, nor is one both of the two
  pub alone : (child s t range other : ℕ) → ChildAt x s range child → ChildAt x t other child → (s ≡ t) × (range ≡ other)
  pub apart : (s range child : ℕ) (c : ChildAt x s range child) → c.job.low ≡ c.job.high → ⊥
  -- their streams are not built before that is asked for, and they are once that is answered
  pub early : (s range child : ℕ) (c : ChildAt x s range child) → IsBeforeBuild c.job.phase → IsBuilt child → ⊥
  pub late : (s range child : ℕ) (c : ChildAt x s range child) → IsSaying c.job.phase → IsBuilt child
  -- until its keys stand no server has one
  pub unheld : (s range child : ℕ) (c : ChildAt x s range child) → IsBuilding c.job.phase ⊎ IsSaying c.job.phase → IsUnheld child x

-- ---- over a list of events

abbrev pub IsBuildOf : ℕ → ServerEvent → Type 0
IsBuildOf range event = (source : ℕ) × (event ≡ Builds source range)

-- the streams of a range were built
abbrev pub IsBuiltBy : List ServerEvent → ℕ → Type 0
IsBuiltBy [] range = ⊥
IsBuiltBy (event ∷ earlier) range = IsBuildOf range event ⊎ IsBuiltBy earlier range

module _ (texts : ℕ → Bytes) where
  -- nothing was done with the streams of a range, no server holds it, and nothing is told of it
  pub record IsUntouched (range : ℕ) (x : ServerRun) : Type 0 where
    pub story : (kind : StreamKind) → x.story (stream_named range kind) ≡ []
    pub held : (s : ℕ) (cell : ServerCell) (st : ServerState) → entry_at x.servers s ≡ Some cell → cell.state ≡ Some st → range_of st.ranges range ≡ None
    pub untold : (notes : List Note) → AreSeenAs texts x.notes notes → only range notes ≡ []

  -- The streams of a range may be built of a source's: nothing was done with it, and a split that makes it is one of the source, which
  -- waits for this.
  pub record MayBuild (source range : ℕ) (x : ServerRun) : Type 0 where
    pub new : IsUntouched range x
    pub asked : (s split : ℕ) (c : ChildAt x s split range) → (split ≡ source) × IsBuilding c.job.phase

  abbrev pub BuildsSo : ServerEvent → ServerRun → Type 0
  BuildsSo (Builds source range) x = MayBuild source range x
  BuildsSo event x = Unit {0}

  -- so at all times
  abbrev pub AreBornSo : (batch servers : ℕ) → List ServerEvent → Type 0
  AreBornSo batch servers [] = Unit {0}
  AreBornSo batch servers (event ∷ earlier) =
      AreChildren (IsBuiltBy (event ∷ earlier)) (run_of batch servers (event ∷ earlier)) × BuildsSo event (run_of batch servers earlier) × AreBornSo batch servers earlier

  -- ---- one of the two

  -- what is kept of it, and what is owed of it by each split that makes it, once its streams are built
  pub record ChildKept (IsBuilt : ℕ → Type 0) (subject : ℕ) (x : ServerRun) : Type 0 where
    pub taken : Taken
    pub kept : RunBehind texts subject taken x
    pub owed : (s : ℕ) (cell : ServerCell) (st : ServerState) → entry_at x.servers s ≡ Some cell → cell.state ≡ Some st →
        (k : ℕ) (r : RangeState) (job : SplitJob) → range_of st.ranges k ≡ Some r → split_of st.splits k ≡ Some job → (child : Side) → subject ≡ side_range job child → (IsBuilding job.phase → IsBuilt subject) →
        ChildHolds taken.run kept.run ((x.history s subject).append kinds.Metadata) r.said job child job.phase

  -- What is kept of it later is kept behind the same that was taken, and its run goes on.
  pub record ChildGoes (IsBuilt IsLater : ℕ → Type 0) (subject : ℕ) (x y : ServerRun) (old : ChildKept IsBuilt subject x) (new : ChildKept IsLater subject y) : Type 0 where
    pub taken : new.taken ≡ old.taken
    pub goes : IsLonger old.kept.run new.kept.run
    -- keys are named anew only where none were
    pub added : KeepsKeys goes.0 ⊎ KeepsBehind old.taken.run old.kept.run

  -- Where its streams are built: it begins with what the source had done by then, and shows nothing of that itself.
  pub record ChildBegins (IsBuilt IsLater : ℕ → Type 0) (source subject : ℕ) (x y : ServerRun) (parent : ChildKept IsBuilt source x) (new : ChildKept IsLater subject y) : Type 0 where
    pub took : new.taken.run ≡ parent.kept.run
    pub count : length new.taken.notes ≡ length (seen first_beginning (λ l. []) subject new.taken.run)
    pub run : new.kept.run ≡ new.taken.run

  -- after one event more one of the two is so
  abbrev pub ChildFollows : (event : ServerEvent) (IsBuilt IsLater : ℕ → Type 0) (subject : ℕ) (x y : ServerRun) → ((n : ℕ) → ChildKept IsBuilt n x) → ChildKept IsLater subject y → Type 0
  ChildFollows event IsBuilt IsLater subject x y olds new =
      ((IsBuildOf subject event → ⊥) × ChildGoes IsBuilt IsLater subject x y (olds subject) new) ⊎ ((source : ℕ) × (event ≡ Builds source subject) × ChildBegins IsBuilt IsLater source subject x y (olds source) new)
