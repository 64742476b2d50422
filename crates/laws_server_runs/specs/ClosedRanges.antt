-- A range that a split has closed under a generation: whoever serves it under that has a split of it which has paused it.
use Rattle.std.specs.Prelude.{◌≡◌, ℕ, List, Option, Some, None}
use Rattle.metadata.specs.declared.record.KeyRange.{KeyRange}
use Rattle.model_partition.specs.declared.split_job.SplitJob.{SplitJob}
use Rattle.model_partition.specs.declared.split_job.SplitPhase.{SplitPhase}
use Rattle.model_partition.specs.declared.split_job.SplitPhase.TheVariants as phases
use Rattle.model_partition.specs.Loading.{Group}
use Rattle.model_partition.specs.Range.{RangeState}
use Rattle.model_partition.specs.Server.{split_of}
use Rattle.model_histories.specs.ServedTables.{ServesAt}
use Rattle.model_histories.specs.ServerRun.{ServerRun, log_name}
use Rattle.model_histories.specs.Story.{Made, event_at}

-- by what it waits for, a split has paused its range
abbrev pub HasPaused : SplitPhase → Type 0
HasPaused (phases.Begin q) = ⊥
HasPaused phases.Checkpoint = ⊥
HasPaused phases.Queue = ⊥
HasPaused phase = Unit {0}

-- what a split makes of a range: the keys that it has, the key at which they part, and the numbers of the two
pub record SplitPlan : Type 0 where
  pub keys : KeyRange
  pub key : List ℕ
  pub low : ℕ
  pub high : ℕ

-- the split is this one, and has paused the range
pub record IsPausedSo (plan : SplitPlan) (r : RangeState) (job : SplitJob) : Type 0 where
  pub paused : HasPaused job.phase
  pub keys : r.said.keys ≡ plan.keys
  pub key : job.key ≡ plan.key
  pub low : job.low ≡ plan.low
  pub high : job.high ≡ plan.high

abbrev pub IsPausedBy : SplitPlan → RangeState → Option SplitJob → Type 0
IsPausedBy plan r None = ⊥
IsPausedBy plan r (Some job) = IsPausedSo plan r job

-- of a range, by its split, wherever it is served under a generation
abbrev pub IsMarked : (RangeState → Option SplitJob → Type 0) → (range g : ℕ) → ServerRun → Type 0
IsMarked Marked range g x = (s : ℕ) (r : RangeState) (at : ServesAt x s range r) → r.load.generation ≡ g → Marked r (split_of at.state.splits range)

-- it is being split
abbrev pub IsBusy : RangeState → Option SplitJob → Type 0
IsBusy r job = (split : SplitJob) × (job ≡ Some split)

abbrev pub IsClosed : SplitPlan → (range g : ℕ) → ServerRun → Type 0
IsClosed plan range g x = IsMarked (IsPausedBy plan) range g x

-- each group of the log that was formed under the generation was formed before
abbrev pub FormedBefore : (range g : ℕ) → ServerRun → ServerRun → Type 0
FormedBefore range g before x = (a : ℕ) (group : Group) → event_at (x.story (log_name range)) a ≡ Some (Made g group) → event_at (before.story (log_name range)) a ≡ Some (Made g group)
