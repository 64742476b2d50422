-- What was so of a range at the moment when the streams of another were built of its own, and what is so of it since.
use Rattle.std.specs.Prelude.{◌≡◌, ℕ, List, [], ◌++◌, Some, None}
use Rattle.wire.specs.declared.note.Note.{Note}
use Rattle.wire.specs.declared.streams.StreamKind.{StreamKind}
use Rattle.model_streams.specs.Maps.{entry_at}
use Rattle.model_partition.specs.declared.split_job.Side.{Side}
use Rattle.model_partition.specs.declared.split_job.Side.TheVariants.{Low, High}
use Rattle.model_partition.specs.declared.split_job.SplitJob.{SplitJob}
use Rattle.model_partition.specs.declared.table_note.TableNote.{TableNote}
use Rattle.model_partition.specs.Past.{Bytes}
use Rattle.model_partition.specs.Range.{RangeState}
use Rattle.model_partition.specs.Server.{ServerState, range_of, split_of}
use Rattle.model_partition.specs.Servers.{ServerCell}
use Rattle.model_partition.specs.Splits.{side_range}
use Rattle.model_histories.specs.Log.{only}
use Rattle.model_histories.specs.ServedTables.{AreSeenAs}
use Rattle.model_histories.specs.ServerRun.{ServerRun, stream_named}
use Rattle.laws_tables.specs.Runs.{Run, first_beginning, held, said}
use Rattle.laws_server_runs.specs.ChildInvariant.{IsBuilding}
use Rattle.laws_server_runs.specs.ClosedRanges.{SplitPlan, IsClosed, FormedBefore}
use Rattle.laws_server_runs.specs.RangeInvariant.{IsLonger}
use Rattle.laws_server_runs.specs.RunInvariant.{HasLoad, Taken, RunBehind}

-- what a split makes of its range
abbrev pub plan_of : RangeState → SplitJob → SplitPlan
plan_of r job = record { keys = r.said.keys; key = job.key; low = job.low; high = job.high }

-- the number of one of the two
abbrev pub planned_range : SplitPlan → Side → ℕ
planned_range plan Low = plan.low
planned_range plan High = plan.high

-- a split of a range at a server waits for the streams of this one
pub record AsksBuild (x : ServerRun) (source child : ℕ) : Type 0 where
  pub server : ℕ
  pub cell : ServerCell
  pub state : ServerState
  pub there : entry_at x.servers server ≡ Some cell
  pub runs : cell.state ≡ Some state
  pub range : RangeState
  pub held : range_of state.ranges source ≡ Some range
  pub job : SplitJob
  pub found : split_of state.splits source ≡ Some job
  pub building : IsBuilding job.phase
  pub side : Side
  pub is : child ≡ side_range job side

module _ (texts : ℕ → Bytes) where
  -- At a moment the streams of a child were built of a source's, as a split asked that was one of the source under this generation. taken and
  -- run: what is kept of the source by now; began: the run that the child began with.
  pub record StoodAt (source child : ℕ) (moment : ServerRun) (g : ℕ) (plan : SplitPlan) (taken : Taken) (run began : Run) (x : ServerRun) : Type 0 where
    pub old : RunBehind texts source taken moment
    pub goes : IsLonger old.run run
    pub took : began ≡ old.run
    -- what is shown, and what stands in the streams, goes on from there
    pub notes : (more : List TableNote) × (x.notes ≡ moment.notes ++ more)
    pub story : (kind : StreamKind) → IsLonger (moment.story (stream_named source kind)) (x.story (stream_named source kind))
    -- of the child nothing was told
    pub untold : (notes : List Note) → AreSeenAs texts moment.notes notes → only child notes ≡ []
    -- the generation was loaded behind what the source took, nothing was out under it, and no group is formed under it since
    pub loaded : HasLoad g old.behind.0
    pub nothing_out : (held first_beginning old.run g).out ≡ None
    pub formed : FormedBefore source g moment x
    -- the child is one of the two, and the keys of the source were these
    pub side : Side
    pub is : child ≡ planned_range plan side
    pub keys : (said first_beginning (held first_beginning old.run g).records).keys ≡ plan.keys
    -- the split closes the source
    pub closed : IsClosed plan source g x
