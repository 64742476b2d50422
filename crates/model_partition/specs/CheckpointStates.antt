-- A checkpoint that is under way, and what it waits for.
use Rattle.std.specs.Prelude.{ℕ, Bool, true, false}
use Rattle.streams.specs.declared.table.Position.{Position}
use Rattle.checkpoint.specs.Merges.{MergeState, no_merge}
use Rattle.checkpoint.specs.PageGroups.{PagesState, no_pages}
use Rattle.model_partition.specs.declared.checkpoint_job.CheckpointPhase.{CheckpointPhase}
use Rattle.model_partition.specs.declared.checkpoint_job.CheckpointPhase.TheVariants.{Combining, Pages, Index, Record, Trim}

-- where a load that begins with the checkpoint reads the log from, the number that is then to be applied next, whether its index
-- stands for all older ones, the merge of these where it does, the checkpoint's pages until its record stands, and what it waits for
pub record CheckpointState : Type 0 where
  pub position : Position
  pub next : ℕ
  pub combine : Bool
  pub merge : MergeState
  pub pages : PagesState
  pub phase : CheckpointPhase

-- whether its record is being appended
abbrev pub is_recording : CheckpointPhase → Bool
is_recording Combining = false
is_recording Pages = false
is_recording Index = false
is_recording (Record index) = true
is_recording (Trim before to_blob q) = false

-- a checkpoint whose record stands: nothing is merged or written any more
abbrev pub last_job : Position → ℕ → CheckpointPhase → CheckpointState
last_job position next phase = record { position = position; next = next; combine = false; merge = no_merge; pages = no_pages; phase = phase }
