-- The Trim that is out.
use Rattle.std.specs.Prelude.{ℕ, Bool, Option, Some, None}
use Rattle.wire.specs.declared.actor.ReqNo.{ReqNo}
use Rattle.model_partition.specs.declared.checkpoint_job.CheckpointPhase.{CheckpointPhase}
use Rattle.model_partition.specs.declared.checkpoint_job.CheckpointPhase.TheVariants as phases
use Rattle.model_partition.specs.CheckpointStates.{CheckpointState}

-- below which index, whether the extents go to the blob stream, and its number
abbrev pub trim_in : CheckpointPhase → Option (ℕ × Bool × ReqNo)
trim_in (phases.Trim before to_blob q) = Some (before, to_blob, q)
trim_in phase = None

abbrev pub trim_out : Option CheckpointState → Option (ℕ × Bool × ReqNo)
trim_out None = None
trim_out (Some job) = trim_in job.phase
