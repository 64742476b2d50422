-- How far a range is, as those who use it see it.
use Rattle.std.specs.Prelude.{Bool, true, false, Option, Some, None}
use Rattle.model_partition.specs.CheckpointStates.{CheckpointState}
use Rattle.model_partition.specs.declared.pause.Pause.{Pause}
use Rattle.model_partition.specs.declared.stage.Stage.{Stage}
use Rattle.model_partition.specs.declared.stage.Stage.TheVariants.{Serving}
use Rattle.model_partition.specs.Range.{is_paused}
use Rattle.range_core.specs.declared.phase.Phase.{Phase}
use Rattle.range_core.specs.declared.phase.Phase.TheVariants as phases

-- one that is served is paused, or a checkpoint may be under way
abbrev pub served_phase : Bool → Option CheckpointState → Phase
served_phase true job = phases.Paused
served_phase false None = phases.Serving
served_phase false (Some job) = phases.Checkpointing

-- a range is loaded until it is served
abbrev pub phase_of : Stage → Pause → Option CheckpointState → Phase
phase_of Serving pause job = served_phase (is_paused pause) job
phase_of stage pause job = phases.Loading
