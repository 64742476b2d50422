-- What a step of a merge takes of memory, made beforehand: all of it is a function of the merge alone.
use Rattle.std.specs.Prelude.{List, Option, Some, None}
use Rattle.wire.specs.declared.streams.Modify.{Modify}
use Rattle.model_partition.specs.declared.merge_job.MergeJob.{MergeJob}
use Rattle.model_partition.specs.declared.merge_job.MergePhase.{MergePhase}
use Rattle.model_partition.specs.declared.merge_job.MergePhase.TheVariants as phases
use Rattle.model_partition.specs.declared.merge_job.MergeSide.TheVariants.{Right}
use Rattle.model_partition.specs.Merges.{all_streams}

-- the streams that are built, where they are needed
abbrev pub RoomState : Type 0
RoomState = Option (List Modify)

-- what is made before a step of either range, if anything may come behind it that takes none itself
abbrev pub room_of : MergeJob → MergePhase → Option RoomState
room_of job (phases.Checkpoint Right) = Some (Some (all_streams job))
room_of job phases.Queue = Some (Some (all_streams job))
room_of job phase = None

-- what is made before something is asked again
abbrev pub again_room_of : MergeJob → MergePhase → RoomState
again_room_of job (phases.Build q) = Some (all_streams job)
again_room_of job phase = None
