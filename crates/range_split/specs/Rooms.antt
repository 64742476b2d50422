-- What a step of a split takes of memory, made beforehand: all of it is a function of the split alone.
use Rattle.std.specs.Prelude.{◌≡◌, ℕ, List, [], ◌∷◌, Option, Some, None, if◌then◌else◌}
use Rattle.wire.specs.declared.streams.Modify.{Modify}
use Rattle.metadata.specs.Record.{spelling}
use Rattle.model_partition.specs.declared.split_job.SplitJob.{SplitJob}
use Rattle.model_partition.specs.declared.split_job.SplitPhase.{SplitPhase}
use Rattle.model_partition.specs.declared.split_job.SplitPhase.TheVariants as phases
use Rattle.model_partition.specs.Splits.{all_streams, has_record, split_record}

-- the key that the map is asked about, the blocks of the split's record, and the streams that are built, where each is needed
pub record RoomState : Type 0 where
  pub key : Option (List ℕ)
  pub record_blocks : Option (List (List ℕ))
  pub streams : Option (List Modify)

-- the record of the split, where it has one
abbrev pub record_if : SplitJob → Option (List (List ℕ))
record_if job = if has_record job then Some (spelling (split_record job) ∷ []) else None

abbrev pub room_for_record : SplitJob → RoomState
room_for_record job = record { key = None; record_blocks = record_if job; streams = None }

abbrev pub room_for_streams : SplitJob → RoomState
room_for_streams job = record { key = None; record_blocks = None; streams = Some (all_streams job) }

-- what is made before a step of the range, if anything may come behind it
abbrev pub room_of : SplitJob → SplitPhase → Option RoomState
room_of job phases.Checkpoint = Some (room_for_record job)
room_of job phases.Queue = Some (room_for_record job)
room_of job phases.Record = Some (room_for_streams job)
room_of job phase = None

-- what of it is taken behind the step
abbrev pub Serves : SplitJob → SplitPhase → Option (List (List ℕ)) → Option (List Modify) → Type 0
Serves job phases.Checkpoint blocks streams = blocks ≡ record_if job
Serves job phases.Queue blocks streams = blocks ≡ record_if job
Serves job phases.Record blocks streams = streams ≡ Some (all_streams job)
Serves job phase blocks streams = Unit {0}

-- what is made before something is asked again
abbrev pub again_room_of : SplitJob → SplitPhase → RoomState
again_room_of job (phases.Begin q) = record { key = Some job.key; record_blocks = None; streams = None }
again_room_of job (phases.Build q) = room_for_streams job
again_room_of job phase = record { key = None; record_blocks = None; streams = None }

-- what of it is taken then
abbrev pub ServesAgain : SplitJob → SplitPhase → Option (List ℕ) → Option (List Modify) → Type 0
ServesAgain job (phases.Begin q) key streams = key ≡ Some job.key
ServesAgain job (phases.Build q) key streams = streams ≡ Some (all_streams job)
ServesAgain job phase key streams = Unit {0}
