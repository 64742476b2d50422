-- A room that was made for a split has what its step takes.
use Rattle.std.proofs.Common.{◌≡◌, Some, sym, ap}
use Rattle.std.proofs.lemmas.Option.{same_Some}
use Rattle.model_partition.specs.declared.split_job.SplitJob.{SplitJob}
use Rattle.model_partition.specs.declared.split_job.SplitPhase.{SplitPhase}
use Rattle.model_partition.specs.declared.split_job.SplitPhase.TheVariants as phases
use Rattle.range_split.specs.Rooms.{RoomState, Serves, ServesAgain, again_room_of, room_of, room_for_record, room_for_streams}

pub serves : (job : SplitJob) (phase : SplitPhase) (room : RoomState) → room_of job phase ≡ Some room → Serves job phase room.record_blocks room.streams
serves job (phases.Begin q) room is = tt
serves job phases.Checkpoint room is = let same : room_for_record job ≡ room = same_Some (room_for_record job) room is in ap (λ (x : RoomState). x.record_blocks) (sym same)
serves job phases.Queue room is = let same : room_for_record job ≡ room = same_Some (room_for_record job) room is in ap (λ (x : RoomState). x.record_blocks) (sym same)
serves job phases.Record room is = let same : room_for_streams job ≡ room = same_Some (room_for_streams job) room is in ap (λ (x : RoomState). x.streams) (sym same)
serves job (phases.Seal kind q) room is = tt
serves job (phases.Build q) room is = tt
serves job (phases.Keys side c) room is = tt
serves job (phases.Complete q) room is = tt

pub serves_again : (job : SplitJob) (phase : SplitPhase) (room : RoomState) → room ≡ again_room_of job phase → ServesAgain job phase room.key room.streams
serves_again job (phases.Begin q) room is = ap (λ (x : RoomState). x.key) is
serves_again job phases.Checkpoint room is = tt
serves_again job phases.Queue room is = tt
serves_again job phases.Record room is = tt
serves_again job (phases.Seal kind q) room is = tt
serves_again job (phases.Build q) room is = ap (λ (x : RoomState). x.streams) is
serves_again job (phases.Keys side c) room is = tt
serves_again job (phases.Complete q) room is = tt
