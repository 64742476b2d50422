-- What a server's call leaves, as its code says it.
use Rattle.std.specs.Prelude.{◌≡◌, ℕ, ◌≤◌, Bool, true, false, List, [], ◌∷◌, ◌++◌, length, Option, Some, None, is_some, if◌then◌else◌}
use Rattle.wire.specs.declared.body.Body.{Body}
use Rattle.wire.specs.declared.body.Body.TheVariants as bodies
use Rattle.wire.specs.declared.body.MapBody.{MapBody}
use Rattle.wire.specs.declared.body.MapBody.TheVariants as maps
use Rattle.wire.specs.declared.body.TableBody.{TableBody}
use Rattle.wire.specs.declared.body.TableBody.TheVariants as tables
use Rattle.wire.specs.declared.packet.Packet.{Packet}
use Rattle.model_partition.specs.declared.table_note.TableNote.{TableNote}
use Rattle.model_partition.specs.Answering.{answered_number}
use Rattle.model_partition.specs.Range.{RangeState, RangeOutcome, used}
use Rattle.model_partition.specs.Merges.{MergeStep}
use Rattle.model_partition.specs.Merges as merges
use Rattle.model_partition.specs.Server.{ServerState, ServerOutcome, TwoRanges, both_of, merge_follows, merge_gives_up, merge_of, merge_stepped, merge_with, rests, set_merge, set_range}
use Rattle.model_partition.specs.declared.merge_job.MergeJob.{MergeJob}
use Rattle.model_partition.specs.declared.split_job.SplitJob.{SplitJob}
use Rattle.range_core.specs.Steps.{RangeStep, unless}
use Rattle.range_merge.specs.Rooms as merge_rooms
use Rattle.range_merge.specs.Steps.{MergeTaken}
use Rattle.range_split.specs.Rooms.{RoomState, room_of, again_room_of}
use Rattle.wire.specs.declared.actor.ReqNo.{ReqNo}

-- the packets and the observations
pub record Sent : Type 0 where
  pub packets : List Packet
  pub notes : List TableNote

abbrev pub outcome : Sent → ServerState → ServerOutcome
outcome t s = record { after = s; packets = t.packets; notes = t.notes }

-- no step sends or shows more
abbrev pub IsShort : Sent → Type 0
IsShort t = (length t.packets ≤ 2048) × (length t.notes ≤ 2048)

-- what a step of a range sends and shows, where the range that is left is this, if any
abbrev pub sends : RangeStep → Option RangeState → RangeOutcome
sends t after = record { after = after; count = t.count; packets = t.packets; notes = t.notes }

-- the step that left a range so at a server that already has its count
abbrev pub step_to : ServerState → RangeState → List Packet → List TableNote → RangeOutcome
step_to s r packets notes = record { after = Some r; count = s.context.count; packets = packets; notes = notes }

-- ---- merges

-- ranges, of which two are set
abbrev pub both_set : List (ℕ × RangeState) → ℕ → ℕ → RangeState → RangeState → List (ℕ × RangeState)
both_set rs low high l r = set_range (set_range rs low (Some l)) high (Some r)

-- the ranges that a step of a merge leaves
abbrev pub ranges_left : List (ℕ × RangeState) → MergeJob → MergeStep → List (ℕ × RangeState)
ranges_left rs job t = set_range (set_range rs job.left t.left) job.right t.right

-- The step of a merge, as its code leaves it: these ranges, this job unless it has ended, and what is taken.
pub record IsMergeStep (step : MergeStep) (job after : MergeJob) (before ranges : List (ℕ × RangeState)) (t : MergeTaken) : Type 0 where
  pub ranges_set : ranges ≡ ranges_left before job step
  pub job_left : step.job ≡ unless t.ended after
  pub same_count : step.count ≡ t.count
  pub same_packets : step.packets ≡ t.packets

-- ranges, of which one goes
abbrev pub without : Bool → ℕ → List (ℕ × RangeState) → List (ℕ × RangeState)
without dropped range rs = if dropped then set_range rs range None else rs

-- the Trim with which the checkpoint of a left range ends, where it is held and this is the answer
abbrev pub trim_of : Option MergeJob → Option RangeState → ReqNo → Body → Option (ℕ × Bool)
trim_of (Some job) (Some r) w body = merges.left_trim job.phase r w body
trim_of (Some job) None w body = None
trim_of None r w body = None

-- what comes of a merge, if it is there, behind a step of one of its ranges
abbrev pub follows_at : ℕ → ServerState → ℕ → Option MergeJob → ServerOutcome
follows_at range s left None = rests s
follows_at range s left (Some job) = merge_follows range s left job

-- what it does where one of its ranges was told to give up
abbrev pub gives_up_at : ℕ → ServerState → ℕ → Option MergeJob → ServerOutcome
gives_up_at range s left None = rests s
gives_up_at range s left (Some job) = merge_gives_up range s left job

-- what it asks again itself, if both ranges are held
abbrev pub asks_both : ServerState → ℕ → MergeJob → Option TwoRanges → ServerOutcome
asks_both s left job None = rests s
asks_both s left job (Some two) = merge_stepped s left job (merges.asks_again s.context two.0 two.1 job)

abbrev pub asks_at : ServerState → ℕ → Option MergeJob → ServerOutcome
asks_at s left None = rests s
asks_at s left (Some job) = asks_both s left job (both_of s.ranges job)

-- what was sent and shown comes before
abbrev pub behind_sent : List Packet → List TableNote → ServerOutcome → ServerOutcome
behind_sent sent notes t = record t { packets = sent ++ t.packets; notes = notes }

-- a merge begins so
abbrev pub begun_so : ServerState → ℕ → MergeJob → Packet → ServerOutcome
begun_so s left job p =
    record { after = record s { context = used s.context; merges = set_merge s.merges left (Some job) }; packets = p ∷ []; notes = [] }

-- ---- memory

-- what is made before a step of a range that may be split
abbrev pub split_room : Option SplitJob → Option RoomState
split_room None = None
split_room (Some job) = room_of job job.phase

-- what is made before a range that may be split gives up
abbrev pub split_again : Option SplitJob → Option RoomState
split_again None = None
split_again (Some job) = Some (again_room_of job job.phase)

-- what is made before a step of a range of a merge
abbrev pub merge_room : Option MergeJob → Option merge_rooms.RoomState
merge_room None = None
merge_room (Some job) = merge_rooms.room_of job job.phase

-- what is made before a range of a merge gives up
abbrev pub merge_again : Option MergeJob → Option merge_rooms.RoomState
merge_again None = None
merge_again (Some job) = Some (merge_rooms.again_room_of job job.phase)

-- the merge of this number, if there is one
abbrev pub merge_in : List (ℕ × MergeJob) → Option ℕ → Option MergeJob
merge_in js None = None
merge_in js (Some left) = merge_of js left

-- the merge that a range is part of, if one is under way
abbrev pub merge_by : List (ℕ × MergeJob) → ℕ → Option MergeJob
merge_by js range = merge_in js (merge_with js range)

abbrev pub told_needs_memory : MapBody → Bool
told_needs_memory (maps.Assign range generation until) = true
told_needs_memory body = false

abbrev pub asked_needs_memory : TableBody → Bool
asked_needs_memory (tables.Transact range changes q) = true
asked_needs_memory (tables.Get range key q) = true
asked_needs_memory body = false

-- whether a packet may take memory: an assignment, what a user asks, or an answer
abbrev pub needs_memory : Body → Bool
needs_memory (bodies.Map (maps.Assign range generation until)) = true
needs_memory (bodies.Table body) = asked_needs_memory body
needs_memory body = is_some (answered_number body)
