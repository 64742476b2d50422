-- A merge of two ranges of one server that lie side by side, as the server carries it through: the map tells the number of the new
-- range; the left range makes a checkpoint, and then the right one; from then on neither takes a transaction, and each is paused once
-- none waits there any more; the last extents of their logs and of their row data are sealed; the log, the row data and the blob data
-- of the new range are built from those of the two, the left one's first; its metadata is made, and its keys and then its indexes and
-- regions are appended to that; and the map puts the new range in the place of the two, which go.
use Rattle.std.specs.Prelude.{ℕ, suc, max, ◌^◌, Bool, false, not, ◌||◌, ◌&&◌, ◌==◌, nat_lt, ◌+◌, List, [], ◌∷◌, ◌++◌, length, Option, Some, None, option_to_list, is_some, if◌then◌else◌}
use Rattle.wire.specs.declared.actor.ActorId.TheVariants.{Manager, Map}
use Rattle.wire.specs.declared.actor.ReqNo.{ReqNo}
use Rattle.wire.specs.declared.body.AppendBody.{AppendBody}
use Rattle.wire.specs.declared.body.AppendBody.TheVariants as appends
use Rattle.wire.specs.declared.body.SealBody.{SealBody}
use Rattle.wire.specs.declared.body.SealBody.TheVariants as seals
use Rattle.wire.specs.declared.body.StreamBody.{StreamBody}
use Rattle.wire.specs.declared.body.StreamBody.TheVariants as streams
use Rattle.wire.specs.declared.body.MapBody.{MapBody}
use Rattle.wire.specs.declared.body.MapBody.TheVariants as maps
use Rattle.wire.specs.declared.body.Body.{Body}
use Rattle.wire.specs.declared.body.Body.TheVariants as bodies
use Rattle.wire.specs.declared.packet.Packet.{Packet}
use Rattle.wire.specs.declared.refusal.Refusal.{Refusal}
use Rattle.wire.specs.declared.refusal.Refusal.TheVariants as refusals
use Rattle.wire.specs.declared.streams.Modify.{Modify}
use Rattle.wire.specs.declared.streams.Source.{Source}
use Rattle.wire.specs.declared.streams.StreamKind.{StreamKind}
use Rattle.wire.specs.declared.streams.StreamName.{StreamName}
use Rattle.wire.specs.declared.streams.StreamKind.TheVariants as kinds
use Rattle.model_streams.specs.Outcome.{first_met}
use Rattle.client.specs.declared.job.News.{News}
use Rattle.client.specs.declared.job.News.TheVariants as news
use Rattle.client.specs.Client.{ClientState, Outcome, new_client, awaits, append_rule, reply_rule, give_up_rule}
use Rattle.client.specs.Requests.{is_same}
use Rattle.metadata.specs.declared.record.MetaRecord.{MetaRecord}
use Rattle.metadata.specs.Record.{spelling}
use Rattle.model_partition.specs.declared.checkpoint_job.CheckpointPhase.{CheckpointPhase}
use Rattle.model_partition.specs.declared.checkpoint_job.CheckpointPhase.TheVariants as checkpoints
use Rattle.model_partition.specs.declared.pause.Pause.TheVariants as pauses
use Rattle.model_partition.specs.declared.server_context.ServerContext.{ServerContext}
use Rattle.model_partition.specs.Range.{RangeState, RangeOutcome, request, tells, answers, given, picking, refused_gets, refused_users, is_serving, is_paused}
use Rattle.model_partition.specs.MapRules.{is_beside}
use Rattle.model_partition.specs.CheckpointStates.{CheckpointState}
use Rattle.model_partition.specs.Checkpoints.{begins, trim_awaits, trimmed}
use Rattle.model_partition.specs.ControlJobs.{give_up_control}
use Rattle.model_partition.specs.Splits.{may_checkpoint, is_drained, extents_of, open_last, is_extent, seal_packet, seal_again, with_last_sealed, has_number}
use Rattle.model_partition.specs.declared.merge_job.MergeJob.{MergeJob}
use Rattle.model_partition.specs.declared.merge_job.MergePhase.{MergePhase}
use Rattle.model_partition.specs.declared.merge_job.MergePhase.TheVariants as phases
use Rattle.model_partition.specs.declared.merge_job.MergeRecord.{MergeRecord}
use Rattle.model_partition.specs.declared.merge_job.MergeRecord.TheVariants.{Keys, Regions}
use Rattle.model_partition.specs.declared.merge_job.MergeSide.{MergeSide}
use Rattle.model_partition.specs.declared.merge_job.MergeSide.TheVariants.{Left, Right}
use Rattle.model_partition.specs.JoinedRanges.{keys_record, regions_record, may_say_keys, may_say_regions}

-- What a step of a merge leaves: either range, if it was not dropped, the merge, if it has not ended, the number of the server's next
-- request, and the packets.
pub record MergeStep : Type 0 where
  pub left : Option RangeState
  pub right : Option RangeState
  pub job : Option MergeJob
  pub count : ℕ
  pub packets : List Packet

-- nothing changes
abbrev pub stays : ServerContext → RangeState → RangeState → MergeJob → MergeStep
stays d l r job = record { left = Some l; right = Some r; job = Some job; count = d.count; packets = [] }

-- a step that used the number of the next request
abbrev pub goes : ServerContext → RangeState → RangeState → MergeJob → List Packet → MergeStep
goes d l r job packets = record { left = Some l; right = Some r; job = Some job; count = suc d.count; packets = packets }

-- both ranges go, and their merge with them; they are paused, so that nothing waits there but Gets
abbrev pub ends : ServerContext → RangeState → RangeState → MergeStep
ends d l r = record { left = None; right = None; job = None; count = suc d.count; packets = refused_gets d l ++ refused_gets d r }

-- no merge is under way any more, and both ranges are served on
abbrev pub parts : ServerContext → RangeState → RangeState → MergeStep
parts d l r = record { left = Some l; right = Some r; job = None; count = d.count; packets = [] }

-- A range whose merge is no more: one that is paused stays so, since its log is at its end; another takes transactions again.
abbrev pub freed : RangeState → RangeState
freed r = record r { pause = if is_paused r.pause then pauses.On else pauses.Off }

-- one of the two goes, whose waiting users are told so, and the merge with it; the other is served on, or stays paused
abbrev pub loses : ServerContext → RangeState → RangeState → MergeSide → MergeStep
loses d l r Left = record { left = None; right = Some (freed r); job = None; count = suc d.count; packets = refused_users d l }
loses d l r Right = record { left = Some (freed l); right = None; job = None; count = suc d.count; packets = refused_users d r }

abbrev pub with_phase : MergeJob → MergePhase → MergeJob
with_phase job phase = record job { phase = phase }

-- ---- the beginning

-- a checkpoint, a split or a merge of the range is under way; `jobs` tells whether one of the last two is
abbrev pub is_busy : RangeState → Bool → Bool
is_busy r jobs = jobs || (is_some r.control || is_some r.fixed)

-- the left range ends where the right one begins; none is beside itself
abbrev pub are_beside : RangeState → RangeState → Bool
are_beside l r = not (l.load.range == r.load.range) && is_beside l.said.keys r.said.keys

-- so many indexes that the record of the new range would not name them
abbrev pub are_too_many : RangeState → RangeState → Bool
are_too_many l r = nat_lt 64 (length l.indexes + length r.indexes)

-- Why no merge of two ranges that this server holds begins: each is asked of both before the next is.
abbrev pub merge_fault : RangeState → RangeState → Bool → Bool → Option Refusal
merge_fault l r left_jobs right_jobs =
    first_met (
    (refusals.Loading, not (is_serving l.stage && is_serving r.stage))
    ∷ (refusals.Paused, is_paused l.pause || is_paused r.pause)
    ∷ (refusals.Busy, is_busy l left_jobs || is_busy r right_jobs)
    ∷ (refusals.NotAdjacent, not (are_beside l r))
    ∷ (refusals.TooLarge, are_too_many l r)
    ∷ [])

abbrev pub begin_packet : ServerContext → MergeJob → ReqNo → Packet
begin_packet d job q = tells d Map (bodies.Map (maps.BeginMerge job.left job.left_generation job.right job.right_generation q))

abbrev pub new_merge : ServerContext → RangeState → RangeState → MergeJob
new_merge d l r =
    record {
      left = l.load.range;
      left_generation = l.load.generation;
      right = r.load.range;
      right_generation = r.load.generation;
      into = 0;
      phase = phases.Begin (request d);
    }

-- ---- the checkpoints

abbrev pub left_checkpointed : RangeOutcome → RangeState → MergeJob → MergeStep
left_checkpointed o r job = record { left = o.after; right = Some r; job = Some job; count = o.count; packets = o.packets }

abbrev pub right_checkpointed : RangeOutcome → RangeState → MergeJob → MergeStep
right_checkpointed o l job = record { left = Some l; right = o.after; job = Some job; count = o.count; packets = o.packets }

-- The map has numbered the new range, and the checkpoint of the left one begins. Where none can begin the merge waits, and asks the map
-- again later.
abbrev pub begun : ServerContext → RangeState → RangeState → MergeJob → ℕ → MergeStep
begun d l r job into =
    if may_checkpoint l then left_checkpointed (begins d l false) r (record job { into = into; phase = phases.Checkpoint Left })
    else stays d l r job

-- The checkpoint of the left range has ended, and that of the right one begins. Where none can begin the merge ends, and both are
-- served on.
abbrev pub begins_right : ServerContext → RangeState → RangeState → MergeJob → MergeStep
begins_right d l r job =
    if may_checkpoint r then right_checkpointed (begins d r false) l (with_phase job (phases.Checkpoint Right)) else parts d l r

-- ---- seals

-- a stream of one of the two
abbrev pub Part : Type 0
Part = MergeSide × StreamKind

abbrev pub side_of : RangeState → RangeState → MergeSide → RangeState
side_of l r Left = l
side_of l r Right = r

-- the last extent of a stream of one of the two, where it is not known to be sealed
abbrev pub open_part : RangeState → RangeState → MergeSide → StreamKind → Option ℕ
open_part l r side kind = open_last (extents_of (side_of l r side) kind)

abbrev pub right_parts : List Part
right_parts = (Right, kinds.Log) ∷ (Right, kinds.RowData) ∷ []

-- the streams whose last extents are sealed, in this order
abbrev pub all_parts : List Part
all_parts = (Left, kinds.Log) ∷ (Left, kinds.RowData) ∷ right_parts

abbrev pub parts_after : MergeSide → StreamKind → List Part
parts_after Left kinds.Log = (Left, kinds.RowData) ∷ right_parts
parts_after Left kind = right_parts
parts_after Right kinds.Log = (Right, kinds.RowData) ∷ []
parts_after Right kind = []

abbrev pub or_part : Part → Option ℕ → Option (Part × ℕ) → Option (Part × ℕ)
or_part part (Some e) later = Some (part, e)
or_part part None later = later

-- the first of these streams whose last extent is open
abbrev pub first_open : RangeState → RangeState → List Part → Option (Part × ℕ)
first_open l r [] = None
first_open l r (part ∷ others) = or_part part (open_part l r part.0 part.1) (first_open l r others)

-- ---- the streams of the new range

abbrev pub source : ℕ → ℕ → StreamKind → Source
source range generation kind = record { stream = record { range = range; kind = kind }; generation = generation }

-- a stream is built from that of the left range and that of the right one behind it
abbrev pub built_stream : MergeJob → StreamKind → Modify
built_stream job kind =
    record {
      stream = record { range = job.into; kind = kind };
      sources = source job.left job.left_generation kind ∷ source job.right job.right_generation kind ∷ [];
    }

abbrev pub all_streams : MergeJob → List Modify
all_streams job = built_stream job kinds.Log ∷ built_stream job kinds.RowData ∷ built_stream job kinds.BlobData ∷ []

abbrev pub build_packet : ServerContext → MergeJob → ReqNo → Packet
build_packet d job q = tells d Manager (bodies.Stream (streams.MultiModify (all_streams job) q))

abbrev pub builds : ServerContext → RangeState → RangeState → MergeJob → MergeStep
builds d l r job = goes d l r (with_phase job (phases.Build (request d))) (build_packet d job (request d) ∷ [])

-- the next of the open extents is to be sealed; where there is none more the streams are built
abbrev pub seals_or_builds : ServerContext → RangeState → RangeState → MergeJob → Option (Part × ℕ) → MergeStep
seals_or_builds d l r job None = builds d l r job
seals_or_builds d l r job (Some x) =
    goes d l r (with_phase job (phases.Seal x.0.0 x.0.1 (request d))) (seal_packet d x.1 (request d) ∷ [])

abbrev pub seals_among : ServerContext → RangeState → RangeState → MergeJob → List Part → MergeStep
seals_among d l r job parts = seals_or_builds d l r job (first_open l r parts)

-- the left range once the length of the last extent of a stream of this side is known
abbrev pub sealed_left : RangeState → MergeSide → StreamKind → ℕ → RangeState
sealed_left l Left kind length = with_last_sealed l kind length
sealed_left l Right kind length = l

-- and the right one
abbrev pub sealed_right : RangeState → MergeSide → StreamKind → ℕ → RangeState
sealed_right r Left kind length = r
sealed_right r Right kind length = with_last_sealed r kind length

abbrev pub last_sealed : ServerContext → RangeState → RangeState → MergeJob → MergeSide → StreamKind → ℕ → ℕ → MergeStep
last_sealed d l r job side kind e length =
    if is_extent e (open_part l r side kind) then seals_among d (sealed_left l side kind length) (sealed_right r side kind length) job (parts_after side kind)
    else stays d l r job

-- ---- the pause

-- a range takes no transaction any more, and is paused once none waits there
abbrev pub pausing : RangeState → RangeState
pausing r = record r { pause = if is_drained r then pauses.On else pauses.AfterQueue }

-- Each of the two by itself. Once both are paused the first open extent is sealed.
abbrev pub drains : ServerContext → RangeState → RangeState → MergeJob → MergeStep
drains d l r job =
    if is_drained l && is_drained r then seals_among d (pausing l) (pausing r) job all_parts
    else stays d (pausing l) (pausing r) (with_phase job phases.Queue)

-- ---- the metadata of the new range

-- the new range has the greater of the two generations
abbrev pub joined_generation : MergeJob → ℕ
joined_generation job = max job.left_generation job.right_generation

abbrev pub metadata_name : MergeJob → StreamName
metadata_name job = record { range = job.into; kind = kinds.Metadata }

abbrev pub create_packet : ServerContext → MergeJob → ReqNo → Packet
create_packet d job q = tells d Manager (bodies.Stream (streams.CreateStream (metadata_name job) (joined_generation job) q))

-- the streams are built
abbrev pub creates : ServerContext → RangeState → RangeState → MergeJob → MergeStep
creates d l r job = goes d l r (with_phase job (phases.Create (request d))) (create_packet d job (request d) ∷ [])

-- with nothing in it
abbrev pub new_metadata : ServerContext → MergeJob → ClientState
new_metadata d job = new_client d.server (metadata_name job) (joined_generation job) (record { base = 0; extents = [] }) d.pick

abbrev pub record_of : RangeState → RangeState → MergeRecord → MetaRecord
record_of l r Keys = keys_record l r
record_of l r Regions = regions_record l r

abbrev pub may_write : RangeState → RangeState → MergeRecord → Bool
may_write l r Keys = may_say_keys l r
may_write l r Regions = may_say_regions l r

abbrev pub appends_record : ServerContext → RangeState → RangeState → MergeJob → MergeRecord → ClientState → MergeStep
appends_record d l r job what c =
    let o : Outcome = given (picking d c) (append_rule (picking d c) (request d) (spelling (record_of l r what) ∷ [])) in
    goes d l r (with_phase job (phases.Write what o.after)) (option_to_list o.packet)

-- a merge whose record cannot be written goes no further
abbrev pub writes : ServerContext → RangeState → RangeState → MergeJob → MergeRecord → ClientState → MergeStep
writes d l r job what c = if may_write l r what then appends_record d l r job what c else stays d l r job

-- the metadata is there, and nothing stands in it
abbrev pub created : ServerContext → RangeState → RangeState → MergeJob → MergeStep
created d l r job = writes d l r job Keys (new_metadata d job)

-- ---- the end

abbrev pub complete_packet : ServerContext → MergeJob → ReqNo → Packet
complete_packet d job q = tells d Map (bodies.Map (maps.CompleteMerge job.left job.left_generation job.right job.right_generation q))

abbrev pub completes : ServerContext → RangeState → RangeState → MergeJob → MergeStep
completes d l r job = goes d l r (with_phase job (phases.Complete (request d))) (complete_packet d job (request d) ∷ [])

abbrev pub record_stands : ServerContext → RangeState → RangeState → MergeJob → MergeRecord → ClientState → MergeStep
record_stands d l r job Keys c = writes d l r job Regions c
record_stands d l r job Regions c = completes d l r job

-- news of the client of the new range's metadata
abbrev pub write_told : ServerContext → RangeState → RangeState → MergeJob → MergeRecord → Outcome → Option News → MergeStep
write_told d l r job what o (Some news.Fenced) = ends d l r
write_told d l r job what o (Some (news.Appended e offset)) = record_stands d l r job what o.after
write_told d l r job what o told = goes d l r (with_phase job (phases.Write what o.after)) (option_to_list o.packet)

abbrev pub write_reply : ServerContext → RangeState → RangeState → MergeJob → MergeRecord → ClientState → Body → MergeStep
write_reply d l r job what c body =
    let o : Outcome = reply_rule (picking d c) (request d) body in
    write_told d l r job what o o.news

-- ---- answers

-- whether the merge waits for an answer of this number
abbrev pub phase_awaits : MergePhase → ReqNo → Bool
phase_awaits (phases.Begin q) w = is_same q w
phase_awaits (phases.Checkpoint side) w = false
phase_awaits phases.Queue w = false
phase_awaits (phases.Seal side kind q) w = is_same q w
phase_awaits (phases.Build q) w = is_same q w
phase_awaits (phases.Create q) w = is_same q w
phase_awaits (phases.Write what c) w = awaits c.job w
phase_awaits (phases.Complete q) w = is_same q w

-- An old generation drops the left range, for which the map was asked; that the map does not begin the merge ends it.
abbrev pub begin_refused : ServerContext → RangeState → RangeState → MergeJob → Refusal → MergeStep
begin_refused d l r job refusals.Stale = loses d l r Left
begin_refused d l r job refusals.NotOwner = parts d l r
begin_refused d l r job refusals.NotAdjacent = parts d l r
begin_refused d l r job refusals.GenerationChanged = parts d l r
begin_refused d l r job refusal = stays d l r job

-- a range of an old generation is dropped
abbrev pub seal_refused : ServerContext → RangeState → RangeState → MergeJob → MergeSide → Refusal → MergeStep
seal_refused d l r job side refusals.Stale = loses d l r side
seal_refused d l r job side refusal = stays d l r job

-- both are where the streams of the new range refuse; that these are there counts as that they are made
abbrev pub build_refused : ServerContext → RangeState → RangeState → MergeJob → Refusal → MergeStep
build_refused d l r job refusals.Stale = ends d l r
build_refused d l r job refusals.NameTaken = creates d l r job
build_refused d l r job refusal = stays d l r job

abbrev pub create_refused : ServerContext → RangeState → RangeState → MergeJob → Refusal → MergeStep
create_refused d l r job refusals.Stale = ends d l r
create_refused d l r job refusals.NameTaken = created d l r job
create_refused d l r job refusal = stays d l r job

-- both are dropped where the map has one of them under another generation
abbrev pub complete_refused : ServerContext → RangeState → RangeState → MergeJob → Refusal → MergeStep
complete_refused d l r job refusals.Stale = ends d l r
complete_refused d l r job refusals.GenerationChanged = ends d l r
complete_refused d l r job refusal = stays d l r job

-- other refusals leave the merge waiting
abbrev pub refused : ServerContext → RangeState → RangeState → MergeJob → MergePhase → Refusal → MergeStep
refused d l r job (phases.Begin q) refusal = begin_refused d l r job refusal
refused d l r job (phases.Seal side kind q) refusal = seal_refused d l r job side refusal
refused d l r job (phases.Build q) refusal = build_refused d l r job refusal
refused d l r job (phases.Create q) refusal = create_refused d l r job refusal
refused d l r job (phases.Complete q) refusal = complete_refused d l r job refusal
refused d l r job phase refusal = stays d l r job

abbrev pub refused_by : ServerContext → RangeState → RangeState → MergeJob → AppendBody → MergeStep
refused_by d l r job (appends.Refused w refusal) = refused d l r job job.phase refusal
refused_by d l r job body = stays d l r job

abbrev pub map_told : ServerContext → RangeState → RangeState → MergeJob → MergePhase → MapBody → MergeStep
map_told d l r job (phases.Begin q) (maps.MergeBegun w into) = begun d l r job into
map_told d l r job (phases.Complete q) (maps.MergeDone w) = ends d l r
map_told d l r job phase body = stays d l r job

abbrev pub seal_told : ServerContext → RangeState → RangeState → MergeJob → MergePhase → SealBody → MergeStep
seal_told d l r job (phases.Seal side kind q) (seals.SealedIs w e length) = last_sealed d l r job side kind e length
seal_told d l r job phase body = stays d l r job

abbrev pub stream_told : ServerContext → RangeState → RangeState → MergeJob → MergePhase → StreamBody → MergeStep
stream_told d l r job (phases.Build q) (streams.Modified w) = creates d l r job
stream_told d l r job (phases.Create q) (streams.Created w) = created d l r job
stream_told d l r job phase body = stays d l r job

abbrev pub told : ServerContext → RangeState → RangeState → MergeJob → Body → MergeStep
told d l r job (bodies.Append body) = refused_by d l r job body
told d l r job (bodies.Map body) = map_told d l r job job.phase body
told d l r job (bodies.Seal body) = seal_told d l r job job.phase body
told d l r job (bodies.Stream body) = stream_told d l r job job.phase body
told d l r job body = stays d l r job

-- an answer that the merge waits for
abbrev pub merge_reply_in : ServerContext → RangeState → RangeState → MergeJob → MergePhase → Body → MergeStep
merge_reply_in d l r job (phases.Write what c) body = write_reply d l r job what c body
merge_reply_in d l r job phase body = told d l r job body

abbrev pub merge_reply : ServerContext → RangeState → RangeState → MergeJob → Body → MergeStep
merge_reply d l r job body = merge_reply_in d l r job job.phase body

-- ---- the end of the checkpoint of the left range

-- the Trim that is out of a checkpoint, if one is: below which index, and whether the extents go to the blob stream
abbrev pub trim_in : CheckpointPhase → Option (ℕ × Bool)
trim_in (checkpoints.Trim before to_blob q) = Some (before, to_blob)
trim_in phase = None

abbrev pub trim_out : Option CheckpointState → Option (ℕ × Bool)
trim_out None = None
trim_out (Some checkpoint) = trim_in checkpoint.phase

-- the Trim that an answer of this number ends
abbrev pub trim_under : RangeState → ReqNo → StreamBody → Option (ℕ × Bool)
trim_under l w (streams.Trimmed v) = if trim_awaits l.control w then trim_out l.control else None
trim_under l w body = None

-- The Trim with which the checkpoint of the left range ends, where the merge waits for that and this is the answer.
abbrev pub left_trim : MergePhase → RangeState → ReqNo → Body → Option (ℕ × Bool)
left_trim (phases.Checkpoint Left) l w (bodies.Stream body) = trim_under l w body
left_trim phase l w body = None

-- the left range has trimmed its log
abbrev pub left_ends : ServerContext → RangeState → RangeState → MergeJob → ℕ × Bool → MergeStep
left_ends d l r job x = begins_right d (trimmed l x.0 x.1) r job

-- ---- what follows a step of either range

-- The checkpoint of the right range has ended, or no transaction waits any more at one of the two.
abbrev pub follows_in : ServerContext → RangeState → RangeState → MergeJob → MergeSide → MergePhase → MergeStep
follows_in d l r job Right (phases.Checkpoint Right) = if is_some r.control then stays d l r job else drains d l r job
follows_in d l r job side phases.Queue = drains d l r job
follows_in d l r job side phase = stays d l r job

-- a step of the range of this side; without a number for its request nothing follows
abbrev pub follows : ServerContext → RangeState → RangeState → MergeJob → MergeSide → MergeStep
follows d l r job side = if has_number d then follows_in d l r job side job.phase else stays d l r job

-- ---- giving up

abbrev pub write_again : ServerContext → RangeState → RangeState → MergeJob → MergeRecord → ClientState → MergeStep
write_again d l r job what c =
    let o : Outcome = give_up_rule (picking d c) (request d) d.pick in
    goes d l r (with_phase job (phases.Write what o.after)) (option_to_list o.packet)

-- what is not answered is asked again under its number, but for an append, which takes the next one
abbrev pub asks_again_in : ServerContext → RangeState → RangeState → MergeJob → MergePhase → MergeStep
asks_again_in d l r job (phases.Begin q) = goes d l r job (begin_packet d job q ∷ [])
asks_again_in d l r job (phases.Seal side kind q) = goes d l r job (seal_again d (open_part l r side kind) q)
asks_again_in d l r job (phases.Build q) = goes d l r job (build_packet d job q ∷ [])
asks_again_in d l r job (phases.Create q) = goes d l r job (create_packet d job q ∷ [])
asks_again_in d l r job (phases.Write what c) = write_again d l r job what c
asks_again_in d l r job (phases.Complete q) = goes d l r job (complete_packet d job q ∷ [])
asks_again_in d l r job phase = stays d l r job

-- without a number for its request nothing is asked
abbrev pub asks_again : ServerContext → RangeState → RangeState → MergeJob → MergeStep
asks_again d l r job = if has_number d then asks_again_in d l r job job.phase else stays d l r job

-- The range that makes its checkpoint while the other one is told to give up. Where it is that one itself, its checkpoint has given up
-- with all else that it waits for.
abbrev pub other_checkpoint : MergePhase → MergeSide → Option MergeSide
other_checkpoint (phases.Checkpoint Left) Right = Some Left
other_checkpoint (phases.Checkpoint Right) Left = Some Right
other_checkpoint phase told = None

-- whether the server has the numbers of a checkpoint that gives up
abbrev pub has_numbers_again : ServerContext → Bool
has_numbers_again d = nat_lt (d.count + 3) (2 ^ 64)

-- without these it does not
abbrev pub checkpoint_again : ServerContext → RangeState → RangeOutcome
checkpoint_again d r = if has_numbers_again d then give_up_control d r else answers d r []

abbrev pub checkpoint_gives_up : ServerContext → RangeState → RangeState → MergeJob → MergeSide → MergeStep
checkpoint_gives_up d l r job Left = left_checkpointed (checkpoint_again d l) r job
checkpoint_gives_up d l r job Right = right_checkpointed (checkpoint_again d r) l job

abbrev pub gives_up_with : ServerContext → RangeState → RangeState → MergeJob → Option MergeSide → MergeStep
gives_up_with d l r job None = asks_again d l r job
gives_up_with d l r job (Some side) = checkpoint_gives_up d l r job side

-- the merge gives up once, whichever of its ranges was told to
abbrev pub gives_up : ServerContext → RangeState → RangeState → MergeJob → MergeSide → MergeStep
gives_up d l r job told = gives_up_with d l r job (other_checkpoint job.phase told)
