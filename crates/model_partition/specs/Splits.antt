-- A split of a range at a key, as its server carries it through: the map tells the numbers of the two ranges that it makes; the range
-- makes a checkpoint; from then on it takes no transaction, and once none waits any more it is paused and its metadata says that it
-- is split; the last extents of its streams are sealed, and the streams of the two ranges are built from them; the keys of each are
-- appended to its metadata; and the map puts the two in the place of the range, which goes.
use Rattle.std.specs.Prelude.{ℕ, suc, ◌^◌, Bool, true, false, not, ◌||◌, ◌&&◌, ◌==◌, nat_lt, nat_le, List, [], ◌∷◌, ◌++◌, length, Option, Some, None, option_to_list, is_some, if◌then◌else◌}
use Rattle.wire.specs.declared.actor.ActorId.TheVariants.{Manager, Map}
use Rattle.wire.specs.declared.actor.ReqNo.{ReqNo}
use Rattle.wire.specs.declared.body.AppendBody.{AppendBody}
use Rattle.wire.specs.declared.body.AppendBody.TheVariants as appends
use Rattle.wire.specs.declared.body.SealBody.{SealBody}
use Rattle.wire.specs.declared.body.SealBody.TheVariants as seals
use Rattle.wire.specs.declared.body.StreamBody.{StreamBody}
use Rattle.wire.specs.declared.body.StreamBody.TheVariants as streams
use Rattle.wire.specs.declared.body.MapBody.{MapBody}
use Rattle.wire.specs.declared.body.MapBody.TheVariants as maps
use Rattle.wire.specs.declared.body.Body.{Body}
use Rattle.wire.specs.declared.body.Body.TheVariants as bodies
use Rattle.wire.specs.declared.packet.Packet.{Packet}
use Rattle.wire.specs.declared.refusal.Refusal.{Refusal}
use Rattle.wire.specs.declared.refusal.Refusal.TheVariants as refusals
use Rattle.wire.specs.declared.streams.Modify.{Modify}
use Rattle.wire.specs.declared.streams.StreamExtent.{StreamExtent}
use Rattle.wire.specs.declared.streams.StreamKind.{StreamKind}
use Rattle.wire.specs.declared.streams.StreamKind.TheVariants as kinds
use Rattle.block_types.specs.Limits.{is_within}
use Rattle.model_streams.specs.Outcome.{first_met}
use Rattle.client.specs.declared.job.News.{News}
use Rattle.client.specs.declared.job.News.TheVariants as news
use Rattle.client.specs.Client.{ClientState, Outcome, new_client, last_extent, sealed_last, is_idle, awaits, append_rule, reply_rule, give_up_rule}
use Rattle.client.specs.Requests.{is_same}
use Rattle.metadata.specs.declared.record.KeyRange.{KeyRange}
use Rattle.metadata.specs.declared.record.MetaItem.{MetaItem}
use Rattle.metadata.specs.declared.record.MetaItem.TheVariants.{Ranges, SplitStatus}
use Rattle.metadata.specs.declared.record.MetaRecord.{MetaRecord}
use Rattle.metadata.specs.Fold.{taken}
use Rattle.metadata.specs.Record.{spelling}
use Rattle.model_partition.specs.declared.pause.Pause.TheVariants as pauses
use Rattle.model_partition.specs.declared.server_context.ServerContext.{ServerContext}
use Rattle.model_partition.specs.declared.split_job.Side.{Side}
use Rattle.model_partition.specs.declared.split_job.Side.TheVariants.{Low, High}
use Rattle.model_partition.specs.declared.split_job.SplitJob.{SplitJob}
use Rattle.model_partition.specs.declared.split_job.SplitPhase.{SplitPhase}
use Rattle.model_partition.specs.declared.split_job.SplitPhase.TheVariants as phases
use Rattle.model_partition.specs.Range.{RangeState, RangeOutcome, request, tells, given, picking, refused_users, is_serving, is_paused}
use Rattle.model_partition.specs.Map.{is_split_key}
use Rattle.model_partition.specs.Checkpoints.{number_to_apply, have_bytes, begins, checkpoint_fault}

-- What a step of a split leaves: the range, if it was not dropped, the split, if it has not ended, the number of the server's next
-- request, and the packets.
pub record SplitStep : Type 0 where
  pub range : Option RangeState
  pub job : Option SplitJob
  pub count : ℕ
  pub packets : List Packet

-- nothing changes
abbrev pub stays : ServerContext → RangeState → SplitJob → SplitStep
stays d r job = record { range = Some r; job = Some job; count = d.count; packets = [] }

-- a step that used the number of the next request
abbrev pub goes : ServerContext → RangeState → SplitJob → List Packet → SplitStep
goes d r job packets = record { range = Some r; job = Some job; count = suc d.count; packets = packets }

-- the range goes, and its split with it
abbrev pub ends : ServerContext → RangeState → SplitStep
ends d r = record { range = None; job = None; count = suc d.count; packets = refused_users d r }

abbrev pub with_phase : SplitJob → SplitPhase → SplitJob
with_phase job phase = record job { phase = phase }

-- ---- the beginning

-- why no split begins; `splits` tells whether one of the range is under way
abbrev pub split_fault : RangeState → Bool → List ℕ → Option Refusal
split_fault r splits key =
    first_met (
    (refusals.Loading, not (is_serving r.stage))
    ∷ (refusals.Paused, is_paused r.pause)
    ∷ (refusals.Busy, splits || (is_some r.control || is_some r.fixed))
    ∷ (refusals.BadSplitKey, not (is_split_key r.said.keys key))
    ∷ [])

abbrev pub begin_packet : ServerContext → SplitJob → ReqNo → Packet
begin_packet d job q = tells d Map (bodies.Map (maps.BeginSplit job.range job.generation job.key q))

abbrev pub new_split : ServerContext → RangeState → List ℕ → SplitJob
new_split d r key =
    record {
      range = r.load.range;
      generation = r.load.generation;
      key = key;
      low = 0;
      high = 0;
      number = 0;
      phase = phases.Begin (request d);
    }

abbrev pub split_rule : ServerContext → RangeState → List ℕ → SplitStep
split_rule d r key = goes d r (new_split d r key) (begin_packet d (new_split d r key) (request d) ∷ [])

abbrev pub checkpointed : RangeOutcome → SplitJob → SplitStep
checkpointed o job = record { range = o.after; job = Some job; count = o.count; packets = o.packets }

-- whether a checkpoint can begin, and be written
abbrev pub may_checkpoint : RangeState → Bool
may_checkpoint r = not (is_some (checkpoint_fault r)) && have_bytes r.live r.position (number_to_apply r.out r.next)

-- whether the records of the checkpoint, of the split, and of the keys of the two have numbers of 64 bits, and one is left after them
abbrev pub has_record_numbers : RangeState → Bool
has_record_numbers r = nat_lt (suc (suc (suc r.said.next))) (2 ^ 64)

-- The map has numbered the two ranges, and the checkpoint begins; the record of the split comes after its record. Where none can begin
-- the split waits, and asks the map again later.
abbrev pub begun : ServerContext → RangeState → SplitJob → ℕ → ℕ → SplitStep
begun d r job low high =
    if may_checkpoint r && has_record_numbers r
    then checkpointed (begins d r false) (record job { low = low; high = high; number = suc r.said.next; phase = phases.Checkpoint })
    else stays d r job

-- ---- the pause

-- no transaction waits, and none is being appended
abbrev pub is_drained : RangeState → Bool
is_drained r = not (is_some r.out) && (length r.queue == 0)

abbrev pub split_item : SplitJob → MetaItem
split_item job = SplitStatus job.low job.high job.key

abbrev pub split_record : SplitJob → MetaRecord
split_record job = record { number = job.number; item = split_item job }

-- ---- bytes of records

-- a key that stands in a record
abbrev pub is_record_key : List ℕ → Bool
is_record_key key = is_within 1 256 (length key)

abbrev pub is_record_end : Option (List ℕ) → Bool
is_record_end None = true
is_record_end (Some key) = is_record_key key

-- whether the keys of a range, and the key that splits it, have their bytes
abbrev pub have_key_bytes : KeyRange → List ℕ → Bool
have_key_bytes keys key = nat_le (length keys.low) 256 && (is_record_end keys.high && is_record_key key)

abbrev pub have_range_numbers : SplitJob → Bool
have_range_numbers job = nat_lt job.low (2 ^ 64) && nat_lt job.high (2 ^ 64)

-- whether the record of the split has a number, and all that stands in it has its bytes
abbrev pub has_record : SplitJob → Bool
has_record job = nat_lt 0 job.number && (have_range_numbers job && is_record_key job.key)

-- whether the record of the split can be written, and is the next one of the range's metadata
abbrev pub may_record : RangeState → SplitJob → Bool
may_record r job = (r.said.next == job.number) && has_record job

-- the range is paused, and its metadata says that it is split
abbrev pub pauses_and_records : ServerContext → RangeState → SplitJob → SplitStep
pauses_and_records d r job =
    let o : Outcome = given (picking d r.metadata) (append_rule (picking d r.metadata) (request d) (spelling (split_record job) ∷ [])) in
    goes d (record r { pause = pauses.On; metadata = o.after }) (with_phase job phases.Record) (option_to_list o.packet)

-- Until then it takes no transaction. A split whose record cannot be written goes no further.
abbrev pub drains : ServerContext → RangeState → SplitJob → SplitStep
drains d r job =
    if is_drained r && may_record r job then pauses_and_records d r job
    else stays d (record r { pause = pauses.AfterQueue }) (with_phase job phases.Queue)

-- ---- seals

abbrev pub extents_of : RangeState → StreamKind → List StreamExtent
extents_of r kinds.Metadata = r.metadata.extents
extents_of r kinds.Log = r.log.extents
extents_of r kinds.RowData = r.rows.extents
extents_of r kinds.BlobData = r.blob_data.extents

-- the last extent of a list, where it is not known to be sealed
abbrev pub open_extent : Option StreamExtent → Option ℕ
open_extent None = None
open_extent (Some x) = if is_some x.length then None else Some x.extent

abbrev pub open_last : List StreamExtent → Option ℕ
open_last xs = open_extent (last_extent xs)

abbrev pub all_kinds : List StreamKind
all_kinds = kinds.Metadata ∷ kinds.Log ∷ kinds.RowData ∷ kinds.BlobData ∷ []

abbrev pub kinds_after : StreamKind → List StreamKind
kinds_after kinds.Metadata = kinds.Log ∷ kinds.RowData ∷ kinds.BlobData ∷ []
kinds_after kinds.Log = kinds.RowData ∷ kinds.BlobData ∷ []
kinds_after kinds.RowData = kinds.BlobData ∷ []
kinds_after kinds.BlobData = []

abbrev pub or_kind : StreamKind → Option ℕ → Option (StreamKind × ℕ) → Option (StreamKind × ℕ)
or_kind kind (Some e) later = Some (kind, e)
or_kind kind None later = later

-- the first of these streams whose last extent is open
abbrev pub first_open : RangeState → List StreamKind → Option (StreamKind × ℕ)
first_open r [] = None
first_open r (kind ∷ others) = or_kind kind (open_last (extents_of r kind)) (first_open r others)

abbrev pub seal_packet : ServerContext → ℕ → ReqNo → Packet
seal_packet d e q = tells d Manager (bodies.Seal (seals.SealExtent e q))

-- ---- the streams of the two ranges

-- a stream of one of the two is built from the range's own of its kind
abbrev pub built_stream : SplitJob → ℕ → StreamKind → Modify
built_stream job side kind =
    record {
      stream = record { range = side; kind = kind };
      sources = record { stream = record { range = job.range; kind = kind }; generation = job.generation } ∷ [];
    }

abbrev pub built_streams : SplitJob → ℕ → List Modify
built_streams job side =
    built_stream job side kinds.Metadata
    ∷ built_stream job side kinds.Log
    ∷ built_stream job side kinds.RowData
    ∷ built_stream job side kinds.BlobData
    ∷ []

-- the streams of the lower range, and then those of the higher one
abbrev pub all_streams : SplitJob → List Modify
all_streams job = built_streams job job.low ++ built_streams job job.high

abbrev pub build_packet : ServerContext → SplitJob → ReqNo → Packet
build_packet d job q = tells d Manager (bodies.Stream (streams.MultiModify (all_streams job) q))

abbrev pub builds : ServerContext → RangeState → SplitJob → SplitStep
builds d r job = goes d r (with_phase job (phases.Build (request d))) (build_packet d job (request d) ∷ [])

-- the next of the open extents is to be sealed; where there is none more the streams are built
abbrev pub seals_or_builds : ServerContext → RangeState → SplitJob → Option (StreamKind × ℕ) → SplitStep
seals_or_builds d r job None = builds d r job
seals_or_builds d r job (Some x) = goes d r (with_phase job (phases.Seal x.0 (request d))) (seal_packet d x.1 (request d) ∷ [])

abbrev pub seals_among : ServerContext → RangeState → SplitJob → List StreamKind → SplitStep
seals_among d r job kinds = seals_or_builds d r job (first_open r kinds)

-- the record stands
abbrev pub record_stands : ServerContext → RangeState → SplitJob → SplitStep
record_stands d r job = seals_among d (record r { said = taken r.said (split_item job) }) job all_kinds

-- the length of the last extent of a stream is known
abbrev pub with_last_sealed : RangeState → StreamKind → ℕ → RangeState
with_last_sealed r kinds.Metadata length = record r { metadata = record r.metadata { extents = sealed_last r.metadata.extents length } }
with_last_sealed r kinds.Log length = record r { log = record r.log { extents = sealed_last r.log.extents length } }
with_last_sealed r kinds.RowData length = record r { rows = record r.rows { extents = sealed_last r.rows.extents length } }
with_last_sealed r kinds.BlobData length = record r { blob_data = record r.blob_data { extents = sealed_last r.blob_data.extents length } }

abbrev pub is_extent : ℕ → Option ℕ → Bool
is_extent e None = false
is_extent e (Some f) = f == e

abbrev pub last_sealed : ServerContext → RangeState → SplitJob → StreamKind → ℕ → ℕ → SplitStep
last_sealed d r job kind e length =
    if is_extent e (open_last (extents_of r kind)) then seals_among d (with_last_sealed r kind length) job (kinds_after kind) else stays d r job

-- ---- the keys of the two ranges

abbrev pub side_range : SplitJob → Side → ℕ
side_range job Low = job.low
side_range job High = job.high

abbrev pub side_keys : KeyRange → List ℕ → Side → KeyRange
side_keys keys key Low = record { low = keys.low; high = Some key }
side_keys keys key High = record { low = key; high = keys.high }

-- the metadata of one of the two, which has the extents of the range's own
abbrev pub side_metadata : ServerContext → RangeState → SplitJob → Side → ClientState
side_metadata d r job side =
    new_client d.server (record { range = side_range job side; kind = kinds.Metadata }) job.generation
    (record { base = r.metadata.base; extents = r.metadata.extents }) d.pick

-- both records of keys have the next number of the range's own metadata
abbrev pub keys_record : RangeState → SplitJob → Side → MetaRecord
keys_record r job side = record { number = r.said.next; item = Ranges (side_keys r.said.keys job.key side) }

-- whether the records of the keys can be written
abbrev pub may_say_keys : RangeState → SplitJob → Bool
may_say_keys r job = nat_lt 0 r.said.next && (nat_lt r.said.next (2 ^ 64) && have_key_bytes r.said.keys job.key)

abbrev pub appends_keys : ServerContext → RangeState → SplitJob → Side → SplitStep
appends_keys d r job side =
    let c : ClientState = side_metadata d r job side in
    let o : Outcome = given c (append_rule c (request d) (spelling (keys_record r job side) ∷ [])) in
    goes d r (with_phase job (phases.Keys side o.after)) (option_to_list o.packet)

abbrev pub says_keys : ServerContext → RangeState → SplitJob → Side → SplitStep
says_keys d r job side = if may_say_keys r job then appends_keys d r job side else stays d r job

-- ---- the end

abbrev pub complete_packet : ServerContext → SplitJob → ReqNo → Packet
complete_packet d job q = tells d Map (bodies.Map (maps.CompleteSplit job.range job.generation q))

abbrev pub completes : ServerContext → RangeState → SplitJob → SplitStep
completes d r job = goes d r (with_phase job (phases.Complete (request d))) (complete_packet d job (request d) ∷ [])

abbrev pub keys_stand : ServerContext → RangeState → SplitJob → Side → SplitStep
keys_stand d r job Low = says_keys d r job High
keys_stand d r job High = completes d r job

-- news of the client of a range's metadata that is one of the two
abbrev pub keys_told : ServerContext → RangeState → SplitJob → Side → Outcome → Option News → SplitStep
keys_told d r job side o (Some news.Fenced) = ends d r
keys_told d r job side o (Some (news.Appended e offset)) = keys_stand d r job side
keys_told d r job side o told = goes d r (with_phase job (phases.Keys side o.after)) (option_to_list o.packet)

abbrev pub keys_reply : ServerContext → RangeState → SplitJob → Side → ClientState → Body → SplitStep
keys_reply d r job side c body =
    let o : Outcome = reply_rule (picking d c) (request d) body in
    keys_told d r job side o o.news

-- ---- answers

-- whether the split waits for an answer of this number
abbrev pub phase_awaits : SplitPhase → ReqNo → Bool
phase_awaits (phases.Begin q) w = is_same q w
phase_awaits phases.Checkpoint w = false
phase_awaits phases.Queue w = false
phase_awaits phases.Record w = false
phase_awaits (phases.Seal kind q) w = is_same q w
phase_awaits (phases.Build q) w = is_same q w
phase_awaits (phases.Keys side c) w = awaits c.job w
phase_awaits (phases.Complete q) w = is_same q w

-- A range of an old generation is dropped. That there are the streams counts as that they are built, and a range that the map has
-- under another generation is dropped. Other refusals leave the split waiting.
abbrev pub refused : ServerContext → RangeState → SplitJob → SplitPhase → Refusal → SplitStep
refused d r job phase refusals.Stale = ends d r
refused d r job (phases.Build q) refusals.NameTaken = says_keys d r job Low
refused d r job (phases.Complete q) refusals.GenerationChanged = ends d r
refused d r job phase refusal = stays d r job

abbrev pub refused_by : ServerContext → RangeState → SplitJob → AppendBody → SplitStep
refused_by d r job (appends.Refused w refusal) = refused d r job job.phase refusal
refused_by d r job body = stays d r job

abbrev pub map_told : ServerContext → RangeState → SplitJob → SplitPhase → MapBody → SplitStep
map_told d r job (phases.Begin q) (maps.SplitBegun w low high) = begun d r job low high
map_told d r job (phases.Complete q) (maps.SplitDone w) = ends d r
map_told d r job phase body = stays d r job

abbrev pub seal_told : ServerContext → RangeState → SplitJob → SplitPhase → SealBody → SplitStep
seal_told d r job (phases.Seal kind q) (seals.SealedIs w e length) = last_sealed d r job kind e length
seal_told d r job phase body = stays d r job

abbrev pub stream_told : ServerContext → RangeState → SplitJob → SplitPhase → StreamBody → SplitStep
stream_told d r job (phases.Build q) (streams.Modified w) = says_keys d r job Low
stream_told d r job phase body = stays d r job

abbrev pub told : ServerContext → RangeState → SplitJob → Body → SplitStep
told d r job (bodies.Append body) = refused_by d r job body
told d r job (bodies.Map body) = map_told d r job job.phase body
told d r job (bodies.Seal body) = seal_told d r job job.phase body
told d r job (bodies.Stream body) = stream_told d r job job.phase body
told d r job body = stays d r job

-- an answer that the split waits for
abbrev pub split_reply_in : ServerContext → RangeState → SplitJob → SplitPhase → Body → SplitStep
split_reply_in d r job (phases.Keys side c) body = keys_reply d r job side c body
split_reply_in d r job phase body = told d r job body

abbrev pub split_reply : ServerContext → RangeState → SplitJob → Body → SplitStep
split_reply d r job body = split_reply_in d r job job.phase body

-- ---- what follows a step of the range

-- whether the server has a number for a request that follows a step of the range
abbrev pub has_number : ServerContext → Bool
has_number d = nat_lt (suc d.count) (2 ^ 64)

-- whether the record stands, and a number is left after its own
abbrev pub has_stood : RangeState → Bool
has_stood r = is_idle r.metadata.job && nat_lt (suc r.said.next) (2 ^ 64)

-- The checkpoint has ended, no transaction waits any more, or the record of the split stands.
abbrev pub follows_in : ServerContext → RangeState → SplitJob → SplitPhase → SplitStep
follows_in d r job phases.Checkpoint = if is_some r.control then stays d r job else drains d r job
follows_in d r job phases.Queue = drains d r job
follows_in d r job phases.Record = if has_stood r then record_stands d r job else stays d r job
follows_in d r job phase = stays d r job

-- without a number for its request nothing follows
abbrev pub follows : ServerContext → RangeState → SplitJob → SplitStep
follows d r job = if has_number d then follows_in d r job job.phase else stays d r job

-- ---- giving up

abbrev pub seal_again : ServerContext → Option ℕ → ReqNo → List Packet
seal_again d None q = []
seal_again d (Some e) q = seal_packet d e q ∷ []

abbrev pub keys_again : ServerContext → RangeState → SplitJob → Side → ClientState → SplitStep
keys_again d r job side c =
    let o : Outcome = give_up_rule (picking d c) (request d) d.pick in
    goes d r (with_phase job (phases.Keys side o.after)) (option_to_list o.packet)

-- what is not answered is asked again under its number, but for an append, which takes the next one
abbrev pub gives_up_in : ServerContext → RangeState → SplitJob → SplitPhase → SplitStep
gives_up_in d r job (phases.Begin q) = goes d r job (begin_packet d job q ∷ [])
gives_up_in d r job (phases.Seal kind q) = goes d r job (seal_again d (open_last (extents_of r kind)) q)
gives_up_in d r job (phases.Build q) = goes d r job (build_packet d job q ∷ [])
gives_up_in d r job (phases.Keys side c) = keys_again d r job side c
gives_up_in d r job (phases.Complete q) = goes d r job (complete_packet d job q ∷ [])
gives_up_in d r job phase = stays d r job

-- without a number for its request nothing is asked
abbrev pub gives_up : ServerContext → RangeState → SplitJob → SplitStep
gives_up d r job = if has_number d then gives_up_in d r job job.phase else stays d r job
