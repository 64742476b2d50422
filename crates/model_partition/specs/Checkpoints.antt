-- A checkpoint of a range: its memory table is written as pages and an index into row data, then a record of it into the
-- metadata, each answered before the next, and then the log is trimmed. One that combines reads the pages of the older indexes
-- first, and writes what they and the memory table say together.
use Rattle.std.specs.Prelude.{ℕ, suc, ◌+◌, ◌-◌, ◌^◌, max, min, Bool, true, false, not, ◌||◌, ◌&&◌, ◌==◌, nat_lt, nat_le, List, [], ◌∷◌, ◌++◌, length, take, drop, Option, Some, None, option_to_list, is_some, if◌then◌else◌}
use Rattle.std.specs.List.{list_any}
use Rattle.block_types.specs.declared.record.Nodes.{Nodes}
use Rattle.wire.specs.declared.actor.ActorId.TheVariants.{Manager}
use Rattle.wire.specs.declared.actor.ReqNo.{ReqNo}
use Rattle.wire.specs.declared.body.AppendBody.TheVariants as appends
use Rattle.wire.specs.declared.body.Body.{Body}
use Rattle.wire.specs.declared.body.Body.TheVariants as bodies
use Rattle.wire.specs.declared.body.ReadBody.{ReadBody}
use Rattle.wire.specs.declared.body.ReadBody.TheVariants as reads
use Rattle.wire.specs.declared.body.StreamBody.{StreamBody}
use Rattle.wire.specs.declared.body.StreamBody.TheVariants as streams
use Rattle.wire.specs.declared.packet.Packet.{Packet}
use Rattle.wire.specs.declared.refusal.Refusal.{Refusal}
use Rattle.wire.specs.declared.refusal.Refusal.TheVariants as refusals
use Rattle.wire.specs.declared.streams.StreamExtent.{StreamExtent}
use Rattle.wire.specs.declared.streams.StreamList.{StreamList}
use Rattle.streams.specs.declared.table.Position.{Position}
use Rattle.model_streams.specs.Outcome.{first_met}
use Rattle.memtable.specs.declared.cell.Cell.{Cell}
use Rattle.memtable.specs.declared.cell.Cell.TheVariants.{Placed}
use Rattle.memtable.specs.declared.cell.Place.{Place}
use Rattle.memtable.specs.Entries.{Entries}
use Rattle.client.specs.declared.job.Place.TheVariants.{First}
use Rattle.client.specs.declared.job.News.{News}
use Rattle.client.specs.declared.job.News.TheVariants as news
use Rattle.client.specs.Client.{ClientState, Outcome, append_rule, reply_rule}
use Rattle.client.specs.Requests.{is_same}
use Rattle.metadata.specs.declared.record.MetaRecord.{MetaRecord}
use Rattle.metadata.specs.declared.record.MetaItem.TheVariants.{Checkpoint}
use Rattle.metadata.specs.Record.{spelling}
use Rattle.metadata.specs.Fold.{taken}
use Rattle.checkpoint_format.specs.declared.index.Index.{Index}
use Rattle.checkpoint_format.specs.Index.{fits_a_group, index_group, index_size}
use Rattle.checkpoint_format.specs.Page.{entries_at}
use Rattle.checkpoint.specs.declared.installed_index.InstalledIndex.{InstalledIndex}
use Rattle.checkpoint.specs.Merges.{MergeState, no_merge, merge_of, next_place, with_at_hand, with_page}
use Rattle.checkpoint.specs.PageGroups.{PagesState, no_pages, pages_to_write, next_group, may_stand_at, with_next_placed, will_fit}
use Rattle.checkpoint.specs.Pages.{combined}
use Rattle.model_partition.specs.CheckpointStates.{CheckpointState, last_job}
use Rattle.model_partition.specs.declared.checkpoint_job.CheckpointPhase.{CheckpointPhase}
use Rattle.model_partition.specs.declared.checkpoint_job.CheckpointPhase.TheVariants as phases
use Rattle.model_partition.specs.declared.server_context.ServerContext.{ServerContext}
use Rattle.model_partition.specs.Range.{OutGroup, RangeState, RangeOutcome, request, tells, answers, goes, dropped, given, picking, is_serving, is_paused}
use Rattle.model_partition.specs.declared.waiting.PlaceRead.{PlaceRead}
use Rattle.model_partition.specs.Loading.{Group}
use Rattle.model_partition.specs.PlaceReads.{is_place, place_of, places_of, reads_place}
use Rattle.model_partition.specs.Getting.{held_at}

-- ---- what begins

-- a layer that is fixed is that of a checkpoint under way
abbrev pub checkpoint_fault : RangeState → Option Refusal
checkpoint_fault r =
    first_met (
    (refusals.Loading, not (is_serving r.stage))
    ∷ (refusals.Paused, is_paused r.pause)
    ∷ (refusals.Busy, is_some r.control || is_some r.fixed)
    ∷ [])

-- while a group is out its first number is the next one of a load that begins at the position
abbrev pub number_to_apply : Option OutGroup → ℕ → ℕ
number_to_apply None next = next
number_to_apply (Some out) next = out.first

-- whether the number of the extent that a cell names, if it names one, has 64 bits
abbrev pub is_numbered : Cell → Bool
is_numbered (Placed place) = nat_lt place.extent (2 ^ 64)
is_numbered cell = true

abbrev pub are_numbered : Entries → Bool
are_numbered [] = true
are_numbered (e ∷ entries) = is_numbered e.1 && are_numbered entries

-- whether all numbers of a checkpoint have their bytes: those of extents, of its position, and the one to be applied next
abbrev pub have_bytes : Entries → Position → ℕ → Bool
have_bytes entries position next =
    are_numbered entries && (nat_lt position.index (2 ^ 64) && (nat_lt position.offset (2 ^ 32) && nat_lt next (2 ^ 64)))

-- the checkpoint of the live layer, none of whose pages is written yet
abbrev pub new_job : RangeState → CheckpointState
new_job r =
    record {
      position = r.position;
      next = number_to_apply r.out r.next;
      combine = false;
      merge = no_merge;
      pages = pages_to_write r.live;
      phase = phases.Pages;
    }

-- the same of one that combines, none of whose older pages is merged yet
abbrev pub new_combining_job : RangeState → CheckpointState
new_combining_job r = record (new_job r) { combine = true; merge = merge_of r.indexes; pages = no_pages; phase = phases.Combining }

-- so many indexes are combined also where that was not asked
abbrev pub combines : Bool → List InstalledIndex → Bool
combines combine indexes = combine || nat_le 16 (length indexes)

-- ---- what is appended to row data

abbrev pub with_phase : CheckpointState → CheckpointPhase → CheckpointState
with_phase job phase = record job { phase = phase }

-- an index that fits no group is not written
abbrev pub index_if_fit : Index → Option Group
index_if_fit index = if fits_a_group index then Some (index_group index) else None

-- the pages go before the index, so many at a time as a group has
abbrev pub next_append : CheckpointState → Option Group → CheckpointState × Option Group
next_append job (Some group) = (with_phase job phases.Pages, Some group)
next_append job None = (with_phase job phases.Index, index_if_fit job.pages.index)

-- where nothing is appended the checkpoint rests
abbrev pub rows_go : ServerContext → RangeState → CheckpointState × Option Group → RangeOutcome
rows_go d r (job, None) = goes d (record r { control = Some job }) [] []
rows_go d r (job, Some group) =
    let o : Outcome = given (picking d r.rows) (append_rule (picking d r.rows) (request d) group) in
    goes d (record r { rows = o.after; control = Some job }) (option_to_list o.packet) []

abbrev pub writes_pages : ServerContext → RangeState → CheckpointState → RangeOutcome
writes_pages d r job = rows_go d r (next_append job (next_group job.pages))

-- ---- what is combined

-- the pages of what was merged, under what is newer
abbrev pub combined_pages : MergeState → Entries → PagesState
combined_pages merge newer = pages_to_write (combined merge.entries (Some newer))

-- where its index would fit no group the checkpoint goes on as a plain one, of the newer layer alone
abbrev pub combined_job : CheckpointState → Entries → CheckpointState
combined_job job newer =
    if will_fit (combined_pages job.merge newer) then record job { merge = no_merge; pages = combined_pages job.merge newer }
    else record job { combine = false; merge = no_merge; pages = pages_to_write newer }

-- all older pages are merged
abbrev pub writes_combined : ServerContext → RangeState → CheckpointState → Option Entries → RangeOutcome
writes_combined d r job None = goes d r [] []
writes_combined d r job (Some newer) = writes_pages d r (combined_job job newer)

-- a page in an extent that the load was not told of never comes
abbrev pub asks_page : ServerContext → RangeState → Place → Option Nodes → RangeOutcome
asks_page d r place None = goes d r [] []
asks_page d r place (Some places) =
    let read : PlaceRead = record { request = request d; place = place; page = true; replica = First } in
    goes d (record r { reading = Some read }) (reads_place d places read ∷ []) []

-- the next page is read, or where all are merged what they come to is written
abbrev pub merges_next : ServerContext → RangeState → CheckpointState → Option Place → RangeOutcome
merges_next d r job None = writes_combined d r job r.fixed
merges_next d r job (Some place) = asks_page d (record r { control = Some job }) place (places_of r place.extent)

-- those that are at hand are merged first
abbrev pub merges_on : ServerContext → RangeState → CheckpointState → MergeState → RangeOutcome
merges_on d r job merge = merges_next d (record r { reading = None }) (record job { merge = merge }) (next_place merge)

abbrev pub merges : ServerContext → RangeState → CheckpointState → RangeOutcome
merges d r job = merges_on d r job (with_at_hand (held_at r.held) r.said.keys job.merge)

-- the page that is read has come, and says this
abbrev pub page_comes : ServerContext → RangeState → CheckpointState → Option Place → Entries → RangeOutcome
page_comes d r job None entries = answers d r []
page_comes d r job (Some place) entries = merges d r (record job { merge = with_page r.said.keys job.merge entries })

-- bytes that spell no page change nothing, and the read is still waited for
abbrev pub page_read : ServerContext → RangeState → Option CheckpointState → Option Entries → RangeOutcome
page_read d r None entries = answers d r []
page_read d r (Some job) None = answers d r []
page_read d r (Some job) (Some entries) = page_comes d r job (next_place job.merge) entries

-- nor do bytes of another place
abbrev pub page_bytes : ServerContext → RangeState → Option PlaceRead → Place → List ℕ → RangeOutcome
page_bytes d r None place bytes = answers d r []
page_bytes d r (Some read) place bytes = if is_place read.place place then page_read d r r.control (entries_at bytes) else answers d r []

abbrev pub page_told : ServerContext → RangeState → ReadBody → RangeOutcome
page_told d r (reads.Bytes w e offset bytes) = page_bytes d r r.reading (place_of e offset bytes) bytes
page_told d r body = answers d r []

-- ---- the first step

-- the live layer becomes the fixed one, and what comes later goes into a new one
abbrev pub with_fixed : RangeState → RangeState
with_fixed r = record r { live = []; fixed = Some r.live }

abbrev pub begins_pages : ServerContext → RangeState → RangeOutcome
begins_pages d r = writes_pages d (with_fixed r) (new_job r)

abbrev pub begins_combining : ServerContext → RangeState → RangeOutcome
begins_combining d r = merges d (with_fixed r) (new_combining_job r)

abbrev pub begins : ServerContext → RangeState → Bool → RangeOutcome
begins d r combine = if combines combine r.indexes then begins_combining d r else begins_pages d r

-- what cannot be written is not begun
abbrev pub checkpoint_rule : ServerContext → RangeState → Bool → RangeOutcome
checkpoint_rule d r combine = if have_bytes r.live r.position (number_to_apply r.out r.next) then begins d r combine else goes d r [] []

-- ---- what stands in row data

abbrev pub pages_stand : CheckpointState → ℕ → ℕ → CheckpointState
pages_stand job e offset = record job { pages = with_next_placed job.pages e offset }

-- the record of the checkpoint whose index stands at a place
abbrev pub checkpoint_record : RangeState → CheckpointState → Place → MetaRecord
checkpoint_record r job index = record { number = r.said.next; item = Checkpoint job.combine index job.position job.next }

-- whether a number of 64 bits is left after that of the next record
abbrev pub has_record_number : RangeState → Bool
has_record_number r = nat_lt (suc r.said.next) (2 ^ 64)

-- whether a record can be written: its index is one, its numbers are from 1 on, and its own leaves one
abbrev pub may_record : RangeState → CheckpointState → Bool
may_record r job = fits_a_group job.pages.index && (has_record_number r && (nat_lt 0 r.said.next && nat_lt 0 job.next))

-- where the index of a checkpoint stands, at an offset of an extent
abbrev pub index_place : CheckpointState → ℕ → ℕ → Place
index_place job e offset = record { extent = e; offset = offset; length = index_size job.pages.index }

abbrev pub records : ServerContext → RangeState → CheckpointState → Place → RangeOutcome
records d r job index =
    let o : Outcome = given (picking d r.metadata) (append_rule (picking d r.metadata) (request d) (spelling (checkpoint_record r job index) ∷ [])) in
    goes d (record r { metadata = o.after; control = Some (with_phase job (phases.Record index)) }) (option_to_list o.packet) []

-- a checkpoint whose record cannot be written rests
abbrev pub index_stands : ServerContext → RangeState → CheckpointState → ℕ → ℕ → RangeOutcome
index_stands d r job e offset = if may_record r job then records d r job (index_place job e offset) else goes d r [] []

abbrev pub rows_stand : ServerContext → RangeState → CheckpointState → CheckpointPhase → ℕ → ℕ → RangeOutcome
rows_stand d r job phases.Pages e offset = writes_pages d r (pages_stand job e offset)
rows_stand d r job phases.Index e offset = index_stands d r job e offset
rows_stand d r job phase e offset = goes d r [] []

-- no place is written whose extent has a number of more than 64 bits
abbrev pub rows_stand_at : ServerContext → RangeState → CheckpointState → ℕ → ℕ → RangeOutcome
rows_stand_at d r job e offset = if nat_lt e (2 ^ 64) then rows_stand d r job job.phase e offset else goes d r [] []

-- news of the client of row data
abbrev pub rows_told : ServerContext → RangeState → Option CheckpointState → Option News → List Packet → RangeOutcome
rows_told d r job (Some news.Fenced) packets = dropped d r
rows_told d r (Some job) (Some (news.Appended e offset)) packets = rows_stand_at d r job e offset
rows_told d r job told packets = goes d r packets []

-- whether the group that is out may stand there
abbrev pub job_may_stand : Option CheckpointState → ℕ → Bool
job_may_stand None offset = true
job_may_stand (Some job) offset = may_stand_at job.pages offset

abbrev pub rows_may_stand : Option CheckpointState → Body → Bool
rows_may_stand job (bodies.Append (appends.Appended w e offset)) = job_may_stand job offset
rows_may_stand job body = true

-- the answer to what is out to row data
abbrev pub rows_reply : ServerContext → RangeState → Body → RangeOutcome
rows_reply d r body =
    let o : Outcome = reply_rule (picking d r.rows) (request d) body in
    if rows_may_stand r.control body then rows_told d (record r { rows = o.after }) r.control o.news (option_to_list o.packet) else answers d r []

-- ---- the record stands

-- The log is trimmed below the position that the checkpoint noted, but never below what its last extent has.
abbrev pub trim_index : ClientState → Position → ℕ
trim_index log position = if length log.extents == 0 then position.index else min position.index ((log.base + length log.extents) - 1)

-- whether a value of the indexes stands in the log
abbrev pub have_places : List InstalledIndex → Bool
have_places indexes = list_any (λ x. x.index.has_place) indexes

abbrev pub trim_packet : ServerContext → RangeState → ℕ → Bool → ReqNo → Packet
trim_packet d r before to_blob q = tells d Manager (bodies.Stream (streams.Trim r.load.range r.load.generation before to_blob q))

abbrev pub trims_below : ServerContext → RangeState → CheckpointState → ℕ → Bool → RangeOutcome
trims_below d r job before to_blob =
    goes d (record r { control = Some (last_job job.position job.next (phases.Trim before to_blob (request d))) }) (trim_packet d r before to_blob (request d) ∷ []) []

abbrev pub trims : ServerContext → RangeState → CheckpointState → RangeOutcome
trims d r job = trims_below d r job (trim_index r.log job.position) (have_places r.indexes)

-- an index that combines the older ones stands in their place
abbrev pub indexes_below : Bool → List InstalledIndex → List InstalledIndex
indexes_below combine indexes = if combine then [] else indexes

-- What the record says is said, the fixed layer goes, and its index is the newest.
abbrev pub recorded : RangeState → CheckpointState → Place → RangeState
recorded r job index =
    record r {
      said = taken r.said (checkpoint_record r job index).item;
      fixed = None;
      indexes = record { place = index; keys = r.said.keys; index = job.pages.index } ∷ indexes_below job.combine r.indexes;
    }

abbrev pub record_stands : ServerContext → RangeState → CheckpointState → CheckpointPhase → RangeOutcome
record_stands d r job (phases.Record index) = if has_record_number r then trims d (recorded r job index) job else goes d r [] []
record_stands d r job phase = goes d r [] []

-- news of the metadata's client while the range is served
abbrev pub record_told : ServerContext → RangeState → Option CheckpointState → Option News → List Packet → RangeOutcome
record_told d r job (Some news.Fenced) packets = dropped d r
record_told d r (Some job) (Some (news.Appended e offset)) packets = record_stands d r job job.phase
record_told d r job told packets = goes d r packets []

-- ---- the log is trimmed

-- whether the Trim is out under this number
abbrev pub phase_awaits : CheckpointPhase → ReqNo → Bool
phase_awaits (phases.Trim before to_blob q) w = is_same q w
phase_awaits phase w = false

abbrev pub trim_awaits : Option CheckpointState → ReqNo → Bool
trim_awaits None w = false
trim_awaits (Some job) w = phase_awaits job.phase w

-- the extents that leave the log stand behind those of the blob stream where that is asked
abbrev pub with_blob : StreamList → List StreamExtent → Bool → StreamList
with_blob blob gone to_blob = if to_blob then record blob { extents = blob.extents ++ gone } else blob

abbrev pub trimmed : RangeState → ℕ → Bool → RangeState
trimmed r before to_blob =
    record r {
      log = record r.log { base = max r.log.base before; extents = drop (before - r.log.base) r.log.extents };
      blob_data = with_blob r.blob_data (take (before - r.log.base) r.log.extents) to_blob;
      control = None;
    }

abbrev pub trim_told : ServerContext → RangeState → CheckpointPhase → StreamBody → RangeOutcome
trim_told d r (phases.Trim before to_blob q) (streams.Trimmed w) = answers d (trimmed r before to_blob) []
trim_told d r phase body = answers d r []

abbrev pub trim_reply_in : ServerContext → RangeState → Option CheckpointState → StreamBody → RangeOutcome
trim_reply_in d r None body = answers d r []
trim_reply_in d r (Some job) body = trim_told d r job.phase body

-- ---- giving up

abbrev pub phase_again : ServerContext → RangeState → CheckpointPhase → List Packet
phase_again d r (phases.Trim before to_blob q) = trim_packet d r before to_blob q ∷ []
phase_again d r phase = []

-- the same packet again
abbrev pub trim_again : ServerContext → RangeState → Option CheckpointState → List Packet
trim_again d r None = []
trim_again d r (Some job) = phase_again d r job.phase
