-- The load of a range: its streams are opened, its metadata is read, then its log, then its indexes, and its generation is
-- confirmed.
use Rattle.std.specs.Prelude.{ℕ, suc, ◌+◌, ◌-◌, ◌^◌, Bool, true, false, ◌&&◌, ◌||◌, ◌==◌, nat_lt, List, [], ◌∷◌, length, drop, filter, flat_map, Option, Some, None, option_to_list, is_some, slice_get, if◌then◌else◌}
use Rattle.blocks.specs.Format.{◌>>=◌}
use Rattle.block_types.specs.Limits.{group_size}
use Rattle.block_types.specs.declared.record.Nodes.{Nodes}
use Rattle.wire.specs.declared.streams.StreamExtent.{StreamExtent}
use Rattle.wire.specs.declared.streams.StreamKind.TheVariants as kinds
use Rattle.wire.specs.declared.streams.StreamLists.{StreamLists}
use Rattle.wire.specs.declared.packet.Packet.{Packet}
use Rattle.streams.specs.declared.table.Position.{Position}
use Rattle.memtable.specs.declared.cell.Place.{Place}
use Rattle.client.specs.declared.job.Place.TheVariants.{First}
use Rattle.client.specs.declared.job.News.{News}
use Rattle.client.specs.declared.job.News.TheVariants as news
use Rattle.client.specs.declared.load.LoadPhase.TheVariants as phases
use Rattle.client.specs.Client.{ClientState, Outcome, new_client, last_extent, check_rule, read_sealed_rule, read_checked_rule}
use Rattle.client.specs.Load.{confirm_packet}
use Rattle.metadata.specs.declared.record.IndexRange.{IndexRange}
use Rattle.metadata.specs.declared.record.KeyRange.{KeyRange}
use Rattle.metadata.specs.declared.record.Region.{Region}
use Rattle.metadata.specs.Fold.{MetadataState, first_metadata, folded}
use Rattle.metadata.specs.Reading.{group_at}
use Rattle.commitlog.specs.declared.log_record.LogRecord.{LogRecord}
use Rattle.commitlog.specs.Reading.{record_at, each_of}
use Rattle.commitlog.specs.Places.{kept}
use Rattle.model_partition.specs.declared.shown_table.ShownTable.{ShownTable}
use Rattle.model_partition.specs.declared.stage.Stage.{Stage}
use Rattle.model_partition.specs.declared.stage.Stage.TheVariants.{Checking, Reading, Indexing, Confirming, Serving}
use Rattle.model_partition.specs.declared.table_note.TableNote.TheVariants.{Loaded}
use Rattle.metadata.specs.Keys.{within}
use Rattle.memtable.specs.Entries.{Entries as Layer, put_all}
use Rattle.checkpoint_format.specs.declared.index.Index.{Index}
use Rattle.checkpoint_format.specs.Index.{index_at}
use Rattle.model_partition.specs.declared.waiting.PlaceRead.{PlaceRead}
use Rattle.model_partition.specs.declared.server_context.ServerContext.{ServerContext}
use Rattle.model_partition.specs.Range.{RangeState, RangeOutcome, request, answers, goes, dropped, given, picking, later}
use Rattle.model_partition.specs.PlaceReads.{is_place, places_of, reads_place}

abbrev pub Group : Type 0
Group = List (List ℕ)

-- ---- what is read

-- what the metadata says after these groups; none where one is damaged
abbrev pub said_after : MetadataState → List Group → Option MetadataState
said_after m [] = Some m
said_after m (group ∷ groups) = group_at group >>= λ r. folded m r >>= λ x. said_after x.1 groups

abbrev pub is_before : Position → Position → Bool
is_before a b = nat_lt a.index b.index || ((a.index == b.index) && nat_lt a.offset b.offset)

abbrev pub is_below_end : Option ℕ → ℕ → Bool
is_below_end None index = true
is_below_end (Some end) index = nat_lt index end

-- whether what stands at a position is of a region
abbrev pub holds : Region → Position → Bool
holds region at = if is_before at region.start then false else is_below_end region.end at.index

-- what a region takes of a group at a position of an extent: the transactions from its next number on, within its own keys and
-- the range's; none where the group begins above that number
abbrev pub region_takes : KeyRange → Position → ℕ → LogRecord → Layer → Region → Option (Region × Layer)
region_takes keys at extent r layer region =
    if holds region at then
    if nat_lt region.next r.first then None
    else Some (
      record region { next = region.next + length (drop (region.next - r.first) r.transactions) },
      put_all layer (filter (λ change. within keys change.0 && within region.keys change.0) (flat_map (λ changes. changes) (drop (region.next - r.first) (kept r extent at.offset)))),
    )
    else Some (region, layer)

-- the regions and the layer after the groups of an extent from a position on; none where one is damaged, or stands where no
-- extent reaches
abbrev pub replayed : KeyRange → ℕ → Position → List Region × Layer → List Group → Option (List Region × Layer)
replayed keys extent at x [] = Some x
replayed keys extent at x (group ∷ groups) =
    if nat_lt (at.offset + group_size group) (2 ^ 32) then
    (record_at group >>= λ r. each_of (region_takes keys at extent r) x.1 x.0
    >>= λ y. replayed keys extent (record at { offset = at.offset + group_size group }) y groups)
    else None

-- ---- what is asked

abbrev pub read_by : ServerContext → ClientState → ℕ → Option StreamExtent → Outcome
read_by d c position None = record { after = c; packet = None; news = None }
read_by d c position (Some x) =
    given c (if is_some x.length then read_sealed_rule c (request d) position else read_checked_rule c (request d))

-- the extent at a position is read: whole where it is sealed, else as far as it was checked
abbrev pub read_of : ServerContext → ClientState → ℕ → Outcome
read_of d c position = read_by d c position (slice_get c.extents position)

abbrev pub metadata_goes : ServerContext → RangeState → Stage → Outcome → RangeOutcome
metadata_goes d r stage o = goes d (record r { stage = stage; metadata = o.after }) (option_to_list o.packet) []

abbrev pub log_goes : ServerContext → RangeState → Stage → Outcome → RangeOutcome
log_goes d r stage o = goes d (record r { stage = stage; log = o.after }) (option_to_list o.packet) []

-- all is read
abbrev pub confirms : ServerContext → RangeState → RangeOutcome
confirms d r =
    goes d (record r { stage = Confirming; load = record r.load { phase = phases.Confirming (request d) } }) (confirm_packet r.load (request d) ∷ []) []

-- an index in an extent that the load was not told of never comes
abbrev pub asks_index : ServerContext → RangeState → ℕ → IndexRange → Option Nodes → RangeOutcome
asks_index d r position index None = dropped d r
asks_index d r position index (Some places) =
    let read : PlaceRead = record { request = request d; place = index.place; page = false; replica = First } in
    goes d (record r { stage = Indexing position; reading = Some read }) (reads_place d places read ∷ []) []

-- the metadata names the newest index first, and the oldest is read first
abbrev pub index_named : List IndexRange → ℕ → Option IndexRange
index_named indexes position = if nat_lt position (length indexes) then slice_get indexes (length indexes - suc position) else None

abbrev pub reads_named : ServerContext → RangeState → ℕ → Option IndexRange → RangeOutcome
reads_named d r position None = confirms d (record r { reading = None })
reads_named d r position (Some index) = asks_index d r position index (places_of r index.place.extent)

-- the index at a position is read, from 0 for the oldest
abbrev pub reads_index : ServerContext → RangeState → ℕ → RangeOutcome
reads_index d r position = reads_named d r position (index_named r.said.indexes position)

abbrev pub reads_log : ServerContext → RangeState → ℕ → RangeOutcome
reads_log d r position =
    if nat_lt position (length r.log.extents) then log_goes d r (Reading kinds.Log position) (read_of d (picking d r.log) position) else reads_index d r 0

-- the region without end, which stands last
abbrev pub open_region : List Region → Option Region
open_region [] = None
open_region (region ∷ []) = if is_some region.end then None else Some region
open_region (region ∷ regions) = open_region regions

-- where the log is read from; none where the first region begins outside of it
abbrev pub first_position : RangeState → List Region → Option ℕ
first_position r [] = None
first_position r (region ∷ regions) =
    if nat_lt region.start.index r.log.base || nat_lt (r.log.base + length r.log.extents) region.start.index then None
    else Some (region.start.index - r.log.base)

abbrev pub reads_log_from : ServerContext → RangeState → Option ℕ → RangeOutcome
reads_log_from d r None = dropped d r
reads_log_from d r (Some position) = reads_log d r position

abbrev pub checks_log : ServerContext → RangeState → Option StreamExtent → RangeOutcome
checks_log d r None = reads_log_from d r (first_position r r.regions)
checks_log d r (Some x) =
    if is_some x.length then reads_log_from d r (first_position r r.regions)
    else log_goes d r (Checking kinds.Log) (given (picking d r.log) (check_rule (picking d r.log) (request d)))

-- the log is read where the metadata leaves something to be applied
abbrev pub begins_log : ServerContext → RangeState → RangeOutcome
begins_log d r =
    if is_some (open_region r.said.regions) && is_some (first_position r r.said.regions)
    then checks_log d (record r { regions = r.said.regions }) (last_extent r.log.extents)
    else dropped d r

abbrev pub reads_metadata : ServerContext → RangeState → ℕ → RangeOutcome
reads_metadata d r position =
    if nat_lt position (length r.metadata.extents)
    then metadata_goes d r (Reading kinds.Metadata position) (read_of d (picking d r.metadata) position)
    else begins_log d r

abbrev pub begins_metadata : ServerContext → RangeState → Option StreamExtent → RangeOutcome
begins_metadata d r None = begins_log d r
begins_metadata d r (Some x) =
    if is_some x.length then reads_metadata d r 0
    else metadata_goes d r (Checking kinds.Metadata) (given (picking d r.metadata) (check_rule (picking d r.metadata) (request d)))

-- the streams are opened, and nothing is read yet
abbrev pub opens : ServerContext → RangeState → StreamLists → RangeOutcome
opens d r lists =
    begins_metadata d
    (record r {
      load = record r.load { phase = phases.Opened };
      metadata = new_client d.server (record { range = r.load.range; kind = kinds.Metadata }) r.load.generation lists.metadata d.pick;
      log = new_client d.server (record { range = r.load.range; kind = kinds.Log }) r.load.generation lists.log d.pick;
      rows = new_client d.server (record { range = r.load.range; kind = kinds.RowData }) r.load.generation lists.row_data d.pick;
      blob_data = lists.blob_data;
      said = first_metadata;
    })
    (last_extent lists.metadata.extents)

-- whether the indexes of a stream's extents fit 64 bits
abbrev pub are_counted : ClientState → Bool
are_counted c = nat_lt (c.base + length c.extents) (2 ^ 64)

-- ---- what answers bring

abbrev pub says : ServerContext → RangeState → ℕ → Option MetadataState → RangeOutcome
says d r position None = dropped d r
says d r position (Some said) = reads_metadata d (record r { said = said }) (suc position)

-- news of the metadata's client, whose answer has these groups
abbrev pub metadata_news : ServerContext → RangeState → List Group → Stage → Option News → List Packet → RangeOutcome
metadata_news d r groups stage (Some news.Fenced) packets = dropped d r
metadata_news d r groups (Checking kind) (Some (news.Checked e l)) packets = reads_metadata d r 0
metadata_news d r groups (Checking kind) (Some (news.Sealed e l)) packets = reads_metadata d r 0
metadata_news d r groups (Reading kind position) (Some (news.Sealed e l)) packets = reads_metadata d r position
metadata_news d r groups (Reading kind position) (Some (news.Content e upto)) packets = says d r position (said_after r.said groups)
metadata_news d r groups stage told packets = goes d r packets []

abbrev pub replays : ServerContext → RangeState → ℕ → Option (List Region × Layer) → RangeOutcome
replays d r position None = dropped d r
replays d r position (Some x) = reads_log d (record r { regions = x.0; live = x.1 }) (suc position)

-- The groups of the log's extent at a position have been read. An extent whose index does not fit 64 bits is never there.
abbrev pub log_read : ServerContext → RangeState → ℕ → ℕ → List Group → RangeOutcome
log_read d r position e groups =
    if nat_lt (r.log.base + position) (2 ^ 64)
    then replays d r position (replayed r.said.keys e (record { index = r.log.base + position; offset = 0 }) (r.regions, r.live) groups)
    else dropped d r

-- news of the log's client during the load
abbrev pub log_news : ServerContext → RangeState → List Group → Stage → Option News → List Packet → RangeOutcome
log_news d r groups stage (Some news.Fenced) packets = dropped d r
log_news d r groups (Checking kind) (Some (news.Checked e l)) packets = reads_log_from d r (first_position r r.regions)
log_news d r groups (Checking kind) (Some (news.Sealed e l)) packets = reads_log_from d r (first_position r r.regions)
log_news d r groups (Reading kind position) (Some (news.Sealed e l)) packets = reads_log d r position
log_news d r groups (Reading kind position) (Some (news.Content e upto)) packets = log_read d r position e groups
log_news d r groups stage told packets = goes d r packets []

-- an index that was read counts within the keys under which it was named; bytes that spell no index are damaged
abbrev pub installs : ServerContext → RangeState → ℕ → Option IndexRange → Option Index → RangeOutcome
installs d r position (Some named) (Some index) =
    reads_index d (record r { indexes = record { place = named.place; keys = named.keys; index = index } ∷ r.indexes }) (suc position)
installs d r position named index = dropped d r

abbrev pub index_read : ServerContext → RangeState → Stage → List ℕ → RangeOutcome
index_read d r (Indexing position) bytes = installs d r position (index_named r.said.indexes position) (index_at bytes)
index_read d r stage bytes = answers d r []

-- bytes have come for a read; those of another place are not what was asked for
abbrev pub index_bytes : ServerContext → RangeState → Option PlaceRead → Place → List ℕ → RangeOutcome
index_bytes d r None place bytes = answers d r []
index_bytes d r (Some read) place bytes = if is_place read.place place then index_read d r r.stage bytes else answers d r []

-- ---- the range is served

abbrev pub length_or : Option ℕ → Option ℕ → ℕ
length_or (Some sealed) checked = sealed
length_or None (Some checked) = checked
length_or None None = 0

-- whether the end of a stream's last extent, as it was told, has 32 bits
abbrev pub has_end : Option StreamExtent → Option ℕ → Bool
has_end None checked = true
has_end (Some x) checked = nat_lt (length_or x.length checked) (2 ^ 32)

-- whether the end of a stream is a position
abbrev pub has_position : ClientState → Bool
has_position c = are_counted c && has_end (last_extent c.extents) c.checked

-- the end of what was read of the log
abbrev pub log_end : ClientState → Option StreamExtent → Position → Position
log_end c None start = start
log_end c (Some x) start = later (record { index = (c.base + length c.extents) - 1; offset = length_or x.length c.checked }) start

-- what a range shows once it is loaded
abbrev pub shown_table : RangeState → ShownTable
shown_table r = record { live = r.live; indexes = r.indexes; keys = r.said.keys }

-- The table is that of the log after the last checkpoint, and its next number that of the region without end. No transaction
-- waits yet.
abbrev pub serves_region : ServerContext → RangeState → Region → RangeOutcome
serves_region d r region =
    goes d
    (record r {
      load = record r.load { phase = phases.Confirmed };
      stage = Serving;
      next = region.next;
      position = log_end r.log (last_extent r.log.extents) region.start;
      queue = [];
      out = None;
    })
    []
    (Loaded r.load.range r.load.generation (shown_table r) region.next ∷ [])

-- numbers begin at 1
abbrev pub serves_from : ServerContext → RangeState → Option Region → RangeOutcome
serves_from d r None = dropped d r
serves_from d r (Some region) = if nat_lt 0 region.next then serves_region d r region else dropped d r

abbrev pub serves : ServerContext → RangeState → RangeOutcome
serves d r = if has_position r.log then serves_from d r (open_region r.regions) else dropped d r
