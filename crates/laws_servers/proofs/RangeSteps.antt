-- What a step of a range sends is from a server, and what it shows is plain, but for the table that it loads.
use Rattle.std.proofs.Common.{ℕ, suc, not, Bool, ◌&&◌, nat_lt, List, [], ◌∷◌, ◌++◌, Option, Some, None, refl, inl, inr, map, flat_map, slice_get, length, ◌-◌, ◌+◌, ◌^◌, take, is_some}
use Rattle.std.specs.Prelude.{option_to_list}
use Rattle.block_types.specs.declared.record.Nodes.{Nodes}
use Rattle.wire.specs.declared.actor.ActorId.{ActorId}
use Rattle.wire.specs.declared.actor.ReqNo.{ReqNo}
use Rattle.wire.specs.declared.body.AppendBody.{AppendBody}
use Rattle.wire.specs.declared.body.AppendBody.TheVariants as appends
use Rattle.wire.specs.declared.body.ReadBody.{ReadBody}
use Rattle.wire.specs.declared.body.ReadBody.TheVariants as reads
use Rattle.wire.specs.declared.body.StreamBody.{StreamBody}
use Rattle.wire.specs.declared.body.StreamBody.TheVariants as streams
use Rattle.wire.specs.declared.body.Body.{Body}
use Rattle.wire.specs.declared.body.Body.TheVariants as bodies
use Rattle.wire.specs.declared.packet.Packet.{Packet}
use Rattle.wire.specs.declared.refusal.Refusal.{Refusal}
use Rattle.wire.specs.declared.refusal.Refusal.TheVariants as refusals
use Rattle.wire.specs.declared.streams.StreamExtent.{StreamExtent}
use Rattle.wire.specs.declared.streams.StreamLists.{StreamLists}
use Rattle.wire.specs.declared.streams.StreamKind.TheVariants as kinds
use Rattle.wire.specs.declared.transaction.Change.{Change}
use Rattle.client.specs.declared.job.News.{News}
use Rattle.client.specs.declared.job.News.TheVariants as news
use Rattle.client.specs.declared.load.LoadPhase.{LoadPhase}
use Rattle.client.specs.declared.load.LoadPhase.TheVariants as phases
use Rattle.client.specs.Client.{ClientState, Outcome, append_rule, check_rule, reply_rule, read_sealed_rule, read_checked_rule, last_extent, awaits, new_client}
use Rattle.client.specs.Load.{again, load_awaits}
use Rattle.memtable.specs.declared.cell.Place.{Place}
use Rattle.commitlog.specs.Record.{spelling}
use Rattle.metadata.specs.Record.{spelling as metadata_spelling}
use Rattle.commitlog.specs.Places.{kept}
use Rattle.memtable.specs.Entries.{Entries, put_all}
use Rattle.checkpoint_format.specs.declared.index.Index.{Index}
use Rattle.checkpoint_format.specs.Index.{index_at}
use Rattle.checkpoint_format.specs.Page.{entries_at}
use Rattle.metadata.specs.Fold.{MetadataState, first_metadata}
use Rattle.metadata.specs.declared.record.IndexRange.{IndexRange}
use Rattle.metadata.specs.declared.record.Region.{Region}
use Rattle.checkpoint.specs.Merges.{MergeState, next_place, with_at_hand, with_page}
use Rattle.model_streams.proofs.Tests.{if_elim}
use Rattle.model_partition.specs.declared.server_context.ServerContext.{ServerContext}
use Rattle.model_partition.specs.declared.shown_table.ShownTable.{ShownTable}
use Rattle.model_partition.specs.declared.stage.Stage.{Stage}
use Rattle.model_partition.specs.declared.stage.Stage.TheVariants.{Checking, Reading, Indexing}
use Rattle.model_partition.specs.declared.table_note.TableNote.{TableNote}
use Rattle.model_partition.specs.declared.table_note.TableNote.TheVariants.{Loaded}
use Rattle.model_partition.specs.declared.waiting.PlaceRead.{PlaceRead}
use Rattle.model_partition.specs.declared.waiting.WaitingGet.{WaitingGet}
use Rattle.model_partition.specs.declared.waiting.WaitingTransaction.{WaitingTransaction}
use Rattle.model_partition.specs.Range.{OutGroup, RangeState, RangeOutcome, request, used, refuses, waiting_out, refused_gets, refused_users, dropped, given, picking, is_serving}
use Rattle.model_partition.specs.Serving.{record_of, group_count, began, appends as appends_next, forms, transact_fault, transacts, transact_rule, dones, committed, out_size, after_these, applies, log_done}
use Rattle.model_partition.specs.PlaceReads.{is_place, place_of, places_of, reads_under, reads_page, moved_on, asks_again}
use Rattle.model_partition.specs.Loading.{Group, said_after, replayed, read_by, read_of, asks_index, index_named, reads_named, reads_index, installs, index_read, index_bytes, reads_log, first_position, reads_log_from, checks_log, begins_log, reads_metadata, begins_metadata, opens, says, metadata_news, replays, log_read, log_news, open_region, serves_from, serves, shown_table, has_position}
use Rattle.model_partition.specs.Getting.{Lookup, Is, Needs, asks_place, answered, try_fault, try_unless, try, try_all, get_fault, gets, get_rule, are_no_page, bytes_rule, came, held_at, gives_up_read, gives_up_get, look, read_at, standing, without}
use Rattle.model_partition.specs.CheckpointStates.{CheckpointState}
use Rattle.model_partition.specs.declared.checkpoint_job.CheckpointPhase.{CheckpointPhase}
use Rattle.model_partition.specs.declared.checkpoint_job.CheckpointPhase.TheVariants as checkpoints
use Rattle.model_partition.specs.Checkpoints.{number_to_apply, have_bytes, new_job, new_combining_job, combines, with_fixed, rows_go, writes_pages, combined_job, writes_combined, asks_page, merges_next, merges, page_comes, page_read, page_bytes, page_told, begins, checkpoint_rule, pages_stand, checkpoint_record, has_record_number, may_record, index_place, records, index_stands, rows_stand, rows_told, rows_may_stand, rows_reply, record_stands, record_told, trim_awaits, trim_told, trim_reply_in, phase_again, trim_again}
use Rattle.model_partition.specs.Answering.{load_refused, load_told, load_reply, metadata_reply, serving_news, is_taken, log_taken, log_reply, index_told, index_reply, page_reply, trim_reply, bytes_reply, gets_reply, answer_rule, gives_up_job, gives_up_reading, give_up_all, groups_of}
use Rattle.model_partition.specs.ControlJobs.{give_up_control}
use Rattle.model_partition.specs.Servers.{ArePlain, ShowsLoad}
use Rattle.laws_servers.specs.Sending.{AllFromRanges}
use Rattle.laws_servers.proofs.ClientPackets.{all_both, all_map, all_flat, listed, Calls, given_calls, append_rule_calls, check_rule_calls, read_sealed_calls, read_checked_calls, reply_calls, give_up_calls, again_calls}

-- ---- what is shown

plain_both : (xs ys : List TableNote) → ArePlain xs → ArePlain ys → ArePlain (xs ++ ys)
plain_both [] ys a b = b
plain_both (Loaded range generation table next ∷ xs) ys a b = absurd a
plain_both (note ∷ xs) ys a b = plain_both xs ys a b

began_plain : (range g s : ℕ) (ts : List WaitingTransaction) → ArePlain (began range g s ts)
began_plain range g s [] = tt
began_plain range g s (t ∷ ts) = began_plain range g (suc s) ts

dones_plain : (range g s : ℕ) (ts : List WaitingTransaction) → ArePlain (dones range g s ts)
dones_plain range g s [] = tt
dones_plain range g s (t ∷ ts) = dones_plain range g (suc s) ts

-- what it sends is from a server, and it shows no loaded table
abbrev pub IsTidy : RangeOutcome → Type 0
IsTidy o = AllFromRanges o.packets × ArePlain o.notes

-- what it sends is from a server, and it shows no loaded table but this
abbrev pub ShowsFrom : Option ShownTable → RangeOutcome → Type 0
ShowsFrom loading o = AllFromRanges o.packets × ShowsLoad loading o.notes

pub tidy_shows : (loading : Option ShownTable) (o : RangeOutcome) → IsTidy o → ShowsFrom loading o
tidy_shows loading o h = (h.0, inl h.1)

-- ---- steps

pub gets_all : (d : ServerContext) (r : RangeState) → AllFromRanges (refused_gets d r)
gets_all d r = all_map (λ (g : WaitingGet). refuses d g.from g.request refusals.NotOwner) (λ g. (d.server, refl, inr refl)) r.gets

pub refused_all : (d : ServerContext) (r : RangeState) → AllFromRanges (refused_users d r)
refused_all d r =
    all_both _ _
    (all_map (λ (t : WaitingTransaction). refuses d t.from t.request refusals.NotOwner) (λ t. (d.server, refl, inr refl)) (waiting_out r.out ++ r.queue))
    (gets_all d r)

dropped_tidy : (d : ServerContext) (r : RangeState) → IsTidy (dropped d r)
dropped_tidy d r = (refused_all d r, tt)

-- ---- transactions

appends_tidy : (d : ServerContext) (r : RangeState) (n : ℕ) → IsTidy (appends_next d r n)
appends_tidy d r n =
    let c : ClientState = picking d r.log in
    let o = append_rule c (request d) (spelling (record_of r.next (take n r.queue))) in (
      listed (given c o).packet (given_calls c o (append_rule_calls c (request d) (spelling (record_of r.next (take n r.queue))))),
      began_plain r.load.range r.load.generation r.next (take n r.queue),
    )

forms_tidy : (d : ServerContext) (r : RangeState) → IsTidy (forms d r)
forms_tidy d r =
    if_elim IsTidy (not (is_some r.out) && (nat_lt 0 (group_count d r) && nat_lt (r.next + group_count d r) (2 ^ 64))) _ _
    (λ t. appends_tidy d r (group_count d r)) (λ f. (tt, tt))

transacts_tidy : (d : ServerContext) (r : RangeState) (from : ActorId) (q : ReqNo) (changes : List Change) (fault : Option Refusal) → IsTidy (transacts d r from q changes fault)
transacts_tidy d r from q changes (Some refusal) = (((d.server, refl, inr refl), tt), tt)
transacts_tidy d r from q changes None =
    forms_tidy d (record r { queue = r.queue ++ record { from = from; request = q; changes = changes } ∷ [] })

pub transact_tidy : (d : ServerContext) (r : RangeState) (from : ActorId) (q : ReqNo) (changes : List Change) → IsTidy (transact_rule d r from q changes)
transact_tidy d r from q changes = transacts_tidy d r from q changes (transact_fault d r changes)

committed_all : (d : ServerContext) (s : ℕ) (ts : List WaitingTransaction) → AllFromRanges (committed d s ts)
committed_all d s [] = tt
committed_all d s (t ∷ ts) = ((d.server, refl, inr refl), committed_all d (suc s) ts)

after_tidy : (packets : List Packet) (notes : List TableNote) (o : RangeOutcome) → AllFromRanges packets → ArePlain notes → IsTidy o → IsTidy (after_these packets notes o)
after_tidy packets notes o sent plain h = (all_both packets o.packets sent h.0, plain_both notes o.notes plain h.1)

applies_tidy : (d : ServerContext) (r : RangeState) (out : OutGroup) (extent offset : ℕ) → IsTidy (applies d r out extent offset)
applies_tidy d r out extent offset =
    let next : RangeState = record r {
      live = put_all r.live (flat_map (λ changes. changes) (kept (record_of out.first out.transactions) extent offset));
      position = record { index = (r.log.base + length r.log.extents) - 1; offset = offset + out_size out };
      out = None;
    } in
    after_tidy (committed d out.first out.transactions) (dones r.load.range r.load.generation out.first out.transactions) (forms d next)
    (committed_all d out.first out.transactions) (dones_plain r.load.range r.load.generation out.first out.transactions) (forms_tidy d next)

log_done_tidy : (d : ServerContext) (r : RangeState) (out : Option OutGroup) (extent offset : ℕ) → IsTidy (log_done d r out extent offset)
log_done_tidy d r None extent offset = (tt, tt)
log_done_tidy d r (Some out) extent offset = applies_tidy d r out extent offset

-- ---- Gets

-- what a try shows is no loaded table
place_plain : (d : ServerContext) (g : WaitingGet) (page : Bool) (place : Place) (places : Option Nodes) → ArePlain (asks_place d g page place places).notes
place_plain d g page place None = tt
place_plain d g page place (Some places) = tt

answered_plain : (d : ServerContext) (r : RangeState) (g : WaitingGet) (found : Lookup) → ArePlain (answered d r g found).notes
answered_plain d r g (Is value) = tt
answered_plain d r g (Needs page place) = place_plain d g page place (places_of r place.extent)

try_plain : (d : ServerContext) (r : RangeState) (g : WaitingGet) → ArePlain (try d r g).notes
try_plain d r g = go (try_fault d r)
  where
    go : (fault : Option Refusal) → ArePlain (try_unless d r g fault).notes
    go (Some why) = tt
    go None = answered_plain d r g (look r.held r.indexes g.key (standing r g.key))

try_all_plain : (d : ServerContext) (r : RangeState) (gs : List WaitingGet) → ArePlain (try_all d r gs).notes
try_all_plain d r [] = tt
try_all_plain d r (g ∷ gs) = plain_both (try d r g).notes _ (try_plain d r g) (try_all_plain (record d { count = (try d r g).count }) r gs)

asks_place_sends : (d : ServerContext) (g : WaitingGet) (page : Bool) (place : Place) (places : Option Nodes) → AllFromRanges (asks_place d g page place places).packets
asks_place_sends d g page place None = tt
asks_place_sends d g page place (Some places) = ((d.server, refl, inl refl), tt)

answered_sends : (d : ServerContext) (r : RangeState) (g : WaitingGet) (found : Lookup) → AllFromRanges (answered d r g found).packets
answered_sends d r g (Is value) = ((d.server, refl, inr refl), tt)
answered_sends d r g (Needs page place) = asks_place_sends d g page place (places_of r place.extent)

try_sends : (d : ServerContext) (r : RangeState) (g : WaitingGet) → AllFromRanges (try d r g).packets
try_sends d r g = go (try_fault d r)
  where
    go : (fault : Option Refusal) → AllFromRanges (try_unless d r g fault).packets
    go (Some why) = ((d.server, refl, inr refl), tt)
    go None = answered_sends d r g (look r.held r.indexes g.key (standing r g.key))

try_all_sends : (d : ServerContext) (r : RangeState) (gs : List WaitingGet) → AllFromRanges (try_all d r gs).packets
try_all_sends d r [] = tt
try_all_sends d r (g ∷ gs) = all_both (try d r g).packets _ (try_sends d r g) (try_all_sends (record d { count = (try d r g).count }) r gs)

gets_tidy : (d : ServerContext) (r : RangeState) (from : ActorId) (q : ReqNo) (key : List ℕ) (fault : Option Refusal) → IsTidy (gets d r from q key fault)
gets_tidy d r from q key (Some refusal) = (((d.server, refl, inr refl), tt), tt)
gets_tidy d r from q key None =
    let g : WaitingGet = record { from = from; request = q; key = key; reads = [] } in
    (try_sends d r g, try_plain d r g)

pub get_tidy : (d : ServerContext) (r : RangeState) (from : ActorId) (q : ReqNo) (key : List ℕ) → IsTidy (get_rule d r from q key)
get_tidy d r from q key = gets_tidy d r from q key (get_fault d r key)

bytes_tidy : (d : ServerContext) (r : RangeState) (w : ReqNo) (place : Place) (bytes : List ℕ) → IsTidy (bytes_rule d r w place bytes)
bytes_tidy d r w place bytes =
    if_elim IsTidy (are_no_page (read_at r.gets w) bytes) _ _ (λ t. (tt, tt))
    (λ f.
    (let now : RangeState = record r { held = came r.held (read_at r.gets w) place bytes } in
    (try_all_sends d now (map (without w) r.gets), try_all_plain d now (map (without w) r.gets))))

-- ---- the load

read_by_calls : (d : ServerContext) (c : ClientState) (position : ℕ) (x : Option StreamExtent) → Calls (read_by d c position x)
read_by_calls d c position None = tt
read_by_calls d c position (Some x) =
    if_elim (λ z. Calls (given c z)) (is_some x.length) _ _
    (λ t. given_calls c (read_sealed_rule c (request d) position) (read_sealed_calls c (request d) position))
    (λ f. given_calls c (read_checked_rule c (request d)) (read_checked_calls c (request d)))

asks_index_tidy : (d : ServerContext) (r : RangeState) (position : ℕ) (index : IndexRange) (places : Option Nodes) → IsTidy (asks_index d r position index places)
asks_index_tidy d r position index None = dropped_tidy d r
asks_index_tidy d r position index (Some places) = (((d.server, refl, inl refl), tt), tt)

reads_named_tidy : (d : ServerContext) (r : RangeState) (position : ℕ) (named : Option IndexRange) → IsTidy (reads_named d r position named)
reads_named_tidy d r position None = (((r.load.server, refl, inl refl), tt), tt)
reads_named_tidy d r position (Some index) = asks_index_tidy d r position index (places_of r index.place.extent)

reads_index_tidy : (d : ServerContext) (r : RangeState) (position : ℕ) → IsTidy (reads_index d r position)
reads_index_tidy d r position = reads_named_tidy d r position (index_named r.said.indexes position)

reads_log_tidy : (d : ServerContext) (r : RangeState) (position : ℕ) → IsTidy (reads_log d r position)
reads_log_tidy d r position =
    let c : ClientState = picking d r.log in
    if_elim IsTidy (nat_lt position (length r.log.extents)) _ _
    (λ t. (listed (read_of d c position).packet (read_by_calls d c position (slice_get c.extents position)), tt))
    (λ f. reads_index_tidy d r 0)

reads_log_from_tidy : (d : ServerContext) (r : RangeState) (position : Option ℕ) → IsTidy (reads_log_from d r position)
reads_log_from_tidy d r None = dropped_tidy d r
reads_log_from_tidy d r (Some position) = reads_log_tidy d r position

checks_log_tidy : (d : ServerContext) (r : RangeState) (x : Option StreamExtent) → IsTidy (checks_log d r x)
checks_log_tidy d r None = reads_log_from_tidy d r (first_position r r.regions)
checks_log_tidy d r (Some x) =
    let c : ClientState = picking d r.log in
    if_elim IsTidy (is_some x.length) _ _
    (λ t. reads_log_from_tidy d r (first_position r r.regions))
    (λ f. (listed (given c (check_rule c (request d))).packet (given_calls c (check_rule c (request d)) (check_rule_calls c (request d))), tt))

begins_log_tidy : (d : ServerContext) (r : RangeState) → IsTidy (begins_log d r)
begins_log_tidy d r =
    if_elim IsTidy (is_some (open_region r.said.regions) && is_some (first_position r r.said.regions)) _ _
    (λ t. checks_log_tidy d (record r { regions = r.said.regions }) (last_extent r.log.extents))
    (λ f. dropped_tidy d r)

reads_metadata_tidy : (d : ServerContext) (r : RangeState) (position : ℕ) → IsTidy (reads_metadata d r position)
reads_metadata_tidy d r position =
    let c : ClientState = picking d r.metadata in
    if_elim IsTidy (nat_lt position (length r.metadata.extents)) _ _
    (λ t. (listed (read_of d c position).packet (read_by_calls d c position (slice_get c.extents position)), tt))
    (λ f. begins_log_tidy d r)

begins_metadata_tidy : (d : ServerContext) (r : RangeState) (x : Option StreamExtent) → IsTidy (begins_metadata d r x)
begins_metadata_tidy d r None = begins_log_tidy d r
begins_metadata_tidy d r (Some x) =
    let c : ClientState = picking d r.metadata in
    if_elim IsTidy (is_some x.length) _ _
    (λ t. reads_metadata_tidy d r 0)
    (λ f. (listed (given c (check_rule c (request d))).packet (given_calls c (check_rule c (request d)) (check_rule_calls c (request d))), tt))

opens_tidy : (d : ServerContext) (r : RangeState) (lists : StreamLists) → IsTidy (opens d r lists)
opens_tidy d r lists =
    begins_metadata_tidy d
    (record r {
      load = record r.load { phase = phases.Opened };
      metadata = new_client d.server (record { range = r.load.range; kind = kinds.Metadata }) r.load.generation lists.metadata d.pick;
      log = new_client d.server (record { range = r.load.range; kind = kinds.Log }) r.load.generation lists.log d.pick;
      rows = new_client d.server (record { range = r.load.range; kind = kinds.RowData }) r.load.generation lists.row_data d.pick;
      blob_data = lists.blob_data;
      said = first_metadata;
    })
    (last_extent lists.metadata.extents)

says_tidy : (d : ServerContext) (r : RangeState) (position : ℕ) (said : Option MetadataState) → IsTidy (says d r position said)
says_tidy d r position None = dropped_tidy d r
says_tidy d r position (Some said) = reads_metadata_tidy d (record r { said = said }) (suc position)

replays_tidy : (d : ServerContext) (r : RangeState) (position : ℕ) (x : Option (List Region × Entries)) → IsTidy (replays d r position x)
replays_tidy d r position None = dropped_tidy d r
replays_tidy d r position (Some x) = reads_log_tidy d (record r { regions = x.0; live = x.1 }) (suc position)

log_read_tidy : (d : ServerContext) (r : RangeState) (position e : ℕ) (groups : List Group) → IsTidy (log_read d r position e groups)
log_read_tidy d r position e groups =
    if_elim IsTidy (nat_lt (r.log.base + position) (2 ^ 64)) _ _
    (λ t. replays_tidy d r position (replayed r.said.keys e (record { index = r.log.base + position; offset = 0 }) (r.regions, r.live) groups))
    (λ f. dropped_tidy d r)

metadata_news_tidy : (d : ServerContext) (r : RangeState) (groups : List Group) (stage : Stage) (told : Option News) (packets : List Packet) → AllFromRanges packets → IsTidy (metadata_news d r groups stage told packets)
metadata_news_tidy d r groups stage (Some news.Fenced) packets h = dropped_tidy d r
metadata_news_tidy d r groups (Checking kind) (Some (news.Checked e l)) packets h = reads_metadata_tidy d r 0
metadata_news_tidy d r groups (Checking kind) (Some (news.Sealed e l)) packets h = reads_metadata_tidy d r 0
metadata_news_tidy d r groups (Reading kind position) (Some (news.Sealed e l)) packets h = reads_metadata_tidy d r position
metadata_news_tidy d r groups (Reading kind position) (Some (news.Content e upto)) packets h = says_tidy d r position (said_after r.said groups)
metadata_news_tidy d r groups stage told packets h = (h, tt)

log_news_tidy : (d : ServerContext) (r : RangeState) (groups : List Group) (stage : Stage) (told : Option News) (packets : List Packet) → AllFromRanges packets → IsTidy (log_news d r groups stage told packets)
log_news_tidy d r groups stage (Some news.Fenced) packets h = dropped_tidy d r
log_news_tidy d r groups (Checking kind) (Some (news.Checked e l)) packets h = reads_log_from_tidy d r (first_position r r.regions)
log_news_tidy d r groups (Checking kind) (Some (news.Sealed e l)) packets h = reads_log_from_tidy d r (first_position r r.regions)
log_news_tidy d r groups (Reading kind position) (Some (news.Sealed e l)) packets h = reads_log_tidy d r position
log_news_tidy d r groups (Reading kind position) (Some (news.Content e upto)) packets h = log_read_tidy d r position e groups
log_news_tidy d r groups stage told packets h = (h, tt)

-- ---- the loaded table

serves_from_shows : (d : ServerContext) (r : RangeState) (region : Option Region) → ShowsFrom (Some (shown_table r)) (serves_from d r region)
serves_from_shows d r None = tidy_shows (Some (shown_table r)) (dropped d r) (dropped_tidy d r)
serves_from_shows d r (Some region) =
    if_elim (ShowsFrom (Some (shown_table r))) (nat_lt 0 region.next) _ _
    (λ t. (tt, inr (record { range = r.load.range; generation = r.load.generation; table = shown_table r; next = region.next; is = refl; from = refl })))
    (λ f. tidy_shows (Some (shown_table r)) (dropped d r) (dropped_tidy d r))

serves_shows : (d : ServerContext) (r : RangeState) → ShowsFrom (Some (shown_table r)) (serves d r)
serves_shows d r =
    if_elim (ShowsFrom (Some (shown_table r))) (has_position r.log) _ _
    (λ t. serves_from_shows d r (open_region r.regions))
    (λ f. tidy_shows (Some (shown_table r)) (dropped d r) (dropped_tidy d r))

-- what a range shows with this answer, where it is confirmed
abbrev pub table_by : RangeState → StreamBody → Option ShownTable
table_by r (streams.Confirmed w) = Some (shown_table r)
table_by r body = None

abbrev pub table_with : RangeState → Body → Option ShownTable
table_with r (bodies.Stream body) = table_by r body
table_with r body = None

-- ---- checkpoints

rows_go_tidy : (d : ServerContext) (r : RangeState) (next : CheckpointState × Option Group) → IsTidy (rows_go d r next)
rows_go_tidy d r (job, None) = (tt, tt)
rows_go_tidy d r (job, Some group) =
    let o = append_rule (picking d r.rows) (request d) group in
    (listed (given (picking d r.rows) o).packet (given_calls (picking d r.rows) o (append_rule_calls (picking d r.rows) (request d) group)), tt)

writes_pages_tidy : (d : ServerContext) (r : RangeState) (job : CheckpointState) → IsTidy (writes_pages d r job)
writes_pages_tidy d r job = rows_go_tidy d r _

writes_combined_tidy : (d : ServerContext) (r : RangeState) (job : CheckpointState) (fixed : Option Entries) → IsTidy (writes_combined d r job fixed)
writes_combined_tidy d r job None = (tt, tt)
writes_combined_tidy d r job (Some newer) = writes_pages_tidy d r (combined_job job newer)

asks_page_tidy : (d : ServerContext) (r : RangeState) (place : Place) (places : Option Nodes) → IsTidy (asks_page d r place places)
asks_page_tidy d r place None = (tt, tt)
asks_page_tidy d r place (Some places) = (((d.server, refl, inl refl), tt), tt)

merges_next_tidy : (d : ServerContext) (r : RangeState) (job : CheckpointState) (place : Option Place) → IsTidy (merges_next d r job place)
merges_next_tidy d r job None = writes_combined_tidy d r job r.fixed
merges_next_tidy d r job (Some place) = asks_page_tidy d (record r { control = Some job }) place (places_of r place.extent)

merges_tidy : (d : ServerContext) (r : RangeState) (job : CheckpointState) → IsTidy (merges d r job)
merges_tidy d r job =
    let merge : MergeState = with_at_hand (held_at r.held) r.said.keys job.merge in
    merges_next_tidy d (record r { reading = None }) (record job { merge = merge }) (next_place merge)

pub begins_tidy : (d : ServerContext) (r : RangeState) (combine : Bool) → IsTidy (begins d r combine)
begins_tidy d r combine = if_elim IsTidy (combines combine r.indexes) _ _ (λ t. merges_tidy d (with_fixed r) (new_combining_job r)) (λ f. writes_pages_tidy d (with_fixed r) (new_job r))

pub checkpoint_tidy : (d : ServerContext) (r : RangeState) (combine : Bool) → IsTidy (checkpoint_rule d r combine)
checkpoint_tidy d r combine =
    if_elim IsTidy (have_bytes r.live r.position (number_to_apply r.out r.next)) _ _ (λ t. begins_tidy d r combine) (λ f. (tt, tt))

page_comes_tidy : (d : ServerContext) (r : RangeState) (job : CheckpointState) (place : Option Place) (entries : Entries) → IsTidy (page_comes d r job place entries)
page_comes_tidy d r job None entries = (tt, tt)
page_comes_tidy d r job (Some place) entries = merges_tidy d r (record job { merge = with_page r.said.keys job.merge entries })

page_read_tidy : (d : ServerContext) (r : RangeState) (job : Option CheckpointState) (entries : Option Entries) → IsTidy (page_read d r job entries)
page_read_tidy d r None entries = (tt, tt)
page_read_tidy d r (Some job) None = (tt, tt)
page_read_tidy d r (Some job) (Some entries) = page_comes_tidy d r job (next_place job.merge) entries

page_bytes_tidy : (d : ServerContext) (r : RangeState) (reading : Option PlaceRead) (place : Place) (bytes : List ℕ) → IsTidy (page_bytes d r reading place bytes)
page_bytes_tidy d r None place bytes = (tt, tt)
page_bytes_tidy d r (Some read) place bytes = if_elim IsTidy (is_place read.place place) _ _ (λ t. page_read_tidy d r r.control (entries_at bytes)) (λ f. (tt, tt))

page_told_tidy : (d : ServerContext) (r : RangeState) (body : ReadBody) → IsTidy (page_told d r body)
page_told_tidy d r (reads.Bytes w e offset bytes) = page_bytes_tidy d r r.reading (place_of e offset bytes) bytes
page_told_tidy d r body = (tt, tt)

records_tidy : (d : ServerContext) (r : RangeState) (job : CheckpointState) (index : Place) → IsTidy (records d r job index)
records_tidy d r job index =
    let c : ClientState = picking d r.metadata in
    let o = append_rule c (request d) (metadata_spelling (checkpoint_record r job index) ∷ []) in
    (listed (given c o).packet (given_calls c o (append_rule_calls c (request d) (metadata_spelling (checkpoint_record r job index) ∷ []))), tt)

index_stands_tidy : (d : ServerContext) (r : RangeState) (job : CheckpointState) (e offset : ℕ) → IsTidy (index_stands d r job e offset)
index_stands_tidy d r job e offset =
    if_elim IsTidy (may_record r job) _ _ (λ t. records_tidy d r job (index_place job e offset)) (λ f. (tt, tt))

rows_stand_tidy : (d : ServerContext) (r : RangeState) (job : CheckpointState) (phase : CheckpointPhase) (e offset : ℕ) → IsTidy (rows_stand d r job phase e offset)
rows_stand_tidy d r job checkpoints.Pages e offset = writes_pages_tidy d r (pages_stand job e offset)
rows_stand_tidy d r job checkpoints.Index e offset = index_stands_tidy d r job e offset
rows_stand_tidy d r job phase e offset = (tt, tt)

rows_told_tidy : (d : ServerContext) (r : RangeState) (job : Option CheckpointState) (told : Option News) (packets : List Packet) → AllFromRanges packets → IsTidy (rows_told d r job told packets)
rows_told_tidy d r job (Some news.Fenced) packets h = dropped_tidy d r
rows_told_tidy d r (Some job) (Some (news.Appended e offset)) packets h = if_elim IsTidy (nat_lt e (2 ^ 64)) _ _ (λ t. rows_stand_tidy d r job job.phase e offset) (λ f. (tt, tt))
rows_told_tidy d r job told packets h = (h, tt)

rows_reply_tidy : (d : ServerContext) (r : RangeState) (body : Body) → IsTidy (rows_reply d r body)
rows_reply_tidy d r body =
    let o : Outcome = reply_rule (picking d r.rows) (request d) body in
    if_elim IsTidy (rows_may_stand r.control body) _ _
    (λ t. rows_told_tidy d (record r { rows = o.after }) r.control o.news (option_to_list o.packet) (listed o.packet (reply_calls (picking d r.rows) (request d) body)))
    (λ f. (tt, tt))

-- a Trim is what a server may ask of the manager
record_stands_tidy : (d : ServerContext) (r : RangeState) (job : CheckpointState) (phase : CheckpointPhase) → IsTidy (record_stands d r job phase)
record_stands_tidy d r job (checkpoints.Record index) = if_elim IsTidy (has_record_number r) _ _ (λ t. (((d.server, refl, inl refl), tt), tt)) (λ f. (tt, tt))
record_stands_tidy d r job phase = (tt, tt)

record_told_tidy : (d : ServerContext) (r : RangeState) (job : Option CheckpointState) (told : Option News) (packets : List Packet) → AllFromRanges packets → IsTidy (record_told d r job told packets)
record_told_tidy d r job (Some news.Fenced) packets h = dropped_tidy d r
record_told_tidy d r (Some job) (Some (news.Appended e offset)) packets h = record_stands_tidy d r job job.phase
record_told_tidy d r job told packets h = (h, tt)

trim_told_tidy : (d : ServerContext) (r : RangeState) (phase : CheckpointPhase) (body : StreamBody) → IsTidy (trim_told d r phase body)
trim_told_tidy d r (checkpoints.Trim before to_blob q) (streams.Trimmed w) = (tt, tt)
trim_told_tidy d r phase body = (tt, tt)

trim_reply_in_tidy : (d : ServerContext) (r : RangeState) (job : Option CheckpointState) (body : StreamBody) → IsTidy (trim_reply_in d r job body)
trim_reply_in_tidy d r None body = (tt, tt)
trim_reply_in_tidy d r (Some job) body = trim_told_tidy d r job.phase body

phase_again_all : (d : ServerContext) (r : RangeState) (phase : CheckpointPhase) → AllFromRanges (phase_again d r phase)
phase_again_all d r (checkpoints.Trim before to_blob q) = ((d.server, refl, inl refl), tt)
phase_again_all d r phase = tt

trim_again_all : (d : ServerContext) (r : RangeState) (job : Option CheckpointState) → AllFromRanges (trim_again d r job)
trim_again_all d r None = tt
trim_again_all d r (Some job) = phase_again_all d r job.phase

-- ---- answers

load_refused_tidy : (d : ServerContext) (r : RangeState) (body : AppendBody) → IsTidy (load_refused d r body)
load_refused_tidy d r (appends.Refused w refusals.Stale) = dropped_tidy d r
load_refused_tidy d r body = (tt, tt)

load_told_shows : (d : ServerContext) (r : RangeState) (phase : LoadPhase) (body : StreamBody) → ShowsFrom (table_by r body) (load_told d r phase body)
load_told_shows d r (phases.Opening q) (streams.Opened w lists) = tidy_shows None (opens d r lists) (opens_tidy d r lists)
load_told_shows d r (phases.Confirming q) (streams.Confirmed w) = serves_shows d r
load_told_shows d r phase body = (tt, inl tt)

-- what a range shows where a confirmation is waited for
abbrev pub table_awaited : RangeState → LoadPhase → Option ShownTable
table_awaited r (phases.Confirming q) = Some (shown_table r)
table_awaited r phase = None

load_told_loads : (d : ServerContext) (r : RangeState) (phase : LoadPhase) (body : StreamBody) → ShowsFrom (table_awaited r phase) (load_told d r phase body)
load_told_loads d r (phases.Opening q) (streams.Opened w lists) = tidy_shows None (opens d r lists) (opens_tidy d r lists)
load_told_loads d r (phases.Confirming q) (streams.Confirmed w) = serves_shows d r
load_told_loads d r phase body = (tt, inl tt)

load_reply_loads : (d : ServerContext) (r : RangeState) (body : Body) → ShowsFrom (table_awaited r r.load.phase) (load_reply d r body)
load_reply_loads d r (bodies.Append body) = tidy_shows (table_awaited r r.load.phase) (load_refused d r body) (load_refused_tidy d r body)
load_reply_loads d r (bodies.Stream body) = load_told_loads d r r.load.phase body
load_reply_loads d r body = (tt, inl tt)

load_reply_shows : (d : ServerContext) (r : RangeState) (body : Body) → ShowsFrom (table_with r body) (load_reply d r body)
load_reply_shows d r (bodies.Append body) = tidy_shows None (load_refused d r body) (load_refused_tidy d r body)
load_reply_shows d r (bodies.Stream body) = load_told_shows d r r.load.phase body
load_reply_shows d r body = (tt, inl tt)

metadata_reply_tidy : (d : ServerContext) (r : RangeState) (body : Body) → IsTidy (metadata_reply d r body)
metadata_reply_tidy d r body =
    let o : Outcome = reply_rule (picking d r.metadata) (request d) body in
    let now : RangeState = record r { metadata = o.after } in
    let all : AllFromRanges (option_to_list o.packet) = listed o.packet (reply_calls (picking d r.metadata) (request d) body) in
    if_elim IsTidy (is_serving r.stage) _ _
    (λ t. record_told_tidy d now r.control o.news (option_to_list o.packet) all)
    (λ f. metadata_news_tidy d now (groups_of body) r.stage o.news (option_to_list o.packet) all)

serving_news_tidy : (d : ServerContext) (r : RangeState) (told : Option News) (packets : List Packet) → AllFromRanges packets → IsTidy (serving_news d r told packets)
serving_news_tidy d r (Some news.Fenced) packets h = dropped_tidy d r
serving_news_tidy d r (Some (news.Appended e offset)) packets h = log_done_tidy d r r.out e offset
serving_news_tidy d r told packets h = (h, tt)

log_taken_tidy : (d : ServerContext) (r : RangeState) (body : Body) → IsTidy (log_taken d r body)
log_taken_tidy d r body =
    let o : Outcome = reply_rule (picking d r.log) (request d) body in
    let now : RangeState = record r { log = o.after } in
    let all : AllFromRanges (option_to_list o.packet) = listed o.packet (reply_calls (picking d r.log) (request d) body) in
    if_elim IsTidy (is_serving r.stage) _ _
    (λ t. serving_news_tidy d now o.news (option_to_list o.packet) all)
    (λ f. log_news_tidy d now (groups_of body) r.stage o.news (option_to_list o.packet) all)

log_reply_tidy : (d : ServerContext) (r : RangeState) (body : Body) → IsTidy (log_reply d r body)
log_reply_tidy d r body = if_elim IsTidy (is_taken r body) _ _ (λ t. log_taken_tidy d r body) (λ f. (tt, tt))

installs_tidy : (d : ServerContext) (r : RangeState) (position : ℕ) (named : Option IndexRange) (index : Option Index) → IsTidy (installs d r position named index)
installs_tidy d r position (Some named) (Some index) =
    reads_index_tidy d (record r { indexes = record { place = named.place; keys = named.keys; index = index } ∷ r.indexes }) (suc position)
installs_tidy d r position named index = dropped_tidy d r

index_read_tidy : (d : ServerContext) (r : RangeState) (stage : Stage) (bytes : List ℕ) → IsTidy (index_read d r stage bytes)
index_read_tidy d r (Indexing position) bytes = installs_tidy d r position (index_named r.said.indexes position) (index_at bytes)
index_read_tidy d r stage bytes = (tt, tt)

index_bytes_tidy : (d : ServerContext) (r : RangeState) (reading : Option PlaceRead) (place : Place) (bytes : List ℕ) → IsTidy (index_bytes d r reading place bytes)
index_bytes_tidy d r None place bytes = (tt, tt)
index_bytes_tidy d r (Some read) place bytes = if_elim IsTidy (is_place read.place place) _ _ (λ t. index_read_tidy d r r.stage bytes) (λ f. (tt, tt))

index_told_tidy : (d : ServerContext) (r : RangeState) (body : ReadBody) → IsTidy (index_told d r body)
index_told_tidy d r (reads.Bytes w e offset bytes) = index_bytes_tidy d r r.reading (place_of e offset bytes) bytes
index_told_tidy d r body = (tt, tt)

index_reply_tidy : (d : ServerContext) (r : RangeState) (body : Body) → IsTidy (index_reply d r body)
index_reply_tidy d r (bodies.Read body) = index_told_tidy d r body
index_reply_tidy d r (bodies.Append body) = load_refused_tidy d r body
index_reply_tidy d r body = (tt, tt)

page_reply_tidy : (d : ServerContext) (r : RangeState) (body : Body) → IsTidy (page_reply d r body)
page_reply_tidy d r (bodies.Read body) = page_told_tidy d r body
page_reply_tidy d r (bodies.Append body) = load_refused_tidy d r body
page_reply_tidy d r body = (tt, tt)

trim_reply_tidy : (d : ServerContext) (r : RangeState) (body : Body) → IsTidy (trim_reply d r body)
trim_reply_tidy d r (bodies.Stream body) = trim_reply_in_tidy d r r.control body
trim_reply_tidy d r (bodies.Append body) = load_refused_tidy d r body
trim_reply_tidy d r body = (tt, tt)

bytes_reply_tidy : (d : ServerContext) (r : RangeState) (w : ReqNo) (body : ReadBody) → IsTidy (bytes_reply d r w body)
bytes_reply_tidy d r w (reads.Bytes v e offset bytes) = bytes_tidy d r w (place_of e offset bytes) bytes
bytes_reply_tidy d r w body = (tt, tt)

gets_reply_tidy : (d : ServerContext) (r : RangeState) (w : ReqNo) (body : Body) → IsTidy (gets_reply d r w body)
gets_reply_tidy d r w (bodies.Read body) = bytes_reply_tidy d r w body
gets_reply_tidy d r w (bodies.Append body) = load_refused_tidy d r body
gets_reply_tidy d r w body = (tt, tt)

-- no answer but to the load shows a loaded table
answer_by : (loading : Option ShownTable) (d : ServerContext) (r : RangeState) (w : ReqNo) (body : Body) → ShowsFrom loading (load_reply d r body) → ShowsFrom loading (answer_rule d r w body)
answer_by loading d r w body loads =
    if_elim (ShowsFrom loading) (load_awaits r.load.phase w) _ _
    (λ t. loads)
    (λ f. if_elim (ShowsFrom loading) (awaits r.metadata.job w) _ _
    (λ t. tidy_shows loading (metadata_reply d r body) (metadata_reply_tidy d r body))
    (λ g. if_elim (ShowsFrom loading) (awaits r.log.job w) _ _
    (λ t. tidy_shows loading (log_reply d r body) (log_reply_tidy d r body))
    (λ h. if_elim (ShowsFrom loading) (awaits r.rows.job w) _ _
    (λ t. tidy_shows loading (rows_reply d r body) (rows_reply_tidy d r body))
    (λ i. if_elim (ShowsFrom loading) (reads_under r.reading w) _ _
    (λ t. if_elim (ShowsFrom loading) (reads_page r.reading) _ _ (λ p. tidy_shows loading (page_reply d r body) (page_reply_tidy d r body)) (λ p. tidy_shows loading (index_reply d r body) (index_reply_tidy d r body)))
    (λ j. if_elim (ShowsFrom loading) (trim_awaits r.control w) _ _
    (λ t. tidy_shows loading (trim_reply d r body) (trim_reply_tidy d r body))
    (λ k. tidy_shows loading (gets_reply d r w body) (gets_reply_tidy d r w body)))))))

pub answer_shows : (d : ServerContext) (r : RangeState) (w : ReqNo) (body : Body) → ShowsFrom (table_with r body) (answer_rule d r w body)
answer_shows d r w body = answer_by (table_with r body) d r w body (load_reply_shows d r body)

pub answer_loads : (d : ServerContext) (r : RangeState) (w : ReqNo) (body : Body) → ShowsFrom (table_awaited r r.load.phase) (answer_rule d r w body)
answer_loads d r w body = answer_by (table_awaited r r.load.phase) d r w body (load_reply_loads d r body)

-- ---- giving up

asks_again_all : (d : ServerContext) (read : PlaceRead) (places : Option Nodes) → AllFromRanges (asks_again d read places)
asks_again_all d read None = tt
asks_again_all d read (Some places) = ((d.server, refl, inl refl), tt)

gives_up_read_all : (d : ServerContext) (r : RangeState) (g : WaitingGet) (read : Option PlaceRead) → AllFromRanges (gives_up_read d r g read).1
gives_up_read_all d r g None = tt
gives_up_read_all d r g (Some read) = asks_again_all d (moved_on read) (places_of r read.place.extent)

gives_up_reading_all : (d : ServerContext) (r : RangeState) (reading : Option PlaceRead) → AllFromRanges (gives_up_reading d r reading)
gives_up_reading_all d r None = tt
gives_up_reading_all d r (Some read) = asks_again_all d (moved_on read) (places_of r read.place.extent)

pub give_up_tidy : (d : ServerContext) (r : RangeState) → IsTidy (give_up_all d r)
give_up_tidy d r =
    let l : Outcome = gives_up_job d r.log in
    let m : Outcome = gives_up_job (used d) r.metadata in
    let w : Outcome = gives_up_job (used (used d)) r.rows in (
      all_both (option_to_list (again r.load r.load.phase)) _ (listed (again r.load r.load.phase) (again_calls r.load r.load.phase))
          (all_both (option_to_list l.packet) _ (listed l.packet (give_up_calls (picking d r.log) (request d) d.pick))
          (all_both (option_to_list m.packet) _ (listed m.packet (give_up_calls (picking d r.metadata) (request (used d)) d.pick))
          (all_both (option_to_list w.packet) _ (listed w.packet (give_up_calls (picking d r.rows) (request (used (used d))) d.pick))
          (all_both (gives_up_reading d r r.reading) _ (gives_up_reading_all d r r.reading)
          (all_both (trim_again d r r.control) _ (trim_again_all d r r.control)
          (all_flat (λ (g : WaitingGet). (gives_up_get d r g).1) (λ g. gives_up_read_all d r g (slice_get g.reads (length g.reads - 1))) r.gets)))))),
      tt,
    )

pub control_tidy : (d : ServerContext) (r : RangeState) → AllFromRanges (give_up_control d r).packets
control_tidy d r =
    let m : Outcome = gives_up_job (used d) r.metadata in
    let w : Outcome = gives_up_job (used (used d)) r.rows in
    all_both (option_to_list m.packet) _ (listed m.packet (give_up_calls (picking d r.metadata) (request (used d)) d.pick))
    (all_both (option_to_list w.packet) _ (listed w.packet (give_up_calls (picking d r.rows) (request (used (used d))) d.pick))
    (all_both (gives_up_reading d r r.reading) _ (gives_up_reading_all d r r.reading) (trim_again_all d r r.control)))
