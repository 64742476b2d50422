-- What the rules of a range leave of its stage: a load lasts until it is confirmed. And nothing waits at a range that is taken.
use Rattle.std.proofs.Common.{◌≡◌, ◌⊎◌, ⊎_elim, ℕ, suc, ◌+◌, ◌^◌, ◌&&◌, List, [], ◌∷◌, length, true, false, nat_lt, Option, Some, None, is_some, option_to_list, refl, ap, ◌∙◌, inl, inr, arith}
use Rattle.wire.specs.declared.actor.ReqNo.{ReqNo}
use Rattle.wire.specs.declared.body.AppendBody.{AppendBody}
use Rattle.wire.specs.declared.body.AppendBody.TheVariants as appends
use Rattle.wire.specs.declared.body.Body.{Body}
use Rattle.wire.specs.declared.body.Body.TheVariants as bodies
use Rattle.wire.specs.declared.body.ReadBody.{ReadBody}
use Rattle.wire.specs.declared.body.ReadBody.TheVariants as reads
use Rattle.wire.specs.declared.body.StreamBody.{StreamBody}
use Rattle.wire.specs.declared.body.StreamBody.TheVariants as streams
use Rattle.wire.specs.declared.packet.Packet.{Packet}
use Rattle.wire.specs.declared.refusal.Refusal.TheVariants as refusals
use Rattle.wire.specs.declared.streams.StreamExtent.{StreamExtent}
use Rattle.wire.specs.declared.streams.StreamKind.TheVariants as kinds
use Rattle.wire.specs.declared.streams.StreamLists.{StreamLists}
use Rattle.client.specs.declared.job.News.{News}
use Rattle.client.specs.declared.job.News.TheVariants as news
use Rattle.client.specs.declared.load.LoadPhase.{LoadPhase}
use Rattle.client.specs.declared.load.LoadPhase.TheVariants as phases
use Rattle.client.specs.Client.{Outcome, new_client, last_extent, awaits, reply_rule}
use Rattle.client.specs.Load.{load_awaits}
use Rattle.block_types.specs.declared.record.Nodes.{Nodes}
use Rattle.checkpoint_format.specs.declared.index.Index.{Index}
use Rattle.checkpoint_format.specs.Index.{index_at}
use Rattle.memtable.specs.declared.cell.Place.{Place}
use Rattle.memtable.specs.Entries.{Entries}
use Rattle.metadata.specs.declared.record.IndexRange.{IndexRange}
use Rattle.metadata.specs.declared.record.Region.{Region}
use Rattle.metadata.specs.Fold.{MetadataState, first_metadata}
use Rattle.model_streams.proofs.Tests.{if_elim}
use Rattle.model_partition.specs.declared.server_context.ServerContext.{ServerContext}
use Rattle.model_partition.specs.declared.stage.Stage.{Stage}
use Rattle.model_partition.specs.declared.stage.Stage.TheVariants as stages
use Rattle.model_partition.specs.Range.{RangeState, RangeOutcome, request, goes, dropped, picking, is_serving}
use Rattle.model_partition.specs.declared.waiting.PlaceRead.{PlaceRead}
use Rattle.model_partition.specs.PlaceReads.{is_place, place_of, places_of, reads_under, reads_page}
use Rattle.model_partition.specs.Getting.{are_no_page, read_at}
use Rattle.model_partition.specs.Loading.{Group, said_after, replayed, asks_index, index_named, reads_named, reads_index, installs, index_read, index_bytes, reads_log, first_position, reads_log_from, checks_log, begins_log, reads_metadata, begins_metadata, opens, says, metadata_news, replays, log_read, log_news, open_region}
use Rattle.model_partition.specs.Answering.{load_refused, load_told, load_reply, metadata_reply, is_taken, log_reply, index_told, index_reply, bytes_reply, gets_reply, answer_rule, give_up_all, groups_of}
use Rattle.model_partition.specs.Server.{new_range}
use Rattle.laws_loads.specs.Sound.{IsSound}
use Rattle.model_partition.specs.Checkpoints.{trim_awaits}
use Rattle.laws_loads.proofs.CheckpointAnswers.{rows_reply_same, record_news_same, page_reply_same, trim_reply_same}
use Rattle.laws_loads.specs.StaysLoading.{StaysIf, Stays, IsAsBeforeIf, LeavesAsBefore, IsUnserved, IsConfirmation}

-- ---- the load

dropped_stays : (d : ServerContext) (r : RangeState) → Stays r (dropped d r)
dropped_stays d r = tt

asks_index_stays : (d : ServerContext) (r : RangeState) (position : ℕ) (index : IndexRange) (places : Option Nodes) → Stays r (asks_index d r position index places)
asks_index_stays d r position index None = dropped_stays d r
asks_index_stays d r position index (Some places) = inl refl

reads_named_stays : (d : ServerContext) (r : RangeState) (position : ℕ) (named : Option IndexRange) → Stays r (reads_named d r position named)
reads_named_stays d r position None = inl refl
reads_named_stays d r position (Some index) = asks_index_stays d r position index (places_of r index.place.extent)

reads_index_stays : (d : ServerContext) (r : RangeState) (position : ℕ) → Stays r (reads_index d r position)
reads_index_stays d r position = reads_named_stays d r position (index_named r.said.indexes position)

reads_log_stays : (d : ServerContext) (r : RangeState) (position : ℕ) → Stays r (reads_log d r position)
reads_log_stays d r position =
    if_elim (Stays r) (nat_lt position (length r.log.extents)) _ _ (λ t. inl refl) (λ f. reads_index_stays d r 0)

reads_log_from_stays : (d : ServerContext) (r : RangeState) (position : Option ℕ) → Stays r (reads_log_from d r position)
reads_log_from_stays d r None = dropped_stays d r
reads_log_from_stays d r (Some position) = reads_log_stays d r position

checks_log_stays : (d : ServerContext) (r : RangeState) (x : Option StreamExtent) → Stays r (checks_log d r x)
checks_log_stays d r None = reads_log_from_stays d r (first_position r r.regions)
checks_log_stays d r (Some x) =
    if_elim (Stays r) (is_some x.length) _ _ (λ t. reads_log_from_stays d r (first_position r r.regions)) (λ f. inl refl)

begins_log_stays : (d : ServerContext) (r : RangeState) → Stays r (begins_log d r)
begins_log_stays d r =
    if_elim (Stays r) (is_some (open_region r.said.regions) && is_some (first_position r r.said.regions)) _ _
    (λ t. checks_log_stays d (record r { regions = r.said.regions }) (last_extent r.log.extents)) (λ f. dropped_stays d r)

reads_metadata_stays : (d : ServerContext) (r : RangeState) (position : ℕ) → Stays r (reads_metadata d r position)
reads_metadata_stays d r position =
    if_elim (Stays r) (nat_lt position (length r.metadata.extents)) _ _ (λ t. inl refl) (λ f. begins_log_stays d r)

begins_metadata_stays : (d : ServerContext) (r : RangeState) (x : Option StreamExtent) → Stays r (begins_metadata d r x)
begins_metadata_stays d r None = begins_log_stays d r
begins_metadata_stays d r (Some x) =
    if_elim (Stays r) (is_some x.length) _ _ (λ t. reads_metadata_stays d r 0) (λ f. inl refl)

pub opens_stays : (d : ServerContext) (r : RangeState) (lists : StreamLists) → Stays r (opens d r lists)
opens_stays d r lists =
    begins_metadata_stays d
    (record r {
      load = record r.load { phase = phases.Opened };
      metadata = new_client d.server (record { range = r.load.range; kind = kinds.Metadata }) r.load.generation lists.metadata d.pick;
      log = new_client d.server (record { range = r.load.range; kind = kinds.Log }) r.load.generation lists.log d.pick;
      rows = new_client d.server (record { range = r.load.range; kind = kinds.RowData }) r.load.generation lists.row_data d.pick;
      blob_data = lists.blob_data;
      said = first_metadata;
    })
    (last_extent lists.metadata.extents)

says_stays : (d : ServerContext) (r : RangeState) (position : ℕ) (said : Option MetadataState) → Stays r (says d r position said)
says_stays d r position None = dropped_stays d r
says_stays d r position (Some said) = reads_metadata_stays d (record r { said = said }) (suc position)

replays_stays : (d : ServerContext) (r : RangeState) (position : ℕ) (x : Option (List Region × Entries)) → Stays r (replays d r position x)
replays_stays d r position None = dropped_stays d r
replays_stays d r position (Some x) = reads_log_stays d (record r { regions = x.0; live = x.1 }) (suc position)

log_read_stays : (d : ServerContext) (r : RangeState) (position e : ℕ) (groups : List Group) → Stays r (log_read d r position e groups)
log_read_stays d r position e groups =
    if_elim (Stays r) (nat_lt (r.log.base + position) (2 ^ 64)) _ _
    (λ t. replays_stays d r position (replayed r.said.keys e (record { index = r.log.base + position; offset = 0 }) (r.regions, r.live) groups))
    (λ f. dropped_stays d r)

calm_stays : (d : ServerContext) (r : RangeState) (packets : List Packet) → Stays r (goes d r packets [])
calm_stays d r packets = inr refl

metadata_news_stays : (d : ServerContext) (r : RangeState) (groups : List Group) (stage : Stage) (told : Option News) (packets : List Packet) → Stays r (metadata_news d r groups stage told packets)
metadata_news_stays d r groups stage (Some news.Fenced) packets = dropped_stays d r
metadata_news_stays d r groups (stages.Checking kind) (Some (news.Checked e l)) packets = reads_metadata_stays d r 0
metadata_news_stays d r groups (stages.Checking kind) (Some (news.Sealed e l)) packets = reads_metadata_stays d r 0
metadata_news_stays d r groups (stages.Reading kind position) (Some (news.Sealed e l)) packets = reads_metadata_stays d r position
metadata_news_stays d r groups (stages.Reading kind position) (Some (news.Content e upto)) packets = says_stays d r position (said_after r.said groups)
metadata_news_stays d r groups stage told packets = calm_stays d r packets

log_news_stays : (d : ServerContext) (r : RangeState) (groups : List Group) (stage : Stage) (told : Option News) (packets : List Packet) → Stays r (log_news d r groups stage told packets)
log_news_stays d r groups stage (Some news.Fenced) packets = dropped_stays d r
log_news_stays d r groups (stages.Checking kind) (Some (news.Checked e l)) packets = reads_log_from_stays d r (first_position r r.regions)
log_news_stays d r groups (stages.Checking kind) (Some (news.Sealed e l)) packets = reads_log_from_stays d r (first_position r r.regions)
log_news_stays d r groups (stages.Reading kind position) (Some (news.Sealed e l)) packets = reads_log_stays d r position
log_news_stays d r groups (stages.Reading kind position) (Some (news.Content e upto)) packets = log_read_stays d r position e groups
log_news_stays d r groups stage told packets = calm_stays d r packets

-- ---- answers

-- what leaves the range as it was leaves its stage
before_stays : (r : RangeState) (o : Option RangeState) → IsAsBeforeIf r o → StaysIf r.stage o
before_stays r None b = tt
before_stays r (Some s) b = inr b.stage

same_stays : (r : RangeState) (o : RangeOutcome) → LeavesAsBefore r o → Stays r o
same_stays r o s = before_stays r o.after s.after

-- an answer to the metadata
pub metadata_reply_stays : (d : ServerContext) (r : RangeState) (body : Body) → Stays r (metadata_reply d r body)
metadata_reply_stays d r body =
    let o : Outcome = reply_rule (picking d r.metadata) (request d) body in
    if_elim (Stays r) (is_serving r.stage) _ _
    (λ t. same_stays r _ (record_news_same d r o.after o.news (option_to_list o.packet)))
    (λ f. metadata_news_stays d (record r { metadata = o.after }) (groups_of body) r.stage o.news (option_to_list o.packet))

-- an answer to the log of a range that is not served
pub log_reply_stays : (d : ServerContext) (r : RangeState) (body : Body) → is_serving r.stage ≡ false → Stays r (log_reply d r body)
log_reply_stays d r body unserved =
    if_elim (Stays r) (is_taken r body) _ _
    (λ t. if_elim (Stays r) (is_serving r.stage) _ _ (λ s. absurd (cc (unserved, s))) (λ f. log_news_stays d (record r { log = o.after }) (groups_of body) r.stage o.news (option_to_list o.packet)))
    (λ f. inr refl)
  where
    o : Outcome
    o = reply_rule (picking d r.log) (request d) body

load_refused_stays : (d : ServerContext) (r : RangeState) (body : AppendBody) → Stays r (load_refused d r body)
load_refused_stays d r (appends.Refused w refusals.Stale) = dropped_stays d r
load_refused_stays d r body = inr refl

-- an answer of the load leaves it loading, or confirms it
load_told_stays : (d : ServerContext) (r : RangeState) (v : ReqNo) (phase : LoadPhase) (body : StreamBody) → r.load.phase ≡ phase → load_awaits phase v ≡ true →
    Stays r (load_told d r phase body) ⊎ IsConfirmation d r v (bodies.Stream body) (load_told d r phase body)
load_told_stays d r v (phases.Opening q) (streams.Opened w lists) e t = inl (opens_stays d r lists)
load_told_stays d r v (phases.Confirming q) (streams.Confirmed w) e t = inr (record { q = q; told = w; phase = e; awaited = t; body_is = refl; outcome = refl })
load_told_stays d r v phase body e t = inl (inr refl)

load_reply_stays : (d : ServerContext) (r : RangeState) (v : ReqNo) (body : Body) → load_awaits r.load.phase v ≡ true → Stays r (load_reply d r body) ⊎ IsConfirmation d r v body (load_reply d r body)
load_reply_stays d r v (bodies.Append body) t = inl (load_refused_stays d r body)
load_reply_stays d r v (bodies.Stream body) t = load_told_stays d r v r.load.phase body refl t
load_reply_stays d r v body t = inl (inr refl)

-- ---- indexes

installs_stays : (d : ServerContext) (r : RangeState) (position : ℕ) (named : Option IndexRange) (index : Option Index) → Stays r (installs d r position named index)
installs_stays d r position (Some named) (Some index) =
    reads_index_stays d (record r { indexes = record { place = named.place; keys = named.keys; index = index } ∷ r.indexes }) (suc position)
installs_stays d r position named index = dropped_stays d r

index_read_stays : (d : ServerContext) (r : RangeState) (stage : Stage) (bytes : List ℕ) → Stays r (index_read d r stage bytes)
index_read_stays d r (stages.Indexing position) bytes = installs_stays d r position (index_named r.said.indexes position) (index_at bytes)
index_read_stays d r stage bytes = inr refl

index_bytes_stays : (d : ServerContext) (r : RangeState) (reading : Option PlaceRead) (place : Place) (bytes : List ℕ) → Stays r (index_bytes d r reading place bytes)
index_bytes_stays d r None place bytes = inr refl
index_bytes_stays d r (Some read) place bytes =
    if_elim (Stays r) (is_place read.place place) _ _ (λ t. index_read_stays d r r.stage bytes) (λ f. inr refl)

index_told_stays : (d : ServerContext) (r : RangeState) (body : ReadBody) → Stays r (index_told d r body)
index_told_stays d r (reads.Bytes w e offset bytes) = index_bytes_stays d r r.reading (place_of e offset bytes) bytes
index_told_stays d r body = inr refl

-- an answer to the read of an index
pub index_reply_stays : (d : ServerContext) (r : RangeState) (body : Body) → Stays r (index_reply d r body)
index_reply_stays d r (bodies.Read body) = index_told_stays d r body
index_reply_stays d r (bodies.Append body) = load_refused_stays d r body
index_reply_stays d r body = inr refl

-- ---- Gets

bytes_stays : (d : ServerContext) (r : RangeState) (w : ReqNo) (body : ReadBody) → Stays r (bytes_reply d r w body)
bytes_stays d r w (reads.Bytes v e offset bytes) = if_elim (Stays r) (are_no_page (read_at r.gets w) bytes) _ _ (λ t. inr refl) (λ f. inr refl)
bytes_stays d r w body = inr refl

pub gets_reply_stays : (d : ServerContext) (r : RangeState) (w : ReqNo) (body : Body) → Stays r (gets_reply d r w body)
gets_reply_stays d r w (bodies.Read body) = bytes_stays d r w body
gets_reply_stays d r w (bodies.Append body) = load_refused_stays d r body
gets_reply_stays d r w body = inr refl

-- ---- all rules

-- told to give up
pub give_up_stays : (d : ServerContext) (r : RangeState) → Stays r (give_up_all d r)
give_up_stays d r = inr refl

-- an answer to a range that is not served leaves it so, or confirms its generation
pub answer_stays : (d : ServerContext) (r : RangeState) (v : ReqNo) (body : Body) → is_serving r.stage ≡ false →
    Stays r (answer_rule d r v body) ⊎ IsConfirmation d r v body (answer_rule d r v body)
answer_stays d r v body unserved =
    if_elim (λ o. Stays r o ⊎ IsConfirmation d r v body o) (load_awaits r.load.phase v) _ _ (λ t. load_reply_stays d r v body t)
    (λ f. inl (if_elim (Stays r) (awaits r.metadata.job v) _ _ (λ t. metadata_reply_stays d r body)
    (λ f. if_elim (Stays r) (awaits r.log.job v) _ _ (λ t. log_reply_stays d r body unserved)
    (λ f. if_elim (Stays r) (awaits r.rows.job v) _ _ (λ t. same_stays r _ (rows_reply_same d r body))
    (λ f. if_elim (Stays r) (reads_under r.reading v) _ _
    (λ t. if_elim (Stays r) (reads_page r.reading) _ _ (λ p. same_stays r _ (page_reply_same d r body)) (λ p. index_reply_stays d r body))
    (λ f. if_elim (Stays r) (trim_awaits r.control v) _ _ (λ t. same_stays r _ (trim_reply_same d r body)) (λ f. gets_reply_stays d r v body)))))))

-- ---- what is not served stays so

unserved_if : (stage : Stage) (o : Option RangeState) → is_serving stage ≡ false → StaysIf stage o → IsUnserved o
unserved_if stage None e s = tt
unserved_if stage (Some r) e s = ⊎_elim {C = is_serving r.stage ≡ false} (λ z. z) (λ z. ap is_serving z ∙ e) s

pub stays_unserved : (r : RangeState) (o : RangeOutcome) → is_serving r.stage ≡ false → Stays r o → IsUnserved o.after
stays_unserved r o e s = unserved_if r.stage o.after e s

-- ---- what waits is sound

-- a range that is taken
pub new_sound : (d : ServerContext) (range generation until : ℕ) → IsSound (new_range d range generation until)
new_sound d range generation until = record { queue_fits = tt; out_fits = tt; counted = omega arith; numbered = omega arith }
