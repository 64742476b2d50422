-- Each rule of a range leaves what it knows of its blob stream closed: a Trim moves extents of the log there that are sealed, and all others
-- leave it.
use Rattle.std.proofs.Common.{◌≡◌, ◌⊎◌, ⊎_elim, ℕ, zero, suc, ◌+◌, ◌-◌, ◌^◌, ◌<◌, ◌≤◌, flat_map, Bool, true, false, List, [], ◌∷◌, ◌++◌, length, take, Contains, slice_get, not, ◌&&◌, nat_lt, Option, Some, None, is_some, option_to_list, refl, ap, ◌∙◌, arith, if◌then◌else◌}
use Rattle.std.proofs.lemmas.List.Elements.{Contains-append_cases}
use Rattle.block_types.specs.declared.record.Nodes.{Nodes}
use Rattle.wire.specs.declared.actor.ActorId.{ActorId}
use Rattle.wire.specs.declared.actor.ReqNo.{ReqNo}
use Rattle.wire.specs.declared.body.AppendBody.{AppendBody}
use Rattle.wire.specs.declared.body.AppendBody.TheVariants as appends
use Rattle.wire.specs.declared.body.Body.{Body}
use Rattle.wire.specs.declared.body.Body.TheVariants as bodies
use Rattle.wire.specs.declared.body.ReadBody.{ReadBody}
use Rattle.wire.specs.declared.body.ReadBody.TheVariants as reads
use Rattle.wire.specs.declared.body.StreamBody.{StreamBody}
use Rattle.wire.specs.declared.body.StreamBody.TheVariants as streams
use Rattle.wire.specs.declared.packet.Packet.{Packet}
use Rattle.wire.specs.declared.refusal.Refusal.{Refusal}
use Rattle.wire.specs.declared.refusal.Refusal.TheVariants as refusals
use Rattle.wire.specs.declared.streams.StreamExtent.{StreamExtent}
use Rattle.wire.specs.declared.streams.StreamKind.TheVariants as kinds
use Rattle.wire.specs.declared.transaction.Change.{Change}
use Rattle.memtable.specs.declared.cell.Place.{Place}
use Rattle.memtable.specs.Entries.{Entries, put_all}
use Rattle.commitlog.specs.Places.{kept}
use Rattle.metadata.specs.declared.record.IndexRange.{IndexRange}
use Rattle.metadata.specs.declared.record.Region.{Region}
use Rattle.metadata.specs.Fold.{MetadataState, first_metadata}
use Rattle.checkpoint_format.specs.declared.index.Index.{Index}
use Rattle.checkpoint_format.specs.Index.{index_at}
use Rattle.client.specs.declared.job.News.{News}
use Rattle.client.specs.declared.job.News.TheVariants as news
use Rattle.client.specs.declared.load.LoadPhase.{LoadPhase}
use Rattle.client.specs.declared.load.LoadPhase.TheVariants as phases
use Rattle.client.specs.Client.{Outcome, awaits, last_extent, new_client, reply_rule}
use Rattle.client.specs.Load.{load_awaits}
use Rattle.checkpoint.specs.Merges.{with_page}
use Rattle.checkpoint.specs.PageGroups.{next_group}
use Rattle.model_streams.proofs.Tests.{if_elim}
use Rattle.model_partition.specs.CheckpointStates.{CheckpointState}
use Rattle.model_partition.specs.declared.checkpoint_job.CheckpointPhase.{CheckpointPhase}
use Rattle.model_partition.specs.declared.checkpoint_job.CheckpointPhase.TheVariants as checkpoints
use Rattle.model_partition.specs.declared.server_context.ServerContext.{ServerContext}
use Rattle.model_partition.specs.declared.stage.Stage.{Stage}
use Rattle.model_partition.specs.declared.stage.Stage.TheVariants as stages
use Rattle.model_partition.specs.declared.waiting.PlaceRead.{PlaceRead}
use Rattle.model_partition.specs.Range.{OutGroup, RangeState, RangeOutcome, request, picking, is_serving}
use Rattle.model_partition.specs.PlaceReads.{is_place, place_of, places_of, reads_under, reads_page}
use Rattle.model_partition.specs.Getting.{are_no_page, bytes_rule, get_fault, gets, get_rule, read_at}
use Rattle.model_partition.specs.Serving.{record_of, out_size, group_count, forms, transact_fault, transacts, transact_rule, log_done}
use Rattle.model_partition.specs.Loading.{Group, said_after, replayed, asks_index, index_named, reads_named, reads_index, reads_log, open_region, first_position, reads_log_from, checks_log, begins_log, reads_metadata, begins_metadata, says, metadata_news, replays, log_read, log_news, installs, index_read, index_bytes, has_position, serves_from, serves}
use Rattle.model_partition.specs.Checkpoints.{number_to_apply, have_bytes, combines, with_fixed, new_job, new_combining_job, combined_job, next_append, rows_go, writes_pages, merges, checkpoint_rule, pages_stand, may_record, rows_stand, rows_told, rows_may_stand, rows_reply, has_record_number, record_stands, record_told, trim_awaits, trimmed, trim_told, trim_reply_in}
use Rattle.model_partition.specs.Answering.{answered_number, groups_of, load_refused, load_told, load_reply, serving_news, is_taken, log_reply, metadata_reply, index_told, index_reply, page_reply, trim_reply, bytes_reply, gets_reply, answer_rule, give_up_all}
use Rattle.model_partition.specs.Server.{new_range}
use Rattle.model_partition.specs.Splits.{open_extent, open_last}
use Rattle.model_streams.specs.StreamSystem.{StreamSystem}
use Rattle.laws_loads.proofs.PageAnswers.{merged, unread, merges_elim, page_reply_elim}
use Rattle.laws_stream_machine.specs.Refinement.{Sent}
use Rattle.laws_ranges.specs.Serves.{Stand, known, IsTold, log_of, TrimsPhase, TrimsJob}
use Rattle.laws_ranges.specs.SplitJobs.{AreClosed, BlobClosedIf, BlobTold}
use Rattle.laws_ranges.proofs.RowData.{got}

-- what stands among the first of a list
take_got : (n : ℕ) (xs : List StreamExtent) (z : StreamExtent) → Contains (take n xs) z → (k : ℕ) × (k < n) × (slice_get xs k ≡ Some z)
take_got zero xs z c = absurd (omega (arith, c.1))
take_got (suc n) [] z c = absurd (omega (arith, c.1))
take_got (suc n) (x ∷ xs) z (zero, lt, e) = (0, omega arith, ap Some e)
take_got (suc n) (x ∷ xs) z (suc k, lt, e) = let m = take_got n xs z (k, omega (arith, lt), e) in (suc m.0, omega (arith, m.1), m.2)

module _ (d : ServerContext) where
  abbrev Closed : RangeState → Type 0
  Closed s = AreClosed s.blob_data.extents

  abbrev pub StayClosed : RangeOutcome → Type 0
  StayClosed o = BlobClosedIf o.after

  -- ---- a load goes on

  asks_closed : (s : RangeState) → Closed s → (position : ℕ) (index : IndexRange) (o : Option Nodes) → StayClosed (asks_index d s position index o)
  asks_closed s k position index None = tt
  asks_closed s k position index (Some places) = k

  named_closed : (s : RangeState) → Closed s → (position : ℕ) (o : Option IndexRange) → StayClosed (reads_named d s position o)
  named_closed s k position None = k
  named_closed s k position (Some index) = asks_closed s k position index (places_of s index.place.extent)

  index_closed : (s : RangeState) → Closed s → (position : ℕ) → StayClosed (reads_index d s position)
  index_closed s k position = named_closed s k position (index_named s.said.indexes position)

  log_closed : (s : RangeState) → Closed s → (position : ℕ) → StayClosed (reads_log d s position)
  log_closed s k position = if_elim StayClosed (nat_lt position (length s.log.extents)) _ _ (λ t. k) (λ f. index_closed s k 0)

  log_from_closed : (s : RangeState) → Closed s → (o : Option ℕ) → StayClosed (reads_log_from d s o)
  log_from_closed s k None = tt
  log_from_closed s k (Some position) = log_closed s k position

  checks_closed : (s : RangeState) → Closed s → (o : Option StreamExtent) → StayClosed (checks_log d s o)
  checks_closed s k None = log_from_closed s k (first_position s s.regions)
  checks_closed s k (Some x) = if_elim StayClosed (is_some x.length) _ _ (λ t. log_from_closed s k (first_position s s.regions)) (λ f. k)

  pub begins_closed : (s : RangeState) → Closed s → StayClosed (begins_log d s)
  begins_closed s k =
      if_elim StayClosed (is_some (open_region s.said.regions) && is_some (first_position s s.said.regions)) _ _ (λ t. checks_closed (record s { regions = s.said.regions }) k (last_extent s.log.extents)) (λ f. tt)

  metadata_closed : (s : RangeState) → Closed s → (position : ℕ) → StayClosed (reads_metadata d s position)
  metadata_closed s k position = if_elim StayClosed (nat_lt position (length s.metadata.extents)) _ _ (λ t. k) (λ f. begins_closed s k)

  begins_metadata_closed : (s : RangeState) → Closed s → (o : Option StreamExtent) → StayClosed (begins_metadata d s o)
  begins_metadata_closed s k None = begins_closed s k
  begins_metadata_closed s k (Some x) = if_elim StayClosed (is_some x.length) _ _ (λ t. metadata_closed s k 0) (λ f. k)

  says_closed : (s : RangeState) → Closed s → (position : ℕ) (o : Option MetadataState) → StayClosed (says d s position o)
  says_closed s k position None = tt
  says_closed s k position (Some said) = metadata_closed (record s { said = said }) k (suc position)

  metadata_news_closed : (s : RangeState) → Closed s → (groups : List Group) (stage : Stage) (told : Option News) (packets : List Packet) → StayClosed (metadata_news d s groups stage told packets)
  metadata_news_closed s k groups stage (Some news.Fenced) packets = tt
  metadata_news_closed s k groups (stages.Checking kind) (Some (news.Checked e l)) packets = metadata_closed s k 0
  metadata_news_closed s k groups (stages.Checking kind) (Some (news.Sealed e l)) packets = metadata_closed s k 0
  metadata_news_closed s k groups (stages.Reading kind position) (Some (news.Sealed e l)) packets = metadata_closed s k position
  metadata_news_closed s k groups (stages.Reading kind position) (Some (news.Content e upto)) packets = says_closed s k position (said_after s.said groups)
  metadata_news_closed s k groups stage told packets = k

  replays_closed : (s : RangeState) → Closed s → (position : ℕ) (o : Option (List Region × Entries)) → StayClosed (replays d s position o)
  replays_closed s k position None = tt
  replays_closed s k position (Some x) = log_closed (record s { regions = x.0; live = x.1 }) k (suc position)

  log_read_closed : (s : RangeState) → Closed s → (position e : ℕ) (groups : List Group) → StayClosed (log_read d s position e groups)
  log_read_closed s k position e groups =
      if_elim StayClosed (nat_lt (s.log.base + position) (2 ^ 64)) _ _
      (λ t. replays_closed s k position (replayed s.said.keys e (record { index = s.log.base + position; offset = 0 }) (s.regions, s.live) groups)) (λ f. tt)

  log_news_closed : (s : RangeState) → Closed s → (groups : List Group) (stage : Stage) (told : Option News) (packets : List Packet) → StayClosed (log_news d s groups stage told packets)
  log_news_closed s k groups stage (Some news.Fenced) packets = tt
  log_news_closed s k groups (stages.Checking kind) (Some (news.Checked e l)) packets = log_from_closed s k (first_position s s.regions)
  log_news_closed s k groups (stages.Checking kind) (Some (news.Sealed e l)) packets = log_from_closed s k (first_position s s.regions)
  log_news_closed s k groups (stages.Reading kind position) (Some (news.Sealed e l)) packets = log_closed s k position
  log_news_closed s k groups (stages.Reading kind position) (Some (news.Content e upto)) packets = log_read_closed s k position e groups
  log_news_closed s k groups stage told packets = k

  -- ---- an index is read

  installs_closed : (s : RangeState) → Closed s → (position : ℕ) (named : Option IndexRange) (index : Option Index) → StayClosed (installs d s position named index)
  installs_closed s k position (Some named) (Some index) = index_closed (record s { indexes = record { place = named.place; keys = named.keys; index = index } ∷ s.indexes }) k (suc position)
  installs_closed s k position named index = tt

  index_read_closed : (s : RangeState) → Closed s → (stage : Stage) (bytes : List ℕ) → StayClosed (index_read d s stage bytes)
  index_read_closed s k (stages.Indexing position) bytes = installs_closed s k position (index_named s.said.indexes position) (index_at bytes)
  index_read_closed s k stage bytes = k

  index_bytes_closed : (s : RangeState) → Closed s → (o : Option PlaceRead) (place : Place) (bytes : List ℕ) → StayClosed (index_bytes d s o place bytes)
  index_bytes_closed s k None place bytes = k
  index_bytes_closed s k (Some read) place bytes = if_elim StayClosed (is_place read.place place) _ _ (λ t. index_read_closed s k s.stage bytes) (λ f. k)

  index_told_closed : (s : RangeState) → Closed s → (body : ReadBody) → StayClosed (index_told d s body)
  index_told_closed s k (reads.Bytes u e offset bytes) = index_bytes_closed s k s.reading (place_of e offset bytes) bytes
  index_told_closed s k body = k

  refused_closed : (s : RangeState) → Closed s → (body : AppendBody) → StayClosed (load_refused d s body)
  refused_closed s k (appends.Refused u refusals.Stale) = tt
  refused_closed s k body = k

  index_reply_closed : (s : RangeState) → Closed s → (body : Body) → StayClosed (index_reply d s body)
  index_reply_closed s k (bodies.Read body) = index_told_closed s k body
  index_reply_closed s k (bodies.Append body) = refused_closed s k body
  index_reply_closed s k body = k

  -- ---- the generation is confirmed

  serves_from_closed : (s : RangeState) → Closed s → (o : Option Region) → StayClosed (serves_from d s o)
  serves_from_closed s k None = tt
  serves_from_closed s k (Some region) = if_elim StayClosed (nat_lt 0 region.next) _ _ (λ t. k) (λ f. tt)

  serves_closed : (s : RangeState) → Closed s → StayClosed (serves d s)
  serves_closed s k = if_elim StayClosed (has_position s.log) _ _ (λ t. serves_from_closed s k (open_region s.regions)) (λ f. tt)

  -- ---- a range that is served

  forms_closed : (s : RangeState) → Closed s → StayClosed (forms d s)
  forms_closed s k = if_elim StayClosed (not (is_some s.out) && (nat_lt 0 (group_count d s) && nat_lt (s.next + group_count d s) (2 ^ 64))) _ _ (λ t. k) (λ f. k)

  done_closed : (s : RangeState) → Closed s → (out : Option OutGroup) (e offset : ℕ) → StayClosed (log_done d s out e offset)
  done_closed s k None e offset = k
  done_closed s k (Some out) e offset =
      forms_closed
      (record s {
        live = put_all s.live (flat_map (λ changes. changes) (kept (record_of out.first out.transactions) e offset));
        position = record { index = (s.log.base + length s.log.extents) - 1; offset = offset + out_size out };
        out = None;
      }) k

  serving_closed : (s : RangeState) → Closed s → (told : Option News) (packets : List Packet) → StayClosed (serving_news d s told packets)
  serving_closed s k (Some news.Fenced) packets = tt
  serving_closed s k (Some (news.Appended e offset)) packets = done_closed s k s.out e offset
  serving_closed s k told packets = k

  stands_closed : (s : RangeState) → Closed s → (job : CheckpointState) (phase : CheckpointPhase) → StayClosed (record_stands d s job phase)
  stands_closed s k job (checkpoints.Record index) = if_elim StayClosed (has_record_number s) _ _ (λ t. k) (λ f. k)
  stands_closed s k job phase = k

  record_closed : (s : RangeState) → Closed s → (control : Option CheckpointState) (told : Option News) (packets : List Packet) → StayClosed (record_told d s control told packets)
  record_closed s k control (Some news.Fenced) packets = tt
  record_closed s k (Some job) (Some (news.Appended e offset)) packets = stands_closed s k job job.phase
  record_closed s k control told packets = k

  bytes_closed : (s : RangeState) → Closed s → (u : ReqNo) (place : Place) (bytes : List ℕ) → StayClosed (bytes_rule d s u place bytes)
  bytes_closed s k u place bytes = if_elim StayClosed (are_no_page (read_at s.gets u) bytes) _ _ (λ t. k) (λ f. k)

  read_closed : (s : RangeState) → Closed s → (u : ReqNo) (body : ReadBody) → StayClosed (bytes_reply d s u body)
  read_closed s k u (reads.Bytes v e offset bytes) = bytes_closed s k u (place_of e offset bytes) bytes
  read_closed s k u body = k

  gets_reply_closed : (s : RangeState) → Closed s → (u : ReqNo) (body : Body) → StayClosed (gets_reply d s u body)
  gets_reply_closed s k u (bodies.Read body) = read_closed s k u body
  gets_reply_closed s k u (bodies.Append body) = refused_closed s k body
  gets_reply_closed s k u body = k

  gets_closed : (s : RangeState) → Closed s → (from : ActorId) (q : ReqNo) (key : List ℕ) (fault : Option Refusal) → StayClosed (gets d s from q key fault)
  gets_closed s k from q key (Some why) = k
  gets_closed s k from q key None = k

  pub get_closed : (s : RangeState) → Closed s → (from : ActorId) (q : ReqNo) (key : List ℕ) → StayClosed (get_rule d s from q key)
  get_closed s k from q key = gets_closed s k from q key (get_fault d s key)

  transacts_closed : (s : RangeState) → Closed s → (from : ActorId) (q : ReqNo) (changes : List Change) (fault : Option Refusal) → StayClosed (transacts d s from q changes fault)
  transacts_closed s k from q changes (Some why) = k
  transacts_closed s k from q changes None = forms_closed (record s { queue = s.queue ++ record { from = from; request = q; changes = changes } ∷ [] }) k

  pub transact_closed : (s : RangeState) → Closed s → (from : ActorId) (q : ReqNo) (changes : List Change) → StayClosed (transact_rule d s from q changes)
  transact_closed s k from q changes = transacts_closed s k from q changes (transact_fault d s changes)

  -- ---- answers to both clients

  metadata_reply_closed : (s : RangeState) → Closed s → (body : Body) → StayClosed (metadata_reply d s body)
  metadata_reply_closed s k body =
      let o : Outcome = reply_rule (picking d s.metadata) (request d) body in
      if_elim StayClosed (is_serving s.stage) _ _ (λ t. record_closed (record s { metadata = o.after }) k s.control o.news (option_to_list o.packet))
      (λ f. metadata_news_closed (record s { metadata = o.after }) k (groups_of body) s.stage o.news (option_to_list o.packet))

  log_reply_closed : (s : RangeState) → Closed s → (body : Body) → StayClosed (log_reply d s body)
  log_reply_closed s k body =
      let o : Outcome = reply_rule (picking d s.log) (request d) body in
      if_elim StayClosed (is_taken s body) _ _
      (λ t. if_elim StayClosed (is_serving s.stage) _ _ (λ t. serving_closed (record s { log = o.after }) k o.news (option_to_list o.packet))
      (λ f. log_news_closed (record s { log = o.after }) k (groups_of body) s.stage o.news (option_to_list o.packet))) (λ f. k)

  -- ---- pages and the index

  pages_closed : (s : RangeState) → Closed s → (x : CheckpointState × Option Group) → StayClosed (rows_go d s x)
  pages_closed s k (job, None) = k
  pages_closed s k (job, Some group) = k

  writes_closed : (s : RangeState) → Closed s → (job : CheckpointState) → StayClosed (writes_pages d s job)
  writes_closed s k job = pages_closed s k (next_append job (next_group job.pages))

  merges_closed : (s : RangeState) → Closed s → (job : CheckpointState) → StayClosed (merges d s job)
  merges_closed s k job = merges_elim StayClosed d s job k (λ merge. k) (λ merge place places is told. k) (λ merge newer is fixed. writes_closed (unread s) k (combined_job (merged job merge) newer))

  page_closed : (s : RangeState) → Closed s → (body : Body) → StayClosed (page_reply d s body)
  page_closed s k body = page_reply_elim StayClosed d s k tt (λ job place entries is next. merges_closed s k (merged job (with_page s.said.keys job.merge entries))) body

  pub checkpoint_closed : (s : RangeState) → Closed s → (combine : Bool) → StayClosed (checkpoint_rule d s combine)
  checkpoint_closed s k combine =
      if_elim StayClosed (have_bytes s.live s.position (number_to_apply s.out s.next)) _ _
      (λ t. if_elim StayClosed (combines combine s.indexes) _ _ (λ c. merges_closed (with_fixed s) k (new_combining_job s)) (λ c. writes_closed (with_fixed s) k (new_job s))) (λ f. k)

  stand_closed : (s : RangeState) → Closed s → (job : CheckpointState) (phase : CheckpointPhase) (e offset : ℕ) → StayClosed (rows_stand d s job phase e offset)
  stand_closed s k job checkpoints.Pages e offset = writes_closed s k (pages_stand job e offset)
  stand_closed s k job checkpoints.Index e offset = if_elim StayClosed (may_record s job) _ _ (λ t. k) (λ f. k)
  stand_closed s k job phase e offset = k

  told_closed : (s : RangeState) → Closed s → (control : Option CheckpointState) (told : Option News) (packets : List Packet) → StayClosed (rows_told d s control told packets)
  told_closed s k control (Some news.Fenced) packets = tt
  told_closed s k (Some job) (Some (news.Appended e offset)) packets = if_elim StayClosed (nat_lt e (2 ^ 64)) _ _ (λ t. stand_closed s k job job.phase e offset) (λ f. k)
  told_closed s k control told packets = k

  rows_closed : (s : RangeState) → Closed s → (body : Body) → StayClosed (rows_reply d s body)
  rows_closed s k body =
      let o : Outcome = reply_rule (picking d s.rows) (request d) body in
      if_elim StayClosed (rows_may_stand s.control body) _ _ (λ t. told_closed (record s { rows = o.after }) k s.control o.news (option_to_list o.packet)) (λ f. k)

  pub give_up_closed : (s : RangeState) → Closed s → StayClosed (give_up_all d s)
  give_up_closed s k = k

  -- a range that is taken knows nothing of it
  pub assigned_closed : (range generation until : ℕ) → AreClosed (new_range d range generation until).blob_data.extents
  assigned_closed range generation until x here = absurd (omega (arith, here.1))

  -- ---- the Trim

  module _ (generation : ℕ → ℕ) (range : ℕ) (w : StreamSystem) (i : ℕ) (x : Stand) (sent : List Sent) (s : RangeState) (k : Closed s) where
    -- what leaves the log is sealed
    gone_closed : IsTold generation (log_of range) w i x sent s.log → (before : ℕ) → (before ≤ s.log.base) ⊎ (before < known s.log) → AreClosed (take (before - s.log.base) s.log.extents)
    gone_closed told before stays z here = by z.length refl
      where
        at : (n : ℕ) × (n < before - s.log.base) × (slice_get s.log.extents n ≡ Some z)
        at = take_got (before - s.log.base) s.log.extents z here

        by : (o : Option ℕ) → z.length ≡ o → is_some z.length ≡ true
        by (Some n) e = ap is_some e
        by None e =
            let last : suc at.0 ≡ length s.log.extents = told.tells.unsealed at.0 z at.2 e in
            let below = at.1 in
            absurd (⊎_elim {C = ⊥} (λ le. omega (arith, le, below)) (λ lt. omega (arith, lt, below, last)) stays)

    trimmed_closed : IsTold generation (log_of range) w i x sent s.log → (before : ℕ) (to_blob : Bool) → (before ≤ s.log.base) ⊎ (before < known s.log) → AreClosed (trimmed s before to_blob).blob_data.extents
    trimmed_closed told before false stays z here = k z here
    trimmed_closed told before true stays z here =
        ⊎_elim {C = is_some z.length ≡ true} (λ old. k z old) (λ new. gone_closed told before stays z new) (Contains-append_cases s.blob_data.extents (take (before - s.log.base) s.log.extents) z here)

    trim_told_closed : IsTold generation (log_of range) w i x sent s.log → (phase : CheckpointPhase) → TrimsPhase s.log phase → (body : StreamBody) → StayClosed (trim_told d s phase body)
    trim_told_closed told (checkpoints.Trim before to_blob q) stays (streams.Trimmed u) = trimmed_closed told before to_blob stays
    trim_told_closed told phase stays body = k

    trim_in_closed : IsTold generation (log_of range) w i x sent s.log → (control : Option CheckpointState) → TrimsJob s.log control → (body : StreamBody) → StayClosed (trim_reply_in d s control body)
    trim_in_closed told None stays body = k
    trim_in_closed told (Some job) stays body = trim_told_closed told job.phase stays.1 body

    trim_reply_closed : IsTold generation (log_of range) w i x sent s.log → TrimsJob s.log s.control → (body : Body) → StayClosed (trim_reply d s body)
    trim_reply_closed told stays (bodies.Stream body) = trim_in_closed told s.control stays body
    trim_reply_closed told stays (bodies.Append body) = refused_closed s k body
    trim_reply_closed told stays body = k

    -- ---- answers

    load_told_closed : (u : ReqNo) → load_awaits s.load.phase u ≡ true → (phase : LoadPhase) → s.load.phase ≡ phase → (body : StreamBody) → answered_number (bodies.Stream body) ≡ Some u → BlobTold s (bodies.Stream body) → StayClosed (load_told d s phase body)
    load_told_closed u waits (phases.Opening q) e (streams.Opened z lists) number told =
        let same : z ≡ u = cc in
        let opened : RangeState = record s {
          load = record s.load { phase = phases.Opened };
          metadata = new_client d.server (record { range = s.load.range; kind = kinds.Metadata }) s.load.generation lists.metadata d.pick;
          log = new_client d.server (record { range = s.load.range; kind = kinds.Log }) s.load.generation lists.log d.pick;
          rows = new_client d.server (record { range = s.load.range; kind = kinds.RowData }) s.load.generation lists.row_data d.pick;
          blob_data = lists.blob_data;
          said = first_metadata;
        } in
        begins_metadata_closed opened (told (ap (λ y. load_awaits s.load.phase y) same ∙ waits)) (last_extent lists.metadata.extents)
    load_told_closed u waits (phases.Confirming q) e (streams.Confirmed z) number told = serves_closed s k
    load_told_closed u waits phase e body number told = k

    load_closed : (u : ReqNo) → load_awaits s.load.phase u ≡ true → (body : Body) → answered_number body ≡ Some u → BlobTold s body → StayClosed (load_reply d s body)
    load_closed u waits (bodies.Append body) number told = refused_closed s k body
    load_closed u waits (bodies.Stream body) number told = load_told_closed u waits s.load.phase refl body number told
    load_closed u waits body number told = k

    -- an answer; where it is that to the Trim, what the log is trimmed to is below its last extent
    pub answer_closed : (u : ReqNo) (body : Body) → answered_number body ≡ Some u → BlobTold s body → (trim_awaits s.control u ≡ true → IsTold generation (log_of range) w i x sent s.log × TrimsJob s.log s.control) → StayClosed (answer_rule d s u body)
    answer_closed u body number told trims =
        if_elim StayClosed (load_awaits s.load.phase u) _ _ (λ t. load_closed u t body number told)
        (λ f. if_elim StayClosed (awaits s.metadata.job u) _ _ (λ t. metadata_reply_closed s k body)
        (λ f. if_elim StayClosed (awaits s.log.job u) _ _ (λ t. log_reply_closed s k body)
        (λ f. if_elim StayClosed (awaits s.rows.job u) _ _ (λ t. rows_closed s k body)
        (λ f. if_elim StayClosed (reads_under s.reading u) _ _ (λ t. if_elim StayClosed (reads_page s.reading) _ _ (λ p. page_closed s k body) (λ p. index_reply_closed s k body))
        (λ f. if_elim StayClosed (trim_awaits s.control u) _ _ (λ t. (let ready = trims t in trim_reply_closed ready.0 ready.1 body)) (λ f. gets_reply_closed s k u body))))))

-- where all is closed no last extent is open
pub closed_blob : (xs : List StreamExtent) → AreClosed xs → open_last xs ≡ None
closed_blob xs closed = go (last_extent xs) refl
  where
    by_length : (z : StreamExtent) (l : Option ℕ) → is_some l ≡ true → (if is_some l then None else Some z.extent) ≡ None
    by_length z (Some n) t = refl
    by_length z None t = absurd cc

    go : (o : Option StreamExtent) → last_extent xs ≡ o → open_extent o ≡ None
    go None e = refl
    go (Some z) e = by_length z z.length (closed z (got xs (length xs - 1) z e))
