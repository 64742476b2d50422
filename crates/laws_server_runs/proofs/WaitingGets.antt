-- What rules leave of the Gets that wait, and what they show: all but the tries of Gets leave them as they were, and show none that is answered.
use Rattle.std.proofs.Common.{ℕ, suc, ◌+◌, ◌-◌, ◌^◌, Bool, true, false, not, ◌&&◌, nat_lt, List, [], ◌∷◌, ◌++◌, length, take, Option, Some, None, is_some, option_to_list, if◌then◌else◌}
use Rattle.std.specs.Prelude.{flat_map}
use Rattle.block_types.specs.declared.record.Nodes.{Nodes}
use Rattle.commitlog.specs.Places.{kept}
use Rattle.memtable.specs.Entries.{Entries, put_all}
use Rattle.checkpoint.specs.Merges.{with_page}
use Rattle.checkpoint.specs.PageGroups.{next_group}
use Rattle.checkpoint_format.specs.declared.index.Index.{Index}
use Rattle.checkpoint_format.specs.Index.{index_at}
use Rattle.wire.specs.declared.actor.ActorId.{ActorId}
use Rattle.wire.specs.declared.actor.ReqNo.{ReqNo}
use Rattle.wire.specs.declared.body.AppendBody.{AppendBody}
use Rattle.wire.specs.declared.body.AppendBody.TheVariants as appends
use Rattle.wire.specs.declared.body.Body.{Body}
use Rattle.wire.specs.declared.body.Body.TheVariants as bodies
use Rattle.wire.specs.declared.body.ReadBody.{ReadBody}
use Rattle.wire.specs.declared.body.ReadBody.TheVariants as reads
use Rattle.wire.specs.declared.body.StreamBody.{StreamBody}
use Rattle.wire.specs.declared.body.StreamBody.TheVariants as streams
use Rattle.wire.specs.declared.packet.Packet.{Packet}
use Rattle.wire.specs.declared.refusal.Refusal.{Refusal}
use Rattle.wire.specs.declared.refusal.Refusal.TheVariants as refusals
use Rattle.wire.specs.declared.streams.StreamExtent.{StreamExtent}
use Rattle.wire.specs.declared.streams.StreamKind.TheVariants as kinds
use Rattle.wire.specs.declared.streams.StreamLists.{StreamLists}
use Rattle.wire.specs.declared.transaction.Change.{Change}
use Rattle.client.specs.declared.job.News.{News}
use Rattle.client.specs.declared.job.News.TheVariants as news
use Rattle.client.specs.declared.load.LoadPhase.{LoadPhase}
use Rattle.client.specs.declared.load.LoadPhase.TheVariants as load_phases
use Rattle.client.specs.Client.{Outcome, new_client, last_extent, awaits, reply_rule}
use Rattle.client.specs.Load.{load_awaits}
use Rattle.metadata.specs.declared.record.IndexRange.{IndexRange}
use Rattle.metadata.specs.declared.record.Region.{Region}
use Rattle.metadata.specs.Fold.{MetadataState, first_metadata}
use Rattle.model_streams.proofs.Tests.{if_elim}
use Rattle.model_partition.specs.CheckpointStates.{CheckpointState}
use Rattle.model_partition.specs.declared.checkpoint_job.CheckpointPhase.{CheckpointPhase}
use Rattle.model_partition.specs.declared.checkpoint_job.CheckpointPhase.TheVariants as checkpoints
use Rattle.model_partition.specs.declared.server_context.ServerContext.{ServerContext}
use Rattle.model_partition.specs.declared.stage.Stage.{Stage}
use Rattle.model_partition.specs.declared.stage.Stage.TheVariants as stages
use Rattle.model_partition.specs.declared.table_note.TableNote.{TableNote}
use Rattle.model_partition.specs.declared.table_note.TableNote.TheVariants as tables
use Rattle.model_partition.specs.declared.waiting.WaitingGet.{WaitingGet}
use Rattle.model_partition.specs.declared.waiting.WaitingTransaction.{WaitingTransaction}
use Rattle.model_partition.specs.PlaceReads.{place_of, places_of, reads_under, reads_page}
use Rattle.model_partition.specs.Range.{OutGroup, RangeState, RangeOutcome, request, answers, picking, is_serving}
use Rattle.model_partition.specs.Loading.{Group, said_after, replayed, asks_index, index_named, reads_named, reads_index, installs, index_read, reads_log, first_position, reads_log_from, checks_log, begins_log, reads_metadata, begins_metadata, opens, says, metadata_news, replays, log_read, log_news, open_region, serves_from, serves, has_position}
use Rattle.model_partition.specs.Serving.{record_of, out_size, group_count, forms, began, dones, transact_fault, transacts, transact_rule, log_done}
use Rattle.model_partition.specs.Getting.{are_no_page, read_at, bytes_come}
use Rattle.model_partition.specs.Checkpoints.{combines, new_job, new_combining_job, number_to_apply, have_bytes, with_fixed, begins, checkpoint_rule, combined_job, merges, next_append, rows_go, pages_stand, may_record, index_stands, rows_stand, rows_told, rows_may_stand, rows_reply, has_record_number, record_stands, record_told, trim_awaits, trim_told, trim_reply_in}
use Rattle.model_partition.specs.Answering.{load_reply, load_told, load_refused, metadata_reply, groups_of, serving_news, is_taken, log_taken, log_reply, index_reply, page_reply, trim_reply, bytes_reply, gets_reply, answer_rule}
use Rattle.model_histories.specs.StreamActions.{StreamAction, Finds, load_actions, metadata_actions, log_actions, rows_actions, bytes_actions, bytes_told_actions, answer_actions}
use Rattle.laws_loads.proofs.IndexAnswers.{index_reply_elim}
use Rattle.laws_loads.proofs.PageAnswers.{unread, merged, merges_elim, page_reply_elim}

-- of each answered Get among these observations this is so
abbrev pub AllGots : ((range g : ℕ) → List ℕ → Option (List ℕ) → Type 0) → List TableNote → Type 0
AllGots Q [] = Unit {0}
AllGots Q (tables.Got range g key value ∷ notes) = Q range g key value × AllGots Q notes
AllGots Q (tables.Began range g number changes ∷ notes) = AllGots Q notes
AllGots Q (tables.Done range g number ∷ notes) = AllGots Q notes
AllGots Q (tables.Loaded range g table next ∷ notes) = AllGots Q notes

module _ (Q : (range g : ℕ) → List ℕ → Option (List ℕ) → Type 0) where
  pub gots_both : (xs ys : List TableNote) → AllGots Q xs → AllGots Q ys → AllGots Q (xs ++ ys)
  gots_both [] ys a b = b
  gots_both (tables.Got range g key value ∷ xs) ys a b = (a.0, gots_both xs ys a.1 b)
  gots_both (tables.Began range g number changes ∷ xs) ys a b = gots_both xs ys a b
  gots_both (tables.Done range g number ∷ xs) ys a b = gots_both xs ys a b
  gots_both (tables.Loaded range g table next ∷ xs) ys a b = gots_both xs ys a b

-- the Gets that wait at a range, if it is there
abbrev pub GetsIf : (List WaitingGet → Type 0) → Option RangeState → Type 0
GetsIf R None = Unit {0}
GetsIf R (Some r) = R r.gets

module _ (R : List WaitingGet → Type 0) (Q : (range g : ℕ) → List ℕ → Option (List ℕ) → Type 0) where
  -- what a step leaves, and shows
  abbrev pub LeavesGets : RangeOutcome → Type 0
  LeavesGets o = GetsIf R o.after × AllGots Q o.notes

  -- transactions are no Gets
  began_none : (range g s : ℕ) (ts : List WaitingTransaction) → AllGots Q (began range g s ts)
  began_none range g s [] = tt
  began_none range g s (t ∷ ts) = began_none range g (suc s) ts

  dones_none : (range g s : ℕ) (ts : List WaitingTransaction) → AllGots Q (dones range g s ts)
  dones_none range g s [] = tt
  dones_none range g s (t ∷ ts) = dones_none range g (suc s) ts

  module _ (d : ServerContext) where
    -- ---- the load

    asks_index_leaves : (s : RangeState) → R s.gets → (position : ℕ) (index : IndexRange) (places : Option Nodes) → LeavesGets (asks_index d s position index places)
    asks_index_leaves s h position index None = (tt, tt)
    asks_index_leaves s h position index (Some places) = (h, tt)

    reads_named_leaves : (s : RangeState) → R s.gets → (position : ℕ) (named : Option IndexRange) → LeavesGets (reads_named d s position named)
    reads_named_leaves s h position None = (h, tt)
    reads_named_leaves s h position (Some index) = asks_index_leaves s h position index (places_of s index.place.extent)

    reads_index_leaves : (s : RangeState) → R s.gets → (position : ℕ) → LeavesGets (reads_index d s position)
    reads_index_leaves s h position = reads_named_leaves s h position (index_named s.said.indexes position)

    reads_log_leaves : (s : RangeState) → R s.gets → (position : ℕ) → LeavesGets (reads_log d s position)
    reads_log_leaves s h position = if_elim LeavesGets (nat_lt position (length s.log.extents)) _ _ (λ t. (h, tt)) (λ f. reads_index_leaves s h 0)

    reads_log_from_leaves : (s : RangeState) → R s.gets → (position : Option ℕ) → LeavesGets (reads_log_from d s position)
    reads_log_from_leaves s h None = (tt, tt)
    reads_log_from_leaves s h (Some position) = reads_log_leaves s h position

    checks_log_leaves : (s : RangeState) → R s.gets → (x : Option StreamExtent) → LeavesGets (checks_log d s x)
    checks_log_leaves s h None = reads_log_from_leaves s h (first_position s s.regions)
    checks_log_leaves s h (Some x) = if_elim LeavesGets (is_some x.length) _ _ (λ t. reads_log_from_leaves s h (first_position s s.regions)) (λ f. (h, tt))

    begins_log_leaves : (s : RangeState) → R s.gets → LeavesGets (begins_log d s)
    begins_log_leaves s h =
        if_elim LeavesGets (is_some (open_region s.said.regions) && is_some (first_position s s.said.regions)) _ _
        (λ t. checks_log_leaves (record s { regions = s.said.regions }) h (last_extent s.log.extents)) (λ f. (tt, tt))

    reads_metadata_leaves : (s : RangeState) → R s.gets → (position : ℕ) → LeavesGets (reads_metadata d s position)
    reads_metadata_leaves s h position = if_elim LeavesGets (nat_lt position (length s.metadata.extents)) _ _ (λ t. (h, tt)) (λ f. begins_log_leaves s h)

    begins_metadata_leaves : (s : RangeState) → R s.gets → (x : Option StreamExtent) → LeavesGets (begins_metadata d s x)
    begins_metadata_leaves s h None = begins_log_leaves s h
    begins_metadata_leaves s h (Some x) = if_elim LeavesGets (is_some x.length) _ _ (λ t. reads_metadata_leaves s h 0) (λ f. (h, tt))

    opens_leaves : (s : RangeState) → R s.gets → (lists : StreamLists) → LeavesGets (opens d s lists)
    opens_leaves s h lists =
        begins_metadata_leaves
        (record s {
          load = record s.load { phase = load_phases.Opened };
          metadata = new_client d.server (record { range = s.load.range; kind = kinds.Metadata }) s.load.generation lists.metadata d.pick;
          log = new_client d.server (record { range = s.load.range; kind = kinds.Log }) s.load.generation lists.log d.pick;
          rows = new_client d.server (record { range = s.load.range; kind = kinds.RowData }) s.load.generation lists.row_data d.pick;
          blob_data = lists.blob_data;
          said = first_metadata;
        })
        h (last_extent lists.metadata.extents)

    says_leaves : (s : RangeState) → R s.gets → (position : ℕ) (said : Option MetadataState) → LeavesGets (says d s position said)
    says_leaves s h position None = (tt, tt)
    says_leaves s h position (Some said) = reads_metadata_leaves (record s { said = said }) h (suc position)

    replays_leaves : (s : RangeState) → R s.gets → (position : ℕ) (x : Option (List Region × Entries)) → LeavesGets (replays d s position x)
    replays_leaves s h position None = (tt, tt)
    replays_leaves s h position (Some x) = reads_log_leaves (record s { regions = x.0; live = x.1 }) h (suc position)

    log_read_leaves : (s : RangeState) → R s.gets → (position e : ℕ) (groups : List Group) → LeavesGets (log_read d s position e groups)
    log_read_leaves s h position e groups =
        if_elim LeavesGets (nat_lt (s.log.base + position) (2 ^ 64)) _ _
        (λ t. replays_leaves s h position (replayed s.said.keys e (record { index = s.log.base + position; offset = 0 }) (s.regions, s.live) groups)) (λ f. (tt, tt))

    metadata_news_leaves : (s : RangeState) → R s.gets → (groups : List Group) (stage : Stage) (told : Option News) (packets : List Packet) → LeavesGets (metadata_news d s groups stage told packets)
    metadata_news_leaves s h groups stage (Some news.Fenced) packets = (tt, tt)
    metadata_news_leaves s h groups (stages.Checking kind) (Some (news.Checked e l)) packets = reads_metadata_leaves s h 0
    metadata_news_leaves s h groups (stages.Checking kind) (Some (news.Sealed e l)) packets = reads_metadata_leaves s h 0
    metadata_news_leaves s h groups (stages.Reading kind position) (Some (news.Sealed e l)) packets = reads_metadata_leaves s h position
    metadata_news_leaves s h groups (stages.Reading kind position) (Some (news.Content e upto)) packets = says_leaves s h position (said_after s.said groups)
    metadata_news_leaves s h groups stage told packets = (h, tt)

    log_news_leaves : (s : RangeState) → R s.gets → (groups : List Group) (stage : Stage) (told : Option News) (packets : List Packet) → LeavesGets (log_news d s groups stage told packets)
    log_news_leaves s h groups stage (Some news.Fenced) packets = (tt, tt)
    log_news_leaves s h groups (stages.Checking kind) (Some (news.Checked e l)) packets = reads_log_from_leaves s h (first_position s s.regions)
    log_news_leaves s h groups (stages.Checking kind) (Some (news.Sealed e l)) packets = reads_log_from_leaves s h (first_position s s.regions)
    log_news_leaves s h groups (stages.Reading kind position) (Some (news.Sealed e l)) packets = reads_log_leaves s h position
    log_news_leaves s h groups (stages.Reading kind position) (Some (news.Content e upto)) packets = log_read_leaves s h position e groups
    log_news_leaves s h groups stage told packets = (h, tt)

    serves_from_leaves : (s : RangeState) → R s.gets → (region : Option Region) → LeavesGets (serves_from d s region)
    serves_from_leaves s h None = (tt, tt)
    serves_from_leaves s h (Some region) = if_elim LeavesGets (nat_lt 0 region.next) _ _ (λ t. (h, tt)) (λ f. (tt, tt))

    serves_leaves : (s : RangeState) → R s.gets → LeavesGets (serves d s)
    serves_leaves s h = if_elim LeavesGets (has_position s.log) _ _ (λ t. serves_from_leaves s h (open_region s.regions)) (λ f. (tt, tt))

    installs_leaves : (s : RangeState) → R s.gets → (position : ℕ) (named : Option IndexRange) (index : Option Index) → LeavesGets (installs d s position named index)
    installs_leaves s h position (Some named) (Some index) =
        reads_index_leaves (record s { indexes = record { place = named.place; keys = named.keys; index = index } ∷ s.indexes }) h (suc position)
    installs_leaves s h position named index = (tt, tt)

    index_read_leaves : (s : RangeState) → R s.gets → (stage : Stage) (bytes : List ℕ) → LeavesGets (index_read d s stage bytes)
    index_read_leaves s h (stages.Indexing position) bytes = installs_leaves s h position (index_named s.said.indexes position) (index_at bytes)
    index_read_leaves s h stage bytes = (h, tt)

    -- ---- transactions

    forms_leaves : (s : RangeState) → R s.gets → LeavesGets (forms d s)
    forms_leaves s h =
        if_elim LeavesGets (not (is_some s.out) && (nat_lt 0 (group_count d s) && nat_lt (s.next + group_count d s) (2 ^ 64))) _ _ (λ t. (h, began_none s.load.range s.load.generation s.next (take (group_count d s) s.queue))) (λ f. (h, tt))

    transacts_leaves : (s : RangeState) → R s.gets → (from : ActorId) (q : ReqNo) (changes : List Change) (fault : Option Refusal) → LeavesGets (transacts d s from q changes fault)
    transacts_leaves s h from q changes (Some refusal) = (h, tt)
    transacts_leaves s h from q changes None = forms_leaves (record s { queue = s.queue ++ record { from = from; request = q; changes = changes } ∷ [] }) h

    pub transact_leaves : (s : RangeState) → R s.gets → (from : ActorId) (q : ReqNo) (changes : List Change) → LeavesGets (transact_rule d s from q changes)
    transact_leaves s h from q changes = transacts_leaves s h from q changes (transact_fault d s changes)

    done_leaves : (s : RangeState) → R s.gets → (out : Option OutGroup) (extent offset : ℕ) → LeavesGets (log_done d s out extent offset)
    done_leaves s h None extent offset = (h, tt)
    done_leaves s h (Some out) extent offset =
        let formed = forms_leaves
        (record s {
          live = put_all s.live (flat_map (λ changes. changes) (kept (record_of out.first out.transactions) extent offset));
          position = record { index = (s.log.base + length s.log.extents) - 1; offset = offset + out_size out };
          out = None;
        })
        h in
        (formed.0, gots_both Q (dones s.load.range s.load.generation out.first out.transactions) _ (dones_none s.load.range s.load.generation out.first out.transactions) formed.1)

    serving_news_leaves : (s : RangeState) → R s.gets → (told : Option News) (packets : List Packet) → LeavesGets (serving_news d s told packets)
    serving_news_leaves s h None packets = (h, tt)
    serving_news_leaves s h (Some news.Fenced) packets = (tt, tt)
    serving_news_leaves s h (Some (news.Appended e offset)) packets = done_leaves s h s.out e offset
    serving_news_leaves s h (Some (news.Checked e l)) packets = (h, tt)
    serving_news_leaves s h (Some (news.Sealed e l)) packets = (h, tt)
    serving_news_leaves s h (Some (news.Content e upto)) packets = (h, tt)

    -- ---- a checkpoint

    rows_go_leaves : (s : RangeState) → R s.gets → (x : CheckpointState × Option Group) → LeavesGets (rows_go d s x)
    rows_go_leaves s h (job, None) = (h, tt)
    rows_go_leaves s h (job, Some group) = (h, tt)

    index_stands_leaves : (s : RangeState) → R s.gets → (job : CheckpointState) (e offset : ℕ) → LeavesGets (index_stands d s job e offset)
    index_stands_leaves s h job e offset = if_elim LeavesGets (may_record s job) _ _ (λ t. (h, tt)) (λ f. (h, tt))

    rows_stand_leaves : (s : RangeState) → R s.gets → (job : CheckpointState) (phase : CheckpointPhase) (e offset : ℕ) → LeavesGets (rows_stand d s job phase e offset)
    rows_stand_leaves s h job checkpoints.Pages e offset = rows_go_leaves s h (next_append (pages_stand job e offset) (next_group (pages_stand job e offset).pages))
    rows_stand_leaves s h job checkpoints.Index e offset = index_stands_leaves s h job e offset
    rows_stand_leaves s h job phase e offset = (h, tt)

    rows_told_leaves : (s : RangeState) → R s.gets → (job : Option CheckpointState) (told : Option News) (packets : List Packet) → LeavesGets (rows_told d s job told packets)
    rows_told_leaves s h job (Some news.Fenced) packets = (tt, tt)
    rows_told_leaves s h (Some job) (Some (news.Appended e offset)) packets = if_elim LeavesGets (nat_lt e (2 ^ 64)) _ _ (λ t. rows_stand_leaves s h job job.phase e offset) (λ f. (h, tt))
    rows_told_leaves s h job told packets = (h, tt)

    record_stands_leaves : (s : RangeState) → R s.gets → (job : CheckpointState) (phase : CheckpointPhase) → LeavesGets (record_stands d s job phase)
    record_stands_leaves s h job (checkpoints.Record index) = if_elim LeavesGets (has_record_number s) _ _ (λ t. (h, tt)) (λ f. (h, tt))
    record_stands_leaves s h job phase = (h, tt)

    record_told_leaves : (s : RangeState) → R s.gets → (job : Option CheckpointState) (told : Option News) (packets : List Packet) → LeavesGets (record_told d s job told packets)
    record_told_leaves s h job (Some news.Fenced) packets = (tt, tt)
    record_told_leaves s h (Some job) (Some (news.Appended e offset)) packets = record_stands_leaves s h job job.phase
    record_told_leaves s h job told packets = (h, tt)

    merges_leaves : (s : RangeState) → R s.gets → (job : CheckpointState) → LeavesGets (merges d s job)
    merges_leaves s h job =
        merges_elim LeavesGets d s job (h, tt) (λ merge. (h, tt)) (λ merge place places is told. (h, tt))
        (λ merge newer is fixed. (let last : CheckpointState = combined_job (merged job merge) newer in rows_go_leaves (unread s) h (next_append last (next_group last.pages))))

    trim_told_leaves : (s : RangeState) → R s.gets → (phase : CheckpointPhase) (body : StreamBody) → LeavesGets (trim_told d s phase body)
    trim_told_leaves s h (checkpoints.Trim before to_blob q) (streams.Trimmed w) = (h, tt)
    trim_told_leaves s h phase body = (h, tt)

    trim_in_leaves : (s : RangeState) → R s.gets → (job : Option CheckpointState) (body : StreamBody) → LeavesGets (trim_reply_in d s job body)
    trim_in_leaves s h None body = (h, tt)
    trim_in_leaves s h (Some job) body = trim_told_leaves s h job.phase body

    -- one begins
    pub begins_leaves : (s : RangeState) → R s.gets → (combine : Bool) → LeavesGets (begins d s combine)
    begins_leaves s h combine =
        if_elim LeavesGets (combines combine s.indexes) _ _ (λ t. merges_leaves (with_fixed s) h (new_combining_job s)) (λ f. rows_go_leaves (with_fixed s) h (next_append (new_job s) (next_group (new_job s).pages)))

    pub checkpoint_leaves : (s : RangeState) → R s.gets → (combine : Bool) → LeavesGets (checkpoint_rule d s combine)
    checkpoint_leaves s h combine = if_elim LeavesGets (have_bytes s.live s.position (number_to_apply s.out s.next)) _ _ (λ t. begins_leaves s h combine) (λ f. (h, tt))

    -- ---- answers

    module _ (r : RangeState) (h : R r.gets) where
      refused_leaves : (body : AppendBody) → LeavesGets (load_refused d r body)
      refused_leaves (appends.Refused w refusals.Stale) = (tt, tt)
      refused_leaves body = (h, tt)

      load_told_leaves : (phase : LoadPhase) (body : StreamBody) → LeavesGets (load_told d r phase body)
      load_told_leaves (load_phases.Opening q) (streams.Opened w lists) = opens_leaves r h lists
      load_told_leaves (load_phases.Confirming q) (streams.Confirmed w) = serves_leaves r h
      load_told_leaves phase body = (h, tt)

      load_leaves : (body : Body) → LeavesGets (load_reply d r body)
      load_leaves (bodies.Append body) = refused_leaves body
      load_leaves (bodies.Stream body) = load_told_leaves r.load.phase body
      load_leaves body = (h, tt)

      metadata_leaves : (body : Body) → LeavesGets (metadata_reply d r body)
      metadata_leaves body =
          let o : Outcome = reply_rule (picking d r.metadata) (request d) body in
          if_elim LeavesGets (is_serving r.stage) _ _ (λ t. record_told_leaves (record r { metadata = o.after }) h r.control o.news (option_to_list o.packet))
          (λ f. metadata_news_leaves (record r { metadata = o.after }) h (groups_of body) r.stage o.news (option_to_list o.packet))

      log_leaves : (body : Body) → LeavesGets (log_reply d r body)
      log_leaves body =
          let o : Outcome = reply_rule (picking d r.log) (request d) body in
          if_elim LeavesGets (is_taken r body) (log_taken d r body) (answers d r [])
          (λ t. if_elim LeavesGets (is_serving r.stage) _ _ (λ s. serving_news_leaves (record r { log = o.after }) h o.news (option_to_list o.packet))
          (λ f. log_news_leaves (record r { log = o.after }) h (groups_of body) r.stage o.news (option_to_list o.packet)))
          (λ f. (h, tt))

      rows_leaves : (body : Body) → LeavesGets (rows_reply d r body)
      rows_leaves body =
          let o : Outcome = reply_rule (picking d r.rows) (request d) body in
          if_elim LeavesGets (rows_may_stand r.control body) _ _ (λ t. rows_told_leaves (record r { rows = o.after }) h r.control o.news (option_to_list o.packet)) (λ f. (h, tt))

      page_leaves : (body : Body) → LeavesGets (page_reply d r body)
      page_leaves body = page_reply_elim LeavesGets d r (h, tt) (tt, tt) (λ job place entries is next. merges_leaves r h (merged job (with_page r.said.keys job.merge entries))) body

      index_leaves : (body : Body) → LeavesGets (index_reply d r body)
      index_leaves body = index_reply_elim LeavesGets d r (h, tt) (tt, tt) (λ bytes. index_read_leaves r h r.stage bytes) body

      trim_leaves : (body : Body) → LeavesGets (trim_reply d r body)
      trim_leaves (bodies.Stream body) = trim_in_leaves r h r.control body
      trim_leaves (bodies.Append body) = refused_leaves body
      trim_leaves body = (h, tt)

      -- An answer leaves the Gets that wait as they were and shows none, but for bytes that have come for one of them.
      module _ (Is : List StreamAction → RangeOutcome → Type 0) (calm : (actions : List StreamAction) (o : RangeOutcome) → LeavesGets o → Is actions o) (w : ReqNo)
          (come : (e offset : ℕ) (bytes : List ℕ) → Is (Finds (record { extent = e; offset = offset; bytes = bytes }) ∷ []) (bytes_come d r w (place_of e offset bytes) bytes)) where
        bytes_elim : (body : ReadBody) → Is (if is_some (bytes_reply d r w body).after then bytes_told_actions body else []) (bytes_reply d r w body)
        bytes_elim (reads.Bytes v e offset bytes) = by (are_no_page (read_at r.gets w) bytes)
          where
            by : (b : Bool) → Is (if is_some (if b then answers d r [] else bytes_come d r w (place_of e offset bytes) bytes).after then Finds (record { extent = e; offset = offset; bytes = bytes }) ∷ [] else [])
                (if b then answers d r [] else bytes_come d r w (place_of e offset bytes) bytes)
            by true = calm _ _ (h, tt)
            by false = come e offset bytes
        bytes_elim body = calm _ _ (h, tt)

        gets_elim : (body : Body) → Is (if is_some (gets_reply d r w body).after then bytes_actions body else []) (gets_reply d r w body)
        gets_elim (bodies.Read body) = bytes_elim body
        gets_elim (bodies.Append body) = calm _ _ (refused_leaves body)
        gets_elim body = calm _ _ (h, tt)

        pub answer_elim : (body : Body) → Is (answer_actions d r w body (answer_rule d r w body)) (answer_rule d r w body)
        answer_elim body =
            by (load_awaits r.load.phase w) (awaits r.metadata.job w) (awaits r.log.job w) (awaits r.rows.job w) (reads_under r.reading w) (reads_page r.reading) (trim_awaits r.control w)
          where
            outcome : (a b c e f p g : Bool) → RangeOutcome
            outcome a b c e f p g =
                if a then load_reply d r body else if b then metadata_reply d r body else if c then log_reply d r body
                else if e then rows_reply d r body else if f then (if p then page_reply d r body else index_reply d r body) else if g then trim_reply d r body else gets_reply d r w body

            done : (a b c e f g : Bool) → RangeOutcome → List StreamAction
            done a b c e f g o =
                if a then load_actions r body else if b then metadata_actions d r body else if c then (if is_taken r body then log_actions d r body o else [])
                else if e then rows_actions d r body else if f then bytes_actions body else if g then [] else bytes_actions body

            by : (a b c e f p g : Bool) → Is (if is_some (outcome a b c e f p g).after then done a b c e f g (outcome a b c e f p g) else []) (outcome a b c e f p g)
            by true b c e f p g = calm _ _ (load_leaves body)
            by false true c e f p g = calm _ _ (metadata_leaves body)
            by false false true e f p g = calm _ _ (log_leaves body)
            by false false false true f p g = calm _ _ (rows_leaves body)
            by false false false false true true g = calm _ _ (page_leaves body)
            by false false false false true false g = calm _ _ (index_leaves body)
            by false false false false false p true = calm _ _ (trim_leaves body)
            by false false false false false p false = gets_elim body
