-- What each rule of a range leaves of the job of its row data, and that each request about extents is one that a client's job waits for.
use Rattle.std.proofs.Common.{◌≡◌, ◌⊎◌, ℕ, suc, true, not, ◌≤◌, ◌<◌, Bool, ◌&&◌, nat_lt, List, [], ◌∷◌, ◌++◌, Option, Some, None, refl, ◌∙◌, inl, inr, map, flat_map, slice_get, option_map, drop, length, ◌-◌, ◌+◌, ◌^◌, take, is_some, arith}
use Rattle.std.specs.Prelude.{option_to_list}
use Rattle.wire.specs.declared.actor.ActorId.{ActorId}
use Rattle.wire.specs.declared.actor.ReqNo.{ReqNo}
use Rattle.wire.specs.declared.actor.ReqNo.TheVariants as requests
use Rattle.wire.specs.declared.body.AppendBody.{AppendBody}
use Rattle.wire.specs.declared.body.AppendBody.TheVariants as appends
use Rattle.wire.specs.declared.body.ReadBody.{ReadBody}
use Rattle.wire.specs.declared.body.ReadBody.TheVariants as reads
use Rattle.wire.specs.declared.body.StreamBody.{StreamBody}
use Rattle.wire.specs.declared.body.StreamBody.TheVariants as streams
use Rattle.wire.specs.declared.body.Body.{Body}
use Rattle.wire.specs.declared.body.Body.TheVariants as bodies
use Rattle.wire.specs.declared.packet.Packet.{Packet}
use Rattle.wire.specs.declared.refusal.Refusal.{Refusal}
use Rattle.wire.specs.declared.refusal.Refusal.TheVariants as refusals
use Rattle.wire.specs.declared.streams.StreamExtent.{StreamExtent}
use Rattle.wire.specs.declared.streams.StreamLists.{StreamLists}
use Rattle.wire.specs.declared.streams.StreamKind.TheVariants as kinds
use Rattle.wire.specs.declared.transaction.Change.{Change}
use Rattle.client.specs.declared.job.Job.{Job}
use Rattle.client.specs.declared.job.Job.TheVariants as jobs
use Rattle.client.specs.declared.job.News.{News}
use Rattle.client.specs.declared.job.News.TheVariants as news
use Rattle.client.specs.declared.load.LoadPhase.{LoadPhase}
use Rattle.client.specs.declared.load.LoadPhase.TheVariants as phases
use Rattle.client.specs.Client.{ClientState, Outcome, append_rule, check_rule, reply_rule, read_sealed_rule, read_checked_rule, last_extent, awaits, new_client}
use Rattle.client.specs.Load.{LoadState, again, load_awaits}
use Rattle.block_types.specs.declared.record.Nodes.{Nodes}
use Rattle.memtable.specs.declared.cell.Place.{Place}
use Rattle.commitlog.specs.Record.{spelling}
use Rattle.metadata.specs.Record.{spelling as metadata_spelling}
use Rattle.commitlog.specs.Places.{kept}
use Rattle.memtable.specs.Entries.{Entries, put_all}
use Rattle.checkpoint_format.specs.declared.index.Index.{Index}
use Rattle.checkpoint_format.specs.Index.{index_at}
use Rattle.checkpoint_format.specs.Page.{entries_at}
use Rattle.checkpoint.specs.Merges.{MergeState, next_place, with_at_hand, with_page}
use Rattle.metadata.specs.Fold.{MetadataState, first_metadata}
use Rattle.metadata.specs.declared.record.IndexRange.{IndexRange}
use Rattle.metadata.specs.declared.record.Region.{Region}
use Rattle.model_streams.proofs.Tests.{if_elim}
use Rattle.model_partition.specs.declared.server_context.ServerContext.{ServerContext}
use Rattle.model_partition.specs.declared.stage.Stage.{Stage}
use Rattle.model_partition.specs.declared.stage.Stage.TheVariants.{Checking, Reading, Indexing}
use Rattle.model_partition.specs.declared.waiting.PlaceRead.{PlaceRead}
use Rattle.model_partition.specs.declared.waiting.WaitingGet.{WaitingGet}
use Rattle.model_partition.specs.declared.waiting.WaitingTransaction.{WaitingTransaction}
use Rattle.model_partition.specs.Range.{OutGroup, RangeState, RangeOutcome, request, used, refuses, waiting_out, refused_users, given, picking, is_serving}
use Rattle.model_partition.specs.Serving.{record_of, group_count, appends as appends_next, forms, transact_fault, transacts, transact_rule, committed, out_size, applies, log_done}
use Rattle.model_partition.specs.Server.{users_of}
use Rattle.model_partition.specs.PlaceReads.{is_place, place_of, places_of, reads_under, reads_page, moved_on, asks_again}
use Rattle.model_partition.specs.Loading.{Group, said_after, replayed, read_by, read_of, asks_index, index_named, reads_named, reads_index, installs, index_read, index_bytes, reads_log, first_position, reads_log_from, checks_log, begins_log, reads_metadata, begins_metadata, opens, says, metadata_news, replays, log_read, log_news, open_region, serves_from, serves, has_position}
use Rattle.model_partition.specs.Getting.{Lookup, Is, Needs, asks_place, answered, try_fault, try_unless, try, try_all, get_fault, gets, get_rule, are_no_page, bytes_rule, came, used_for, held_at, gives_up_read, gives_up_get, look, read_at, standing, without}
use Rattle.model_partition.specs.CheckpointStates.{CheckpointState}
use Rattle.model_partition.specs.declared.checkpoint_job.CheckpointPhase.{CheckpointPhase}
use Rattle.model_partition.specs.declared.checkpoint_job.CheckpointPhase.TheVariants as checkpoints
use Rattle.model_partition.specs.Checkpoints.{number_to_apply, have_bytes, new_job, new_combining_job, combines, with_fixed, with_phase, rows_go, writes_pages, combined_job, writes_combined, asks_page, merges_next, merges, page_comes, page_read, page_bytes, page_told, begins, checkpoint_rule, pages_stand, checkpoint_record, has_record_number, may_record, index_place, records, index_stands, rows_stand, rows_stand_at, rows_told, rows_may_stand, rows_reply, record_stands, record_told, trim_awaits, trim_told, trim_reply_in, phase_again, trim_again}
use Rattle.model_partition.specs.Answering.{load_refused, load_told, load_reply, metadata_reply, serving_news, is_taken, log_taken, log_reply, index_told, index_reply, page_reply, trim_reply, bytes_reply, gets_reply, answer_rule, gives_up_job, gives_up_reading, give_up_all, groups_of}
use Rattle.laws_clusters.proofs.ClientJobs.{AsksBy, AskedIf, IsUnder, JobFrom, ReadsNothing, given_asks, given_steps, append_steps, check_asks, read_sealed_asks, read_checked_asks, reply_steps, appended_idle, give_up_asks, give_up_from}

-- ---- what is sent

-- a request about extents is that of a job of the range
abbrev pub AsksIn : RangeState → Body → Type 0
AsksIn r body = AsksBy r.metadata body ⊎ (AsksBy r.log body ⊎ AsksBy r.rows body)

abbrev pub AllIn : RangeState → List Packet → Type 0
AllIn r [] = Unit {0}
AllIn r (p ∷ ps) = AsksIn r p.body × AllIn r ps

pub in_both : (r : RangeState) (xs ys : List Packet) → AllIn r xs → AllIn r ys → AllIn r (xs ++ ys)
in_both r [] ys a b = b
in_both r (x ∷ xs) ys a b = (a.0, in_both r xs ys a.1 b)

in_map : {A : Type 0} (r : RangeState) (f : A → Packet) → ((x : A) → AsksIn r (f x).body) → (xs : List A) → AllIn r (map f xs)
in_map r f h [] = tt
in_map r f h (x ∷ xs) = (h x, in_map r f h xs)

in_flat : {A : Type 0} (r : RangeState) (f : A → List Packet) → ((x : A) → AllIn r (f x)) → (xs : List A) → AllIn r (flat_map f xs)
in_flat r f h [] = tt
in_flat r f h (x ∷ xs) = in_both r (f x) (flat_map f xs) (h x) (in_flat r f h xs)

pub by_metadata : (r : RangeState) (p : Option Packet) → AskedIf r.metadata p → AllIn r (option_to_list p)
by_metadata r None h = tt
by_metadata r (Some p) h = (inl h, tt)

by_log : (r : RangeState) (p : Option Packet) → AskedIf r.log p → AllIn r (option_to_list p)
by_log r None h = tt
by_log r (Some p) h = (inr (inl h), tt)

by_rows : (r : RangeState) (p : Option Packet) → AskedIf r.rows p → AllIn r (option_to_list p)
by_rows r None h = tt
by_rows r (Some p) h = (inr (inr h), tt)

-- ---- what is left of the job of row data

-- every number that is waited for was not used before
abbrev pub IsFresh : ServerContext → ℕ → Job → Type 0
IsFresh d count job = (v : ReqNo) → awaits job v ≡ true → (k : ℕ) × (d.count ≤ k) × (k < count) × (v ≡ requests.Server d.server d.session k)

-- nothing is out, or what was out for the same group
abbrev pub IsOld : ClientState → ClientState → Type 0
IsOld c n = (n.job ≡ jobs.Idle) ⊎ ((n.job ≡ c.job) × (n.group ≡ c.group))

abbrev pub RowsFrom : ServerContext → ClientState → ℕ → ClientState → Type 0
RowsFrom d c count n = IsOld c n ⊎ IsFresh d count n.job

abbrev pub RowsIf : ServerContext → ClientState → ℕ → List Packet → Option RangeState → Type 0
RowsIf d c count packets None = (n : RangeState) → AllIn n packets
RowsIf d c count packets (Some r) = RowsFrom d c count r.rows × AllIn r packets

-- A rule leaves of the job of row data what was out, or one under a number that was not used, and each request about extents that it
-- sends is that of a job; a range that is dropped has no job, and tells its users alone.
abbrev pub LeavesRows : ServerContext → ClientState → RangeOutcome → Type 0
LeavesRows d c o = RowsIf d c o.count o.packets o.after

module _ (d : ServerContext) where
  -- a job under the number of a request of this step
  fresh_under : (count k : ℕ) (job : Job) → d.count ≤ k → k < count → IsUnder (requests.Server d.server d.session k) job → IsFresh d count job
  fresh_under count k job from below under v t = (k, from, below, under v t)

  from_step : (count k : ℕ) (c n : ClientState) → d.count ≤ k → k < count → JobFrom c (requests.Server d.server d.session k) n → RowsFrom d c count n
  from_step count k c n from below (inl idle) = inl (inl idle)
  from_step count k c n from below (inr (inl same)) = inl (inr same)
  from_step count k c n from below (inr (inr under)) = inr (fresh_under count k n.job from below under)

  refused_in : (r n : RangeState) → AllIn n (refused_users d r)
  refused_in r n =
      in_both n _ _
      (in_map n (λ (t : WaitingTransaction). refuses d t.from t.request refusals.NotOwner) (λ t. inl tt) (waiting_out r.out ++ r.queue))
      (in_map n (λ (g : WaitingGet). refuses d g.from g.request refusals.NotOwner) (λ g. inl tt) r.gets)

  -- a range that is dropped
  gone_in : (r n : RangeState) → AllIn n (refused_users d r)
  gone_in r = λ n. refused_in r n

  pub users_in : (n : RangeState) (known : Option RangeState) → AllIn n (users_of d known)
  users_in n None = tt
  users_in n (Some r) = refused_in r n

  -- ---- rules that leave row data as it is

  module _ (c : ClientState) where
    abbrev Leaves : RangeOutcome → Type 0
    Leaves o = LeavesRows d c o

    -- transactions

    appends_left : (r : RangeState) (n : ℕ) → IsOld c r.rows → Leaves (appends_next d r n)
    appends_left r n old =
        let l : ClientState = picking d r.log in
        let group : Group = spelling (record_of r.next (take n r.queue)) in
        let o : Outcome = given l (append_rule l (request d) group) in
        let s = given_steps l (request d) (append_rule l (request d) group) (append_steps l (request d) group) in
        let next : RangeState = record r { log = o.after; queue = drop n r.queue; out = Some (record { first = r.next; transactions = take n r.queue }); next = r.next + n } in
        (inl old, by_log next o.packet s.1)

    forms_left : (r : RangeState) → IsOld c r.rows → Leaves (forms d r)
    forms_left r old =
        if_elim Leaves (not (is_some r.out) && (nat_lt 0 (group_count d r) && nat_lt (r.next + group_count d r) (2 ^ 64))) _ _
        (λ t. appends_left r (group_count d r) old) (λ f. (inl old, tt))

    transacts_left : (r : RangeState) (from : ActorId) (q : ReqNo) (changes : List Change) (fault : Option Refusal) → IsOld c r.rows → Leaves (transacts d r from q changes fault)
    transacts_left r from q changes (Some refusal) old = (inl old, (inl tt, tt))
    transacts_left r from q changes None old = forms_left (record r { queue = r.queue ++ record { from = from; request = q; changes = changes } ∷ [] }) old

    committed_in : (n : RangeState) (s : ℕ) (ts : List WaitingTransaction) → AllIn n (committed d s ts)
    committed_in n s [] = tt
    committed_in n s (t ∷ ts) = (inl tt, committed_in n (suc s) ts)

    before_these : (packets : List Packet) (o : RangeOutcome) → ((n : RangeState) → AllIn n packets) → RowsIf d c o.count o.packets o.after → RowsIf d c o.count (packets ++ o.packets) o.after
    before_these packets o plain left = go o.after left
      where
        go : (a : Option RangeState) → RowsIf d c o.count o.packets a → RowsIf d c o.count (packets ++ o.packets) a
        go None left = λ n. in_both n packets o.packets (plain n) (left n)
        go (Some n) left = (left.0, in_both n packets o.packets (plain n) left.1)

    applies_left : (r : RangeState) (out : OutGroup) (extent offset : ℕ) → IsOld c r.rows → Leaves (applies d r out extent offset)
    applies_left r out extent offset old =
        let next : RangeState = record r {
          live = put_all r.live (flat_map (λ changes. changes) (kept (record_of out.first out.transactions) extent offset));
          position = record { index = (r.log.base + length r.log.extents) - 1; offset = offset + out_size out };
          out = None;
        } in
        before_these (committed d out.first out.transactions) (forms d next) (λ n. committed_in n out.first out.transactions) (forms_left next old)

    log_done_left : (r : RangeState) (out : Option OutGroup) (extent offset : ℕ) → IsOld c r.rows → Leaves (log_done d r out extent offset)
    log_done_left r None extent offset old = (inl old, tt)
    log_done_left r (Some out) extent offset old = applies_left r out extent offset old

    -- the load

    read_by_asks : (l : ClientState) (position : ℕ) (x : Option StreamExtent) → AskedIf (read_by d l position x).after (read_by d l position x).packet
    read_by_asks l position None = tt
    read_by_asks l position (Some x) =
        if_elim (λ z. AskedIf (given l z).after (given l z).packet) (is_some x.length) _ _
        (λ t. given_asks l (read_sealed_rule l (request d) position) (read_sealed_asks l (request d) position))
        (λ f. given_asks l (read_checked_rule l (request d)) (read_checked_asks l (request d)))

    asks_index_left : (r : RangeState) (position : ℕ) (index : IndexRange) (places : Option Nodes) → IsOld c r.rows → Leaves (asks_index d r position index places)
    asks_index_left r position index None old = gone_in r
    asks_index_left r position index (Some places) old = (inl old, (inl tt, tt))

    reads_named_left : (r : RangeState) (position : ℕ) (named : Option IndexRange) → IsOld c r.rows → Leaves (reads_named d r position named)
    reads_named_left r position None old = (inl old, (inl tt, tt))
    reads_named_left r position (Some index) old = asks_index_left r position index (places_of r index.place.extent) old

    reads_index_left : (r : RangeState) (position : ℕ) → IsOld c r.rows → Leaves (reads_index d r position)
    reads_index_left r position old = reads_named_left r position (index_named r.said.indexes position) old

    reads_log_left : (r : RangeState) (position : ℕ) → IsOld c r.rows → Leaves (reads_log d r position)
    reads_log_left r position old =
        let l : ClientState = picking d r.log in
        if_elim Leaves (nat_lt position (length r.log.extents)) _ _
        (λ t. (inl old, by_log (record r { stage = Reading kinds.Log position; log = (read_of d l position).after }) (read_of d l position).packet (read_by_asks l position (slice_get l.extents position))))
        (λ f. reads_index_left r 0 old)

    reads_log_from_left : (r : RangeState) (position : Option ℕ) → IsOld c r.rows → Leaves (reads_log_from d r position)
    reads_log_from_left r None old = gone_in r
    reads_log_from_left r (Some position) old = reads_log_left r position old

    checks_log_left : (r : RangeState) (x : Option StreamExtent) → IsOld c r.rows → Leaves (checks_log d r x)
    checks_log_left r None old = reads_log_from_left r (first_position r r.regions) old
    checks_log_left r (Some x) old =
        let l : ClientState = picking d r.log in
        if_elim Leaves (is_some x.length) _ _
        (λ t. reads_log_from_left r (first_position r r.regions) old)
        (λ f. (inl old, by_log (record r { stage = Checking kinds.Log; log = (given l (check_rule l (request d))).after }) (given l (check_rule l (request d))).packet (given_asks l (check_rule l (request d)) (check_asks l (request d)))))

    begins_log_left : (r : RangeState) → IsOld c r.rows → Leaves (begins_log d r)
    begins_log_left r old =
        if_elim Leaves (is_some (open_region r.said.regions) && is_some (first_position r r.said.regions)) _ _
        (λ t. checks_log_left (record r { regions = r.said.regions }) (last_extent r.log.extents) old)
        (λ f. gone_in r)

    reads_metadata_left : (r : RangeState) (position : ℕ) → IsOld c r.rows → Leaves (reads_metadata d r position)
    reads_metadata_left r position old =
        let m : ClientState = picking d r.metadata in
        if_elim Leaves (nat_lt position (length r.metadata.extents)) _ _
        (λ t. (inl old, by_metadata (record r { stage = Reading kinds.Metadata position; metadata = (read_of d m position).after }) (read_of d m position).packet (read_by_asks m position (slice_get m.extents position))))
        (λ f. begins_log_left r old)

    begins_metadata_left : (r : RangeState) (x : Option StreamExtent) → IsOld c r.rows → Leaves (begins_metadata d r x)
    begins_metadata_left r None old = begins_log_left r old
    begins_metadata_left r (Some x) old =
        let m : ClientState = picking d r.metadata in
        if_elim Leaves (is_some x.length) _ _
        (λ t. reads_metadata_left r 0 old)
        (λ f. (inl old, by_metadata (record r { stage = Checking kinds.Metadata; metadata = (given m (check_rule m (request d))).after }) (given m (check_rule m (request d))).packet (given_asks m (check_rule m (request d)) (check_asks m (request d)))))

    opens_left : (r : RangeState) (lists : StreamLists) → Leaves (opens d r lists)
    opens_left r lists =
        begins_metadata_left
        (record r {
          load = record r.load { phase = phases.Opened };
          metadata = new_client d.server (record { range = r.load.range; kind = kinds.Metadata }) r.load.generation lists.metadata d.pick;
          log = new_client d.server (record { range = r.load.range; kind = kinds.Log }) r.load.generation lists.log d.pick;
          rows = new_client d.server (record { range = r.load.range; kind = kinds.RowData }) r.load.generation lists.row_data d.pick;
          blob_data = lists.blob_data;
          said = first_metadata;
        })
        (last_extent lists.metadata.extents) (inl refl)

    says_left : (r : RangeState) (position : ℕ) (said : Option MetadataState) → IsOld c r.rows → Leaves (says d r position said)
    says_left r position None old = gone_in r
    says_left r position (Some said) old = reads_metadata_left (record r { said = said }) (suc position) old

    replays_left : (r : RangeState) (position : ℕ) (x : Option (List Region × Entries)) → IsOld c r.rows → Leaves (replays d r position x)
    replays_left r position None old = gone_in r
    replays_left r position (Some x) old = reads_log_left (record r { regions = x.0; live = x.1 }) (suc position) old

    log_read_left : (r : RangeState) (position e : ℕ) (groups : List Group) → IsOld c r.rows → Leaves (log_read d r position e groups)
    log_read_left r position e groups old =
        if_elim Leaves (nat_lt (r.log.base + position) (2 ^ 64)) _ _
        (λ t. replays_left r position (replayed r.said.keys e (record { index = r.log.base + position; offset = 0 }) (r.regions, r.live) groups) old)
        (λ f. gone_in r)

    metadata_news_left : (r : RangeState) (groups : List Group) (stage : Stage) (told : Option News) (packets : List Packet) → IsOld c r.rows → AllIn r packets → Leaves (metadata_news d r groups stage told packets)
    metadata_news_left r groups stage (Some news.Fenced) packets old h = gone_in r
    metadata_news_left r groups (Checking kind) (Some (news.Checked e l)) packets old h = reads_metadata_left r 0 old
    metadata_news_left r groups (Checking kind) (Some (news.Sealed e l)) packets old h = reads_metadata_left r 0 old
    metadata_news_left r groups (Reading kind position) (Some (news.Sealed e l)) packets old h = reads_metadata_left r position old
    metadata_news_left r groups (Reading kind position) (Some (news.Content e upto)) packets old h = says_left r position (said_after r.said groups) old
    metadata_news_left r groups stage told packets old h = (inl old, h)

    log_news_left : (r : RangeState) (groups : List Group) (stage : Stage) (told : Option News) (packets : List Packet) → IsOld c r.rows → AllIn r packets → Leaves (log_news d r groups stage told packets)
    log_news_left r groups stage (Some news.Fenced) packets old h = gone_in r
    log_news_left r groups (Checking kind) (Some (news.Checked e l)) packets old h = reads_log_from_left r (first_position r r.regions) old
    log_news_left r groups (Checking kind) (Some (news.Sealed e l)) packets old h = reads_log_from_left r (first_position r r.regions) old
    log_news_left r groups (Reading kind position) (Some (news.Sealed e l)) packets old h = reads_log_left r position old
    log_news_left r groups (Reading kind position) (Some (news.Content e upto)) packets old h = log_read_left r position e groups old
    log_news_left r groups stage told packets old h = (inl old, h)

    serves_from_left : (r : RangeState) (region : Option Region) → IsOld c r.rows → Leaves (serves_from d r region)
    serves_from_left r None old = gone_in r
    serves_from_left r (Some region) old = if_elim Leaves (nat_lt 0 region.next) _ _ (λ t. (inl old, tt)) (λ f. gone_in r)

    serves_left : (r : RangeState) → IsOld c r.rows → Leaves (serves d r)
    serves_left r old = if_elim Leaves (has_position r.log) _ _ (λ t. serves_from_left r (open_region r.regions) old) (λ f. gone_in r)

    installs_left : (r : RangeState) (position : ℕ) (named : Option IndexRange) (index : Option Index) → IsOld c r.rows → Leaves (installs d r position named index)
    installs_left r position (Some named) (Some index) old =
        reads_index_left (record r { indexes = record { place = named.place; keys = named.keys; index = index } ∷ r.indexes }) (suc position) old
    installs_left r position named index old = gone_in r

    index_read_left : (r : RangeState) (stage : Stage) (bytes : List ℕ) → IsOld c r.rows → Leaves (index_read d r stage bytes)
    index_read_left r (Indexing position) bytes old = installs_left r position (index_named r.said.indexes position) (index_at bytes) old
    index_read_left r stage bytes old = (inl old, tt)

    index_bytes_left : (r : RangeState) (reading : Option PlaceRead) (place : Place) (bytes : List ℕ) → IsOld c r.rows → Leaves (index_bytes d r reading place bytes)
    index_bytes_left r None place bytes old = (inl old, tt)
    index_bytes_left r (Some read) place bytes old = if_elim Leaves (is_place read.place place) _ _ (λ t. index_read_left r r.stage bytes old) (λ f. (inl old, tt))

    load_refused_left : (r : RangeState) (body : AppendBody) → IsOld c r.rows → Leaves (load_refused d r body)
    load_refused_left r (appends.Refused w refusals.Stale) old = gone_in r
    load_refused_left r body old = (inl old, tt)

    load_told_left : (r : RangeState) (phase : LoadPhase) (body : StreamBody) → IsOld c r.rows → Leaves (load_told d r phase body)
    load_told_left r (phases.Opening q) (streams.Opened w lists) old = opens_left r lists
    load_told_left r (phases.Confirming q) (streams.Confirmed w) old = serves_left r old
    load_told_left r phase body old = (inl old, tt)

    load_reply_left : (r : RangeState) (body : Body) → IsOld c r.rows → Leaves (load_reply d r body)
    load_reply_left r (bodies.Append body) old = load_refused_left r body old
    load_reply_left r (bodies.Stream body) old = load_told_left r r.load.phase body old
    load_reply_left r body old = (inl old, tt)

  -- ---- Gets

  answered_in : (k : ServerContext) (n r : RangeState) (g : WaitingGet) (found : Lookup) → AllIn n (answered k r g found).packets
  answered_in k n r g (Is value) = (inl tt, tt)
  answered_in k n r g (Needs page place) = go (places_of r place.extent)
    where
      go : (places : Option Nodes) → AllIn n (asks_place k g page place places).packets
      go None = tt
      go (Some places) = (inl tt, tt)

  try_in : (k : ServerContext) (n r : RangeState) (g : WaitingGet) → AllIn n (try k r g).packets
  try_in k n r g = go (try_fault k r)
    where
      go : (fault : Option Refusal) → AllIn n (try_unless k r g fault).packets
      go (Some why) = (inl tt, tt)
      go None = answered_in k n r g (look r.held r.indexes g.key (standing r g.key))

  try_all_in : (k : ServerContext) (n r : RangeState) (gs : List WaitingGet) → AllIn n (try_all k r gs).packets
  try_all_in k n r [] = tt
  try_all_in k n r (g ∷ gs) = in_both n (try k r g).packets _ (try_in k n r g) (try_all_in (record k { count = (try k r g).count }) n r gs)

  gets_left : (r : RangeState) (from : ActorId) (q : ReqNo) (key : List ℕ) (fault : Option Refusal) → LeavesRows d r.rows (gets d r from q key fault)
  gets_left r from q key (Some refusal) = (inl (inr (refl, refl)), (inl tt, tt))
  gets_left r from q key None =
      let g : WaitingGet = record { from = from; request = q; key = key; reads = [] } in
      let now : RangeState = record r { held = used_for r.held r.indexes key (standing r key) } in
      (inl (inr (refl, refl)), try_in d (record now { gets = r.gets ++ (try d r g).waiting }) r g)

  bytes_left : (r : RangeState) (w : ReqNo) (place : Place) (bytes : List ℕ) → LeavesRows d r.rows (bytes_rule d r w place bytes)
  bytes_left r w place bytes =
      let now : RangeState = record r { held = came r.held (read_at r.gets w) place bytes } in
      if_elim (LeavesRows d r.rows) (are_no_page (read_at r.gets w) bytes) _ _ (λ t. (inl (inr (refl, refl)), tt))
      (λ f. (inl (inr (refl, refl)), try_all_in d (record now { gets = [] ++ (try_all d now (map (without w) r.gets)).waiting }) now (map (without w) r.gets)))

  bytes_reply_left : (r : RangeState) (w : ReqNo) (body : ReadBody) → LeavesRows d r.rows (bytes_reply d r w body)
  bytes_reply_left r w (reads.Bytes v e offset bytes) = bytes_left r w (place_of e offset bytes) bytes
  bytes_reply_left r w body = (inl (inr (refl, refl)), tt)

  gets_reply_left : (r : RangeState) (w : ReqNo) (body : Body) → LeavesRows d r.rows (gets_reply d r w body)
  gets_reply_left r w (bodies.Read body) = bytes_reply_left r w body
  gets_reply_left r w (bodies.Append body) = load_refused_left r.rows r body (inr (refl, refl))
  gets_reply_left r w body = (inl (inr (refl, refl)), tt)

  -- ---- checkpoints

  rows_go_left : (c : ClientState) (r : RangeState) (next : CheckpointState × Option Group) → IsOld c r.rows → LeavesRows d c (rows_go d r next)
  rows_go_left c r (job, None) old = (inl old, tt)
  rows_go_left c r (job, Some group) old =
      let k : ClientState = picking d r.rows in
      let s = given_steps k (request d) (append_rule k (request d) group) (append_steps k (request d) group) in
      let o : Outcome = given k (append_rule k (request d) group) in
      (stepped o.after s.0 old, by_rows (record r { rows = o.after; control = Some job }) o.packet s.1)
    where
      stepped : (n : ClientState) → JobFrom r.rows (request d) n → IsOld c r.rows → RowsFrom d c (suc d.count) n
      stepped n (inl idle) old = inl (inl idle)
      stepped n (inr (inl same)) (inl idle) = inl (inl (same.0 ∙ idle))
      stepped n (inr (inl same)) (inr was) = inl (inr (same.0 ∙ was.0, same.1 ∙ was.1))
      stepped n (inr (inr under)) old = inr (fresh_under (suc d.count) d.count n.job (omega arith) (omega arith) under)

  writes_left : (c : ClientState) (r : RangeState) (job : CheckpointState) → IsOld c r.rows → LeavesRows d c (writes_pages d r job)
  writes_left c r job old = rows_go_left c r _ old

  -- a page is asked for, or what all pages come to is written
  writes_combined_left : (c : ClientState) (r : RangeState) (job : CheckpointState) (newer : Option Entries) → IsOld c r.rows → LeavesRows d c (writes_combined d r job newer)
  writes_combined_left c r job None old = (inl old, tt)
  writes_combined_left c r job (Some newer) old = writes_left c r (combined_job job newer) old

  asks_page_left : (c : ClientState) (r : RangeState) (place : Place) (places : Option Nodes) → IsOld c r.rows → LeavesRows d c (asks_page d r place places)
  asks_page_left c r place None old = (inl old, tt)
  asks_page_left c r place (Some places) old = (inl old, (inl tt, tt))

  merges_next_left : (c : ClientState) (r : RangeState) (job : CheckpointState) (place : Option Place) → IsOld c r.rows → LeavesRows d c (merges_next d r job place)
  merges_next_left c r job None old = writes_combined_left c r job r.fixed old
  merges_next_left c r job (Some place) old = asks_page_left c (record r { control = Some job }) place (places_of r place.extent) old

  merges_left : (c : ClientState) (r : RangeState) (job : CheckpointState) → IsOld c r.rows → LeavesRows d c (merges d r job)
  merges_left c r job old =
      let merge : MergeState = with_at_hand (held_at r.held) r.said.keys job.merge in
      merges_next_left c (record r { reading = None }) (record job { merge = merge }) (next_place merge) old

  records_left : (c : ClientState) (r : RangeState) (job : CheckpointState) (index : Place) → IsOld c r.rows → LeavesRows d c (records d r job index)
  records_left c r job index old =
      let m : ClientState = picking d r.metadata in
      let group : Group = metadata_spelling (checkpoint_record r job index) ∷ [] in
      let s = given_steps m (request d) (append_rule m (request d) group) (append_steps m (request d) group) in
      let o : Outcome = given m (append_rule m (request d) group) in
      (inl old, by_metadata (record r { metadata = o.after; control = Some (with_phase job (checkpoints.Record index)) }) o.packet s.1)

  index_stands_left : (c : ClientState) (r : RangeState) (job : CheckpointState) (e offset : ℕ) → IsOld c r.rows → LeavesRows d c (index_stands d r job e offset)
  index_stands_left c r job e offset old =
      if_elim (LeavesRows d c) (may_record r job) _ _ (λ t. records_left c r job (index_place job e offset) old) (λ f. (inl old, tt))

  rows_stand_left : (c : ClientState) (r : RangeState) (job : CheckpointState) (phase : CheckpointPhase) (e offset : ℕ) → IsOld c r.rows → LeavesRows d c (rows_stand d r job phase e offset)
  rows_stand_left c r job checkpoints.Pages e offset old = writes_left c r (pages_stand job e offset) old
  rows_stand_left c r job checkpoints.Index e offset old = index_stands_left c r job e offset old
  rows_stand_left c r job phase e offset old = (inl old, tt)

  stand_at_left : (c : ClientState) (r : RangeState) (job : CheckpointState) (e offset : ℕ) → IsOld c r.rows → LeavesRows d c (rows_stand_at d r job e offset)
  stand_at_left c r job e offset old = if_elim (LeavesRows d c) (nat_lt e (2 ^ 64)) _ _ (λ t. rows_stand_left c r job job.phase e offset old) (λ f. (inl old, tt))

  -- an append that was answered leaves no job
  rows_told_left : (c : ClientState) (r : RangeState) (job : Option CheckpointState) (told : Option News) (packets : List Packet) → RowsFrom d c (suc d.count) r.rows →
      ((e offset : ℕ) → told ≡ Some (news.Appended e offset) → IsOld c r.rows) → AllIn r packets → LeavesRows d c (rows_told d r job told packets)
  rows_told_left c r job (Some news.Fenced) packets from old h = gone_in r
  rows_told_left c r (Some job) (Some (news.Appended e offset)) packets from old h = stand_at_left c r job e offset (old e offset refl)
  rows_told_left c r None (Some (news.Appended e offset)) packets from old h = (from, h)
  rows_told_left c r None (Some (news.Checked e l)) packets from old h = (from, h)
  rows_told_left c r None (Some (news.Sealed e l)) packets from old h = (from, h)
  rows_told_left c r None (Some (news.Content e upto)) packets from old h = (from, h)
  rows_told_left c r None None packets from old h = (from, h)
  rows_told_left c r (Some job) told packets from old h = (from, h)

  rows_reply_left : (r : RangeState) (body : Body) → LeavesRows d r.rows (rows_reply d r body)
  rows_reply_left r body =
      let c : ClientState = picking d r.rows in
      let o : Outcome = reply_rule c (request d) body in
      let s = reply_steps c (request d) body in
      if_elim (LeavesRows d r.rows) (rows_may_stand r.control body) _ _
      (λ t. rows_told_left r.rows (record r { rows = o.after }) r.control o.news (option_to_list o.packet)
      (from_step (suc d.count) d.count r.rows o.after (omega arith) (omega arith) s.0)
      (λ e offset told. inl (appended_idle c (request d) body e offset told)) (by_rows (record r { rows = o.after }) o.packet s.1))
      (λ f. (inl (inr (refl, refl)), tt))

  record_stands_left : (r : RangeState) (job : CheckpointState) (phase : CheckpointPhase) → LeavesRows d r.rows (record_stands d r job phase)
  record_stands_left r job (checkpoints.Record index) = if_elim (LeavesRows d r.rows) (has_record_number r) _ _ (λ t. (inl (inr (refl, refl)), (inl tt, tt))) (λ f. (inl (inr (refl, refl)), tt))
  record_stands_left r job phase = (inl (inr (refl, refl)), tt)

  record_told_left : (r : RangeState) (job : Option CheckpointState) (told : Option News) (packets : List Packet) → AllIn r packets → LeavesRows d r.rows (record_told d r job told packets)
  record_told_left r job (Some news.Fenced) packets h = gone_in r
  record_told_left r (Some job) (Some (news.Appended e offset)) packets h = record_stands_left r job job.phase
  record_told_left r job told packets h = (inl (inr (refl, refl)), h)

  trim_told_left : (r : RangeState) (phase : CheckpointPhase) (body : StreamBody) → LeavesRows d r.rows (trim_told d r phase body)
  trim_told_left r (checkpoints.Trim before to_blob q) (streams.Trimmed w) = (inl (inr (refl, refl)), tt)
  trim_told_left r phase body = (inl (inr (refl, refl)), tt)

  trim_reply_in_left : (r : RangeState) (job : Option CheckpointState) (body : StreamBody) → LeavesRows d r.rows (trim_reply_in d r job body)
  trim_reply_in_left r None body = (inl (inr (refl, refl)), tt)
  trim_reply_in_left r (Some job) body = trim_told_left r job.phase body

  -- ---- answers

  metadata_reply_left : (r : RangeState) (body : Body) → LeavesRows d r.rows (metadata_reply d r body)
  metadata_reply_left r body =
      let c : ClientState = picking d r.metadata in
      let o : Outcome = reply_rule c (request d) body in
      let now : RangeState = record r { metadata = o.after } in
      let all : AllIn now (option_to_list o.packet) = by_metadata now o.packet (reply_steps c (request d) body).1 in
      if_elim (LeavesRows d r.rows) (is_serving r.stage) _ _
      (λ t. record_told_left now r.control o.news (option_to_list o.packet) all)
      (λ f. metadata_news_left r.rows now (groups_of body) r.stage o.news (option_to_list o.packet) (inr (refl, refl)) all)

  serving_news_left : (r : RangeState) (told : Option News) (packets : List Packet) → AllIn r packets → LeavesRows d r.rows (serving_news d r told packets)
  serving_news_left r (Some news.Fenced) packets h = gone_in r
  serving_news_left r (Some (news.Appended e offset)) packets h = log_done_left r.rows r r.out e offset (inr (refl, refl))
  serving_news_left r told packets h = (inl (inr (refl, refl)), h)

  log_taken_left : (r : RangeState) (body : Body) → LeavesRows d r.rows (log_taken d r body)
  log_taken_left r body =
      let c : ClientState = picking d r.log in
      let o : Outcome = reply_rule c (request d) body in
      let now : RangeState = record r { log = o.after } in
      let all : AllIn now (option_to_list o.packet) = by_log now o.packet (reply_steps c (request d) body).1 in
      if_elim (LeavesRows d r.rows) (is_serving r.stage) _ _
      (λ t. serving_news_left now o.news (option_to_list o.packet) all)
      (λ f. log_news_left r.rows now (groups_of body) r.stage o.news (option_to_list o.packet) (inr (refl, refl)) all)

  log_reply_left : (r : RangeState) (body : Body) → LeavesRows d r.rows (log_reply d r body)
  log_reply_left r body = if_elim (LeavesRows d r.rows) (is_taken r body) _ _ (λ t. log_taken_left r body) (λ f. (inl (inr (refl, refl)), tt))

  index_told_left : (r : RangeState) (body : ReadBody) → LeavesRows d r.rows (index_told d r body)
  index_told_left r (reads.Bytes w e offset bytes) = index_bytes_left r.rows r r.reading (place_of e offset bytes) bytes (inr (refl, refl))
  index_told_left r body = (inl (inr (refl, refl)), tt)

  index_reply_left : (r : RangeState) (body : Body) → LeavesRows d r.rows (index_reply d r body)
  index_reply_left r (bodies.Read body) = index_told_left r body
  index_reply_left r (bodies.Append body) = load_refused_left r.rows r body (inr (refl, refl))
  index_reply_left r body = (inl (inr (refl, refl)), tt)

  page_comes_left : (r : RangeState) (job : CheckpointState) (place : Option Place) (entries : Entries) → LeavesRows d r.rows (page_comes d r job place entries)
  page_comes_left r job None entries = (inl (inr (refl, refl)), tt)
  page_comes_left r job (Some place) entries = merges_left r.rows r (record job { merge = with_page r.said.keys job.merge entries }) (inr (refl, refl))

  page_read_left : (r : RangeState) (job : Option CheckpointState) (entries : Option Entries) → LeavesRows d r.rows (page_read d r job entries)
  page_read_left r None entries = (inl (inr (refl, refl)), tt)
  page_read_left r (Some job) None = (inl (inr (refl, refl)), tt)
  page_read_left r (Some job) (Some entries) = page_comes_left r job (next_place job.merge) entries

  page_bytes_left : (r : RangeState) (reading : Option PlaceRead) (place : Place) (bytes : List ℕ) → LeavesRows d r.rows (page_bytes d r reading place bytes)
  page_bytes_left r None place bytes = (inl (inr (refl, refl)), tt)
  page_bytes_left r (Some read) place bytes =
      if_elim (LeavesRows d r.rows) (is_place read.place place) _ _ (λ t. page_read_left r r.control (entries_at bytes)) (λ f. (inl (inr (refl, refl)), tt))

  page_told_left : (r : RangeState) (body : ReadBody) → LeavesRows d r.rows (page_told d r body)
  page_told_left r (reads.Bytes w e offset bytes) = page_bytes_left r r.reading (place_of e offset bytes) bytes
  page_told_left r body = (inl (inr (refl, refl)), tt)

  page_reply_left : (r : RangeState) (body : Body) → LeavesRows d r.rows (page_reply d r body)
  page_reply_left r (bodies.Read body) = page_told_left r body
  page_reply_left r (bodies.Append body) = load_refused_left r.rows r body (inr (refl, refl))
  page_reply_left r body = (inl (inr (refl, refl)), tt)

  trim_reply_left : (r : RangeState) (body : Body) → LeavesRows d r.rows (trim_reply d r body)
  trim_reply_left r (bodies.Stream body) = trim_reply_in_left r r.control body
  trim_reply_left r (bodies.Append body) = load_refused_left r.rows r body (inr (refl, refl))
  trim_reply_left r body = (inl (inr (refl, refl)), tt)

  pub answer_leaves : (r : RangeState) (w : ReqNo) (body : Body) → LeavesRows d r.rows (answer_rule d r w body)
  answer_leaves r w body =
      if_elim (LeavesRows d r.rows) (load_awaits r.load.phase w) _ _
      (λ t. load_reply_left r.rows r body (inr (refl, refl)))
      (λ f. if_elim (LeavesRows d r.rows) (awaits r.metadata.job w) _ _
      (λ t. metadata_reply_left r body)
      (λ g. if_elim (LeavesRows d r.rows) (awaits r.log.job w) _ _
      (λ t. log_reply_left r body)
      (λ h. if_elim (LeavesRows d r.rows) (awaits r.rows.job w) _ _
      (λ t. rows_reply_left r body)
      (λ i. if_elim (LeavesRows d r.rows) (reads_under r.reading w) _ _
      (λ t. if_elim (LeavesRows d r.rows) (reads_page r.reading) _ _ (λ k. page_reply_left r body) (λ k. index_reply_left r body))
      (λ j. if_elim (LeavesRows d r.rows) (trim_awaits r.control w) _ _
      (λ t. trim_reply_left r body)
      (λ k. gets_reply_left r w body))))))

  pub transact_leaves : (r : RangeState) (from : ActorId) (q : ReqNo) (changes : List Change) → LeavesRows d r.rows (transact_rule d r from q changes)
  transact_leaves r from q changes = transacts_left r.rows r from q changes (transact_fault d r changes) (inr (refl, refl))

  pub get_leaves : (r : RangeState) (from : ActorId) (q : ReqNo) (key : List ℕ) → LeavesRows d r.rows (get_rule d r from q key)
  get_leaves r from q key = gets_left r from q key (get_fault d r key)

  pub begins_leaves : (r : RangeState) (combine : Bool) → LeavesRows d r.rows (begins d r combine)
  begins_leaves r combine =
      if_elim (LeavesRows d r.rows) (combines combine r.indexes) _ _
      (λ k. merges_left r.rows (with_fixed r) (new_combining_job r) (inr (refl, refl)))
      (λ k. writes_left r.rows (with_fixed r) (new_job r) (inr (refl, refl)))

  pub checkpoint_leaves : (r : RangeState) (combine : Bool) → LeavesRows d r.rows (checkpoint_rule d r combine)
  checkpoint_leaves r combine =
      if_elim (LeavesRows d r.rows) (have_bytes r.live r.position (number_to_apply r.out r.next)) _ _ (λ t. begins_leaves r combine) (λ f. (inl (inr (refl, refl)), tt))

  -- ---- giving up

  again_in : (n : RangeState) (l : LoadState) (phase : LoadPhase) → AllIn n (option_to_list (again l phase))
  again_in n l (phases.Opening q) = (inl tt, tt)
  again_in n l (phases.Confirming q) = (inl tt, tt)
  again_in n l phases.Opened = tt
  again_in n l phases.Confirmed = tt
  again_in n l phases.Fenced = tt

  asks_again_in : (n : RangeState) (read : PlaceRead) (places : Option Nodes) → AllIn n (asks_again d read places)
  asks_again_in n read None = tt
  asks_again_in n read (Some places) = (inl tt, tt)

  gives_up_read_in : (n r : RangeState) (g : WaitingGet) (read : Option PlaceRead) → AllIn n (gives_up_read d r g read).1
  gives_up_read_in n r g None = tt
  gives_up_read_in n r g (Some read) = asks_again_in n (moved_on read) (places_of r read.place.extent)

  gives_up_reading_in : (n r : RangeState) (reading : Option PlaceRead) → AllIn n (gives_up_reading d r reading)
  gives_up_reading_in n r None = tt
  gives_up_reading_in n r (Some read) = asks_again_in n (moved_on read) (places_of r read.place.extent)

  phase_again_in : (n r : RangeState) (phase : CheckpointPhase) → AllIn n (phase_again d r phase)
  phase_again_in n r (checkpoints.Trim before to_blob q) = (inl tt, tt)
  phase_again_in n r phase = tt

  trim_again_in : (n r : RangeState) (job : Option CheckpointState) → AllIn n (trim_again d r job)
  trim_again_in n r None = tt
  trim_again_in n r (Some job) = phase_again_in n r job.phase

  pub give_up_leaves : (r : RangeState) → ReadsNothing r.rows.job → LeavesRows d r.rows (give_up_all d r)
  give_up_leaves r no_read =
      let l : Outcome = gives_up_job d r.log in
      let m : Outcome = gives_up_job (used d) r.metadata in
      let w : Outcome = gives_up_job (used (used d)) r.rows in
      let n : RangeState = record r { metadata = m.after; log = l.after; rows = w.after; reading = option_map moved_on r.reading; gets = map (λ g. (gives_up_get d r g).0) r.gets } in (
        from_step (suc (suc (suc d.count))) (suc (suc d.count)) r.rows w.after (omega arith) (omega arith) (give_up_from (picking d r.rows) (request (used (used d))) d.pick no_read),
        in_both n (option_to_list (again r.load r.load.phase)) _ (again_in n r.load r.load.phase)
            (in_both n (option_to_list l.packet) _ (by_log n l.packet (give_up_asks (picking d r.log) (request d) d.pick))
            (in_both n (option_to_list m.packet) _ (by_metadata n m.packet (give_up_asks (picking d r.metadata) (request (used d)) d.pick))
            (in_both n (option_to_list w.packet) _ (by_rows n w.packet (give_up_asks (picking d r.rows) (request (used (used d))) d.pick))
            (in_both n (gives_up_reading d r r.reading) _ (gives_up_reading_in n r r.reading)
            (in_both n (trim_again d r r.control) _ (trim_again_in n r r.control)
            (in_flat n (λ (g : WaitingGet). (gives_up_get d r g).1) (λ g. gives_up_read_in n r g (slice_get g.reads (length g.reads - 1))) r.gets)))))),
      )
