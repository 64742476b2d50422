-- A step of a range keeps it where it stands in its load, or takes it on there, under its lease; it opens no range and asks for no split, and
-- shows no load but its own.
use Rattle.std.proofs.Common.{◌≡◌, ◌⊎◌, ◌≤◌, ℕ, suc, true, not, refl, sym, subst, inl, inr, Bool, ◌&&◌, nat_lt, List, [], ◌∷◌, ◌++◌, Option, Some, None, map, flat_map, slice_get, length, ◌-◌, ◌+◌, ◌^◌, take, is_some, arith}
use Rattle.std.specs.Prelude.{option_to_list}
use Rattle.block_types.specs.declared.record.Nodes.{Nodes}
use Rattle.wire.specs.declared.actor.ActorId.{ActorId}
use Rattle.wire.specs.declared.actor.ReqNo.{ReqNo}
use Rattle.wire.specs.declared.body.AppendBody.{AppendBody}
use Rattle.wire.specs.declared.body.AppendBody.TheVariants as appends
use Rattle.wire.specs.declared.body.ReadBody.{ReadBody}
use Rattle.wire.specs.declared.body.ReadBody.TheVariants as reads
use Rattle.wire.specs.declared.body.StreamBody.{StreamBody}
use Rattle.wire.specs.declared.body.StreamBody.TheVariants as streams
use Rattle.wire.specs.declared.body.Body.{Body}
use Rattle.wire.specs.declared.body.Body.TheVariants as bodies
use Rattle.wire.specs.declared.packet.Packet.{Packet}
use Rattle.wire.specs.declared.refusal.Refusal.{Refusal}
use Rattle.wire.specs.declared.refusal.Refusal.TheVariants as refusals
use Rattle.wire.specs.declared.streams.StreamExtent.{StreamExtent}
use Rattle.wire.specs.declared.streams.StreamLists.{StreamLists}
use Rattle.wire.specs.declared.streams.StreamKind.TheVariants as kinds
use Rattle.wire.specs.declared.transaction.Change.{Change}
use Rattle.client.specs.declared.job.News.{News}
use Rattle.client.specs.declared.job.News.TheVariants as news
use Rattle.client.specs.declared.load.LoadPhase.{LoadPhase}
use Rattle.client.specs.declared.load.LoadPhase.TheVariants as phases
use Rattle.client.specs.Client.{ClientState, Outcome, append_rule, check_rule, reply_rule, read_sealed_rule, read_checked_rule, last_extent, awaits, new_client}
use Rattle.client.specs.Load.{LoadState, again, load_awaits}
use Rattle.memtable.specs.declared.cell.Place.{Place}
use Rattle.commitlog.specs.Record.{spelling}
use Rattle.metadata.specs.Record.{spelling as metadata_spelling}
use Rattle.commitlog.specs.Places.{kept}
use Rattle.memtable.specs.Entries.{Entries, put_all}
use Rattle.checkpoint_format.specs.declared.index.Index.{Index}
use Rattle.checkpoint_format.specs.Index.{index_at}
use Rattle.checkpoint_format.specs.Page.{entries_at}
use Rattle.metadata.specs.Fold.{MetadataState, first_metadata}
use Rattle.metadata.specs.declared.record.IndexRange.{IndexRange}
use Rattle.metadata.specs.declared.record.Region.{Region}
use Rattle.checkpoint.specs.Merges.{MergeState, next_place, with_at_hand, with_page}
use Rattle.checkpoint.specs.PageGroups.{next_group}
use Rattle.model_streams.proofs.Tests.{if_elim}
use Rattle.model_partition.specs.declared.server_context.ServerContext.{ServerContext}
use Rattle.model_partition.specs.declared.stage.Stage.{Stage}
use Rattle.model_partition.specs.declared.stage.Stage.TheVariants.{Checking, Reading, Indexing}
use Rattle.model_partition.specs.declared.stage.Stage.TheVariants as stages
use Rattle.model_partition.specs.declared.table_note.TableNote.{TableNote}
use Rattle.model_partition.specs.declared.table_note.TableNote.TheVariants as tables
use Rattle.model_partition.specs.declared.waiting.PlaceRead.{PlaceRead}
use Rattle.model_partition.specs.declared.waiting.WaitingGet.{WaitingGet}
use Rattle.model_partition.specs.declared.waiting.WaitingTransaction.{WaitingTransaction}
use Rattle.model_partition.specs.Range.{OutGroup, RangeState, RangeOutcome, request, used, refuses, waiting_out, refused_users, dropped, given, picking, is_serving}
use Rattle.model_partition.specs.Serving.{record_of, group_count, began, dones, appends as appends_next, forms, transact_fault, transacts, transact_rule, committed, out_size, applies, log_done}
use Rattle.model_partition.specs.PlaceReads.{is_place, place_of, places_of, reads_under, reads_page, moved_on, asks_again}
use Rattle.model_partition.specs.Loading.{Group, said_after, replayed, read_by, read_of, asks_index, index_named, reads_named, reads_index, installs, index_read, index_bytes, reads_log, first_position, reads_log_from, checks_log, begins_log, reads_metadata, begins_metadata, opens, says, metadata_news, replays, log_read, log_news, open_region, serves_from, serves, has_position}
use Rattle.model_partition.specs.Getting.{Tried, Lookup, Is, Needs, asks_place, answered, try_fault, try_unless, try, try_all, get_fault, gets, get_rule, are_no_page, bytes_rule, came, held_at, gives_up_read, gives_up_get, look, read_at, standing, without}
use Rattle.model_partition.specs.CheckpointStates.{CheckpointState}
use Rattle.model_partition.specs.declared.checkpoint_job.CheckpointPhase.{CheckpointPhase}
use Rattle.model_partition.specs.declared.checkpoint_job.CheckpointPhase.TheVariants as checkpoints
use Rattle.model_partition.specs.Checkpoints.{number_to_apply, have_bytes, new_job, new_combining_job, combines, with_fixed, next_append, rows_go, writes_pages, combined_job, writes_combined, asks_page, merges_next, merges, page_comes, page_read, page_bytes, page_told, begins, checkpoint_rule, pages_stand, checkpoint_record, has_record_number, may_record, index_place, records, index_stands, rows_stand, rows_told, rows_may_stand, rows_reply, record_stands, record_told, trim_awaits, trim_told, trim_reply_in, phase_again, trim_again}
use Rattle.model_partition.specs.ControlJobs.{give_up_control}
use Rattle.model_partition.specs.Answering.{load_refused, load_told, load_reply, metadata_reply, serving_news, is_taken, log_taken, log_reply, index_told, index_reply, page_reply, trim_reply, bytes_reply, gets_reply, answer_rule, gives_up_job, gives_up_reading, give_up_all, groups_of}
use Rattle.laws_map.specs.Openings.{AreQuiet, IsBeyond, IsWaiting}
use Rattle.laws_map.proofs.RangeNames.{no_less, one_up, on_and_on}
use Rattle.laws_map.proofs.QuietClients.{quiet_both, quiet_map, quiet_flat, listed, IsQuietStep, given_quiet, check_rule_quiet, read_sealed_quiet, read_checked_quiet, reply_quiet, append_rule_quiet, give_up_quiet}

-- ---- reads of the load

read_by_quiet : (d : ServerContext) (c : ClientState) (position : ℕ) (x : Option StreamExtent) → IsQuietStep (read_by d c position x)
read_by_quiet d c position None = tt
read_by_quiet d c position (Some x) =
    if_elim (λ z. IsQuietStep (given c z)) (is_some x.length) _ _
    (λ t. given_quiet c (read_sealed_rule c (request d) position) (read_sealed_quiet c (request d) position))
    (λ f. given_quiet c (read_checked_rule c (request d)) (read_checked_quiet c (request d)))

-- ---- steps that leave the load where it is

module _ (P : ℕ → LoadState → Stage → Type 0) where
  -- of the end of its lease, its load and its stage
  abbrev pub Has : RangeState → Type 0
  Has r = P r.until r.load r.stage

  abbrev pub IfHas : Option RangeState → Type 0
  IfHas None = Unit {0}
  IfHas (Some r) = Has r

  -- a load that is shown is one of which this is so, and whose streams were told
  pub record IsLoadOf (range generation : ℕ) : Type 0 where
    pub until : ℕ
    pub load : LoadState
    pub stage : Stage
    pub stands : P until load stage
    pub beyond : IsBeyond load.phase
    pub range_is : range ≡ load.range
    pub generation_is : generation ≡ load.generation

  abbrev pub ShowLoads : List TableNote → Type 0
  ShowLoads [] = Unit {0}
  ShowLoads (tables.Began range generation number changes ∷ notes) = ShowLoads notes
  ShowLoads (tables.Done range generation number ∷ notes) = ShowLoads notes
  ShowLoads (tables.Got range generation key value ∷ notes) = ShowLoads notes
  ShowLoads (tables.Loaded range generation table next ∷ notes) = IsLoadOf range generation × ShowLoads notes

  -- it is left so, if at all; it is quiet; numbers go up; and it shows no other load
  abbrev pub Good : ServerContext → RangeOutcome → Type 0
  Good d o = IfHas o.after × AreQuiet o.packets × (d.count ≤ o.count) × ShowLoads o.notes

  -- ---- steps

  pub refused_for : (d : ServerContext) (r : RangeState) → AreQuiet (refused_users d r)
  refused_for d r =
      quiet_both _ _
      (quiet_map (λ (t : WaitingTransaction). refuses d t.from t.request refusals.NotOwner) (λ t. tt) (waiting_out r.out ++ r.queue))
      (quiet_map (λ (g : WaitingGet). refuses d g.from g.request refusals.NotOwner) (λ g. tt) r.gets)

  dropped_good : (d : ServerContext) (r : RangeState) → Good d (dropped d r)
  dropped_good d r = (tt, refused_for d r, one_up d.count, tt)

  -- ---- transactions

  began_none : (range g s : ℕ) (ts : List WaitingTransaction) → ShowLoads (began range g s ts)
  began_none range g s [] = tt
  began_none range g s (t ∷ ts) = began_none range g (suc s) ts

  dones_none : (range g s : ℕ) (ts : List WaitingTransaction) (notes : List TableNote) → ShowLoads notes → ShowLoads (dones range g s ts ++ notes)
  dones_none range g s [] notes h = h
  dones_none range g s (t ∷ ts) notes h = dones_none range g (suc s) ts notes h

  appends_good : (d : ServerContext) (r : RangeState) (n : ℕ) → Has r → Good d (appends_next d r n)
  appends_good d r n u =
      let c : ClientState = picking d r.log in
      let o = append_rule c (request d) (spelling (record_of r.next (take n r.queue))) in
      let k = given_quiet c o (append_rule_quiet c (request d) (spelling (record_of r.next (take n r.queue)))) in
      (u, listed (given c o).packet k, one_up d.count, began_none r.load.range r.load.generation r.next (take n r.queue))

  forms_good : (d : ServerContext) (r : RangeState) → Has r → Good d (forms d r)
  forms_good d r u =
      if_elim (Good d) (not (is_some r.out) && (nat_lt 0 (group_count d r) && nat_lt (r.next + group_count d r) (2 ^ 64))) _ _
      (λ t. appends_good d r (group_count d r) u) (λ f. (u, tt, one_up d.count, tt))

  transacts_good : (d : ServerContext) (r : RangeState) (from : ActorId) (q : ReqNo) (changes : List Change) (fault : Option Refusal) → Has r → Good d (transacts d r from q changes fault)
  transacts_good d r from q changes (Some refusal) u = (u, (tt, tt), no_less d.count, tt)
  transacts_good d r from q changes None u =
      forms_good d (record r { queue = r.queue ++ record { from = from; request = q; changes = changes } ∷ [] }) u

  pub transact_good : (d : ServerContext) (r : RangeState) (from : ActorId) (q : ReqNo) (changes : List Change) → Has r → Good d (transact_rule d r from q changes)
  transact_good d r from q changes u = transacts_good d r from q changes (transact_fault d r changes) u

  committed_for : (d : ServerContext) (s : ℕ) (ts : List WaitingTransaction) → AreQuiet (committed d s ts)
  committed_for d s [] = tt
  committed_for d s (t ∷ ts) = (tt, committed_for d (suc s) ts)

  applies_good : (d : ServerContext) (r : RangeState) (out : OutGroup) (extent offset : ℕ) → Has r → Good d (applies d r out extent offset)
  applies_good d r out extent offset u =
      let next : RangeState = record r {
        live = put_all r.live (flat_map (λ changes. changes) (kept (record_of out.first out.transactions) extent offset));
        position = record { index = (r.log.base + length r.log.extents) - 1; offset = offset + out_size out };
        out = None;
      } in
      let g = forms_good d next u in
      (g.0, quiet_both (committed d out.first out.transactions) (forms d next).packets (committed_for d out.first out.transactions) g.1, g.2, dones_none r.load.range r.load.generation out.first out.transactions (forms d next).notes g.3)

  log_done_good : (d : ServerContext) (r : RangeState) (out : Option OutGroup) (extent offset : ℕ) → Has r → Good d (log_done d r out extent offset)
  log_done_good d r None extent offset u = (u, tt, one_up d.count, tt)
  log_done_good d r (Some out) extent offset u = applies_good d r out extent offset u

  -- ---- Gets

  abbrev Asked : ServerContext → Tried → Type 0
  Asked d t = AreQuiet t.packets × (d.count ≤ t.count) × ShowLoads t.notes

  loads_both : (xs ys : List TableNote) → ShowLoads xs → ShowLoads ys → ShowLoads (xs ++ ys)
  loads_both [] ys a b = b
  loads_both (tables.Began range generation number changes ∷ xs) ys a b = loads_both xs ys a b
  loads_both (tables.Done range generation number ∷ xs) ys a b = loads_both xs ys a b
  loads_both (tables.Got range generation key value ∷ xs) ys a b = loads_both xs ys a b
  loads_both (tables.Loaded range generation table next ∷ xs) ys a b = (a.0, loads_both xs ys a.1 b)

  asks_place_asked : (d : ServerContext) (g : WaitingGet) (page : Bool) (place : Place) (places : Option Nodes) → Asked d (asks_place d g page place places)
  asks_place_asked d g page place None = (tt, no_less d.count, tt)
  asks_place_asked d g page place (Some places) = ((tt, tt), one_up d.count, tt)

  answered_asked : (d : ServerContext) (r : RangeState) (g : WaitingGet) (found : Lookup) → Asked d (answered d r g found)
  answered_asked d r g (Is value) = ((tt, tt), no_less d.count, tt)
  answered_asked d r g (Needs page place) = asks_place_asked d g page place (places_of r place.extent)

  try_asked : (d : ServerContext) (r : RangeState) (g : WaitingGet) → Asked d (try d r g)
  try_asked d r g = go (try_fault d r)
    where
      go : (fault : Option Refusal) → Asked d (try_unless d r g fault)
      go (Some why) = ((tt, tt), no_less d.count, tt)
      go None = answered_asked d r g (look r.held r.indexes g.key (standing r g.key))

  try_all_asked : (d : ServerContext) (r : RangeState) (gs : List WaitingGet) → Asked d (try_all d r gs)
  try_all_asked d r [] = (tt, no_less d.count, tt)
  try_all_asked d r (g ∷ gs) =
      let one = try_asked d r g in
      let others = try_all_asked (record d { count = (try d r g).count }) r gs in
      (quiet_both (try d r g).packets _ one.0 others.0, on_and_on d.count (try d r g).count _ one.1 others.1, loads_both (try d r g).notes _ one.2 others.2)

  gets_good : (d : ServerContext) (r : RangeState) (from : ActorId) (q : ReqNo) (key : List ℕ) (fault : Option Refusal) → Has r → Good d (gets d r from q key fault)
  gets_good d r from q key (Some refusal) u = (u, (tt, tt), no_less d.count, tt)
  gets_good d r from q key None u = let t = try_asked d r (record { from = from; request = q; key = key; reads = [] }) in (u, t.0, t.1, t.2)

  pub get_good : (d : ServerContext) (r : RangeState) (from : ActorId) (q : ReqNo) (key : List ℕ) → Has r → Good d (get_rule d r from q key)
  get_good d r from q key u = gets_good d r from q key (get_fault d r key) u

  bytes_good : (d : ServerContext) (r : RangeState) (w : ReqNo) (place : Place) (bytes : List ℕ) → Has r → Good d (bytes_rule d r w place bytes)
  bytes_good d r w place bytes u =
      if_elim (Good d) (are_no_page (read_at r.gets w) bytes) _ _ (λ t. (u, tt, no_less d.count, tt))
      (λ f. (let t = try_all_asked d (record r { held = came r.held (read_at r.gets w) place bytes }) (map (without w) r.gets) in (u, t.0, t.1, t.2)))

  -- ---- the load

  -- ---- the loaded table

  -- ---- checkpoints

  rows_go_good : (d : ServerContext) (r : RangeState) (next : CheckpointState × Option Group) → Has r → Good d (rows_go d r next)
  rows_go_good d r (job, None) u = (u, tt, one_up d.count, tt)
  rows_go_good d r (job, Some group) u =
      let c : ClientState = picking d r.rows in
      let o = append_rule c (request d) group in
      let k = given_quiet c o (append_rule_quiet c (request d) group) in
      (u, listed (given c o).packet k, one_up d.count, tt)

  writes_pages_good : (d : ServerContext) (r : RangeState) (job : CheckpointState) → Has r → Good d (writes_pages d r job)
  writes_pages_good d r job u = rows_go_good d r (next_append job (next_group job.pages)) u

  writes_combined_good : (d : ServerContext) (r : RangeState) (job : CheckpointState) (fixed : Option Entries) → Has r → Good d (writes_combined d r job fixed)
  writes_combined_good d r job None u = (u, tt, one_up d.count, tt)
  writes_combined_good d r job (Some newer) u = writes_pages_good d r (combined_job job newer) u

  asks_page_good : (d : ServerContext) (r : RangeState) (place : Place) (places : Option Nodes) → Has r → Good d (asks_page d r place places)
  asks_page_good d r place None u = (u, tt, one_up d.count, tt)
  asks_page_good d r place (Some places) u = (u, (tt, tt), one_up d.count, tt)

  merges_next_good : (d : ServerContext) (r : RangeState) (job : CheckpointState) (place : Option Place) → Has r → Good d (merges_next d r job place)
  merges_next_good d r job None u = writes_combined_good d r job r.fixed u
  merges_next_good d r job (Some place) u = asks_page_good d (record r { control = Some job }) place (places_of r place.extent) u

  merges_good : (d : ServerContext) (r : RangeState) (job : CheckpointState) → Has r → Good d (merges d r job)
  merges_good d r job u =
      let merge : MergeState = with_at_hand (held_at r.held) r.said.keys job.merge in
      merges_next_good d (record r { reading = None }) (record job { merge = merge }) (next_place merge) u

  pub begins_good : (d : ServerContext) (r : RangeState) (combine : Bool) → Has r → Good d (begins d r combine)
  begins_good d r combine u = if_elim (Good d) (combines combine r.indexes) _ _ (λ t. merges_good d (with_fixed r) (new_combining_job r) u) (λ f. writes_pages_good d (with_fixed r) (new_job r) u)

  pub checkpoint_good : (d : ServerContext) (r : RangeState) (combine : Bool) → Has r → Good d (checkpoint_rule d r combine)
  checkpoint_good d r combine u =
      if_elim (Good d) (have_bytes r.live r.position (number_to_apply r.out r.next)) _ _ (λ t. begins_good d r combine u) (λ f. (u, tt, one_up d.count, tt))

  page_comes_good : (d : ServerContext) (r : RangeState) (job : CheckpointState) (place : Option Place) (entries : Entries) → Has r → Good d (page_comes d r job place entries)
  page_comes_good d r job None entries u = (u, tt, no_less d.count, tt)
  page_comes_good d r job (Some place) entries u = merges_good d r (record job { merge = with_page r.said.keys job.merge entries }) u

  page_read_good : (d : ServerContext) (r : RangeState) (job : Option CheckpointState) (entries : Option Entries) → Has r → Good d (page_read d r job entries)
  page_read_good d r None entries u = (u, tt, no_less d.count, tt)
  page_read_good d r (Some job) None u = (u, tt, no_less d.count, tt)
  page_read_good d r (Some job) (Some entries) u = page_comes_good d r job (next_place job.merge) entries u

  page_bytes_good : (d : ServerContext) (r : RangeState) (reading : Option PlaceRead) (place : Place) (bytes : List ℕ) → Has r → Good d (page_bytes d r reading place bytes)
  page_bytes_good d r None place bytes u = (u, tt, no_less d.count, tt)
  page_bytes_good d r (Some read) place bytes u = if_elim (Good d) (is_place read.place place) _ _ (λ t. page_read_good d r r.control (entries_at bytes) u) (λ f. (u, tt, no_less d.count, tt))

  page_told_good : (d : ServerContext) (r : RangeState) (body : ReadBody) → Has r → Good d (page_told d r body)
  page_told_good d r (reads.Bytes w e offset bytes) u = page_bytes_good d r r.reading (place_of e offset bytes) bytes u
  page_told_good d r body u = (u, tt, no_less d.count, tt)

  records_good : (d : ServerContext) (r : RangeState) (job : CheckpointState) (index : Place) → Has r → Good d (records d r job index)
  records_good d r job index u =
      let c : ClientState = picking d r.metadata in
      let o = append_rule c (request d) (metadata_spelling (checkpoint_record r job index) ∷ []) in
      let k = given_quiet c o (append_rule_quiet c (request d) (metadata_spelling (checkpoint_record r job index) ∷ [])) in
      (u, listed (given c o).packet k, one_up d.count, tt)

  index_stands_good : (d : ServerContext) (r : RangeState) (job : CheckpointState) (e offset : ℕ) → Has r → Good d (index_stands d r job e offset)
  index_stands_good d r job e offset u =
      if_elim (Good d) (may_record r job) _ _ (λ t. records_good d r job (index_place job e offset) u) (λ f. (u, tt, one_up d.count, tt))

  rows_stand_good : (d : ServerContext) (r : RangeState) (job : CheckpointState) (phase : CheckpointPhase) (e offset : ℕ) → Has r → Good d (rows_stand d r job phase e offset)
  rows_stand_good d r job checkpoints.Pages e offset u = writes_pages_good d r (pages_stand job e offset) u
  rows_stand_good d r job checkpoints.Index e offset u = index_stands_good d r job e offset u
  rows_stand_good d r job phase e offset u = (u, tt, one_up d.count, tt)

  rows_told_good : (d : ServerContext) (r : RangeState) (job : Option CheckpointState) (told : Option News) (packets : List Packet) → Has r → AreQuiet packets → Good d (rows_told d r job told packets)
  rows_told_good d r job (Some news.Fenced) packets u h = dropped_good d r
  rows_told_good d r (Some job) (Some (news.Appended e offset)) packets u h = if_elim (Good d) (nat_lt e (2 ^ 64)) _ _ (λ t. rows_stand_good d r job job.phase e offset u) (λ f. (u, tt, one_up d.count, tt))
  rows_told_good d r job told packets u h = (u, h, one_up d.count, tt)

  rows_reply_good : (d : ServerContext) (r : RangeState) (body : Body) → Has r → Good d (rows_reply d r body)
  rows_reply_good d r body u =
      let c : ClientState = picking d r.rows in
      let o : Outcome = reply_rule c (request d) body in
      let k = reply_quiet c (request d) body in
      if_elim (Good d) (rows_may_stand r.control body) _ _
      (λ t. rows_told_good d (record r { rows = o.after }) r.control o.news (option_to_list o.packet) u (listed o.packet k))
      (λ f. (u, tt, no_less d.count, tt))

  record_stands_good : (d : ServerContext) (r : RangeState) (job : CheckpointState) (phase : CheckpointPhase) → Has r → Good d (record_stands d r job phase)
  record_stands_good d r job (checkpoints.Record index) u = if_elim (Good d) (has_record_number r) _ _ (λ t. (u, (tt, tt), one_up d.count, tt)) (λ f. (u, tt, one_up d.count, tt))
  record_stands_good d r job phase u = (u, tt, one_up d.count, tt)

  record_told_good : (d : ServerContext) (r : RangeState) (job : Option CheckpointState) (told : Option News) (packets : List Packet) → Has r → AreQuiet packets → Good d (record_told d r job told packets)
  record_told_good d r job (Some news.Fenced) packets u h = dropped_good d r
  record_told_good d r (Some job) (Some (news.Appended e offset)) packets u h = record_stands_good d r job job.phase u
  record_told_good d r job told packets u h = (u, h, one_up d.count, tt)

  trim_told_good : (d : ServerContext) (r : RangeState) (phase : CheckpointPhase) (body : StreamBody) → Has r → Good d (trim_told d r phase body)
  trim_told_good d r (checkpoints.Trim before to_blob q) (streams.Trimmed w) u = (u, tt, no_less d.count, tt)
  trim_told_good d r phase body u = (u, tt, no_less d.count, tt)

  trim_reply_in_good : (d : ServerContext) (r : RangeState) (job : Option CheckpointState) (body : StreamBody) → Has r → Good d (trim_reply_in d r job body)
  trim_reply_in_good d r None body u = (u, tt, no_less d.count, tt)
  trim_reply_in_good d r (Some job) body u = trim_told_good d r job.phase body u

  phase_again_for : (d : ServerContext) (r : RangeState) (phase : CheckpointPhase) → AreQuiet (phase_again d r phase)
  phase_again_for d r (checkpoints.Trim before to_blob q) = (tt, tt)
  phase_again_for d r phase = tt

  trim_again_for : (d : ServerContext) (r : RangeState) (job : Option CheckpointState) → AreQuiet (trim_again d r job)
  trim_again_for d r None = tt
  trim_again_for d r (Some job) = phase_again_for d r job.phase

  -- ---- answers

  load_refused_good : (d : ServerContext) (r : RangeState) (body : AppendBody) → Has r → Good d (load_refused d r body)
  load_refused_good d r (appends.Refused w refusals.Stale) u = dropped_good d r
  load_refused_good d r body u = (u, tt, no_less d.count, tt)

  serving_news_good : (d : ServerContext) (r : RangeState) (told : Option News) (packets : List Packet) → Has r → AreQuiet packets → Good d (serving_news d r told packets)
  serving_news_good d r (Some news.Fenced) packets u h = dropped_good d r
  serving_news_good d r (Some (news.Appended e offset)) packets u h = log_done_good d r r.out e offset u
  serving_news_good d r told packets u h = (u, h, one_up d.count, tt)

  page_reply_good : (d : ServerContext) (r : RangeState) (body : Body) → Has r → Good d (page_reply d r body)
  page_reply_good d r (bodies.Read body) u = page_told_good d r body u
  page_reply_good d r (bodies.Append body) u = load_refused_good d r body u
  page_reply_good d r body u = (u, tt, no_less d.count, tt)

  trim_reply_good : (d : ServerContext) (r : RangeState) (body : Body) → Has r → Good d (trim_reply d r body)
  trim_reply_good d r (bodies.Stream body) u = trim_reply_in_good d r r.control body u
  trim_reply_good d r (bodies.Append body) u = load_refused_good d r body u
  trim_reply_good d r body u = (u, tt, no_less d.count, tt)

  bytes_reply_good : (d : ServerContext) (r : RangeState) (w : ReqNo) (body : ReadBody) → Has r → Good d (bytes_reply d r w body)
  bytes_reply_good d r w (reads.Bytes v e offset bytes) u = bytes_good d r w (place_of e offset bytes) bytes u
  bytes_reply_good d r w body u = (u, tt, no_less d.count, tt)

  gets_reply_good : (d : ServerContext) (r : RangeState) (w : ReqNo) (body : Body) → Has r → Good d (gets_reply d r w body)
  gets_reply_good d r w (bodies.Read body) u = bytes_reply_good d r w body u
  gets_reply_good d r w (bodies.Append body) u = load_refused_good d r body u
  gets_reply_good d r w body u = (u, tt, no_less d.count, tt)

  -- ---- giving up

  asks_again_for : (d : ServerContext) (read : PlaceRead) (places : Option Nodes) → AreQuiet (asks_again d read places)
  asks_again_for d read None = tt
  asks_again_for d read (Some places) = (tt, tt)

  gives_up_read_for : (d : ServerContext) (r : RangeState) (g : WaitingGet) (read : Option PlaceRead) → AreQuiet (gives_up_read d r g read).1
  gives_up_read_for d r g None = tt
  gives_up_read_for d r g (Some read) = asks_again_for d (moved_on read) (places_of r read.place.extent)

  gives_up_reading_for : (d : ServerContext) (r : RangeState) (reading : Option PlaceRead) → AreQuiet (gives_up_reading d r reading)
  gives_up_reading_for d r None = tt
  gives_up_reading_for d r (Some read) = asks_again_for d (moved_on read) (places_of r read.place.extent)

  -- what is given up but the load
  pub behind_quiet : (d : ServerContext) (r : RangeState) → (rest : List Packet) × ((give_up_all d r).packets ≡ option_to_list (again r.load r.load.phase) ++ rest) × AreQuiet rest
  behind_quiet d r =
      let l : Outcome = gives_up_job d r.log in
      let m : Outcome = gives_up_job (used d) r.metadata in
      let w : Outcome = gives_up_job (used (used d)) r.rows in
      let a = give_up_quiet (picking d r.log) (request d) d.pick in
      let b = give_up_quiet (picking d r.metadata) (request (used d)) d.pick in
      let c = give_up_quiet (picking d r.rows) (request (used (used d))) d.pick in (
        _,
        refl,
        quiet_both (option_to_list l.packet) _ (listed l.packet a)
            (quiet_both (option_to_list m.packet) _ (listed m.packet b)
            (quiet_both (option_to_list w.packet) _ (listed w.packet c)
            (quiet_both (gives_up_reading d r r.reading) _ (gives_up_reading_for d r r.reading)
            (quiet_both (trim_again d r r.control) _ (trim_again_for d r r.control)
            (quiet_flat (λ (g : WaitingGet). (gives_up_get d r g).1) (λ g. gives_up_read_for d r g (slice_get g.reads (length g.reads - 1))) r.gets))))),
      )

  -- the jobs of a checkpoint give up, and nothing else does
  pub control_good : (d : ServerContext) (r : RangeState) → Has r → Good d (give_up_control d r)
  control_good d r u =
      let m : Outcome = gives_up_job (used d) r.metadata in
      let w : Outcome = gives_up_job (used (used d)) r.rows in
      let b = give_up_quiet (picking d r.metadata) (request (used d)) d.pick in
      let c = give_up_quiet (picking d r.rows) (request (used (used d))) d.pick in (
        u,
        quiet_both (option_to_list m.packet) _ (listed m.packet b)
            (quiet_both (option_to_list w.packet) _ (listed w.packet c)
            (quiet_both (gives_up_reading d r r.reading) _ (gives_up_reading_for d r r.reading) (trim_again_for d r r.control))),
        omega arith,
        tt,
      )

-- where the loads that are shown stand so, they stand so too
pub shows_weaker : (P Q : ℕ → LoadState → Stage → Type 0) → ((until : ℕ) (load : LoadState) (stage : Stage) → IsBeyond load.phase → P until load stage → Q until load stage) →
    (notes : List TableNote) → ShowLoads P notes → ShowLoads Q notes
shows_weaker P Q on [] h = tt
shows_weaker P Q on (tables.Began range generation number changes ∷ notes) h = shows_weaker P Q on notes h
shows_weaker P Q on (tables.Done range generation number ∷ notes) h = shows_weaker P Q on notes h
shows_weaker P Q on (tables.Got range generation key value ∷ notes) h = shows_weaker P Q on notes h
shows_weaker P Q on (tables.Loaded range generation table next ∷ notes) (x, h) = (
  record {
    until = x.until;
    load = x.load;
    stage = x.stage;
    stands = on x.until x.load x.stage x.beyond x.stands;
    beyond = x.beyond;
    range_is = x.range_is;
    generation_is = x.generation_is;
  },
  shows_weaker P Q on notes h,
)

-- ---- the load of a range whose streams were told

-- the same range under the same generation and lease, whose streams were told
abbrev pub Loads : ℕ → ℕ → ℕ → ℕ → LoadState → Stage → Type 0
Loads n g end until load stage = (load.range ≡ n) × (load.generation ≡ g) × IsBeyond load.phase × (until ≡ end)

module _ (n g end : ℕ) where
  abbrev P : ℕ → LoadState → Stage → Type 0
  P = Loads n g end

  asks_index_good : (d : ServerContext) (r : RangeState) (position : ℕ) (index : IndexRange) (places : Option Nodes) → Has P r → Good P d (asks_index d r position index places)
  asks_index_good d r position index None u = dropped_good P d r
  asks_index_good d r position index (Some places) u = (u, (tt, tt), one_up d.count, tt)

  reads_named_good : (d : ServerContext) (r : RangeState) (position : ℕ) (named : Option IndexRange) → Has P r → Good P d (reads_named d r position named)
  reads_named_good d r position None u = ((u.0, u.1, tt, u.3), (tt, tt), one_up d.count, tt)
  reads_named_good d r position (Some index) u = asks_index_good d r position index (places_of r index.place.extent) u

  reads_index_good : (d : ServerContext) (r : RangeState) (position : ℕ) → Has P r → Good P d (reads_index d r position)
  reads_index_good d r position u = reads_named_good d r position (index_named r.said.indexes position) u

  reads_log_good : (d : ServerContext) (r : RangeState) (position : ℕ) → Has P r → Good P d (reads_log d r position)
  reads_log_good d r position u =
      let c : ClientState = picking d r.log in
      if_elim (Good P d) (nat_lt position (length r.log.extents)) _ _
      (λ t. (let k = read_by_quiet d c position (slice_get c.extents position) in (u, listed (read_of d c position).packet k, one_up d.count, tt)))
      (λ f. reads_index_good d r 0 u)

  reads_log_from_good : (d : ServerContext) (r : RangeState) (position : Option ℕ) → Has P r → Good P d (reads_log_from d r position)
  reads_log_from_good d r None u = dropped_good P d r
  reads_log_from_good d r (Some position) u = reads_log_good d r position u

  checks_log_good : (d : ServerContext) (r : RangeState) (x : Option StreamExtent) → Has P r → Good P d (checks_log d r x)
  checks_log_good d r None u = reads_log_from_good d r (first_position r r.regions) u
  checks_log_good d r (Some x) u =
      let c : ClientState = picking d r.log in
      if_elim (Good P d) (is_some x.length) _ _
      (λ t. reads_log_from_good d r (first_position r r.regions) u)
      (λ f. (let k = given_quiet c (check_rule c (request d)) (check_rule_quiet c (request d)) in
      (u, listed (given c (check_rule c (request d))).packet k, one_up d.count, tt)))

  begins_log_good : (d : ServerContext) (r : RangeState) → Has P r → Good P d (begins_log d r)
  begins_log_good d r u =
      if_elim (Good P d) (is_some (open_region r.said.regions) && is_some (first_position r r.said.regions)) _ _
      (λ t. checks_log_good d (record r { regions = r.said.regions }) (last_extent r.log.extents) u)
      (λ f. dropped_good P d r)

  reads_metadata_good : (d : ServerContext) (r : RangeState) (position : ℕ) → Has P r → Good P d (reads_metadata d r position)
  reads_metadata_good d r position u =
      let c : ClientState = picking d r.metadata in
      if_elim (Good P d) (nat_lt position (length r.metadata.extents)) _ _
      (λ t. (let k = read_by_quiet d c position (slice_get c.extents position) in (u, listed (read_of d c position).packet k, one_up d.count, tt)))
      (λ f. begins_log_good d r u)

  begins_metadata_good : (d : ServerContext) (r : RangeState) (x : Option StreamExtent) → Has P r → Good P d (begins_metadata d r x)
  begins_metadata_good d r None u = begins_log_good d r u
  begins_metadata_good d r (Some x) u =
      let c : ClientState = picking d r.metadata in
      if_elim (Good P d) (is_some x.length) _ _
      (λ t. reads_metadata_good d r 0 u)
      (λ f. (let k = given_quiet c (check_rule c (request d)) (check_rule_quiet c (request d)) in
      (u, listed (given c (check_rule c (request d))).packet k, one_up d.count, tt)))

  pub opens_good : (d : ServerContext) (r : RangeState) (lists : StreamLists) → r.load.range ≡ n → r.load.generation ≡ g → r.until ≡ end → Good P d (opens d r lists)
  opens_good d r lists range under lease =
      begins_metadata_good d
      (record r {
        load = record r.load { phase = phases.Opened };
        metadata = new_client d.server (record { range = r.load.range; kind = kinds.Metadata }) r.load.generation lists.metadata d.pick;
        log = new_client d.server (record { range = r.load.range; kind = kinds.Log }) r.load.generation lists.log d.pick;
        rows = new_client d.server (record { range = r.load.range; kind = kinds.RowData }) r.load.generation lists.row_data d.pick;
        blob_data = lists.blob_data;
        said = first_metadata;
      })
      (last_extent lists.metadata.extents) (range, under, tt, lease)

  says_good : (d : ServerContext) (r : RangeState) (position : ℕ) (said : Option MetadataState) → Has P r → Good P d (says d r position said)
  says_good d r position None u = dropped_good P d r
  says_good d r position (Some said) u = reads_metadata_good d (record r { said = said }) (suc position) u

  replays_good : (d : ServerContext) (r : RangeState) (position : ℕ) (x : Option (List Region × Entries)) → Has P r → Good P d (replays d r position x)
  replays_good d r position None u = dropped_good P d r
  replays_good d r position (Some x) u = reads_log_good d (record r { regions = x.0; live = x.1 }) (suc position) u

  log_read_good : (d : ServerContext) (r : RangeState) (position e : ℕ) (groups : List Group) → Has P r → Good P d (log_read d r position e groups)
  log_read_good d r position e groups u =
      if_elim (Good P d) (nat_lt (r.log.base + position) (2 ^ 64)) _ _
      (λ t. replays_good d r position (replayed r.said.keys e (record { index = r.log.base + position; offset = 0 }) (r.regions, r.live) groups) u)
      (λ f. dropped_good P d r)

  metadata_news_good : (d : ServerContext) (r : RangeState) (groups : List Group) (stage : Stage) (told : Option News) (packets : List Packet) → Has P r → AreQuiet packets → Good P d (metadata_news d r groups stage told packets)
  metadata_news_good d r groups stage (Some news.Fenced) packets u h = dropped_good P d r
  metadata_news_good d r groups (Checking kind) (Some (news.Checked e l)) packets u h = reads_metadata_good d r 0 u
  metadata_news_good d r groups (Checking kind) (Some (news.Sealed e l)) packets u h = reads_metadata_good d r 0 u
  metadata_news_good d r groups (Reading kind position) (Some (news.Sealed e l)) packets u h = reads_metadata_good d r position u
  metadata_news_good d r groups (Reading kind position) (Some (news.Content e upto)) packets u h = says_good d r position (said_after r.said groups) u
  metadata_news_good d r groups stage told packets u h = (u, h, one_up d.count, tt)

  log_news_good : (d : ServerContext) (r : RangeState) (groups : List Group) (stage : Stage) (told : Option News) (packets : List Packet) → Has P r → AreQuiet packets → Good P d (log_news d r groups stage told packets)
  log_news_good d r groups stage (Some news.Fenced) packets u h = dropped_good P d r
  log_news_good d r groups (Checking kind) (Some (news.Checked e l)) packets u h = reads_log_from_good d r (first_position r r.regions) u
  log_news_good d r groups (Checking kind) (Some (news.Sealed e l)) packets u h = reads_log_from_good d r (first_position r r.regions) u
  log_news_good d r groups (Reading kind position) (Some (news.Sealed e l)) packets u h = reads_log_good d r position u
  log_news_good d r groups (Reading kind position) (Some (news.Content e upto)) packets u h = log_read_good d r position e groups u
  log_news_good d r groups stage told packets u h = (u, h, one_up d.count, tt)

  serves_from_good : (d : ServerContext) (r : RangeState) (region : Option Region) → Has P r → Good P d (serves_from d r region)
  serves_from_good d r None u = dropped_good P d r
  serves_from_good d r (Some region) u = if_elim (Good P d) (nat_lt 0 region.next) _ _
      (λ t.
      let loaded : Loads n g end r.until (record r.load { phase = phases.Confirmed }) stages.Serving = (u.0, u.1, tt, u.3) in
      (loaded, tt, one_up d.count, (record { until = r.until; load = record r.load { phase = phases.Confirmed }; stage = stages.Serving; stands = loaded; beyond = tt; range_is = refl; generation_is = refl }, tt)))
      (λ f. dropped_good P d r)

  serves_good : (d : ServerContext) (r : RangeState) → Has P r → Good P d (serves d r)
  serves_good d r u = if_elim (Good P d) (has_position r.log) _ _ (λ t. serves_from_good d r (open_region r.regions) u) (λ f. dropped_good P d r)

  load_told_good : (d : ServerContext) (r : RangeState) (phase : LoadPhase) (body : StreamBody) → Has P r → Good P d (load_told d r phase body)
  load_told_good d r (phases.Opening q) (streams.Opened w lists) u = opens_good d r lists u.0 u.1 u.3
  load_told_good d r (phases.Confirming q) (streams.Confirmed w) u = serves_good d r u
  load_told_good d r phase body u = (u, tt, no_less d.count, tt)

  load_reply_good : (d : ServerContext) (r : RangeState) (body : Body) → Has P r → Good P d (load_reply d r body)
  load_reply_good d r (bodies.Append body) u = load_refused_good P d r body u
  load_reply_good d r (bodies.Stream body) u = load_told_good d r r.load.phase body u
  load_reply_good d r body u = (u, tt, no_less d.count, tt)

  metadata_reply_good : (d : ServerContext) (r : RangeState) (body : Body) → Has P r → Good P d (metadata_reply d r body)
  metadata_reply_good d r body u =
      let c : ClientState = picking d r.metadata in
      let o : Outcome = reply_rule c (request d) body in
      let now : RangeState = record r { metadata = o.after } in
      let k = reply_quiet c (request d) body in
      let v : Has P now = u in
      let all : AreQuiet (option_to_list o.packet) = listed o.packet k in
      if_elim (Good P d) (is_serving r.stage) _ _
      (λ t. record_told_good P d now r.control o.news (option_to_list o.packet) v all)
      (λ f. metadata_news_good d now (groups_of body) r.stage o.news (option_to_list o.packet) v all)

  log_taken_good : (d : ServerContext) (r : RangeState) (body : Body) → Has P r → Good P d (log_taken d r body)
  log_taken_good d r body u =
      let c : ClientState = picking d r.log in
      let o : Outcome = reply_rule c (request d) body in
      let now : RangeState = record r { log = o.after } in
      let k = reply_quiet c (request d) body in
      let v : Has P now = u in
      let all : AreQuiet (option_to_list o.packet) = listed o.packet k in
      if_elim (Good P d) (is_serving r.stage) _ _
      (λ t. serving_news_good P d now o.news (option_to_list o.packet) v all)
      (λ f. log_news_good d now (groups_of body) r.stage o.news (option_to_list o.packet) v all)

  log_reply_good : (d : ServerContext) (r : RangeState) (body : Body) → Has P r → Good P d (log_reply d r body)
  log_reply_good d r body u = if_elim (Good P d) (is_taken r body) _ _ (λ t. log_taken_good d r body u) (λ f. (u, tt, no_less d.count, tt))

  installs_good : (d : ServerContext) (r : RangeState) (position : ℕ) (named : Option IndexRange) (index : Option Index) → Has P r → Good P d (installs d r position named index)
  installs_good d r position (Some named) (Some index) u =
      reads_index_good d (record r { indexes = record { place = named.place; keys = named.keys; index = index } ∷ r.indexes }) (suc position) u
  installs_good d r position named index u = dropped_good P d r

  index_read_good : (d : ServerContext) (r : RangeState) (stage : Stage) (bytes : List ℕ) → Has P r → Good P d (index_read d r stage bytes)
  index_read_good d r (Indexing position) bytes u = installs_good d r position (index_named r.said.indexes position) (index_at bytes) u
  index_read_good d r stage bytes u = (u, tt, no_less d.count, tt)

  index_bytes_good : (d : ServerContext) (r : RangeState) (reading : Option PlaceRead) (place : Place) (bytes : List ℕ) → Has P r → Good P d (index_bytes d r reading place bytes)
  index_bytes_good d r None place bytes u = (u, tt, no_less d.count, tt)
  index_bytes_good d r (Some read) place bytes u = if_elim (Good P d) (is_place read.place place) _ _ (λ t. index_read_good d r r.stage bytes u) (λ f. (u, tt, no_less d.count, tt))

  index_told_good : (d : ServerContext) (r : RangeState) (body : ReadBody) → Has P r → Good P d (index_told d r body)
  index_told_good d r (reads.Bytes w e offset bytes) u = index_bytes_good d r r.reading (place_of e offset bytes) bytes u
  index_told_good d r body u = (u, tt, no_less d.count, tt)

  index_reply_good : (d : ServerContext) (r : RangeState) (body : Body) → Has P r → Good P d (index_reply d r body)
  index_reply_good d r (bodies.Read body) u = index_told_good d r body u
  index_reply_good d r (bodies.Append body) u = load_refused_good P d r body u
  index_reply_good d r body u = (u, tt, no_less d.count, tt)

  pub beyond_answers : (d : ServerContext) (r : RangeState) (w : ReqNo) (body : Body) → Has P r → Good P d (answer_rule d r w body)
  beyond_answers d r w body u =
      if_elim (Good P d) (load_awaits r.load.phase w) _ _
      (λ t. load_reply_good d r body u)
      (λ f. if_elim (Good P d) (awaits r.metadata.job w) _ _
      (λ t. metadata_reply_good d r body u)
      (λ g. if_elim (Good P d) (awaits r.log.job w) _ _
      (λ t. log_reply_good d r body u)
      (λ h. if_elim (Good P d) (awaits r.rows.job w) _ _
      (λ t. rows_reply_good P d r body u)
      (λ i. if_elim (Good P d) (reads_under r.reading w) _ _
      (λ t. if_elim (Good P d) (reads_page r.reading) _ _ (λ p. page_reply_good P d r body u) (λ p. index_reply_good d r body u))
      (λ j. if_elim (Good P d) (trim_awaits r.control w) _ _
      (λ t. trim_reply_good P d r body u)
      (λ k. gets_reply_good P d r w body u))))))

-- ---- the load of a range that waits for its streams

-- the same range under the same generation and lease, which waits for its streams under this number
abbrev pub Waits : ℕ → ℕ → ℕ → ReqNo → ℕ → LoadState → Stage → Type 0
Waits n g end q until load stage = (load.range ≡ n) × (load.generation ≡ g) × IsWaiting q load.phase stage × (until ≡ end)

module _ (n g end : ℕ) (q : ReqNo) where
  abbrev Q : ℕ → LoadState → Stage → Type 0
  Q = Waits n g end q

  news_of_metadata : (d : ServerContext) (r : RangeState) (groups : List Group) (told : Option News) (packets : List Packet) → Has Q r → AreQuiet packets → Good Q d (metadata_news d r groups stages.Opening told packets)
  news_of_metadata d r groups (Some news.Fenced) packets u h = dropped_good Q d r
  news_of_metadata d r groups told packets u h = (u, h, one_up d.count, tt)

  news_of_log : (d : ServerContext) (r : RangeState) (groups : List Group) (told : Option News) (packets : List Packet) → Has Q r → AreQuiet packets → Good Q d (log_news d r groups stages.Opening told packets)
  news_of_log d r groups (Some news.Fenced) packets u h = dropped_good Q d r
  news_of_log d r groups told packets u h = (u, h, one_up d.count, tt)

  metadata_waits : (d : ServerContext) (r : RangeState) (body : Body) → Has Q r → Good Q d (metadata_reply d r body)
  metadata_waits d r body u =
      let c : ClientState = picking d r.metadata in
      let o : Outcome = reply_rule c (request d) body in
      let now : RangeState = record r { metadata = o.after } in
      let all : AreQuiet (option_to_list o.packet) = listed o.packet (reply_quiet c (request d) body) in
      if_elim (Good Q d) (is_serving r.stage) _ _
      (λ t. record_told_good Q d now r.control o.news (option_to_list o.packet) u all)
      (λ f. subst (λ st. Good Q d (metadata_news d now (groups_of body) st o.news (option_to_list o.packet))) (sym u.2.1) (news_of_metadata d now (groups_of body) o.news (option_to_list o.packet) u all))

  log_waits : (d : ServerContext) (r : RangeState) (body : Body) → Has Q r → Good Q d (log_taken d r body)
  log_waits d r body u =
      let c : ClientState = picking d r.log in
      let o : Outcome = reply_rule c (request d) body in
      let now : RangeState = record r { log = o.after } in
      let all : AreQuiet (option_to_list o.packet) = listed o.packet (reply_quiet c (request d) body) in
      if_elim (Good Q d) (is_serving r.stage) _ _
      (λ t. serving_news_good Q d now o.news (option_to_list o.packet) u all)
      (λ f. subst (λ st. Good Q d (log_news d now (groups_of body) st o.news (option_to_list o.packet))) (sym u.2.1) (news_of_log d now (groups_of body) o.news (option_to_list o.packet) u all))

  log_reply_waits : (d : ServerContext) (r : RangeState) (body : Body) → Has Q r → Good Q d (log_reply d r body)
  log_reply_waits d r body u = if_elim (Good Q d) (is_taken r body) _ _ (λ t. log_waits d r body u) (λ f. (u, tt, no_less d.count, tt))

  index_bytes_waits : (d : ServerContext) (r : RangeState) (reading : Option PlaceRead) (place : Place) (bytes : List ℕ) → Has Q r → Good Q d (index_bytes d r reading place bytes)
  index_bytes_waits d r None place bytes u = (u, tt, no_less d.count, tt)
  index_bytes_waits d r (Some read) place bytes u =
      if_elim (Good Q d) (is_place read.place place) _ _ (λ t. subst (λ st. Good Q d (index_read d r st bytes)) (sym u.2.1) (u, tt, no_less d.count, tt)) (λ f. (u, tt, no_less d.count, tt))

  index_told_waits : (d : ServerContext) (r : RangeState) (body : ReadBody) → Has Q r → Good Q d (index_told d r body)
  index_told_waits d r (reads.Bytes w e offset bytes) u = index_bytes_waits d r r.reading (place_of e offset bytes) bytes u
  index_told_waits d r body u = (u, tt, no_less d.count, tt)

  index_reply_waits : (d : ServerContext) (r : RangeState) (body : Body) → Has Q r → Good Q d (index_reply d r body)
  index_reply_waits d r (bodies.Read body) u = index_told_waits d r body u
  index_reply_waits d r (bodies.Append body) u = load_refused_good Q d r body u
  index_reply_waits d r body u = (u, tt, no_less d.count, tt)

  -- it waits on, or was told the streams under the number under which it asked
  abbrev pub WaitsOn : ServerContext → Body → RangeOutcome → Type 0
  WaitsOn d body o = Good Q d o ⊎ (Good (Loads n g end) d o × ((w : ReqNo) × (lists : StreamLists) × (body ≡ bodies.Stream (streams.Opened w lists))))

  load_told_waits : (d : ServerContext) (r : RangeState) (phase : LoadPhase) (body : StreamBody) → phase ≡ phases.Opening q → Has Q r → WaitsOn d (bodies.Stream body) (load_told d r phase body)
  load_told_waits d r (phases.Opening v) (streams.Opened w lists) is u = inr (opens_good n g end d r lists u.0 u.1 u.3, (w, lists, refl))
  load_told_waits d r (phases.Confirming v) body is u = absurd cc
  load_told_waits d r phase body is u = inl (u, tt, no_less d.count, tt)

  load_reply_waits : (d : ServerContext) (r : RangeState) (body : Body) → Has Q r → WaitsOn d body (load_reply d r body)
  load_reply_waits d r (bodies.Append body) u = inl (load_refused_good Q d r body u)
  load_reply_waits d r (bodies.Stream body) u = load_told_waits d r r.load.phase body u.2.0 u
  load_reply_waits d r body u = inl (u, tt, no_less d.count, tt)

  pub waiting_answers : (d : ServerContext) (r : RangeState) (w : ReqNo) (body : Body) → Has Q r → Good Q d (answer_rule d r w body) ⊎ ((load_awaits r.load.phase w ≡ true) × WaitsOn d body (answer_rule d r w body))
  waiting_answers d r w body u =
      if_elim (λ o. Good Q d o ⊎ ((load_awaits r.load.phase w ≡ true) × WaitsOn d body o)) (load_awaits r.load.phase w) _ _
      (λ t. inr (t, load_reply_waits d r body u))
      (λ f. inl (
      if_elim (Good Q d) (awaits r.metadata.job w) _ _
      (λ t. metadata_waits d r body u)
      (λ g. if_elim (Good Q d) (awaits r.log.job w) _ _
      (λ t. log_reply_waits d r body u)
      (λ h. if_elim (Good Q d) (awaits r.rows.job w) _ _
      (λ t. rows_reply_good Q d r body u)
      (λ i. if_elim (Good Q d) (reads_under r.reading w) _ _
      (λ t. if_elim (Good Q d) (reads_page r.reading) _ _ (λ p. page_reply_good Q d r body u) (λ p. index_reply_waits d r body u))
      (λ j. if_elim (Good Q d) (trim_awaits r.control w) _ _
      (λ t. trim_reply_good Q d r body u)
      (λ k. gets_reply_good Q d r w body u)))))
      ))
