-- A step of a split uses no number but that of the server's next request, and the split then waits for answers under numbers under
-- which it waited before, or under that one.
use Rattle.std.proofs.Common.{◌≡◌, ◌⊎◌, ◌≤◌, ◌&&◌, ℕ, suc, Bool, true, false, List, [], ◌∷◌, Option, Some, None, Result, Ok, Err, is_some, refl, sym, subst, inl, inr, arith}
use Rattle.block_types.specs.declared.record.Nodes.{Nodes}
use Rattle.wire.specs.declared.actor.ReqNo.{ReqNo}
use Rattle.wire.specs.declared.body.AppendBody.{AppendBody}
use Rattle.wire.specs.declared.body.AppendBody.TheVariants as appends
use Rattle.wire.specs.declared.body.CheckBody.{CheckBody}
use Rattle.wire.specs.declared.body.CheckBody.TheVariants as checks
use Rattle.wire.specs.declared.body.ReadBody.{ReadBody}
use Rattle.wire.specs.declared.body.ReadBody.TheVariants as reads
use Rattle.wire.specs.declared.body.SealBody.{SealBody}
use Rattle.wire.specs.declared.body.SealBody.TheVariants as seals
use Rattle.wire.specs.declared.body.StreamBody.{StreamBody}
use Rattle.wire.specs.declared.body.StreamBody.TheVariants as streams
use Rattle.wire.specs.declared.body.MapBody.{MapBody}
use Rattle.wire.specs.declared.body.MapBody.TheVariants as maps
use Rattle.wire.specs.declared.body.Body.{Body}
use Rattle.wire.specs.declared.body.Body.TheVariants as bodies
use Rattle.wire.specs.declared.packet.Packet.{Packet}
use Rattle.wire.specs.declared.refusal.Refusal.{Refusal}
use Rattle.wire.specs.declared.refusal.Refusal.TheVariants as refusals
use Rattle.wire.specs.declared.streams.StreamExtent.{StreamExtent}
use Rattle.wire.specs.declared.streams.StreamKind.{StreamKind}
use Rattle.client.specs.declared.fault.ClientFault.{ClientFault}
use Rattle.client.specs.declared.job.Job.{Job}
use Rattle.client.specs.declared.job.Job.TheVariants.{Idle, Sent, Closing, Growing, Checking, Shutting, Reading}
use Rattle.client.specs.declared.job.News.{News}
use Rattle.client.specs.declared.job.News.TheVariants as news
use Rattle.client.specs.Client.{ClientState, Outcome, append_behind, append_at, append_rule, fenced_if, append_refused, refused_job, appended_job, checked_job, sealed_job, groups_job, extended_job, if_awaited, append_reply, check_reply, seal_reply, read_reply, stream_reply, reply_rule, give_up_job, give_up_rule, is_idle, awaits, waits, last_extent}
use Rattle.client.specs.Requests.{is_same}
use Rattle.model_partition.specs.Loading.{Group}
use Rattle.metadata.specs.Fold.{taken}
use Rattle.metadata.specs.Record.{spelling}
use Rattle.memtable.specs.declared.cell.Place.{Place}
use Rattle.memtable.specs.Entries.{Entries}
use Rattle.model_streams.proofs.Tests.{if_elim}
use Rattle.model_partition.specs.declared.pause.Pause.TheVariants.{AfterQueue}
use Rattle.model_partition.specs.declared.server_context.ServerContext.{ServerContext}
use Rattle.model_partition.specs.declared.split_job.Side.{Side}
use Rattle.model_partition.specs.declared.split_job.Side.TheVariants.{Low, High}
use Rattle.model_partition.specs.declared.split_job.SplitJob.{SplitJob}
use Rattle.model_partition.specs.declared.split_job.SplitPhase.{SplitPhase}
use Rattle.model_partition.specs.declared.split_job.SplitPhase.TheVariants as phases
use Rattle.model_partition.specs.Range.{RangeState, RangeOutcome, request, given, picking}
use Rattle.model_partition.specs.CheckpointStates.{CheckpointState}
use Rattle.model_partition.specs.Checkpoints.{next_append, rows_go, writes_pages, combined_job, writes_combined, asks_page, merges_next, merges, combines, with_fixed, new_job, new_combining_job, begins}
use Rattle.checkpoint.specs.Merges.{MergeState, next_place, with_at_hand}
use Rattle.checkpoint.specs.PageGroups.{next_group}
use Rattle.model_partition.specs.Getting.{held_at}
use Rattle.model_partition.specs.PlaceReads.{places_of}
use Rattle.model_partition.specs.Splits.{SplitStep, stays, goes, ends, split_rule, may_checkpoint, has_record_numbers, begun, is_drained, split_item, may_record, pauses_and_records, drains, extents_of, open_last, all_kinds, kinds_after, first_open, seals_or_builds, with_last_sealed, is_extent, last_sealed, side_metadata, keys_record, may_say_keys, appends_keys, says_keys, keys_stand, keys_told, phase_awaits, refused, refused_by, map_told, seal_told, stream_told, told, split_reply_in, split_reply, has_stood, has_number, follows_in, follows, gives_up_in, gives_up}

-- ---- jobs of its client

-- a number that is waited for was waited for before, or is this one
abbrev pub WaitsFrom : Job → ReqNo → Job → Type 0
WaitsFrom before q after = (v : ReqNo) → awaits after v ≡ true → (awaits before v ≡ true) ⊎ (is_same q v ≡ true)

module _ (c : ClientState) (q : ReqNo) where
  abbrev Leaves : Outcome → Type 0
  Leaves o = WaitsFrom c.job q o.after.job

  abbrev LeavesIf : Result Outcome ClientFault → Type 0
  LeavesIf (Ok o) = Leaves o
  LeavesIf (Err fault) = Unit {0}

  rests : Leaves (waits c)
  rests v t = inl t

  given_leaves : (o : Result Outcome ClientFault) → LeavesIf o → Leaves (given c o)
  given_leaves (Ok o) h = h
  given_leaves (Err fault) h = rests

  behind_leaves : (b : ClientState) (x : StreamExtent) (l : Option ℕ) → Leaves (append_behind b q x l)
  behind_leaves b x None v t = inr t
  behind_leaves b x (Some sealed) v t = inr t

  at_leaves : (b : ClientState) (x : Option StreamExtent) → Leaves (append_at b q x)
  at_leaves b None v t = inr t
  at_leaves b (Some x) v t = behind_leaves b x x.length v t

  append_leaves : (blocks : List (List ℕ)) → LeavesIf (append_rule c q blocks)
  append_leaves blocks = if_elim LeavesIf (is_idle c.job) _ _ (λ t. at_leaves (record c { group = blocks }) (last_extent c.extents)) (λ f. tt)

  fenced_leaves : (refusal : Refusal) → Leaves (fenced_if c refusal)
  fenced_leaves refusals.Stale v t = absurd cc
  fenced_leaves refusal v t = inl t

  append_refused_leaves : (e : ℕ) (refusal : Refusal) → Leaves (append_refused c q e refusal)
  append_refused_leaves e refusals.NotOpen v t = inr t
  append_refused_leaves e refusals.ExtentFull v t = inr t
  append_refused_leaves e refusals.Stale v t = absurd cc
  append_refused_leaves e refusal v t = inl t

  refused_leaves : (refusal : Refusal) (job : Job) → Leaves (refused_job c q refusal job)
  refused_leaves refusal (Sent e w) = append_refused_leaves e refusal
  refused_leaves refusal job = fenced_leaves refusal

  appended_leaves : (offset : ℕ) (job : Job) → Leaves (appended_job c offset job)
  appended_leaves offset (Sent e w) v t = absurd cc
  appended_leaves offset job v t = inl t

  checked_leaves : (found : Option ℕ) (job : Job) → Leaves (checked_job c q found job)
  checked_leaves (Some found) (Checking e w) v t = absurd cc
  checked_leaves None (Checking e w) v t = inr t
  checked_leaves found job v t = inl t

  sealed_leaves : (sealed : ℕ) (job : Job) → Leaves (sealed_job c q sealed job)
  sealed_leaves sealed (Closing e w) v t = inr t
  sealed_leaves sealed (Shutting e w) v t = absurd cc
  sealed_leaves sealed job v t = inl t

  groups_leaves : (job : Job) → Leaves (groups_job c job)
  groups_leaves (Reading e places upto sealed place w) v t = absurd cc
  groups_leaves job v t = inl t

  extended_leaves : (e : ℕ) (at : Nodes) (job : Job) → Leaves (extended_job c q e at job)
  extended_leaves e at (Growing last w) v t = inr t
  extended_leaves e at job v t = inl t

  awaited_leaves : (w : ReqNo) (o : Outcome) → Leaves o → Leaves (if_awaited c w o)
  awaited_leaves w o h = if_elim Leaves (awaits c.job w) o (waits c) (λ t. h) (λ f. rests)

  append_reply_leaves : (body : AppendBody) → Leaves (append_reply c q body)
  append_reply_leaves (appends.Appended w e offset) = awaited_leaves w (appended_job c offset c.job) (appended_leaves offset c.job)
  append_reply_leaves (appends.Refused w refusal) = awaited_leaves w (refused_job c q refusal c.job) (refused_leaves refusal c.job)
  append_reply_leaves body = rests

  check_reply_leaves : (body : CheckBody) → Leaves (check_reply c q body)
  check_reply_leaves (checks.Checked w found) = awaited_leaves w (checked_job c q found c.job) (checked_leaves found c.job)
  check_reply_leaves body = rests

  seal_reply_leaves : (body : SealBody) → Leaves (seal_reply c q body)
  seal_reply_leaves (seals.SealedIs w e sealed) = awaited_leaves w (sealed_job c q sealed c.job) (sealed_leaves sealed c.job)
  seal_reply_leaves body = rests

  read_reply_leaves : (body : ReadBody) → Leaves (read_reply c body)
  read_reply_leaves (reads.Groups w e groups) = awaited_leaves w (groups_job c c.job) (groups_leaves c.job)
  read_reply_leaves body = rests

  stream_reply_leaves : (body : StreamBody) → Leaves (stream_reply c q body)
  stream_reply_leaves (streams.Extended w e at) = awaited_leaves w (extended_job c q e at c.job) (extended_leaves e at c.job)
  stream_reply_leaves body = rests

  reply_leaves : (body : Body) → Leaves (reply_rule c q body)
  reply_leaves (bodies.Append body) = append_reply_leaves body
  reply_leaves (bodies.Check body) = check_reply_leaves body
  reply_leaves (bodies.Seal body) = seal_reply_leaves body
  reply_leaves (bodies.Read body) = read_reply_leaves body
  reply_leaves (bodies.Stream body) = stream_reply_leaves body
  reply_leaves body = rests

  give_up_job_leaves : (job : Job) → c.job ≡ job → Leaves (give_up_job c q job)
  give_up_job_leaves Idle is v t = inl t
  give_up_job_leaves (Sent e w) is v t = inr t
  give_up_job_leaves (Closing e w) is v t = inl (subst (λ j. awaits j v ≡ true) (sym is) t)
  give_up_job_leaves (Growing last w) is v t = inl (subst (λ j. awaits j v ≡ true) (sym is) t)
  give_up_job_leaves (Checking e w) is v t = inr t
  give_up_job_leaves (Shutting e w) is v t = inl (subst (λ j. awaits j v ≡ true) (sym is) t)
  give_up_job_leaves (Reading e places upto true place w) is v t = inl (subst (λ j. awaits j v ≡ true) (sym is) t)
  give_up_job_leaves (Reading e places upto false place w) is v t = inr t

give_up_leaves : (c : ClientState) (q : ReqNo) (pick : Nodes) → WaitsFrom c.job q (give_up_rule c q pick).after.job
give_up_leaves c q pick = give_up_job_leaves (record c { pick = pick }) q c.job refl

-- ---- a step

-- It uses no number, or the next one; and a number that the split then waits for was waited for before, or is that one.
pub record IsNumbered (d : ServerContext) (before : SplitPhase) (t : SplitStep) : Type 0 where
  pub least : d.count ≤ t.count
  pub most : t.count ≤ suc d.count
  pub awaited : (job : SplitJob) → t.job ≡ Some job → (w : ReqNo) → phase_awaits job.phase w ≡ true →
      (phase_awaits before w ≡ true) ⊎ ((t.count ≡ suc d.count) × (is_same (request d) w ≡ true))

module _ (d : ServerContext) (before : SplitPhase) where
  abbrev Numbered : SplitStep → Type 0
  Numbered t = IsNumbered d before t

  ends_numbered : (r : RangeState) → Numbered (ends d r)
  ends_numbered r = record { least = omega arith; most = omega arith; awaited = λ job is. absurd cc }

  goes_numbered : (r : RangeState) (next : SplitJob) (packets : List Packet) → ((w : ReqNo) → phase_awaits next.phase w ≡ true → (phase_awaits before w ≡ true) ⊎ (is_same (request d) w ≡ true)) →
      Numbered (goes d r next packets)
  goes_numbered r next packets from = record { least = omega arith; most = omega arith; awaited = waiting }
    where
      waiting : (job : SplitJob) → Some next ≡ Some job → (w : ReqNo) → phase_awaits job.phase w ≡ true → (phase_awaits before w ≡ true) ⊎ ((suc d.count ≡ suc d.count) × (is_same (request d) w ≡ true))
      waiting job is w t =
          let same : next ≡ job = cc in
          elim (from w (subst (λ (j : SplitJob). phase_awaits j.phase w ≡ true) (sym same) t)) [
            | inl old ↦ inl old
            | inr new ↦ inr (refl, new)
          ]

  builds_numbered : (r : RangeState) (job : SplitJob) (x : Option (StreamKind × ℕ)) → Numbered (seals_or_builds d r job x)
  builds_numbered r job None = goes_numbered r _ _ (λ w t. inr t)
  builds_numbered r job (Some x) = goes_numbered r _ _ (λ w t. inr t)

  records_numbered : (r : RangeState) (job : SplitJob) → Numbered (pauses_and_records d r job)
  records_numbered r job = goes_numbered _ _ _ (λ w t. absurd cc)

  appends_numbered : (r : RangeState) (job : SplitJob) (side : Side) → Numbered (appends_keys d r job side)
  appends_numbered r job side = goes_numbered r _ _ fresh
    where
      c : ClientState
      c = side_metadata d r job side

      fresh : (w : ReqNo) → awaits (given c (append_rule c (request d) (spelling (keys_record r job side) ∷ []))).after.job w ≡ true → (phase_awaits before w ≡ true) ⊎ (is_same (request d) w ≡ true)
      fresh w t = elim (given_leaves c (request d) (append_rule c (request d) (spelling (keys_record r job side) ∷ [])) (append_leaves c (request d) (spelling (keys_record r job side) ∷ [])) w t) [
        | inl old ↦ absurd (let none : false ≡ true = old in cc)
        | inr new ↦ inr new
      ]

-- ---- the first step of a checkpoint uses one

rows_go_count : (d : ServerContext) (r : RangeState) (next : CheckpointState × Option Group) → (rows_go d r next).count ≡ suc d.count
rows_go_count d r (job, None) = refl
rows_go_count d r (job, Some group) = refl

writes_count : (d : ServerContext) (r : RangeState) (job : CheckpointState) → (writes_pages d r job).count ≡ suc d.count
writes_count d r job = rows_go_count d r (next_append job (next_group job.pages))

combined_count : (d : ServerContext) (r : RangeState) (job : CheckpointState) (fixed : Option Entries) → (writes_combined d r job fixed).count ≡ suc d.count
combined_count d r job None = refl
combined_count d r job (Some newer) = writes_count d r (combined_job job newer)

asks_count : (d : ServerContext) (r : RangeState) (place : Place) (places : Option Nodes) → (asks_page d r place places).count ≡ suc d.count
asks_count d r place None = refl
asks_count d r place (Some places) = refl

merges_count : (d : ServerContext) (r : RangeState) (job : CheckpointState) (place : Option Place) → (merges_next d r job place).count ≡ suc d.count
merges_count d r job None = combined_count d r job r.fixed
merges_count d r job (Some place) = asks_count d (record r { control = Some job }) place (places_of r place.extent)

merged_count : (d : ServerContext) (r : RangeState) (job : CheckpointState) → (merges d r job).count ≡ suc d.count
merged_count d r job =
    let merge : MergeState = with_at_hand (held_at r.held) r.said.keys job.merge in
    merges_count d (record r { reading = None }) (record job { merge = merge }) (next_place merge)

begins_count : (d : ServerContext) (r : RangeState) (combine : Bool) → (begins d r combine).count ≡ suc d.count
begins_count d r combine = if_elim (λ (o : RangeOutcome). o.count ≡ suc d.count) (combines combine r.indexes) _ _ (λ t. merged_count d (with_fixed r) (new_combining_job r)) (λ f. writes_count d (with_fixed r) (new_job r))

-- ---- steps of a split under way

module _ (d : ServerContext) (job : SplitJob) where
  abbrev Step : SplitStep → Type 0
  Step t = IsNumbered d job.phase t

  stays_numbered : (r : RangeState) → Step (stays d r job)
  stays_numbered r = record {
    least = omega arith;
    most = omega arith;
    awaited = λ next is w t. inl (let same : job ≡ next = cc in subst (λ (j : SplitJob). phase_awaits j.phase w ≡ true) (sym same) t);
  }

  begun_numbered : (r : RangeState) (low high : ℕ) → Step (begun d r job low high)
  begun_numbered r low high =
      if_elim Step (may_checkpoint r && has_record_numbers r) _ _
      (λ t.
      let one : (begins d r false).count ≡ suc d.count = begins_count d r false in
      record { least = omega (arith, one); most = omega (arith, one); awaited = none })
      (λ f. stays_numbered r)
    where
      none : (next : SplitJob) → Some (record job { low = low; high = high; number = suc r.said.next; phase = phases.Checkpoint }) ≡ Some next → (w : ReqNo) → phase_awaits next.phase w ≡ true →
          (phase_awaits job.phase w ≡ true) ⊎ (((begins d r false).count ≡ suc d.count) × (is_same (request d) w ≡ true))
      none next is w t =
          let same : record job { low = low; high = high; number = suc r.said.next; phase = phases.Checkpoint } ≡ next = cc in
          absurd (let waits : false ≡ true = subst (λ (j : SplitJob). phase_awaits j.phase w ≡ true) (sym same) t in cc)

  drains_numbered : (r : RangeState) → Step (drains d r job)
  drains_numbered r = if_elim Step (is_drained r && may_record r job) _ _ (λ t. records_numbered d job.phase r job) (λ f. queues)
    where
      queues : Step (stays d (record r { pause = AfterQueue }) (record job { phase = phases.Queue }))
      queues = record {
        least = omega arith;
        most = omega arith;
        awaited = λ next is w t. absurd (let same : record job { phase = phases.Queue } ≡ next = cc in let waits : false ≡ true = subst (λ (j : SplitJob). phase_awaits j.phase w ≡ true) (sym same) t in cc);
      }

  says_keys_numbered : (r : RangeState) (side : Side) → Step (says_keys d r job side)
  says_keys_numbered r side = if_elim Step (may_say_keys r job) _ _ (λ t. appends_numbered d job.phase r job side) (λ f. stays_numbered r)

  last_sealed_numbered : (r : RangeState) (kind : StreamKind) (e length : ℕ) → Step (last_sealed d r job kind e length)
  last_sealed_numbered r kind e length =
      if_elim Step (is_extent e (open_last (extents_of r kind))) _ _
      (λ t. builds_numbered d job.phase (with_last_sealed r kind length) job (first_open (with_last_sealed r kind length) (kinds_after kind)))
      (λ f. stays_numbered r)

  keys_stand_numbered : (r : RangeState) (side : Side) → Step (keys_stand d r job side)
  keys_stand_numbered r Low = says_keys_numbered r High
  keys_stand_numbered r High = goes_numbered d job.phase r _ _ (λ w t. inr t)

  keys_told_numbered : (r : RangeState) (side : Side) (o : Outcome) (told : Option News) → ((w : ReqNo) → awaits o.after.job w ≡ true → (phase_awaits job.phase w ≡ true) ⊎ (is_same (request d) w ≡ true)) →
      Step (keys_told d r job side o told)
  keys_told_numbered r side o (Some news.Fenced) from = ends_numbered d job.phase r
  keys_told_numbered r side o (Some (news.Appended e offset)) from = keys_stand_numbered r side
  keys_told_numbered r side o told from = goes_numbered d job.phase r _ _ from

  -- its client waits under the numbers that its phase has
  by_client : (side : Side) (c : ClientState) → job.phase ≡ phases.Keys side c → (o : Outcome) → WaitsFrom c.job (request d) o.after.job →
      (w : ReqNo) → awaits o.after.job w ≡ true → (phase_awaits job.phase w ≡ true) ⊎ (is_same (request d) w ≡ true)
  by_client side c is o from w t = elim (from w t) [
    | inl old ↦ inl (subst (λ p. phase_awaits p w ≡ true) (sym is) old)
    | inr new ↦ inr new
  ]

  refused_numbered : (r : RangeState) (phase : SplitPhase) (refusal : Refusal) → Step (refused d r job phase refusal)
  refused_numbered r phase refusals.Stale = ends_numbered d job.phase r
  refused_numbered r (phases.Build q) refusals.NameTaken = says_keys_numbered r Low
  refused_numbered r (phases.Complete q) refusals.GenerationChanged = ends_numbered d job.phase r
  refused_numbered r phase refusal = stays_numbered r

  refused_by_numbered : (r : RangeState) (body : AppendBody) → Step (refused_by d r job body)
  refused_by_numbered r (appends.Refused w refusal) = refused_numbered r job.phase refusal
  refused_by_numbered r body = stays_numbered r

  map_told_numbered : (r : RangeState) (phase : SplitPhase) (body : MapBody) → Step (map_told d r job phase body)
  map_told_numbered r (phases.Begin q) (maps.SplitBegun w low high) = begun_numbered r low high
  map_told_numbered r (phases.Complete q) (maps.SplitDone w) = ends_numbered d job.phase r
  map_told_numbered r phase body = stays_numbered r

  seal_told_numbered : (r : RangeState) (phase : SplitPhase) (body : SealBody) → Step (seal_told d r job phase body)
  seal_told_numbered r (phases.Seal kind q) (seals.SealedIs w e length) = last_sealed_numbered r kind e length
  seal_told_numbered r phase body = stays_numbered r

  stream_told_numbered : (r : RangeState) (phase : SplitPhase) (body : StreamBody) → Step (stream_told d r job phase body)
  stream_told_numbered r (phases.Build q) (streams.Modified w) = says_keys_numbered r Low
  stream_told_numbered r phase body = stays_numbered r

  told_numbered : (r : RangeState) (body : Body) → Step (told d r job body)
  told_numbered r (bodies.Append body) = refused_by_numbered r body
  told_numbered r (bodies.Map body) = map_told_numbered r job.phase body
  told_numbered r (bodies.Seal body) = seal_told_numbered r job.phase body
  told_numbered r (bodies.Stream body) = stream_told_numbered r job.phase body
  told_numbered r body = stays_numbered r

  reply_in_numbered : (r : RangeState) (phase : SplitPhase) → job.phase ≡ phase → (body : Body) → Step (split_reply_in d r job phase body)
  reply_in_numbered r (phases.Keys side c) is body =
      let o : Outcome = reply_rule (picking d c) (request d) body in
      keys_told_numbered r side o o.news (by_client side c is o (reply_leaves (picking d c) (request d) body))
  reply_in_numbered r phase is body = told_numbered r body

  pub split_reply_numbered : (r : RangeState) (body : Body) → Step (split_reply d r job body)
  split_reply_numbered r body = reply_in_numbered r job.phase refl body

  follows_in_numbered : (r : RangeState) (phase : SplitPhase) → Step (follows_in d r job phase)
  follows_in_numbered r phases.Checkpoint = if_elim Step (is_some r.control) _ _ (λ t. stays_numbered r) (λ f. drains_numbered r)
  follows_in_numbered r phases.Queue = drains_numbered r
  follows_in_numbered r phases.Record =
      if_elim Step (has_stood r) _ _
      (λ t. builds_numbered d job.phase (record r { said = taken r.said (split_item job) }) job (first_open (record r { said = taken r.said (split_item job) }) all_kinds))
      (λ f. stays_numbered r)
  follows_in_numbered r phase = stays_numbered r

  pub follows_numbered : (r : RangeState) → Step (follows d r job)
  follows_numbered r = if_elim Step (has_number d) _ _ (λ t. follows_in_numbered r job.phase) (λ f. stays_numbered r)

  again : (r : RangeState) (packets : List Packet) → Step (goes d r job packets)
  again r packets = goes_numbered d job.phase r job packets (λ w t. inl t)

  gives_up_in_numbered : (r : RangeState) (phase : SplitPhase) → job.phase ≡ phase → Step (gives_up_in d r job phase)
  gives_up_in_numbered r (phases.Begin q) is = again r _
  gives_up_in_numbered r (phases.Seal kind q) is = again r _
  gives_up_in_numbered r (phases.Build q) is = again r _
  gives_up_in_numbered r (phases.Keys side c) is =
      let o : Outcome = give_up_rule (picking d c) (request d) d.pick in
      goes_numbered d job.phase r _ _ (by_client side c is o (give_up_leaves (picking d c) (request d) d.pick))
  gives_up_in_numbered r (phases.Complete q) is = again r _
  gives_up_in_numbered r phase is = stays_numbered r

  pub gives_up_numbered : (r : RangeState) → Step (gives_up d r job)
  gives_up_numbered r = if_elim Step (has_number d) _ _ (λ t. gives_up_in_numbered r job.phase refl) (λ f. stays_numbered r)

-- one that begins waits for the map under that number alone
pub begins_numbered : (d : ServerContext) (r : RangeState) (key : List ℕ) → IsNumbered d phases.Checkpoint (split_rule d r key)
begins_numbered d r key = goes_numbered d phases.Checkpoint r _ _ (λ w t. inr t)
