-- What each step of a split leaves of the jobs that wait, and that each request that it sends is one of these.
use Rattle.std.proofs.Common.{◌≡◌, ◌⊎◌, ℕ, suc, Bool, true, false, ◌&&◌, List, [], ◌∷◌, Option, Some, None, is_some, refl, sym, subst, inl, inr, arith}
use Rattle.std.specs.Prelude.{option_to_list}
use Rattle.wire.specs.declared.actor.ReqNo.{ReqNo}
use Rattle.wire.specs.declared.body.AppendBody.{AppendBody}
use Rattle.wire.specs.declared.body.AppendBody.TheVariants as appends
use Rattle.wire.specs.declared.body.Body.{Body}
use Rattle.wire.specs.declared.body.Body.TheVariants as bodies
use Rattle.wire.specs.declared.body.MapBody.{MapBody}
use Rattle.wire.specs.declared.body.MapBody.TheVariants as maps
use Rattle.wire.specs.declared.body.SealBody.{SealBody}
use Rattle.wire.specs.declared.body.SealBody.TheVariants as seals
use Rattle.wire.specs.declared.body.StreamBody.{StreamBody}
use Rattle.wire.specs.declared.body.StreamBody.TheVariants as streams
use Rattle.wire.specs.declared.packet.Packet.{Packet}
use Rattle.wire.specs.declared.refusal.Refusal.{Refusal}
use Rattle.wire.specs.declared.refusal.Refusal.TheVariants as refusals
use Rattle.wire.specs.declared.streams.StreamKind.{StreamKind}
use Rattle.wire.specs.declared.streams.StreamKind.TheVariants as kinds
use Rattle.client.specs.declared.job.News.{News}
use Rattle.client.specs.declared.job.News.TheVariants as news
use Rattle.client.specs.Client.{ClientState, Outcome, append_rule, reply_rule}
use Rattle.client.specs.Requests.{is_same}
use Rattle.metadata.specs.Fold.{taken}
use Rattle.metadata.specs.Record.{spelling}
use Rattle.replica.specs.Groups.{Group}
use Rattle.checkpoint.specs.PageGroups.{next_group}
use Rattle.model_streams.proofs.Tests.{if_elim}
use Rattle.model_partition.specs.CheckpointStates.{CheckpointState}
use Rattle.laws_loads.proofs.PageAnswers.{merged, unread, merges_elim}
use Rattle.model_partition.specs.declared.pause.Pause.TheVariants as pauses
use Rattle.model_partition.specs.declared.server_context.ServerContext.{ServerContext}
use Rattle.model_partition.specs.declared.split_job.Side.{Side}
use Rattle.model_partition.specs.declared.split_job.Side.TheVariants.{Low, High}
use Rattle.model_partition.specs.declared.split_job.SplitJob.{SplitJob}
use Rattle.model_partition.specs.declared.split_job.SplitPhase.{SplitPhase}
use Rattle.model_partition.specs.declared.split_job.SplitPhase.TheVariants as phases
use Rattle.model_partition.specs.Checkpoints.{combines, with_fixed, new_job, new_combining_job, combined_job, next_append, rows_go, writes_pages, merges, begins}
use Rattle.model_partition.specs.Range.{RangeState, RangeOutcome, request, given, picking}
use Rattle.model_partition.specs.Splits.{SplitStep, stays, goes, ends, begin_packet, seal_packet, build_packet, complete_packet, may_say_keys, keys_stand, keys_told, split_reply_in, split_reply, with_phase, new_split, split_rule, may_checkpoint, has_record_numbers, begun, is_drained, split_item, split_record, may_record, pauses_and_records, drains, extents_of, open_last, all_kinds, kinds_after, or_kind, first_open, builds, seals_or_builds, seals_among, record_stands, with_last_sealed, is_extent, last_sealed, completes, says_keys, refused, refused_by, map_told, seal_told, stream_told, told, has_number, has_stood, follows_in, follows, seal_again, gives_up_in, gives_up}
use Rattle.laws_stream_machine.proofs.ServerRequests.{same_request}
use Rattle.laws_ranges.specs.SplitJobs.{waits_seal, waits_call, IsUnkeyedIf}
use Rattle.laws_clusters.proofs.ClientJobs.{given_steps, append_steps}
use Rattle.laws_clusters.proofs.RowRules.{RowsFrom, RowsIf, AllIn, users_in, by_metadata, begins_leaves}
use Rattle.laws_clusters.proofs.RowSteps.{WasOut, IsNew}
use Rattle.laws_clusters.proofs.StepShapes.{KeepsAsks}
use Rattle.laws_clusters.proofs.SplitRequests.{AllSent, clients_send}

-- keys are being appended
abbrev pub IsKeyed : SplitPhase → Type 0
IsKeyed (phases.Keys side c) = Unit {0}
IsKeyed phase = ⊥

-- the job of row data is as it was
pub same_out : (c : ClientState) → WasOut c c
same_out c = record { job = refl; group = refl; stream = refl }

-- a step that appends no keys: nothing changes, or none are being appended behind it
abbrev pub LeavesUnkeyed : ServerContext → RangeState → SplitJob → SplitStep → Type 0
LeavesUnkeyed d r job t = (t ≡ stays d r job) ⊎ IsUnkeyedIf t.job

-- ---- a checkpoint that begins leaves the range there

module _ (d : ServerContext) where
  abbrev IsThere : RangeOutcome → Type 0
  IsThere o = o.after ≡ None → ⊥

  pages_there : (r : RangeState) (x : CheckpointState × Option Group) → IsThere (rows_go d r x)
  pages_there r (job, None) gone = cc
  pages_there r (job, Some group) gone = cc

  writes_there : (r : RangeState) (job : CheckpointState) → IsThere (writes_pages d r job)
  writes_there r job = pages_there r (next_append job (next_group job.pages))

  merges_there : (r : RangeState) (job : CheckpointState) → IsThere (merges d r job)
  merges_there r job = merges_elim IsThere d r job (λ gone. cc) (λ merge gone. cc) (λ merge place places is told gone. cc) (λ merge newer is fixed. writes_there (unread r) (combined_job (merged job merge) newer))

  begins_there : (r : RangeState) (combine : Bool) → IsThere (begins d r combine)
  begins_there r combine =
      if_elim IsThere (combines combine r.indexes) _ _ (λ t. merges_there (with_fixed r) (new_combining_job r)) (λ f. writes_there (with_fixed r) (new_job r))

-- ---- a step of a split

module _ (d : ServerContext) (r : RangeState) (job : SplitJob) where
  -- row data waits for what it waited for, and the split for that or for an answer under a new number
  pub record SplitKeeps (next : RangeState) (later : SplitJob) (count : ℕ) (ps : List Packet) : Type 0 where
    pub rows : WasOut r.rows next.rows
    pub seal : (q : ReqNo) → waits_seal later.phase q ≡ true → (waits_seal job.phase q ≡ true) ⊎ IsNew d count q
    pub call : (q : ReqNo) → waits_call later.phase q ≡ true → ((waits_call job.phase q ≡ true) × KeepsAsks job later) ⊎ IsNew d count q
    pub sent : AllSent next (Some later) ps

  -- or its checkpoint begins, while the split waits for no answer
  pub record SplitChecks (next : RangeState) (later : SplitJob) (count : ℕ) (ps : List Packet) : Type 0 where
    pub rows : RowsFrom d r.rows count next.rows
    pub waits : later.phase ≡ phases.Checkpoint
    pub sent : AllSent next (Some later) ps

  abbrev pub LeavesIn : Option RangeState → Option SplitJob → ℕ → List Packet → Type 0
  LeavesIn None None count ps = (n : RangeState) → AllIn n ps
  LeavesIn None (Some later) count ps = ⊥
  LeavesIn (Some next) None count ps = ⊥
  LeavesIn (Some next) (Some later) count ps = SplitKeeps next later count ps ⊎ (SplitChecks next later count ps ⊎ IsKeyed later.phase)

  -- what a step leaves
  abbrev pub Leaves : SplitStep → Type 0
  Leaves t = LeavesIn t.range t.job t.count t.packets

  keeps_asks : KeepsAsks job job
  keeps_asks = record { range = refl; generation = refl; key = refl; streams = refl }

  new_one : (q : ReqNo) → is_same (request d) q ≡ true → IsNew d (suc d.count) q
  new_one q same = (d.count, omega arith, omega arith, sym (same_request (request d) q same))

  -- the split waits for what it waited for
  still : (next : RangeState) (count : ℕ) (ps : List Packet) → WasOut r.rows next.rows → AllSent next (Some job) ps → LeavesIn (Some next) (Some job) count ps
  still next count ps rows sent = inl (record { rows = rows; seal = λ q waits. inl waits; call = λ q waits. inl (waits, keeps_asks); sent = sent })

  stays_leaves : Leaves (stays d r job)
  stays_leaves = still r d.count [] (same_out r.rows) tt

  ends_leaves : (z : RangeState) → Leaves (ends d z)
  ends_leaves z = λ n. users_in d n (Some z)

  -- it waits for no answer
  quiet : (next : RangeState) (phase : SplitPhase) (count : ℕ) (ps : List Packet) → ((q : ReqNo) → waits_seal phase q ≡ true → ⊥) → ((q : ReqNo) → waits_call phase q ≡ true → ⊥) → WasOut r.rows next.rows → AllSent next (Some (with_phase job phase)) ps →
      LeavesIn (Some next) (Some (with_phase job phase)) count ps
  quiet next phase count ps no_seal no_call rows sent = inl (record { rows = rows; seal = λ q waits. absurd (no_seal q waits); call = λ q waits. absurd (no_call q waits); sent = sent })

  -- ---- the beginning

  begun_leaves : (low high : ℕ) → Leaves (begun d r job low high)
  begun_leaves low high = if_elim Leaves (may_checkpoint r && has_record_numbers r) _ _ (λ t. checks (begins d r false).after refl (begins_leaves d r false)) (λ f. stays_leaves)
    where
      numbered : SplitJob
      numbered = record job { low = low; high = high; number = suc r.said.next; phase = phases.Checkpoint }

      checks : (a : Option RangeState) → (begins d r false).after ≡ a → RowsIf d r.rows (begins d r false).count (begins d r false).packets a → LeavesIn a (Some numbered) (begins d r false).count (begins d r false).packets
      checks None gone left = absurd (begins_there d r false gone)
      checks (Some next) there left = inr (inl (record { rows = left.0; waits = refl; sent = clients_send next (Some numbered) (begins d r false).packets left.1 }))

  -- ---- the pause, and the record

  records_leaves : Leaves (pauses_and_records d r job)
  records_leaves =
      let c : ClientState = picking d r.metadata in
      let o : Outcome = given c (append_rule c (request d) (spelling (split_record job) ∷ [])) in
      let s = given_steps c (request d) (append_rule c (request d) (spelling (split_record job) ∷ [])) (append_steps c (request d) (spelling (split_record job) ∷ [])) in
      let next : RangeState = record r { pause = pauses.On; metadata = o.after } in
      quiet next phases.Record (suc d.count) (option_to_list o.packet) (λ q waits. cc) (λ q waits. cc) (same_out r.rows) (clients_send next (Some (with_phase job phases.Record)) (option_to_list o.packet) (by_metadata next o.packet s.1))

  drains_leaves : Leaves (drains d r job)
  drains_leaves =
      if_elim Leaves (is_drained r && may_record r job) _ _ (λ t. records_leaves)
      (λ t. quiet (record r { pause = pauses.AfterQueue }) phases.Queue d.count [] (λ q waits. cc) (λ q waits. cc) (same_out r.rows) tt)

  -- ---- seals, and what is built

  builds_leaves : (next : RangeState) → WasOut r.rows next.rows → Leaves (builds d next job)
  builds_leaves next rows = inl (record { rows = rows; seal = λ q waits. absurd cc; call = λ q waits. inr (new_one q waits); sent = (inr (refl, refl), tt) })

  abbrev IsFirst : RangeState → StreamKind × ℕ → Type 0
  IsFirst next x = open_last (extents_of next x.0) ≡ Some x.1

  first_at : (next : RangeState) (kind : StreamKind) (later : Option (StreamKind × ℕ)) (x : StreamKind × ℕ) → (later ≡ Some x → IsFirst next x) → (o : Option ℕ) → open_last (extents_of next kind) ≡ o → or_kind kind o later ≡ Some x → IsFirst next x
  first_at next kind later x behind (Some n) is k = let same : (kind, n) ≡ x = cc in subst (IsFirst next) same is
  first_at next kind later x behind None is k = behind k

  first_is : (next : RangeState) (kinds : List StreamKind) (x : StreamKind × ℕ) → first_open next kinds ≡ Some x → IsFirst next x
  first_is next [] x e = absurd cc
  first_is next (kind ∷ others) x e = first_at next kind (first_open next others) x (first_is next others x) (open_last (extents_of next kind)) refl e

  seal_leaves : (next : RangeState) → WasOut r.rows next.rows → (kind : StreamKind) (n : ℕ) → open_last (extents_of next kind) ≡ Some n → Leaves (seals_or_builds d next job (Some (kind, n)))
  seal_leaves next rows kind n is = inl (record { rows = rows; seal = λ q waits. inr (by_kind kind q waits); call = λ q waits. absurd cc; sent = (inr (kind, refl, is), tt) })
    where
      by_kind : (k : StreamKind) (q : ReqNo) → waits_seal (phases.Seal k (request d)) q ≡ true → IsNew d (suc d.count) q
      by_kind kinds.Metadata q waits = absurd cc
      by_kind kinds.Log q waits = absurd cc
      by_kind kinds.RowData q waits = new_one q waits
      by_kind kinds.BlobData q waits = absurd cc

  among_leaves : (next : RangeState) → WasOut r.rows next.rows → (kinds : List StreamKind) → Leaves (seals_among d next job kinds)
  among_leaves next rows kinds = go (first_open next kinds) refl
    where
      go : (x : Option (StreamKind × ℕ)) → first_open next kinds ≡ x → Leaves (seals_or_builds d next job x)
      go None is = builds_leaves next rows
      go (Some x) is = seal_leaves next rows x.0 x.1 (first_is next kinds x is)

  sealed_out : (kind : StreamKind) (length : ℕ) → WasOut r.rows (with_last_sealed r kind length).rows
  sealed_out kinds.Metadata length = same_out r.rows
  sealed_out kinds.Log length = same_out r.rows
  sealed_out kinds.RowData length = record { job = refl; group = refl; stream = refl }
  sealed_out kinds.BlobData length = same_out r.rows

  sealed_leaves : (kind : StreamKind) (e length : ℕ) → Leaves (last_sealed d r job kind e length)
  sealed_leaves kind e length =
      if_elim Leaves (is_extent e (open_last (extents_of r kind))) _ _ (λ t. among_leaves (with_last_sealed r kind length) (sealed_out kind length) (kinds_after kind)) (λ t. stays_leaves)

  -- ---- keys, and the end

  completes_leaves : Leaves (completes d r job)
  completes_leaves = inl (record { rows = same_out r.rows; seal = λ q waits. absurd cc; call = λ q waits. inr (new_one q waits); sent = (inr (refl, refl, refl), tt) })

  says_leaves : (side : Side) → Leaves (says_keys d r job side)
  says_leaves side = if_elim Leaves (may_say_keys r job) _ _ (λ t. inr (inr tt)) (λ t. stays_leaves)

  stand_leaves : (side : Side) → Leaves (keys_stand d r job side)
  stand_leaves Low = says_leaves High
  stand_leaves High = completes_leaves

  keys_leaves : (side : Side) (o : Outcome) (said : Option News) → Leaves (keys_told d r job side o said)
  keys_leaves side o (Some news.Fenced) = ends_leaves r
  keys_leaves side o (Some (news.Appended e offset)) = stand_leaves side
  keys_leaves side o None = inr (inr tt)
  keys_leaves side o (Some (news.Checked e l)) = inr (inr tt)
  keys_leaves side o (Some (news.Sealed e l)) = inr (inr tt)
  keys_leaves side o (Some (news.Content e upto)) = inr (inr tt)

  -- ---- answers

  refused_leaves : (phase : SplitPhase) (why : Refusal) → Leaves (refused d r job phase why)
  refused_leaves phase refusals.Stale = ends_leaves r
  refused_leaves (phases.Build q) refusals.NameTaken = says_leaves Low
  refused_leaves (phases.Complete q) refusals.GenerationChanged = ends_leaves r
  refused_leaves phase why = stays_leaves

  append_leaves : (body : AppendBody) → Leaves (refused_by d r job body)
  append_leaves (appends.Refused w why) = refused_leaves job.phase why
  append_leaves body = stays_leaves

  map_leaves : (phase : SplitPhase) (body : MapBody) → Leaves (map_told d r job phase body)
  map_leaves (phases.Begin q) (maps.SplitBegun w low high) = begun_leaves low high
  map_leaves (phases.Complete q) (maps.SplitDone w) = ends_leaves r
  map_leaves phase body = stays_leaves

  seal_told_leaves : (phase : SplitPhase) (body : SealBody) → Leaves (seal_told d r job phase body)
  seal_told_leaves (phases.Seal kind q) (seals.SealedIs w e length) = sealed_leaves kind e length
  seal_told_leaves phase body = stays_leaves

  stream_leaves : (phase : SplitPhase) (body : StreamBody) → Leaves (stream_told d r job phase body)
  stream_leaves (phases.Build q) (streams.Modified w) = says_leaves Low
  stream_leaves phase body = stays_leaves

  told_leaves : (body : Body) → Leaves (told d r job body)
  told_leaves (bodies.Append body) = append_leaves body
  told_leaves (bodies.Map body) = map_leaves job.phase body
  told_leaves (bodies.Seal body) = seal_told_leaves job.phase body
  told_leaves (bodies.Stream body) = stream_leaves job.phase body
  told_leaves body = stays_leaves

  pub reply_leaves : (body : Body) → Leaves (split_reply d r job body)
  reply_leaves body = go job.phase
    where
      go : (phase : SplitPhase) → Leaves (split_reply_in d r job phase body)
      go (phases.Keys side c) = keys_leaves side (reply_rule (picking d c) (request d) body) (reply_rule (picking d c) (request d) body).news
      go (phases.Begin q) = told_leaves body
      go phases.Checkpoint = told_leaves body
      go phases.Queue = told_leaves body
      go phases.Record = told_leaves body
      go (phases.Seal kind q) = told_leaves body
      go (phases.Build q) = told_leaves body
      go (phases.Complete q) = told_leaves body

  -- ---- what follows a step of the range

  stands_leaves : Leaves (record_stands d r job)
  stands_leaves = among_leaves (record r { said = taken r.said (split_item job) }) (same_out r.rows) all_kinds

  follow_in_leaves : (phase : SplitPhase) → Leaves (follows_in d r job phase)
  follow_in_leaves phases.Checkpoint = if_elim Leaves (is_some r.control) _ _ (λ t. stays_leaves) (λ t. drains_leaves)
  follow_in_leaves phases.Queue = drains_leaves
  follow_in_leaves phases.Record = if_elim Leaves (has_stood r) _ _ (λ t. stands_leaves) (λ t. stays_leaves)
  follow_in_leaves (phases.Begin q) = stays_leaves
  follow_in_leaves (phases.Seal kind q) = stays_leaves
  follow_in_leaves (phases.Build q) = stays_leaves
  follow_in_leaves (phases.Keys side c) = stays_leaves
  follow_in_leaves (phases.Complete q) = stays_leaves

  pub follows_leaves : Leaves (follows d r job)
  follows_leaves = if_elim Leaves (has_number d) _ _ (λ t. follow_in_leaves job.phase) (λ t. stays_leaves)

  -- no keys are appended
  drains_keys : LeavesUnkeyed d r job (drains d r job)
  drains_keys = if_elim (LeavesUnkeyed d r job) (is_drained r && may_record r job) _ _ (λ t. inr tt) (λ t. inr tt)

  among_keys : (next : RangeState) (x : Option (StreamKind × ℕ)) → LeavesUnkeyed d r job (seals_or_builds d next job x)
  among_keys next None = inr tt
  among_keys next (Some x) = inr tt

  follow_in_keys : (phase : SplitPhase) → LeavesUnkeyed d r job (follows_in d r job phase)
  follow_in_keys phases.Checkpoint = if_elim (LeavesUnkeyed d r job) (is_some r.control) _ _ (λ t. inl refl) (λ t. drains_keys)
  follow_in_keys phases.Queue = drains_keys
  follow_in_keys phases.Record =
      let next : RangeState = record r { said = taken r.said (split_item job) } in
      if_elim (LeavesUnkeyed d r job) (has_stood r) _ _ (λ t. among_keys next (first_open next all_kinds)) (λ t. inl refl)
  follow_in_keys (phases.Begin q) = inl refl
  follow_in_keys (phases.Seal kind q) = inl refl
  follow_in_keys (phases.Build q) = inl refl
  follow_in_keys (phases.Keys side c) = inl refl
  follow_in_keys (phases.Complete q) = inl refl

  pub follows_keys : LeavesUnkeyed d r job (follows d r job)
  follows_keys = if_elim (LeavesUnkeyed d r job) (has_number d) _ _ (λ t. follow_in_keys job.phase) (λ t. inl refl)

  -- ---- it gives up

  again_leaves : (phase : SplitPhase) → job.phase ≡ phase → Leaves (gives_up_in d r job phase)
  again_leaves (phases.Begin q) at = still r (suc d.count) (begin_packet d job q ∷ []) (same_out r.rows) (inr (at, refl, refl, refl), tt)
  again_leaves (phases.Seal kind q) at = go (open_last (extents_of r kind)) refl
    where
      go : (o : Option ℕ) → open_last (extents_of r kind) ≡ o → Leaves (goes d r job (seal_again d o q))
      go None is = still r (suc d.count) [] (same_out r.rows) tt
      go (Some e) is = still r (suc d.count) (seal_packet d e q ∷ []) (same_out r.rows) (inr (kind, at, is), tt)
  again_leaves (phases.Build q) at = still r (suc d.count) (build_packet d job q ∷ []) (same_out r.rows) (inr (at, refl), tt)
  again_leaves (phases.Keys side c) at = inr (inr tt)
  again_leaves (phases.Complete q) at = still r (suc d.count) (complete_packet d job q ∷ []) (same_out r.rows) (inr (at, refl, refl), tt)
  again_leaves phases.Checkpoint at = stays_leaves
  again_leaves phases.Queue at = stays_leaves
  again_leaves phases.Record at = stays_leaves

  pub gives_up_leaves : Leaves (gives_up d r job)
  gives_up_leaves = if_elim Leaves (has_number d) _ _ (λ t. again_leaves job.phase refl) (λ t. stays_leaves)

-- where there is no split any more, the range went with it
pub leaves_none : (d : ServerContext) (r : RangeState) (job : SplitJob) (t : SplitStep) → Leaves d r job t → t.job ≡ None → t.range ≡ None
leaves_none d r job t leaves none = go t.range refl (subst (λ z. LeavesIn d r job t.range z t.count t.packets) none leaves)
  where
    go : (a : Option RangeState) → t.range ≡ a → LeavesIn d r job t.range None t.count t.packets → t.range ≡ None
    go None e k = e
    go (Some next) e k = absurd (subst (λ a. LeavesIn d r job a None t.count t.packets) e k)

-- ---- a split begins

pub begins_so : (d : ServerContext) (r : RangeState) (key : List ℕ) → AllSent r (Some (new_split d r key)) (split_rule d r key).packets
begins_so d r key = (inr (refl, refl, refl, refl), tt)
