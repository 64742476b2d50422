-- A step of a split leaves the range under its number and its generation, and the split with what is known; and it asks for what is known.
use Rattle.std.proofs.Common.{◌≡◌, ◌≤◌, ℕ, true, false, ◌&&◌, List, [], ◌∷◌, Option, Some, None, is_some, refl, sym, subst}
use Rattle.std.specs.Prelude.{option_to_list}
use Rattle.std.proofs.lemmas.Option.{same_Some}
use Rattle.wire.specs.declared.actor.ReqNo.{ReqNo}
use Rattle.wire.specs.declared.body.AppendBody.{AppendBody}
use Rattle.wire.specs.declared.body.AppendBody.TheVariants as appends
use Rattle.wire.specs.declared.body.SealBody.{SealBody}
use Rattle.wire.specs.declared.body.SealBody.TheVariants as seals
use Rattle.wire.specs.declared.body.StreamBody.{StreamBody}
use Rattle.wire.specs.declared.body.StreamBody.TheVariants as streams
use Rattle.wire.specs.declared.body.MapBody.{MapBody}
use Rattle.wire.specs.declared.body.MapBody.TheVariants as maps
use Rattle.wire.specs.declared.body.Body.{Body}
use Rattle.wire.specs.declared.body.Body.TheVariants as bodies
use Rattle.wire.specs.declared.packet.Packet.{Packet}
use Rattle.wire.specs.declared.refusal.Refusal.{Refusal}
use Rattle.wire.specs.declared.refusal.Refusal.TheVariants as refusals
use Rattle.wire.specs.declared.streams.StreamKind.{StreamKind}
use Rattle.wire.specs.declared.streams.StreamKind.TheVariants as kinds
use Rattle.client.specs.declared.job.News.{News}
use Rattle.client.specs.declared.job.News.TheVariants as news
use Rattle.client.specs.Client.{ClientState, Outcome, append_rule, reply_rule, give_up_rule}
use Rattle.client.specs.Requests.{is_same}
use Rattle.metadata.specs.Fold.{taken}
use Rattle.metadata.specs.Record.{spelling}
use Rattle.model_streams.proofs.Tests.{if_elim}
use Rattle.model_partition.specs.declared.server_context.ServerContext.{ServerContext}
use Rattle.model_partition.specs.declared.split_job.Side.{Side}
use Rattle.model_partition.specs.declared.split_job.Side.TheVariants.{Low, High}
use Rattle.model_partition.specs.declared.split_job.SplitJob.{SplitJob}
use Rattle.model_partition.specs.declared.split_job.SplitPhase.{SplitPhase}
use Rattle.model_partition.specs.declared.split_job.SplitPhase.TheVariants as phases
use Rattle.model_partition.specs.Range.{RangeState, request, given, picking, refused_users}
use Rattle.model_partition.specs.Checkpoints.{begins}
use Rattle.model_partition.specs.Answering.{answered_number}
use Rattle.model_partition.specs.Splits.{SplitStep, stays, ends, goes, with_phase, new_split, split_rule, begun, is_drained, split_item, split_record, may_record, may_checkpoint, has_record_numbers, pauses_and_records, drains, extents_of, open_last, all_kinds, kinds_after, first_open, seals_or_builds, seals_among, with_last_sealed, is_extent, last_sealed, side_range, side_metadata, keys_record, appends_keys, may_say_keys, says_keys, phase_awaits, keys_stand, keys_told, keys_reply, refused, refused_by, map_told, seal_told, stream_told, told, has_stood, split_reply_in, split_reply, has_number, follows_in, follows, seal_again, gives_up_in, gives_up}
use Rattle.laws_map.specs.Naming.{IsClientOf, IsUnder, Knowledge, IsSplit, IsToSplit, BodyNames, RangeNames, PhaseNames, JobNames}
use Rattle.laws_map.proofs.ClientNames.{Keeps, listed, given_keeps, append_rule_keeps, reply_keeps, give_up_keeps}
use Rattle.laws_map.proofs.Knowing.{AllName, are_named}
use Rattle.laws_map.proofs.RangeNames.{no_less, one_up, IfUnder, refused_for, begins_good}

-- what was assigned is known, and so are the two numbers of a split under its generation; and what was told for its request is of it
pub record Laws (K : Knowledge) : Type 0 where
  pub leased : (range generation : ℕ) → K.assigned range generation → K.knows range generation
  pub tells : (q w : ReqNo) (range generation : ℕ) (key : List ℕ) (low high : ℕ) → K.asked q range generation key → is_same q w ≡ true → K.begun w low high → K.splits range generation key low high
  pub low : (range generation : ℕ) (key : List ℕ) (low high : ℕ) → K.splits range generation key low high → K.knows low generation
  pub high : (range generation : ℕ) (key : List ℕ) (low high : ℕ) → K.splits range generation key low high → K.knows high generation

module _ (K : Knowledge) (n : ℕ) where
  abbrev pub RangeIf : Option RangeState → Type 0
  RangeIf None = Unit {0}
  RangeIf (Some r) = RangeNames K n r

  abbrev pub JobIf : Option SplitJob → Type 0
  JobIf None = Unit {0}
  JobIf (Some job) = JobNames K n job

  -- it leaves the range and the split with what is known, and asks for that; and numbers of requests go up
  pub record Step (d : ServerContext) (t : SplitStep) : Type 0 where
    pub range : RangeIf t.range
    pub job : JobIf t.job
    pub count : d.count ≤ t.count
    pub packets : AllName K t.packets

  pub range_if : (g : ℕ) (o : Option RangeState) → K.assigned n g → IfUnder n g o → RangeIf o
  range_if g None k u = tt
  range_if g (Some r) k u = record { generation = g; under = u; known = k }

  -- the same range with other things
  moved : (r s : RangeState) (h : RangeNames K n r) → IsUnder n h.generation s → RangeNames K n s
  moved r s h u = record { generation = h.generation; under = u; known = h.known }

  -- the split in another phase
  in_phase : (job : SplitJob) (phase : SplitPhase) → JobNames K n job → PhaseNames K job phase → JobNames K n (with_phase job phase)
  in_phase job phase j p = record { number = j.number; known = j.known; phase = on phase p }
    where
      on : (x : SplitPhase) → PhaseNames K job x → PhaseNames K (with_phase job phase) x
      on (phases.Begin q) p = p
      on (phases.Keys side c) p = (p.0, by_side side p.1)
        where
          by_side : (side : Side) → IsClientOf (side_range job side) job.generation c → IsClientOf (side_range (with_phase job phase) side) job.generation c
          by_side Low h = h
          by_side High h = h
      on phases.Checkpoint p = p
      on phases.Queue p = p
      on phases.Record p = p
      on (phases.Seal kind q) p = p
      on (phases.Build q) p = p
      on (phases.Complete q) p = p

  module _ (laws : Laws K) (d : ServerContext) where
    stays_step : (r : RangeState) (job : SplitJob) → RangeNames K n r → JobNames K n job → Step d (stays d r job)
    stays_step r job h j = record { range = h; job = j; count = no_less d.count; packets = tt }

    ends_step : (r : RangeState) → RangeNames K n r → Step d (ends d r)
    ends_step r h = record { range = tt; job = tt; count = one_up d.count; packets = are_named K n h.generation (refused_users d r) (laws.leased n h.generation h.known) (refused_for n h.generation d r) }

    goes_step : (r : RangeState) (job : SplitJob) (packets : List Packet) → RangeNames K n r → JobNames K n job → AllName K packets → Step d (goes d r job packets)
    goes_step r job packets h j a = record { range = h; job = j; count = one_up d.count; packets = a }

    -- ---- the beginning

    pub split_step : (r : RangeState) (key : List ℕ) → RangeNames K n r → K.asked (request d) r.load.range r.load.generation key → Step d (split_rule d r key)
    split_step r key h a =
        let known : K.knows r.load.range r.load.generation = rw (h.under.0, h.under.1) (laws.leased n h.generation h.known) in
        goes_step r (new_split d r key) _ h (record { number = h.under.0; known = known; phase = a }) ((known, a), tt)

    begun_step : (r : RangeState) (job : SplitJob) (low high : ℕ) → RangeNames K n r → JobNames K n job → K.splits job.range job.generation job.key low high → Step d (begun d r job low high)
    begun_step r job low high h j s =
        if_elim (Step d) (may_checkpoint r && has_record_numbers r) _ _
        (λ t. (let g = begins_good n h.generation d r false h.under in record {
          range = range_if h.generation (begins d r false).after h.known g.0;
          job = record { number = j.number; known = j.known; phase = s };
          count = g.2;
          packets = are_named K n h.generation (begins d r false).packets (laws.leased n h.generation h.known) g.1;
        }))
        (λ f. stays_step r job h j)

    -- ---- the pause

    records_step : (r : RangeState) (job : SplitJob) → RangeNames K n r → JobNames K n job → IsSplit K job → Step d (pauses_and_records d r job)
    records_step r job h j s =
        let c : ClientState = picking d r.metadata in
        let o = append_rule c (request d) (spelling (split_record job) ∷ []) in
        let k = given_keeps n h.generation c o h.under.2 (append_rule_keeps n h.generation c h.under.2 (request d) (spelling (split_record job) ∷ [])) in
        goes_step _ _ _ (moved r _ h (h.under.0, h.under.1, k.0, h.under.3, h.under.4)) (in_phase job phases.Record j s)
        (are_named K n h.generation (option_to_list (given c o).packet) (laws.leased n h.generation h.known) (listed n h.generation (given c o).packet k.1))

    drains_step : (r : RangeState) (job : SplitJob) → RangeNames K n r → JobNames K n job → IsSplit K job → Step d (drains d r job)
    drains_step r job h j s =
        if_elim (Step d) (is_drained r && may_record r job) _ _ (λ t. records_step r job h j s)
        (λ f. stays_step _ _ (moved r _ h h.under) (in_phase job phases.Queue j s))

    -- ---- seals, and the streams of the two ranges

    seals_or_builds_step : (r : RangeState) (job : SplitJob) (x : Option (StreamKind × ℕ)) → RangeNames K n r → JobNames K n job → IsSplit K job → Step d (seals_or_builds d r job x)
    seals_or_builds_step r job None h j s =
        goes_step r _ _ h (in_phase job (phases.Build (request d)) j s) (record { job = job; is = refl; known = j.known; split = s }, tt)
    seals_or_builds_step r job (Some x) h j s = goes_step r _ _ h (in_phase job (phases.Seal x.0 (request d)) j s) (tt, tt)

    seals_among_step : (r : RangeState) (job : SplitJob) (kinds : List StreamKind) → RangeNames K n r → JobNames K n job → IsSplit K job → Step d (seals_among d r job kinds)
    seals_among_step r job kinds h j s = seals_or_builds_step r job (first_open r kinds) h j s

    sealed_names : (r : RangeState) (kind : StreamKind) (length : ℕ) → RangeNames K n r → RangeNames K n (with_last_sealed r kind length)
    sealed_names r kinds.Metadata length h = moved r _ h h.under
    sealed_names r kinds.Log length h = moved r _ h h.under
    sealed_names r kinds.RowData length h = moved r _ h h.under
    sealed_names r kinds.BlobData length h = moved r _ h h.under

    last_sealed_step : (r : RangeState) (job : SplitJob) (kind : StreamKind) (e length : ℕ) → RangeNames K n r → JobNames K n job → IsSplit K job → Step d (last_sealed d r job kind e length)
    last_sealed_step r job kind e length h j s =
        if_elim (Step d) (is_extent e (open_last (extents_of r kind))) _ _
        (λ t. seals_among_step (with_last_sealed r kind length) job (kinds_after kind) (sealed_names r kind length h) j s) (λ f. stays_step r job h j)

    -- ---- the keys of the two ranges, and the end

    -- the numbers of both are known under the generation of the split
    side_known : (job : SplitJob) (side : Side) → IsSplit K job → K.knows (side_range job side) job.generation
    side_known job Low s = laws.low job.range job.generation job.key job.low job.high s
    side_known job High s = laws.high job.range job.generation job.key job.low job.high s

    keys_go : (r : RangeState) (job : SplitJob) (side : Side) (o : Outcome) → RangeNames K n r → JobNames K n job → IsSplit K job → Keeps (side_range job side) job.generation o →
        Step d (goes d r (with_phase job (phases.Keys side o.after)) (option_to_list o.packet))
    keys_go r job side o h j s k =
        goes_step r _ _ h (in_phase job (phases.Keys side o.after) j (s, k.0))
        (are_named K (side_range job side) job.generation (option_to_list o.packet) (side_known job side s) (listed (side_range job side) job.generation o.packet k.1))

    appends_keys_step : (r : RangeState) (job : SplitJob) (side : Side) → RangeNames K n r → JobNames K n job → IsSplit K job → Step d (appends_keys d r job side)
    appends_keys_step r job side h j s =
        let c : ClientState = side_metadata d r job side in
        let o = append_rule c (request d) (spelling (keys_record r job side) ∷ []) in
        keys_go r job side (given c o) h j s
        (given_keeps (side_range job side) job.generation c o (refl, refl) (append_rule_keeps (side_range job side) job.generation c (refl, refl) (request d) (spelling (keys_record r job side) ∷ [])))

    says_keys_step : (r : RangeState) (job : SplitJob) (side : Side) → RangeNames K n r → JobNames K n job → IsSplit K job → Step d (says_keys d r job side)
    says_keys_step r job side h j s = if_elim (Step d) (may_say_keys r job) _ _ (λ t. appends_keys_step r job side h j s) (λ f. stays_step r job h j)

    -- the map is asked to put the two in the place of the range
    to_split : (job : SplitJob) → IsSplit K job → IsToSplit K job.range job.generation
    to_split job s = record { key = job.key; low = job.low; high = job.high; split = s }

    keys_stand_step : (r : RangeState) (job : SplitJob) (side : Side) → RangeNames K n r → JobNames K n job → IsSplit K job → Step d (keys_stand d r job side)
    keys_stand_step r job Low h j s = says_keys_step r job High h j s
    keys_stand_step r job High h j s = goes_step r _ _ h (in_phase job (phases.Complete (request d)) j s) ((j.known, to_split job s), tt)

    keys_told_step : (r : RangeState) (job : SplitJob) (side : Side) (o : Outcome) (told : Option News) → RangeNames K n r → JobNames K n job → IsSplit K job → Keeps (side_range job side) job.generation o →
        Step d (keys_told d r job side o told)
    keys_told_step r job side o (Some news.Fenced) h j s k = ends_step r h
    keys_told_step r job side o (Some (news.Appended e offset)) h j s k = keys_stand_step r job side h j s
    keys_told_step r job side o told h j s k = keys_go r job side o h j s k

    keys_reply_step : (r : RangeState) (job : SplitJob) (side : Side) (c : ClientState) (body : Body) → RangeNames K n r → JobNames K n job → PhaseNames K job (phases.Keys side c) → Step d (keys_reply d r job side c body)
    keys_reply_step r job side c body h j p =
        let o : Outcome = reply_rule (picking d c) (request d) body in
        keys_told_step r job side o o.news h j p.0 (reply_keeps (side_range job side) job.generation (picking d c) p.1 (request d) body)

    -- ---- answers

    refused_step : (r : RangeState) (job : SplitJob) (phase : SplitPhase) (refusal : Refusal) → RangeNames K n r → JobNames K n job → PhaseNames K job phase → Step d (refused d r job phase refusal)
    refused_step r job phase refusals.Stale h j p = ends_step r h
    refused_step r job (phases.Build q) refusals.NameTaken h j p = says_keys_step r job Low h j p
    refused_step r job (phases.Complete q) refusals.GenerationChanged h j p = ends_step r h
    refused_step r job phase refusal h j p = stays_step r job h j

    refused_by_step : (r : RangeState) (job : SplitJob) (body : AppendBody) → RangeNames K n r → JobNames K n job → Step d (refused_by d r job body)
    refused_by_step r job (appends.Refused w refusal) h j = refused_step r job job.phase refusal h j j.phase
    refused_by_step r job body h j = stays_step r job h j

    map_told_step : (r : RangeState) (job : SplitJob) (phase : SplitPhase) (body : MapBody) (v : ReqNo) → answered_number (bodies.Map body) ≡ Some v → phase_awaits phase v ≡ true → BodyNames K (bodies.Map body) →
        RangeNames K n r → JobNames K n job → PhaseNames K job phase → Step d (map_told d r job phase body)
    map_told_step r job (phases.Begin q) (maps.SplitBegun w low high) v is waits b h j p =
        begun_step r job low high h j (laws.tells q w job.range job.generation job.key low high p (subst (λ x. is_same q x ≡ true) (sym (same_Some w v is)) waits) b)
    map_told_step r job (phases.Complete q) (maps.SplitDone w) v is waits b h j p = ends_step r h
    map_told_step r job phase body v is waits b h j p = stays_step r job h j

    seal_told_step : (r : RangeState) (job : SplitJob) (phase : SplitPhase) (body : SealBody) → RangeNames K n r → JobNames K n job → PhaseNames K job phase → Step d (seal_told d r job phase body)
    seal_told_step r job (phases.Seal kind q) (seals.SealedIs w e length) h j p = last_sealed_step r job kind e length h j p
    seal_told_step r job phase body h j p = stays_step r job h j

    stream_told_step : (r : RangeState) (job : SplitJob) (phase : SplitPhase) (body : StreamBody) → RangeNames K n r → JobNames K n job → PhaseNames K job phase → Step d (stream_told d r job phase body)
    stream_told_step r job (phases.Build q) (streams.Modified w) h j p = says_keys_step r job Low h j p
    stream_told_step r job phase body h j p = stays_step r job h j

    told_step : (r : RangeState) (job : SplitJob) (body : Body) (v : ReqNo) → answered_number body ≡ Some v → phase_awaits job.phase v ≡ true → BodyNames K body → RangeNames K n r → JobNames K n job → Step d (told d r job body)
    told_step r job (bodies.Append body) v is waits b h j = refused_by_step r job body h j
    told_step r job (bodies.Map body) v is waits b h j = map_told_step r job job.phase body v is waits b h j j.phase
    told_step r job (bodies.Seal body) v is waits b h j = seal_told_step r job job.phase body h j j.phase
    told_step r job (bodies.Stream body) v is waits b h j = stream_told_step r job job.phase body h j j.phase
    told_step r job body v is waits b h j = stays_step r job h j

    reply_in_step : (r : RangeState) (job : SplitJob) (phase : SplitPhase) (body : Body) → Step d (told d r job body) → RangeNames K n r → JobNames K n job → PhaseNames K job phase → Step d (split_reply_in d r job phase body)
    reply_in_step r job (phases.Keys side c) body t h j p = keys_reply_step r job side c body h j p
    reply_in_step r job phase body t h j p = t

    -- an answer under a number that the split waits for, which names what is known
    pub split_reply_step : (r : RangeState) (job : SplitJob) (body : Body) (v : ReqNo) → answered_number body ≡ Some v → phase_awaits job.phase v ≡ true → BodyNames K body → RangeNames K n r → JobNames K n job →
        Step d (split_reply d r job body)
    split_reply_step r job body v is waits b h j = reply_in_step r job job.phase body (told_step r job body v is waits b h j) h j j.phase

    -- ---- what follows a step of the range, and giving up

    follows_in_step : (r : RangeState) (job : SplitJob) (phase : SplitPhase) → RangeNames K n r → JobNames K n job → PhaseNames K job phase → Step d (follows_in d r job phase)
    follows_in_step r job phases.Checkpoint h j p = if_elim (Step d) (is_some r.control) _ _ (λ t. stays_step r job h j) (λ f. drains_step r job h j p)
    follows_in_step r job phases.Queue h j p = drains_step r job h j p
    follows_in_step r job phases.Record h j p =
        if_elim (Step d) (has_stood r) _ _
        (λ t. seals_among_step (record r { said = taken r.said (split_item job) }) job all_kinds (moved r _ h h.under) j p) (λ f. stays_step r job h j)
    follows_in_step r job phase h j p = stays_step r job h j

    pub follows_step : (r : RangeState) (job : SplitJob) → RangeNames K n r → JobNames K n job → Step d (follows d r job)
    follows_step r job h j = if_elim (Step d) (has_number d) _ _ (λ t. follows_in_step r job job.phase h j j.phase) (λ f. stays_step r job h j)

    seal_again_names : (e : Option ℕ) (q : ReqNo) → AllName K (seal_again d e q)
    seal_again_names None q = tt
    seal_again_names (Some e) q = (tt, tt)

    gives_up_in_step : (r : RangeState) (job : SplitJob) (phase : SplitPhase) → RangeNames K n r → JobNames K n job → PhaseNames K job phase → Step d (gives_up_in d r job phase)
    gives_up_in_step r job (phases.Begin q) h j p = goes_step r job _ h j ((j.known, p), tt)
    gives_up_in_step r job (phases.Seal kind q) h j p = goes_step r job _ h j (seal_again_names (open_last (extents_of r kind)) q)
    gives_up_in_step r job (phases.Build q) h j p = goes_step r job _ h j (record { job = job; is = refl; known = j.known; split = p }, tt)
    gives_up_in_step r job (phases.Keys side c) h j p =
        let o : Outcome = give_up_rule (picking d c) (request d) d.pick in
        keys_go r job side o h j p.0 (give_up_keeps (side_range job side) job.generation (picking d c) p.1 (request d) d.pick)
    gives_up_in_step r job (phases.Complete q) h j p = goes_step r job _ h j ((j.known, to_split job p), tt)
    gives_up_in_step r job phase h j p = stays_step r job h j

    pub split_gives_up_step : (r : RangeState) (job : SplitJob) → RangeNames K n r → JobNames K n job → Step d (gives_up d r job)
    split_gives_up_step r job h j = if_elim (Step d) (has_number d) _ _ (λ t. gives_up_in_step r job job.phase h j j.phase) (λ f. stays_step r job h j)
