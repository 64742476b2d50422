-- A step of a split leaves its range where it stands in its load, if at all, and stays the split of the range at its key.
use Rattle.std.proofs.Common.{◌≡◌, ◌≤◌, ℕ, false, ◌&&◌, List, [], ◌∷◌, Option, Some, None, is_some, refl}
use Rattle.std.specs.Prelude.{option_to_list}
use Rattle.wire.specs.declared.actor.ReqNo.{ReqNo}
use Rattle.wire.specs.declared.body.AppendBody.{AppendBody}
use Rattle.wire.specs.declared.body.AppendBody.TheVariants as appends
use Rattle.wire.specs.declared.body.SealBody.{SealBody}
use Rattle.wire.specs.declared.body.SealBody.TheVariants as seals
use Rattle.wire.specs.declared.body.StreamBody.{StreamBody}
use Rattle.wire.specs.declared.body.StreamBody.TheVariants as streams
use Rattle.wire.specs.declared.body.MapBody.{MapBody}
use Rattle.wire.specs.declared.body.MapBody.TheVariants as maps
use Rattle.wire.specs.declared.body.Body.{Body}
use Rattle.wire.specs.declared.body.Body.TheVariants as bodies
use Rattle.wire.specs.declared.packet.Packet.{Packet}
use Rattle.wire.specs.declared.refusal.Refusal.{Refusal}
use Rattle.wire.specs.declared.refusal.Refusal.TheVariants as refusals
use Rattle.wire.specs.declared.streams.StreamKind.{StreamKind}
use Rattle.wire.specs.declared.streams.StreamKind.TheVariants as kinds
use Rattle.client.specs.declared.job.News.{News}
use Rattle.client.specs.declared.job.News.TheVariants as news
use Rattle.client.specs.Client.{ClientState, Outcome, append_rule, reply_rule, give_up_rule}
use Rattle.client.specs.Load.{LoadState}
use Rattle.metadata.specs.Fold.{taken}
use Rattle.metadata.specs.Record.{spelling}
use Rattle.model_streams.proofs.Tests.{if_elim}
use Rattle.model_partition.specs.declared.server_context.ServerContext.{ServerContext}
use Rattle.model_partition.specs.declared.stage.Stage.{Stage}
use Rattle.model_partition.specs.declared.split_job.Side.{Side}
use Rattle.model_partition.specs.declared.split_job.Side.TheVariants.{Low, High}
use Rattle.model_partition.specs.declared.split_job.SplitJob.{SplitJob}
use Rattle.model_partition.specs.declared.split_job.SplitPhase.{SplitPhase}
use Rattle.model_partition.specs.declared.split_job.SplitPhase.TheVariants as phases
use Rattle.model_partition.specs.Range.{RangeState, request, given, picking, refused_users}
use Rattle.model_partition.specs.Checkpoints.{begins}
use Rattle.model_partition.specs.Splits.{SplitStep, stays, ends, goes, with_phase, begun, is_drained, split_item, split_record, may_record, may_checkpoint, has_record_numbers, pauses_and_records, drains, extents_of, open_last, all_kinds, kinds_after, first_open, seals_or_builds, with_last_sealed, is_extent, last_sealed, side_metadata, keys_record, appends_keys, may_say_keys, says_keys, keys_stand, keys_told, keys_reply, refused, refused_by, map_told, seal_told, stream_told, told, has_stood, split_reply_in, split_reply, has_number, follows_in, follows, seal_again, gives_up_in, gives_up}
use Rattle.laws_map.specs.Openings.{AreQuiet, IsQuiet, AreKnown, IsKnown, AsksToSplit}
use Rattle.laws_map.proofs.Knowing.{each_weaker}
use Rattle.laws_map.proofs.RangeNames.{no_less, one_up}
use Rattle.laws_map.proofs.QuietClients.{IsQuietStep, listed, given_quiet, append_rule_quiet, reply_quiet, give_up_quiet}
use Rattle.laws_map.proofs.RangeLoads.{Has, IfHas, refused_for, begins_good}

-- ---- quiet packets

quiet_stream : (post : List Packet) (body : StreamBody) → IsQuiet (bodies.Stream body) → IsKnown post (bodies.Stream body)
quiet_stream post (streams.OpenStreams range generation q) h = absurd h
quiet_stream post (streams.Opened q lists) h = absurd h
quiet_stream post body h = tt

quiet_map_body : (post : List Packet) (body : MapBody) → IsQuiet (bodies.Map body) → IsKnown post (bodies.Map body)
quiet_map_body post (maps.BeginSplit range generation key q) h = absurd h
quiet_map_body post body h = tt

quiet_body : (post : List Packet) (body : Body) → IsQuiet body → IsKnown post body
quiet_body post (bodies.Stream body) h = quiet_stream post body h
quiet_body post (bodies.Map body) h = quiet_map_body post body h
quiet_body post body h = tt

-- what is quiet asks for nothing new
pub quiet_known : (post packets : List Packet) → AreQuiet packets → AreKnown post packets
quiet_known post packets h = each_weaker (λ (p : Packet). IsQuiet p.body) (λ (p : Packet). IsKnown post p.body) (λ p k. quiet_body post p.body k) packets h

-- ---- a split

-- the split of the same range at the same key, under the same generation
abbrev pub IsSameSplit : SplitJob → SplitJob → Type 0
IsSameSplit job other = (other.range ≡ job.range) × (other.generation ≡ job.generation) × (other.key ≡ job.key)

module _ (P : ℕ → LoadState → Stage → Type 0) (post : List Packet) (job : SplitJob) where
  abbrev pub SameIf : Option SplitJob → Type 0
  SameIf None = Unit {0}
  SameIf (Some other) = IsSameSplit job other

  abbrev pub StandsWith : Option RangeState → Option SplitJob → Type 0
  StandsWith None j = SameIf j
  StandsWith (Some r) None = ⊥
  StandsWith (Some r) (Some other) = Has P r × IsSameSplit job other

  -- the range is left where it stands, with the split; and what is asked for was asked for before
  pub record Goes (d : ServerContext) (t : SplitStep) : Type 0 where
    pub stands : StandsWith t.range t.job
    pub packets : AreKnown post t.packets
    pub count : d.count ≤ t.count

  module _ (d : ServerContext) where
    stays_on : (r : RangeState) (other : SplitJob) → Has P r → IsSameSplit job other → Goes d (stays d r other)
    stays_on r other h s = record { stands = (h, s); packets = tt; count = no_less d.count }

    ends_on : (r : RangeState) → Goes d (ends d r)
    ends_on r = record { stands = tt; packets = quiet_known post (refused_users d r) (refused_for P d r); count = one_up d.count }

    goes_on : (r : RangeState) (other : SplitJob) (packets : List Packet) → Has P r → IsSameSplit job other → AreQuiet packets → Goes d (goes d r other packets)
    goes_on r other packets h s a = record { stands = (h, s); packets = quiet_known post packets a; count = one_up d.count }

    begun_on : (r : RangeState) (low high : ℕ) → Has P r → Goes d (begun d r job low high)
    begun_on r low high h =
        if_elim (Goes d) (may_checkpoint r && has_record_numbers r) _ _
        (λ t. (let g = begins_good P d r false h in record {
          stands = left (begins d r false).after g.0 _ (refl, refl, refl);
          packets = quiet_known post (begins d r false).packets g.1;
          count = g.2;
        }))
        (λ f. stays_on r job h (refl, refl, refl))
      where
        left : (o : Option RangeState) → IfHas P o → (other : SplitJob) → IsSameSplit job other → StandsWith o (Some other)
        left None h other s = s
        left (Some r) h other s = (h, s)

    -- ---- the pause

    records_on : (r : RangeState) → Has P r → Goes d (pauses_and_records d r job)
    records_on r h =
        let c : ClientState = picking d r.metadata in
        let o = append_rule c (request d) (spelling (split_record job) ∷ []) in
        goes_on _ _ _ h (refl, refl, refl) (listed (given c o).packet (given_quiet c o (append_rule_quiet c (request d) (spelling (split_record job) ∷ []))))

    drains_on : (r : RangeState) → Has P r → Goes d (drains d r job)
    drains_on r h = if_elim (Goes d) (is_drained r && may_record r job) _ _ (λ t. records_on r h) (λ f. stays_on _ _ h (refl, refl, refl))

    -- ---- seals, and the streams of the two ranges

    seals_or_builds_on : (r : RangeState) (x : Option (StreamKind × ℕ)) → Has P r → Goes d (seals_or_builds d r job x)
    seals_or_builds_on r None h = goes_on r _ _ h (refl, refl, refl) (tt, tt)
    seals_or_builds_on r (Some x) h = goes_on r _ _ h (refl, refl, refl) (tt, tt)

    sealed_has : (r : RangeState) (kind : StreamKind) (length : ℕ) → Has P r → Has P (with_last_sealed r kind length)
    sealed_has r kinds.Metadata length h = h
    sealed_has r kinds.Log length h = h
    sealed_has r kinds.RowData length h = h
    sealed_has r kinds.BlobData length h = h

    last_sealed_on : (r : RangeState) (kind : StreamKind) (e length : ℕ) → Has P r → Goes d (last_sealed d r job kind e length)
    last_sealed_on r kind e length h =
        if_elim (Goes d) (is_extent e (open_last (extents_of r kind))) _ _
        (λ t. seals_or_builds_on (with_last_sealed r kind length) (first_open (with_last_sealed r kind length) (kinds_after kind)) (sealed_has r kind length h)) (λ f. stays_on r job h (refl, refl, refl))

    -- ---- the keys of the two ranges, and the end

    keys_on : (r : RangeState) (side : Side) (o : Outcome) → Has P r → IsQuietStep o → Goes d (goes d r (with_phase job (phases.Keys side o.after)) (option_to_list o.packet))
    keys_on r side o h k = goes_on r _ _ h (refl, refl, refl) (listed o.packet k)

    appends_keys_on : (r : RangeState) (side : Side) → Has P r → Goes d (appends_keys d r job side)
    appends_keys_on r side h =
        let c : ClientState = side_metadata d r job side in
        let o = append_rule c (request d) (spelling (keys_record r job side) ∷ []) in
        keys_on r side (given c o) h (given_quiet c o (append_rule_quiet c (request d) (spelling (keys_record r job side) ∷ [])))

    says_keys_on : (r : RangeState) (side : Side) → Has P r → Goes d (says_keys d r job side)
    says_keys_on r side h = if_elim (Goes d) (may_say_keys r job) _ _ (λ t. appends_keys_on r side h) (λ f. stays_on r job h (refl, refl, refl))

    keys_stand_on : (r : RangeState) (side : Side) → Has P r → Goes d (keys_stand d r job side)
    keys_stand_on r Low h = says_keys_on r High h
    keys_stand_on r High h = goes_on r _ _ h (refl, refl, refl) (tt, tt)

    keys_told_on : (r : RangeState) (side : Side) (o : Outcome) (told : Option News) → Has P r → IsQuietStep o → Goes d (keys_told d r job side o told)
    keys_told_on r side o (Some news.Fenced) h k = ends_on r
    keys_told_on r side o (Some (news.Appended e offset)) h k = keys_stand_on r side h
    keys_told_on r side o told h k = keys_on r side o h k

    keys_reply_on : (r : RangeState) (side : Side) (c : ClientState) (body : Body) → Has P r → Goes d (keys_reply d r job side c body)
    keys_reply_on r side c body h =
        let o : Outcome = reply_rule (picking d c) (request d) body in
        keys_told_on r side o o.news h (reply_quiet (picking d c) (request d) body)

    -- ---- answers

    refused_on : (r : RangeState) (phase : SplitPhase) (refusal : Refusal) → Has P r → Goes d (refused d r job phase refusal)
    refused_on r phase refusals.Stale h = ends_on r
    refused_on r (phases.Build q) refusals.NameTaken h = says_keys_on r Low h
    refused_on r (phases.Complete q) refusals.GenerationChanged h = ends_on r
    refused_on r phase refusal h = stays_on r job h (refl, refl, refl)

    refused_by_on : (r : RangeState) (body : AppendBody) → Has P r → Goes d (refused_by d r job body)
    refused_by_on r (appends.Refused w refusal) h = refused_on r job.phase refusal h
    refused_by_on r body h = stays_on r job h (refl, refl, refl)

    map_told_on : (r : RangeState) (phase : SplitPhase) (body : MapBody) → Has P r → Goes d (map_told d r job phase body)
    map_told_on r (phases.Begin q) (maps.SplitBegun w low high) h = begun_on r low high h
    map_told_on r (phases.Complete q) (maps.SplitDone w) h = ends_on r
    map_told_on r phase body h = stays_on r job h (refl, refl, refl)

    seal_told_on : (r : RangeState) (phase : SplitPhase) (body : SealBody) → Has P r → Goes d (seal_told d r job phase body)
    seal_told_on r (phases.Seal kind q) (seals.SealedIs w e length) h = last_sealed_on r kind e length h
    seal_told_on r phase body h = stays_on r job h (refl, refl, refl)

    stream_told_on : (r : RangeState) (phase : SplitPhase) (body : StreamBody) → Has P r → Goes d (stream_told d r job phase body)
    stream_told_on r (phases.Build q) (streams.Modified w) h = says_keys_on r Low h
    stream_told_on r phase body h = stays_on r job h (refl, refl, refl)

    told_on : (r : RangeState) (body : Body) → Has P r → Goes d (told d r job body)
    told_on r (bodies.Append body) h = refused_by_on r body h
    told_on r (bodies.Map body) h = map_told_on r job.phase body h
    told_on r (bodies.Seal body) h = seal_told_on r job.phase body h
    told_on r (bodies.Stream body) h = stream_told_on r job.phase body h
    told_on r body h = stays_on r job h (refl, refl, refl)

    split_reply_in_on : (r : RangeState) (phase : SplitPhase) (body : Body) → Has P r → Goes d (split_reply_in d r job phase body)
    split_reply_in_on r (phases.Keys side c) body h = keys_reply_on r side c body h
    split_reply_in_on r phase body h = told_on r body h

    pub split_replies : (r : RangeState) (body : Body) → Has P r → Goes d (split_reply d r job body)
    split_replies r body h = split_reply_in_on r job.phase body h

    -- ---- what follows a step of the range

    follows_in_on : (r : RangeState) (phase : SplitPhase) → Has P r → Goes d (follows_in d r job phase)
    follows_in_on r phases.Checkpoint h = if_elim (Goes d) (is_some r.control) _ _ (λ t. stays_on r job h (refl, refl, refl)) (λ f. drains_on r h)
    follows_in_on r phases.Queue h = drains_on r h
    follows_in_on r phases.Record h =
        if_elim (Goes d) (has_stood r) _ _ (λ t. seals_or_builds_on (record r { said = taken r.said (split_item job) }) (first_open (record r { said = taken r.said (split_item job) }) all_kinds) h) (λ f. stays_on r job h (refl, refl, refl))
    follows_in_on r phase h = stays_on r job h (refl, refl, refl)

    pub split_follows : (r : RangeState) → Has P r → Goes d (follows d r job)
    split_follows r h = if_elim (Goes d) (has_number d) _ _ (λ t. follows_in_on r job.phase h) (λ f. stays_on r job h (refl, refl, refl))

    -- ---- giving up

    seal_again_quiet : (e : Option ℕ) (q : ReqNo) → AreQuiet (seal_again d e q)
    seal_again_quiet None q = tt
    seal_again_quiet (Some e) q = (tt, tt)

    gives_up_in_on : (r : RangeState) (phase : SplitPhase) → Has P r → AsksToSplit post job.range job.generation job.key → Goes d (gives_up_in d r job phase)
    gives_up_in_on r (phases.Begin q) h a = record { stands = (h, (refl, refl, refl)); packets = (a, tt); count = one_up d.count }
    gives_up_in_on r (phases.Seal kind q) h a = goes_on r job _ h (refl, refl, refl) (seal_again_quiet (open_last (extents_of r kind)) q)
    gives_up_in_on r (phases.Build q) h a = goes_on r job _ h (refl, refl, refl) (tt, tt)
    gives_up_in_on r (phases.Keys side c) h a =
        let o : Outcome = give_up_rule (picking d c) (request d) d.pick in
        keys_on r side o h (give_up_quiet (picking d c) (request d) d.pick)
    gives_up_in_on r (phases.Complete q) h a = goes_on r job _ h (refl, refl, refl) (tt, tt)
    gives_up_in_on r phase h a = stays_on r job h (refl, refl, refl)

    pub split_gives_up : (r : RangeState) → Has P r → AsksToSplit post job.range job.generation job.key → Goes d (gives_up d r job)
    split_gives_up r h a = if_elim (Goes d) (has_number d) _ _ (λ t. gives_up_in_on r job.phase h a) (λ f. stays_on r job h (refl, refl, refl))
