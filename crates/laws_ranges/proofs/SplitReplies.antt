-- What a split does with the answers that it waits for, behind a step of its range, and when it gives up; but for the keys of the two
-- ranges, which are appended to streams of their own.
use Rattle.std.proofs.Common.{◌≡◌, ℕ, suc, ◌-◌, ◌^◌, true, false, ◌&&◌, nat_lt, List, [], ◌∷◌, Option, Some, None, is_some, refl, sym, ap, subst, inl, inr, arith}
use Rattle.std.proofs.lemmas.Bool.{eqb-true, and_parts}
use Rattle.wire.specs.declared.actor.ReqNo.{ReqNo}
use Rattle.wire.specs.declared.body.AppendBody.{AppendBody}
use Rattle.wire.specs.declared.body.AppendBody.TheVariants as appends
use Rattle.wire.specs.declared.body.Body.{Body}
use Rattle.wire.specs.declared.body.Body.TheVariants as bodies
use Rattle.wire.specs.declared.body.MapBody.{MapBody}
use Rattle.wire.specs.declared.body.MapBody.TheVariants as maps
use Rattle.wire.specs.declared.body.SealBody.{SealBody}
use Rattle.wire.specs.declared.body.SealBody.TheVariants as seals
use Rattle.wire.specs.declared.body.StreamBody.{StreamBody}
use Rattle.wire.specs.declared.body.StreamBody.TheVariants as streams
use Rattle.wire.specs.declared.packet.Packet.{Packet}
use Rattle.wire.specs.declared.refusal.Refusal.{Refusal}
use Rattle.wire.specs.declared.refusal.Refusal.TheVariants as refusals
use Rattle.wire.specs.declared.streams.StreamKind.{StreamKind}
use Rattle.wire.specs.declared.streams.StreamKind.TheVariants as kinds
use Rattle.client.specs.declared.job.Job.{Job}
use Rattle.client.specs.declared.job.Job.TheVariants as jobs
use Rattle.client.specs.Client.{ClientState, is_idle, reply_rule}
use Rattle.client.specs.Requests.{is_same}
use Rattle.model_streams.proofs.Tests.{if_elim, both_elim}
use Rattle.model_streams.specs.StreamSystem.{StreamSystem}
use Rattle.model_partition.specs.CheckpointStates.{CheckpointState}
use Rattle.model_partition.specs.declared.server_context.ServerContext.{ServerContext}
use Rattle.model_partition.specs.declared.split_job.Side.{Side as SplitSide}
use Rattle.model_partition.specs.declared.split_job.Side.TheVariants.{Low}
use Rattle.model_partition.specs.declared.split_job.SplitJob.{SplitJob}
use Rattle.model_partition.specs.declared.split_job.SplitPhase.{SplitPhase}
use Rattle.model_partition.specs.declared.split_job.SplitPhase.TheVariants as phases
use Rattle.model_partition.specs.declared.stage.Stage.TheVariants as stages
use Rattle.model_partition.specs.Range.{RangeState, request, picking}
use Rattle.model_partition.specs.Answering.{answered_number}
use Rattle.model_partition.specs.Splits.{SplitStep, stays, ends, goes, open_last, extents_of, kinds_after, begin_packet, seal_packet, build_packet, complete_packet, seals_among, with_last_sealed, is_extent, seals_or_builds, first_open, may_checkpoint, has_record_numbers, begun, last_sealed, says_keys, keys_reply, phase_awaits, refused, refused_by, map_told, seal_told, stream_told, told, split_reply_in, split_reply, has_number, has_stood, drains, follows_in, follows, seal_again, keys_again, gives_up_in, gives_up}
use Rattle.model_histories.specs.StreamActions.{StreamAction, SideAction, drain_actions, follow_actions_in, follow_actions, keys_said, keys_told, sides_in, split_sides}
use Rattle.laws_loads.specs.RangeView.{RangeView}
use Rattle.laws_stream_machine.specs.Refinement.{Seals, Means, SealMeans}
use Rattle.laws_ranges.specs.Serves.{Side, known, LastIs, metadata_of, log_of, IsOfRows, IsPastRows, BothListed, IsSentBy}
use Rattle.laws_ranges.specs.SplitJobs.{RestsIs, SealIs, AreOthers, PausedIs, RecordedIs, PhaseStands, FollowsSplit, IsUnkeyed, TellsBuilt, LeavesKeys, AskedOfSplit, SplitSees}
use Rattle.laws_ranges.proofs.BothStreams.{asked_of_metadata}
use Rattle.laws_ranges.proofs.ClientAsks.{at_last, seal_asked}
use Rattle.laws_ranges.proofs.MachineSteps.{for_same}
use Rattle.laws_ranges.proofs.RowData.{sealed_holds}
use Rattle.laws_ranges.proofs.ServedRules.{asked_of_both}
use Rattle.laws_ranges.proofs.SplitBegins.{begins_served, stays_split, begun_split}
use Rattle.laws_ranges.proofs.SplitRecords.{rests_of, drains_split}
use Rattle.laws_ranges.proofs.SplitSeals.{open_last_is, closed_last, sealed_rests, build_asked, rows_asked, after_rows, after_log, after_metadata, record_stands_split}
use Rattle.laws_ranges.proofs.SplitSteps.{asked_widely, still_split, still_plain, ends_split}

extent_is : (e : ℕ) (o : Option ℕ) → is_extent e o ≡ true → o ≡ Some e
extent_is e None t = absurd cc
extent_is e (Some n) t = ap Some (eqb-true n e t)

idle_is : (j : Job) → is_idle j ≡ true → j ≡ jobs.Idle
idle_is jobs.Idle t = refl
idle_is (jobs.Sent e q) t = absurd cc
idle_is (jobs.Closing e q) t = absurd cc
idle_is (jobs.Growing last q) t = absurd cc
idle_is (jobs.Checking e q) t = absurd cc
idle_is (jobs.Shutting e q) t = absurd cc
idle_is (jobs.Reading e places upto sealed place q) t = absurd cc

is_none : (o : Option CheckpointState) → is_some o ≡ false → o ≡ None
is_none None e = refl
is_none (Some x) e = absurd cc

module _ (generation : ℕ → ℕ) (range : ℕ) (w : StreamSystem) (i : ℕ) (both : BothListed w range) (m l : Side) (d : ServerContext) (by : IsSentBy d d.count m.sent l.sent) (v : RangeView)
    (r : RangeState) (job : SplitJob) (f : FollowsSplit generation range w i m l r job) (past : IsPastRows d r) where
  abbrev Sees : SplitStep → List StreamAction → Type 0
  Sees t actions = SplitSees generation range w i v m l d t actions

  abbrev Stands : SplitPhase → Type 0
  Stands phase = PhaseStands generation range w i m l r job phase

  at_phase : (phase : SplitPhase) → job.phase ≡ phase → Stands phase
  at_phase phase e = subst Stands e f.stands

  others_at : (phase : SplitPhase) → job.phase ≡ phase → AreOthers range job phase
  others_at phase e = subst (λ z. AreOthers range job z) e f.others

  rests : Sees (stays d r job) []
  rests = stays_split generation range w i both m l d by v r job f

  gone : Sees (ends d r) []
  gone = ends_split generation range w i both m l d by v r

  -- ---- a seal is answered

  -- the length of the last extent of a stream is known
  module _ (u : ReqNo) (e length : ℕ) (one : Means generation (metadata_of range) w m.stand.state m.sent (bodies.Seal (seals.SealedIs u e length)))
      (two : Means generation (log_of range) w l.stand.state l.sent (bodies.Seal (seals.SealedIs u e length))) where
    by_metadata : (q : ReqNo) → is_same q u ≡ true → RecordedIs generation range w i m l r → SealIs i m.sent r.metadata q → AreOthers range job (phases.Build q) → open_last r.metadata.extents ≡ Some e →
        Sees (seals_among d (with_last_sealed r kinds.Metadata length) job (kinds_after kinds.Metadata)) []
    by_metadata q waits b s others unsealed = after_metadata generation range w i both m l d by v job f.range_is f.under others.0 others.1 next recorded past (closed_last r.metadata e s.index length last)
      where
        first : LastIs r.metadata e (known r.metadata - 1)
        first = open_last_is r.metadata e unsealed

        last : LastIs r.metadata e s.index
        last = record { places = first.places; last = first.last; index_is = s.index_is }

        meant : SealMeans generation (metadata_of range) w m.stand.state m.sent (Some (Seals i s.index)) (seals.SealedIs u e length)
        meant = subst (λ z. SealMeans generation (metadata_of range) w m.stand.state m.sent z (seals.SealedIs u e length)) (for_same m.sent q u (Seals i s.index) waits s.for) one

        next : RangeState
        next = with_last_sealed r kinds.Metadata length

        paused : PausedIs generation range w i m l next
        paused = record {
          range_is = b.paused.range_is;
          under = b.paused.under;
          stage = b.paused.stage;
          phase = b.paused.phase;
          pause = b.paused.pause;
          control = b.paused.control;
          out = b.paused.out;
          log = b.paused.log;
          rows = b.paused.rows;
          blob = b.paused.blob;
        }

        recorded : RecordedIs generation range w i m l next
        recorded = record { paused = paused; metadata = sealed_rests generation (metadata_of range) w i m.stand m.sent r.metadata e s.index length b.metadata last meant.1 meant.2 meant.3 }

    by_log : (q : ReqNo) → is_same q u ≡ true → RecordedIs generation range w i m l r → SealIs i l.sent r.log q → open_last r.metadata.extents ≡ None → AreOthers range job (phases.Build q) → open_last r.log.extents ≡ Some e →
        Sees (seals_among d (with_last_sealed r kinds.Log length) job (kinds_after kinds.Log)) []
    by_log q waits b s closed others unsealed = after_log generation range w i both m l d by v job f.range_is f.under others.0 others.1 next recorded closed
      where
        first : LastIs r.log e (known r.log - 1)
        first = open_last_is r.log e unsealed

        last : LastIs r.log e s.index
        last = record { places = first.places; last = first.last; index_is = s.index_is }

        meant : SealMeans generation (log_of range) w l.stand.state l.sent (Some (Seals i s.index)) (seals.SealedIs u e length)
        meant = subst (λ z. SealMeans generation (log_of range) w l.stand.state l.sent z (seals.SealedIs u e length)) (for_same l.sent q u (Seals i s.index) waits s.for) two

        next : RangeState
        next = with_last_sealed r kinds.Log length

        paused : PausedIs generation range w i m l next
        paused = record {
          range_is = b.paused.range_is;
          under = b.paused.under;
          stage = b.paused.stage;
          phase = b.paused.phase;
          pause = b.paused.pause;
          control = b.paused.control;
          out = b.paused.out;
          log = sealed_rests generation (log_of range) w i l.stand l.sent r.log e s.index length b.paused.log last meant.1 meant.2 meant.3;
          rows = b.paused.rows;
          blob = b.paused.blob;
        }

        recorded : RecordedIs generation range w i m l next
        recorded = record { paused = paused; metadata = b.metadata }

    by_rows : (q : ReqNo) → RecordedIs generation range w i m l r → open_last r.metadata.extents ≡ None → AreOthers range job (phases.Build q) → Sees (seals_among d (with_last_sealed r kinds.RowData length) job (kinds_after kinds.RowData)) []
    by_rows q b closed others = after_rows generation range w i both m l d by v job f.range_is f.under others.0 others.1 next recorded closed
      where
        next : RangeState
        next = with_last_sealed r kinds.RowData length

        paused : PausedIs generation range w i m l next
        paused = record {
          range_is = b.paused.range_is;
          under = b.paused.under;
          stage = b.paused.stage;
          phase = b.paused.phase;
          pause = b.paused.pause;
          control = b.paused.control;
          out = b.paused.out;
          log = b.paused.log;
          rows = record { stream = b.paused.rows.stream; listed = sealed_holds (IsOfRows w range) r.rows.extents length b.paused.rows.listed; job = b.paused.rows.job };
          blob = b.paused.blob;
        }

        recorded : RecordedIs generation range w i m l next
        recorded = record { paused = paused; metadata = b.metadata }

    by_kind : (kind : StreamKind) (q : ReqNo) → job.phase ≡ phases.Seal kind q → is_same q u ≡ true → open_last (extents_of r kind) ≡ Some e → Sees (seals_among d (with_last_sealed r kind length) job (kinds_after kind)) []
    by_kind kinds.Metadata q at waits unsealed = let s = at_phase (phases.Seal kinds.Metadata q) at in by_metadata q waits s.0 s.1 (others_at (phases.Seal kinds.Metadata q) at) unsealed
    by_kind kinds.Log q at waits unsealed = let s = at_phase (phases.Seal kinds.Log q) at in by_log q waits s.0 s.1.0 s.1.1 (others_at (phases.Seal kinds.Log q) at) unsealed
    by_kind kinds.RowData q at waits unsealed = let s = at_phase (phases.Seal kinds.RowData q) at in by_rows q s.0 s.1.1 (others_at (phases.Seal kinds.RowData q) at)
    by_kind kinds.BlobData q at waits unsealed = absurd (at_phase (phases.Seal kinds.BlobData q) at).1

    sealed_split : (kind : StreamKind) (q : ReqNo) → job.phase ≡ phases.Seal kind q → is_same q u ≡ true → Sees (last_sealed d r job kind e length) []
    sealed_split kind q at waits =
        if_elim (λ t. Sees t []) (is_extent e (open_last (extents_of r kind))) _ _ (λ t. by_kind kind q at waits (extent_is e (open_last (extents_of r kind)) t)) (λ t. rests)

  -- ---- answers

  -- ---- steps that append no keys

  abbrev Unkeyed : SplitStep → Type 0
  Unkeyed t = LeavesKeys d r job t

  unchanged : Unkeyed (stays d r job)
  unchanged = record { served = f.stage; keys = inl refl }

  gone_leaves : Unkeyed (ends d r)
  gone_leaves = record { served = tt; keys = inr tt }

  seals_leave : (next : RangeState) → next.stage ≡ stages.Serving → (x : Option (StreamKind × ℕ)) → Unkeyed (seals_or_builds d next job x)
  seals_leave next stage None = record { served = stage; keys = inr tt }
  seals_leave next stage (Some x) = record { served = stage; keys = inr tt }

  sealed_stage : (kind : StreamKind) (length : ℕ) → (with_last_sealed r kind length).stage ≡ stages.Serving
  sealed_stage kinds.Metadata length = f.stage
  sealed_stage kinds.Log length = f.stage
  sealed_stage kinds.RowData length = f.stage
  sealed_stage kinds.BlobData length = f.stage

  sealed_leave : (kind : StreamKind) (e length : ℕ) → Unkeyed (last_sealed d r job kind e length)
  sealed_leave kind e length =
      if_elim Unkeyed (is_extent e (open_last (extents_of r kind))) _ _
      (λ t. seals_leave (with_last_sealed r kind length) (sealed_stage kind length) (first_open (with_last_sealed r kind length) (kinds_after kind))) (λ t. unchanged)

  begun_leave : (low high : ℕ) → Unkeyed (begun d r job low high)
  begun_leave low high = if_elim Unkeyed (may_checkpoint r && has_record_numbers r) _ _ (λ t. record { served = begins_served d r f.stage false; keys = inr tt }) (λ t. unchanged)

  -- what is so of each step and of what it does to the two ranges, if it is so of those that append keys
  module _ (P : SplitStep → List SideAction → Type 0) (from : (t : SplitStep) → Sees t [] → LeavesKeys d r job t → P t [])
      (u : ReqNo) (waits : phase_awaits job.phase u ≡ true) where
    -- the keys of the lower range are appended, where this is told
    abbrev Says : Body → Type 0
    Says body = TellsBuilt body → (q : ReqNo) → job.phase ≡ phases.Build q → P (says_keys d r job Low) (keys_said r job Low)

    refused_split : (phase : SplitPhase) → job.phase ≡ phase → IsUnkeyed phase → (z : ReqNo) (why : Refusal) → Says (bodies.Append (appends.Refused z why)) → P (refused d r job phase why) (sides_in d r job phase (bodies.Append (appends.Refused z why)))
    refused_split (phases.Keys side c) e other z why says = absurd other
    refused_split (phases.Build q) e other z refusals.Stale says = from (ends d r) gone gone_leaves
    refused_split (phases.Build q) e other z refusals.NameTaken says = says tt q e
    refused_split (phases.Build q) e other z why says = from (stays d r job) rests unchanged
    refused_split phase e other z refusals.Stale says = from (ends d r) gone gone_leaves
    refused_split (phases.Complete q) e other z refusals.GenerationChanged says = from (ends d r) gone gone_leaves
    refused_split phase e other z why says = from (stays d r job) rests unchanged

    append_split : (phase : SplitPhase) → job.phase ≡ phase → IsUnkeyed phase → (body : AppendBody) → Says (bodies.Append body) → P (refused_by d r job body) (sides_in d r job phase (bodies.Append body))
    append_split phase e other (appends.Refused z why) says = subst (λ p. P (refused d r job p why) (sides_in d r job phase (bodies.Append (appends.Refused z why)))) (sym e) (refused_split phase e other z why says)
    append_split (phases.Keys side c) e other body says = absurd other
    append_split phase e other body says = from (stays d r job) rests unchanged

    map_split : (phase : SplitPhase) → job.phase ≡ phase → IsUnkeyed phase → (body : MapBody) → ((z : ReqNo) (low high : ℕ) → body ≡ maps.SplitBegun z low high → (low ≡ range → ⊥) × (high ≡ range → ⊥)) →
        P (map_told d r job phase body) (sides_in d r job phase (bodies.Map body))
    map_split (phases.Keys side c) e other body numbered = absurd other
    map_split (phases.Begin q) e other (maps.SplitBegun z low high) numbered =
        let apart = numbered z low high refl in from (map_told d r job (phases.Begin q) (maps.SplitBegun z low high)) (begun_split generation range w i both m l d by v r f.stage (at_phase (phases.Begin q) e) job f low high apart.0 apart.1) (begun_leave low high)
    map_split (phases.Complete q) e other (maps.SplitDone z) numbered = from (ends d r) gone gone_leaves
    map_split phase e other body numbered = from (stays d r job) rests unchanged

    seal_split : (phase : SplitPhase) → job.phase ≡ phase → IsUnkeyed phase → (body : SealBody) → answered_number (bodies.Seal body) ≡ Some u → Means generation (metadata_of range) w m.stand.state m.sent (bodies.Seal body) →
        Means generation (log_of range) w l.stand.state l.sent (bodies.Seal body) → P (seal_told d r job phase body) (sides_in d r job phase (bodies.Seal body))
    seal_split (phases.Keys side c) e other body number one two = absurd other
    seal_split (phases.Seal kind q) e other (seals.SealedIs z x length) number one two =
        let same : z ≡ u = cc in
        let there : is_same q z ≡ true = subst (λ y. is_same q y ≡ true) (sym same) (subst (λ p. phase_awaits p u ≡ true) e waits) in
        from (last_sealed d r job kind x length) (sealed_split z x length one two kind q e there) (sealed_leave kind x length)
    seal_split phase e other body number one two = from (stays d r job) rests unchanged

    stream_split : (phase : SplitPhase) → job.phase ≡ phase → IsUnkeyed phase → (body : StreamBody) → Says (bodies.Stream body) → P (stream_told d r job phase body) (sides_in d r job phase (bodies.Stream body))
    stream_split (phases.Keys side c) e other body says = absurd other
    stream_split (phases.Build q) e other (streams.Modified z) says = says tt q e
    stream_split phase e other body says = from (stays d r job) rests unchanged

    told_split : (phase : SplitPhase) → job.phase ≡ phase → IsUnkeyed phase → (body : Body) → Says body → answered_number body ≡ Some u →
        ((z : ReqNo) (low high : ℕ) → body ≡ bodies.Map (maps.SplitBegun z low high) → (low ≡ range → ⊥) × (high ≡ range → ⊥)) → Means generation (metadata_of range) w m.stand.state m.sent body →
        Means generation (log_of range) w l.stand.state l.sent body → P (told d r job body) (sides_in d r job phase body)
    told_split phase e other (bodies.Append body) says number numbered one two = append_split phase e other body says
    told_split phase e other (bodies.Map body) says number numbered one two =
        subst (λ p. P (map_told d r job p body) (sides_in d r job phase (bodies.Map body))) (sym e) (map_split phase e other body (λ z low high is. numbered z low high (ap bodies.Map is)))
    told_split phase e other (bodies.Seal body) says number numbered one two =
        subst (λ p. P (seal_told d r job p body) (sides_in d r job phase (bodies.Seal body))) (sym e) (seal_split phase e other body number one two)
    told_split phase e other (bodies.Stream body) says number numbered one two =
        subst (λ p. P (stream_told d r job p body) (sides_in d r job phase (bodies.Stream body))) (sym e) (stream_split phase e other body says)
    told_split (phases.Keys side c) e other body says number numbered one two = absurd other
    told_split phase e other body says number numbered one two = from (stays d r job) rests unchanged

    -- an answer that it waits for, which means what it says to both streams
    pub reply_split : (body : Body) → (TellsBuilt body → (q : ReqNo) → job.phase ≡ phases.Build q → P (says_keys d r job Low) (keys_said r job Low)) → ((side : SplitSide) (c : ClientState) → job.phase ≡ phases.Keys side c → P (keys_reply d r job side c body) (keys_told r job side c (reply_rule (picking d c) (request d) body).news)) →
        answered_number body ≡ Some u → ((z : ReqNo) (low high : ℕ) → body ≡ bodies.Map (maps.SplitBegun z low high) → (low ≡ range → ⊥) × (high ≡ range → ⊥)) → Means generation (metadata_of range) w m.stand.state m.sent body →
        Means generation (log_of range) w l.stand.state l.sent body → P (split_reply d r job body) (split_sides d r job body)
    reply_split body says keys number numbered one two = go job.phase refl
      where
        go : (phase : SplitPhase) → job.phase ≡ phase → P (split_reply_in d r job phase body) (sides_in d r job phase body)
        go (phases.Keys side c) e = keys side c e
        go phase e = told_split phase e tt body says number numbered one two

  -- ---- what follows a step of the range

  -- nobody appends to the blob stream, so that its last extent is sealed
  module _ (blob : open_last r.blob_data.extents ≡ None) where
    drained : (phase : SplitPhase) → AreOthers range job phases.Queue → PhaseStands generation range w i m l r job phases.Checkpoint → r.control ≡ None → Sees (drains d r job) (drain_actions r job)
    drained phase others follows none = drains_split generation range w i both m l d by v r past job f.range_is f.under others f.stage follows none blob

    follows_at : (phase : SplitPhase) → job.phase ≡ phase → Sees (follows_in d r job phase) (follow_actions_in r job phase)
    follows_at phases.Checkpoint e =
        both_elim (λ t actions. Sees t actions) (is_some r.control) _ _ _ _ (λ t. rests) (λ t. drained phases.Checkpoint (others_at phases.Checkpoint e) (at_phase phases.Checkpoint e) (is_none r.control t))
    follows_at phases.Queue e = let s = at_phase phases.Queue e in drained phases.Queue (others_at phases.Queue e) s.0 s.1
    follows_at phases.Record e =
        let s = at_phase phases.Record e in
        let others : AreOthers range job phases.Record = others_at phases.Record e in
        if_elim (λ t. Sees t []) (has_stood r) _ _
        (λ t. record_stands_split generation range w i both m l d by v job f.range_is f.under others.0 others.1 r
        (record { paused = s.0; metadata = rests_of generation (metadata_of range) w i m.stand m.sent r.metadata s.1.client (idle_is r.metadata.job (and_parts (is_idle r.metadata.job) (nat_lt (suc r.said.next) (2 ^ 64)) t).0) }) past)
        (λ t. rests)
    follows_at (phases.Begin q) e = rests
    follows_at (phases.Seal kind q) e = rests
    follows_at (phases.Build q) e = rests
    follows_at (phases.Keys side c) e = rests
    follows_at (phases.Complete q) e = rests

    pub follows_split : Sees (follows d r job) (follow_actions d r job)
    follows_split = both_elim (λ t actions. Sees t actions) (has_number d) _ _ _ _ (λ t. follows_at job.phase refl) (λ t. rests)

  -- ---- it gives up

  seals_again : (kind : StreamKind) (q : ReqNo) → job.phase ≡ phases.Seal kind q → (o : Option ℕ) → open_last (extents_of r kind) ≡ o → AskedOfSplit generation range w i (Some r) (Some job) m l (seal_again d o q)
  seals_again kind q at None unsealed = tt
  seals_again kinds.Metadata q at (Some e) unsealed =
      let s = at_phase (phases.Seal kinds.Metadata q) at in
      let b : RestsIs generation (metadata_of range) w i m.stand m.sent r.metadata = s.0.metadata in
      let first = open_last_is r.metadata e unsealed in
      let last : LastIs r.metadata e s.1.index = record { places = first.places; last = first.last; index_is = s.1.index_is } in
      asked_widely generation range w i (Some r) (Some job) m l (seal_packet d e q ∷ [])
      (asked_of_metadata generation range w i both (Some r) m l by.apart (seal_packet d e q ∷ [])
      (inr (seal_asked generation (metadata_of range) w i m.stand m.sent both.metadata r.metadata b.told q e s.1.index (at_last generation (metadata_of range) w i m.stand m.sent r.metadata e s.1.index b.told last) s.1.for), tt))
  seals_again kinds.Log q at (Some e) unsealed =
      let s = at_phase (phases.Seal kinds.Log q) at in
      let b : RestsIs generation (log_of range) w i l.stand l.sent r.log = s.0.paused.log in
      let first = open_last_is r.log e unsealed in
      let last : LastIs r.log e s.1.0.index = record { places = first.places; last = first.last; index_is = s.1.0.index_is } in
      asked_widely generation range w i (Some r) (Some job) m l (seal_packet d e q ∷ [])
      (asked_of_both generation range w i both (Some r) m l by.apart (seal_packet d e q ∷ [])
      (inr (seal_asked generation (log_of range) w i l.stand l.sent both.log r.log b.told q e s.1.0.index (at_last generation (log_of range) w i l.stand l.sent r.log e s.1.0.index b.told last) s.1.0.for), tt))
  seals_again kinds.RowData q at (Some e) unsealed =
      let s = at_phase (phases.Seal kinds.RowData q) at in
      let others = others_at (phases.Seal kinds.RowData q) at in
      subst (λ j. AskedOfSplit generation range w i (Some r) (Some j) m l (seal_packet d e q ∷ [])) (ap (λ p. record job { phase = p }) (sym at)) (rows_asked generation range w i both m l d by v job f.range_is f.under others.0 others.1 r s.0 e q unsealed s.1.0)
  seals_again kinds.BlobData q at (Some e) unsealed = absurd (at_phase (phases.Seal kinds.BlobData q) at).1

  module _ (P : SplitStep → Type 0) (from : (t : SplitStep) → Sees t [] → LeavesKeys d r job t → P t) (keys : (side : SplitSide) (c : ClientState) → job.phase ≡ phases.Keys side c → P (keys_again d r job side c)) where
    unkeyed : (phase : SplitPhase) → job.phase ≡ phase → IsUnkeyed phase → {packets : List Packet} → LeavesKeys d r job (goes d r job packets)
    unkeyed phase e none = record { served = f.stage; keys = inr (subst IsUnkeyed (sym e) none) }

    gives_up_at : (phase : SplitPhase) → job.phase ≡ phase → P (gives_up_in d r job phase)
    gives_up_at (phases.Begin q) e = from (goes d r job (begin_packet d job q ∷ [])) (still_plain generation range w i both m l d by v (goes d r job (begin_packet d job q ∷ [])) f (omega arith) (inl (λ u n s z. tt), tt)) (unkeyed (phases.Begin q) e tt)
    gives_up_at (phases.Seal kind q) e =
        from (goes d r job (seal_again d (open_last (extents_of r kind)) q))
        (still_split generation range w i both m l d by v (goes d r job (seal_again d (open_last (extents_of r kind)) q)) f (omega arith) (seals_again kind q e (open_last (extents_of r kind)) refl)) (unkeyed (phases.Seal kind q) e tt)
    gives_up_at (phases.Build q) e =
        let s = at_phase (phases.Build q) e in
        let others = others_at (phases.Build q) e in
        from (goes d r job (build_packet d job q ∷ []))
        (still_split generation range w i both m l d by v (goes d r job (build_packet d job q ∷ [])) f (omega arith)
        (subst (λ j. AskedOfSplit generation range w i (Some r) (Some j) m l (build_packet d job q ∷ [])) (ap (λ p. record job { phase = p }) (sym e)) (build_asked generation range w i both m l d by v job f.range_is f.under others.0 others.1 r s.0 q))) (unkeyed (phases.Build q) e tt)
    gives_up_at (phases.Keys side c) e = keys side c e
    gives_up_at (phases.Complete q) e = from (goes d r job (complete_packet d job q ∷ [])) (still_plain generation range w i both m l d by v (goes d r job (complete_packet d job q ∷ [])) f (omega arith) (inl (λ u n s z. tt), tt)) (unkeyed (phases.Complete q) e tt)
    gives_up_at phase e = from (stays d r job) rests unchanged

    pub gives_up_split : P (gives_up d r job)
    gives_up_split = if_elim P (has_number d) _ _ (λ t. gives_up_at job.phase refl) (λ t. from (stays d r job) rests unchanged)
