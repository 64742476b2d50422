-- The numbers of a split: each of its steps leaves them, and what it is to build is of ranges that are counted, and new where it asks for it
-- first; and in a run without merges the map tells it others than that of its own range.
use Rattle.std.proofs.Common.{◌≡◌, ℕ, zero, suc, ◌≤◌, true, false, ◌&&◌, List, [], ◌∷◌, Option, Some, None, Contains, is_some, refl, sym, ap, ◌∙◌, subst, inl, inr, arith}
use Rattle.std.proofs.lemmas.Option.{same_Some}
use Rattle.wire.specs.declared.actor.ReqNo.{ReqNo}
use Rattle.wire.specs.declared.body.AppendBody.{AppendBody}
use Rattle.wire.specs.declared.body.AppendBody.TheVariants as appends
use Rattle.wire.specs.declared.body.Body.{Body}
use Rattle.wire.specs.declared.body.Body.TheVariants as bodies
use Rattle.wire.specs.declared.body.MapBody.{MapBody}
use Rattle.wire.specs.declared.body.MapBody.TheVariants as maps
use Rattle.wire.specs.declared.body.SealBody.{SealBody}
use Rattle.wire.specs.declared.body.SealBody.TheVariants as seals
use Rattle.wire.specs.declared.body.StreamBody.{StreamBody}
use Rattle.wire.specs.declared.body.StreamBody.TheVariants as streams
use Rattle.wire.specs.declared.packet.Packet.{Packet}
use Rattle.wire.specs.declared.refusal.Refusal.{Refusal}
use Rattle.wire.specs.declared.refusal.Refusal.TheVariants as refusals
use Rattle.wire.specs.declared.streams.StreamKind.{StreamKind}
use Rattle.client.specs.declared.job.News.{News}
use Rattle.client.specs.declared.job.News.TheVariants as news
use Rattle.client.specs.Client.{ClientState, Outcome, append_rule, reply_rule, give_up_rule}
use Rattle.client.specs.Requests.{is_same}
use Rattle.model_streams.proofs.Tests.{if_elim}
use Rattle.metadata.specs.Record.{spelling}
use Rattle.model_streams.specs.StreamSystem.{StreamSystem, is_request}
use Rattle.model_partition.specs.declared.pause.Pause.TheVariants as pauses
use Rattle.model_partition.specs.declared.server_context.ServerContext.{ServerContext}
use Rattle.model_partition.specs.declared.split_job.Side.{Side}
use Rattle.model_partition.specs.declared.split_job.Side.TheVariants.{Low, High}
use Rattle.model_partition.specs.declared.split_job.SplitJob.{SplitJob}
use Rattle.model_partition.specs.declared.split_job.SplitPhase.{SplitPhase}
use Rattle.model_partition.specs.declared.split_job.SplitPhase.TheVariants as phases
use Rattle.model_partition.specs.Answering.{answered_number}
use Rattle.model_partition.specs.Checkpoints.{begins}
use Rattle.model_partition.specs.Cluster.{Cluster}
use Rattle.model_partition.specs.Range.{RangeState, request, given, picking}
use Rattle.model_partition.specs.Splits.{SplitStep, stays, ends, with_phase, begin_packet, build_packet, complete_packet, checkpointed, may_checkpoint, has_record_numbers, begun, is_drained, may_record, pauses_and_records, drains, extents_of, open_last, builds, seals_or_builds, is_extent, last_sealed, side_range, side_metadata, keys_record, may_say_keys, appends_keys, says_keys, completes, keys_stand, keys_told, refused, refused_by, map_told, seal_told, stream_told, told, phase_awaits, split_reply_in, split_reply, has_number, has_stood, follows_in, follows, seal_again, keys_again, gives_up_in, gives_up}
use Rattle.laws_map.specs.Generations.{HasAsked}
use Rattle.laws_map.specs.GivenPairs.{given_to, HasNumber, AsksToComplete, IsToldPair, giving}
use Rattle.laws_map.specs.Naming.{Knowledge, BodyNames, PhaseNames, JobNames, ServerNames, StateNames}
use Rattle.laws_map.specs.Stages.{stage_of}
use Rattle.laws_map.proofs.EventNames.{entry_is}
use Rattle.laws_map.proofs.GenerationsInRuns.{same_request}
use Rattle.laws_map.proofs.Knowing.{found_at}
use Rattle.laws_map.proofs.SplitFacts.{KnowsSplits, MayHold, JobAt, IsSide, held_assigned, split_above}
use Rattle.laws_stream_machine.specs.Refinement.{IsThere}
use Rattle.laws_ranges.specs.Serves.{metadata_of}
use Rattle.laws_clusters.proofs.SplitRequests.{HasNoSides, BuildsNew}

-- ---- steps

-- the map has told the numbers of the split
abbrev pub IsNumbered : SplitPhase → Type 0
IsNumbered (phases.Begin q) = ⊥
IsNumbered phase = Unit {0}

module _ (d : ServerContext) (job : SplitJob) where
  -- both its ranges are counted
  abbrev Counted : Type 0
  Counted = (1 ≤ job.low) × (1 ≤ job.high)

  same_side : (phase : SplitPhase) (side : Side) → side_range (with_phase job phase) side ≡ side_range job side
  same_side phase Low = refl
  same_side phase High = refl

  module _ (w : StreamSystem) (r : RangeState) (k : IsNumbered job.phase → Counted) (absent : stage_of job.phase ≡ 1 → HasNoSides w job) where
    abbrev Counts : SplitStep → Type 0
    Counts t = BuildsNew w r job t

    -- a split that waits for nothing to be built
    unbuilding : (t : SplitStep) → ((later : SplitJob) → t.job ≡ Some later → (q : ReqNo) → later.phase ≡ phases.Build q → ⊥) → Counts t
    unbuilding t none = record { counted = λ later e q at. absurd (none later e q at); unbuilt = λ later e q at. absurd (none later e q at) }

    ends_counted : (z : RangeState) → Counts (ends d z)
    ends_counted z = unbuilding (ends d z) (λ later e q at. (let none : None ≡ Some later = e in cc))

    -- one that waits for something else
    waits_counted : (t : SplitStep) (other : SplitJob) → t.job ≡ Some other → ((q : ReqNo) → other.phase ≡ phases.Build q → ⊥) → Counts t
    waits_counted t other is none =
        unbuilding t (λ later e q at. (let same : other ≡ later = same_Some other later (sym is ∙ e) in none q (ap (λ (z : SplitJob). z.phase) same ∙ at)))

    -- it and its range are as they were
    here : (count : ℕ) (ps : List Packet) → Counts (record { range = Some r; job = Some job; count = count; packets = ps })
    here count ps = record {
      counted = λ later e q at.
          (let same : job ≡ later = same_Some job later e in
          let both : Counted = k (subst IsNumbered (sym (ap (λ (z : SplitJob). z.phase) same ∙ at)) tt) in
          (subst (λ (z : SplitJob). 1 ≤ z.low) same both.0, subst (λ (z : SplitJob). 1 ≤ z.high) same both.1));
      unbuilt = λ later e q at. inl (refl, same_Some job later e);
    }

    -- the streams are asked for
    builds_counted : (z : RangeState) → Counted → HasNoSides w job → Counts (builds d z job)
    builds_counted z both none = record {
      counted = λ later e q at.
          (let same : with_phase job (phases.Build (request d)) ≡ later = same_Some _ later e in
          (subst (λ (z : SplitJob). 1 ≤ z.low) same both.0, subst (λ (z : SplitJob). 1 ≤ z.high) same both.1));
      unbuilt = λ later e q at. inr (λ side there.
          (let same : with_phase job (phases.Build (request d)) ≡ later = same_Some _ later e in
          let side_is : side_range later side ≡ side_range job side = sym (ap (λ (z : SplitJob). side_range z side) same) ∙ same_side (phases.Build (request d)) side in
          none side (subst (λ n. IsThere w (metadata_of n)) side_is there)));
    }

    begun_counted : (low high : ℕ) → Counts (begun d r job low high)
    begun_counted low high =
        let numbered : SplitJob = record job { low = low; high = high; number = suc r.said.next; phase = phases.Checkpoint } in
        if_elim Counts (may_checkpoint r && has_record_numbers r) _ _ (λ t. waits_counted (checkpointed (begins d r false) numbered) numbered refl (λ q at. cc)) (λ t. here d.count [])

    seals_counted : (z : RangeState) → Counted → HasNoSides w job → (o : Option (StreamKind × ℕ)) → Counts (seals_or_builds d z job o)
    seals_counted z both none None = builds_counted z both none
    seals_counted z both none (Some x) = waits_counted (seals_or_builds d z job (Some x)) (with_phase job (phases.Seal x.0 (request d))) refl (λ q at. cc)

    drains_counted : Counts (drains d r job)
    drains_counted =
        if_elim Counts (is_drained r && may_record r job) _ _ (λ t. waits_counted (pauses_and_records d r job) (with_phase job phases.Record) refl (λ q at. cc))
        (λ t. waits_counted (stays d (record r { pause = pauses.AfterQueue }) (with_phase job phases.Queue)) (with_phase job phases.Queue) refl (λ q at. cc))

    -- keys are appended
    keyed : (t : SplitStep) (side : Side) (c : ClientState) → t.job ≡ Some (with_phase job (phases.Keys side c)) → Counts t
    keyed t side c is = waits_counted t (with_phase job (phases.Keys side c)) is (λ q at. cc)

    says_counted : (side : Side) → Counts (says_keys d r job side)
    says_counted side =
        let c : ClientState = side_metadata d r job side in
        if_elim Counts (may_say_keys r job) _ _ (λ t. keyed (appends_keys d r job side) side (given c (append_rule c (request d) (spelling (keys_record r job side) ∷ []))).after refl) (λ t. here d.count [])

    stood_counted : (side : Side) → Counts (keys_stand d r job side)
    stood_counted Low = says_counted High
    stood_counted High = waits_counted (completes d r job) (with_phase job (phases.Complete (request d))) refl (λ q at. cc)

    told_counted : (side : Side) (o : Outcome) (about : Option News) → Counts (keys_told d r job side o about)
    told_counted side o (Some news.Fenced) = ends_counted r
    told_counted side o (Some (news.Appended x offset)) = stood_counted side
    told_counted side o None = keyed (keys_told d r job side o None) side o.after refl
    told_counted side o (Some (news.Checked x n)) = keyed (keys_told d r job side o (Some (news.Checked x n))) side o.after refl
    told_counted side o (Some (news.Sealed x n)) = keyed (keys_told d r job side o (Some (news.Sealed x n))) side o.after refl
    told_counted side o (Some (news.Content x n)) = keyed (keys_told d r job side o (Some (news.Content x n))) side o.after refl

    refused_counted : (phase : SplitPhase) (why : Refusal) → Counts (refused d r job phase why)
    refused_counted phase refusals.Stale = ends_counted r
    refused_counted (phases.Build q) refusals.NameTaken = says_counted Low
    refused_counted (phases.Complete q) refusals.GenerationChanged = ends_counted r
    refused_counted phase why = here d.count []

    append_counted : (body : AppendBody) → Counts (refused_by d r job body)
    append_counted (appends.Refused z why) = refused_counted job.phase why
    append_counted body = here d.count []

    map_counted : (phase : SplitPhase) (body : MapBody) → Counts (map_told d r job phase body)
    map_counted (phases.Begin q) (maps.SplitBegun z low high) = begun_counted low high
    map_counted (phases.Complete q) (maps.SplitDone z) = ends_counted r
    map_counted phase body = here d.count []

    sealed_counted : Counted → HasNoSides w job → (kind : StreamKind) (e length : ℕ) → Counts (last_sealed d r job kind e length)
    sealed_counted both none kind e length = if_elim Counts (is_extent e (open_last (extents_of r kind))) _ _ (λ t. seals_counted _ both none _) (λ t. here d.count [])

    seal_counted : (phase : SplitPhase) → (IsNumbered phase → Counted) → (stage_of phase ≡ 1 → HasNoSides w job) → (body : SealBody) → Counts (seal_told d r job phase body)
    seal_counted (phases.Seal kind q) both none (seals.SealedIs z x length) = sealed_counted (both tt) (none refl) kind x length
    seal_counted phase both none body = here d.count []

    stream_counted : (phase : SplitPhase) (body : StreamBody) → Counts (stream_told d r job phase body)
    stream_counted (phases.Build q) (streams.Modified z) = says_counted Low
    stream_counted phase body = here d.count []

    body_counted : (body : Body) → Counts (told d r job body)
    body_counted (bodies.Append body) = append_counted body
    body_counted (bodies.Map body) = map_counted job.phase body
    body_counted (bodies.Seal body) = seal_counted job.phase k absent body
    body_counted (bodies.Stream body) = stream_counted job.phase body
    body_counted body = here d.count []

    -- an answer to it
    pub reply_counted : (body : Body) → BuildsNew w r job (split_reply d r job body)
    reply_counted body = go job.phase
      where
        go : (phase : SplitPhase) → Counts (split_reply_in d r job phase body)
        go (phases.Keys side c) = told_counted side (reply_rule (picking d c) (request d) body) (reply_rule (picking d c) (request d) body).news
        go phase = body_counted body

    follow_counted : (phase : SplitPhase) → (IsNumbered phase → Counted) → (stage_of phase ≡ 1 → HasNoSides w job) → Counts (follows_in d r job phase)
    follow_counted phases.Checkpoint both none = if_elim Counts (is_some r.control) _ _ (λ t. here d.count []) (λ t. drains_counted)
    follow_counted phases.Queue both none = drains_counted
    follow_counted phases.Record both none = if_elim Counts (has_stood r) _ _ (λ t. seals_counted _ (both tt) (none refl) _) (λ t. here d.count [])
    follow_counted phase both none = here d.count []

    -- what follows a step of its range
    pub follows_counted : BuildsNew w r job (follows d r job)
    follows_counted = if_elim Counts (has_number d) _ _ (λ t. follow_counted job.phase k absent) (λ t. here d.count [])

    again_counted : (phase : SplitPhase) → Counts (gives_up_in d r job phase)
    again_counted (phases.Begin q) = here (suc d.count) (begin_packet d job q ∷ [])
    again_counted (phases.Seal kind q) = here (suc d.count) (seal_again d (open_last (extents_of r kind)) q)
    again_counted (phases.Build q) = here (suc d.count) (build_packet d job q ∷ [])
    again_counted (phases.Keys side c) = keyed (keys_again d r job side c) side (give_up_rule (picking d c) (request d) d.pick).after refl
    again_counted (phases.Complete q) = here (suc d.count) (complete_packet d job q ∷ [])
    again_counted phase = here d.count []

    -- and where it gives up
    pub gives_up_counted : BuildsNew w r job (gives_up d r job)
    gives_up_counted = if_elim Counts (has_number d) _ _ (λ t. again_counted job.phase) (λ t. here d.count [])

-- ---- what is known of splits

numbered_stage : (phase : SplitPhase) → IsNumbered phase → 1 ≤ stage_of phase
numbered_stage (phases.Begin q) numbered = absurd numbered
numbered_stage phases.Checkpoint numbered = omega arith
numbered_stage phases.Queue numbered = omega arith
numbered_stage phases.Record numbered = omega arith
numbered_stage (phases.Seal kind q) numbered = omega arith
numbered_stage (phases.Build q) numbered = omega arith
numbered_stage (phases.Keys side c) numbered = omega arith
numbered_stage (phases.Complete q) numbered = omega arith

over_first : (n : ℕ) → (n ≤ 1 → ⊥) → 1 ≤ n
over_first zero none = absurd (none (omega arith))
over_first (suc n) none = omega arith

module _ (c : Cluster) (known : KnowsSplits c) (s range : ℕ) (job : SplitJob) (j : JobAt c.servers s range job) where
  -- the two ranges of a split are counted, once the map has told their numbers
  pub job_counted : IsNumbered job.phase → (1 ≤ job.low) × (1 ≤ job.high)
  job_counted numbered =
      let above : (child : ℕ) → IsSide child job → child ≤ 1 → ⊥ = split_above c known s range job j (numbered_stage job.phase numbered) in
      (over_first job.low (above job.low (inl refl)), over_first job.high (above job.high (inr refl)))

  abbrev K : Knowledge
  K = giving known.gives.given known.governs.asks c.stream_layer.post c.map.next

  job_names : JobNames K range job
  job_names =
      let names : ServerNames K j.state = subst (StateNames K) j.runs (entry_is (λ y. StateNames K y.state) c.servers s j.cell known.gives.gives.names.servers j.there) in
      found_at (JobNames K) j.state.splits range job names.splits j.found

  -- its range was assigned
  range_held : MayHold c known range
  range_held = let held = known.stand.held s j.cell j.state j.there j.runs range job j.found in held_assigned c known s j.cell j.state j.there j.runs range held.0 held.1

  -- The numbers that the map tells to a split that begins are none of its range.
  pub told_apart : (v : ReqNo) → job.phase ≡ phases.Begin v → (p : Packet) → Contains c.stream_layer.post p → (u : ReqNo) → answered_number p.body ≡ Some u → phase_awaits job.phase u ≡ true →
      (q : ReqNo) (low high : ℕ) → p.body ≡ bodies.Map (maps.SplitBegun q low high) → (low ≡ range → ⊥) × (high ≡ range → ⊥)
  told_apart v begins p there u number waits q low high is = (λ e. none (inl e), λ e. none (inr e))
    where
      pair : IsToldPair known.gives.given known.governs.asks q low high
      pair = elim (known.gives.gives.names.post p there) [
        | inl user ↦ absurd (let z : is_request (bodies.Map (maps.SplitBegun q low high)) ≡ true = subst (λ b. is_request b ≡ true) is user.1 in cc)
        | inr names ↦ subst (BodyNames K) is names
      ]

      asked : HasAsked known.governs.asks v job.range job.generation job.key
      asked = subst (PhaseNames K job) begins job_names.phase

      same : q ≡ v
      same =
          let one : Some q ≡ Some u = sym (ap answered_number is) ∙ number in
          let two : is_same v u ≡ true = ap (λ z. phase_awaits z u) (sym begins) ∙ waits in
          same_Some q u one ∙ sym (same_request v u two)

      -- else its split would have been asked to be completed
      none : HasNumber range (given_to pair.range pair.generation pair.key low high) → ⊥
      none has =
          let once = known.governs.once q pair.range pair.generation pair.key job.range job.generation job.key pair.asked (subst (λ z. HasAsked known.governs.asks z job.range job.generation job.key) (sym same) asked) in
          let ends : AsksToComplete c.stream_layer.post pair.range pair.generation = range_held.1 (given_to pair.range pair.generation pair.key low high) pair.among has in
          let own : AsksToComplete c.stream_layer.post job.range job.generation = subst (λ n. AsksToComplete c.stream_layer.post n job.generation) once.0 (subst (λ g. AsksToComplete c.stream_layer.post pair.range g) once.1 ends) in
          let four : 4 ≤ stage_of job.phase = (known.stand.stages.jobs s j.cell j.state j.there j.runs range job j.found).ends own in
          let first : stage_of job.phase ≡ 0 = ap stage_of begins in
          omega (arith, four, first)
