-- What is owed of a range by the split that makes it, while its run does not go on: the steps of the range that is split, and of its split,
-- that do nothing with the streams of the two, keep it.
use Rattle.std.proofs.Common.{◌≡◌, ◌⊎◌, ℕ, suc, true, false, ◌&&◌, List, Option, Some, None, is_some, refl, sym, subst, inl, inr}
use Rattle.wire.specs.declared.body.AppendBody.{AppendBody}
use Rattle.wire.specs.declared.body.AppendBody.TheVariants as appends
use Rattle.wire.specs.declared.body.Body.{Body}
use Rattle.wire.specs.declared.body.Body.TheVariants as bodies
use Rattle.wire.specs.declared.body.MapBody.{MapBody}
use Rattle.wire.specs.declared.body.MapBody.TheVariants as maps
use Rattle.wire.specs.declared.body.SealBody.{SealBody}
use Rattle.wire.specs.declared.body.SealBody.TheVariants as seals
use Rattle.wire.specs.declared.body.StreamBody.{StreamBody}
use Rattle.wire.specs.declared.body.StreamBody.TheVariants as streams
use Rattle.wire.specs.declared.refusal.Refusal.{Refusal}
use Rattle.wire.specs.declared.refusal.Refusal.TheVariants as refusals
use Rattle.wire.specs.declared.streams.StreamKind.{StreamKind}
use Rattle.client.specs.declared.job.News.{News}
use Rattle.client.specs.declared.job.News.TheVariants as news
use Rattle.client.specs.declared.load.LoadPhase.TheVariants as load_phases
use Rattle.client.specs.Client.{Outcome, reply_rule}
use Rattle.metadata.specs.Fold.{MetadataState, taken}
use Rattle.metadata.specs.declared.record.KeyRange.{KeyRange}
use Rattle.model_streams.proofs.Tests.{if_elim}
use Rattle.model_partition.specs.declared.server_context.ServerContext.{ServerContext}
use Rattle.model_partition.specs.declared.split_job.Side.{Side}
use Rattle.model_partition.specs.declared.split_job.Side.TheVariants.{Low, High}
use Rattle.model_partition.specs.declared.split_job.SplitJob.{SplitJob}
use Rattle.model_partition.specs.declared.split_job.SplitPhase.{SplitPhase}
use Rattle.model_partition.specs.declared.split_job.SplitPhase.TheVariants as phases
use Rattle.model_partition.specs.Range.{RangeState, RangeOutcome, request, picking, is_serving}
use Rattle.model_partition.specs.Splits.{SplitStep, split_item, is_drained, may_record, drains, all_kinds, first_open, may_checkpoint, has_record_numbers, kinds_after, extents_of, open_last, is_extent, seals_or_builds, with_last_sealed, side_keys, side_range, refused, refused_by, map_told, seal_told, stream_told, told, split_reply_in, split_reply, keys_told, keys_stand, says_keys, may_say_keys, has_number, has_stood, follows_in, follows, gives_up_in, gives_up}
use Rattle.model_partition.specs.Checkpoints.{begins}
use Rattle.model_histories.specs.StreamActions.{StreamAction}
use Rattle.laws_tables.specs.Runs.{Run}
use Rattle.laws_server_runs.specs.ChildInvariant.{IsDrained, SplitPhaseHolds, SplitHolds, SplitHoldsIf, KeysStand, KeysHold, ChildHolds, IsBeforeBuild, IsBuilding, IsSaying}
use Rattle.laws_server_runs.specs.Turns.{IsStep, Alone, BeginsSplit, Drops, Follows, Leaves, Holds, Hears, IsUnheard}
use Rattle.laws_server_runs.proofs.SplitJobs.{ruled}
use Rattle.laws_server_runs.proofs.StaysServed.{StaysServed, StaysServedIf, given_up_stays, renewed_stays}

-- ---- another run, and another event

module _ (base run later : Run) (append begun : ℕ) (m : MetadataState) (job : SplitJob) where
  keys_moved : (child out : Side) → run ≡ later → append ≡ begun → KeysHold base run append job.generation m job.key child out → KeysHold base later begun job.generation m job.key child out
  keys_moved child out same began h = subst (λ z. KeysHold base z begun job.generation m job.key child out) same (subst (λ n. KeysHold base run n job.generation m job.key child out) began h)

  -- while it is under way both are as they were, and what is named stays so
  pub child_moved : (child : Side) (phase : SplitPhase) → (IsBuilding phase ⊎ IsSaying phase → (run ≡ later) × (append ≡ begun)) → ((keys : KeyRange) → KeysStand base run job.generation m keys → KeysStand base later job.generation m keys) →
      ChildHolds base run append m job child phase → ChildHolds base later begun m job child phase
  child_moved child (phases.Begin q) same named h = tt
  child_moved child phases.Checkpoint same named h = tt
  child_moved child phases.Queue same named h = tt
  child_moved child phases.Record same named h = tt
  child_moved child (phases.Seal kind q) same named h = tt
  child_moved child (phases.Build q) same named h = let is = same (inl tt) in subst (λ z. ChildHolds base z begun m job child (phases.Build q)) is.0 h
  child_moved child (phases.Keys out c) same named h = let is = same (inr tt) in keys_moved child out is.0 is.1 h
  child_moved child (phases.Complete q) same named h = named (side_keys m.keys job.key child) h

-- ---- a split that may make it

-- built: that the streams of the range are built
module _ (built : Type 0) (n : ℕ) (base run : Run) (append : ℕ) where
  abbrev pub Owed : RangeState → SplitJob → Type 0
  Owed r job = (child : Side) → n ≡ side_range job child → (IsBuilding job.phase → built) → ChildHolds base run append r.said job child job.phase

  abbrev pub OwedIf : Option RangeState → Option SplitJob → Type 0
  OwedIf None job = Unit {0}
  OwedIf (Some r) None = Unit {0}
  OwedIf (Some r) (Some job) = Owed r job

  -- its streams are built only once that is asked for
  abbrev pub Never : SplitJob → Type 0
  Never job = IsBeforeBuild job.phase → built → (child : Side) → n ≡ side_range job child → ⊥

  abbrev pub NeverIf : Option SplitJob → Type 0
  NeverIf None = Unit {0}
  NeverIf (Some job) = Never job

  abbrev Left : SplitStep → Type 0
  Left t = OwedIf t.range t.job

  -- the range goes on
  module _ (r z : RangeState) (stays : StaysServed r z) (job : SplitJob) where
    said_on : (child : Side) (phase : SplitPhase) → IsDrained r → ChildHolds base run append r.said job child phase → ChildHolds base run append z.said job child phase
    said_on child phase drained h = subst (λ m. ChildHolds base run append m job child phase) (sym (stays.rests drained.control).1) h

    on : (child : Side) (phase : SplitPhase) → SplitPhaseHolds r job phase → ChildHolds base run append r.said job child phase → ChildHolds base run append z.said job child phase
    on child (phases.Begin q) p h = tt
    on child phases.Checkpoint p h = tt
    on child phases.Queue p h = tt
    on child phases.Record p h = tt
    on child (phases.Seal kind q) p h = tt
    on child (phases.Build q) p h = said_on child (phases.Build q) p h
    on child (phases.Keys out c) p h = said_on child (phases.Keys out c) p.0 h
    on child (phases.Complete q) p h = said_on child (phases.Complete q) p.0 h

    pub owed_on : SplitHolds r job → Owed r job → Owed z job
    owed_on holds owed child e b = on child job.phase holds.phase (owed child e b)

  module _ (d : ServerContext) (r : RangeState) (job : SplitJob) (owed : Owed r job) where
    -- where it is asked that the streams are built, they were not before
    pub seals_owed : (y : RangeState) → Never job → IsBeforeBuild job.phase → (x : Option (StreamKind × ℕ)) → Left (seals_or_builds d y job x)
    seals_owed y never before None = λ child e b. absurd (never before (b tt) child e)
    seals_owed y never before (Some x) = λ child e b. tt

    drains_owed : Left (drains d r job)
    drains_owed = if_elim Left (is_drained r && may_record r job) _ _ (λ t child e b. tt) (λ f child e b. tt)

    follows_owed_in : Never job → (phase : SplitPhase) → job.phase ≡ phase → Left (follows_in d r job phase)
    follows_owed_in never phases.Checkpoint is = if_elim Left (is_some r.control) _ _ (λ t. owed) (λ f. drains_owed)
    follows_owed_in never phases.Queue is = drains_owed
    follows_owed_in never phases.Record is =
        if_elim Left (has_stood r) _ _ (λ t. seals_owed (record r { said = taken r.said (split_item job) }) never (subst IsBeforeBuild (sym is) tt) (first_open (record r { said = taken r.said (split_item job) }) all_kinds)) (λ f. owed)
    follows_owed_in never (phases.Begin q) is = owed
    follows_owed_in never (phases.Seal kind q) is = owed
    follows_owed_in never (phases.Build q) is = owed
    follows_owed_in never (phases.Keys out c) is = owed
    follows_owed_in never (phases.Complete q) is = owed

    pub follows_owed : Never job → Left (follows d r job)
    follows_owed never = if_elim Left (has_number d) _ _ (λ t. follows_owed_in never job.phase refl) (λ f. owed)

    again_owed : (phase : SplitPhase) → job.phase ≡ phase → Left (gives_up_in d r job phase)
    again_owed (phases.Keys out c) is = λ child e b. subst (ChildHolds base run append r.said job child) is (owed child e (λ w. b (subst IsBuilding is w)))
    again_owed phases.Checkpoint is = owed
    again_owed phases.Queue is = owed
    again_owed phases.Record is = owed
    again_owed (phases.Begin q) is = owed
    again_owed (phases.Seal kind q) is = owed
    again_owed (phases.Build q) is = owed
    again_owed (phases.Complete q) is = owed

    pub gives_up_owed : Left (gives_up d r job)
    gives_up_owed = if_elim Left (has_number d) _ _ (λ t. again_owed job.phase refl) (λ f. owed)

  -- ---- a step that is no answer to the split

  module _ (r : RangeState) (confirmed : is_serving r.stage ≡ true → r.load.phase ≡ load_phases.Confirmed) where
    pub unheard_owed : (IsNumbered : (low high : ℕ) → Type 0) (job : Option SplitJob) (actions : List StreamAction) (o : RangeOutcome) (later : Option SplitJob) (step : IsStep IsNumbered r job actions o later) → IsUnheard step →
        SplitHoldsIf (Some r) job → OwedIf (Some r) job → NeverIf job → OwedIf o.after later
    unheard_owed IsNumbered job actions o later (Alone own_actions own rule) unheard holds owed never = none_owed own.after
      where
        none_owed : (x : Option RangeState) → OwedIf x None
        none_owed None = tt
        none_owed (Some z) = tt
    unheard_owed IsNumbered job actions o later (BeginsSplit d key may none splits) unheard holds owed never = λ child e b. tt
    unheard_owed IsNumbered job actions o later (Drops split own_actions own rule calm gone) unheard holds owed never = subst (λ x. OwedIf x None) (sym gone) tt
    unheard_owed IsNumbered job actions o later (Follows split own_actions own rule calm room d counts next left) unheard holds owed never =
        follows_owed d next split (owed_on r next (ruled r confirmed split holds own_actions own rule calm next left) split holds owed) never
    unheard_owed IsNumbered job actions o later (Leaves split c d next left) unheard holds owed never =
        gives_up_owed d next split (owed_on r next (subst (StaysServedIf r) left (given_up_stays r holds.serving c)) split holds owed)
    unheard_owed IsNumbered job actions o later (Holds split until count) unheard holds owed never = owed_on r (record r { until = until }) (renewed_stays r holds.serving until) split holds owed
    unheard_owed IsNumbered job actions o later (Hears split d body numbered) unheard holds owed never = absurd unheard

  -- ---- an answer to the split, which says no keys

  module _ (d : ServerContext) (r : RangeState) (job : SplitJob) (owed : Owed r job) (never : Never job) (quiet : IsBuilding job.phase → ⊥) where
    refused_owed : (phase : SplitPhase) → (IsBuilding phase → ⊥) → (why : Refusal) → Left (refused d r job phase why)
    refused_owed phase quiet refusals.Stale = tt
    refused_owed (phases.Build q) quiet refusals.NameTaken = absurd (quiet tt)
    refused_owed (phases.Complete q) quiet refusals.GenerationChanged = tt
    refused_owed phase quiet why = owed

    append_owed : (body : AppendBody) → Left (refused_by d r job body)
    append_owed (appends.Refused w why) = refused_owed job.phase quiet why
    append_owed body = owed

    stream_owed : (phase : SplitPhase) → (IsBuilding phase → ⊥) → (body : StreamBody) → Left (stream_told d r job phase body)
    stream_owed (phases.Build q) quiet (streams.Modified w) = absurd (quiet tt)
    stream_owed phase quiet body = owed

    seal_owed : (phase : SplitPhase) → job.phase ≡ phase → (body : SealBody) → Left (seal_told d r job phase body)
    seal_owed (phases.Seal kind q) is (seals.SealedIs w e l) =
        if_elim Left (is_extent e (open_last (extents_of r kind))) _ _
        (λ t. seals_owed d r job owed (with_last_sealed r kind l) never (subst IsBeforeBuild (sym is) tt) (first_open (with_last_sealed r kind l) (kinds_after kind))) (λ f. owed)
    seal_owed phase is body = owed

    begun_owed : (low high : ℕ) (x : Option RangeState) → OwedIf x (Some (record job { low = low; high = high; number = suc r.said.next; phase = phases.Checkpoint }))
    begun_owed low high None = tt
    begun_owed low high (Some z) = λ child e b. tt

    map_owed : (phase : SplitPhase) (body : MapBody) → Left (map_told d r job phase body)
    map_owed (phases.Begin q) (maps.SplitBegun w low high) = if_elim Left (may_checkpoint r && has_record_numbers r) _ _ (λ t. begun_owed low high (begins d r false).after) (λ f. owed)
    map_owed (phases.Complete q) (maps.SplitDone w) = tt
    map_owed phase body = owed

    pub told_owed : (body : Body) → Left (told d r job body)
    told_owed (bodies.Append body) = append_owed body
    told_owed (bodies.Map body) = map_owed job.phase body
    told_owed (bodies.Seal body) = seal_owed job.phase refl body
    told_owed (bodies.Stream body) = stream_owed job.phase quiet body
    told_owed body = owed

  -- ---- a split that does not make it

  module _ (d : ServerContext) (r : RangeState) (job : SplitJob) (none : (child : Side) → n ≡ side_range job child → ⊥) where
    none_says : (side : Side) → Left (says_keys d r job side)
    none_says side = if_elim Left (may_say_keys r job) _ _ (λ t child e b. absurd (none child e)) (λ f child e b. absurd (none child e))

    none_stands : (side : Side) → Left (keys_stand d r job side)
    none_stands Low = none_says High
    none_stands High = λ child e b. absurd (none child e)

    none_keys : (side : Side) (o : Outcome) (said : Option News) → Left (keys_told d r job side o said)
    none_keys side o (Some news.Fenced) = tt
    none_keys side o (Some (news.Appended e offset)) = none_stands side
    none_keys side o None = λ child e b. absurd (none child e)
    none_keys side o (Some (news.Checked e l)) = λ child e b. absurd (none child e)
    none_keys side o (Some (news.Sealed e l)) = λ child e b. absurd (none child e)
    none_keys side o (Some (news.Content e upto)) = λ child e b. absurd (none child e)

    none_refused : (phase : SplitPhase) (why : Refusal) → Left (refused d r job phase why)
    none_refused phase refusals.Stale = tt
    none_refused (phases.Build q) refusals.NameTaken = none_says Low
    none_refused (phases.Complete q) refusals.GenerationChanged = tt
    none_refused phase why = λ child e b. absurd (none child e)

    none_append : (body : AppendBody) → Left (refused_by d r job body)
    none_append (appends.Refused w why) = none_refused job.phase why
    none_append body = λ child e b. absurd (none child e)

    none_stream : (phase : SplitPhase) (body : StreamBody) → Left (stream_told d r job phase body)
    none_stream (phases.Build q) (streams.Modified w) = none_says Low
    none_stream phase body = λ child e b. absurd (none child e)

    none_seals : (y : RangeState) (x : Option (StreamKind × ℕ)) → Left (seals_or_builds d y job x)
    none_seals y None = λ child e b. absurd (none child e)
    none_seals y (Some x) = λ child e b. tt

    none_seal : (phase : SplitPhase) (body : SealBody) → Left (seal_told d r job phase body)
    none_seal (phases.Seal kind q) (seals.SealedIs w e l) =
        if_elim Left (is_extent e (open_last (extents_of r kind))) _ _ (λ t. none_seals (with_last_sealed r kind l) (first_open (with_last_sealed r kind l) (kinds_after kind))) (λ f child e b. absurd (none child e))
    none_seal phase body = λ child e b. absurd (none child e)

    none_begun : (low high : ℕ) (x : Option RangeState) → OwedIf x (Some (record job { low = low; high = high; number = suc r.said.next; phase = phases.Checkpoint }))
    none_begun low high None = tt
    none_begun low high (Some z) = λ child e b. tt

    none_map : (phase : SplitPhase) (body : MapBody) → Left (map_told d r job phase body)
    none_map (phases.Begin q) (maps.SplitBegun w low high) = if_elim Left (may_checkpoint r && has_record_numbers r) _ _ (λ t. none_begun low high (begins d r false).after) (λ f child e b. absurd (none child e))
    none_map (phases.Complete q) (maps.SplitDone w) = tt
    none_map phase body = λ child e b. absurd (none child e)

    none_told : (body : Body) → Left (told d r job body)
    none_told (bodies.Append body) = none_append body
    none_told (bodies.Map body) = none_map job.phase body
    none_told (bodies.Seal body) = none_seal job.phase body
    none_told (bodies.Stream body) = none_stream job.phase body
    none_told body = λ child e b. absurd (none child e)

    none_reply : (phase : SplitPhase) (body : Body) → Left (split_reply_in d r job phase body)
    none_reply (phases.Keys side c) body = none_keys side (reply_rule (picking d c) (request d) body) (reply_rule (picking d c) (request d) body).news
    none_reply (phases.Begin q) body = none_told body
    none_reply phases.Checkpoint body = none_told body
    none_reply phases.Queue body = none_told body
    none_reply phases.Record body = none_told body
    none_reply (phases.Seal kind q) body = none_told body
    none_reply (phases.Build q) body = none_told body
    none_reply (phases.Complete q) body = none_told body

    pub none_owed : (body : Body) → Left (split_reply d r job body)
    none_owed body = none_reply job.phase body
