-- A split that has paused its range goes on so: no step of it leaves the range and ends the split, or takes it back.
use Rattle.std.proofs.Common.{◌≡◌, ℕ, true, List, Option, Some, None, refl, sym, ◌∙◌, subst}
use Rattle.wire.specs.declared.body.AppendBody.{AppendBody}
use Rattle.wire.specs.declared.body.AppendBody.TheVariants as appends
use Rattle.wire.specs.declared.body.Body.{Body}
use Rattle.wire.specs.declared.body.Body.TheVariants as bodies
use Rattle.wire.specs.declared.body.MapBody.{MapBody}
use Rattle.wire.specs.declared.body.MapBody.TheVariants as maps
use Rattle.wire.specs.declared.body.SealBody.{SealBody}
use Rattle.wire.specs.declared.body.SealBody.TheVariants as seals
use Rattle.wire.specs.declared.body.StreamBody.{StreamBody}
use Rattle.wire.specs.declared.body.StreamBody.TheVariants as streams
use Rattle.wire.specs.declared.refusal.Refusal.{Refusal}
use Rattle.wire.specs.declared.refusal.Refusal.TheVariants as refusals
use Rattle.wire.specs.declared.streams.StreamKind.{StreamKind}
use Rattle.wire.specs.declared.streams.StreamKind.TheVariants as kinds
use Rattle.client.specs.declared.job.News.{News}
use Rattle.client.specs.declared.job.News.TheVariants as news
use Rattle.client.specs.declared.load.LoadPhase.TheVariants as load_phases
use Rattle.client.specs.Client.{Outcome, reply_rule}
use Rattle.metadata.specs.Fold.{taken}
use Rattle.model_streams.proofs.Tests.{if_elim}
use Rattle.model_partition.specs.declared.server_context.ServerContext.{ServerContext}
use Rattle.model_partition.specs.declared.split_job.Side.{Side}
use Rattle.model_partition.specs.declared.split_job.Side.TheVariants.{Low, High}
use Rattle.model_partition.specs.declared.split_job.SplitJob.{SplitJob}
use Rattle.model_partition.specs.declared.split_job.SplitPhase.{SplitPhase}
use Rattle.model_partition.specs.declared.split_job.SplitPhase.TheVariants as phases
use Rattle.model_partition.specs.Range.{RangeState, RangeOutcome, request, picking, is_serving}
use Rattle.model_partition.specs.Splits.{SplitStep, with_phase, split_item, all_kinds, kinds_after, extents_of, open_last, is_extent, first_open, seals_or_builds, with_last_sealed, may_say_keys, says_keys, keys_stand, keys_told, refused, refused_by, map_told, seal_told, stream_told, told, split_reply_in, split_reply, has_number, has_stood, follows_in, follows, gives_up_in, gives_up}
use Rattle.model_histories.specs.StreamActions.{StreamAction}
use Rattle.laws_server_runs.specs.ChildInvariant.{SplitHoldsIf}
use Rattle.laws_server_runs.specs.ClosedRanges.{HasPaused, SplitPlan, IsPausedSo, IsPausedBy}
use Rattle.laws_server_runs.specs.Turns.{IsStep, Alone, BeginsSplit, Drops, Follows, Leaves, Holds, Hears}
use Rattle.laws_server_runs.proofs.SplitJobs.{ruled}
use Rattle.laws_server_runs.proofs.StaysServed.{StaysServedIf, given_up_stays}

-- the range went, or its split has paused it
abbrev pub PausedIf : SplitPlan → Option RangeState → Option SplitJob → Type 0
PausedIf plan None job = Unit {0}
PausedIf plan (Some r) job = IsPausedBy plan r job

module _ (plan : SplitPlan) (d : ServerContext) (r : RangeState) (job : SplitJob) (h : IsPausedSo plan r job) where
  abbrev Left : SplitStep → Type 0
  Left t = PausedIf plan t.range t.job

  -- another phase of it
  in_phase : (phase : SplitPhase) → HasPaused phase → IsPausedSo plan r (with_phase job phase)
  in_phase phase p = record { paused = p; keys = h.keys; key = h.key; low = h.low; high = h.high }

  goes_on : (z : RangeState) → z.said.keys ≡ r.said.keys → (x : Option (StreamKind × ℕ)) → Left (seals_or_builds d z job x)
  goes_on z same None = record { paused = tt; keys = same ∙ h.keys; key = h.key; low = h.low; high = h.high }
  goes_on z same (Some x) = record { paused = tt; keys = same ∙ h.keys; key = h.key; low = h.low; high = h.high }

  -- ---- it follows a step of the range

  follows_paused_in : (phase : SplitPhase) → HasPaused phase → Left (follows_in d r job phase)
  follows_paused_in phases.Record p = if_elim Left (has_stood r) _ _ (λ t. goes_on (record r { said = taken r.said (split_item job) }) refl (first_open (record r { said = taken r.said (split_item job) }) all_kinds)) (λ f. h)
  follows_paused_in (phases.Begin q) p = absurd p
  follows_paused_in phases.Checkpoint p = absurd p
  follows_paused_in phases.Queue p = absurd p
  follows_paused_in (phases.Seal kind q) p = h
  follows_paused_in (phases.Build q) p = h
  follows_paused_in (phases.Keys side c) p = h
  follows_paused_in (phases.Complete q) p = h

  pub follows_paused : Left (follows d r job)
  follows_paused = if_elim Left (has_number d) _ _ (λ t. follows_paused_in job.phase h.paused) (λ f. h)

  -- ---- it gives up

  again_paused : (phase : SplitPhase) → Left (gives_up_in d r job phase)
  again_paused (phases.Keys side c) = in_phase (phases.Keys side _) tt
  again_paused phases.Checkpoint = h
  again_paused phases.Queue = h
  again_paused phases.Record = h
  again_paused (phases.Begin q) = h
  again_paused (phases.Seal kind q) = h
  again_paused (phases.Build q) = h
  again_paused (phases.Complete q) = h

  pub gives_up_paused : Left (gives_up d r job)
  gives_up_paused = if_elim Left (has_number d) _ _ (λ t. again_paused job.phase) (λ f. h)

  -- ---- answers to it

  says_paused : (side : Side) → Left (says_keys d r job side)
  says_paused side = if_elim Left (may_say_keys r job) _ _ (λ t. in_phase (phases.Keys side _) tt) (λ f. h)

  stand_paused : (side : Side) → Left (keys_stand d r job side)
  stand_paused Low = says_paused High
  stand_paused High = in_phase (phases.Complete (request d)) tt

  keys_paused : (side : Side) (o : Outcome) (said : Option News) → Left (keys_told d r job side o said)
  keys_paused side o (Some news.Fenced) = tt
  keys_paused side o (Some (news.Appended e offset)) = stand_paused side
  keys_paused side o None = in_phase (phases.Keys side o.after) tt
  keys_paused side o (Some (news.Checked e l)) = in_phase (phases.Keys side o.after) tt
  keys_paused side o (Some (news.Sealed e l)) = in_phase (phases.Keys side o.after) tt
  keys_paused side o (Some (news.Content e upto)) = in_phase (phases.Keys side o.after) tt

  refused_paused : (phase : SplitPhase) (why : Refusal) → Left (refused d r job phase why)
  refused_paused phase refusals.Stale = tt
  refused_paused (phases.Build q) refusals.NameTaken = says_paused Low
  refused_paused (phases.Complete q) refusals.GenerationChanged = tt
  refused_paused phase why = h

  append_paused : (body : AppendBody) → Left (refused_by d r job body)
  append_paused (appends.Refused w why) = refused_paused job.phase why
  append_paused body = h

  stream_paused : (phase : SplitPhase) (body : StreamBody) → Left (stream_told d r job phase body)
  stream_paused (phases.Build q) (streams.Modified w) = says_paused Low
  stream_paused phase body = h

  said_same : (kind : StreamKind) (n : ℕ) → (with_last_sealed r kind n).said.keys ≡ r.said.keys
  said_same kinds.Metadata n = refl
  said_same kinds.Log n = refl
  said_same kinds.RowData n = refl
  said_same kinds.BlobData n = refl

  seal_paused : (phase : SplitPhase) (body : SealBody) → Left (seal_told d r job phase body)
  seal_paused (phases.Seal kind q) (seals.SealedIs w e n) =
      if_elim Left (is_extent e (open_last (extents_of r kind))) _ _ (λ t. goes_on (with_last_sealed r kind n) (said_same kind n) (first_open (with_last_sealed r kind n) (kinds_after kind))) (λ f. h)
  seal_paused phase body = h

  map_paused : (phase : SplitPhase) → HasPaused phase → (body : MapBody) → Left (map_told d r job phase body)
  map_paused (phases.Begin q) p (maps.SplitBegun w low high) = absurd p
  map_paused (phases.Complete q) p (maps.SplitDone w) = tt
  map_paused phase p body = h

  told_paused : (body : Body) → Left (told d r job body)
  told_paused (bodies.Append body) = append_paused body
  told_paused (bodies.Map body) = map_paused job.phase h.paused body
  told_paused (bodies.Seal body) = seal_paused job.phase body
  told_paused (bodies.Stream body) = stream_paused job.phase body
  told_paused body = h

  reply_paused : (phase : SplitPhase) (body : Body) → Left (split_reply_in d r job phase body)
  reply_paused (phases.Keys side c) body = keys_paused side (reply_rule (picking d c) (request d) body) (reply_rule (picking d c) (request d) body).news
  reply_paused (phases.Begin q) body = told_paused body
  reply_paused phases.Checkpoint body = told_paused body
  reply_paused phases.Queue body = told_paused body
  reply_paused phases.Record body = told_paused body
  reply_paused (phases.Seal kind q) body = told_paused body
  reply_paused (phases.Build q) body = told_paused body
  reply_paused (phases.Complete q) body = told_paused body

  pub hears_paused : (body : Body) → Left (split_reply d r job body)
  hears_paused body = reply_paused job.phase body

-- what leaves the keys of the range leaves this
paused_on : (plan : SplitPlan) (r z : RangeState) (job : SplitJob) → z.said.keys ≡ r.said.keys → IsPausedSo plan r job → IsPausedSo plan z job
paused_on plan r z job same h = record { paused = h.paused; keys = same ∙ h.keys; key = h.key; low = h.low; high = h.high }

-- whatever step the range takes
module _ (plan : SplitPlan) (r : RangeState) (confirmed : is_serving r.stage ≡ true → r.load.phase ≡ load_phases.Confirmed) where
  pub step_paused : (IsNumbered : (low high : ℕ) → Type 0) (job : Option SplitJob) (actions : List StreamAction) (o : RangeOutcome) (later : Option SplitJob) → IsStep IsNumbered r job actions o later → SplitHoldsIf (Some r) job → IsPausedBy plan r job →
      PausedIf plan o.after later
  step_paused IsNumbered job actions o later (Alone own_actions own rule) holds h = absurd h
  step_paused IsNumbered job actions o later (BeginsSplit d key may none splits) holds h = absurd h
  step_paused IsNumbered job actions o later (Drops split own_actions own rule calm gone) holds h = subst (λ x. PausedIf plan x None) (sym gone) tt
  step_paused IsNumbered job actions o later (Follows split own_actions own rule calm room d counts next left) holds h =
      follows_paused plan d next split (paused_on plan r next split (ruled r confirmed split holds own_actions own rule calm next left).on.keys h)
  step_paused IsNumbered job actions o later (Leaves split c d next left) holds h =
      gives_up_paused plan d next split (paused_on plan r next split (subst (StaysServedIf r) left (given_up_stays r holds.serving c)).on.keys h)
  step_paused IsNumbered job actions o later (Holds split until count) holds h = paused_on plan r (record r { until = until }) split refl h
  step_paused IsNumbered job actions o later (Hears split d body numbered) holds h = hears_paused plan d r split h body
