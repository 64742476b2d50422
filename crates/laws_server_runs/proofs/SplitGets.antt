-- A split leaves the Gets that wait at its range; a range that is served is served on with its keys.
use Rattle.std.proofs.Common.{◌≡◌, ℕ, ◌&&◌, true, false, Option, Some, None, is_some, refl}
use Rattle.wire.specs.declared.body.AppendBody.{AppendBody}
use Rattle.wire.specs.declared.body.AppendBody.TheVariants as appends
use Rattle.wire.specs.declared.body.Body.{Body}
use Rattle.wire.specs.declared.body.Body.TheVariants as bodies
use Rattle.wire.specs.declared.body.MapBody.{MapBody}
use Rattle.wire.specs.declared.body.MapBody.TheVariants as maps
use Rattle.wire.specs.declared.body.SealBody.{SealBody}
use Rattle.wire.specs.declared.body.SealBody.TheVariants as seals
use Rattle.wire.specs.declared.body.StreamBody.{StreamBody}
use Rattle.wire.specs.declared.body.StreamBody.TheVariants as streams
use Rattle.wire.specs.declared.refusal.Refusal.{Refusal}
use Rattle.wire.specs.declared.refusal.Refusal.TheVariants as refusals
use Rattle.wire.specs.declared.streams.StreamKind.{StreamKind}
use Rattle.wire.specs.declared.streams.StreamKind.TheVariants as kinds
use Rattle.client.specs.declared.job.News.{News}
use Rattle.client.specs.declared.job.News.TheVariants as news
use Rattle.client.specs.Client.{Outcome, reply_rule}
use Rattle.metadata.specs.Fold.{taken}
use Rattle.model_streams.proofs.Tests.{if_elim}
use Rattle.model_partition.specs.declared.server_context.ServerContext.{ServerContext}
use Rattle.model_partition.specs.declared.split_job.Side.{Side}
use Rattle.model_partition.specs.declared.split_job.Side.TheVariants.{Low, High}
use Rattle.model_partition.specs.declared.split_job.SplitJob.{SplitJob}
use Rattle.model_partition.specs.declared.split_job.SplitPhase.{SplitPhase}
use Rattle.model_partition.specs.declared.split_job.SplitPhase.TheVariants as phases
use Rattle.model_partition.specs.Range.{RangeState, request, picking, is_serving}
use Rattle.model_partition.specs.Checkpoints.{begins}
use Rattle.model_partition.specs.Splits.{SplitStep, split_item, may_checkpoint, has_record_numbers, is_drained, may_record, drains, all_kinds, kinds_after, extents_of, open_last, is_extent, first_open, seals_or_builds, with_last_sealed, may_say_keys, says_keys, keys_stand, keys_told, refused, refused_by, map_told, seal_told, stream_told, told, split_reply_in, split_reply, has_number, has_stood, follows_in, follows, gives_up_in, gives_up}
use Rattle.laws_server_runs.proofs.StaysServed.{IsServedOn, IsServedOnIf, begins_serves}
use Rattle.laws_server_runs.proofs.WaitingGets.{GetsIf, begins_leaves}

-- its Gets wait, and where it is served it is served on
pub record WaitsOn (r z : RangeState) : Type 0 where
  pub on : is_serving r.stage ≡ true → IsServedOn r z
  pub gets : z.gets ≡ r.gets

abbrev pub WaitsOnIf : RangeState → Option RangeState → Type 0
WaitsOnIf r None = Unit {0}
WaitsOnIf r (Some z) = WaitsOn r z

module _ (d : ServerContext) (r : RangeState) (job : SplitJob) where
  abbrev Left : SplitStep → Type 0
  Left t = WaitsOnIf r t.range

  -- nothing that matters changes
  same : WaitsOn r r
  same = record { on = λ s. record { load = refl; stage = refl; keys = refl }; gets = refl }

  drains_on : Left (drains d r job)
  drains_on =
      if_elim Left (is_drained r && may_record r job) _ _ (λ t. record { on = λ s. record { load = refl; stage = refl; keys = refl }; gets = refl })
      (λ f. record { on = λ s. record { load = refl; stage = refl; keys = refl }; gets = refl })

  seals_on : (y : RangeState) → WaitsOn r y → (x : Option (StreamKind × ℕ)) → Left (seals_or_builds d y job x)
  seals_on y h None = h
  seals_on y h (Some x) = h

  follows_on_in : (phase : SplitPhase) → Left (follows_in d r job phase)
  follows_on_in phases.Checkpoint = if_elim Left (is_some r.control) _ _ (λ t. same) (λ f. drains_on)
  follows_on_in phases.Queue = drains_on
  follows_on_in phases.Record =
      if_elim Left (has_stood r) _ _
      (λ t. seals_on (record r { said = taken r.said (split_item job) }) (record { on = λ s. record { load = refl; stage = refl; keys = refl }; gets = refl }) (first_open (record r { said = taken r.said (split_item job) }) all_kinds))
      (λ f. same)
  follows_on_in (phases.Begin q) = same
  follows_on_in (phases.Seal kind q) = same
  follows_on_in (phases.Build q) = same
  follows_on_in (phases.Keys out c) = same
  follows_on_in (phases.Complete q) = same

  pub follows_on : Left (follows d r job)
  follows_on = if_elim Left (has_number d) _ _ (λ t. follows_on_in job.phase) (λ f. same)

  again_on : (phase : SplitPhase) → Left (gives_up_in d r job phase)
  again_on (phases.Keys out c) = same
  again_on phases.Checkpoint = same
  again_on phases.Queue = same
  again_on phases.Record = same
  again_on (phases.Begin q) = same
  again_on (phases.Seal kind q) = same
  again_on (phases.Build q) = same
  again_on (phases.Complete q) = same

  pub gives_up_on : Left (gives_up d r job)
  gives_up_on = if_elim Left (has_number d) _ _ (λ t. again_on job.phase) (λ f. same)

  -- ---- answers

  says_on : (side : Side) → Left (says_keys d r job side)
  says_on side = if_elim Left (may_say_keys r job) _ _ (λ t. same) (λ f. same)

  stand_on : (side : Side) → Left (keys_stand d r job side)
  stand_on Low = says_on High
  stand_on High = same

  keys_on : (side : Side) (o : Outcome) (said : Option News) → Left (keys_told d r job side o said)
  keys_on side o (Some news.Fenced) = tt
  keys_on side o (Some (news.Appended e offset)) = stand_on side
  keys_on side o None = same
  keys_on side o (Some (news.Checked e l)) = same
  keys_on side o (Some (news.Sealed e l)) = same
  keys_on side o (Some (news.Content e upto)) = same

  refused_on : (phase : SplitPhase) (why : Refusal) → Left (refused d r job phase why)
  refused_on phase refusals.Stale = tt
  refused_on (phases.Build q) refusals.NameTaken = says_on Low
  refused_on (phases.Complete q) refusals.GenerationChanged = tt
  refused_on phase why = same

  append_on : (body : AppendBody) → Left (refused_by d r job body)
  append_on (appends.Refused w why) = refused_on job.phase why
  append_on body = same

  stream_on : (phase : SplitPhase) (body : StreamBody) → Left (stream_told d r job phase body)
  stream_on (phases.Build q) (streams.Modified w) = says_on Low
  stream_on phase body = same

  sealed_on : (kind : StreamKind) (n : ℕ) → WaitsOn r (with_last_sealed r kind n)
  sealed_on kinds.Metadata n = record { on = λ s. record { load = refl; stage = refl; keys = refl }; gets = refl }
  sealed_on kinds.Log n = record { on = λ s. record { load = refl; stage = refl; keys = refl }; gets = refl }
  sealed_on kinds.RowData n = record { on = λ s. record { load = refl; stage = refl; keys = refl }; gets = refl }
  sealed_on kinds.BlobData n = record { on = λ s. record { load = refl; stage = refl; keys = refl }; gets = refl }

  seal_on : (phase : SplitPhase) (body : SealBody) → Left (seal_told d r job phase body)
  seal_on (phases.Seal kind q) (seals.SealedIs w e l) =
      if_elim Left (is_extent e (open_last (extents_of r kind))) _ _ (λ t. seals_on (with_last_sealed r kind l) (sealed_on kind l) (first_open (with_last_sealed r kind l) (kinds_after kind))) (λ f. same)
  seal_on phase body = same

  -- its checkpoint begins
  begun_on : WaitsOnIf r (begins d r false).after
  begun_on =
      by (begins d r false).after (begins_leaves (λ gets. gets ≡ r.gets) (λ range g key value. Unit {0}) d r refl false).0 (λ serving. begins_serves r serving d false)
    where
      by : (x : Option RangeState) → GetsIf (λ gets. gets ≡ r.gets) x → (is_serving r.stage ≡ true → IsServedOnIf r x) → WaitsOnIf r x
      by None gets on = tt
      by (Some z) gets on = record { on = on; gets = gets }

  map_on : (phase : SplitPhase) (body : MapBody) → Left (map_told d r job phase body)
  map_on (phases.Begin q) (maps.SplitBegun w low high) = if_elim Left (may_checkpoint r && has_record_numbers r) _ _ (λ t. begun_on) (λ f. same)
  map_on (phases.Complete q) (maps.SplitDone w) = tt
  map_on phase body = same

  told_on : (body : Body) → Left (told d r job body)
  told_on (bodies.Append body) = append_on body
  told_on (bodies.Map body) = map_on job.phase body
  told_on (bodies.Seal body) = seal_on job.phase body
  told_on (bodies.Stream body) = stream_on job.phase body
  told_on body = same

  reply_on : (phase : SplitPhase) (body : Body) → Left (split_reply_in d r job phase body)
  reply_on (phases.Keys side c) body = keys_on side (reply_rule (picking d c) (request d) body) (reply_rule (picking d c) (request d) body).news
  reply_on (phases.Begin q) body = told_on body
  reply_on phases.Checkpoint body = told_on body
  reply_on phases.Queue body = told_on body
  reply_on phases.Record body = told_on body
  reply_on (phases.Seal kind q) body = told_on body
  reply_on (phases.Build q) body = told_on body
  reply_on (phases.Complete q) body = told_on body

  pub hears_on : (body : Body) → Left (split_reply d r job body)
  hears_on body = reply_on job.phase body
