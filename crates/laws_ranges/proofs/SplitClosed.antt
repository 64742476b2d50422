-- Each step of a split leaves what its range knows of its blob stream closed.
use Rattle.std.proofs.Common.{◌≡◌, ⊎_elim, ℕ, ◌-◌, Bool, true, false, not, ◌&&◌, List, [], length, Option, Some, None, is_some, refl, subst, if◌then◌else◌}
use Rattle.std.proofs.lemmas.Bool.{and_parts}
use Rattle.wire.specs.declared.body.AppendBody.{AppendBody}
use Rattle.wire.specs.declared.body.AppendBody.TheVariants as appends
use Rattle.wire.specs.declared.body.Body.{Body}
use Rattle.wire.specs.declared.body.Body.TheVariants as bodies
use Rattle.wire.specs.declared.body.MapBody.{MapBody}
use Rattle.wire.specs.declared.body.MapBody.TheVariants as maps
use Rattle.wire.specs.declared.body.SealBody.{SealBody}
use Rattle.wire.specs.declared.body.SealBody.TheVariants as seals
use Rattle.wire.specs.declared.body.StreamBody.{StreamBody}
use Rattle.wire.specs.declared.body.StreamBody.TheVariants as streams
use Rattle.wire.specs.declared.refusal.Refusal.{Refusal}
use Rattle.wire.specs.declared.refusal.Refusal.TheVariants as refusals
use Rattle.wire.specs.declared.streams.StreamExtent.{StreamExtent}
use Rattle.wire.specs.declared.streams.StreamKind.{StreamKind}
use Rattle.wire.specs.declared.streams.StreamKind.TheVariants as kinds
use Rattle.metadata.specs.Fold.{taken}
use Rattle.client.specs.declared.job.News.{News}
use Rattle.client.specs.declared.job.News.TheVariants as news
use Rattle.client.specs.Client.{Outcome, last_extent, sealed_last, sealed_last_if, reply_rule}
use Rattle.model_streams.proofs.Tests.{if_elim}
use Rattle.model_partition.specs.declared.server_context.ServerContext.{ServerContext}
use Rattle.model_partition.specs.declared.split_job.Side.{Side}
use Rattle.model_partition.specs.declared.split_job.Side.TheVariants.{Low, High}
use Rattle.model_partition.specs.declared.split_job.SplitJob.{SplitJob}
use Rattle.model_partition.specs.declared.split_job.SplitPhase.{SplitPhase}
use Rattle.model_partition.specs.declared.split_job.SplitPhase.TheVariants as phases
use Rattle.model_partition.specs.Range.{RangeState, request, picking, goes as rule_goes}
use Rattle.model_partition.specs.Checkpoints.{checkpoint_fault, number_to_apply, have_bytes, begins}
use Rattle.model_partition.specs.Splits.{SplitStep, split_item, may_checkpoint, has_record_numbers, begun, is_drained, may_record, drains, extents_of, open_last, all_kinds, kinds_after, first_open, seals_or_builds, with_last_sealed, is_extent, last_sealed, may_say_keys, says_keys, keys_stand, keys_told, refused, refused_by, map_told, seal_told, stream_told, told, split_reply_in, split_reply, has_number, has_stood, follows_in, follows, gives_up_in, gives_up}
use Rattle.laws_ranges.specs.SplitJobs.{AreClosed, BlobClosedIf}
use Rattle.laws_ranges.proofs.BlobClosed.{checkpoint_closed}
use Rattle.laws_ranges.proofs.RowData.{set_holds}

-- with the length of the last extent
closed_sealed : (xs : List StreamExtent) (n : ℕ) → AreClosed xs → AreClosed (sealed_last xs n)
closed_sealed xs n closed = go (last_extent xs)
  where
    go : (o : Option StreamExtent) → AreClosed (sealed_last_if xs n o)
    go None x here = closed x here
    go (Some z) x here =
        ⊎_elim {C = is_some x.length ≡ true} (λ s. subst (λ (v : StreamExtent). is_some v.length ≡ true) s refl) (λ old. closed x old) (set_holds xs (length xs - 1) (record z { length = Some n }) x here)

module _ (d : ServerContext) (r : RangeState) (job : SplitJob) (k : AreClosed r.blob_data.extents) where
  abbrev Closed : SplitStep → Type 0
  Closed t = BlobClosedIf t.range

  begun_closed : (low high : ℕ) → Closed (begun d r job low high)
  begun_closed low high = if_elim Closed (may_checkpoint r && has_record_numbers r) _ _ (λ t. checkpoint (and_parts (may_checkpoint r) (has_record_numbers r) t).0) (λ t. k)
    where
      checkpoint : may_checkpoint r ≡ true → BlobClosedIf (begins d r false).after
      checkpoint may =
          let bytes = (and_parts (not (is_some (checkpoint_fault r))) (have_bytes r.live r.position (number_to_apply r.out r.next)) may).1 in
          subst (λ (t : Bool). BlobClosedIf (if t then begins d r false else rule_goes d r [] []).after) bytes (checkpoint_closed d r k false)

  drains_closed : Closed (drains d r job)
  drains_closed = if_elim Closed (is_drained r && may_record r job) _ _ (λ t. k) (λ t. k)

  seals_closed : (next : RangeState) → AreClosed next.blob_data.extents → (x : Option (StreamKind × ℕ)) → Closed (seals_or_builds d next job x)
  seals_closed next closed None = closed
  seals_closed next closed (Some x) = closed

  sealed_closed : (kind : StreamKind) (e length : ℕ) → Closed (last_sealed d r job kind e length)
  sealed_closed kind e length = if_elim Closed (is_extent e (open_last (extents_of r kind))) _ _ (λ t. by_kind kind) (λ t. k)
    where
      left : StreamKind → RangeState
      left z = with_last_sealed r z length

      by_kind : (z : StreamKind) → Closed (seals_or_builds d (left z) job (first_open (left z) (kinds_after z)))
      by_kind kinds.Metadata = seals_closed (left kinds.Metadata) k (first_open (left kinds.Metadata) (kinds_after kinds.Metadata))
      by_kind kinds.Log = seals_closed (left kinds.Log) k (first_open (left kinds.Log) (kinds_after kinds.Log))
      by_kind kinds.RowData = seals_closed (left kinds.RowData) k (first_open (left kinds.RowData) (kinds_after kinds.RowData))
      by_kind kinds.BlobData = seals_closed (left kinds.BlobData) (closed_sealed r.blob_data.extents length k) (first_open (left kinds.BlobData) (kinds_after kinds.BlobData))

  said_closed : (side : Side) → Closed (says_keys d r job side)
  said_closed side = if_elim Closed (may_say_keys r job) _ _ (λ t. k) (λ t. k)

  stood_closed : (side : Side) → Closed (keys_stand d r job side)
  stood_closed Low = said_closed High
  stood_closed High = k

  told_closed : (side : Side) (o : Outcome) (about : Option News) → Closed (keys_told d r job side o about)
  told_closed side o (Some news.Fenced) = tt
  told_closed side o (Some (news.Appended x offset)) = stood_closed side
  told_closed side o None = k
  told_closed side o (Some (news.Checked x n)) = k
  told_closed side o (Some (news.Sealed x n)) = k
  told_closed side o (Some (news.Content x n)) = k

  refused_closed : (phase : SplitPhase) (why : Refusal) → Closed (refused d r job phase why)
  refused_closed phase refusals.Stale = tt
  refused_closed (phases.Build q) refusals.NameTaken = said_closed Low
  refused_closed (phases.Complete q) refusals.GenerationChanged = tt
  refused_closed phase why = k

  append_closed : (body : AppendBody) → Closed (refused_by d r job body)
  append_closed (appends.Refused z why) = refused_closed job.phase why
  append_closed body = k

  map_closed : (phase : SplitPhase) (body : MapBody) → Closed (map_told d r job phase body)
  map_closed (phases.Begin q) (maps.SplitBegun z low high) = begun_closed low high
  map_closed (phases.Complete q) (maps.SplitDone z) = tt
  map_closed phase body = k

  seal_closed : (phase : SplitPhase) (body : SealBody) → Closed (seal_told d r job phase body)
  seal_closed (phases.Seal kind q) (seals.SealedIs z x length) = sealed_closed kind x length
  seal_closed phase body = k

  stream_closed : (phase : SplitPhase) (body : StreamBody) → Closed (stream_told d r job phase body)
  stream_closed (phases.Build q) (streams.Modified z) = said_closed Low
  stream_closed phase body = k

  body_closed : (body : Body) → Closed (told d r job body)
  body_closed (bodies.Append body) = append_closed body
  body_closed (bodies.Map body) = map_closed job.phase body
  body_closed (bodies.Seal body) = seal_closed job.phase body
  body_closed (bodies.Stream body) = stream_closed job.phase body
  body_closed body = k

  pub reply_closed : (body : Body) → Closed (split_reply d r job body)
  reply_closed body = go job.phase
    where
      go : (phase : SplitPhase) → Closed (split_reply_in d r job phase body)
      go (phases.Keys side c) = told_closed side (reply_rule (picking d c) (request d) body) (reply_rule (picking d c) (request d) body).news
      go phase = body_closed body

  follow_closed : (phase : SplitPhase) → Closed (follows_in d r job phase)
  follow_closed phases.Checkpoint = if_elim Closed (is_some r.control) _ _ (λ t. k) (λ t. drains_closed)
  follow_closed phases.Queue = drains_closed
  follow_closed phases.Record =
      if_elim Closed (has_stood r) _ _ (λ t. (let said : RangeState = record r { said = taken r.said (split_item job) } in seals_closed said k (first_open said all_kinds))) (λ t. k)
  follow_closed phase = k

  pub follows_closed : Closed (follows d r job)
  follows_closed = if_elim Closed (has_number d) _ _ (λ t. follow_closed job.phase) (λ t. k)

  give_up_closed_at : (phase : SplitPhase) → Closed (gives_up_in d r job phase)
  give_up_closed_at (phases.Begin q) = k
  give_up_closed_at (phases.Seal kind q) = k
  give_up_closed_at (phases.Build q) = k
  give_up_closed_at (phases.Keys side c) = k
  give_up_closed_at (phases.Complete q) = k
  give_up_closed_at phase = k

  pub gives_up_closed : Closed (gives_up d r job)
  gives_up_closed = if_elim Closed (has_number d) _ _ (λ t. give_up_closed_at job.phase) (λ t. k)
