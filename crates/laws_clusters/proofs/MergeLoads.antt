-- A step of a merge keeps each of its two ranges where it stands in its load, under its lease, if at all; and it opens no range.
use Rattle.std.proofs.Common.{◌≤◌, ℕ, Bool, false, ◌&&◌, List, [], ◌∷◌, Option, Some, None, is_some}
use Rattle.std.specs.Prelude.{option_to_list}
use Rattle.wire.specs.declared.actor.ReqNo.{ReqNo}
use Rattle.wire.specs.declared.body.AppendBody.{AppendBody}
use Rattle.wire.specs.declared.body.AppendBody.TheVariants as appends
use Rattle.wire.specs.declared.body.SealBody.{SealBody}
use Rattle.wire.specs.declared.body.SealBody.TheVariants as seals
use Rattle.wire.specs.declared.body.StreamBody.{StreamBody}
use Rattle.wire.specs.declared.body.StreamBody.TheVariants as streams
use Rattle.wire.specs.declared.body.MapBody.{MapBody}
use Rattle.wire.specs.declared.body.MapBody.TheVariants as maps
use Rattle.wire.specs.declared.body.Body.{Body}
use Rattle.wire.specs.declared.body.Body.TheVariants as bodies
use Rattle.wire.specs.declared.packet.Packet.{Packet}
use Rattle.wire.specs.declared.refusal.Refusal.{Refusal}
use Rattle.wire.specs.declared.refusal.Refusal.TheVariants as refusals
use Rattle.wire.specs.declared.streams.StreamKind.{StreamKind}
use Rattle.wire.specs.declared.streams.StreamKind.TheVariants as kinds
use Rattle.client.specs.declared.job.News.{News}
use Rattle.client.specs.declared.job.News.TheVariants as news
use Rattle.client.specs.Client.{ClientState, Outcome, append_rule, reply_rule, give_up_rule}
use Rattle.client.specs.Load.{LoadState}
use Rattle.metadata.specs.Record.{spelling}
use Rattle.model_streams.proofs.Tests.{if_elim}
use Rattle.model_partition.specs.declared.server_context.ServerContext.{ServerContext}
use Rattle.model_partition.specs.declared.merge_job.MergeJob.{MergeJob}
use Rattle.model_partition.specs.declared.merge_job.MergePhase.{MergePhase}
use Rattle.model_partition.specs.declared.merge_job.MergePhase.TheVariants as phases
use Rattle.model_partition.specs.declared.merge_job.MergeRecord.{MergeRecord}
use Rattle.model_partition.specs.declared.merge_job.MergeRecord.TheVariants.{Keys, Regions}
use Rattle.model_partition.specs.declared.merge_job.MergeSide.{MergeSide}
use Rattle.model_partition.specs.declared.merge_job.MergeSide.TheVariants.{Left, Right}
use Rattle.model_partition.specs.declared.stage.Stage.{Stage}
use Rattle.model_partition.specs.declared.waiting.WaitingGet.{WaitingGet}
use Rattle.model_partition.specs.Range.{RangeState, request, given, picking, refuses, refused_gets}
use Rattle.model_partition.specs.ControlJobs.{give_up_control}
use Rattle.model_partition.specs.Checkpoints.{trimmed}
use Rattle.model_partition.specs.Splits.{may_checkpoint, is_drained, is_extent, seal_again, with_last_sealed, has_number}
use Rattle.model_partition.specs.Merges.{MergeStep, stays, goes, ends, parts, loses, with_phase, begun, begins_right, Part, open_part, all_parts, parts_after, first_open, seals_or_builds, sealed_left, sealed_right, last_sealed, pausing, drains, creates, new_metadata, record_of, may_write, writes, created, record_stands, write_told, write_reply, begin_refused, seal_refused, build_refused, create_refused, complete_refused, refused, refused_by, map_told, seal_told, stream_told, told, merge_reply_in, merge_reply, left_ends, follows_in, follows, asks_again_in, checkpoint_again, gives_up, gives_up_with, has_numbers_again, other_checkpoint}
use Rattle.laws_map.specs.Openings.{AreQuiet}
use Rattle.laws_map.proofs.QuietClients.{IsQuietStep, quiet_both, quiet_map, listed, given_quiet, append_rule_quiet, reply_quiet, give_up_quiet}
use Rattle.laws_map.proofs.RangeLoads.{Has, IfHas, Good, refused_for, begins_good, control_good}
use Rattle.laws_map.proofs.RangeNames.{no_less, one_up}

gets_quiet : (d : ServerContext) (r : RangeState) → AreQuiet (refused_gets d r)
gets_quiet d r = quiet_map (λ (g : WaitingGet). refuses d g.from g.request refusals.NotOwner) (λ g. tt) r.gets

module _ (P Q : ℕ → LoadState → Stage → Type 0) (d : ServerContext) where
  -- both are left so, if at all; it is quiet; and numbers go up
  pub record BothStand (t : MergeStep) : Type 0 where
    pub left : IfHas P t.left
    pub right : IfHas Q t.right
    pub packets : AreQuiet t.packets
    pub count : d.count ≤ t.count

  stays_on : (l r : RangeState) (job : MergeJob) → Has P l → Has Q r → BothStand (stays d l r job)
  stays_on l r job x y = record { left = x; right = y; packets = tt; count = no_less d.count }

  goes_on : (l r : RangeState) (job : MergeJob) (packets : List Packet) → Has P l → Has Q r → AreQuiet packets → BothStand (goes d l r job packets)
  goes_on l r job packets x y h = record { left = x; right = y; packets = h; count = one_up d.count }

  ends_on : (l r : RangeState) → BothStand (ends d l r)
  ends_on l r = record { left = tt; right = tt; packets = quiet_both (refused_gets d l) (refused_gets d r) (gets_quiet d l) (gets_quiet d r); count = one_up d.count }

  parts_on : (l r : RangeState) → Has P l → Has Q r → BothStand (parts d l r)
  parts_on l r x y = record { left = x; right = y; packets = tt; count = no_less d.count }

  loses_on : (l r : RangeState) (side : MergeSide) → Has P l → Has Q r → BothStand (loses d l r side)
  loses_on l r Left x y = record { left = tt; right = y; packets = refused_for P d l; count = one_up d.count }
  loses_on l r Right x y = record { left = x; right = tt; packets = refused_for Q d r; count = one_up d.count }

  -- ---- the checkpoints

  begun_on : (l r : RangeState) (job : MergeJob) (into : ℕ) → Has P l → Has Q r → BothStand (begun d l r job into)
  begun_on l r job into x y =
      if_elim BothStand (may_checkpoint l) _ _
      (λ t. (let g = begins_good P d l false x in record { left = g.0; right = y; packets = g.1; count = g.2 })) (λ f. stays_on l r job x y)

  begins_right_on : (l r : RangeState) (job : MergeJob) → Has P l → Has Q r → BothStand (begins_right d l r job)
  begins_right_on l r job x y =
      if_elim BothStand (may_checkpoint r) _ _
      (λ t. (let g = begins_good Q d r false y in record { left = x; right = g.0; packets = g.1; count = g.2 })) (λ f. parts_on l r x y)

  pub left_ends_on : (l r : RangeState) (job : MergeJob) (x : ℕ × Bool) → Has P l → Has Q r → BothStand (left_ends d l r job x)
  left_ends_on l r job z x y = begins_right_on (trimmed l z.0 z.1) r job x y

  -- ---- seals, and the streams of the new range

  seals_or_builds_on : (l r : RangeState) (job : MergeJob) (x : Option (Part × ℕ)) → Has P l → Has Q r → BothStand (seals_or_builds d l r job x)
  seals_or_builds_on l r job None x y = goes_on l r _ _ x y (tt, tt)
  seals_or_builds_on l r job (Some z) x y = goes_on l r _ _ x y (tt, tt)

  sealed_has : (R : ℕ → LoadState → Stage → Type 0) (r : RangeState) (kind : StreamKind) (length : ℕ) → Has R r → Has R (with_last_sealed r kind length)
  sealed_has R r kinds.Metadata length h = h
  sealed_has R r kinds.Log length h = h
  sealed_has R r kinds.RowData length h = h
  sealed_has R r kinds.BlobData length h = h

  left_has : (l : RangeState) (side : MergeSide) (kind : StreamKind) (length : ℕ) → Has P l → Has P (sealed_left l side kind length)
  left_has l Left kind length x = sealed_has P l kind length x
  left_has l Right kind length x = x

  right_has : (r : RangeState) (side : MergeSide) (kind : StreamKind) (length : ℕ) → Has Q r → Has Q (sealed_right r side kind length)
  right_has r Left kind length y = y
  right_has r Right kind length y = sealed_has Q r kind length y

  last_sealed_on : (l r : RangeState) (job : MergeJob) (side : MergeSide) (kind : StreamKind) (e length : ℕ) → Has P l → Has Q r → BothStand (last_sealed d l r job side kind e length)
  last_sealed_on l r job side kind e length x y =
      let left : RangeState = sealed_left l side kind length in
      let right : RangeState = sealed_right r side kind length in
      if_elim BothStand (is_extent e (open_part l r side kind)) _ _
      (λ t. seals_or_builds_on left right job (first_open left right (parts_after side kind)) (left_has l side kind length x) (right_has r side kind length y)) (λ f. stays_on l r job x y)

  drains_on : (l r : RangeState) (job : MergeJob) → Has P l → Has Q r → BothStand (drains d l r job)
  drains_on l r job x y =
      if_elim BothStand (is_drained l && is_drained r) _ _
      (λ t. seals_or_builds_on (pausing l) (pausing r) job (first_open (pausing l) (pausing r) all_parts) x y) (λ f. stays_on (pausing l) (pausing r) _ x y)

  -- ---- the metadata of the new range, and the end

  creates_on : (l r : RangeState) (job : MergeJob) → Has P l → Has Q r → BothStand (creates d l r job)
  creates_on l r job x y = goes_on l r _ _ x y (tt, tt)

  writes_on : (l r : RangeState) (job : MergeJob) (what : MergeRecord) (c : ClientState) → Has P l → Has Q r → BothStand (writes d l r job what c)
  writes_on l r job what c x y =
      let z : ClientState = picking d c in
      let o = append_rule z (request d) (spelling (record_of l r what) ∷ []) in
      if_elim BothStand (may_write l r what) _ _
      (λ t. goes_on l r _ _ x y (listed (given z o).packet (given_quiet z o (append_rule_quiet z (request d) (spelling (record_of l r what) ∷ []))))) (λ f. stays_on l r job x y)

  created_on : (l r : RangeState) (job : MergeJob) → Has P l → Has Q r → BothStand (created d l r job)
  created_on l r job x y = writes_on l r job Keys (new_metadata d job) x y

  record_stands_on : (l r : RangeState) (job : MergeJob) (what : MergeRecord) (c : ClientState) → Has P l → Has Q r → BothStand (record_stands d l r job what c)
  record_stands_on l r job Keys c x y = writes_on l r job Regions c x y
  record_stands_on l r job Regions c x y = goes_on l r _ _ x y (tt, tt)

  write_told_on : (l r : RangeState) (job : MergeJob) (what : MergeRecord) (o : Outcome) (told : Option News) → Has P l → Has Q r → IsQuietStep o → BothStand (write_told d l r job what o told)
  write_told_on l r job what o (Some news.Fenced) x y k = ends_on l r
  write_told_on l r job what o (Some (news.Appended e offset)) x y k = record_stands_on l r job what o.after x y
  write_told_on l r job what o told x y k = goes_on l r _ _ x y (listed o.packet k)

  write_reply_on : (l r : RangeState) (job : MergeJob) (what : MergeRecord) (c : ClientState) (body : Body) → Has P l → Has Q r → BothStand (write_reply d l r job what c body)
  write_reply_on l r job what c body x y =
      let o : Outcome = reply_rule (picking d c) (request d) body in
      write_told_on l r job what o o.news x y (reply_quiet (picking d c) (request d) body)

  -- ---- answers

  begin_refused_on : (l r : RangeState) (job : MergeJob) (refusal : Refusal) → Has P l → Has Q r → BothStand (begin_refused d l r job refusal)
  begin_refused_on l r job refusals.Stale x y = loses_on l r Left x y
  begin_refused_on l r job refusals.NotOwner x y = parts_on l r x y
  begin_refused_on l r job refusals.NotAdjacent x y = parts_on l r x y
  begin_refused_on l r job refusals.GenerationChanged x y = parts_on l r x y
  begin_refused_on l r job refusal x y = stays_on l r job x y

  seal_refused_on : (l r : RangeState) (job : MergeJob) (side : MergeSide) (refusal : Refusal) → Has P l → Has Q r → BothStand (seal_refused d l r job side refusal)
  seal_refused_on l r job side refusals.Stale x y = loses_on l r side x y
  seal_refused_on l r job side refusal x y = stays_on l r job x y

  build_refused_on : (l r : RangeState) (job : MergeJob) (refusal : Refusal) → Has P l → Has Q r → BothStand (build_refused d l r job refusal)
  build_refused_on l r job refusals.Stale x y = ends_on l r
  build_refused_on l r job refusals.NameTaken x y = creates_on l r job x y
  build_refused_on l r job refusal x y = stays_on l r job x y

  create_refused_on : (l r : RangeState) (job : MergeJob) (refusal : Refusal) → Has P l → Has Q r → BothStand (create_refused d l r job refusal)
  create_refused_on l r job refusals.Stale x y = ends_on l r
  create_refused_on l r job refusals.NameTaken x y = created_on l r job x y
  create_refused_on l r job refusal x y = stays_on l r job x y

  complete_refused_on : (l r : RangeState) (job : MergeJob) (refusal : Refusal) → Has P l → Has Q r → BothStand (complete_refused d l r job refusal)
  complete_refused_on l r job refusals.Stale x y = ends_on l r
  complete_refused_on l r job refusals.GenerationChanged x y = ends_on l r
  complete_refused_on l r job refusal x y = stays_on l r job x y

  refused_on : (l r : RangeState) (job : MergeJob) (phase : MergePhase) (refusal : Refusal) → Has P l → Has Q r → BothStand (refused d l r job phase refusal)
  refused_on l r job (phases.Begin q) refusal x y = begin_refused_on l r job refusal x y
  refused_on l r job (phases.Seal side kind q) refusal x y = seal_refused_on l r job side refusal x y
  refused_on l r job (phases.Build q) refusal x y = build_refused_on l r job refusal x y
  refused_on l r job (phases.Create q) refusal x y = create_refused_on l r job refusal x y
  refused_on l r job (phases.Complete q) refusal x y = complete_refused_on l r job refusal x y
  refused_on l r job phase refusal x y = stays_on l r job x y

  refused_by_on : (l r : RangeState) (job : MergeJob) (body : AppendBody) → Has P l → Has Q r → BothStand (refused_by d l r job body)
  refused_by_on l r job (appends.Refused w refusal) x y = refused_on l r job job.phase refusal x y
  refused_by_on l r job body x y = stays_on l r job x y

  map_told_on : (l r : RangeState) (job : MergeJob) (phase : MergePhase) (body : MapBody) → Has P l → Has Q r → BothStand (map_told d l r job phase body)
  map_told_on l r job (phases.Begin q) (maps.MergeBegun w into) x y = begun_on l r job into x y
  map_told_on l r job (phases.Complete q) (maps.MergeDone w) x y = ends_on l r
  map_told_on l r job phase body x y = stays_on l r job x y

  seal_told_on : (l r : RangeState) (job : MergeJob) (phase : MergePhase) (body : SealBody) → Has P l → Has Q r → BothStand (seal_told d l r job phase body)
  seal_told_on l r job (phases.Seal side kind q) (seals.SealedIs w e length) x y = last_sealed_on l r job side kind e length x y
  seal_told_on l r job phase body x y = stays_on l r job x y

  stream_told_on : (l r : RangeState) (job : MergeJob) (phase : MergePhase) (body : StreamBody) → Has P l → Has Q r → BothStand (stream_told d l r job phase body)
  stream_told_on l r job (phases.Build q) (streams.Modified w) x y = creates_on l r job x y
  stream_told_on l r job (phases.Create q) (streams.Created w) x y = created_on l r job x y
  stream_told_on l r job phase body x y = stays_on l r job x y

  told_on : (l r : RangeState) (job : MergeJob) (body : Body) → Has P l → Has Q r → BothStand (told d l r job body)
  told_on l r job (bodies.Append body) x y = refused_by_on l r job body x y
  told_on l r job (bodies.Map body) x y = map_told_on l r job job.phase body x y
  told_on l r job (bodies.Seal body) x y = seal_told_on l r job job.phase body x y
  told_on l r job (bodies.Stream body) x y = stream_told_on l r job job.phase body x y
  told_on l r job body x y = stays_on l r job x y

  reply_in_on : (l r : RangeState) (job : MergeJob) (phase : MergePhase) (body : Body) → Has P l → Has Q r → BothStand (merge_reply_in d l r job phase body)
  reply_in_on l r job (phases.Write what c) body x y = write_reply_on l r job what c body x y
  reply_in_on l r job phase body x y = told_on l r job body x y

  pub merge_replies : (l r : RangeState) (job : MergeJob) (body : Body) → Has P l → Has Q r → BothStand (merge_reply d l r job body)
  merge_replies l r job body x y = reply_in_on l r job job.phase body x y

  -- ---- what follows a step of either range, and giving up

  follows_in_on : (l r : RangeState) (job : MergeJob) (side : MergeSide) (phase : MergePhase) → Has P l → Has Q r → BothStand (follows_in d l r job side phase)
  follows_in_on l r job Right (phases.Checkpoint Right) x y = if_elim BothStand (is_some r.control) _ _ (λ t. stays_on l r job x y) (λ f. drains_on l r job x y)
  follows_in_on l r job side phases.Queue x y = drains_on l r job x y
  follows_in_on l r job side phase x y = stays_on l r job x y

  pub merge_follows : (l r : RangeState) (job : MergeJob) (side : MergeSide) → Has P l → Has Q r → BothStand (follows d l r job side)
  merge_follows l r job side x y = if_elim BothStand (has_number d) _ _ (λ t. follows_in_on l r job side job.phase x y) (λ f. stays_on l r job x y)

  seal_again_quiet : (e : Option ℕ) (q : ReqNo) → AreQuiet (seal_again d e q)
  seal_again_quiet None q = tt
  seal_again_quiet (Some e) q = (tt, tt)

  asks_again_in_on : (l r : RangeState) (job : MergeJob) (phase : MergePhase) → Has P l → Has Q r → BothStand (asks_again_in d l r job phase)
  asks_again_in_on l r job (phases.Begin q) x y = goes_on l r _ _ x y (tt, tt)
  asks_again_in_on l r job (phases.Seal side kind q) x y = goes_on l r _ _ x y (seal_again_quiet (open_part l r side kind) q)
  asks_again_in_on l r job (phases.Build q) x y = goes_on l r _ _ x y (tt, tt)
  asks_again_in_on l r job (phases.Create q) x y = goes_on l r _ _ x y (tt, tt)
  asks_again_in_on l r job (phases.Write what c) x y =
      let o : Outcome = give_up_rule (picking d c) (request d) d.pick in
      goes_on l r (with_phase job (phases.Write what o.after)) (option_to_list o.packet) x y (listed o.packet (give_up_quiet (picking d c) (request d) d.pick))
  asks_again_in_on l r job (phases.Complete q) x y = goes_on l r _ _ x y (tt, tt)
  asks_again_in_on l r job phase x y = stays_on l r job x y

  again_good : (R : ℕ → LoadState → Stage → Type 0) (r : RangeState) → Has R r → Good R d (checkpoint_again d r)
  again_good R r h = if_elim (Good R d) (has_numbers_again d) (give_up_control d r) _ (λ t. control_good R d r h) (λ f. (h, tt, no_less d.count, tt))

  gives_up_with_on : (l r : RangeState) (job : MergeJob) (other : Option MergeSide) → Has P l → Has Q r → BothStand (gives_up_with d l r job other)
  gives_up_with_on l r job None x y = if_elim BothStand (has_number d) _ _ (λ t. asks_again_in_on l r job job.phase x y) (λ f. stays_on l r job x y)
  gives_up_with_on l r job (Some Left) x y = let g = again_good P l x in record { left = g.0; right = y; packets = g.1; count = g.2 }
  gives_up_with_on l r job (Some Right) x y = let g = again_good Q r y in record { left = x; right = g.0; packets = g.1; count = g.2 }

  pub merge_gives_up : (l r : RangeState) (job : MergeJob) (side : MergeSide) → Has P l → Has Q r → BothStand (gives_up d l r job side)
  merge_gives_up l r job side x y = gives_up_with_on l r job (other_checkpoint job.phase side) x y
