-- What a step of a merge sends is from a server.
use Rattle.std.proofs.Common.{ℕ, Bool, false, ◌&&◌, List, [], ◌∷◌, Option, Some, None, is_some, refl, inl, inr}
use Rattle.std.specs.Prelude.{option_to_list}
use Rattle.wire.specs.declared.body.AppendBody.{AppendBody}
use Rattle.wire.specs.declared.body.AppendBody.TheVariants as appends
use Rattle.wire.specs.declared.body.SealBody.{SealBody}
use Rattle.wire.specs.declared.body.SealBody.TheVariants as seals
use Rattle.wire.specs.declared.body.StreamBody.{StreamBody}
use Rattle.wire.specs.declared.body.StreamBody.TheVariants as streams
use Rattle.wire.specs.declared.body.MapBody.{MapBody}
use Rattle.wire.specs.declared.body.MapBody.TheVariants as maps
use Rattle.wire.specs.declared.body.Body.{Body}
use Rattle.wire.specs.declared.body.Body.TheVariants as bodies
use Rattle.wire.specs.declared.refusal.Refusal.{Refusal}
use Rattle.wire.specs.declared.refusal.Refusal.TheVariants as refusals
use Rattle.wire.specs.declared.streams.StreamKind.{StreamKind}
use Rattle.client.specs.declared.job.News.{News}
use Rattle.client.specs.declared.job.News.TheVariants as news
use Rattle.client.specs.Client.{ClientState, Outcome, append_rule, reply_rule, give_up_rule}
use Rattle.metadata.specs.Record.{spelling}
use Rattle.model_streams.proofs.Tests.{if_elim}
use Rattle.model_partition.specs.declared.server_context.ServerContext.{ServerContext}
use Rattle.model_partition.specs.declared.merge_job.MergeJob.{MergeJob}
use Rattle.model_partition.specs.declared.merge_job.MergePhase.{MergePhase}
use Rattle.model_partition.specs.declared.merge_job.MergePhase.TheVariants as phases
use Rattle.model_partition.specs.declared.merge_job.MergeRecord.{MergeRecord}
use Rattle.model_partition.specs.declared.merge_job.MergeRecord.TheVariants.{Keys, Regions}
use Rattle.model_partition.specs.declared.merge_job.MergeSide.{MergeSide}
use Rattle.model_partition.specs.declared.merge_job.MergeSide.TheVariants.{Left, Right}
use Rattle.model_partition.specs.Range.{RangeState, RangeOutcome, request, given, picking, refused_gets}
use Rattle.model_partition.specs.ControlJobs.{give_up_control}
use Rattle.model_partition.specs.Checkpoints.{begins, trimmed}
use Rattle.model_partition.specs.Splits.{may_checkpoint, is_drained, is_extent, has_number}
use Rattle.model_partition.specs.Merges.{MergeStep, ends, loses, begun, begins_right, Part, open_part, all_parts, parts_after, first_open, seals_or_builds, seals_among, sealed_left, sealed_right, last_sealed, pausing, drains, creates, new_metadata, record_of, may_write, appends_record, writes, created, record_stands, write_told, write_reply, begin_refused, seal_refused, build_refused, create_refused, complete_refused, refused, refused_by, map_told, seal_told, stream_told, told, merge_reply_in, merge_reply, left_ends, follows_in, follows, asks_again_in, checkpoint_again, gives_up, gives_up_with, has_numbers_again, other_checkpoint}
use Rattle.laws_servers.specs.Sending.{AllFromServers}
use Rattle.laws_servers.proofs.ClientPackets.{from_servers, servers_both, given_calls, append_rule_calls, reply_calls, give_up_calls}
use Rattle.laws_servers.proofs.RangeSteps.{gets_all, begins_tidy, control_tidy}
use Rattle.laws_servers.proofs.SplitSteps.{client_sends, seal_again_all, users_sends}

-- what it sends is from a server
abbrev pub Sends : MergeStep → Type 0
Sends t = AllFromServers t.packets

gets_sends : (d : ServerContext) (r : RangeState) → AllFromServers (refused_gets d r)
gets_sends d r = from_servers (refused_gets d r) (gets_all d r)

ends_sends : (d : ServerContext) (l r : RangeState) → Sends (ends d l r)
ends_sends d l r = servers_both (refused_gets d l) (refused_gets d r) (gets_sends d l) (gets_sends d r)

loses_sends : (d : ServerContext) (l r : RangeState) (side : MergeSide) → Sends (loses d l r side)
loses_sends d l r Left = users_sends d l
loses_sends d l r Right = users_sends d r

-- ---- the checkpoints

begun_sends : (d : ServerContext) (l r : RangeState) (job : MergeJob) (into : ℕ) → Sends (begun d l r job into)
begun_sends d l r job into = if_elim Sends (may_checkpoint l) _ _ (λ t. from_servers (begins d l false).packets (begins_tidy d l false).0) (λ f. tt)

begins_right_sends : (d : ServerContext) (l r : RangeState) (job : MergeJob) → Sends (begins_right d l r job)
begins_right_sends d l r job = if_elim Sends (may_checkpoint r) _ _ (λ t. from_servers (begins d r false).packets (begins_tidy d r false).0) (λ f. tt)

pub left_ends_sends : (d : ServerContext) (l r : RangeState) (job : MergeJob) (x : ℕ × Bool) → Sends (left_ends d l r job x)
left_ends_sends d l r job x = begins_right_sends d (trimmed l x.0 x.1) r job

-- ---- seals, and the streams of the new range

-- streams are built of streams of their own kind, as servers may ask
seals_or_builds_sends : (d : ServerContext) (l r : RangeState) (job : MergeJob) (x : Option (Part × ℕ)) → Sends (seals_or_builds d l r job x)
seals_or_builds_sends d l r job None = ((d.server, refl, inl refl), tt)
seals_or_builds_sends d l r job (Some x) = ((d.server, refl, inl refl), tt)

seals_among_sends : (d : ServerContext) (l r : RangeState) (job : MergeJob) (parts : List Part) → Sends (seals_among d l r job parts)
seals_among_sends d l r job parts = seals_or_builds_sends d l r job (first_open l r parts)

last_sealed_sends : (d : ServerContext) (l r : RangeState) (job : MergeJob) (side : MergeSide) (kind : StreamKind) (e length : ℕ) → Sends (last_sealed d l r job side kind e length)
last_sealed_sends d l r job side kind e length =
    if_elim Sends (is_extent e (open_part l r side kind)) _ _
    (λ t. seals_among_sends d (sealed_left l side kind length) (sealed_right r side kind length) job (parts_after side kind)) (λ f. tt)

drains_sends : (d : ServerContext) (l r : RangeState) (job : MergeJob) → Sends (drains d l r job)
drains_sends d l r job = if_elim Sends (is_drained l && is_drained r) _ _ (λ t. seals_among_sends d (pausing l) (pausing r) job all_parts) (λ f. tt)

-- ---- the metadata of the new range, and the end

creates_sends : (d : ServerContext) (l r : RangeState) (job : MergeJob) → Sends (creates d l r job)
creates_sends d l r job = ((d.server, refl, inl refl), tt)

appends_record_sends : (d : ServerContext) (l r : RangeState) (job : MergeJob) (what : MergeRecord) (c : ClientState) → Sends (appends_record d l r job what c)
appends_record_sends d l r job what c =
    let z : ClientState = picking d c in
    let o = append_rule z (request d) (spelling (record_of l r what) ∷ []) in
    client_sends (given z o).packet (given_calls z o (append_rule_calls z (request d) (spelling (record_of l r what) ∷ [])))

writes_sends : (d : ServerContext) (l r : RangeState) (job : MergeJob) (what : MergeRecord) (c : ClientState) → Sends (writes d l r job what c)
writes_sends d l r job what c = if_elim Sends (may_write l r what) _ _ (λ t. appends_record_sends d l r job what c) (λ f. tt)

created_sends : (d : ServerContext) (l r : RangeState) (job : MergeJob) → Sends (created d l r job)
created_sends d l r job = writes_sends d l r job Keys (new_metadata d job)

record_stands_sends : (d : ServerContext) (l r : RangeState) (job : MergeJob) (what : MergeRecord) (c : ClientState) → Sends (record_stands d l r job what c)
record_stands_sends d l r job Keys c = writes_sends d l r job Regions c
record_stands_sends d l r job Regions c = ((d.server, refl, inr (inr refl)), tt)

write_told_sends : (d : ServerContext) (l r : RangeState) (job : MergeJob) (what : MergeRecord) (o : Outcome) (told : Option News) → AllFromServers (option_to_list o.packet) → Sends (write_told d l r job what o told)
write_told_sends d l r job what o (Some news.Fenced) h = ends_sends d l r
write_told_sends d l r job what o (Some (news.Appended e offset)) h = record_stands_sends d l r job what o.after
write_told_sends d l r job what o told h = h

write_reply_sends : (d : ServerContext) (l r : RangeState) (job : MergeJob) (what : MergeRecord) (c : ClientState) (body : Body) → Sends (write_reply d l r job what c body)
write_reply_sends d l r job what c body =
    let o : Outcome = reply_rule (picking d c) (request d) body in
    write_told_sends d l r job what o o.news (client_sends o.packet (reply_calls (picking d c) (request d) body))

-- ---- answers

begin_refused_sends : (d : ServerContext) (l r : RangeState) (job : MergeJob) (refusal : Refusal) → Sends (begin_refused d l r job refusal)
begin_refused_sends d l r job refusals.Stale = loses_sends d l r Left
begin_refused_sends d l r job refusals.NotOwner = tt
begin_refused_sends d l r job refusals.NotAdjacent = tt
begin_refused_sends d l r job refusals.GenerationChanged = tt
begin_refused_sends d l r job refusal = tt

seal_refused_sends : (d : ServerContext) (l r : RangeState) (job : MergeJob) (side : MergeSide) (refusal : Refusal) → Sends (seal_refused d l r job side refusal)
seal_refused_sends d l r job side refusals.Stale = loses_sends d l r side
seal_refused_sends d l r job side refusal = tt

build_refused_sends : (d : ServerContext) (l r : RangeState) (job : MergeJob) (refusal : Refusal) → Sends (build_refused d l r job refusal)
build_refused_sends d l r job refusals.Stale = ends_sends d l r
build_refused_sends d l r job refusals.NameTaken = creates_sends d l r job
build_refused_sends d l r job refusal = tt

create_refused_sends : (d : ServerContext) (l r : RangeState) (job : MergeJob) (refusal : Refusal) → Sends (create_refused d l r job refusal)
create_refused_sends d l r job refusals.Stale = ends_sends d l r
create_refused_sends d l r job refusals.NameTaken = created_sends d l r job
create_refused_sends d l r job refusal = tt

complete_refused_sends : (d : ServerContext) (l r : RangeState) (job : MergeJob) (refusal : Refusal) → Sends (complete_refused d l r job refusal)
complete_refused_sends d l r job refusals.Stale = ends_sends d l r
complete_refused_sends d l r job refusals.GenerationChanged = ends_sends d l r
complete_refused_sends d l r job refusal = tt

refused_sends : (d : ServerContext) (l r : RangeState) (job : MergeJob) (phase : MergePhase) (refusal : Refusal) → Sends (refused d l r job phase refusal)
refused_sends d l r job (phases.Begin q) refusal = begin_refused_sends d l r job refusal
refused_sends d l r job (phases.Seal side kind q) refusal = seal_refused_sends d l r job side refusal
refused_sends d l r job (phases.Build q) refusal = build_refused_sends d l r job refusal
refused_sends d l r job (phases.Create q) refusal = create_refused_sends d l r job refusal
refused_sends d l r job (phases.Complete q) refusal = complete_refused_sends d l r job refusal
refused_sends d l r job phase refusal = tt

refused_by_sends : (d : ServerContext) (l r : RangeState) (job : MergeJob) (body : AppendBody) → Sends (refused_by d l r job body)
refused_by_sends d l r job (appends.Refused w refusal) = refused_sends d l r job job.phase refusal
refused_by_sends d l r job body = tt

map_told_sends : (d : ServerContext) (l r : RangeState) (job : MergeJob) (phase : MergePhase) (body : MapBody) → Sends (map_told d l r job phase body)
map_told_sends d l r job (phases.Begin q) (maps.MergeBegun w into) = begun_sends d l r job into
map_told_sends d l r job (phases.Complete q) (maps.MergeDone w) = ends_sends d l r
map_told_sends d l r job phase body = tt

seal_told_sends : (d : ServerContext) (l r : RangeState) (job : MergeJob) (phase : MergePhase) (body : SealBody) → Sends (seal_told d l r job phase body)
seal_told_sends d l r job (phases.Seal side kind q) (seals.SealedIs w e length) = last_sealed_sends d l r job side kind e length
seal_told_sends d l r job phase body = tt

stream_told_sends : (d : ServerContext) (l r : RangeState) (job : MergeJob) (phase : MergePhase) (body : StreamBody) → Sends (stream_told d l r job phase body)
stream_told_sends d l r job (phases.Build q) (streams.Modified w) = creates_sends d l r job
stream_told_sends d l r job (phases.Create q) (streams.Created w) = created_sends d l r job
stream_told_sends d l r job phase body = tt

told_sends : (d : ServerContext) (l r : RangeState) (job : MergeJob) (body : Body) → Sends (told d l r job body)
told_sends d l r job (bodies.Append body) = refused_by_sends d l r job body
told_sends d l r job (bodies.Map body) = map_told_sends d l r job job.phase body
told_sends d l r job (bodies.Seal body) = seal_told_sends d l r job job.phase body
told_sends d l r job (bodies.Stream body) = stream_told_sends d l r job job.phase body
told_sends d l r job body = tt

reply_in_sends : (d : ServerContext) (l r : RangeState) (job : MergeJob) (phase : MergePhase) (body : Body) → Sends (merge_reply_in d l r job phase body)
reply_in_sends d l r job (phases.Write what c) body = write_reply_sends d l r job what c body
reply_in_sends d l r job phase body = told_sends d l r job body

pub merge_reply_sends : (d : ServerContext) (l r : RangeState) (job : MergeJob) (body : Body) → Sends (merge_reply d l r job body)
merge_reply_sends d l r job body = reply_in_sends d l r job job.phase body

-- ---- what follows a step of either range, and giving up

follows_in_sends : (d : ServerContext) (l r : RangeState) (job : MergeJob) (side : MergeSide) (phase : MergePhase) → Sends (follows_in d l r job side phase)
follows_in_sends d l r job Right (phases.Checkpoint Right) = if_elim Sends (is_some r.control) _ _ (λ t. tt) (λ f. drains_sends d l r job)
follows_in_sends d l r job side phases.Queue = drains_sends d l r job
follows_in_sends d l r job side phase = tt

pub merge_follows_sends : (d : ServerContext) (l r : RangeState) (job : MergeJob) (side : MergeSide) → Sends (follows d l r job side)
merge_follows_sends d l r job side = if_elim Sends (has_number d) _ _ (λ t. follows_in_sends d l r job side job.phase) (λ f. tt)

asks_again_in_sends : (d : ServerContext) (l r : RangeState) (job : MergeJob) (phase : MergePhase) → Sends (asks_again_in d l r job phase)
asks_again_in_sends d l r job (phases.Begin q) = ((d.server, refl, inr (inr refl)), tt)
asks_again_in_sends d l r job (phases.Seal side kind q) = seal_again_all d (open_part l r side kind) q
asks_again_in_sends d l r job (phases.Build q) = ((d.server, refl, inl refl), tt)
asks_again_in_sends d l r job (phases.Create q) = ((d.server, refl, inl refl), tt)
asks_again_in_sends d l r job (phases.Write what c) = client_sends (give_up_rule (picking d c) (request d) d.pick).packet (give_up_calls (picking d c) (request d) d.pick)
asks_again_in_sends d l r job (phases.Complete q) = ((d.server, refl, inr (inr refl)), tt)
asks_again_in_sends d l r job phase = tt

checkpoint_again_sends : (d : ServerContext) (r : RangeState) → AllFromServers (checkpoint_again d r).packets
checkpoint_again_sends d r =
    if_elim (λ (o : RangeOutcome). AllFromServers o.packets) (has_numbers_again d) _ _ (λ t. from_servers (give_up_control d r).packets (control_tidy d r)) (λ f. tt)

gives_up_with_sends : (d : ServerContext) (l r : RangeState) (job : MergeJob) (other : Option MergeSide) → Sends (gives_up_with d l r job other)
gives_up_with_sends d l r job None = if_elim Sends (has_number d) _ _ (λ t. asks_again_in_sends d l r job job.phase) (λ f. tt)
gives_up_with_sends d l r job (Some Left) = checkpoint_again_sends d l
gives_up_with_sends d l r job (Some Right) = checkpoint_again_sends d r

pub merge_gives_up_sends : (d : ServerContext) (l r : RangeState) (job : MergeJob) (told : MergeSide) → Sends (gives_up d l r job told)
merge_gives_up_sends d l r job told = gives_up_with_sends d l r job (other_checkpoint job.phase told)
