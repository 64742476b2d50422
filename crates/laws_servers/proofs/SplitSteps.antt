-- What a step of a split sends is from a server.
use Rattle.std.proofs.Common.{ℕ, false, ◌&&◌, List, [], ◌∷◌, Option, Some, None, is_some, refl, inl, inr}
use Rattle.std.specs.Prelude.{option_to_list}
use Rattle.wire.specs.declared.actor.ReqNo.{ReqNo}
use Rattle.wire.specs.declared.body.AppendBody.{AppendBody}
use Rattle.wire.specs.declared.body.AppendBody.TheVariants as appends
use Rattle.wire.specs.declared.body.SealBody.{SealBody}
use Rattle.wire.specs.declared.body.SealBody.TheVariants as seals
use Rattle.wire.specs.declared.body.StreamBody.{StreamBody}
use Rattle.wire.specs.declared.body.StreamBody.TheVariants as streams
use Rattle.wire.specs.declared.body.MapBody.{MapBody}
use Rattle.wire.specs.declared.body.MapBody.TheVariants as maps
use Rattle.wire.specs.declared.body.Body.{Body}
use Rattle.wire.specs.declared.body.Body.TheVariants as bodies
use Rattle.wire.specs.declared.packet.Packet.{Packet}
use Rattle.wire.specs.declared.refusal.Refusal.{Refusal}
use Rattle.wire.specs.declared.refusal.Refusal.TheVariants as refusals
use Rattle.wire.specs.declared.streams.StreamKind.{StreamKind}
use Rattle.client.specs.declared.job.News.{News}
use Rattle.client.specs.declared.job.News.TheVariants as news
use Rattle.client.specs.Client.{ClientState, Outcome, append_rule, reply_rule, give_up_rule}
use Rattle.metadata.specs.Fold.{taken}
use Rattle.metadata.specs.Record.{spelling}
use Rattle.model_streams.proofs.Tests.{if_elim}
use Rattle.model_partition.specs.declared.server_context.ServerContext.{ServerContext}
use Rattle.model_partition.specs.declared.split_job.Side.{Side}
use Rattle.model_partition.specs.declared.split_job.Side.TheVariants.{Low, High}
use Rattle.model_partition.specs.declared.split_job.SplitJob.{SplitJob}
use Rattle.model_partition.specs.declared.split_job.SplitPhase.{SplitPhase}
use Rattle.model_partition.specs.declared.split_job.SplitPhase.TheVariants as phases
use Rattle.model_partition.specs.Range.{RangeState, request, given, picking, refused_users}
use Rattle.model_partition.specs.Checkpoints.{begins}
use Rattle.model_partition.specs.Splits.{SplitStep, split_rule, begun, is_drained, split_item, split_record, may_record, may_checkpoint, has_record_numbers, pauses_and_records, drains, extents_of, open_last, all_kinds, kinds_after, first_open, seals_or_builds, seals_among, with_last_sealed, is_extent, last_sealed, side_metadata, keys_record, appends_keys, may_say_keys, says_keys, keys_stand, keys_told, keys_reply, refused, refused_by, map_told, seal_told, stream_told, told, has_stood, split_reply_in, split_reply, has_number, follows_in, follows, seal_again, gives_up_in, gives_up}
use Rattle.laws_servers.specs.Sending.{AllFromServers}
use Rattle.laws_servers.proofs.ClientPackets.{IfFromRange, listed, from_servers, given_calls, append_rule_calls, reply_calls, give_up_calls}
use Rattle.laws_servers.proofs.RangeSteps.{refused_all, begins_tidy}

-- what it sends is from a server
abbrev pub Sends : SplitStep → Type 0
Sends t = AllFromServers t.packets

pub users_sends : (d : ServerContext) (r : RangeState) → AllFromServers (refused_users d r)
users_sends d r = from_servers (refused_users d r) (refused_all d r)

pub client_sends : (p : Option Packet) → IfFromRange p → AllFromServers (option_to_list p)
client_sends p h = from_servers (option_to_list p) (listed p h)

pub split_sends : (d : ServerContext) (r : RangeState) (key : List ℕ) → Sends (split_rule d r key)
split_sends d r key = ((d.server, refl, inr (inr refl)), tt)

begun_sends : (d : ServerContext) (r : RangeState) (job : SplitJob) (low high : ℕ) → Sends (begun d r job low high)
begun_sends d r job low high = if_elim Sends (may_checkpoint r && has_record_numbers r) _ _ (λ t. from_servers (begins d r false).packets (begins_tidy d r false).0) (λ f. tt)

-- ---- the pause

records_sends : (d : ServerContext) (r : RangeState) (job : SplitJob) → Sends (pauses_and_records d r job)
records_sends d r job =
    let c : ClientState = picking d r.metadata in
    let o = append_rule c (request d) (spelling (split_record job) ∷ []) in
    client_sends (given c o).packet (given_calls c o (append_rule_calls c (request d) (spelling (split_record job) ∷ [])))

drains_sends : (d : ServerContext) (r : RangeState) (job : SplitJob) → Sends (drains d r job)
drains_sends d r job = if_elim Sends (is_drained r && may_record r job) _ _ (λ t. records_sends d r job) (λ f. tt)

-- ---- seals, and the streams of the two ranges

-- streams are built of streams of their own kind, as servers may ask
seals_or_builds_sends : (d : ServerContext) (r : RangeState) (job : SplitJob) (x : Option (StreamKind × ℕ)) → Sends (seals_or_builds d r job x)
seals_or_builds_sends d r job None = ((d.server, refl, inl refl), tt)
seals_or_builds_sends d r job (Some x) = ((d.server, refl, inl refl), tt)

seals_among_sends : (d : ServerContext) (r : RangeState) (job : SplitJob) (kinds : List StreamKind) → Sends (seals_among d r job kinds)
seals_among_sends d r job kinds = seals_or_builds_sends d r job (first_open r kinds)

last_sealed_sends : (d : ServerContext) (r : RangeState) (job : SplitJob) (kind : StreamKind) (e length : ℕ) → Sends (last_sealed d r job kind e length)
last_sealed_sends d r job kind e length =
    if_elim Sends (is_extent e (open_last (extents_of r kind))) _ _ (λ t. seals_among_sends d (with_last_sealed r kind length) job (kinds_after kind)) (λ f. tt)

-- ---- the keys of the two ranges, and the end

appends_keys_sends : (d : ServerContext) (r : RangeState) (job : SplitJob) (side : Side) → Sends (appends_keys d r job side)
appends_keys_sends d r job side =
    let c : ClientState = side_metadata d r job side in
    let o = append_rule c (request d) (spelling (keys_record r job side) ∷ []) in
    client_sends (given c o).packet (given_calls c o (append_rule_calls c (request d) (spelling (keys_record r job side) ∷ [])))

says_keys_sends : (d : ServerContext) (r : RangeState) (job : SplitJob) (side : Side) → Sends (says_keys d r job side)
says_keys_sends d r job side = if_elim Sends (may_say_keys r job) _ _ (λ t. appends_keys_sends d r job side) (λ f. tt)

keys_stand_sends : (d : ServerContext) (r : RangeState) (job : SplitJob) (side : Side) → Sends (keys_stand d r job side)
keys_stand_sends d r job Low = says_keys_sends d r job High
keys_stand_sends d r job High = ((d.server, refl, inr (inr refl)), tt)

keys_told_sends : (d : ServerContext) (r : RangeState) (job : SplitJob) (side : Side) (o : Outcome) (told : Option News) → AllFromServers (option_to_list o.packet) → Sends (keys_told d r job side o told)
keys_told_sends d r job side o (Some news.Fenced) h = users_sends d r
keys_told_sends d r job side o (Some (news.Appended e offset)) h = keys_stand_sends d r job side
keys_told_sends d r job side o told h = h

keys_reply_sends : (d : ServerContext) (r : RangeState) (job : SplitJob) (side : Side) (c : ClientState) (body : Body) → Sends (keys_reply d r job side c body)
keys_reply_sends d r job side c body =
    let o : Outcome = reply_rule (picking d c) (request d) body in
    keys_told_sends d r job side o o.news (client_sends o.packet (reply_calls (picking d c) (request d) body))

-- ---- answers

refused_sends : (d : ServerContext) (r : RangeState) (job : SplitJob) (phase : SplitPhase) (refusal : Refusal) → Sends (refused d r job phase refusal)
refused_sends d r job phase refusals.Stale = users_sends d r
refused_sends d r job (phases.Build q) refusals.NameTaken = says_keys_sends d r job Low
refused_sends d r job (phases.Complete q) refusals.GenerationChanged = users_sends d r
refused_sends d r job phase refusal = tt

refused_by_sends : (d : ServerContext) (r : RangeState) (job : SplitJob) (body : AppendBody) → Sends (refused_by d r job body)
refused_by_sends d r job (appends.Refused w refusal) = refused_sends d r job job.phase refusal
refused_by_sends d r job body = tt

map_told_sends : (d : ServerContext) (r : RangeState) (job : SplitJob) (phase : SplitPhase) (body : MapBody) → Sends (map_told d r job phase body)
map_told_sends d r job (phases.Begin q) (maps.SplitBegun w low high) = begun_sends d r job low high
map_told_sends d r job (phases.Complete q) (maps.SplitDone w) = users_sends d r
map_told_sends d r job phase body = tt

seal_told_sends : (d : ServerContext) (r : RangeState) (job : SplitJob) (phase : SplitPhase) (body : SealBody) → Sends (seal_told d r job phase body)
seal_told_sends d r job (phases.Seal kind q) (seals.SealedIs w e length) = last_sealed_sends d r job kind e length
seal_told_sends d r job phase body = tt

stream_told_sends : (d : ServerContext) (r : RangeState) (job : SplitJob) (phase : SplitPhase) (body : StreamBody) → Sends (stream_told d r job phase body)
stream_told_sends d r job (phases.Build q) (streams.Modified w) = says_keys_sends d r job Low
stream_told_sends d r job phase body = tt

told_sends : (d : ServerContext) (r : RangeState) (job : SplitJob) (body : Body) → Sends (told d r job body)
told_sends d r job (bodies.Append body) = refused_by_sends d r job body
told_sends d r job (bodies.Map body) = map_told_sends d r job job.phase body
told_sends d r job (bodies.Seal body) = seal_told_sends d r job job.phase body
told_sends d r job (bodies.Stream body) = stream_told_sends d r job job.phase body
told_sends d r job body = tt

reply_in_sends : (d : ServerContext) (r : RangeState) (job : SplitJob) (phase : SplitPhase) (body : Body) → Sends (split_reply_in d r job phase body)
reply_in_sends d r job (phases.Keys side c) body = keys_reply_sends d r job side c body
reply_in_sends d r job phase body = told_sends d r job body

pub split_reply_sends : (d : ServerContext) (r : RangeState) (job : SplitJob) (body : Body) → Sends (split_reply d r job body)
split_reply_sends d r job body = reply_in_sends d r job job.phase body

-- ---- what follows a step of the range, and giving up

follows_in_sends : (d : ServerContext) (r : RangeState) (job : SplitJob) (phase : SplitPhase) → Sends (follows_in d r job phase)
follows_in_sends d r job phases.Checkpoint = if_elim Sends (is_some r.control) _ _ (λ t. tt) (λ f. drains_sends d r job)
follows_in_sends d r job phases.Queue = drains_sends d r job
follows_in_sends d r job phases.Record =
    if_elim Sends (has_stood r) _ _ (λ t. seals_among_sends d (record r { said = taken r.said (split_item job) }) job all_kinds) (λ f. tt)
follows_in_sends d r job phase = tt

pub follows_sends : (d : ServerContext) (r : RangeState) (job : SplitJob) → Sends (follows d r job)
follows_sends d r job = if_elim Sends (has_number d) _ _ (λ t. follows_in_sends d r job job.phase) (λ f. tt)

pub seal_again_all : (d : ServerContext) (e : Option ℕ) (q : ReqNo) → AllFromServers (seal_again d e q)
seal_again_all d None q = tt
seal_again_all d (Some e) q = ((d.server, refl, inl refl), tt)

gives_up_in_sends : (d : ServerContext) (r : RangeState) (job : SplitJob) (phase : SplitPhase) → Sends (gives_up_in d r job phase)
gives_up_in_sends d r job (phases.Begin q) = ((d.server, refl, inr (inr refl)), tt)
gives_up_in_sends d r job (phases.Seal kind q) = seal_again_all d (open_last (extents_of r kind)) q
gives_up_in_sends d r job (phases.Build q) = ((d.server, refl, inl refl), tt)
gives_up_in_sends d r job (phases.Keys side c) = client_sends (give_up_rule (picking d c) (request d) d.pick).packet (give_up_calls (picking d c) (request d) d.pick)
gives_up_in_sends d r job (phases.Complete q) = ((d.server, refl, inr (inr refl)), tt)
gives_up_in_sends d r job phase = tt

pub split_gives_up_sends : (d : ServerContext) (r : RangeState) (job : SplitJob) → Sends (gives_up d r job)
split_gives_up_sends d r job = if_elim Sends (has_number d) _ _ (λ t. gives_up_in_sends d r job job.phase) (λ f. tt)
