-- What answers to a checkpoint leave of a range: its load, its stage, its live layer and what waits at it are as they were, and
-- nothing is shown.
use Rattle.std.proofs.Common.{ℕ, ◌^◌, nat_lt, List, [], Option, Some, None, option_to_list, refl}
use Rattle.wire.specs.declared.body.AppendBody.{AppendBody}
use Rattle.wire.specs.declared.body.AppendBody.TheVariants as appends
use Rattle.wire.specs.declared.body.Body.{Body}
use Rattle.wire.specs.declared.body.Body.TheVariants as bodies
use Rattle.wire.specs.declared.body.StreamBody.{StreamBody}
use Rattle.wire.specs.declared.body.StreamBody.TheVariants as streams
use Rattle.wire.specs.declared.packet.Packet.{Packet}
use Rattle.wire.specs.declared.refusal.Refusal.TheVariants as refusals
use Rattle.client.specs.declared.job.News.{News}
use Rattle.client.specs.declared.job.News.TheVariants as news
use Rattle.client.specs.Client.{ClientState, Outcome, reply_rule}
use Rattle.checkpoint.specs.Merges.{with_page}
use Rattle.checkpoint.specs.PageGroups.{next_group}
use Rattle.model_streams.proofs.Tests.{if_elim}
use Rattle.model_partition.specs.CheckpointStates.{CheckpointState}
use Rattle.model_partition.specs.declared.checkpoint_job.CheckpointPhase.{CheckpointPhase}
use Rattle.model_partition.specs.declared.checkpoint_job.CheckpointPhase.TheVariants as phases
use Rattle.model_partition.specs.declared.server_context.ServerContext.{ServerContext}
use Rattle.model_partition.specs.Range.{RangeState, request, dropped, picking}
use Rattle.model_partition.specs.Loading.{Group}
use Rattle.model_partition.specs.Checkpoints.{combined_job, merges, next_append, rows_go, writes_pages, pages_stand, may_record, index_stands, rows_stand, rows_told, rows_may_stand, rows_reply, has_record_number, record_stands, record_told, trim_told, trim_reply_in}
use Rattle.model_partition.specs.Answering.{load_refused, page_reply, trim_reply}
use Rattle.laws_loads.specs.StaysLoading.{IsAsBefore, LeavesAsBefore}
use Rattle.laws_loads.proofs.PageAnswers.{unread, merged, merges_elim, page_reply_elim}

module _ (d : ServerContext) (r : RangeState) where
  gone : (s : RangeState) → LeavesAsBefore r (dropped d s)
  gone s = record { after = tt; quiet = refl }

  calm : (s : RangeState) → IsAsBefore r s → (count : ℕ) (packets : List Packet) → LeavesAsBefore r (record { after = Some s; count = count; packets = packets; notes = [] })
  calm s b count packets = record { after = b; quiet = refl }

  -- ---- row data

  rows_go_same : (s : RangeState) → IsAsBefore r s → (x : CheckpointState × Option Group) → LeavesAsBefore r (rows_go d s x)
  rows_go_same s b (job, None) = calm _ (record { load = b.load; stage = b.stage; live = b.live; next = b.next; queue = b.queue; out = b.out; held = b.held }) _ _
  rows_go_same s b (job, Some group) = calm _ (record { load = b.load; stage = b.stage; live = b.live; next = b.next; queue = b.queue; out = b.out; held = b.held }) _ _

  writes_pages_same : (s : RangeState) → IsAsBefore r s → (job : CheckpointState) → LeavesAsBefore r (writes_pages d s job)
  writes_pages_same s b job = rows_go_same s b (next_append job (next_group job.pages))

  index_stands_same : (s : RangeState) → IsAsBefore r s → (job : CheckpointState) (e offset : ℕ) → LeavesAsBefore r (index_stands d s job e offset)
  index_stands_same s b job e offset =
      if_elim (LeavesAsBefore r) (may_record s job) _ _
      (λ t. calm _ (record { load = b.load; stage = b.stage; live = b.live; next = b.next; queue = b.queue; out = b.out; held = b.held }) _ _) (λ f. calm s b _ _)

  rows_stand_same : (s : RangeState) → IsAsBefore r s → (job : CheckpointState) (phase : CheckpointPhase) (e offset : ℕ) → LeavesAsBefore r (rows_stand d s job phase e offset)
  rows_stand_same s b job phases.Pages e offset = writes_pages_same s b (pages_stand job e offset)
  rows_stand_same s b job phases.Index e offset = index_stands_same s b job e offset
  rows_stand_same s b job phase e offset = calm s b _ _

  rows_told_same : (s : RangeState) → IsAsBefore r s → (job : Option CheckpointState) (told : Option News) (packets : List Packet) → LeavesAsBefore r (rows_told d s job told packets)
  rows_told_same s b job (Some news.Fenced) packets = gone s
  rows_told_same s b (Some job) (Some (news.Appended e offset)) packets =
      if_elim (LeavesAsBefore r) (nat_lt e (2 ^ 64)) _ _ (λ t. rows_stand_same s b job job.phase e offset) (λ f. calm s b _ _)
  rows_told_same s b job told packets = calm s b _ _

  -- an answer to row data's client
  pub rows_reply_same : (body : Body) → LeavesAsBefore r (rows_reply d r body)
  rows_reply_same body =
      let o : Outcome = reply_rule (picking d r.rows) (request d) body in
      if_elim (LeavesAsBefore r) (rows_may_stand r.control body) _ _
      (λ t. rows_told_same (record r { rows = o.after }) (record { load = refl; stage = refl; live = refl; next = refl; queue = refl; out = refl; held = refl }) r.control o.news (option_to_list o.packet))
      (λ f. calm r (record { load = refl; stage = refl; live = refl; next = refl; queue = refl; out = refl; held = refl }) _ _)

  -- ---- the record

  record_stands_same : (s : RangeState) → IsAsBefore r s → (job : CheckpointState) (phase : CheckpointPhase) → LeavesAsBefore r (record_stands d s job phase)
  record_stands_same s b job (phases.Record index) =
      if_elim (LeavesAsBefore r) (has_record_number s) _ _
      (λ t. calm _ (record { load = b.load; stage = b.stage; live = b.live; next = b.next; queue = b.queue; out = b.out; held = b.held }) _ _) (λ f. calm s b _ _)
  record_stands_same s b job phase = calm s b _ _

  record_told_same : (s : RangeState) → IsAsBefore r s → (job : Option CheckpointState) (told : Option News) (packets : List Packet) → LeavesAsBefore r (record_told d s job told packets)
  record_told_same s b job (Some news.Fenced) packets = gone s
  record_told_same s b (Some job) (Some (news.Appended e offset)) packets = record_stands_same s b job job.phase
  record_told_same s b job told packets = calm s b _ _

  -- news of the metadata's client, which is now as it was told, while the range is served
  pub record_news_same : (c : ClientState) (told : Option News) (packets : List Packet) → LeavesAsBefore r (record_told d (record r { metadata = c }) r.control told packets)
  record_news_same c told packets =
      record_told_same (record r { metadata = c }) (record { load = refl; stage = refl; live = refl; next = refl; queue = refl; out = refl; held = refl }) r.control told packets

  unchanged : (count : ℕ) (packets : List Packet) → LeavesAsBefore r (record { after = Some r; count = count; packets = packets; notes = [] })
  unchanged count packets = calm r (record { load = refl; stage = refl; live = refl; next = refl; queue = refl; out = refl; held = refl }) count packets

  -- ---- pages are merged

  merges_same : (job : CheckpointState) → LeavesAsBefore r (merges d r job)
  merges_same job =
      merges_elim (LeavesAsBefore r) d r job (calm _ (record { load = refl; stage = refl; live = refl; next = refl; queue = refl; out = refl; held = refl }) _ _)
      (λ merge. calm _ (record { load = refl; stage = refl; live = refl; next = refl; queue = refl; out = refl; held = refl }) _ _)
      (λ merge place places is told. calm _ (record { load = refl; stage = refl; live = refl; next = refl; queue = refl; out = refl; held = refl }) _ _)
      (λ merge newer is fixed. writes_pages_same (unread r) (record { load = refl; stage = refl; live = refl; next = refl; queue = refl; out = refl; held = refl }) (combined_job (merged job merge) newer))

  -- an answer to the read of a page
  pub page_reply_same : (body : Body) → LeavesAsBefore r (page_reply d r body)
  page_reply_same body = page_reply_elim (LeavesAsBefore r) d r (unchanged _ _) (gone r) (λ job place entries is next. merges_same (merged job (with_page r.said.keys job.merge entries))) body

  -- ---- the Trim

  trim_told_same : (phase : CheckpointPhase) (body : StreamBody) → LeavesAsBefore r (trim_told d r phase body)
  trim_told_same (phases.Trim before to_blob q) (streams.Trimmed w) = calm _ (record { load = refl; stage = refl; live = refl; next = refl; queue = refl; out = refl; held = refl }) _ _
  trim_told_same phase body = unchanged _ _

  trim_answer_same : (job : Option CheckpointState) (body : StreamBody) → LeavesAsBefore r (trim_reply_in d r job body)
  trim_answer_same None body = unchanged _ _
  trim_answer_same (Some job) body = trim_told_same job.phase body

  refused_same : (body : AppendBody) → LeavesAsBefore r (load_refused d r body)
  refused_same (appends.Refused w refusals.Stale) = gone r
  refused_same body = unchanged _ _

  -- the answer to the Trim
  pub trim_reply_same : (body : Body) → LeavesAsBefore r (trim_reply d r body)
  trim_reply_same (bodies.Stream body) = trim_answer_same r.control body
  trim_reply_same (bodies.Append body) = refused_same body
  trim_reply_same body = unchanged _ _
