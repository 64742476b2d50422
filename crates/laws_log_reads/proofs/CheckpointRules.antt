-- The rules of a checkpoint leave their range served or drop it, and nothing is asked of one that is served.
use Rattle.std.proofs.Common.{◌≡◌, ℕ, ◌^◌, nat_lt, List, [], Bool, true, false, Option, Some, None, option_to_list, if◌then◌else◌}
use Rattle.wire.specs.declared.body.AppendBody.{AppendBody}
use Rattle.wire.specs.declared.body.AppendBody.TheVariants as appends
use Rattle.wire.specs.declared.body.Body.{Body}
use Rattle.wire.specs.declared.body.Body.TheVariants as bodies
use Rattle.wire.specs.declared.body.StreamBody.{StreamBody}
use Rattle.wire.specs.declared.body.StreamBody.TheVariants as streams
use Rattle.wire.specs.declared.packet.Packet.{Packet}
use Rattle.wire.specs.declared.refusal.Refusal.TheVariants as refusals
use Rattle.replica.specs.Groups.{Group}
use Rattle.client.specs.declared.job.News.{News}
use Rattle.client.specs.declared.job.News.TheVariants as news
use Rattle.client.specs.Client.{Outcome, reply_rule}
use Rattle.checkpoint.specs.Merges.{with_page}
use Rattle.model_streams.specs.StreamSystem.{StreamSystem}
use Rattle.model_partition.specs.CheckpointStates.{CheckpointState}
use Rattle.model_partition.specs.declared.checkpoint_job.CheckpointPhase.{CheckpointPhase}
use Rattle.model_partition.specs.declared.checkpoint_job.CheckpointPhase.TheVariants as checkpoints
use Rattle.model_partition.specs.declared.server_context.ServerContext.{ServerContext}
use Rattle.model_partition.specs.declared.stage.Stage.TheVariants as stages
use Rattle.model_partition.specs.Range.{RangeState, RangeOutcome, request, goes, answers, picking}
use Rattle.model_histories.specs.ServerRun.{RangeHistory}
use Rattle.model_histories.specs.StreamMachine as machine
use Rattle.model_partition.specs.Checkpoints.{number_to_apply, have_bytes, combines, new_job, new_combining_job, rows_go, writes_pages, combined_job, merges, with_fixed, begins_pages, begins_combining, begins, checkpoint_rule, pages_stand, may_record, index_place, records, index_stands, rows_stand, rows_stand_at, rows_told, rows_may_stand, rows_reply, has_record_number, recorded, trims, record_stands, record_told, trim_told, trim_reply_in}
use Rattle.model_partition.specs.Answering.{load_refused, page_reply, trim_reply}
use Rattle.laws_loads.proofs.PageAnswers.{merged, unread, merges_elim, page_reply_elim}
use Rattle.laws_log_reads.specs.Reads.{HasReadIf}
use Rattle.laws_log_reads.proofs.UntouchedReads.{served}

module _ (range : ℕ) (w : StreamSystem) (i : ℕ) (m l : machine.MachineState Group) (h : RangeHistory) (d : ServerContext) where
  abbrev Leaves : RangeOutcome → Type 0
  Leaves o = HasReadIf range w i m l h o.after

  abbrev Serves : RangeState → Type 0
  Serves r = r.stage ≡ stages.Serving

  -- ---- pages and the index

  rows_go_left : (r : RangeState) → Serves r → (x : CheckpointState × Option Group) → Leaves (rows_go d r x)
  rows_go_left r e (job, None) = served range w i m l h _ e
  rows_go_left r e (job, Some group) = served range w i m l h _ e

  writes_left : (r : RangeState) → Serves r → (job : CheckpointState) → Leaves (writes_pages d r job)
  writes_left r e job = rows_go_left r e _

  -- pages of older indexes are merged
  merges_left : (r : RangeState) → Serves r → (job : CheckpointState) → Leaves (merges d r job)
  merges_left r e job =
      merges_elim Leaves d r job (served range w i m l h _ e) (λ merge. served range w i m l h _ e) (λ merge place places is told. served range w i m l h _ e)
      (λ merge newer is fixed. writes_left (unread r) e (combined_job (merged job merge) newer))

  -- an answer to the read of a page
  pub page_reply_left : (r : RangeState) → Serves r → (body : Body) → Leaves (page_reply d r body)
  page_reply_left r e body =
      page_reply_elim Leaves d r (served range w i m l h r e) tt (λ job place entries is next. merges_left r e (merged job (with_page r.said.keys job.merge entries))) body

  -- the first page is written, or an older one is read
  pub layer_left : (r : RangeState) → Serves r → (combine : Bool) → Leaves (checkpoint_rule d r combine)
  layer_left r e combine = go (have_bytes r.live r.position (number_to_apply r.out r.next))
    where
      begun : (t : Bool) → Leaves (if t then begins_combining d r else begins_pages d r)
      begun true = merges_left (with_fixed r) e (new_combining_job r)
      begun false = writes_left (with_fixed r) e (new_job r)

      go : (t : Bool) → Leaves (if t then begins d r combine else goes d r [] [])
      go true = begun (combines combine r.indexes)
      go false = served range w i m l h r e

  index_left : (r : RangeState) → Serves r → (job : CheckpointState) (n offset : ℕ) → Leaves (index_stands d r job n offset)
  index_left r e job n offset = go (may_record r job)
    where
      go : (t : Bool) → Leaves (if t then records d r job (index_place job n offset) else goes d r [] [])
      go true = served range w i m l h _ e
      go false = served range w i m l h r e

  rows_stand_left : (r : RangeState) → Serves r → (job : CheckpointState) (phase : CheckpointPhase) (n offset : ℕ) → Leaves (rows_stand d r job phase n offset)
  rows_stand_left r e job checkpoints.Pages n offset = writes_left r e (pages_stand job n offset)
  rows_stand_left r e job checkpoints.Index n offset = index_left r e job n offset
  rows_stand_left r e job phase n offset = served range w i m l h r e

  stand_at_left : (r : RangeState) → Serves r → (job : CheckpointState) (n offset : ℕ) → Leaves (rows_stand_at d r job n offset)
  stand_at_left r e job n offset = go (nat_lt n (2 ^ 64))
    where
      go : (t : Bool) → Leaves (if t then rows_stand d r job job.phase n offset else goes d r [] [])
      go true = rows_stand_left r e job job.phase n offset
      go false = served range w i m l h r e

  rows_told_left : (r : RangeState) → Serves r → (job : Option CheckpointState) (told : Option News) (packets : List Packet) → Leaves (rows_told d r job told packets)
  rows_told_left r e job (Some news.Fenced) packets = tt
  rows_told_left r e (Some job) (Some (news.Appended n offset)) packets = stand_at_left r e job n offset
  rows_told_left r e job told packets = served range w i m l h r e

  -- an answer to what is out to row data
  pub rows_reply_left : (r : RangeState) → Serves r → (body : Body) → Leaves (rows_reply d r body)
  rows_reply_left r e body = go (rows_may_stand r.control body)
    where
      o : Outcome
      o = reply_rule (picking d r.rows) (request d) body

      go : (t : Bool) → Leaves (if t then rows_told d (record r { rows = o.after }) r.control o.news (option_to_list o.packet) else answers d r [])
      go true = rows_told_left (record r { rows = o.after }) e r.control o.news (option_to_list o.packet)
      go false = served range w i m l h r e

  -- ---- the record

  record_left : (r : RangeState) → Serves r → (job : CheckpointState) (phase : CheckpointPhase) → Leaves (record_stands d r job phase)
  record_left r e job (checkpoints.Record index) = go (has_record_number r)
    where
      go : (t : Bool) → Leaves (if t then trims d (recorded r job index) job else goes d r [] [])
      go true = served range w i m l h _ e
      go false = served range w i m l h r e
  record_left r e job phase = served range w i m l h r e

  -- news of the metadata's client
  pub told_left : (r : RangeState) → Serves r → (job : Option CheckpointState) (told : Option News) (packets : List Packet) → Leaves (record_told d r job told packets)
  told_left r e job (Some news.Fenced) packets = tt
  told_left r e (Some job) (Some (news.Appended n offset)) packets = record_left r e job job.phase
  told_left r e job told packets = served range w i m l h r e

  -- ---- the Trim

  trimmed_left : (r : RangeState) → Serves r → (phase : CheckpointPhase) (body : StreamBody) → Leaves (trim_told d r phase body)
  trimmed_left r e (checkpoints.Trim before to_blob q) (streams.Trimmed u) = served range w i m l h _ e
  trimmed_left r e phase body = served range w i m l h r e

  trim_left : (r : RangeState) → Serves r → (o : Option CheckpointState) (body : StreamBody) → Leaves (trim_reply_in d r o body)
  trim_left r e None body = served range w i m l h r e
  trim_left r e (Some job) body = trimmed_left r e job.phase body

  refused_left : (r : RangeState) → Serves r → (body : AppendBody) → Leaves (load_refused d r body)
  refused_left r e (appends.Refused u refusals.Stale) = tt
  refused_left r e body = served range w i m l h r e

  -- an answer to the Trim
  pub trim_reply_left : (r : RangeState) → Serves r → (body : Body) → Leaves (trim_reply d r body)
  trim_reply_left r e (bodies.Stream body) = trim_left r e r.control body
  trim_reply_left r e (bodies.Append body) = refused_left r e body
  trim_reply_left r e body = served range w i m l h r e
