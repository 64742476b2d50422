-- Rules of a range that is served which leave its row data as it was; and what they make of what its log may be trimmed to.
use Rattle.std.proofs.Common.{◌≡◌, ℕ, ◌+◌, ◌-◌, ◌^◌, List, [], ◌∷◌, ◌++◌, length, take, flat_map, not, ◌&&◌, nat_lt, Option, Some, None, is_some, option_to_list, refl, sym, ◌∙◌, subst, arith, if◌then◌else◌}
use Rattle.wire.specs.declared.actor.ActorId.{ActorId}
use Rattle.wire.specs.declared.actor.ReqNo.{ReqNo}
use Rattle.wire.specs.declared.body.AppendBody.{AppendBody}
use Rattle.wire.specs.declared.body.AppendBody.TheVariants as appends
use Rattle.wire.specs.declared.body.Body.{Body}
use Rattle.wire.specs.declared.body.Body.TheVariants as bodies
use Rattle.wire.specs.declared.body.StreamBody.{StreamBody}
use Rattle.wire.specs.declared.body.StreamBody.TheVariants as streams
use Rattle.wire.specs.declared.packet.Packet.{Packet}
use Rattle.wire.specs.declared.refusal.Refusal.{Refusal}
use Rattle.wire.specs.declared.refusal.Refusal.TheVariants as refusals
use Rattle.wire.specs.declared.transaction.Change.{Change}
use Rattle.memtable.specs.Entries.{put_all}
use Rattle.commitlog.specs.Places.{kept}
use Rattle.commitlog.specs.Record.{spelling}
use Rattle.client.specs.declared.job.News.{News}
use Rattle.client.specs.declared.job.News.TheVariants as news
use Rattle.client.specs.Client.{ClientState, Outcome, append_rule, reply_rule}
use Rattle.model_streams.proofs.Tests.{if_elim}
use Rattle.model_partition.specs.CheckpointStates.{CheckpointState}
use Rattle.model_partition.specs.declared.checkpoint_job.CheckpointPhase.{CheckpointPhase}
use Rattle.model_partition.specs.declared.checkpoint_job.CheckpointPhase.TheVariants as checkpoints
use Rattle.model_partition.specs.declared.server_context.ServerContext.{ServerContext}
use Rattle.model_partition.specs.declared.stage.Stage.TheVariants as stages
use Rattle.model_partition.specs.Checkpoints.{has_record_number, record_stands, record_told, trim_told, trim_reply_in}
use Rattle.model_partition.specs.Range.{OutGroup, RangeState, RangeOutcome, request, picking, given, is_serving}
use Rattle.model_partition.specs.Serving.{record_of, group_count, forms, transact_fault, transacts, transact_rule, out_size, log_done}
use Rattle.model_partition.specs.Loading.{log_news, metadata_news}
use Rattle.model_partition.specs.Answering.{groups_of, serving_news, is_taken, load_refused, log_reply, metadata_reply, trim_reply}
use Rattle.laws_ranges.specs.Serves.{BeginsInLog, TrimsPhase, TrimsJob}
use Rattle.laws_ranges.proofs.LogGrowth.{Grows, reply_grows, append_grows, begins_on, trims_on}
use Rattle.laws_ranges.proofs.TrimmedLog.{trim_stays, below_begins}

pub record KeepsRows (r after : RangeState) : Type 0 where
  pub rows : after.rows ≡ r.rows
  pub position : BeginsInLog after.log after.position
  pub trims : TrimsJob after.log after.control

abbrev pub KeepsRowsIf : RangeState → Option RangeState → Type 0
KeepsRowsIf r None = Unit {0}
KeepsRowsIf r (Some after) = KeepsRows r after

-- where a log has no extent, none has left it
abbrev pub Ends : ClientState → Type 0
Ends c = length c.extents ≡ 0 → c.base ≡ 0

module _ (d : ServerContext) (r : RangeState) where
  abbrev Keeps : RangeOutcome → Type 0
  Keeps o = KeepsRowsIf r o.after

  -- the log's client goes on
  log_goes_on : (s : RangeState) → KeepsRows r s → (c : ClientState) → Grows s.log c → KeepsRows r (record s { log = c })
  log_goes_on s k c g = record { rows = k.rows; position = begins_on s.log c g s.position k.position; trims = trims_on s.log c g s.control k.trims }

  forms_keep : (s : RangeState) → KeepsRows r s → Keeps (forms d s)
  forms_keep s k =
      if_elim Keeps (not (is_some s.out) && (nat_lt 0 (group_count d s) && nat_lt (s.next + group_count d s) (2 ^ 64))) _ _
      (λ t.
      (let z : KeepsRows r (record s { log = (given (picking d s.log) (append_rule (picking d s.log) (request d) (spelling (record_of s.next (take (group_count d s) s.queue))))).after }) =
      log_goes_on s k _ (record { base = g.base; count = g.count }) in record { rows = z.rows; position = z.position; trims = z.trims }))
      (λ f. k)
    where
      g : Grows (picking d s.log) (given (picking d s.log) (append_rule (picking d s.log) (request d) (spelling (record_of s.next (take (group_count d s) s.queue))))).after
      g = append_grows (request d) (picking d s.log) (spelling (record_of s.next (take (group_count d s) s.queue)))

  done_keep : (s : RangeState) → Ends s.log → KeepsRows r s → (out : Option OutGroup) (e offset : ℕ) → Keeps (log_done d s out e offset)
  done_keep s ends k None e offset = k
  done_keep s ends k (Some out) e offset =
      forms_keep
      (record s {
        live = put_all s.live (flat_map (λ changes. changes) (kept (record_of out.first out.transactions) e offset));
        position = record { index = (s.log.base + length s.log.extents) - 1; offset = offset + out_size out };
        out = None;
      })
      (record { rows = k.rows; position = λ none. (let first : s.log.base ≡ 0 = ends none in omega (arith, none, first)); trims = k.trims })

  told_keep : (s : RangeState) → Ends s.log → KeepsRows r s → (told : Option News) (packets : List Packet) → Keeps (serving_news d s told packets)
  told_keep s ends k None packets = k
  told_keep s ends k (Some news.Fenced) packets = tt
  told_keep s ends k (Some (news.Appended e offset)) packets = done_keep s ends k s.out e offset
  told_keep s ends k (Some (news.Checked e found)) packets = k
  told_keep s ends k (Some (news.Sealed e l)) packets = k
  told_keep s ends k (Some (news.Content e upto)) packets = k

  -- its record stands, and its log is to be trimmed
  stands_keep : (s : RangeState) → KeepsRows r s → (job : CheckpointState) → BeginsInLog s.log job.position → (phase : CheckpointPhase) → Keeps (record_stands d s job phase)
  stands_keep s k job begins (checkpoints.Record index) =
      if_elim Keeps (has_record_number s) _ _ (λ t. record { rows = k.rows; position = k.position; trims = (begins, trim_stays s.log job.position begins, refl) }) (λ f. k)
  stands_keep s k job begins phase = k

  record_keep : (s : RangeState) → KeepsRows r s → (control : Option CheckpointState) → TrimsJob s.log control → (told : Option News) (packets : List Packet) → Keeps (record_told d s control told packets)
  record_keep s k control t (Some news.Fenced) packets = tt
  record_keep s k (Some job) t (Some (news.Appended e offset)) packets = stands_keep s k job t.0 job.phase
  record_keep s k control t told packets = k

  module _ (position : BeginsInLog r.log r.position) (trims : TrimsJob r.log r.control) where
    before : KeepsRows r r
    before = record { rows = refl; position = position; trims = trims }

    transacts_keep_rows : (from : ActorId) (q : ReqNo) (changes : List Change) (fault : Option Refusal) → Keeps (transacts d r from q changes fault)
    transacts_keep_rows from q changes (Some why) = before
    transacts_keep_rows from q changes None =
        forms_keep (record r { queue = r.queue ++ record { from = from; request = q; changes = changes } ∷ [] }) (record { rows = refl; position = position; trims = trims })

    -- a transaction
    pub transact_keeps_rows : (from : ActorId) (q : ReqNo) (changes : List Change) → Keeps (transact_rule d r from q changes)
    transact_keeps_rows from q changes = transacts_keep_rows from q changes (transact_fault d r changes)

    -- an answer to the log's client
    pub log_keeps_rows : r.stage ≡ stages.Serving → Ends r.log → (body : Body) → Keeps (log_reply d r body)
    log_keeps_rows stage ends body =
        if_elim Keeps (is_taken r body) _ _
        (λ t. subst (λ z. Keeps (if is_serving z then serving_news d now o.news (option_to_list o.packet) else log_news d now (groups_of body) z o.news (option_to_list o.packet))) (sym stage)
        (told_keep now after_ends (record { rows = kept_on.rows; position = kept_on.position; trims = kept_on.trims }) o.news (option_to_list o.packet)))
        (λ f. before)
      where
        o : Outcome
        o = reply_rule (picking d r.log) (request d) body

        now : RangeState
        now = record r { log = o.after }

        g : Grows (picking d r.log) o.after
        g = reply_grows (request d) (picking d r.log) body

        kept_on : KeepsRows r (record r { log = o.after })
        kept_on = log_goes_on r before o.after (record { base = g.base; count = g.count })

        after_ends : Ends o.after
        after_ends none = let count = g.count in g.base ∙ ends (omega (arith, none, count))

    -- an answer to the metadata's client
    pub metadata_keeps_rows : r.stage ≡ stages.Serving → (body : Body) → Keeps (metadata_reply d r body)
    metadata_keeps_rows stage body =
        subst (λ z. Keeps (if is_serving z then record_told d now r.control o.news (option_to_list o.packet) else metadata_news d now (groups_of body) z o.news (option_to_list o.packet))) (sym stage)
        (record_keep now (record { rows = refl; position = position; trims = trims }) r.control trims o.news (option_to_list o.packet))
      where
        o : Outcome
        o = reply_rule (picking d r.metadata) (request d) body

        now : RangeState
        now = record r { metadata = o.after }

    -- an answer to the Trim
    trim_keep : (phase : CheckpointPhase) → TrimsPhase r.log phase → (body : StreamBody) → Keeps (trim_told d r phase body)
    trim_keep (checkpoints.Trim before_index to_blob q) stays (streams.Trimmed u) = record { rows = refl; position = below_begins r.log before_index r.position stays position; trims = tt }
    trim_keep phase stays body = before

    trim_keep_in : (control : Option CheckpointState) → TrimsJob r.log control → (body : StreamBody) → Keeps (trim_reply_in d r control body)
    trim_keep_in None t body = before
    trim_keep_in (Some job) t body = trim_keep job.phase t.1 body

    refused_keep : (body : AppendBody) → Keeps (load_refused d r body)
    refused_keep (appends.Refused u refusals.Stale) = tt
    refused_keep body = before

    pub trim_keeps_rows : (body : Body) → Keeps (trim_reply d r body)
    trim_keeps_rows (bodies.Stream body) = trim_keep_in r.control trims body
    trim_keeps_rows (bodies.Append body) = refused_keep body
    trim_keeps_rows body = before
