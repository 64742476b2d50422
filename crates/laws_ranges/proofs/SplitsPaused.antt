-- While the record of its split stands, no rule of a range changes what the metadata of the two ranges that the split makes begins with: the
-- extents of the range's own metadata, and what that says.
use Rattle.std.proofs.Common.{◌≡◌, ℕ, true, false, not, ◌&&◌, ◌+◌, ◌++◌, ◌∷◌, ◌^◌, nat_lt, List, [], Option, Some, None, is_some, option_to_list, refl, sym, ap, ◌∙◌, subst}
use Rattle.wire.specs.declared.actor.ActorId.{ActorId}
use Rattle.wire.specs.declared.actor.ReqNo.{ReqNo}
use Rattle.wire.specs.declared.body.AppendBody.{AppendBody}
use Rattle.wire.specs.declared.body.AppendBody.TheVariants as appends
use Rattle.wire.specs.declared.body.Body.{Body}
use Rattle.wire.specs.declared.body.Body.TheVariants as bodies
use Rattle.wire.specs.declared.body.ReadBody.{ReadBody}
use Rattle.wire.specs.declared.body.ReadBody.TheVariants as reads
use Rattle.wire.specs.declared.packet.Packet.{Packet}
use Rattle.wire.specs.declared.refusal.Refusal.{Refusal}
use Rattle.wire.specs.declared.refusal.Refusal.TheVariants as refusals
use Rattle.wire.specs.declared.streams.StreamKind.TheVariants as kinds
use Rattle.wire.specs.declared.transaction.Change.{Change}
use Rattle.memtable.specs.declared.cell.Place.{Place}
use Rattle.metadata.specs.Fold.{MetadataState}
use Rattle.metadata.specs.declared.record.MetaItem.TheVariants.{Ranges}
use Rattle.metadata.specs.Record.{spelling}
use Rattle.client.specs.declared.job.Job.{Job}
use Rattle.client.specs.declared.job.Job.TheVariants as jobs
use Rattle.client.specs.declared.job.News.{News}
use Rattle.client.specs.declared.job.News.TheVariants as news
use Rattle.client.specs.declared.load.LoadPhase.TheVariants as loads
use Rattle.client.specs.Client.{ClientState, Outcome, awaits, new_client, reply_rule, give_up_job}
use Rattle.client.specs.Load.{load_awaits}
use Rattle.model_streams.proofs.Tests.{if_elim}
use Rattle.model_streams.specs.StreamSystem.{StreamSystem}
use Rattle.model_partition.specs.CheckpointStates.{CheckpointState}
use Rattle.model_partition.specs.declared.server_context.ServerContext.{ServerContext}
use Rattle.model_partition.specs.declared.split_job.Side.{Side as SplitSide}
use Rattle.model_partition.specs.declared.split_job.SplitJob.{SplitJob}
use Rattle.model_partition.specs.declared.stage.Stage.TheVariants as stages
use Rattle.model_partition.specs.Range.{RangeState, RangeOutcome, request, used, picking}
use Rattle.model_partition.specs.PlaceReads.{place_of, reads_under, reads_page}
use Rattle.model_partition.specs.Getting.{are_no_page, bytes_rule, get_fault, gets, get_rule, read_at}
use Rattle.model_partition.specs.Serving.{group_count, forms, transact_fault, transacts, transact_rule}
use Rattle.model_partition.specs.Loading.{index_read}
use Rattle.model_partition.specs.Checkpoints.{rows_told, rows_may_stand, rows_reply, trim_awaits}
use Rattle.model_partition.specs.Answering.{load_refused, index_reply, page_reply, bytes_reply, gets_reply, answer_rule, give_up_all}
use Rattle.model_partition.specs.Splits.{side_range, side_keys, side_metadata}
use Rattle.laws_loads.proofs.IndexAnswers.{index_reply_elim}
use Rattle.laws_loads.proofs.PageAnswers.{page_reply_elim}
use Rattle.laws_ranges.specs.Serves.{Side}
use Rattle.laws_ranges.specs.SplitJobs.{RecordedIs}
use Rattle.laws_ranges.specs.SplitSides.{keys_group}

-- what the two ranges of a split begin with is as it was
pub record KeepsKeys (r next : RangeState) : Type 0 where
  pub said : next.said ≡ r.said
  pub base : next.metadata.base ≡ r.metadata.base
  pub extents : next.metadata.extents ≡ r.metadata.extents

-- so it is of a range that is left
abbrev pub KeepsKeysIf : RangeState → Option RangeState → Type 0
KeepsKeysIf r None = Unit {0}
KeepsKeysIf r (Some next) = KeepsKeys r next

-- the clients of its metadata and of its log have no job, and no checkpoint is under way
pub record IsRecorded (r : RangeState) : Type 0 where
  pub stage : r.stage ≡ stages.Serving
  pub phase : r.load.phase ≡ loads.Confirmed
  pub control : r.control ≡ None
  pub metadata : r.metadata.job ≡ jobs.Idle
  pub log : r.log.job ≡ jobs.Idle

pub recorded_is : (generation : ℕ → ℕ) (range : ℕ) (w : StreamSystem) (i : ℕ) (m l : Side) (r : RangeState) → RecordedIs generation range w i m l r → IsRecorded r
recorded_is generation range w i m l r b = record { stage = b.paused.stage; phase = b.paused.phase; control = b.paused.control; metadata = b.metadata.idle; log = b.paused.log.idle }

module _ (d : ServerContext) (r : RangeState) where
  abbrev Keeps : RangeOutcome → Type 0
  Keeps o = KeepsKeysIf r o.after

  same : KeepsKeys r r
  same = record { said = refl; base = refl; extents = refl }

  -- ---- what users ask

  forms_keeps : (s : RangeState) → KeepsKeys r s → Keeps (forms d s)
  forms_keeps s k =
      if_elim Keeps (not (is_some s.out) && (nat_lt 0 (group_count d s) && nat_lt (s.next + group_count d s) (2 ^ 64))) _ _ (λ t. record { said = k.said; base = k.base; extents = k.extents }) (λ f. k)

  transacts_keeps : (from : ActorId) (q : ReqNo) (changes : List Change) (fault : Option Refusal) → Keeps (transacts d r from q changes fault)
  transacts_keeps from q changes (Some why) = same
  transacts_keeps from q changes None = forms_keeps (record r { queue = r.queue ++ record { from = from; request = q; changes = changes } ∷ [] }) (record { said = refl; base = refl; extents = refl })

  -- a transaction
  pub transact_keeps : (from : ActorId) (q : ReqNo) (changes : List Change) → KeepsKeysIf r (transact_rule d r from q changes).after
  transact_keeps from q changes = transacts_keeps from q changes (transact_fault d r changes)

  gets_keeps : (from : ActorId) (q : ReqNo) (key : List ℕ) (fault : Option Refusal) → Keeps (gets d r from q key fault)
  gets_keeps from q key (Some why) = same
  gets_keeps from q key None = record { said = refl; base = refl; extents = refl }

  -- a Get
  pub get_keeps : (from : ActorId) (q : ReqNo) (key : List ℕ) → KeepsKeysIf r (get_rule d r from q key).after
  get_keeps from q key = gets_keeps from q key (get_fault d r key)

  -- ---- answers

  refused_keeps : (body : AppendBody) → Keeps (load_refused d r body)
  refused_keeps (appends.Refused u refusals.Stale) = tt
  refused_keeps body = same

  bytes_keeps : (u : ReqNo) (place : Place) (bytes : List ℕ) → Keeps (bytes_rule d r u place bytes)
  bytes_keeps u place bytes = if_elim Keeps (are_no_page (read_at r.gets u) bytes) _ _ (λ t. same) (λ f. record { said = refl; base = refl; extents = refl })

  read_keeps : (u : ReqNo) (body : ReadBody) → Keeps (bytes_reply d r u body)
  read_keeps u (reads.Bytes v e offset bytes) = bytes_keeps u (place_of e offset bytes) bytes
  read_keeps u body = same

  gets_reply_keeps : (u : ReqNo) (body : Body) → Keeps (gets_reply d r u body)
  gets_reply_keeps u (bodies.Read body) = read_keeps u body
  gets_reply_keeps u (bodies.Append body) = refused_keeps body
  gets_reply_keeps u body = same

  module _ (b : IsRecorded r) where
    page_keeps : (body : Body) → Keeps (page_reply d r body)
    page_keeps body = page_reply_elim Keeps d r same tt (λ checkpoint place entries control next. absurd (let z : None ≡ Some checkpoint = sym b.control ∙ control in cc)) body

    index_keeps : (body : Body) → Keeps (index_reply d r body)
    index_keeps body = index_reply_elim Keeps d r same tt (λ bytes. subst (λ z. Keeps (index_read d r z bytes)) (sym b.stage) same) body

    told_keeps : (rows : ClientState) (told : Option News) (packets : List Packet) → Keeps (rows_told d (record r { rows = rows }) None told packets)
    told_keeps rows (Some news.Fenced) packets = tt
    told_keeps rows None packets = record { said = refl; base = refl; extents = refl }
    told_keeps rows (Some (news.Appended e offset)) packets = record { said = refl; base = refl; extents = refl }
    told_keeps rows (Some (news.Checked e n)) packets = record { said = refl; base = refl; extents = refl }
    told_keeps rows (Some (news.Sealed e n)) packets = record { said = refl; base = refl; extents = refl }
    told_keeps rows (Some (news.Content e n)) packets = record { said = refl; base = refl; extents = refl }

    rows_keeps : (body : Body) → Keeps (rows_reply d r body)
    rows_keeps body =
        let o : Outcome = reply_rule (picking d r.rows) (request d) body in
        if_elim Keeps (rows_may_stand r.control body) _ _
        (λ t. subst (λ (c : Option CheckpointState). Keeps (rows_told d (record r { rows = o.after }) c o.news (option_to_list o.packet))) (sym b.control) (told_keeps o.after o.news (option_to_list o.packet))) (λ t. same)

    -- an answer
    pub answer_keeps : (u : ReqNo) (body : Body) → KeepsKeysIf r (answer_rule d r u body).after
    answer_keeps u body =
        if_elim Keeps (load_awaits r.load.phase u) _ _ (λ t. absurd (let z : false ≡ true = ap (λ q. load_awaits q u) (sym b.phase) ∙ t in cc))
        (λ f. if_elim Keeps (awaits r.metadata.job u) _ _ (λ t. absurd (let z : false ≡ true = ap (λ j. awaits j u) (sym b.metadata) ∙ t in cc))
        (λ f. if_elim Keeps (awaits r.log.job u) _ _ (λ t. absurd (let z : false ≡ true = ap (λ j. awaits j u) (sym b.log) ∙ t in cc))
        (λ f. if_elim Keeps (awaits r.rows.job u) _ _ (λ t. rows_keeps body)
        (λ f. if_elim Keeps (reads_under r.reading u) _ _ (λ t. if_elim Keeps (reads_page r.reading) _ _ (λ p. page_keeps body) (λ p. index_keeps body))
        (λ f. if_elim Keeps (trim_awaits r.control u) _ _ (λ t. absurd (let z : false ≡ true = ap (λ c. trim_awaits c u) (sym b.control) ∙ t in cc)) (λ f. gets_reply_keeps u body))))))

    -- ---- it gives up

    abbrev again : Job → ClientState
    again job = (give_up_job (record r.metadata { pick = d.pick }) (request (used d)) job).after

    -- and being told to give up
    pub give_up_keeps : KeepsKeysIf r (give_up_all d r).after
    give_up_keeps =
        let base_is : (again r.metadata.job).base ≡ r.metadata.base = subst (λ j. (again j).base ≡ r.metadata.base) (sym b.metadata) refl in
        let extents_are : (again r.metadata.job).extents ≡ r.metadata.extents = subst (λ j. (again j).extents ≡ r.metadata.extents) (sym b.metadata) refl in
        record { said = refl; base = base_is; extents = extents_are }

-- ---- what the metadata of the two begins with

module _ (r next : RangeState) (k : KeepsKeys r next) (job : SplitJob) (side : SplitSide) where
  -- its client
  pub metadata_kept : (d : ServerContext) → side_metadata d next job side ≡ side_metadata d r job side
  metadata_kept d = λ j. new_client d.server (record { range = side_range job side; kind = kinds.Metadata }) job.generation (record { base = k.base j; extents = k.extents j }) d.pick

  -- and the record of its keys
  pub keys_kept : keys_group next job side ≡ keys_group r job side
  keys_kept = ap (λ (said : MetadataState). spelling (record { number = said.next; item = Ranges (side_keys said.keys job.key side) }) ∷ []) k.said
