-- The rules of a range that is paused for its split: it refuses what users ask, and what it reads and writes besides its two streams
-- leaves both.
use Rattle.std.proofs.Common.{◌≡◌, ℕ, suc, ◌≤◌, true, false, List, [], ◌++◌, Option, Some, None, option_to_list, refl, sym, ap, ◌∙◌, subst, inl, arith}
use Rattle.block_types.specs.declared.record.Nodes.{Nodes}
use Rattle.wire.specs.declared.actor.ActorId.{ActorId}
use Rattle.wire.specs.declared.actor.ReqNo.{ReqNo}
use Rattle.wire.specs.declared.body.Body.{Body}
use Rattle.wire.specs.declared.body.Body.TheVariants as bodies
use Rattle.wire.specs.declared.body.StreamBody.TheVariants as streams
use Rattle.wire.specs.declared.packet.Packet.{Packet}
use Rattle.wire.specs.declared.refusal.Refusal.{Refusal}
use Rattle.wire.specs.declared.refusal.Refusal.TheVariants as refusals
use Rattle.wire.specs.declared.streams.StreamKind.TheVariants as kinds
use Rattle.wire.specs.declared.streams.StreamName.{StreamName}
use Rattle.wire.specs.declared.transaction.Change.{Change}
use Rattle.memtable.specs.declared.cell.Place.{Place}
use Rattle.client.specs.declared.job.News.{News}
use Rattle.client.specs.declared.job.News.TheVariants as news
use Rattle.client.specs.Client.{ClientState, Outcome, reply_rule}
use Rattle.model_streams.proofs.Tests.{if_elim, none_met}
use Rattle.model_streams.specs.StreamSystem.{StreamSystem}
use Rattle.model_partition.specs.CheckpointStates.{CheckpointState}
use Rattle.model_partition.specs.declared.server_context.ServerContext.{ServerContext}
use Rattle.model_partition.specs.declared.split_job.SplitJob.{SplitJob}
use Rattle.model_partition.specs.declared.split_job.SplitPhase.{SplitPhase}
use Rattle.model_partition.specs.declared.split_job.SplitPhase.TheVariants as phases
use Rattle.model_partition.specs.declared.waiting.WaitingGet.{WaitingGet}
use Rattle.model_partition.specs.Range.{RangeState, RangeOutcome, request, answers, dropped, picking, waiting_out, takes_no_transaction}
use Rattle.model_partition.specs.Loading.{index_read}
use Rattle.model_partition.specs.Serving.{transact_fault, transacts}
use Rattle.model_partition.specs.Getting.{get_rule}
use Rattle.model_partition.specs.Checkpoints.{rows_told, rows_may_stand, rows_reply}
use Rattle.model_partition.specs.Answering.{index_reply, page_reply, gets_reply}
use Rattle.model_partition.specs.Splits.{SplitStep, open_last, may_say_keys}
use Rattle.model_partition.specs.declared.table_note.TableNote.{TableNote}
use Rattle.model_histories.specs.StreamActions.{split_group}
use Rattle.laws_loads.specs.RangeView.{RangeView}
use Rattle.laws_loads.proofs.IndexAnswers.{index_reply_elim}
use Rattle.laws_loads.proofs.PageAnswers.{page_reply_elim}
use Rattle.laws_loads.proofs.WaitingIsSound.{tests}
use Rattle.laws_stream_machine.specs.Refinement.{Sent}
use Rattle.laws_ranges.specs.Serves.{Stand, Side, JobIs, IsTold, ServingIs, RowsStand, RowsTold, AreAsked, metadata_of, log_of, BothListed, IsSentBy}
use Rattle.laws_ranges.specs.SplitJobs.{RestsIs, SealIs, PausedIs, RecordsSplit, RecordedIs, PhaseStands, FollowsSplit, FollowsBothIf, SplitSees}
use Rattle.laws_ranges.proofs.AppendJob.{picked_serving}
use Rattle.laws_ranges.proofs.Gets.{get_is, gets_reply_is}
use Rattle.laws_ranges.proofs.LogRules.{refused_plain}
use Rattle.laws_ranges.proofs.RowData.{RowsDo, rows_answer}
use Rattle.laws_ranges.proofs.RowsAsked.{rows_asked}
use Rattle.laws_ranges.proofs.SplitSteps.{asked_widely, still_split, still_plain}

-- it is paused
abbrev pub IsPausedAt : SplitPhase → Type 0
IsPausedAt (phases.Begin q) = ⊥
IsPausedAt phases.Checkpoint = ⊥
IsPausedAt phases.Queue = ⊥
IsPausedAt phase = Unit {0}

-- a client is as it was, whatever place it picks for its next extent
abbrev pub IsRepicked : ClientState → ClientState → Type 0
IsRepicked c n = (pick : Nodes) × (n ≡ record c { pick = pick })

-- a range that is paused is left so
pub record KeptPaused (range : ℕ) (w : StreamSystem) (m l : List Sent) (r next : RangeState) : Type 0 where
  pub load : next.load ≡ r.load
  pub stage : next.stage ≡ r.stage
  pub pause : next.pause ≡ r.pause
  pub control : next.control ≡ r.control
  pub out : next.out ≡ r.out
  pub metadata : IsRepicked r.metadata next.metadata
  pub log : IsRepicked r.log next.log
  pub said : next.said ≡ r.said
  pub blob : next.blob_data ≡ r.blob_data
  pub rows : RowsStand range w m l next.rows

abbrev pub KeptPausedIf : ℕ → StreamSystem → List Sent → List Sent → RangeState → Option RangeState → Type 0
KeptPausedIf range w m l r None = Unit {0}
KeptPausedIf range w m l r (Some next) = KeptPaused range w m l r next

-- what is so of a client is so of one that picks another place
module _ (generation : ℕ → ℕ) (name : StreamName) (w : StreamSystem) (i : ℕ) (x : Stand) (sent : List Sent) where
  pub rests_repicked : (c n : ClientState) → IsRepicked c n → RestsIs generation name w i x sent c → RestsIs generation name w i x sent n
  rests_repicked c n (pick, same) b =
      let told : IsTold generation name w i x sent (record c { pick = pick }) = record { stream = b.told.stream; under = b.told.under; tells = b.told.tells } in
      let rests : RestsIs generation name w i x sent (record c { pick = pick }) = record { told = told; idle = b.idle; live = b.live; stands = b.stands } in
      subst (λ z. RestsIs generation name w i x sent z) (sym same) rests

  serving_repicked : (c n : ClientState) → IsRepicked c n → ServingIs generation name w i x sent c → ServingIs generation name w i x sent n
  serving_repicked c n (pick, same) b = subst (λ z. ServingIs generation name w i x sent z) (sym same) (picked_serving generation name w i x sent c pick b)

seal_repicked : (i : ℕ) (sent : List Sent) (c n : ClientState) (q : ReqNo) → IsRepicked c n → SealIs i sent c q → SealIs i sent n q
seal_repicked i sent c n q (pick, same) b =
    let seal : SealIs i sent (record c { pick = pick }) q = record { index = b.index; index_is = b.index_is; for = b.for } in
    subst (λ z. SealIs i sent z q) (sym same) seal

module _ (generation : ℕ → ℕ) (range : ℕ) (w : StreamSystem) (i : ℕ) (m l : Side) where
  module _ (r next : RangeState) (k : KeptPaused range w m.sent l.sent r next) where
    paused_kept : PausedIs generation range w i m l r → PausedIs generation range w i m l next
    paused_kept p = record {
      range_is = ap (λ z. z.range) k.load ∙ p.range_is;
      under = ap (λ z. z.generation) k.load ∙ p.under;
      stage = k.stage ∙ p.stage;
      phase = ap (λ z. z.phase) k.load ∙ p.phase;
      pause = k.pause ∙ p.pause;
      control = k.control ∙ p.control;
      out = k.out ∙ p.out;
      log = rests_repicked generation (log_of range) w i l.stand l.sent r.log next.log k.log p.log;
      rows = k.rows;
      blob = ap (λ z. open_last z.extents) k.blob ∙ p.blob;
    }

    recorded_kept : RecordedIs generation range w i m l r → RecordedIs generation range w i m l next
    recorded_kept b = record { paused = paused_kept b.paused; metadata = rests_repicked generation (metadata_of range) w i m.stand m.sent r.metadata next.metadata k.metadata b.metadata }

    closed_kept : open_last r.metadata.extents ≡ None → open_last next.metadata.extents ≡ None
    closed_kept closed = ap (λ (c : ClientState). open_last c.extents) k.metadata.1 ∙ closed

    stands_kept : (job : SplitJob) (phase : SplitPhase) → IsPausedAt phase → PhaseStands generation range w i m l r job phase → PhaseStands generation range w i m l next job phase
    stands_kept job (phases.Begin q) at b = absurd at
    stands_kept job phases.Checkpoint at b = absurd at
    stands_kept job phases.Queue at b = absurd at
    stands_kept job phases.Record at (p, s) =
        let recording : RecordsSplit generation range w i m next job = record {
          client = serving_repicked generation (metadata_of range) w i m.stand m.sent r.metadata next.metadata k.metadata s.client;
          group = subst (λ c. JobIs (λ group. group ≡ split_group job) (Unit {0}) c.job c.group) (sym k.metadata.1) s.group;
        } in
        (paused_kept p, recording)
    stands_kept job (phases.Seal kinds.Metadata q) at (b, s) = (recorded_kept b, seal_repicked i m.sent r.metadata next.metadata q k.metadata s)
    stands_kept job (phases.Seal kinds.Log q) at (b, s) = (recorded_kept b, (seal_repicked i l.sent r.log next.log q k.log s.0, closed_kept s.1))
    stands_kept job (phases.Seal kinds.RowData q) at (b, s) = (recorded_kept b, (s.0, closed_kept s.1))
    stands_kept job (phases.Seal kinds.BlobData q) at (b, s) = absurd s
    stands_kept job (phases.Build q) at (b, closed) = (recorded_kept b, closed_kept closed)
    stands_kept job (phases.Keys side c) at (b, closed, may) = (recorded_kept b, closed_kept closed, ap (λ z. may_say_keys (record r { said = z }) job) k.said ∙ may)
    stands_kept job (phases.Complete q) at (b, closed) = (recorded_kept b, closed_kept closed)

  module _ (both : BothListed w range) (d : ServerContext) (by : IsSentBy d d.count m.sent l.sent) (v : RangeView) (r : RangeState) (job : SplitJob) (f : FollowsSplit generation range w i m l r job)
      (at : IsPausedAt job.phase) (p : PausedIs generation range w i m l r) where
    -- a rule of the range, whose split stays as it is
    abbrev pub step_of : RangeOutcome → SplitStep
    step_of o = record { range = o.after; job = Some job; count = o.count; packets = o.packets }

    abbrev pub Sees : RangeOutcome → Type 0
    Sees o = SplitSees generation range w i v m l d (step_of o) []

    pub kept_stands : (next : RangeState) → KeptPaused range w m.sent l.sent r next → FollowsSplit generation range w i m l next job
    kept_stands next k = record { range_is = f.range_is; under = f.under; stage = k.stage ∙ f.stage; others = f.others; stands = stands_kept r next k job job.phase at f.stands }

    kept_if : (after : Option RangeState) → KeptPausedIf range w m.sent l.sent r after → FollowsBothIf generation range w i (Some job) after m l
    kept_if None k = tt
    kept_if (Some next) k = kept_stands next k

    kept_still : (o : RangeOutcome) → KeptPausedIf range w m.sent l.sent r o.after → d.count ≤ o.count → AreAsked generation range w i (log_of range) l.stand l.sent o.packets → Sees o
    kept_still o k more asked = still_plain generation range w i both m l d by v (step_of o) (kept_if o.after k) more asked

    same : KeptPaused range w m.sent l.sent r r
    same = record { load = refl; stage = refl; pause = refl; control = refl; out = refl; metadata = (r.metadata.pick, refl); log = (r.log.pick, refl); said = refl; blob = refl; rows = p.rows }

    pub rests_paused : Sees (answers d r [])
    rests_paused = kept_still (answers d r []) same (omega arith) tt

    pub gone_paused : (s : RangeState) → Sees (dropped d s)
    gone_paused s =
        kept_still (dropped d s) tt (omega arith) (refused_plain generation range w i (log_of range) l.stand l.sent d (waiting_out s.out ++ s.queue) s.gets refusals.NotOwner)

    -- ---- what users ask

    got : (gets : List WaitingGet) (held : List (Place × List ℕ)) (count : ℕ) (packets : List Packet) (notes : List TableNote) → d.count ≤ count → AreAsked generation range w i (log_of range) l.stand l.sent packets →
        Sees (record { after = Some (record r { gets = gets; held = held }); count = count; packets = packets; notes = notes })
    got gets held count packets notes more asked =
        kept_still (record { after = Some (record r { gets = gets; held = held }); count = count; packets = packets; notes = notes })
        (record { load = refl; stage = refl; pause = refl; control = refl; out = refl; metadata = (r.metadata.pick, refl); log = (r.log.pick, refl); said = refl; blob = refl; rows = p.rows }) more asked

    pub get_paused : (from : ActorId) (q : ReqNo) (key : List ℕ) → Sees (get_rule d r from q key)
    get_paused from q key = get_is generation range w i l d r Sees got (gone_paused r) from q key

    pub gets_reply_paused : (q : ReqNo) (body : Body) → Sees (gets_reply d r q body)
    gets_reply_paused q body = gets_reply_is generation range w i l d r Sees got (gone_paused r) q body

    pub refused_paused : (from : ActorId) (q : ReqNo) (changes : List Change) (why : Refusal) → Sees (transacts d r from q changes (Some why))
    refused_paused from q changes why = kept_still (transacts d r from q changes (Some why)) same (omega arith) (inl (λ u n s z. tt), tt)

    pub never_taken : (changes : List Change) → transact_fault d r changes ≡ None → ⊥
    never_taken changes e =
        let unmet = none_met (tests d r changes) e in
        let taken : takes_no_transaction r.pause ≡ false = unmet.1.0 in
        let z : true ≡ false = ap takes_no_transaction (sym p.pause) ∙ taken in
        cc

    -- ---- what is read besides

    pub page_paused : (body : Body) → Sees (page_reply d r body)
    page_paused body =
        page_reply_elim Sees d r rests_paused (gone_paused r) (λ checkpoint place entries control next. absurd (let z : None ≡ Some checkpoint = sym p.control ∙ control in cc)) body

    pub index_paused : (body : Body) → Sees (index_reply d r body)
    index_paused body =
        index_reply_elim Sees d r rests_paused (gone_paused r) (λ bytes. subst (λ z. Sees (index_read d r z bytes)) (sym p.stage) rests_paused) body

    -- ---- row data is answered

    module _ (body : Body) (told : RowsTold w range r body) where
      abbrev reply : Outcome
      reply = reply_rule (picking d r.rows) (request d) body

      does : RowsDo range w m.sent l.sent reply
      does =
          rows_answer range w m.sent l.sent (request d) (by.metadata d.count (omega arith), by.log d.count (omega arith)) (picking d r.rows) (record { stream = p.rows.stream; listed = p.rows.listed; job = p.rows.job }) body
          (λ u e places t is. (let said : RowsTold w range r (bodies.Stream (streams.Extended u e places)) = subst (λ z. RowsTold w range r z) is told in said t))

      abbrev now : RangeState
      now = record r { rows = reply.after }

      goes_on : Sees (record { after = Some now; count = suc d.count; packets = option_to_list reply.packet; notes = [] })
      goes_on =
          still_split generation range w i both m l d by v (step_of (record { after = Some now; count = suc d.count; packets = option_to_list reply.packet; notes = [] }))
          (kept_stands now (record { load = refl; stage = refl; pause = refl; control = refl; out = refl; metadata = (r.metadata.pick, refl); log = (r.log.pick, refl); said = refl; blob = refl; rows = does.stand })) (omega arith)
          (asked_widely generation range w i (Some now) (Some job) m l (option_to_list reply.packet) (rows_asked generation range w i both now m l reply.packet does.asks))

      by_news : (about : Option News) → Sees (rows_told d now None about (option_to_list reply.packet))
      by_news None = goes_on
      by_news (Some news.Fenced) = gone_paused now
      by_news (Some (news.Appended e offset)) = goes_on
      by_news (Some (news.Checked e n)) = goes_on
      by_news (Some (news.Sealed e n)) = goes_on
      by_news (Some (news.Content e n)) = goes_on

      pub rows_paused : Sees (rows_reply d r body)
      rows_paused =
          if_elim Sees (rows_may_stand r.control body) _ _ (λ t. subst (λ (c : Option CheckpointState). Sees (rows_told d now c reply.news (option_to_list reply.packet))) (sym p.control) (by_news reply.news)) (λ t. rests_paused)
