-- The rules of a range that is served, as both of its streams see them, where each may have an append job.
use Rattle.std.proofs.Common.{◌≡◌, ⊎_elim, ℕ, ◌≤◌, List, [], false, Option, Some, None, is_some, option_to_list, refl, sym, ap, ◌∙◌, subst, inl, arith, if◌then◌else◌}
use Rattle.wire.specs.declared.actor.ActorId.{ActorId}
use Rattle.wire.specs.declared.actor.ReqNo.{ReqNo}
use Rattle.wire.specs.declared.body.Body.{Body}
use Rattle.wire.specs.declared.packet.Packet.{Packet}
use Rattle.wire.specs.declared.streams.StreamKind.TheVariants as kinds
use Rattle.wire.specs.declared.transaction.Change.{Change}
use Rattle.client.specs.declared.job.News.{News}
use Rattle.client.specs.declared.job.News.TheVariants as news
use Rattle.client.specs.Client.{Outcome, reply_rule}
use Rattle.model_streams.specs.StreamSystem.{StreamSystem}
use Rattle.model_streams.proofs.Tests.{if_elim}
use Rattle.model_partition.specs.CheckpointStates.{CheckpointState}
use Rattle.model_partition.specs.declared.checkpoint_job.CheckpointPhase.{CheckpointPhase}
use Rattle.model_partition.specs.declared.checkpoint_job.CheckpointPhase.TheVariants as checkpoints
use Rattle.model_partition.specs.declared.server_context.ServerContext.{ServerContext}
use Rattle.model_partition.specs.declared.stage.Stage.TheVariants as stages
use Rattle.model_partition.specs.Range.{RangeState, RangeOutcome, request, picking, is_serving}
use Rattle.model_partition.specs.Checkpoints.{has_record_number, may_record, index_stands, record_stands, record_told}
use Rattle.model_partition.specs.Loading.{metadata_news}
use Rattle.model_partition.specs.Serving.{transact_fault, transact_rule}
use Rattle.model_partition.specs.Answering.{groups_of, metadata_reply, log_reply}
use Rattle.model_histories.specs.StreamActions.{StreamAction, transact_actions, metadata_actions, index_stood_in}
use Rattle.laws_stream_machine.specs.Refinement.{Sent, Means}
use Rattle.laws_loads.specs.RangeView.{RangeView, view_after_all}
use Rattle.laws_ranges.specs.Serves.{is_recording_in, RecordIs, Side, after_turns, sent_with, metadata_of, log_of, ServingIs, OutIs, IsCounted, ServesLogIf, Apart, BothListed, IsSentBy}
use Rattle.laws_ranges.specs.Seen.{LogRule}
use Rattle.laws_ranges.specs.Records.{ServesMetadataIf, MetadataRule, ServesBoth, ServesBothIf, ServedRule}
use Rattle.laws_ranges.proofs.MachineSteps.{purposes_on}
use Rattle.laws_ranges.proofs.OneStory.{others_leave, still_seen}
use Rattle.laws_ranges.proofs.LogRules.{reply_actions, transact_goes, log_reply_goes}
use Rattle.laws_ranges.proofs.RecordRules.{index_stands_rule, metadata_reply_goes}
use Rattle.laws_ranges.proofs.ServedRules.{KeepsRest, Keeps, unused_on, same_unused, apart_on, asked_of_both, transacts_keep, reply_keeps}
use Rattle.laws_ranges.proofs.BothStreams.{apart_first, asked_of_metadata}

-- ---- what a rule on the metadata keeps

pub record KeepsLog (r after : RangeState) : Type 0 where
  pub load : after.load ≡ r.load
  pub log : after.log ≡ r.log
  pub out : after.out ≡ r.out

abbrev pub KeepsLogIf : RangeState → Option RangeState → Type 0
KeepsLogIf r None = Unit {0}
KeepsLogIf r (Some after) = KeepsLog r after

module _ (d : ServerContext) (r now : RangeState) (k : KeepsLog r now) where
  stands_keep : (job : CheckpointState) (phase : CheckpointPhase) → KeepsLogIf r (record_stands d now job phase).after
  stands_keep job (checkpoints.Record index) = if_elim {A = RangeOutcome} (λ o. KeepsLogIf r o.after) (has_record_number now) _ _ (λ t. record { load = k.load; log = k.log; out = k.out }) (λ f. k)
  stands_keep job phase = k

  told_keeps : (job : Option CheckpointState) (told : Option News) (packets : List Packet) → KeepsLogIf r (record_told d now job told packets).after
  told_keeps job (Some news.Fenced) packets = tt
  told_keeps (Some job) (Some (news.Appended e offset)) packets = stands_keep job job.phase
  told_keeps job told packets = k

  index_keeps : (job : CheckpointState) (extent offset : ℕ) → KeepsLogIf r (index_stands d now job extent offset).after
  index_keeps job extent offset = if_elim {A = RangeOutcome} (λ o. KeepsLogIf r o.after) (may_record now job) _ _ (λ t. record { load = k.load; log = k.log; out = k.out }) (λ f. k)

metadata_keeps : (d : ServerContext) (r : RangeState) → r.stage ≡ stages.Serving → (body : Body) → KeepsLogIf r (metadata_reply d r body).after
metadata_keeps d r stage body =
    subst (λ z. KeepsLogIf r (if is_serving z then record_told d now r.control o.news (option_to_list o.packet) else metadata_news d now (groups_of body) z o.news (option_to_list o.packet)).after) (sym stage)
    (told_keeps d r now (record { load = refl; log = refl; out = refl }) r.control o.news (option_to_list o.packet))
  where
    o : Outcome
    o = reply_rule (picking d r.metadata) (request d) body

    now : RangeState
    now = record r { metadata = o.after }

-- ---- one rule, as both streams see it

module _ (generation : ℕ → ℕ) (range : ℕ) (w : StreamSystem) (i : ℕ) (both : BothListed w range) (m l : Side) (d : ServerContext) (by : IsSentBy d d.count m.sent l.sent) (v : RangeView)
    (r : RangeState) (b : ServesBoth generation range w i m l r) where
  -- the metadata where a rule turned the log
  log_then : (k : Side) (o : Option RangeState) → Keeps r o → ServesLogIf generation range w i o k.stand k.sent → ServesBothIf generation range w i o m k
  log_then k None keeps served = tt
  log_then k (Some after) keeps served =
      let same : KeepsRest r after = keeps.keeps after refl in
      record {
        phase = ap (λ z. z.phase) same.load ∙ b.phase;
        metadata = record {
          range_is = served.range_is;
          under = served.under;
          client = subst (λ c. ServingIs generation (metadata_of range) w i m.stand m.sent c) (sym same.metadata) b.metadata.client;
          record_is = subst (λ c. RecordIs (record r { metadata = c; said = after.said; control = after.control })) (sym same.metadata)
              (subst (λ s. RecordIs (record r { said = s; control = after.control })) (sym same.said) (subst (λ c. RecordIs (record r { control = c })) (sym same.control) b.metadata.record_is));
          stage = served.stage;
        };
        log = served;
      }

  -- a rule that turns the log
  pub log_rule : (o : RangeOutcome) (done : List StreamAction) → Keeps r o.after → LogRule generation range w i l.stand l.sent d o done → ServedRule generation range w i v m l d o done
  log_rule o done keeps rule =
      let sent : List Sent = sent_with (request d) rule.purpose l.sent in
      let k : Side = record { stand = after_turns generation i l.stand rule.list; sent = sent } in
      let apart : Apart m.sent sent = apart_on m.sent l.sent (request d) rule.purpose by.apart (by.metadata d.count (omega arith)) in
      record {
        goes = record {
          metadata_turns = [];
          log_turns = rule.list;
          metadata_allowed = tt;
          log_allowed = rule.allowed;
          none = λ e. (refl, rule.none e);
          metadata_sent = m.sent;
          log_sent = sent;
          metadata_keeps = λ q p e. e;
          log_keeps = purposes_on (request d) rule.purpose l.sent (by.log d.count (omega arith));
          rises = ⊎_elim {C = d.count ≤ o.count} (λ e. omega (arith, e)) (λ e. (let z : o.count ≡ d.count = e.0 in omega (arith, z))) rule.counts;
          metadata_adds = record { number = d.count; from = omega arith; purpose = None; is = refl };
          log_adds = record { number = d.count; from = omega arith; purpose = rule.purpose; is = refl };
          sent_by = record { apart = apart; metadata = same_unused d o.count rule.purpose m.sent by.metadata rule.counts; log = unused_on d o.count rule.purpose l.sent by.log rule.counts };
          then = log_then k o.after keeps rule.then;
          asked = asked_of_both generation range w i both o.after m k apart o.packets rule.asked;
        };
        metadata = λ s. still_seen generation i kinds.Metadata v (view_after_all (generation i) v done) m.stand (others_leave generation i kinds.Log kinds.Metadata refl v done rule.here) s;
        log = rule.seen v;
      }

  -- the log where a rule turned the metadata
  metadata_then : (n : Side) (o : Option RangeState) → KeepsLogIf r o → ServesMetadataIf generation range w i o n.stand n.sent → ServesBothIf generation range w i o n l
  metadata_then n None keeps served = tt
  metadata_then n (Some after) keeps served =
      record {
        phase = ap (λ z. z.phase) keeps.load ∙ b.phase;
        metadata = served;
        log = record {
          range_is = served.range_is;
          under = served.under;
          client = subst (λ c. ServingIs generation (log_of range) w i l.stand l.sent c) (sym keeps.log) b.log.client;
          out = subst (λ c. OutIs c.job c.group after.out) (sym keeps.log) (subst (λ out. OutIs r.log.job r.log.group out) (sym keeps.out) b.log.out);
          stage = served.stage;
        };
      }

  -- a rule that turns the metadata
  pub metadata_rule : (o : RangeOutcome) (done : List StreamAction) → KeepsLogIf r o.after → MetadataRule generation range w i m.stand m.sent d o done → ServedRule generation range w i v m l d o done
  metadata_rule o done keeps rule =
      let sent : List Sent = sent_with (request d) rule.purpose m.sent in
      let n : Side = record { stand = after_turns generation i m.stand rule.list; sent = sent } in
      let apart : Apart sent l.sent = apart_first m.sent l.sent (request d) rule.purpose by.apart (by.log d.count (omega arith)) in
      let count = rule.counts in
      record {
        goes = record {
          metadata_turns = rule.list;
          log_turns = [];
          metadata_allowed = rule.allowed;
          log_allowed = tt;
          none = λ e. (rule.none e, refl);
          metadata_sent = sent;
          log_sent = l.sent;
          metadata_keeps = purposes_on (request d) rule.purpose m.sent (by.metadata d.count (omega arith));
          log_keeps = λ q p e. e;
          rises = omega (arith, count);
          metadata_adds = record { number = d.count; from = omega arith; purpose = rule.purpose; is = refl };
          log_adds = record { number = d.count; from = omega arith; purpose = None; is = refl };
          sent_by = record { apart = apart; metadata = unused_on d o.count rule.purpose m.sent by.metadata (inl count); log = same_unused d o.count rule.purpose l.sent by.log (inl count) };
          then = metadata_then n o.after keeps rule.then;
          asked = asked_of_metadata generation range w i both o.after n l apart o.packets rule.asked;
        };
        metadata = rule.seen v;
        log = λ s. still_seen generation i kinds.Log v (view_after_all (generation i) v done) l.stand (others_leave generation i kinds.Metadata kinds.Log refl v done rule.here) s;
      }

  -- ---- the rules

  pub transact_both : (from : ActorId) (q : ReqNo) (changes : List Change) → ServedRule generation range w i v m l d (transact_rule d r from q changes) (transact_actions r (transact_rule d r from q changes))
  transact_both from q changes =
      log_rule (transact_rule d r from q changes) (transact_actions r (transact_rule d r from q changes)) (transacts_keep generation range w i both d r from q changes (transact_fault d r changes))
      (transact_goes generation range w i both.log d l.stand l.sent (by.log d.count (omega arith)) r from q changes b.log)

  pub log_reply_both : IsCounted i l.stand → (body : Body) → Means generation (log_of range) w l.stand.state l.sent body → ServedRule generation range w i v m l d (log_reply d r body) (reply_actions d r body (log_reply d r body))
  log_reply_both counted body means =
      log_rule (log_reply d r body) (reply_actions d r body (log_reply d r body)) (reply_keeps generation range w i both d r body b.log.stage)
      (log_reply_goes generation range w i both.log d l.sent (by.log d.count (omega arith)) l.stand r counted b.log body means)

  pub metadata_reply_both : IsCounted i m.stand → (body : Body) → Means generation (metadata_of range) w m.stand.state m.sent body →
      ServedRule generation range w i v m l d (metadata_reply d r body) (if is_some (metadata_reply d r body).after then metadata_actions d r body else [])
  metadata_reply_both counted body means =
      metadata_rule (metadata_reply d r body) (if is_some (metadata_reply d r body).after then metadata_actions d r body else []) (metadata_keeps d r b.log.stage body)
      (metadata_reply_goes generation range w i both.metadata d m.sent (by.metadata d.count (omega arith)) m.stand r counted b.metadata body means)

  -- the index of the checkpoint that is under way stands
  pub index_stands_both : is_recording_in r.control ≡ false → (job : CheckpointState) (extent offset : ℕ) →
      ServedRule generation range w i v m l d (index_stands d r job extent offset) (index_stood_in r job checkpoints.Index extent offset)
  index_stands_both unrecorded job extent offset =
      metadata_rule (index_stands d r job extent offset) (index_stood_in r job checkpoints.Index extent offset) (index_keeps d r r (record { load = refl; log = refl; out = refl }) job extent offset)
      (index_stands_rule generation range w i both.metadata d m.sent (by.metadata d.count (omega arith)) m.stand r b.metadata unrecorded job extent offset)
