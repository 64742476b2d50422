-- The answer to a Trim, which cuts sealed extents off the log and turns neither stream, where each may have an append job.
use Rattle.std.proofs.Common.{◌≡◌, ℕ, ◌≤◌, [], ◌++◌, Option, Some, None, false, refl, sym, ap, ◌∙◌, subst, arith}
use Rattle.wire.specs.declared.body.AppendBody.{AppendBody}
use Rattle.wire.specs.declared.body.AppendBody.TheVariants as appends
use Rattle.wire.specs.declared.body.Body.{Body}
use Rattle.wire.specs.declared.body.Body.TheVariants as bodies
use Rattle.wire.specs.declared.body.StreamBody.{StreamBody}
use Rattle.wire.specs.declared.body.StreamBody.TheVariants as streams
use Rattle.wire.specs.declared.refusal.Refusal.TheVariants as refusals
use Rattle.client.specs.declared.job.Job.TheVariants as jobs
use Rattle.model_streams.specs.StreamSystem.{StreamSystem}
use Rattle.model_partition.specs.CheckpointStates.{CheckpointState, is_recording}
use Rattle.model_partition.specs.declared.checkpoint_job.CheckpointPhase.{CheckpointPhase}
use Rattle.model_partition.specs.declared.checkpoint_job.CheckpointPhase.TheVariants as checkpoints
use Rattle.model_partition.specs.declared.server_context.ServerContext.{ServerContext}
use Rattle.model_partition.specs.Range.{RangeState, RangeOutcome, answers, dropped, waiting_out}
use Rattle.model_partition.specs.Checkpoints.{trimmed, trim_told, trim_reply_in}
use Rattle.model_partition.specs.Answering.{load_refused, trim_reply}
use Rattle.laws_loads.specs.RangeView.{RangeView}
use Rattle.laws_ranges.specs.Serves.{TrimsJob, TrimsPhase, IsRecord, is_recording_in, Side, JobIs, log_of, AreAsked, BothListed, IsSentBy}
use Rattle.laws_ranges.specs.Records.{ServesBoth, ServesBothIf, ServedRule}
use Rattle.laws_ranges.proofs.LogRules.{refused_plain}
use Rattle.laws_ranges.proofs.RecordRules.{unrecorded_idle}
use Rattle.laws_ranges.proofs.TrimmedLog.{trimmed_serving}
use Rattle.laws_ranges.proofs.ServedRules.{asked_of_both}

module _ (generation : ℕ → ℕ) (range : ℕ) (w : StreamSystem) (i : ℕ) (both : BothListed w range) (m l : Side) (d : ServerContext) (by : IsSentBy d d.count m.sent l.sent) (v : RangeView) where
  abbrev Served : RangeOutcome → Type 0
  Served o = ServedRule generation range w i v m l d o []

  -- a step that turns neither stream
  pub still_rule : (o : RangeOutcome) → ServesBothIf generation range w i o.after m l → d.count ≤ o.count → AreAsked generation range w i (log_of range) l.stand l.sent o.packets → Served o
  still_rule o then more asked =
      record {
        goes = record {
          metadata_turns = [];
          log_turns = [];
          metadata_allowed = tt;
          log_allowed = tt;
          none = λ e. (refl, refl);
          metadata_sent = m.sent;
          log_sent = l.sent;
          metadata_keeps = λ q z e. e;
          log_keeps = λ q z e. e;
          rises = more;
          metadata_adds = record { number = d.count; from = omega arith; purpose = None; is = refl };
          log_adds = record { number = d.count; from = omega arith; purpose = None; is = refl };
          sent_by = record { apart = by.apart; metadata = λ k le. by.metadata k (omega (arith, le, more)); log = λ k le. by.log k (omega (arith, le, more)) };
          then = then;
          asked = asked_of_both generation range w i both o.after m l by.apart o.packets asked;
        };
        metadata = λ s. s;
        log = λ s. s;
      }

  module _ (r : RangeState) (b : ServesBoth generation range w i m l r) where
    pub rests : Served (answers d r [])
    rests = still_rule (answers d r []) b (omega arith) tt

    -- the range is dropped
    pub dropped_served : Served (dropped d r)
    dropped_served = still_rule (dropped d r) tt (omega arith) (refused_plain generation range w i (log_of range) l.stand l.sent d (waiting_out r.out ++ r.queue) r.gets refusals.NotOwner)

    pub refused_served : (body : AppendBody) → Served (load_refused d r body)
    refused_served (appends.Refused w refusals.Stale) = dropped_served
    refused_served body = rests

    -- while a Trim is out the metadata's client has no job
    trimming_idle : (job : CheckpointState) (phase : CheckpointPhase) → r.control ≡ Some job → job.phase ≡ phase → is_recording phase ≡ false → r.metadata.job ≡ jobs.Idle
    trimming_idle job phase control is none =
        unrecorded_idle r r.metadata.job r.metadata.group b.metadata.record_is (ap is_recording_in control ∙ ap is_recording is ∙ none)

    told_served : (job : CheckpointState) → TrimsPhase r.log job.phase → r.control ≡ Some job → (phase : CheckpointPhase) → job.phase ≡ phase → (body : StreamBody) → Served (trim_told d r phase body)
    told_served job stays control (checkpoints.Trim before to_blob q) is (streams.Trimmed u) =
        still_rule (answers d (trimmed r before to_blob) [])
        (record {
          phase = b.phase;
          metadata = record {
            range_is = b.metadata.range_is;
            under = b.metadata.under;
            client = b.metadata.client;
            record_is = subst (λ j. JobIs (IsRecord (trimmed r before to_blob)) (is_recording_in None ≡ false) j r.metadata.group) (sym (trimming_idle job (checkpoints.Trim before to_blob q) control is refl)) refl;
            stage = b.metadata.stage;
          };
          log = record {
            range_is = b.log.range_is;
            under = b.log.under;
            client = trimmed_serving generation range w i l.stand l.sent r.log before (subst (λ z. TrimsPhase r.log z) is stays) b.log.client;
            out = b.log.out;
            stage = b.log.stage;
          };
        })
        (omega arith) tt
    told_served job stays control phase is body = rests

    -- an answer to the Trim
    pub trim_reply_served : TrimsJob r.log r.control → (body : Body) → Served (trim_reply d r body)
    trim_reply_served stays (bodies.Stream body) = go r.control refl
      where
        go : (o : Option CheckpointState) → r.control ≡ o → Served (trim_reply_in d r o body)
        go None e = rests
        go (Some job) e = told_served job (subst (λ z. TrimsJob r.log z) e stays).1 e job.phase refl body
    trim_reply_served stays (bodies.Append body) = refused_served body
    trim_reply_served stays body = rests
