-- The record of a split is appended to the metadata of its range, and the range is paused: a turn of the metadata's machine alone. What
-- its answers lead to are turns as well.
use Rattle.std.proofs.Common.{◌≡◌, ℕ, ◌+◌, List, [], ◌∷◌, ◌++◌, true, not, ◌&&◌, ◌==◌, length, Option, Some, None, is_some, option_to_list, refl, sym, ap, ◌∙◌, subst, arith, if◌then◌else◌}
use Rattle.std.proofs.lemmas.Bool.{and_parts}
use Rattle.block_types.specs.Limits.{group_size}
use Rattle.wire.specs.declared.body.Body.{Body}
use Rattle.wire.specs.declared.packet.Packet.{Packet}
use Rattle.wire.specs.declared.refusal.Refusal.TheVariants as refusals
use Rattle.wire.specs.declared.streams.StreamKind.TheVariants as kinds
use Rattle.wire.specs.declared.streams.StreamName.{StreamName}
use Rattle.replica.specs.Groups.{Group}
use Rattle.client.specs.declared.job.Job.TheVariants as jobs
use Rattle.client.specs.declared.job.News.{News}
use Rattle.client.specs.declared.job.News.TheVariants as news
use Rattle.client.specs.Client.{ClientState, Outcome, last_extent, append_at, reply_rule}
use Rattle.model_streams.proofs.Tests.{both_elim}
use Rattle.model_streams.specs.StreamSystem.{StreamSystem}
use Rattle.model_partition.specs.CheckpointStates.{CheckpointState}
use Rattle.model_partition.specs.declared.pause.Pause.TheVariants as pauses
use Rattle.model_partition.specs.declared.server_context.ServerContext.{ServerContext}
use Rattle.model_partition.specs.declared.split_job.SplitJob.{SplitJob}
use Rattle.model_partition.specs.declared.split_job.SplitPhase.TheVariants as phases
use Rattle.model_partition.specs.declared.stage.Stage.{Stage}
use Rattle.model_partition.specs.declared.stage.Stage.TheVariants as stages
use Rattle.model_partition.specs.Range.{RangeState, RangeOutcome, request, picking, waiting_out, is_serving}
use Rattle.model_partition.specs.Checkpoints.{record_told}
use Rattle.model_partition.specs.Loading.{metadata_news}
use Rattle.model_partition.specs.Answering.{groups_of, metadata_reply}
use Rattle.model_partition.specs.Splits.{SplitStep, goes, with_phase, open_last, is_drained, may_record, pauses_and_records, drains}
use Rattle.model_histories.specs.ServerTurns as turns
use Rattle.model_histories.specs.StreamActions.{StreamAction, Forms, Stands, last_position, split_group, split_stood_in, drain_actions}
use Rattle.laws_loads.specs.RangeView.{RangeView, view_after_all}
use Rattle.laws_loads.proofs.WaitingIsSound.{none_there}
use Rattle.laws_stream_machine.specs.Refinement.{Sent, Means}
use Rattle.laws_ranges.specs.Serves.{is_recording_in, Stand, Side, after_turns, known, is_live, JobIs, IsTold, ServesBy, ServingIs, sent_with, Goes, ServesAfter, IsCounted, metadata_of, log_of, RowsStand, IsPastRows, OutIs, IsServing, Follows, BothListed, IsSentBy}
use Rattle.laws_ranges.specs.Quiet.{AreQuiet, IsSent, FormsOnly, MadeBy}
use Rattle.laws_ranges.specs.Seen.{AreSeen, AreSeenOf, AreOf}
use Rattle.laws_ranges.specs.SplitJobs.{RestsIs, AreOthers, PausedIs, RecordsSplit, PhaseStands, FollowsSplit, SplitSees}
use Rattle.laws_ranges.proofs.AppendJob.{GoesBy, picked_serving, append_goes}
use Rattle.laws_ranges.proofs.AppendReplies.{reply_goes}
use Rattle.laws_ranges.proofs.LogRules.{refused_plain}
use Rattle.laws_ranges.proofs.OneStory.{quiet_seen_of, forms_seen_of, stands_seen_of, others_leave, still_seen}
use Rattle.laws_ranges.proofs.OutGroup.{JobAfter, reply_job, append_job, sent_holds, none_idle}
use Rattle.laws_ranges.proofs.RecordRules.{unrecorded_idle}
use Rattle.laws_ranges.proofs.RowData.{rows_kept}
use Rattle.laws_ranges.proofs.SeenTurns.{seen_of_both}
use Rattle.laws_ranges.proofs.SplitSteps.{still_plain, metadata_split}
use Rattle.laws_ranges.proofs.SplitBegins.{waits_split}
use Rattle.laws_ranges.proofs.WholeRanges.{is_served}

-- a client without a job, as it stands where the range is served
pub rests_of : (generation : ℕ → ℕ) (name : StreamName) (w : StreamSystem) (i : ℕ) (x : Stand) (sent : List Sent) (c : ClientState) → ServingIs generation name w i x sent c → c.job ≡ jobs.Idle → RestsIs generation name w i x sent c
rests_of generation name w i x sent c b idle =
    record { told = b.told; idle = idle; live = is_live (last_extent c.extents); stands = subst (λ j. ServesBy generation name w i x sent c j) idle b.job }

module _ (generation : ℕ → ℕ) (range : ℕ) (w : StreamSystem) (i : ℕ) (both : BothListed w range) (m l : Side) (d : ServerContext) (by : IsSentBy d d.count m.sent l.sent) (v : RangeView) where
  abbrev Sees : List StreamAction → SplitStep → Type 0
  Sees actions t = SplitSees generation range w i v m l d t actions

  -- what turns of the metadata alone add to both stories
  metadata_seen : (list : List (turns.Turn Group)) (done : List StreamAction) → AreOf kinds.Metadata done → AreSeenOf generation i kinds.Metadata v m.stand list done → AreSeen generation i v m.stand l.stand list [] done
  metadata_seen list done here seen =
      seen_of_both generation i v m.stand l.stand list [] done seen
      (λ s. still_seen generation i kinds.Log v (view_after_all (generation i) v done) l.stand (others_leave generation i kinds.Metadata kinds.Log refl v done here) s)

  module _ (r : RangeState) (past : IsPastRows d r) where
    -- row data waits for what it waited for
    rows_left : (n : List Sent) (o : _) → n ≡ sent_with (request d) o m.sent → RowsStand range w m.sent l.sent r.rows → RowsStand range w n l.sent r.rows
    rows_left n o is rows =
        rows_kept range w m.sent l.sent n l.sent d (record { number = d.count; from = omega arith; purpose = o; is = is }) (record { number = d.count; from = omega arith; purpose = None; is = refl }) r.rows past rows

    -- ---- the record is formed

    module _ (job : SplitJob) (range_is : job.range ≡ range) (under : job.generation ≡ generation i) (others : AreOthers range job phases.Record) (stage : r.stage ≡ stages.Serving) (f : Follows generation range w i m l r) (none : r.control ≡ None) (blob : open_last r.blob_data.extents ≡ None) where
      s : IsServing generation range w i m l r
      s = is_served generation range w i m l r f stage

      abbrev group : Group
      group = split_group job

      records_split : is_drained r ≡ true → Sees (Forms kinds.Metadata (split_group job) ∷ []) (pauses_and_records d r job)
      records_split drained =
          subst (λ j. Sees (Forms kinds.Metadata group ∷ []) (pauses_and_records d (record r { metadata = record r.metadata { job = j } }) job)) (sym idle) at_idle
        where
          idle : r.metadata.job ≡ jobs.Idle
          idle = unrecorded_idle r r.metadata.job r.metadata.group s.record_is (ap is_recording_in none)

          out : r.out ≡ None
          out = none_there r.out (and_parts (not (is_some r.out)) (length r.queue == 0) drained).0

          c : ClientState
          c = record r.metadata { pick = d.pick; group = group; job = jobs.Idle }

          told : IsTold generation (metadata_of range) w i m.stand m.sent c
          told = record { stream = s.metadata.told.stream; under = s.metadata.told.under; tells = s.metadata.told.tells }

          stands : m.stand.phase ≡ turns.Serving (known r.metadata) (is_live (last_extent r.metadata.extents))
          stands = subst (λ j. ServesBy generation (metadata_of range) w i m.stand m.sent r.metadata j) idle s.metadata.job

          o : Outcome
          o = append_at c (request d) (last_extent r.metadata.extents)

          went : GoesBy generation (metadata_of range) w i m.stand m.sent (request d) (λ y more. ServingIs generation (metadata_of range) w i y more o.after) o.packet (FormsOnly group)
          went = append_goes generation (metadata_of range) w i both.metadata m.sent (request d) (by.metadata d.count (omega arith)) m.stand c told (last_extent r.metadata.extents) refl stands

          after : RangeState
          after = record r { pause = pauses.On; metadata = o.after }

          later : SplitJob
          later = with_phase job phases.Record

          n : Side
          n = record { stand = after_turns generation i m.stand went.0.list; sent = sent_with (request d) went.0.purpose m.sent }

          paused : PausedIs generation range w i n l after
          paused = record {
            range_is = f.range_is;
            under = f.under;
            stage = stage;
            phase = s.phase;
            pause = refl;
            control = none;
            out = out;
            log = rests_of generation (log_of range) w i l.stand l.sent r.log s.log (none_idle r.log.job r.log.group (subst (λ z. OutIs r.log.job r.log.group z) out s.out));
            rows = rows_left n.sent went.0.purpose refl f.rows;
            blob = blob;
          }

          recording : RecordsSplit generation range w i n after later
          recording = record { client = went.0.then; group = append_job (λ z. z ≡ group) (Unit {0}) (request d) c (last_extent r.metadata.extents) refl }

          at_idle : Sees (Forms kinds.Metadata group ∷ []) (pauses_and_records d (record r { metadata = record r.metadata { job = jobs.Idle } }) job)
          at_idle =
              metadata_split generation range w i both m l d by v after later o.packet (λ y more. ServingIs generation (metadata_of range) w i y more o.after) (Forms kinds.Metadata group ∷ []) went.0
              (record { range_is = range_is; under = under; stage = stage; others = others; stands = (paused, recording) })
              (metadata_seen went.0.list (Forms kinds.Metadata group ∷ []) (refl, tt)
              (subst (λ ts. AreSeenOf generation i kinds.Metadata v m.stand ts (Forms kinds.Metadata group ∷ [])) (sym went.1)
              (forms_seen_of generation i kinds.Metadata v m.stand (known r.metadata) (is_live (last_extent r.metadata.extents)) group stands)))

      -- the range is paused, or will be
      pub drains_split : Sees (drain_actions r job) (drains d r job)
      drains_split =
          both_elim (λ t actions. Sees actions t) (is_drained r && may_record r job) _ _ _ _
          (λ t. records_split (and_parts (is_drained r) (may_record r job) t).0)
          (λ t. waits_split generation range w i both m l d by v r stage f job range_is under others none)

    -- ---- an answer to the metadata's client, while the record is out

    module _ (job : SplitJob) (phase : job.phase ≡ phases.Record) (range_is : job.range ≡ range) (under : job.generation ≡ generation i) (others : AreOthers range job job.phase) (p : PausedIs generation range w i m l r) (b : RecordsSplit generation range w i m r job) (counted : IsCounted i m.stand)
        (body : Body) (means : Means generation (metadata_of range) w m.stand.state m.sent body) where
      abbrev IsGroup : Group → Type 0
      IsGroup z = z ≡ split_group job

      abbrev step_of : RangeOutcome → SplitStep
      step_of o = record { range = o.after; job = Some job; count = o.count; packets = o.packets }

      -- the client goes on
      left : (c : ClientState) (list : List (turns.Turn Group)) (o : _) → ServingIs generation (metadata_of range) w i (after_turns generation i m.stand list) (sent_with (request d) o m.sent) c → JobIs IsGroup (Unit {0}) c.job c.group →
          FollowsSplit generation range w i (record { stand = after_turns generation i m.stand list; sent = sent_with (request d) o m.sent }) l (record r { metadata = c }) job
      left c list o serving group =
          let n : Side = record { stand = after_turns generation i m.stand list; sent = sent_with (request d) o m.sent } in
          let now : RangeState = record r { metadata = c } in
          let paused : PausedIs generation range w i n l now = record {
            range_is = p.range_is;
            under = p.under;
            stage = p.stage;
            phase = p.phase;
            pause = p.pause;
            control = p.control;
            out = p.out;
            log = p.log;
            rows = rows_left n.sent o refl p.rows;
            blob = p.blob;
          } in
          let recording : RecordsSplit generation range w i n now job = record { client = serving; group = group } in
          record { range_is = range_is; under = under; stage = p.stage; others = others; stands = subst (λ z. PhaseStands generation range w i n l now job z) (sym phase) (paused, recording) }

      quiet_step : (c : ClientState) (o : Option Packet) (g : Goes generation (metadata_of range) w i m.stand m.sent (request d) (λ y more. ServingIs generation (metadata_of range) w i y more c) o) → AreQuiet g.list →
          JobIs IsGroup (Unit {0}) c.job c.group → Sees [] (goes d (record r { metadata = c }) job (option_to_list o))
      quiet_step c o g quiet group =
          metadata_split generation range w i both m l d by v (record r { metadata = c }) job o (λ y more. ServingIs generation (metadata_of range) w i y more c) [] g (left c g.list g.purpose g.then group)
          (metadata_seen g.list [] tt (quiet_seen_of generation i kinds.Metadata v m.stand g.list [] quiet tt))

      -- news of the client, by what the split has out
      news_step : (c : ClientState) (told : Option News) (o : Option Packet) → ((s : IsSent m.stand.phase) → IsGroup s.group) →
          GoesBy generation (metadata_of range) w i m.stand m.sent (request d) (ServesAfter generation (metadata_of range) w i m.sent told c) o (MadeBy (picking d r.metadata) told) → JobAfter IsGroup (Unit {0}) told c →
          Sees (if is_some (record_told d (record r { metadata = c }) None told (option_to_list o)).after then split_stood_in r job phases.Record told else []) (step_of (record_told d (record r { metadata = c }) None told (option_to_list o)))
      news_step c None o out g group = quiet_step c o g.0 g.1 group
      news_step c (Some news.Fenced) o out g group =
          still_plain generation range w i both m l d by v (step_of (record_told d (record r { metadata = c }) None (Some news.Fenced) (option_to_list o))) tt (omega arith)
          (refused_plain generation range w i (log_of range) l.stand l.sent d (waiting_out r.out ++ r.queue) r.gets refusals.NotOwner)
      news_step c (Some (news.Appended e offset)) o out (went, only) idle =
          let from : ℕ = only.from in
          metadata_split generation range w i both m l d by v (record r { metadata = c }) job o (ServesAfter generation (metadata_of range) w i m.sent (Some (news.Appended e offset)) c) (Stands kinds.Metadata e (last_position r.metadata offset) (split_group job) ∷ []) went
          (left c went.list went.purpose went.then.0 (subst (λ j. JobIs IsGroup (Unit {0}) j c.group) (sym idle) tt))
          (metadata_seen went.list (Stands kinds.Metadata e (last_position r.metadata offset) (split_group job) ∷ []) (refl, tt)
          (subst (λ ts. AreSeenOf generation i kinds.Metadata v m.stand ts (Stands kinds.Metadata e (last_position r.metadata offset) (split_group job) ∷ [])) (sym only.only)
          (stands_seen_of generation i kinds.Metadata v m.stand only.sent.n only.sent.append only.from only.to (split_group job) e (last_position r.metadata offset)
          (only.sent.is ∙ ap (λ z. turns.Sent only.sent.n only.sent.append z) (out only.sent)) only.begins (only.ends ∙ ap (λ z. only.from + group_size z) (out only.sent)))))
      news_step c (Some (news.Checked e found)) o out g group = quiet_step c o g.0 g.1 group
      news_step c (Some (news.Sealed e z)) o out g group = quiet_step c o g.0 g.1 group
      news_step c (Some (news.Content e upto)) o out g group = quiet_step c o g.0 g.1 group

      pub record_answered : Sees (if is_some (metadata_reply d r body).after then split_stood_in r job phases.Record (reply_rule (picking d r.metadata) (request d) body).news else []) (step_of (metadata_reply d r body))
      record_answered =
          subst (λ z. Sees (if is_some (at_stage z r.control).after then split_stood_in r job phases.Record o.news else []) (step_of (at_stage z r.control))) (sym p.stage)
          (subst (λ z. Sees (if is_some (at_stage stages.Serving z).after then split_stood_in r job phases.Record o.news else []) (step_of (at_stage stages.Serving z))) (sym p.control)
          (news_step o.after o.news o.packet (sent_holds generation (metadata_of range) w i m.stand m.sent r.metadata IsGroup (Unit {0}) r.metadata.job b.client.job b.group)
          (reply_goes generation (metadata_of range) w i both.metadata m.sent (request d) (by.metadata d.count (omega arith)) m.stand (picking d r.metadata) counted
          (picked_serving generation (metadata_of range) w i m.stand m.sent r.metadata d.pick b.client) body means)
          (reply_job IsGroup (Unit {0}) (request d) (picking d r.metadata) b.group body)))
        where
          o : Outcome
          o = reply_rule (picking d r.metadata) (request d) body

          at_stage : Stage → Option CheckpointState → RangeOutcome
          at_stage z control = if is_serving z then record_told d (record r { metadata = o.after }) control o.news (option_to_list o.packet) else metadata_news d (record r { metadata = o.after }) (groups_of body) z o.news (option_to_list o.packet)
