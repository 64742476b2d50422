-- What a range that is served does when it is told to give up: each of its two streams and its row data may have an append job, and a
-- Trim may be out.
use Rattle.std.proofs.Common.{◌≡◌, ℕ, suc, false, List, [], ◌++◌, flat_map, Option, Some, None, map, option_map, option_to_list, refl, sym, ap, subst, inl, arith}
use Rattle.wire.specs.declared.packet.Packet.{Packet}
use Rattle.wire.specs.declared.streams.StreamKind.TheVariants as kinds
use Rattle.wire.specs.declared.streams.StreamName.{StreamName}
use Rattle.client.specs.declared.load.LoadPhase.TheVariants as phases
use Rattle.client.specs.Client.{ClientState, Outcome, give_up_job}
use Rattle.model_streams.specs.StreamSystem.{StreamSystem}
use Rattle.model_partition.specs.CheckpointStates.{CheckpointState}
use Rattle.model_partition.specs.declared.checkpoint_job.CheckpointPhase.{CheckpointPhase}
use Rattle.model_partition.specs.declared.checkpoint_job.CheckpointPhase.TheVariants as checkpoints
use Rattle.model_partition.specs.declared.server_context.ServerContext.{ServerContext}
use Rattle.model_partition.specs.Range.{RangeState, RangeOutcome, request, used}
use Rattle.model_partition.specs.PlaceReads.{moved_on}
use Rattle.model_partition.specs.Getting.{gives_up_get}
use Rattle.model_partition.specs.Checkpoints.{phase_again, trim_again}
use Rattle.model_partition.specs.Answering.{gives_up_reading, give_up_all}
use Rattle.laws_stream_machine.specs.Refinement.{Sent}
use Rattle.laws_loads.specs.RangeView.{RangeView}
use Rattle.laws_ranges.specs.Serves.{RowsStand, IsPastRows, IsRecord, is_recording_in, Stand, Side, after_turns, sent_with, metadata_of, log_of, Apart, AreUnused, ServingIs, AreAsked, BothListed, IsSentBy}
use Rattle.laws_ranges.specs.Quiet.{Quietly}
use Rattle.laws_ranges.specs.Records.{ServesBoth, ServedRule}
use Rattle.laws_ranges.specs.Seen.{RuleSees}
use Rattle.laws_ranges.proofs.RowData.{RowsDo, rows_kept, rows_give_up}
use Rattle.laws_ranges.proofs.RowsAsked.{rows_asked}
use Rattle.laws_ranges.proofs.LogGrowth.{Grows, give_up_grows, begins_on, trims_on}
use Rattle.laws_ranges.proofs.WholeRanges.{RestStands, RestIf, whole_sees}
use Rattle.laws_ranges.proofs.MachineSteps.{purposes_on}
use Rattle.laws_ranges.proofs.AppendJob.{GoesBy, picked_serving, give_up_goes}
use Rattle.laws_ranges.proofs.OutGroup.{gives_up_job, give_up_out}
use Rattle.laws_ranges.proofs.OneStory.{quiet_seen_of}
use Rattle.laws_ranges.proofs.LogRules.{asked_both, asked_if}
use Rattle.laws_ranges.proofs.ServedRules.{unused_on, apart_on, asked_of_both}
use Rattle.laws_ranges.proofs.BothStreams.{apart_first, asked_of_metadata, asked_joined}
use Rattle.laws_ranges.proofs.GiveUp.{reading_plain, gets_plain}

module _ (generation : ℕ → ℕ) (range : ℕ) (w : StreamSystem) (i : ℕ) where
  -- a Trim says nothing of any extent of a stream
  phase_plain : (name : StreamName) (x : Stand) (sent : List Sent) (d : ServerContext) (r : RangeState) (phase : CheckpointPhase) → AreAsked generation range w i name x sent (phase_again d r phase)
  phase_plain name x sent d r (checkpoints.Trim before to_blob q) = (inl (λ u n s m. tt), tt)
  phase_plain name x sent d r phase = tt

  trim_plain : (name : StreamName) (x : Stand) (sent : List Sent) (d : ServerContext) (r : RangeState) (control : Option CheckpointState) → AreAsked generation range w i name x sent (trim_again d r control)
  trim_plain name x sent d r None = tt
  trim_plain name x sent d r (Some job) = phase_plain name x sent d r job.phase

  -- what is sent again besides the requests of both streams
  abbrev rest_again : ServerContext → RangeState → List Packet
  rest_again d r = gives_up_reading d r r.reading ++ (trim_again d r r.control ++ flat_map (λ g. (gives_up_get d r g).1) r.gets)

  rest_plain : (name : StreamName) (x : Stand) (sent : List Sent) (d : ServerContext) (r : RangeState) → AreAsked generation range w i name x sent (rest_again d r)
  rest_plain name x sent d r =
      asked_both generation range w i name x sent (gives_up_reading d r r.reading) (trim_again d r r.control ++ flat_map (λ g. (gives_up_get d r g).1) r.gets)
      (reading_plain generation range w i name x sent d r r.reading)
      (asked_both generation range w i name x sent (trim_again d r r.control) (flat_map (λ g. (gives_up_get d r g).1) r.gets) (trim_plain name x sent d r r.control)
      (gets_plain generation range w i name x sent d r r.gets))

  module _ (both : BothListed w range) (m l : Side) (d : ServerContext) (by : IsSentBy d d.count m.sent l.sent) (v : RangeView) where
    abbrev bare : RangeState → RangeState
    bare r = record r { load = record r.load { phase = phases.Confirmed } }

    -- what is done to both streams, and how the rest of the range stands
    abbrev WholeRule : RangeOutcome → Type 0
    WholeRule o = (rule : ServedRule generation range w i v m l d o []) × RestIf generation range w i rule.goes.metadata_sent rule.goes.log_sent o.after

    at_rest : (r : RangeState) → ServesBoth generation range w i m l r → RestStands generation range w i m.sent l.sent r → IsPastRows d r → WholeRule (give_up_all d (bare r))
    at_rest r b rest past = (
      record {
        goes = record {
          metadata_turns = one.0.list;
          log_turns = two.0.list;
          metadata_allowed = one.0.allowed;
          log_allowed = two.0.allowed;
          none = λ e. absurd cc;
          metadata_sent = one_sent;
          log_sent = two_sent;
          metadata_keeps = purposes_on (request (used d)) one.0.purpose m.sent (by.metadata (suc d.count) (omega arith));
          log_keeps = purposes_on (request d) two.0.purpose l.sent (by.log d.count (omega arith));
          rises = omega arith;
          metadata_adds = record { number = suc d.count; from = omega arith; purpose = one.0.purpose; is = refl };
          log_adds = record { number = d.count; from = omega arith; purpose = two.0.purpose; is = refl };
          sent_by = record {
            apart = apart;
            metadata = λ j le. unused_on (used d) (suc (suc d.count)) one.0.purpose m.sent (λ u low. by.metadata u (omega (arith, low))) (inl refl) j (omega (arith, le));
            log = λ j le. unused j (omega (arith, le));
          };
          then = record {
            phase = refl;
            metadata = record {
              range_is = b.metadata.range_is;
              under = b.metadata.under;
              client = one.0.then;
              record_is = gives_up_job (IsRecord r) (is_recording_in r.control ≡ false) (request (used d)) metadata b.metadata.record_is;
              stage = b.metadata.stage;
            };
            log = record {
              range_is = b.log.range_is;
              under = b.log.under;
              client = two.0.then;
              out = give_up_out r.out (request d) log b.log.out;
              stage = b.log.stage;
            };
          };
          asked = asked_joined generation range w i both (Some after) n k (option_to_list z.packet) (option_to_list a.packet ++ (option_to_list u.packet ++ rest_again d now))
              (asked_of_both generation range w i both (Some after) n k apart (option_to_list z.packet) (asked_if generation range w i (log_of range) k.stand two_sent z.packet two.0.asked))
              (asked_joined generation range w i both (Some after) n k (option_to_list a.packet) (option_to_list u.packet ++ rest_again d now)
              (asked_of_metadata generation range w i both (Some after) n k apart (option_to_list a.packet) (asked_if generation range w i (metadata_of range) n.stand one_sent a.packet one.0.asked))
              (asked_joined generation range w i both (Some after) n k (option_to_list u.packet) (rest_again d now) (rows_asked generation range w i both after n k u.packet three.asks)
              (asked_of_both generation range w i both (Some after) n k apart (rest_again d now) (rest_plain (log_of range) k.stand two_sent d now))));
        };
        metadata = quiet_seen_of generation i kinds.Metadata v m.stand one.0.list [] one.1 tt;
        log = quiet_seen_of generation i kinds.Log v l.stand two.0.list [] two.1 tt;
      },
      record {
        rows = three.stand;
        position = begins_on r.log z.after log_grows r.position rest.position;
        trims = trims_on r.log z.after log_grows r.control rest.trims;
      },
    )
      where
        now : RangeState
        now = bare r

        metadata : ClientState
        metadata = record r.metadata { pick = d.pick }

        log : ClientState
        log = record r.log { pick = d.pick }

        a : Outcome
        a = give_up_job metadata (request (used d)) r.metadata.job

        z : Outcome
        z = give_up_job log (request d) r.log.job

        rows : ClientState
        rows = record r.rows { pick = d.pick }

        u : Outcome
        u = give_up_job rows (request (used (used d))) r.rows.job

        after : RangeState
        after = record now { metadata = a.after; log = z.after; rows = u.after; reading = option_map moved_on r.reading; gets = map (λ g. (gives_up_get d now g).0) r.gets }

        grows : Grows log z.after
        grows = give_up_grows (request d) log r.log.job

        log_grows : Grows r.log z.after
        log_grows = record { base = grows.base; count = grows.count }

        metadata_serves : ServingIs generation (metadata_of range) w i m.stand m.sent metadata
        metadata_serves = picked_serving generation (metadata_of range) w i m.stand m.sent r.metadata d.pick b.metadata.client

        log_serves : ServingIs generation (log_of range) w i l.stand l.sent log
        log_serves = picked_serving generation (log_of range) w i l.stand l.sent r.log d.pick b.log.client

        one : GoesBy generation (metadata_of range) w i m.stand m.sent (request (used d)) (λ y more. ServingIs generation (metadata_of range) w i y more a.after) a.packet Quietly
        one = give_up_goes generation (metadata_of range) w i both.metadata m.sent (request (used d)) (by.metadata (suc d.count) (omega arith)) m.stand metadata metadata_serves.told r.metadata.job refl metadata_serves.job

        two : GoesBy generation (log_of range) w i l.stand l.sent (request d) (λ y more. ServingIs generation (log_of range) w i y more z.after) z.packet Quietly
        two = give_up_goes generation (log_of range) w i both.log l.sent (request d) (by.log d.count (omega arith)) l.stand log log_serves.told r.log.job refl log_serves.job

        one_sent : List Sent
        one_sent = sent_with (request (used d)) one.0.purpose m.sent

        two_sent : List Sent
        two_sent = sent_with (request d) two.0.purpose l.sent

        n : Side
        n = record { stand = after_turns generation i m.stand one.0.list; sent = one_sent }

        k : Side
        k = record { stand = after_turns generation i l.stand two.0.list; sent = two_sent }

        unused : AreUnused d (suc d.count) two_sent
        unused = unused_on d (suc d.count) two.0.purpose l.sent by.log (inl refl)

        metadata_unused : AreUnused d (suc (suc d.count)) one_sent
        metadata_unused j le = unused_on (used d) (suc (suc d.count)) one.0.purpose m.sent (λ y low. by.metadata y (omega (arith, low))) (inl refl) j (omega (arith, le))

        rows_left : RowsStand range w one_sent two_sent r.rows
        rows_left =
            rows_kept range w m.sent l.sent one_sent two_sent d (record { number = suc d.count; from = omega arith; purpose = one.0.purpose; is = refl })
            (record { number = d.count; from = omega arith; purpose = two.0.purpose; is = refl }) r.rows past rest.rows

        three : RowsDo range w one_sent two_sent u
        three =
            rows_give_up range w one_sent two_sent (request (used (used d))) (metadata_unused (suc (suc d.count)) (omega arith), unused (suc (suc d.count)) (omega arith)) rows
            (record { stream = rows_left.stream; listed = rows_left.listed; job = rows_left.job })

        apart : Apart one_sent two_sent
        apart = apart_first m.sent two_sent (request (used d)) one.0.purpose (apart_on m.sent l.sent (request d) two.0.purpose by.apart (by.metadata d.count (omega arith))) (unused (suc d.count) (omega arith))

    -- the jobs seal their extents, or ask again, and so does the Trim
    pub give_up_served : (r : RangeState) → ServesBoth generation range w i m l r → RestStands generation range w i m.sent l.sent r → IsPastRows d r → RuleSees generation i range w v m l d (give_up_all d r) []
    give_up_served r b rest past =
        let z : WholeRule (give_up_all d r) = subst (λ s. WholeRule (give_up_all d s)) whole (at_rest r b rest past) in
        whole_sees generation range w i m l d v (give_up_all d r) [] z.0 z.1
      where
        whole : bare r ≡ r
        whole = ap (λ p. record r { load = record r.load { phase = p } }) (sym b.phase)
