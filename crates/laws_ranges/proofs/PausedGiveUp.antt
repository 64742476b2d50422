-- What a range that is paused for its split does when it is told to give up: its metadata may have the record of the split out, its log
-- has nothing out, and its row data and its reads ask again.
use Rattle.std.proofs.Common.{◌≡◌, ℕ, suc, List, [], ◌++◌, Some, None, map, option_map, option_to_list, refl, sym, ap, subst, inl, arith}
use Rattle.client.specs.declared.job.Job.TheVariants as jobs
use Rattle.client.specs.declared.load.LoadPhase.TheVariants as loads
use Rattle.client.specs.Client.{ClientState, Outcome, give_up_job}
use Rattle.model_streams.specs.StreamSystem.{StreamSystem}
use Rattle.model_partition.specs.declared.server_context.ServerContext.{ServerContext}
use Rattle.model_partition.specs.declared.split_job.SplitJob.{SplitJob}
use Rattle.model_partition.specs.declared.split_job.SplitPhase.{SplitPhase}
use Rattle.model_partition.specs.declared.split_job.SplitPhase.TheVariants as phases
use Rattle.model_partition.specs.Range.{RangeState, request, used}
use Rattle.model_partition.specs.PlaceReads.{moved_on}
use Rattle.model_partition.specs.Getting.{gives_up_get}
use Rattle.model_partition.specs.Answering.{give_up_all}
use Rattle.model_histories.specs.StreamActions.{split_group}
use Rattle.laws_loads.specs.RangeView.{RangeView}
use Rattle.laws_stream_machine.specs.Refinement.{Sent}
use Rattle.laws_ranges.specs.Serves.{Side, after_turns, sent_with, ServingIs, RowsStand, IsPastRows, AreUnused, Apart, AskedOfBoth, metadata_of, log_of, BothListed, IsSentBy}
use Rattle.laws_ranges.specs.Quiet.{Quietly}
use Rattle.laws_ranges.specs.SplitJobs.{RestsIs, PausedIs, RecordsSplit, PhaseStands, FollowsSplit, AskedOfSplit, SplitSees}
use Rattle.laws_ranges.proofs.AppendJob.{GoesBy, picked_serving, give_up_goes}
use Rattle.laws_ranges.proofs.BothStreams.{apart_first, asked_of_metadata, asked_joined}
use Rattle.laws_ranges.proofs.GiveUp.{read_again, read_again_plain}
use Rattle.laws_ranges.proofs.LogRules.{asked_if}
use Rattle.laws_ranges.proofs.MachineSteps.{purposes_on}
use Rattle.laws_ranges.proofs.OutGroup.{gives_up_job}
use Rattle.laws_ranges.proofs.PausedRules.{IsPausedAt, KeptPaused, kept_stands, rests_repicked}
use Rattle.laws_ranges.proofs.RowData.{RowsDo, rows_kept, rows_give_up}
use Rattle.laws_ranges.proofs.RowsAsked.{rows_asked}
use Rattle.laws_ranges.proofs.SeenTurns.{quiet_seen}
use Rattle.laws_ranges.proofs.ServedRules.{unused_on, asked_of_both}
use Rattle.laws_ranges.proofs.SplitSteps.{asked_widely, still_split}

module _ (generation : ℕ → ℕ) (range : ℕ) (w : StreamSystem) (i : ℕ) (both : BothListed w range) (m l : Side) (d : ServerContext) (by : IsSentBy d d.count m.sent l.sent) (v : RangeView) (r : RangeState) (job : SplitJob)
    (f : FollowsSplit generation range w i m l r job) (p : PausedIs generation range w i m l r) (past : IsPastRows d r) where
  abbrev Sees : RangeState → Type 0
  Sees s = SplitSees generation range w i v m l d (record { range = (give_up_all d s).after; job = Some job; count = (give_up_all d s).count; packets = (give_up_all d s).packets }) []

  -- row data asks again
  abbrev rows : ClientState
  rows = record r.rows { pick = d.pick }

  abbrev rows_again : Outcome
  rows_again = give_up_job rows (request (used (used d))) r.rows.job

  -- ---- where the record of the split stands

  module _ (at : IsPausedAt job.phase) (metadata : RestsIs generation (metadata_of range) w i m.stand m.sent r.metadata) where
    abbrev bare : RangeState
    bare = record r { load = record r.load { phase = loads.Confirmed }; metadata = record r.metadata { job = jobs.Idle }; log = record r.log { job = jobs.Idle }; control = None }

    bare_is : bare ≡ r
    bare_is = λ j. record r { load = record r.load { phase = sym p.phase j }; metadata = record r.metadata { job = sym metadata.idle j }; log = record r.log { job = sym p.log.idle j }; control = sym p.control j }

    abbrev after : RangeState
    after = record bare {
      metadata = record bare.metadata { pick = d.pick };
      log = record bare.log { pick = d.pick };
      rows = rows_again.after;
      reading = option_map moved_on r.reading;
      gets = map (λ g. (gives_up_get d bare g).0) r.gets;
    }

    does : RowsDo range w m.sent l.sent rows_again
    does = rows_give_up range w m.sent l.sent (request (used (used d))) (by.metadata (suc (suc d.count)) (omega arith), by.log (suc (suc d.count)) (omega arith)) rows (record { stream = p.rows.stream; listed = p.rows.listed; job = p.rows.job })

    kept : KeptPaused range w m.sent l.sent r after
    kept = record {
      load = ap (λ z. record r.load { phase = z }) (sym p.phase);
      stage = refl;
      pause = refl;
      control = sym p.control;
      out = refl;
      metadata = (d.pick, ap (λ j. record r.metadata { pick = d.pick; job = j }) (sym metadata.idle));
      log = (d.pick, ap (λ j. record r.log { pick = d.pick; job = j }) (sym p.log.idle));
      said = refl;
      blob = refl;
      rows = does.stand;
    }

    asked : AskedOfSplit generation range w i (Some after) (Some job) m l (option_to_list rows_again.packet ++ read_again generation range w i d bare)
    asked =
        asked_widely generation range w i (Some after) (Some job) m l (option_to_list rows_again.packet ++ read_again generation range w i d bare)
        (asked_joined generation range w i both (Some after) m l (option_to_list rows_again.packet) (read_again generation range w i d bare) (rows_asked generation range w i both after m l rows_again.packet does.asks)
        (asked_of_both generation range w i both (Some after) m l by.apart (read_again generation range w i d bare) (read_again_plain generation range w i (log_of range) l.stand l.sent d bare)))

    pub give_up_recorded : Sees r
    give_up_recorded =
        subst Sees bare_is
        (still_split generation range w i both m l d by v (record { range = Some after; job = Some job; count = suc (suc (suc d.count)); packets = option_to_list rows_again.packet ++ read_again generation range w i d bare })
        (kept_stands generation range w i m l both d by v r job f at p after kept) (omega arith) asked)

  -- ---- while it is out

  module _ (phase : job.phase ≡ phases.Record) (b : RecordsSplit generation range w i m r job) where
    abbrev bare_log : RangeState
    bare_log = record r { load = record r.load { phase = loads.Confirmed }; log = record r.log { job = jobs.Idle }; control = None }

    bare_log_is : bare_log ≡ r
    bare_log_is = λ j. record r { load = record r.load { phase = sym p.phase j }; log = record r.log { job = sym p.log.idle j }; control = sym p.control j }

    abbrev metadata : ClientState
    metadata = record r.metadata { pick = d.pick }

    abbrev again : Outcome
    again = give_up_job metadata (request (used d)) r.metadata.job

    serves : ServingIs generation (metadata_of range) w i m.stand m.sent metadata
    serves = picked_serving generation (metadata_of range) w i m.stand m.sent r.metadata d.pick b.client

    one : GoesBy generation (metadata_of range) w i m.stand m.sent (request (used d)) (λ y more. ServingIs generation (metadata_of range) w i y more again.after) again.packet Quietly
    one = give_up_goes generation (metadata_of range) w i both.metadata m.sent (request (used d)) (by.metadata (suc d.count) (omega arith)) m.stand metadata serves.told r.metadata.job refl serves.job

    abbrev left : RangeState
    left = record bare_log {
      metadata = again.after;
      log = record bare_log.log { pick = d.pick };
      rows = rows_again.after;
      reading = option_map moved_on r.reading;
      gets = map (λ g. (gives_up_get d bare_log g).0) r.gets;
    }

    abbrev one_sent : List Sent
    one_sent = sent_with (request (used d)) one.0.purpose m.sent

    abbrev n : Side
    n = record { stand = after_turns generation i m.stand one.0.list; sent = one_sent }

    metadata_unused : AreUnused d (suc (suc d.count)) one_sent
    metadata_unused j le = unused_on (used d) (suc (suc d.count)) one.0.purpose m.sent (λ y low. by.metadata y (omega (arith, low))) (inl refl) j (omega (arith, le))

    rows_left : RowsStand range w one_sent l.sent r.rows
    rows_left =
        rows_kept range w m.sent l.sent one_sent l.sent d (record { number = suc d.count; from = omega arith; purpose = one.0.purpose; is = refl }) (record { number = d.count; from = omega arith; purpose = None; is = refl }) r.rows past p.rows

    does_left : RowsDo range w one_sent l.sent rows_again
    does_left =
        rows_give_up range w one_sent l.sent (request (used (used d))) (metadata_unused (suc (suc d.count)) (omega arith), by.log (suc (suc d.count)) (omega arith)) rows
        (record { stream = rows_left.stream; listed = rows_left.listed; job = rows_left.job })

    apart : Apart one_sent l.sent
    apart = apart_first m.sent l.sent (request (used d)) one.0.purpose by.apart (by.log (suc d.count) (omega arith))

    paused : PausedIs generation range w i n l left
    paused = record {
      range_is = p.range_is;
      under = p.under;
      stage = p.stage;
      phase = refl;
      pause = p.pause;
      control = refl;
      out = p.out;
      log = rests_repicked generation (log_of range) w i l.stand l.sent r.log left.log (d.pick, ap (λ j. record r.log { pick = d.pick; job = j }) (sym p.log.idle)) p.log;
      rows = does_left.stand;
      blob = p.blob;
    }

    recording : RecordsSplit generation range w i n left job
    recording = record { client = one.0.then; group = gives_up_job (λ z. z ≡ split_group job) (Unit {0}) (request (used d)) metadata b.group }

    follows : FollowsSplit generation range w i n l left job
    follows = record { range_is = f.range_is; under = f.under; stage = p.stage; others = f.others; stands = subst (λ z. PhaseStands generation range w i n l left job z) (sym phase) (paused, recording) }

    asked_left : AskedOfBoth generation range w i (Some left) n l (option_to_list again.packet ++ (option_to_list rows_again.packet ++ read_again generation range w i d bare_log))
    asked_left =
        asked_joined generation range w i both (Some left) n l (option_to_list again.packet) (option_to_list rows_again.packet ++ read_again generation range w i d bare_log)
        (asked_of_metadata generation range w i both (Some left) n l apart (option_to_list again.packet) (asked_if generation range w i (metadata_of range) n.stand one_sent again.packet one.0.asked))
        (asked_joined generation range w i both (Some left) n l (option_to_list rows_again.packet) (read_again generation range w i d bare_log) (rows_asked generation range w i both left n l rows_again.packet does_left.asks)
        (asked_of_both generation range w i both (Some left) n l apart (read_again generation range w i d bare_log) (read_again_plain generation range w i (log_of range) l.stand l.sent d bare_log)))

    pub give_up_recording : Sees r
    give_up_recording = subst Sees bare_log_is (record {
      step = record {
        goes = record {
          metadata_turns = one.0.list;
          log_turns = [];
          metadata_allowed = one.0.allowed;
          log_allowed = tt;
          none = λ e. absurd cc;
          metadata_sent = one_sent;
          log_sent = l.sent;
          metadata_keeps = purposes_on (request (used d)) one.0.purpose m.sent (by.metadata (suc d.count) (omega arith));
          log_keeps = λ q z e. e;
          rises = omega arith;
          metadata_adds = record { number = suc d.count; from = omega arith; purpose = one.0.purpose; is = refl };
          log_adds = record { number = d.count; from = omega arith; purpose = None; is = refl };
          sent_by = record { apart = apart; metadata = λ j le. metadata_unused j (omega (arith, le)); log = λ j le. by.log j (omega (arith, le)) };
          then = follows;
          asked = tt;
        };
        asked = asked_widely generation range w i (Some left) (Some job) n l (option_to_list again.packet ++ (option_to_list rows_again.packet ++ read_again generation range w i d bare_log)) asked_left;
      };
      seen = quiet_seen generation i v m.stand l.stand one.0.list [] [] one.1 tt tt;
    })

  -- whatever the split waits for
  pub give_up_paused : IsPausedAt job.phase → Sees r
  give_up_paused at = go job.phase refl
    where
      stands : (phase : SplitPhase) → job.phase ≡ phase → PhaseStands generation range w i m l r job phase
      stands phase e = subst (λ z. PhaseStands generation range w i m l r job z) e f.stands

      go : (phase : SplitPhase) → job.phase ≡ phase → Sees r
      go (phases.Begin q) e = absurd (subst IsPausedAt e at)
      go phases.Checkpoint e = absurd (subst IsPausedAt e at)
      go phases.Queue e = absurd (subst IsPausedAt e at)
      go phases.Record e = give_up_recording e (stands phases.Record e).1
      go (phases.Seal kind q) e = give_up_recorded at (stands (phases.Seal kind q) e).0.metadata
      go (phases.Build q) e = give_up_recorded at (stands (phases.Build q) e).0.metadata
      go (phases.Keys side c) e = give_up_recorded at (stands (phases.Keys side c) e).0.metadata
      go (phases.Complete q) e = give_up_recorded at (stands (phases.Complete q) e).0.metadata
