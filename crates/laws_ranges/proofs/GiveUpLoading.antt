-- What a range that is not served yet does when it is told to give up, as both streams see it.
use Rattle.std.proofs.Common.{◌≡◌, ℕ, suc, List, [], ◌++◌, map, flat_map, Option, Some, None, option_map, option_to_list, refl, sym, ap, ◌∙◌, subst, inl, arith, true, false}
use Rattle.wire.specs.declared.actor.ReqNo.{ReqNo}
use Rattle.wire.specs.declared.body.Body.{Body}
use Rattle.wire.specs.declared.body.Body.TheVariants as bodies
use Rattle.wire.specs.declared.body.StreamBody.TheVariants as streams
use Rattle.wire.specs.declared.packet.Packet.{Packet}
use Rattle.wire.specs.declared.streams.StreamKind.TheVariants as kinds
use Rattle.client.specs.declared.job.Job.{Job}
use Rattle.client.specs.declared.job.Job.TheVariants as jobs
use Rattle.client.specs.declared.load.LoadPhase.{LoadPhase}
use Rattle.client.specs.declared.load.LoadPhase.TheVariants as phases
use Rattle.client.specs.Client.{Outcome, give_up_job}
use Rattle.client.specs.Load.{again}
use Rattle.model_streams.specs.StreamSystem.{StreamSystem}
use Rattle.model_partition.specs.declared.server_context.ServerContext.{ServerContext}
use Rattle.model_partition.specs.declared.stage.Stage.{Stage}
use Rattle.model_partition.specs.declared.stage.Stage.TheVariants as stages
use Rattle.model_partition.specs.Range.{is_serving, RangeState, RangeOutcome, request, used}
use Rattle.model_partition.specs.PlaceReads.{moved_on}
use Rattle.model_partition.specs.Getting.{gives_up_get}
use Rattle.model_partition.specs.Answering.{gives_up_reading, give_up_all}
use Rattle.model_partition.specs.CheckpointStates.{CheckpointState}
use Rattle.model_partition.specs.Checkpoints.{trim_again}
use Rattle.laws_stream_machine.specs.Refinement.{Sent, purpose_of, Opens, Confirms, IsAsked}
use Rattle.laws_ranges.specs.Serves.{RowsStand, HasNoCheckpoint, Stand, Side, after_turns, sent_with, metadata_of, log_of, Goes, Apart, AreUnused, LoadingIs, UnreadIs, OpeningIs, ConfirmingIs, IsOpening, LoadsMetadata, LoadsLog, LoadsIndexes, IsConfirming, StageIs, Follows, BothListed, IsSentBy, IsKnown, BuildsNone, AskedOfBoth, RuleGoes}
use Rattle.laws_ranges.proofs.RowData.{rows_idle}
use Rattle.laws_ranges.proofs.MachineSteps.{purposes_on}
use Rattle.laws_ranges.proofs.AppendJob.{rests}
use Rattle.laws_ranges.proofs.LogRules.{asked_if}
use Rattle.laws_ranges.proofs.ServedRules.{unused_on, apart_on, asked_of_both}
use Rattle.laws_ranges.proofs.OpenAndConfirm.{open_asked, confirm_asked}
use Rattle.laws_ranges.proofs.GiveUp.{read_again, read_again_plain}
use Rattle.laws_ranges.proofs.LoadTurns.{give_up_loading}
use Rattle.laws_ranges.proofs.ServerPick.{picked_loading, picked_unread, picked_confirming}
use Rattle.laws_ranges.proofs.BothStreams.{apart_first, asked_of_metadata, asked_joined}

module _ (generation : ℕ → ℕ) (range : ℕ) (w : StreamSystem) (i : ℕ) (both : BothListed w range) (m l : Side) (d : ServerContext) (by : IsSentBy d d.count m.sent l.sent) (r : RangeState) where
  -- ---- steps of both clients, with a number for each

  abbrev gave_up : Outcome → Outcome → RangeState
  gave_up a b = record r { metadata = a.after; log = b.after; rows = record r.rows { pick = d.pick }; reading = option_map moved_on r.reading; gets = map (λ g. (gives_up_get d r g).0) r.gets }

  abbrev gave : Outcome → Outcome → Option Packet → RangeOutcome
  gave a b first =
      record {
        after = Some (gave_up a b);
        count = (used (used (used d))).count;
        packets = option_to_list first ++ (option_to_list b.packet ++ (option_to_list a.packet ++ read_again generation range w i d r));
        notes = [];
      }

  metadata_fresh : purpose_of m.sent (request (used d)) ≡ None
  metadata_fresh = by.metadata (suc d.count) (omega arith)

  log_fresh : purpose_of l.sent (request d) ≡ None
  log_fresh = by.log d.count (omega arith)

  module _ (One Two : Stand → List Sent → Type 0) (a b : Outcome) (first : Option Packet)
      (one : Goes generation (metadata_of range) w i m.stand m.sent (request (used d)) One a.packet) (two : Goes generation (log_of range) w i l.stand l.sent (request d) Two b.packet) where
    abbrev first_side : Side
    first_side = record { stand = after_turns generation i m.stand one.list; sent = sent_with (request (used d)) one.purpose m.sent }

    abbrev second_side : Side
    second_side = record { stand = after_turns generation i l.stand two.list; sent = sent_with (request d) two.purpose l.sent }

    gave_both : Follows generation range w i first_side second_side (gave_up a b) → AskedOfBoth generation range w i (Some (gave_up a b)) first_side second_side (option_to_list first) → RuleGoes generation range w i m l d (gave a b first)
    gave_both follows asked_first =
        let one_sent : List Sent = sent_with (request (used d)) one.purpose m.sent in
        let two_sent : List Sent = sent_with (request d) two.purpose l.sent in
        let n : Side = record { stand = after_turns generation i m.stand one.list; sent = one_sent } in
        let k : Side = record { stand = after_turns generation i l.stand two.list; sent = two_sent } in
        let again_asked : List Packet = read_again generation range w i d r in
        let unused : AreUnused d (suc d.count) two_sent = unused_on d (suc d.count) two.purpose l.sent by.log (inl refl) in
        let apart_two : Apart m.sent two_sent = apart_on m.sent l.sent (request d) two.purpose by.apart (by.metadata d.count (omega arith)) in
        let apart : Apart one_sent two_sent = apart_first m.sent two_sent (request (used d)) one.purpose apart_two (unused (suc d.count) (omega arith)) in
        record {
          metadata_turns = one.list;
          log_turns = two.list;
          metadata_allowed = one.allowed;
          log_allowed = two.allowed;
          none = λ e. absurd cc;
          metadata_sent = one_sent;
          log_sent = two_sent;
          metadata_keeps = purposes_on (request (used d)) one.purpose m.sent metadata_fresh;
          log_keeps = purposes_on (request d) two.purpose l.sent log_fresh;
          rises = omega arith;
          metadata_adds = record { number = suc d.count; from = omega arith; purpose = one.purpose; is = refl };
          log_adds = record { number = d.count; from = omega arith; purpose = two.purpose; is = refl };
          sent_by = record {
            apart = apart;
            metadata = λ j le. unused_on (used d) (suc (suc d.count)) one.purpose m.sent (λ u low. by.metadata u (omega (arith, low))) (inl refl) j (omega (arith, le));
            log = λ j le. unused j (omega (arith, le));
          };
          then = follows;
          asked = asked_joined generation range w i both (Some (gave_up a b)) n k (option_to_list first) (option_to_list b.packet ++ (option_to_list a.packet ++ again_asked)) asked_first
              (asked_joined generation range w i both (Some (gave_up a b)) n k (option_to_list b.packet) (option_to_list a.packet ++ again_asked)
              (asked_of_both generation range w i both (Some (gave_up a b)) n k apart (option_to_list b.packet) (asked_if generation range w i (log_of range) k.stand two_sent b.packet two.asked))
              (asked_joined generation range w i both (Some (gave_up a b)) n k (option_to_list a.packet) again_asked
              (asked_of_metadata generation range w i both (Some (gave_up a b)) n k apart (option_to_list a.packet) (asked_if generation range w i (metadata_of range) n.stand one_sent a.packet one.asked))
              (asked_of_both generation range w i both (Some (gave_up a b)) n k apart again_asked (read_again_plain generation range w i (log_of range) k.stand two_sent d r))));
        }

  -- ---- the jobs of both

  abbrev metadata_gives : Job → Outcome
  metadata_gives j = give_up_job (record r.metadata { pick = d.pick }) (request (used d)) j

  abbrev log_gives : Job → Outcome
  log_gives j = give_up_job (record r.log { pick = d.pick }) (request d) j

  abbrev rows_gives : Job → Outcome
  rows_gives g = give_up_job (record r.rows { pick = d.pick }) (request (used (used d))) g

  -- row data's client and the Trim among them
  abbrev gave_all : Outcome → Outcome → Outcome → Option CheckpointState → Option Packet → RangeOutcome
  gave_all a b z control first =
      record {
        after = Some (record (gave_up a b) { rows = z.after });
        count = (used (used (used d))).count;
        packets = option_to_list first
            ++ (option_to_list b.packet
            ++ (option_to_list a.packet
            ++ (option_to_list z.packet ++ (gives_up_reading d r r.reading ++ (trim_again d r control ++ flat_map (λ g. (gives_up_get d r g).1) r.gets)))));
        notes = [];
      }

  -- where the range stands
  abbrev GivesUp : Job → Job → LoadPhase → Job → Option CheckpointState → Type 0
  GivesUp j k p g control = RuleGoes generation range w i m l d (gave_all (metadata_gives j) (log_gives k) (rows_gives g) control (again r.load p))

  module _ (range_is : r.load.range ≡ range) (under : r.load.generation ≡ generation i) (calm : HasNoCheckpoint r) (rows : RowsStand range w m.sent l.sent r.rows) where
    gives_up : (j k : Job) (p : LoadPhase) → r.metadata.job ≡ j → r.log.job ≡ k → r.load.phase ≡ p → RuleGoes generation range w i m l d (gave (metadata_gives j) (log_gives k) (again r.load p)) →
        RuleGoes generation range w i m l d (give_up_all d r)
    gives_up j k p ej ek ep rule =
        subst (λ z. GivesUp z r.log.job r.load.phase r.rows.job r.control) (sym ej)
        (subst (λ z. GivesUp j z r.load.phase r.rows.job r.control) (sym ek)
        (subst (λ z. GivesUp j k z r.rows.job r.control) (sym ep)
        (subst (λ z. GivesUp j k p z r.control) (sym calm.0) (subst (λ z. GivesUp j k p jobs.Idle z) (sym calm.1) rule))))

    -- nothing is out to row data
    rows_left : (n k : Side) → RowsStand range w n.sent k.sent (record r.rows { pick = d.pick })
    rows_left n k = rows_idle range w m.sent l.sent n.sent k.sent (record r.rows { pick = d.pick }) calm.0 (record { stream = rows.stream; listed = rows.listed; job = rows.job })

    abbrev AskedTwice : Option RangeState → Side → Side → Body → Type 0
    AskedTwice after n k body = IsAsked generation (metadata_of range) w n.stand.state n.sent body × IsAsked generation (log_of range) w k.stand.state k.sent body × IsKnown generation range w i after n.sent k.sent body × BuildsNone body

    -- what is asked for the range and its generation
    of_load : (after : Option RangeState) (n k : Side) (about : ℕ → ℕ → Body) → AskedTwice after n k (about range (generation i)) → AskedTwice after n k (about r.load.range r.load.generation)
    of_load after n k about asked =
        subst (λ g. AskedTwice after n k (about r.load.range g)) (sym under) (subst (λ g. AskedTwice after n k (about g (generation i))) (sym range_is) asked)

    -- ---- the streams are to be opened

    opening_gives : IsOpening generation range w i m l r → r.stage ≡ stages.Opening → RuleGoes generation range w i m l d (give_up_all d r)
    opening_gives b stage =
        gives_up jobs.Idle jobs.Idle (phases.Opening b.q) b.metadata_idle b.log_idle b.phase
        (gave_both One Two a z (again r.load (phases.Opening b.q)) one two
        (record {
          range_is = range_is;
          under = under;
          calm = λ u. calm;
          rows = rows_left n k;
          stage = subst (λ s. StageIs generation range w i n k (gave_up a z) s) (sym stage)
              (record { q = b.q; phase = b.phase; metadata = one.then; log = two.then; metadata_idle = b.metadata_idle; log_idle = b.log_idle });
        })
        (of_load (Some (gave_up a z)) n k (λ g h. bodies.Stream (streams.OpenStreams g h b.q)) (open_asked generation (metadata_of range) w i n.stand n.sent b.q one.then, open_asked generation (log_of range) w i k.stand k.sent b.q two.then, λ v is none other. absurd (known v is none), tt), tt))
      where
        a : Outcome
        a = metadata_gives jobs.Idle

        z : Outcome
        z = log_gives jobs.Idle

        One : Stand → List Sent → Type 0
        One = λ y more. OpeningIs generation (metadata_of range) w i y more b.q

        Two : Stand → List Sent → Type 0
        Two = λ y more. OpeningIs generation (log_of range) w i y more b.q

        one : Goes generation (metadata_of range) w i m.stand m.sent (request (used d)) One None
        one = rests generation (metadata_of range) w i m.stand m.sent (request (used d)) One b.metadata

        two : Goes generation (log_of range) w i l.stand l.sent (request d) Two None
        two = rests generation (log_of range) w i l.stand l.sent (request d) Two b.log

        n : Side
        n = record { stand = after_turns generation i m.stand one.list; sent = sent_with (request (used d)) one.purpose m.sent }

        k : Side
        k = record { stand = after_turns generation i l.stand two.list; sent = sent_with (request d) two.purpose l.sent }

        known : (v : ReqNo) → Some b.q ≡ Some v → purpose_of n.sent v ≡ None → ⊥
        known v is none = let same : b.q ≡ v = cc in let t : Some (Opens i) ≡ None = sym one.then.for ∙ ap (purpose_of n.sent) same ∙ none in cc

    -- ---- the generation is to be confirmed

    confirming_gives : IsConfirming generation range w i m l r → r.stage ≡ stages.Confirming → RuleGoes generation range w i m l d (give_up_all d r)
    confirming_gives b stage =
        gives_up jobs.Idle jobs.Idle (phases.Confirming b.q) b.metadata.idle b.log.idle b.phase
        (gave_both One Two a z (again r.load (phases.Confirming b.q)) one two
        (record {
          range_is = range_is;
          under = under;
          calm = λ u. calm;
          rows = rows_left n k;
          stage = subst (λ s. StageIs generation range w i n k (gave_up a z) s) (sym stage) (record { q = b.q; phase = b.phase; metadata = one.then; log = two.then });
        }) (
          of_load (Some (gave_up a z)) n k (λ g h. bodies.Stream (streams.Confirm g h b.q))
              (confirm_asked generation (metadata_of range) w i n.stand n.sent a.after b.q one.then, confirm_asked generation (log_of range) w i k.stand k.sent z.after b.q two.then, λ v is none other. absurd (known v is none), tt),
          tt,
        ))
      where
        a : Outcome
        a = metadata_gives jobs.Idle

        z : Outcome
        z = log_gives jobs.Idle

        One : Stand → List Sent → Type 0
        One = λ y more. ConfirmingIs generation (metadata_of range) w i y more a.after b.q

        Two : Stand → List Sent → Type 0
        Two = λ y more. ConfirmingIs generation (log_of range) w i y more z.after b.q

        one : Goes generation (metadata_of range) w i m.stand m.sent (request (used d)) One None
        one = rests generation (metadata_of range) w i m.stand m.sent (request (used d)) One (picked_confirming generation (metadata_of range) w i m.stand m.sent r.metadata d.pick b.q b.metadata)

        two : Goes generation (log_of range) w i l.stand l.sent (request d) Two None
        two = rests generation (log_of range) w i l.stand l.sent (request d) Two (picked_confirming generation (log_of range) w i l.stand l.sent r.log d.pick b.q b.log)

        n : Side
        n = record { stand = after_turns generation i m.stand one.list; sent = sent_with (request (used d)) one.purpose m.sent }

        k : Side
        k = record { stand = after_turns generation i l.stand two.list; sent = sent_with (request d) two.purpose l.sent }

        known : (v : ReqNo) → Some b.q ≡ Some v → purpose_of n.sent v ≡ None → ⊥
        known v is none = let same : b.q ≡ v = cc in let t : Some (Confirms i one.then.read one.then.end) ≡ None = sym one.then.for ∙ ap (purpose_of n.sent) same ∙ none in cc

    -- ---- the metadata is checked or read

    metadata_gives_up : LoadsMetadata generation range w i m l r → ((n k : Side) (s : RangeState) → s.stage ≡ r.stage → LoadsMetadata generation range w i n k s → StageIs generation range w i n k s s.stage) →
        RuleGoes generation range w i m l d (give_up_all d r)
    metadata_gives_up b keeps =
        gives_up r.metadata.job jobs.Idle phases.Opened refl b.log.idle b.phase
        (gave_both One Two a z None one two
        (record {
          range_is = range_is;
          under = under;
          calm = λ u. calm;
          rows = rows_left n k;
          stage = keeps n k (gave_up a z) refl (record { phase = b.phase; metadata = one.then; log = two.then });
        })
        tt)
      where
        a : Outcome
        a = metadata_gives r.metadata.job

        z : Outcome
        z = log_gives jobs.Idle

        One : Stand → List Sent → Type 0
        One = λ y more. LoadingIs generation (metadata_of range) w i y more a.after

        Two : Stand → List Sent → Type 0
        Two = λ y more. UnreadIs generation (log_of range) w i y more z.after

        picked : LoadingIs generation (metadata_of range) w i m.stand m.sent (record r.metadata { pick = d.pick })
        picked = picked_loading generation (metadata_of range) w i m.stand m.sent r.metadata d.pick b.metadata

        one : Goes generation (metadata_of range) w i m.stand m.sent (request (used d)) One a.packet
        one = give_up_loading generation (metadata_of range) w i both.metadata m.sent (request (used d)) metadata_fresh m.stand (record r.metadata { pick = d.pick }) r.metadata.job refl picked.told picked.opened picked.job

        two : Goes generation (log_of range) w i l.stand l.sent (request d) Two None
        two = rests generation (log_of range) w i l.stand l.sent (request d) Two (picked_unread generation (log_of range) w i l.stand l.sent r.log d.pick b.log)

        n : Side
        n = record { stand = after_turns generation i m.stand one.list; sent = sent_with (request (used d)) one.purpose m.sent }

        k : Side
        k = record { stand = after_turns generation i l.stand two.list; sent = sent_with (request d) two.purpose l.sent }

    -- ---- the log is checked or read

    log_gives_up : LoadsLog generation range w i m l r → ((n k : Side) (s : RangeState) → s.stage ≡ r.stage → LoadsLog generation range w i n k s → StageIs generation range w i n k s s.stage) →
        RuleGoes generation range w i m l d (give_up_all d r)
    log_gives_up b keeps =
        gives_up jobs.Idle r.log.job phases.Opened b.metadata_idle refl b.phase
        (gave_both One Two a z None one two
        (record {
          range_is = range_is;
          under = under;
          calm = λ u. calm;
          rows = rows_left n k;
          stage = keeps n k (gave_up a z) refl (record { phase = b.phase; metadata = one.then; metadata_idle = b.metadata_idle; log = two.then });
        })
        tt)
      where
        a : Outcome
        a = metadata_gives jobs.Idle

        z : Outcome
        z = log_gives r.log.job

        One : Stand → List Sent → Type 0
        One = λ y more. LoadingIs generation (metadata_of range) w i y more a.after

        Two : Stand → List Sent → Type 0
        Two = λ y more. LoadingIs generation (log_of range) w i y more z.after

        picked : LoadingIs generation (log_of range) w i l.stand l.sent (record r.log { pick = d.pick })
        picked = picked_loading generation (log_of range) w i l.stand l.sent r.log d.pick b.log

        one : Goes generation (metadata_of range) w i m.stand m.sent (request (used d)) One None
        one = rests generation (metadata_of range) w i m.stand m.sent (request (used d)) One (picked_loading generation (metadata_of range) w i m.stand m.sent r.metadata d.pick b.metadata)

        two : Goes generation (log_of range) w i l.stand l.sent (request d) Two z.packet
        two = give_up_loading generation (log_of range) w i both.log l.sent (request d) log_fresh l.stand (record r.log { pick = d.pick }) r.log.job refl picked.told picked.opened picked.job

        n : Side
        n = record { stand = after_turns generation i m.stand one.list; sent = sent_with (request (used d)) one.purpose m.sent }

        k : Side
        k = record { stand = after_turns generation i l.stand two.list; sent = sent_with (request d) two.purpose l.sent }

    -- ---- an index is read

    indexes_give_up : (position : ℕ) → LoadsIndexes generation range w i m l r → r.stage ≡ stages.Indexing position → RuleGoes generation range w i m l d (give_up_all d r)
    indexes_give_up position b stage =
        gives_up jobs.Idle jobs.Idle phases.Opened b.metadata_idle b.log_idle b.phase
        (gave_both One Two a z None one two
        (record {
          range_is = range_is;
          under = under;
          calm = λ u. calm;
          rows = rows_left n k;
          stage = subst (λ s. StageIs generation range w i n k (gave_up a z) s) (sym stage)
              (record { phase = b.phase; metadata = one.then; metadata_idle = b.metadata_idle; log = two.then; log_idle = b.log_idle });
        })
        tt)
      where
        a : Outcome
        a = metadata_gives jobs.Idle

        z : Outcome
        z = log_gives jobs.Idle

        One : Stand → List Sent → Type 0
        One = λ y more. LoadingIs generation (metadata_of range) w i y more a.after

        Two : Stand → List Sent → Type 0
        Two = λ y more. LoadingIs generation (log_of range) w i y more z.after

        one : Goes generation (metadata_of range) w i m.stand m.sent (request (used d)) One None
        one = rests generation (metadata_of range) w i m.stand m.sent (request (used d)) One (picked_loading generation (metadata_of range) w i m.stand m.sent r.metadata d.pick b.metadata)

        two : Goes generation (log_of range) w i l.stand l.sent (request d) Two None
        two = rests generation (log_of range) w i l.stand l.sent (request d) Two (picked_loading generation (log_of range) w i l.stand l.sent r.log d.pick b.log)

        n : Side
        n = record { stand = after_turns generation i m.stand one.list; sent = sent_with (request (used d)) one.purpose m.sent }

        k : Side
        k = record { stand = after_turns generation i l.stand two.list; sent = sent_with (request d) two.purpose l.sent }

-- ---- whatever the stage

module _ (generation : ℕ → ℕ) (range : ℕ) (w : StreamSystem) (i : ℕ) (both : BothListed w range) (m l : Side) (d : ServerContext) (by : IsSentBy d d.count m.sent l.sent)
    (r : RangeState) (f : Follows generation range w i m l r) (unserved : is_serving r.stage ≡ false) where
  abbrev GaveUp : Type 0
  GaveUp = RuleGoes generation range w i m l d (give_up_all d r)

  metadata_stays : (e : Stage) → r.stage ≡ e → ((n k : Side) (s : RangeState) → LoadsMetadata generation range w i n k s → StageIs generation range w i n k s e) →
      (n k : Side) (s : RangeState) → s.stage ≡ r.stage → LoadsMetadata generation range w i n k s → StageIs generation range w i n k s s.stage
  metadata_stays e stage is n k s same b = subst (λ g. StageIs generation range w i n k s g) (sym (same ∙ stage)) (is n k s b)

  log_stays : (e : Stage) → r.stage ≡ e → ((n k : Side) (s : RangeState) → LoadsLog generation range w i n k s → StageIs generation range w i n k s e) →
      (n k : Side) (s : RangeState) → s.stage ≡ r.stage → LoadsLog generation range w i n k s → StageIs generation range w i n k s s.stage
  log_stays e stage is n k s same b = subst (λ g. StageIs generation range w i n k s g) (sym (same ∙ stage)) (is n k s b)

  gave_up_at : (s : Stage) → r.stage ≡ s → StageIs generation range w i m l r s → GaveUp
  gave_up_at stages.Opening e b = opening_gives generation range w i both m l d by r f.range_is f.under (f.calm (ap is_serving e)) f.rows b e
  gave_up_at (stages.Checking kinds.Metadata) e b =
      metadata_gives_up generation range w i both m l d by r f.range_is f.under (f.calm (ap is_serving e)) f.rows b (metadata_stays (stages.Checking kinds.Metadata) e (λ n k s z. z))
  gave_up_at (stages.Checking kinds.Log) e b =
      log_gives_up generation range w i both m l d by r f.range_is f.under (f.calm (ap is_serving e)) f.rows b (log_stays (stages.Checking kinds.Log) e (λ n k s z. z))
  gave_up_at (stages.Checking kinds.RowData) e b = absurd b
  gave_up_at (stages.Checking kinds.BlobData) e b = absurd b
  gave_up_at (stages.Reading kinds.Metadata position) e b =
      metadata_gives_up generation range w i both m l d by r f.range_is f.under (f.calm (ap is_serving e)) f.rows b (metadata_stays (stages.Reading kinds.Metadata position) e (λ n k s z. z))
  gave_up_at (stages.Reading kinds.Log position) e b =
      log_gives_up generation range w i both m l d by r f.range_is f.under (f.calm (ap is_serving e)) f.rows b (log_stays (stages.Reading kinds.Log position) e (λ n k s z. z))
  gave_up_at (stages.Reading kinds.RowData position) e b = absurd b
  gave_up_at (stages.Reading kinds.BlobData position) e b = absurd b
  gave_up_at (stages.Indexing position) e b = indexes_give_up generation range w i both m l d by r f.range_is f.under (f.calm (ap is_serving e)) f.rows position b e
  gave_up_at stages.Confirming e b = confirming_gives generation range w i both m l d by r f.range_is f.under (f.calm (ap is_serving e)) f.rows b e
  gave_up_at stages.Serving e b = absurd (let z : true ≡ false = sym (ap is_serving e) ∙ unserved in cc)

  pub give_up_all_both : RuleGoes generation range w i m l d (give_up_all d r)
  give_up_all_both = gave_up_at r.stage refl f.stage
