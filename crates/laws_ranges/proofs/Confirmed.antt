-- A range whose generation is confirmed is served, on both of its streams.
use Rattle.std.proofs.Common.{◌≡◌, length, ℕ, suc, List, [], ◌∷◌, ◌++◌, Bool, true, false, Option, Some, None, nat_lt, refl, sym, ap, ◌∙◌, subst, ◌⊎◌, inl, inr, arith, if◌then◌else◌}
use Rattle.wire.specs.declared.actor.ReqNo.{ReqNo}
use Rattle.wire.specs.declared.body.Body.TheVariants as bodies
use Rattle.wire.specs.declared.body.StreamBody.TheVariants as streams
use Rattle.wire.specs.declared.refusal.Refusal.TheVariants as refusals
use Rattle.wire.specs.declared.streams.StreamName.{StreamName}
use Rattle.replica.specs.Groups.{Group}
use Rattle.metadata.specs.declared.record.Region.{Region}
use Rattle.wire.specs.declared.streams.StreamExtent.{StreamExtent}
use Rattle.client.specs.declared.load.LoadPhase.TheVariants as phases
use Rattle.model_partition.specs.declared.stage.Stage.TheVariants as stages
use Rattle.laws_tables.specs.Runs.{start_number}
use Rattle.laws_ranges.proofs.RowData.{rows_idle}
use Rattle.client.specs.Requests.{is_same}
use Rattle.client.specs.Client.{ClientState, last_extent}
use Rattle.model_streams.specs.StreamSystem.{StreamSystem}
use Rattle.model_partition.specs.declared.server_context.ServerContext.{ServerContext}
use Rattle.model_partition.specs.declared.table_note.TableNote.TheVariants as notes
use Rattle.model_partition.specs.Range.{RangeState, RangeOutcome, request, dropped, waiting_out}
use Rattle.model_partition.specs.Loading.{log_end, serves, serves_from, serves_region, shown_table, has_position, open_region}
use Rattle.model_histories.specs.StreamMachine as machine
use Rattle.model_histories.specs.ServerTurns as turns
use Rattle.laws_stream_machine.specs.Refinement.{Sent, purpose_of, Means, StreamMeans}
use Rattle.laws_stream_machine.proofs.ServerRequests.{same_request}
use Rattle.laws_ranges.specs.Serves.{RowsStand, BeginsRightly, BeginsInLog, TrimsJob, JobIs, IsRecord, is_recording_in, HasNoCheckpoint, Stand, Side, after_turns, known, is_live, sent_with, metadata_of, log_of, OutIs, ServesBy, ServingIs, ConfirmingIs, Apart, BothListed, IsSentBy, IsConfirming, RuleGoes}
use Rattle.laws_ranges.specs.Quiet.{GoesQuietly, ShowsOnly}
use Rattle.laws_ranges.proofs.AppendJob.{GoesBy, told_here, told_after, at_phase_by}
use Rattle.laws_ranges.proofs.LogRules.{refused_plain}
use Rattle.laws_ranges.proofs.BothStreams.{both_step, still_quietly}

no_last : (xs : List StreamExtent) → length xs ≡ 0 → last_extent xs ≡ None
no_last [] e = refl
no_last (x ∷ xs) e = absurd (omega (arith, e))

module _ (generation : ℕ → ℕ) (range : ℕ) (w : StreamSystem) (i : ℕ) (both : BothListed w range) (m l : Side) (d : ServerContext) (by : IsSentBy d d.count m.sent l.sent) where
  -- a range that is dropped makes no turn
  pub dropped_quietly : (r : RangeState) → GoesQuietly generation range w i m l d (dropped d r)
  dropped_quietly r =
      still_quietly generation range w i both m l d by None (suc d.count) (dropped d r).packets tt (omega arith)
      (refused_plain generation range w i (log_of range) l.stand l.sent d (waiting_out r.out ++ r.queue) r.gets refusals.NotOwner)

  pub dropped_both : (r : RangeState) → RuleGoes generation range w i m l d (dropped d r)
  dropped_both r = (dropped_quietly r).goes

  -- a stream shows all that was read
  shows_goes : (start : ℕ) (name : StreamName) (x : Stand) (sent : List Sent) (q : ReqNo) → purpose_of sent q ≡ None → (c : ClientState) (r : ReqNo) (b : ConfirmingIs generation name w i x sent c r) → machine.In (machine.Confirmed i b.read b.end) x.state.facts →
      GoesBy generation name w i x sent q (λ y more. ServingIs generation name w i y more c × (more ≡ sent)) None (ShowsOnly start b.end b.read)
  shows_goes start name x sent q fresh c r b fact =
      let p : turns.Phase Group = turns.Confirming (known c) (is_live (last_extent c.extents)) in
      let ts : List (turns.Turn Group) = turns.ConfirmedIs start b.end b.read ∷ [] in
      let y : Stand = after_turns generation i (record { state = x.state; phase = p }) ts in
      at_phase_by generation name w i x p sent q _ None (ShowsOnly start b.end b.read) b.stands (
        record {
          list = ts;
          allowed = (fact, tt);
          purpose = None;
          then = (
            record {
              told = told_after generation name w i (record { state = x.state; phase = p }) ts sent q None fresh c (told_here generation name w i x p sent c b.told);
              job = subst (λ j. ServesBy generation name w i y sent c j) (sym b.idle) refl;
            },
            refl,
          );
          asked = tt;
        },
        refl,
      )

  module _ (r : RangeState) (b : IsConfirming generation range w i m l r) where
    -- all that was read of both streams is shown, and nothing else happens; or the range is dropped
    abbrev pub ShowsAll : RangeOutcome → Type 0
    ShowsAll o =
        (goes : RuleGoes generation range w i m l d o)
        × (((goes.metadata_turns ≡ turns.ConfirmedIs 0 b.metadata.end b.metadata.read ∷ []) × (goes.log_turns ≡ turns.ConfirmedIs (start_number r.said.regions) b.log.end b.log.read ∷ [])) ⊎ (o.after ≡ None))

    module _ (range_is : r.load.range ≡ range) (under : r.load.generation ≡ generation i) (calm : HasNoCheckpoint r) (rows : RowsStand range w m.sent l.sent r.rows) (begins : BeginsRightly r)
        (one_fact : machine.In (machine.Confirmed i b.metadata.read b.metadata.end) m.stand.state.facts) (two_fact : machine.In (machine.Confirmed i b.log.read b.log.end) l.stand.state.facts) where
      -- the position is one of the log's last extent, or that of the region where there is none
      begins_there : (region : Region) → open_region r.regions ≡ Some region → BeginsInLog r.log (log_end r.log (last_extent r.log.extents) region.start)
      begins_there region e none =
          subst (λ o. (log_end r.log o region.start).index ≡ 0) (sym (no_last r.log.extents none)) (begins region e none)

      region_shows : (region : Region) → open_region r.regions ≡ Some region → ShowsAll (serves_region d r region)
      unfolding both_step
      region_shows region e =
          let q : ReqNo = request d in
          let first = shows_goes 0 (metadata_of range) m.stand m.sent q (by.metadata d.count (omega arith)) r.metadata b.q b.metadata one_fact in
          let one = first.0 in
          let went = shows_goes (start_number r.said.regions) (log_of range) l.stand l.sent q (by.log d.count (omega arith)) r.log b.q b.log two_fact in
          let two = went.0 in
          let after : RangeState =
          record r { load = record r.load { phase = phases.Confirmed }; stage = stages.Serving; next = region.next; position = log_end r.log (last_extent r.log.extents) region.start; queue = []; out = None } in
          let goes : RuleGoes generation range w i m l d (serves_region d r region) =
          both_step generation range w i m l d by _ _ None None one two _ _ (notes.Loaded r.load.range r.load.generation (shown_table r) region.next ∷ [])
          (subst (λ z. Apart z (sent_with q two.purpose l.sent)) (sym one.then.1) (subst (λ z. Apart m.sent z) (sym two.then.1) by.apart))
          (record {
            range_is = range_is;
            under = under;
            calm = λ u. absurd (let z : true ≡ false = u in cc);
            rows = rows_idle range w m.sent l.sent _ _ r.rows calm.0 rows;
            stage = record {
              phase = refl;
              metadata = one.then.0;
              record_is = subst (λ j. JobIs (IsRecord after) (is_recording_in r.control ≡ false) j r.metadata.group) (sym b.metadata.idle) (ap is_recording_in calm.1);
              log = two.then.0;
              out = subst (λ j. OutIs j r.log.group None) (sym b.log.idle) refl;
              position = begins_there region e;
              trims = subst (λ z. TrimsJob r.log z) (sym calm.1) tt;
            };
          })
          tt in
          (goes, inl (first.1, went.1))

      from_shows : (o : Option Region) → open_region r.regions ≡ o → ShowsAll (serves_from d r o)
      from_shows None e = (dropped_both r, inr refl)
      from_shows (Some region) e = go (nat_lt 0 region.next)
        where
          go : (t : Bool) → ShowsAll (if t then serves_region d r region else dropped d r)
          go true = region_shows region e
          go false = (dropped_both r, inr refl)

      serves_all : ShowsAll (serves d r)
      serves_all = go (has_position r.log)
        where
          go : (t : Bool) → ShowsAll (if t then serves_from d r (open_region r.regions) else dropped d r)
          go true = from_shows (open_region r.regions) refl
          go false = (dropped_both r, inr refl)

    -- Confirmed, of the number that is waited for, as both streams mean it
    pub confirmed_all : r.load.range ≡ range → r.load.generation ≡ generation i → HasNoCheckpoint r → RowsStand range w m.sent l.sent r.rows → BeginsRightly r → (v : ReqNo) → is_same b.q v ≡ true →
        Means generation (metadata_of range) w m.stand.state m.sent (bodies.Stream (streams.Confirmed v)) →
        Means generation (log_of range) w l.stand.state l.sent (bodies.Stream (streams.Confirmed v)) → ShowsAll (serves d r)
    confirmed_all range_is under calm rows begins v same one two =
        let e : b.q ≡ v = same_request b.q v same in
        serves_all range_is under calm rows begins
        (subst (λ z. StreamMeans generation (metadata_of range) w m.stand.state m.sent z (streams.Confirmed v)) (ap (λ k. purpose_of m.sent k) (sym e) ∙ b.metadata.for) one)
        (subst (λ z. StreamMeans generation (log_of range) w l.stand.state l.sent z (streams.Confirmed v)) (ap (λ k. purpose_of l.sent k) (sym e) ∙ b.log.for) two)
