-- The record of a split stands: the last extents of the range's streams are sealed, its metadata first, and then the streams of the two
-- ranges are to be built. No step of these is a turn: the seals are requests of both streams, and what is told of them is known.
use Rattle.std.proofs.Common.{◌≡◌, ℕ, zero, suc, ◌+◌, ◌-◌, ◌<◌, true, List, [], ◌∷◌, length, Option, Some, None, Contains, is_some, refl, sym, ap, ◌∙◌, subst, inl, inr, arith, if◌then◌else◌}
use Rattle.wire.specs.declared.actor.ReqNo.{ReqNo}
use Rattle.wire.specs.declared.body.Body.TheVariants as bodies
use Rattle.wire.specs.declared.body.SealBody.TheVariants as seals
use Rattle.wire.specs.declared.streams.Modify.{Modify}
use Rattle.wire.specs.declared.streams.StreamExtent.{StreamExtent}
use Rattle.wire.specs.declared.streams.StreamKind.TheVariants as kinds
use Rattle.wire.specs.declared.streams.StreamName.{StreamName}
use Rattle.metadata.specs.Fold.{taken}
use Rattle.client.specs.Client.{ClientState, last_extent, sealed_last}
use Rattle.client.specs.Requests.{is_same}
use Rattle.model_streams.specs.Manager.{sealed_lengths}
use Rattle.model_streams.specs.StreamSystem.{StreamSystem}
use Rattle.model_partition.specs.declared.server_context.ServerContext.{ServerContext}
use Rattle.model_partition.specs.declared.split_job.SplitJob.{SplitJob}
use Rattle.model_partition.specs.declared.split_job.SplitPhase.TheVariants as phases
use Rattle.model_partition.specs.Range.{RangeState, request}
use Rattle.model_partition.specs.Splits.{SplitStep, with_phase, split_item, open_extent, open_last, all_kinds, or_kind, first_open, seal_packet, all_streams, build_packet, builds, seals_or_builds, record_stands}
use Rattle.model_histories.specs.ServerTurns as turns
use Rattle.model_histories.specs.StreamMachine as machine
use Rattle.laws_loads.specs.RangeView.{RangeView}
use Rattle.replica.specs.Groups.{Group}
use Rattle.laws_stream_machine.specs.Refinement.{Purpose, Sent, purpose_of, Seals, IsAt, IsAsked}
use Rattle.laws_ranges.specs.Serves.{Stand, Side, known, LastIs, sent_with, Goes, metadata_of, log_of, IsOfRows, IsAside, IsPastRows, BothListed, IsSentBy}
use Rattle.laws_ranges.specs.SplitJobs.{RestsIs, PausedIs, RecordedIs, FollowsSplit, AskedOfSplit, SplitSees}
use Rattle.laws_ranges.proofs.AppendJob.{told_after}
use Rattle.laws_ranges.proofs.ClientAsks.{some_last, at_last, seal_asked}
use Rattle.laws_ranges.proofs.MachineSteps.{request_same, newest}
use Rattle.laws_ranges.proofs.RowData.{got, rows_kept}
use Rattle.laws_ranges.proofs.SplitSteps.{still_split, metadata_split, log_split}
use Rattle.laws_ranges.proofs.ToldExtents.{sealed_length, sealed_end, told_sealed}

-- ---- clients

-- the last extent that a client knows, where it is not known to be sealed
pub open_last_is : (c : ClientState) (e : ℕ) → open_last c.extents ≡ Some e → LastIs c e (known c - 1)
open_last_is c e unsealed = by (last_extent c.extents) refl unsealed
  where
    by_length : (z : StreamExtent) → last_extent c.extents ≡ Some z → (l : Option ℕ) → z.length ≡ l → (if is_some l then None else Some z.extent) ≡ Some e → LastIs c e (known c - 1)
    by_length z is (Some l) sealed t = absurd cc
    by_length z is None unsealed t =
        let same : z.extent ≡ e = cc in
        let inside : 0 < length c.extents = some_last c z is in
        record {
          places = z.places;
          last = is ∙ ap (λ l. Some (record z { length = l })) unsealed ∙ ap (λ n. Some (record { extent = n; places = z.places; length = None })) same;
          index_is = omega (arith, inside);
        }

    by : (o : Option StreamExtent) → last_extent c.extents ≡ o → open_extent o ≡ Some e → LastIs c e (known c - 1)
    by None is t = absurd cc
    by (Some z) is t = by_length z is z.length refl t

-- where it is sealed now, none is open
pub closed_last : (c : ClientState) (e index l : ℕ) → LastIs c e index → open_last (sealed_last c.extents l) ≡ None
closed_last c e index l last = ap open_extent (sealed_end c e index l last)

module _ (generation : ℕ → ℕ) (name : StreamName) (w : StreamSystem) (i : ℕ) (x : Stand) (sent : List Sent) where
  -- one more request is sent
  pub rests_on : (q : ReqNo) (o : Option Purpose) → purpose_of sent q ≡ None → (c : ClientState) → RestsIs generation name w i x sent c → RestsIs generation name w i x (sent_with q o sent) c
  rests_on q o fresh c b = record { told = told_after generation name w i x [] sent q o fresh c b.told; idle = b.idle; live = b.live; stands = b.stands }

  -- its last extent is told to be sealed
  pub sealed_rests : (c : ClientState) (e index l : ℕ) → RestsIs generation name w i x sent c → (last : LastIs c e index) → (y : machine.SealedExtent Group) → machine.shut_at index x.state.core.shut ≡ Some y → y.end ≡ machine.base index + l →
      RestsIs generation name w i x sent (record c { extents = sealed_last c.extents l })
  sealed_rests c e index l b last y shut end = record {
    told = told_sealed generation name w i x sent c e index l b.told last y shut end;
    idle = b.idle;
    live = b.live;
    stands = b.stands ∙ ap (λ n. turns.Serving (c.base + n) b.live) (sym (sealed_length c e index l last));
  }

-- ---- streams that are built

-- so is each of a list
abbrev Each : (Modify → Type 0) → List Modify → Type 0
Each P [] = Unit {0}
Each P (m ∷ ms) = P m × Each P ms

each_of : (P : Modify → Type 0) (ms : List Modify) → Each P ms → (m : Modify) → Contains ms m → P m
each_of P [] all m (k, lt, e) = absurd (omega (arith, lt))
each_of P (n ∷ ms) all m (zero, lt, e) = subst P e all.0
each_of P (n ∷ ms) all m (suc k, lt, e) = each_of P ms all.1 m (k, omega (arith, lt), e)

module _ (generation : ℕ → ℕ) (range : ℕ) (w : StreamSystem) (i : ℕ) (both : BothListed w range) (m l : Side) (d : ServerContext) (by : IsSentBy d d.count m.sent l.sent) (v : RangeView)
    (job : SplitJob) (range_is : job.range ≡ range) (under : job.generation ≡ generation i) (low_other : job.low ≡ range → ⊥) (high_other : job.high ≡ range → ⊥) where
  abbrev Sees : SplitStep → Type 0
  Sees t = SplitSees generation range w i v m l d t []

  metadata_fresh : purpose_of m.sent (request d) ≡ None
  metadata_fresh = by.metadata d.count (omega arith)

  log_fresh : purpose_of l.sent (request d) ≡ None
  log_fresh = by.log d.count (omega arith)

  -- a stream of the range itself is none of them
  none_built : (name : StreamName) → name.range ≡ range → (k : Modify) → Contains (all_streams job) k → k.stream ≡ name → ⊥
  none_built name own k among same =
      each_of (λ z. z.stream.range ≡ range → ⊥) (all_streams job) (low_other, (low_other, (low_other, (low_other, (high_other, (high_other, (high_other, (high_other, tt)))))))) k among (ap (λ (n : StreamName). n.range) same ∙ own)

  module _ (r : RangeState) (b : RecordedIs generation range w i m l r) where
    pub build_asked : (q : ReqNo) → AskedOfSplit generation range w i (Some r) (Some (with_phase job (phases.Build q))) m l (build_packet d job q ∷ [])
    build_asked q = (
      (λ k among is. absurd (none_built (metadata_of range) refl k among is), λ k among is. absurd (none_built (log_of range) refl k among is), λ v is one two. absurd cc, inr refl),
      tt,
    )

    -- the streams are to be built
    pub builds_split : open_last r.metadata.extents ≡ None → Sees (builds d r job)
    builds_split closed =
        still_split generation range w i both m l d by v (builds d r job) (record { range_is = range_is; under = under; stage = b.paused.stage; others = (low_other, high_other); stands = (b, closed) }) (omega arith)
        (build_asked (request d))

    -- ---- seals

    -- a seal of row data says nothing of both streams
    rows_unseen : (name : StreamName) (s : machine.MachineState Group) (sent : List Sent) → ((k e : ℕ) → IsOfRows w range e → IsAt w name k e → sealed_lengths w.catalog e ≡ None → ⊥) → (e : ℕ) (q : ReqNo) → IsOfRows w range e →
        purpose_of sent q ≡ None → IsAsked generation name w s sent (bodies.Seal (seals.SealExtent e q))
    rows_unseen name s sent apart e q of none = record {
      made = both.rows_made e of;
      unsealed = λ k at. absurd (apart k e of at.0 at.1);
      known = λ p for. (let c : None ≡ Some p = sym none ∙ for in absurd cc);
    }

    pub rows_asked : (e : ℕ) (q : ReqNo) → open_last r.rows.extents ≡ Some e → IsAside m.sent l.sent q → AskedOfSplit generation range w i (Some r) (Some (with_phase job (phases.Seal kinds.RowData q))) m l (seal_packet d e q ∷ [])
    rows_asked e q unsealed aside =
        let last : LastIs r.rows e (known r.rows - 1) = open_last_is r.rows e unsealed in
        let of : IsOfRows w range e = b.paused.rows.listed _ (got r.rows.extents (length r.rows.extents - 1) (record { extent = e; places = last.places; length = None }) last.last) in (
          (
            rows_unseen (metadata_of range) m.stand.state m.sent both.rows_metadata e q of aside.0,
            rows_unseen (log_of range) l.stand.state l.sent both.rows_log e q of aside.1,
            λ z is one two. inr (of, (let same : q ≡ z = cc in subst (λ y. is_same q y ≡ true) same (request_same q))),
            inl tt,
          ),
          tt,
        )

    pub after_rows : open_last r.metadata.extents ≡ None → Sees (seals_or_builds d r job (first_open r (kinds.BlobData ∷ [])))
    after_rows closed = subst (λ o. Sees (seals_or_builds d r job (or_kind kinds.BlobData o None))) (sym b.paused.blob) (builds_split closed)

    pub after_log : open_last r.metadata.extents ≡ None → Sees (seals_or_builds d r job (first_open r (kinds.RowData ∷ kinds.BlobData ∷ [])))
    after_log closed = go (open_last r.rows.extents) refl
      where
        go : (o : Option ℕ) → open_last r.rows.extents ≡ o → Sees (seals_or_builds d r job (or_kind kinds.RowData o (first_open r (kinds.BlobData ∷ []))))
        go None e = after_rows closed
        go (Some e) unsealed =
            still_split generation range w i both m l d by v (seals_or_builds d r job (Some (kinds.RowData, e)))
            (record { range_is = range_is; under = under; stage = b.paused.stage; others = (low_other, high_other); stands = (b, ((metadata_fresh, log_fresh), closed)) }) (omega arith) (rows_asked e (request d) unsealed (metadata_fresh, log_fresh))

    module _ (past : IsPastRows d r) where
      pub after_metadata : open_last r.metadata.extents ≡ None → Sees (seals_or_builds d r job (first_open r (kinds.Log ∷ kinds.RowData ∷ kinds.BlobData ∷ [])))
      after_metadata closed = go (open_last r.log.extents) refl
        where
          go : (o : Option ℕ) → open_last r.log.extents ≡ o → Sees (seals_or_builds d r job (or_kind kinds.Log o (first_open r (kinds.RowData ∷ kinds.BlobData ∷ []))))
          go None e = after_log closed
          go (Some e) unsealed = log_split generation range w i both m l d by v r later (Some (seal_packet d e q)) (λ y more. Unit {0}) [] went left (λ z. z)
            where
              q : ReqNo
              q = request d

              later : SplitJob
              later = with_phase job (phases.Seal kinds.Log q)

              index : ℕ
              index = known r.log - 1

              last : LastIs r.log e index
              last = open_last_is r.log e unsealed

              p : Purpose
              p = Seals i index

              k : Side
              k = record { stand = l.stand; sent = record { request = q; purpose = p } ∷ l.sent }

              log_rests : RestsIs generation (log_of range) w i k.stand k.sent r.log
              log_rests = rests_on generation (log_of range) w i l.stand l.sent q (Some p) log_fresh r.log b.paused.log

              went : Goes generation (log_of range) w i l.stand l.sent q (λ y more. Unit {0}) (Some (seal_packet d e q))
              went = record {
                list = [];
                allowed = tt;
                purpose = Some p;
                then = tt;
                asked = seal_asked generation (log_of range) w i k.stand k.sent both.log r.log log_rests.told q e index (at_last generation (log_of range) w i k.stand k.sent r.log e index log_rests.told last) (newest q p l.sent);
              }

              paused : PausedIs generation range w i m k r
              paused = record {
                range_is = b.paused.range_is;
                under = b.paused.under;
                stage = b.paused.stage;
                phase = b.paused.phase;
                pause = b.paused.pause;
                control = b.paused.control;
                out = b.paused.out;
                log = log_rests;
                rows = rows_kept range w m.sent l.sent m.sent k.sent d (record { number = d.count; from = omega arith; purpose = None; is = refl }) (record { number = d.count; from = omega arith; purpose = Some p; is = refl }) r.rows past b.paused.rows;
                blob = b.paused.blob;
              }

              left : FollowsSplit generation range w i m k r later
              left = record {
                range_is = range_is;
                under = under;
                stage = b.paused.stage;
                others = (low_other, high_other);
                stands = (record { paused = paused; metadata = b.metadata }, (record { index = index; index_is = last.index_is; for = newest q p l.sent }, closed));
              }

      all_open : Sees (seals_or_builds d r job (first_open r all_kinds))
      all_open = go (open_last r.metadata.extents) refl
        where
          go : (o : Option ℕ) → open_last r.metadata.extents ≡ o → Sees (seals_or_builds d r job (or_kind kinds.Metadata o (first_open r (kinds.Log ∷ kinds.RowData ∷ kinds.BlobData ∷ []))))
          go None e = after_metadata e
          go (Some e) unsealed = metadata_split generation range w i both m l d by v r later (Some (seal_packet d e q)) (λ y more. Unit {0}) [] went left (λ z. z)
            where
              q : ReqNo
              q = request d

              later : SplitJob
              later = with_phase job (phases.Seal kinds.Metadata q)

              index : ℕ
              index = known r.metadata - 1

              last : LastIs r.metadata e index
              last = open_last_is r.metadata e unsealed

              p : Purpose
              p = Seals i index

              n : Side
              n = record { stand = m.stand; sent = record { request = q; purpose = p } ∷ m.sent }

              rests : RestsIs generation (metadata_of range) w i n.stand n.sent r.metadata
              rests = rests_on generation (metadata_of range) w i m.stand m.sent q (Some p) metadata_fresh r.metadata b.metadata

              went : Goes generation (metadata_of range) w i m.stand m.sent q (λ y more. Unit {0}) (Some (seal_packet d e q))
              went = record {
                list = [];
                allowed = tt;
                purpose = Some p;
                then = tt;
                asked = seal_asked generation (metadata_of range) w i n.stand n.sent both.metadata r.metadata rests.told q e index (at_last generation (metadata_of range) w i n.stand n.sent r.metadata e index rests.told last) (newest q p m.sent);
              }

              paused : PausedIs generation range w i n l r
              paused = record {
                range_is = b.paused.range_is;
                under = b.paused.under;
                stage = b.paused.stage;
                phase = b.paused.phase;
                pause = b.paused.pause;
                control = b.paused.control;
                out = b.paused.out;
                log = b.paused.log;
                rows = rows_kept range w m.sent l.sent n.sent l.sent d (record { number = d.count; from = omega arith; purpose = Some p; is = refl }) (record { number = d.count; from = omega arith; purpose = None; is = refl }) r.rows past b.paused.rows;
                blob = b.paused.blob;
              }

              left : FollowsSplit generation range w i n l r later
              left = record {
                range_is = range_is;
                under = under;
                stage = b.paused.stage;
                others = (low_other, high_other);
                stands = (record { paused = paused; metadata = rests }, record { index = index; index_is = last.index_is; for = newest q p m.sent });
              }

  -- what the record says does not matter to the streams
  pub record_stands_split : (r : RangeState) → RecordedIs generation range w i m l r → IsPastRows d r → Sees (record_stands d r job)
  record_stands_split r b past = all_open (record r { said = taken r.said (split_item job) }) said past
    where
      paused : PausedIs generation range w i m l (record r { said = taken r.said (split_item job) })
      paused = record {
        range_is = b.paused.range_is;
        under = b.paused.under;
        stage = b.paused.stage;
        phase = b.paused.phase;
        pause = b.paused.pause;
        control = b.paused.control;
        out = b.paused.out;
        log = b.paused.log;
        rows = b.paused.rows;
        blob = b.paused.blob;
      }

      said : RecordedIs generation range w i m l (record r { said = taken r.said (split_item job) })
      said = record { paused = paused; metadata = b.metadata }
