-- Once all of a stream is read, what was read is the copies that its load reads.
use Rattle.std.proofs.Common.{◌≡◌, ℕ, suc, ◌+◌, List, [], ◌∷◌, ◌++◌, length, map, true, false, Some, refl, sym, ap, ◌∙◌, subst, arith, append_assoc}
use Rattle.std.proofs.lemmas.List.{append-nil}
use Rattle.block_types.specs.Limits.{group_size}
use Rattle.wire.specs.declared.actor.ReqNo.{ReqNo}
use Rattle.wire.specs.declared.streams.StreamKind.TheVariants as kinds
use Rattle.wire.specs.declared.streams.StreamName.{StreamName}
use Rattle.replica.specs.Groups.{Group, size}
use Rattle.client.specs.declared.load.LoadPhase.{LoadPhase}
use Rattle.client.specs.declared.load.LoadPhase.TheVariants as phases
use Rattle.client.specs.Client.{ClientState}
use Rattle.metadata.specs.declared.record.Region.{Region}
use Rattle.model_streams.specs.StreamSystem.{StreamSystem}
use Rattle.model_partition.specs.declared.stage.Stage.{Stage}
use Rattle.model_partition.specs.declared.stage.Stage.TheVariants as stages
use Rattle.model_partition.specs.Range.{RangeState}
use Rattle.model_partition.specs.Loading.{open_region}
use Rattle.model_histories.specs.ServerRun.{place_number, placed_from, placed_reads, placed_behind}
use Rattle.model_histories.specs.Story.{Copy, Placed, placed}
use Rattle.model_histories.specs.StreamActions.{ExtentRead, first_start}
use Rattle.model_histories.specs.StreamMachine as machine
use Rattle.laws_loads.specs.RangeView.{RangeView}
use Rattle.laws_loads.proofs.Cells.{size_is}
use Rattle.laws_loads.proofs.Renaming.{mapped_both}
use Rattle.laws_stream_machine.proofs.ExtentSteps.{Sized}
use Rattle.laws_ranges.specs.Seen.{LoadIsRead}
use Rattle.laws_ranges.specs.Serves.{Side, metadata_of, log_of, LoadOf, OfSealed, OfStood, IsConfirming, StageIs, Follows}
use Rattle.laws_ranges.proofs.SealedCopies.{first_more}
use Rattle.laws_log_reads.specs.Reads.{groups_in, StandsOnce, IsSized, AllSealed, AllRead, WereSealed, LastStood, Nothing, AllShown, HasOneRegion, IsSole, first_index, HasReadAll, HasReadAt, HasRead}
use Rattle.laws_log_reads.proofs.SoleRegion.{reads_say, none_read, sole_open}
use Rattle.laws_log_reads.proofs.ReadPlaces.{AreBelow, below_both, below_more, chain_below, none_below, behind_below, behind_placed, sealed_below}

-- ---- copies

abbrev placed_at : ℕ → ℕ → Group → Placed Group
placed_at from to group = record { from = from; to = to; group = group }

-- the groups of copies that stand one behind the other stand where the copies do
placed_copies : (from end : ℕ) (copies : List (Copy Group)) → machine.Chain from copies end → Sized copies → placed_from from (groups_in copies) ≡ map placed copies
placed_copies from end [] c s = refl
placed_copies from end (x ∷ copies) c s =
    let start : x.from ≡ from = c.0 in
    let long : group_size x.group ≡ size x.group = size_is x.group in
    let stop : from + group_size x.group ≡ x.to = omega (arith, start, long, s.0) in
    let head : placed_at from (from + group_size x.group) x.group ≡ placed x =
    ap (λ k. placed_at k (from + group_size x.group) x.group) (sym start) ∙ ap (λ k. placed_at x.from k x.group) stop in
    ap (λ p. p ∷ placed_from (from + group_size x.group) (groups_in copies)) head
    ∙ ap (λ ps. placed x ∷ ps) (ap (λ k. placed_from k (groups_in copies)) stop ∙ placed_copies x.to end copies c.2 s.1)

-- ---- a stream

module _ (name : StreamName) (w : StreamSystem) (i : ℕ) (s : machine.MachineState Group) (sizes : IsSized i s) where
  -- what was read of an extent, where these copies stand in it
  extent_placed : (index end : ℕ) (x : ExtentRead) (copies : List (Copy Group)) → x.index ≡ index → x.groups ≡ groups_in copies → machine.Chain (machine.base index) copies end → Sized copies →
      placed_from (machine.base x.index) x.groups ≡ map placed copies
  extent_placed index end x copies here same chain sized =
      ap (λ k. placed_from (machine.base k) x.groups) here ∙ ap (λ gs. placed_from (machine.base index) gs) same ∙ placed_copies (machine.base index) end copies chain sized

  -- one more extent is read, where these copies stand
  one_longer : (from : ℕ) (reads older : List ExtentRead) (x : ExtentRead) →
      map placed (machine.all_shut (machine.first from s.core.shut)) ++ placed_reads older ≡ map placed (machine.all_shut (machine.first (from + length older) s.core.shut)) →
      reads ≡ x ∷ older → (copies : List (Copy Group)) →
      placed_from (machine.base x.index) x.groups ≡ map placed copies →
      map placed (machine.all_shut (machine.first from s.core.shut)) ++ placed_reads reads ≡ map placed (machine.all_shut (machine.first (from + length older) s.core.shut) ++ copies)
  one_longer from reads older x before_is is copies stands =
      let before : List (Placed Group) = map placed (machine.all_shut (machine.first from s.core.shut)) in
      ap (λ xs. before ++ placed_reads xs) is
      ∙ sym (append_assoc before (placed_reads older) (placed_from (machine.base x.index) x.groups))
      ∙ ap (λ ps. ps ++ placed_from (machine.base x.index) x.groups) before_is
      ∙ ap (λ ps. map placed (machine.all_shut (machine.first (from + length older) s.core.shut)) ++ ps) stands
      ∙ sym (mapped_both placed (machine.all_shut (machine.first (from + length older) s.core.shut)) copies)

  -- the extents below an index, and the sealed ones that were read from it on
  sealed_placed : (from : ℕ) (reads : List ExtentRead) → AllSealed name w i s from reads →
      map placed (machine.all_shut (machine.first from s.core.shut)) ++ placed_reads reads ≡ map placed (machine.all_shut (machine.first (from + length reads) s.core.shut))
  sealed_placed from [] b = append-nil (map placed (machine.all_shut (machine.first from s.core.shut)))
      ∙ ap (λ n. map placed (machine.all_shut (machine.first n s.core.shut))) (let same : from ≡ from + 0 = omega arith in same)
  sealed_placed from (x ∷ older) b =
      let stands = sizes.sealed (from + length older) b.0.shut b.0.is in
      one_longer from (x ∷ older) older x (sealed_placed from older b.1) refl b.0.shut.copies (extent_placed (from + length older) b.0.shut.end x b.0.shut.copies b.0.index_is b.0.same stands.0 stands.1)
      ∙ ap (λ copies. map placed copies) (sym (first_more s.core.shut (from + length older) b.0.shut b.0.is))
      ∙ ap (λ n. map placed (machine.all_shut (machine.first n s.core.shut))) (let same : suc (from + length older) ≡ from + suc (length older) = omega arith in same)

  -- what was read, behind copies that stand below the extent of an index, is what the load reads
  pub record IsBehind (from : ℕ) (reads : List ExtentRead) (read : List (Copy Group)) : Type 0 where
    pub before : List (Copy Group)
    pub below : AreBelow (machine.base from) before
    pub is : map placed before ++ placed_reads reads ≡ map placed read

  read_placed : (from : ℕ) (c : ClientState) (reads : List ExtentRead) (read : List (Copy Group)) → StandsOnce i s → AllRead name w i s from c reads → LoadOf i s c read → IsBehind from reads read
  read_placed from c reads read once (WereSealed inside live count sealed) (OfSealed told within is) =
      record {
        before = machine.all_shut (machine.first from s.core.shut);
        below = sealed_below i s sizes from (omega (arith, count, within));
        is = sealed_placed from reads sealed ∙ ap (λ n. map placed (machine.all_shut (machine.first n s.core.shut))) count ∙ ap (λ copies. map placed copies) (sym is);
      }
  read_placed from c reads read once (WereSealed inside live count sealed) (OfStood index found stood told number checked fact within is) =
      absurd (let z : false ≡ true = sym live ∙ told in cc)
  read_placed from c reads read once (LastStood inside x older found is live count checked sealed stood) (OfSealed told within what) =
      absurd (let z : true ≡ false = sym live ∙ told in cc)
  read_placed from c reads read once (LastStood inside x older found is live count checked sealed stood) (OfStood index far copies told number measured fact within what) =
      let both : Some far ≡ Some found = sym measured ∙ checked in
      let same : far ≡ found = cc in
      let at : ℕ = from + length older in
      let place : index ≡ at = omega (arith, number, count) in
      let here : machine.In (machine.Checked i at copies (machine.base at + found)) s.facts =
      subst (λ k. machine.In (machine.Checked i k copies (machine.base k + found)) s.facts) place
      (subst (λ k. machine.In (machine.Checked i index copies (machine.base index + k)) s.facts) same fact) in
      let stands = sizes.stood at (machine.base at + found) copies here in
      let groups : x.groups ≡ groups_in copies = stood.same ∙ once at (machine.base at + found) stood.stood copies stood.fact here in
      record {
        before = machine.all_shut (machine.first from s.core.shut);
        below = sealed_below i s sizes from (omega (arith, place, within));
        is = one_longer from reads older x (sealed_placed from older sealed) is copies (extent_placed at (machine.base at + found) x copies stood.index_is groups stands.0 stands.1)
            ∙ ap (λ n. map placed (machine.all_shut (machine.first n s.core.shut) ++ copies)) (sym place)
            ∙ ap (λ zs. map placed zs) (sym what);
      }
  read_placed from c reads read once (Nothing inside found live count checked none) (OfSealed told within is) =
      absurd (let z : true ≡ false = sym live ∙ told in cc)
  read_placed from c reads read once (Nothing inside found live count checked none) (OfStood index far copies told number measured fact within what) =
      let stands = sizes.stood index (machine.base index + far) copies fact in
      let place : suc index ≡ from = number ∙ sym count in
      let older : AreBelow (machine.base (suc index)) (machine.all_shut (machine.first index s.core.shut)) =
      below_more (machine.base index) (machine.base (suc index)) (machine.all_shut (machine.first index s.core.shut)) (omega arith) (sealed_below i s sizes index within) in
      let all : AreBelow (machine.base (suc index)) (machine.all_shut (machine.first index s.core.shut) ++ copies) =
      below_both (machine.base (suc index)) (machine.all_shut (machine.first index s.core.shut)) copies older
      (chain_below (machine.base index) copies (machine.base index + far) (machine.base (suc index)) stands.0 stands.2) in
      record {
        before = read;
        below = subst (λ n. AreBelow (machine.base n) read) place (subst (λ zs. AreBelow (machine.base (suc index)) zs) (sym what) all);
        is = ap (λ rs. map placed read ++ placed_reads rs) none ∙ append-nil (map placed read);
      }

-- ---- a range

module _ (generation : ℕ → ℕ) (range : ℕ) (w : StreamSystem) (i : ℕ) (m l : Side) (v : RangeView) (r : RangeState) (h : HasRead range w i m.stand.state l.stand.state v.history r) (f : Follows generation range w i m l r) where
  module _ (q : ReqNo) (phase : r.load.phase ≡ phases.Confirming q) where
    another : (p : LoadPhase) → r.load.phase ≡ p → (p ≡ phases.Confirming q → ⊥) → ⊥
    another p e other = other (sym e ∙ phase)

    is_confirming : (stage : Stage) → StageIs generation range w i m l r stage → stage ≡ stages.Confirming
    is_confirming stages.Opening b = absurd (another (phases.Opening b.q) b.phase (λ z. cc))
    is_confirming (stages.Checking kinds.Metadata) b = absurd (another phases.Opened b.phase (λ z. cc))
    is_confirming (stages.Checking kinds.Log) b = absurd (another phases.Opened b.phase (λ z. cc))
    is_confirming (stages.Checking kinds.RowData) b = absurd b
    is_confirming (stages.Checking kinds.BlobData) b = absurd b
    is_confirming (stages.Reading kinds.Metadata position) b = absurd (another phases.Opened b.phase (λ z. cc))
    is_confirming (stages.Reading kinds.Log position) b = absurd (another phases.Opened b.phase (λ z. cc))
    is_confirming (stages.Reading kinds.RowData position) b = absurd b
    is_confirming (stages.Reading kinds.BlobData position) b = absurd b
    is_confirming (stages.Indexing position) b = absurd (another phases.Opened b.phase (λ z. cc))
    is_confirming stages.Confirming b = refl
    is_confirming stages.Serving b = absurd (another phases.Confirmed b.phase (λ z. cc))

    -- a range that waits for its confirmation has read all
    all_read : HasReadAll range w i m.stand.state l.stand.state v.history r
    all_read = subst (λ z. HasReadAt range w i m.stand.state l.stand.state v.history r z) (is_confirming r.stage f.stage) h.at

    -- and each extent of the log that it has read is shown
    pub reads_observed : AllShown w (v.history.reads kinds.Log)
    reads_observed = all_read.shown

  -- and what it has read is what the confirmation is for
  pub load_is_read : (b : IsConfirming generation range w i m l r) → IsSized i m.stand.state → IsSized i l.stand.state → StandsOnce i m.stand.state → StandsOnce i l.stand.state →
      LoadIsRead generation i range w v m l r b
  load_is_read b m_sized l_sized m_once l_once =
      let a : HasReadAll range w i m.stand.state l.stand.state v.history r = all_read b.q b.phase in
      let start : ℕ = place_number (first_start r.said.regions) in
      let one = read_placed (metadata_of range) w i m.stand.state m_sized 0 r.metadata (v.history.reads kinds.Metadata) b.metadata.read m_once a.metadata b.metadata.of in
      let two = read_placed (log_of range) w i l.stand.state l_sized (first_index r) r.log (v.history.reads kinds.Log) b.log.read l_once a.log b.log.of in
      record {
        metadata = ap (λ xs. map placed xs ++ placed_reads (v.history.reads kinds.Metadata)) (sym (none_below one.before one.below)) ∙ one.is;
        log = sym (behind_below start two.before (placed_reads (v.history.reads kinds.Log)) (below_more (machine.base (first_index r)) start two.before (omega arith) two.below))
            ∙ ap (λ ps. placed_behind start ps) two.is
            ∙ behind_placed start b.log.read;
      }

  -- where all that stands in the metadata says checkpoints, and the log has no extent, the region that is left open begins at its first index
  pub begins_rightly : IsConfirming generation range w i m l r → HasOneRegion i m.stand.state → (region : Region) → open_region r.regions ≡ Some region → length r.log.extents ≡ 0 → region.start.index ≡ 0
  begins_rightly b all region is none =
      let a : HasReadAll range w i m.stand.state l.stand.state v.history r = all_read b.q b.phase in
      let base : r.log.base ≡ 0 = b.log.told.tells.ends none in
      let empty = none_read (log_of range) w i l.stand.state (first_index r) r.log (v.history.reads kinds.Log) (omega (arith, base, none)) a.log in
      let sole : IsSole r.said.regions = a.sole (reads_say (metadata_of range) w i m.stand.state all 0 r.metadata (v.history.reads kinds.Metadata) a.metadata) in
      sym (sole_open r.said.regions sole region (ap open_region (sym (a.unapplied empty.1)) ∙ is)) ∙ empty.0
