-- The index that a server gives to a new extent is the stream's own.
use Rattle.std.proofs.Common.{◌≡◌, ℕ, zero, suc, ◌+◌, ◌<◌, ◌≤◌, List, [], ◌∷◌, ◌++◌, length, Bool, true, false, Option, Some, None, refl, sym, ap, ◌∙◌, subst, inl, inr, ◌⊎◌, ⊎_elim, arith, if◌then◌else◌, ◌==◌}
use Rattle.std.proofs.lemmas.Bool.Decides.{nat_tests}
use Rattle.std.proofs.lemmas.Bool.{cases_lt}
use Rattle.laws_tables.specs.Fenced.{LogRun}
use Rattle.model_histories.specs.StreamMachine.{In, OpenExtent, StreamCore, one_if_live, count, all_shut, last_end, first, Fact, AsksOpen, Opened, AsksCheck, Checked, AsksConfirm, Confirmed, Serves, Begun, AsksAppend, Appended, AsksExtend, Extended, MachineState, MachineStep, TakesOpen, TakesExtend, TakesConfirm, TakesCheck, AnswersCheck, AnswersLate, TakesAppend, Keeps, AnswersAppend, Seals, Opens, Checks, ReadsSealed, ReadsChecked, Begins, Appends, Extends, TakesConfirmed, TakesAppended, with_live, new_copy, new_live, extended, May, extend_facts, next, after}
use Rattle.model_histories.specs.ServerTurns.{Phase, Idle, Opening, Checking, Sealing, Confirming, Serving, Sent, Closing, Growing, Turn, Assigned, AllSealed, LastOpen, Found, Fails, IsShut, ConfirmedIs, Forms, AppendedAt, ExtendedTo, IsTurn, becomes, does, forms, formed, all_next, Below, Above, Move, is_layer, after_all, AreMoves}
use Rattle.laws_tables.proofs.Extents.{Inv, followed, live_count}
use Rattle.laws_tables.proofs.Turns.{Good, all_good}

module _ (A : Type 0) (gen : ℕ → ℕ) where
  -- an Extend of this incarnation was sent with fewer extents than this
  abbrev known : Phase A → ℕ
  known Idle = 0
  known Opening = 0
  known (Checking e) = 0
  known (Sealing e) = 0
  known (Confirming n live) = 0
  known (Serving n live) = n
  known (Sent n append group) = n
  known (Closing n append group) = n
  known (Growing n append group) = suc n

  abbrev Early : MachineState A → ℕ → Type 0
  Early s i = (n : ℕ) → In (Opened i n) s.facts → gen i ≡ s.core.fence → count s.core ≡ n

  abbrev Holds : MachineState A → ℕ → ℕ → Type 0
  Holds s i n = ((k : ℕ) × In (Opened i k) s.facts) × (gen i ≡ s.core.fence → count s.core ≡ n)

  abbrev Counted : MachineState A → ℕ → Phase A → Type 0
  Counted s i Idle = Early s i
  Counted s i Opening = Early s i
  Counted s i (Checking e) = Early s i
  Counted s i (Sealing e) = Early s i
  Counted s i (Confirming n live) = Holds s i n
  Counted s i (Serving n live) = Holds s i n
  Counted s i (Sent n append group) = Holds s i n
  Counted s i (Closing n append group) = Holds s i n
  Counted s i (Growing n append group) =
      ((k : ℕ) × In (Opened i k) s.facts) × (gen i ≡ s.core.fence → (count s.core ≡ n) ⊎ (count s.core ≡ suc n)) × ((m : ℕ) → In (Extended i n m) s.facts → m ≡ suc n)

  record Fits (s : MachineState A) (i : ℕ) (p : Phase A) : Type 0 where
    pub asked : (n : ℕ) → In (AsksExtend i n) s.facts → n < known p
    pub told : (n m : ℕ) → In (Extended i n m) s.facts → (n < known p) × (m ≤ count s.core) × (suc n ≤ m)
    pub counted : Counted s i p

  -- nothing happens that this incarnation's count rests on
  record Quiet (i : ℕ) (s t : MachineState A) : Type 0 where
    pub fence : t.core.fence ≡ s.core.fence
    pub counts : count t.core ≡ count s.core
    pub asked : (n : ℕ) → In (AsksExtend i n) t.facts → In (AsksExtend i n) s.facts
    pub told : (n m : ℕ) → In (Extended i n m) t.facts → In (Extended i n m) s.facts
    pub opened : (n : ℕ) → In (Opened i n) t.facts → In (Opened i n) s.facts
    pub stays : (n : ℕ) → In (Opened i n) s.facts → In (Opened i n) t.facts

  early_quiet : (i : ℕ) (s t : MachineState A) → Quiet i s t → Early s i → Early t i
  early_quiet i s t q h = λ n m at. q.counts ∙ h n (q.opened n m) (at ∙ q.fence)

  holds_quiet : (i : ℕ) (s t : MachineState A) (n : ℕ) → Quiet i s t → Holds s i n → Holds t i n
  holds_quiet i s t n q h = ((h.0.0, q.stays h.0.0 h.0.1), λ at. q.counts ∙ h.1 (at ∙ q.fence))

  counted_quiet : (i : ℕ) (s t : MachineState A) (p : Phase A) → Quiet i s t → Counted s i p → Counted t i p
  counted_quiet i s t Idle q h = early_quiet i s t q h
  counted_quiet i s t Opening q h = early_quiet i s t q h
  counted_quiet i s t (Checking e) q h = early_quiet i s t q h
  counted_quiet i s t (Sealing e) q h = early_quiet i s t q h
  counted_quiet i s t (Confirming n live) q h = holds_quiet i s t n q h
  counted_quiet i s t (Serving n live) q h = holds_quiet i s t n q h
  counted_quiet i s t (Sent n append group) q h = holds_quiet i s t n q h
  counted_quiet i s t (Closing n append group) q h = holds_quiet i s t n q h
  counted_quiet i s t (Growing n append group) q h = (
    (h.0.0, q.stays h.0.0 h.0.1),
    (λ at. ⊎_elim {C = (count t.core ≡ n) ⊎ (count t.core ≡ suc n)} (λ e. inl (q.counts ∙ e)) (λ e. inr (q.counts ∙ e)) (h.1 (at ∙ q.fence))),
    λ m there. h.2 m (q.told n m there),
  )

  fits_quiet : (i : ℕ) (s t : MachineState A) (p : Phase A) → Quiet i s t → Fits s i p → Fits t i p
  fits_quiet i s t p q f = record {
    asked = λ n m. f.asked n (q.asked n m);
    told = λ n m there. let r : (n < known p) × (m ≤ count s.core) × (suc n ≤ m) = f.told n m (q.told n m there) in let same : count t.core ≡ count s.core = q.counts in let le : m ≤ count s.core = r.1 in (r.0, omega arith, r.2);
    counted = counted_quiet i s t p q f.counted;
  }

  abbrev IsQuiet : ℕ → MachineStep A → Type 0
  IsQuiet j (TakesOpen i) = ⊥
  IsQuiet j (TakesExtend i n) = ⊥
  IsQuiet j (Extends i n) = j ≡ i → ⊥
  IsQuiet j _ = Unit {0}

  abbrev NeedsLive : MachineState A → MachineStep A → Type 0
  NeedsLive s (TakesCheck i v) = s.core.live ≡ Some v
  NeedsLive s (TakesAppend i append group to v) = s.core.live ≡ Some v
  NeedsLive s (Keeps c rest v) = s.core.live ≡ Some v
  NeedsLive s (Seals v) = s.core.live ≡ Some v
  NeedsLive s _ = Unit {0}

  needs : (s : MachineState A) (x : MachineStep A) → May A gen s x → NeedsLive s x
  needs s (TakesCheck i v) may = may.1
  needs s (TakesAppend i append group to v) may = may.1
  needs s (Keeps c rest v) may = may.0
  needs s (Seals v) may = may
  needs s x may = tt

  quiet_step : (j : ℕ) (s : MachineState A) (x : MachineStep A) → IsQuiet j x → NeedsLive s x → Quiet j s (next A gen s x)
  quiet_step j s (TakesOpen i) q may = absurd q
  quiet_step j s (TakesExtend i n) q may = absurd q
  quiet_step j s (Extends i n) q may = record {
    fence = refl;
    counts = refl;
    asked = λ k m. ⊎_elim {C = In (AsksExtend j k) s.facts} (λ (e : AsksExtend j k ≡ AsksExtend i n). absurd (q (cc))) (λ z. z) m;
    told = λ k l m. ⊎_elim {C = In (Extended j k l) s.facts} (λ (e : Extended j k l ≡ AsksExtend i n). absurd (cc)) (λ z. z) m;
    opened = λ k m. ⊎_elim {C = In (Opened j k) s.facts} (λ (e : Opened j k ≡ AsksExtend i n). absurd (cc)) (λ z. z) m;
    stays = λ k m. inr m;
  }
  quiet_step j s (TakesConfirm i read end) q may = record {
    fence = refl;
    counts = refl;
    asked = λ k m. ⊎_elim {C = In (AsksExtend j k) s.facts} (λ (e' : AsksExtend j k ≡ Confirmed i read end). absurd (cc)) (λ z. z) m;
    told = λ k l m. ⊎_elim {C = In (Extended j k l) s.facts} (λ (e' : Extended j k l ≡ Confirmed i read end). absurd (cc)) (λ z. z) m;
    opened = λ k m. ⊎_elim {C = In (Opened j k) s.facts} (λ (e' : Opened j k ≡ Confirmed i read end). absurd (cc)) (λ z. z) m;
    stays = λ k m. inr m;
  }
  quiet_step j s (AnswersCheck i v) q may = record {
    fence = refl;
    counts = refl;
    asked = λ k m. ⊎_elim {C = In (AsksExtend j k) s.facts} (λ (e' : AsksExtend j k ≡ Checked i (length s.core.shut) v.kept v.sure). absurd (cc)) (λ z. z) m;
    told = λ k l m. ⊎_elim {C = In (Extended j k l) s.facts} (λ (e' : Extended j k l ≡ Checked i (length s.core.shut) v.kept v.sure). absurd (cc)) (λ z. z) m;
    opened = λ k m. ⊎_elim {C = In (Opened j k) s.facts} (λ (e' : Opened j k ≡ Checked i (length s.core.shut) v.kept v.sure). absurd (cc)) (λ z. z) m;
    stays = λ k m. inr m;
  }
  quiet_step j s (AnswersLate i e x) q may = record {
    fence = refl;
    counts = refl;
    asked = λ k m. ⊎_elim {C = In (AsksExtend j k) s.facts} (λ (e' : AsksExtend j k ≡ Checked i e x.copies x.end). absurd (cc)) (λ z. z) m;
    told = λ k l m. ⊎_elim {C = In (Extended j k l) s.facts} (λ (e' : Extended j k l ≡ Checked i e x.copies x.end). absurd (cc)) (λ z. z) m;
    opened = λ k m. ⊎_elim {C = In (Opened j k) s.facts} (λ (e' : Opened j k ≡ Checked i e x.copies x.end). absurd (cc)) (λ z. z) m;
    stays = λ k m. inr m;
  }
  quiet_step j s (AnswersAppend i append from to group) q may = record {
    fence = refl;
    counts = refl;
    asked = λ k m. ⊎_elim {C = In (AsksExtend j k) s.facts} (λ (e' : AsksExtend j k ≡ Appended i append from to). absurd (cc)) (λ z. z) m;
    told = λ k l m. ⊎_elim {C = In (Extended j k l) s.facts} (λ (e' : Extended j k l ≡ Appended i append from to). absurd (cc)) (λ z. z) m;
    opened = λ k m. ⊎_elim {C = In (Opened j k) s.facts} (λ (e' : Opened j k ≡ Appended i append from to). absurd (cc)) (λ z. z) m;
    stays = λ k m. inr m;
  }
  quiet_step j s (Opens i) q may = record {
    fence = refl;
    counts = refl;
    asked = λ k m. ⊎_elim {C = In (AsksExtend j k) s.facts} (λ (e' : AsksExtend j k ≡ AsksOpen i). absurd (cc)) (λ z. z) m;
    told = λ k l m. ⊎_elim {C = In (Extended j k l) s.facts} (λ (e' : Extended j k l ≡ AsksOpen i). absurd (cc)) (λ z. z) m;
    opened = λ k m. ⊎_elim {C = In (Opened j k) s.facts} (λ (e' : Opened j k ≡ AsksOpen i). absurd (cc)) (λ z. z) m;
    stays = λ k m. inr m;
  }
  quiet_step j s (Checks i e) q may = record {
    fence = refl;
    counts = refl;
    asked = λ k m. ⊎_elim {C = In (AsksExtend j k) s.facts} (λ (e' : AsksExtend j k ≡ AsksCheck i e). absurd (cc)) (λ z. z) m;
    told = λ k l m. ⊎_elim {C = In (Extended j k l) s.facts} (λ (e' : Extended j k l ≡ AsksCheck i e). absurd (cc)) (λ z. z) m;
    opened = λ k m. ⊎_elim {C = In (Opened j k) s.facts} (λ (e' : Opened j k ≡ AsksCheck i e). absurd (cc)) (λ z. z) m;
    stays = λ k m. inr m;
  }
  quiet_step j s (ReadsSealed i n) q may = record {
    fence = refl;
    counts = refl;
    asked = λ k m. ⊎_elim {C = In (AsksExtend j k) s.facts} (λ (e' : AsksExtend j k ≡ AsksConfirm i (all_shut (first n s.core.shut)) (last_end (first n s.core.shut))). absurd (cc)) (λ z. z) m;
    told = λ k l m. ⊎_elim {C = In (Extended j k l) s.facts} (λ (e' : Extended j k l ≡ AsksConfirm i (all_shut (first n s.core.shut)) (last_end (first n s.core.shut))). absurd (cc)) (λ z. z) m;
    opened = λ k m. ⊎_elim {C = In (Opened j k) s.facts} (λ (e' : Opened j k ≡ AsksConfirm i (all_shut (first n s.core.shut)) (last_end (first n s.core.shut))). absurd (cc)) (λ z. z) m;
    stays = λ k m. inr m;
  }
  quiet_step j s (ReadsChecked i e stood end) q may = record {
    fence = refl;
    counts = refl;
    asked = λ k m. ⊎_elim {C = In (AsksExtend j k) s.facts} (λ (e' : AsksExtend j k ≡ AsksConfirm i (all_shut (first e s.core.shut) ++ stood) end). absurd (cc)) (λ z. z) m;
    told = λ k l m. ⊎_elim {C = In (Extended j k l) s.facts} (λ (e' : Extended j k l ≡ AsksConfirm i (all_shut (first e s.core.shut) ++ stood) end). absurd (cc)) (λ z. z) m;
    opened = λ k m. ⊎_elim {C = In (Opened j k) s.facts} (λ (e' : Opened j k ≡ AsksConfirm i (all_shut (first e s.core.shut) ++ stood) end). absurd (cc)) (λ z. z) m;
    stays = λ k m. inr m;
  }
  quiet_step j s (Begins i group) q may = record {
    fence = refl;
    counts = refl;
    asked = λ k m. ⊎_elim {C = In (AsksExtend j k) s.facts} (λ (e' : AsksExtend j k ≡ Begun i (length s.story) group). absurd (cc)) (λ z. z) m;
    told = λ k l m. ⊎_elim {C = In (Extended j k l) s.facts} (λ (e' : Extended j k l ≡ Begun i (length s.story) group). absurd (cc)) (λ z. z) m;
    opened = λ k m. ⊎_elim {C = In (Opened j k) s.facts} (λ (e' : Opened j k ≡ Begun i (length s.story) group). absurd (cc)) (λ z. z) m;
    stays = λ k m. inr m;
  }
  quiet_step j s (Appends i e append group) q may = record {
    fence = refl;
    counts = refl;
    asked = λ k m. ⊎_elim {C = In (AsksExtend j k) s.facts} (λ (e' : AsksExtend j k ≡ AsksAppend i e append group). absurd (cc)) (λ z. z) m;
    told = λ k l m. ⊎_elim {C = In (Extended j k l) s.facts} (λ (e' : Extended j k l ≡ AsksAppend i e append group). absurd (cc)) (λ z. z) m;
    opened = λ k m. ⊎_elim {C = In (Opened j k) s.facts} (λ (e' : Opened j k ≡ AsksAppend i e append group). absurd (cc)) (λ z. z) m;
    stays = λ k m. inr m;
  }
  quiet_step j s (TakesConfirmed i start end read) q may = record {
    fence = refl;
    counts = refl;
    asked = λ k m. ⊎_elim {C = In (AsksExtend j k) s.facts} (λ (e' : AsksExtend j k ≡ Serves i). absurd (cc)) (λ z. z) m;
    told = λ k l m. ⊎_elim {C = In (Extended j k l) s.facts} (λ (e' : Extended j k l ≡ Serves i). absurd (cc)) (λ z. z) m;
    opened = λ k m. ⊎_elim {C = In (Opened j k) s.facts} (λ (e' : Opened j k ≡ Serves i). absurd (cc)) (λ z. z) m;
    stays = λ k m. inr m;
  }
  quiet_step j s (TakesAppended i append from to) q may = record { fence = refl; counts = refl; asked = λ k m. m; told = λ k l m. m; opened = λ k m. m; stays = λ k m. m }
  quiet_step j s (TakesCheck i v) q may = record { fence = refl; counts = live_count A gen s.core v (record v { fence = gen i }) may; asked = λ k m. m; told = λ k l m. m; opened = λ k m. m; stays = λ k m. m }
  quiet_step j s (TakesAppend i append group to v) q may =
      record { fence = refl; counts = live_count A gen s.core v (record v { loose = v.loose ++ new_copy A gen v to append group ∷ []; end = to }) may; asked = λ k m. m; told = λ k l m. m; opened = λ k m. m; stays = λ k m. m }
  quiet_step j s (Keeps c rest v) q may =
      record { fence = refl; counts = live_count A gen s.core v (record v { kept = v.kept ++ c ∷ []; sure = c.to; loose = rest }) may; asked = λ k m. m; told = λ k l m. m; opened = λ k m. m; stays = λ k m. m }
  quiet_step j s (Seals v) q may =
      let one : count s.core ≡ length s.core.shut + 1 = ap (λ o. length s.core.shut + one_if_live o) may in
      record { fence = refl; counts = omega arith; asked = λ k m. m; told = λ k l m. m; opened = λ k m. m; stays = λ k m. m }

  -- ---------------------------------------------------------------- OpenStreams

  is_low : (s : MachineState A) (run : LogRun A) → Inv A gen s run → (i n : ℕ) → In (Opened i n) s.facts → gen i ≤ s.core.fence
  is_low s run inv i n m = (inv.facts (Opened i n) m).1

  open_fits : (s : MachineState A) (j i : ℕ) (p : Phase A) → ((k n : ℕ) → In (Opened k n) s.facts → gen k ≤ s.core.fence) → s.core.fence < gen j → Fits s i p → Fits (next A gen s (TakesOpen j)) i p
  open_fits s j i p low lt f = record {
    asked = λ n m. f.asked n (⊎_elim {C = In (AsksExtend i n) s.facts} (λ (e : AsksExtend i n ≡ Opened j (count s.core)). absurd (cc)) (λ z. z) m);
    told = λ n k m. f.told n k (old_told n k m);
    counted = go p f.counted;
  }
    where
      old_told : (n k : ℕ) → In (Extended i n k) (Opened j (count s.core) ∷ s.facts) → In (Extended i n k) s.facts
      old_told n k m = ⊎_elim {C = In (Extended i n k) s.facts} (λ (e : Extended i n k ≡ Opened j (count s.core)). absurd (cc)) (λ z. z) m

      never : (k : ℕ) → In (Opened i k) s.facts → gen i ≡ gen j → ⊥
      never k m at = let a : gen i ≤ s.core.fence = low i k m in let b : s.core.fence < gen j = lt in omega arith

      early : Early (next A gen s (TakesOpen j)) i
      early = λ n m at. ⊎_elim {C = count s.core ≡ n} (λ (e : Opened i n ≡ Opened j (count s.core)). let same : n ≡ count s.core = cc in sym same) (λ m'. absurd (never n m' at)) m

      holds : (n : ℕ) → Holds s i n → Holds (next A gen s (TakesOpen j)) i n
      holds n h = ((h.0.0, inr h.0.1), λ at. absurd (never h.0.0 h.0.1 at))

      go : (p : Phase A) → Counted s i p → Counted (next A gen s (TakesOpen j)) i p
      go Idle h = early
      go Opening h = early
      go (Checking e) h = early
      go (Sealing e) h = early
      go (Confirming n live) h = holds n h
      go (Serving n live) h = holds n h
      go (Sent n append group) h = holds n h
      go (Closing n append group) h = holds n h
      go (Growing n append group) h = ((h.0.0, inr h.0.1), (λ at. absurd (never h.0.0 h.0.1 at)), λ m there. h.2 m (old_told n m there))

  -- ---------------------------------------------------------------- Extend

  -- what the manager's rule does: a new extent, or an answer, or 13
  abbrev Outcome : StreamCore A → ℕ → ℕ → ℕ → List (Fact A) → Option (OpenExtent A) → Type 0
  Outcome c g j n facts o =
      ((count c ≡ n) × (count (extended A gen c g n o) ≡ suc n) × (extend_facts A gen j n c o facts ≡ Extended j n (suc n) ∷ facts))
      ⊎ (((count c ≡ n → ⊥) × (count (extended A gen c g n o) ≡ count c) × (extend_facts A gen j n c o facts ≡ Extended j n (count c) ∷ facts))
      ⊎ ((count (extended A gen c g n o) ≡ count c) × (extend_facts A gen j n c o facts ≡ facts)))

  outcome : (c : StreamCore A) (g j n : ℕ) (facts : List (Fact A)) (o : Option (OpenExtent A)) → c.live ≡ o → Outcome c g j n facts o
  outcome c g j n facts None e = go (n == length c.shut) refl
    where
      none : count c ≡ length c.shut + 0
      none = ap (λ z. length c.shut + one_if_live z) e

      go : (b : Bool) → (n == length c.shut) ≡ b →
          ((count c ≡ n) × (count (if b then with_live A gen c (new_live A gen c g) else c) ≡ suc n) × (Extended j n (if b then suc n else length c.shut) ∷ facts ≡ Extended j n (suc n) ∷ facts))
          ⊎ (((count c ≡ n → ⊥) × (count (if b then with_live A gen c (new_live A gen c g) else c) ≡ count c) × (Extended j n (if b then suc n else length c.shut) ∷ facts ≡ Extended j n (count c) ∷ facts))
          ⊎ ((count (if b then with_live A gen c (new_live A gen c g) else c) ≡ count c) × (Extended j n (if b then suc n else length c.shut) ∷ facts ≡ facts)))
      go true q = let same : n ≡ length c.shut = grind (arith, nat_tests) in let k : count c ≡ length c.shut + 0 = none in inl (omega arith, omega arith, refl)
      go false q =
          let k : count c ≡ length c.shut + 0 = none in
          let is : length c.shut ≡ count c = omega arith in
          inr (inl ((λ e'. let same : n ≡ length c.shut = omega arith in grind (arith, nat_tests)), refl, ap (λ z. Extended j n z ∷ facts) is))
  outcome c g j n facts (Some v) e = go (n == suc (length c.shut)) refl
    where
      some : count c ≡ length c.shut + 1
      some = ap (λ z. length c.shut + one_if_live z) e

      go : (b : Bool) → (n == suc (length c.shut)) ≡ b →
          ((count c ≡ n) × (count c ≡ suc n) × ((if b then facts else Extended j n (suc (length c.shut)) ∷ facts) ≡ Extended j n (suc n) ∷ facts))
          ⊎ (((count c ≡ n → ⊥) × (count c ≡ count c) × ((if b then facts else Extended j n (suc (length c.shut)) ∷ facts) ≡ Extended j n (count c) ∷ facts))
          ⊎ ((count c ≡ count c) × ((if b then facts else Extended j n (suc (length c.shut)) ∷ facts) ≡ facts)))
      go true q = inr (inr (refl, refl))
      go false q =
          let k : count c ≡ length c.shut + 1 = some in
          let is : suc (length c.shut) ≡ count c = omega arith in
          inr (inl ((λ e'. let same : n ≡ suc (length c.shut) = omega arith in grind (arith, nat_tests)), refl, ap (λ z. Extended j n z ∷ facts) is))

  same_fence : (c : StreamCore A) (g n : ℕ) (o : Option (OpenExtent A)) → (extended A gen c g n o).fence ≡ c.fence
  same_fence c g n (Some v) = refl
  same_fence c g n None = go (n == length c.shut)
    where
      go : (b : Bool) → (if b then with_live A gen c (new_live A gen c g) else c).fence ≡ c.fence
      go true = refl
      go false = refl

  has_opened : (s : MachineState A) (i n : ℕ) (p : Phase A) → Counted s i p → n < known p → (k : ℕ) × In (Opened i k) s.facts
  has_opened s i n Idle h lt = absurd (omega arith)
  has_opened s i n Opening h lt = absurd (omega arith)
  has_opened s i n (Checking e) h lt = absurd (omega arith)
  has_opened s i n (Sealing e) h lt = absurd (omega arith)
  has_opened s i n (Confirming k live) h lt = absurd (omega arith)
  has_opened s i n (Serving k live) h lt = h.0
  has_opened s i n (Sent k append group) h lt = h.0
  has_opened s i n (Closing k append group) h lt = h.0
  has_opened s i n (Growing k append group) h lt = h.0

  -- the one that extends knows how many there are, or one less
  count_near : (s : MachineState A) (i n : ℕ) (p : Phase A) → Counted s i p → gen i ≡ s.core.fence → n < known p → (count s.core ≡ n) ⊎ (suc n ≤ count s.core)
  count_near s i n Idle h at lt = absurd (omega arith)
  count_near s i n Opening h at lt = absurd (omega arith)
  count_near s i n (Checking e) h at lt = absurd (omega arith)
  count_near s i n (Sealing e) h at lt = absurd (omega arith)
  count_near s i n (Confirming k live) h at lt = absurd (omega arith)
  count_near s i n (Serving k live) h at lt = let c : count s.core ≡ k = h.1 at in inr (omega arith)
  count_near s i n (Sent k append group) h at lt = let c : count s.core ≡ k = h.1 at in inr (omega arith)
  count_near s i n (Closing k append group) h at lt = let c : count s.core ≡ k = h.1 at in inr (omega arith)
  count_near s i n (Growing k append group) h at lt =
      ⊎_elim {C = (count s.core ≡ n) ⊎ (suc n ≤ count s.core)}
      (λ (c : count s.core ≡ k). ⊎_elim {C = (count s.core ≡ n) ⊎ (suc n ≤ count s.core)} (λ (l : n < k). inr (omega arith)) (λ (l : k ≤ n). inl (omega arith)) (cases_lt n k))
      (λ (c : count s.core ≡ suc k). inr (omega arith)) (h.1 at)

  abbrev Moves : MachineState A → MachineState A → ℕ → ℕ → Type 0
  Moves s t n m =
      ((count s.core ≡ n) × (count t.core ≡ suc n) × (m ≡ suc n)) ⊎ ((count s.core ≡ n → ⊥) × (count t.core ≡ count s.core) × (m ≡ count s.core))

  answered_fits : (s t : MachineState A) (j n m i : ℕ) (p : Phase A) → t.core.fence ≡ s.core.fence → t.facts ≡ Extended j n m ∷ s.facts → Moves s t n m →
      (count s.core ≡ n) ⊎ (suc n ≤ count s.core) → (i ≡ j → n < known p) → ((k : ℕ) → In (Opened i k) s.facts → gen i ≡ s.core.fence → i ≡ j) → (i ≡ j → gen i ≡ s.core.fence) → Fits s i p → Fits t i p
  answered_fits s t j n m i p fence facts moves near asked_j same at_j f = record {
    asked = λ k q. f.asked k (⊎_elim {C = In (AsksExtend i k) s.facts} (λ (e : AsksExtend i k ≡ Extended j n m). absurd (cc)) (λ z. z) (subst (In (AsksExtend i k)) facts q));
    told = λ a b q. ⊎_elim {C = (a < known p) × (b ≤ count t.core) × (suc a ≤ b)}
        (λ (new : (i ≡ j) × (a ≡ n) × (b ≡ m)). let l : n < known p = asked_j new.0 in let an : a ≡ n = new.1 in let bm : b ≡ m = new.2 in let u : m ≤ count t.core = m_low in let v : suc n ≤ m = m_high in (omega arith, omega arith, omega arith))
        (λ z. let r : (a < known p) × (b ≤ count s.core) × (suc a ≤ b) = f.told a b z in let le : b ≤ count s.core = r.1 in let u : count s.core ≤ count t.core = more in (r.0, omega arith, r.2))
        (new_told a b q);
    counted = go p asked_j f.counted;
  }
    where
      more : count s.core ≤ count t.core
      more = ⊎_elim {C = count s.core ≤ count t.core} (λ (a : (count s.core ≡ n) × (count t.core ≡ suc n) × (m ≡ suc n)). let x : count s.core ≡ n = a.0 in let y : count t.core ≡ suc n = a.1 in omega arith)
          (λ (a : (count s.core ≡ n → ⊥) × (count t.core ≡ count s.core) × (m ≡ count s.core)). let y : count t.core ≡ count s.core = a.1 in omega arith) moves

      m_low : m ≤ count t.core
      m_low = ⊎_elim {C = m ≤ count t.core} (λ (a : (count s.core ≡ n) × (count t.core ≡ suc n) × (m ≡ suc n)). let x : m ≡ suc n = a.2 in let y : count t.core ≡ suc n = a.1 in omega arith)
          (λ (a : (count s.core ≡ n → ⊥) × (count t.core ≡ count s.core) × (m ≡ count s.core)). let y : count t.core ≡ count s.core = a.1 in let x : m ≡ count s.core = a.2 in omega arith) moves

      m_high : suc n ≤ m
      m_high = ⊎_elim {C = suc n ≤ m} (λ (a : (count s.core ≡ n) × (count t.core ≡ suc n) × (m ≡ suc n)). let x : m ≡ suc n = a.2 in omega arith)
          (λ (a : (count s.core ≡ n → ⊥) × (count t.core ≡ count s.core) × (m ≡ count s.core)).
          let x : m ≡ count s.core = a.2 in ⊎_elim {C = suc n ≤ m} (λ e. absurd (a.0 e)) (λ (l : suc n ≤ count s.core). omega arith) near) moves

      new_told : (a b : ℕ) → In (Extended i a b) t.facts → ((i ≡ j) × (a ≡ n) × (b ≡ m)) ⊎ In (Extended i a b) s.facts
      new_told a b q = ⊎_elim {C = ((i ≡ j) × (a ≡ n) × (b ≡ m)) ⊎ In (Extended i a b) s.facts}
          (λ (e : Extended i a b ≡ Extended j n m). let x : i ≡ j = cc in let y : a ≡ n = cc in let z : b ≡ m = cc in inl (x, y, z)) (λ z. inr z) (subst (In (Extended i a b)) facts q)

      old_opened : (k : ℕ) → In (Opened i k) t.facts → In (Opened i k) s.facts
      old_opened k q = ⊎_elim {C = In (Opened i k) s.facts} (λ (e : Opened i k ≡ Extended j n m). absurd (cc)) (λ z. z) (subst (In (Opened i k)) facts q)

      new_opened : (k : ℕ) → In (Opened i k) s.facts → In (Opened i k) t.facts
      new_opened k q = subst (In (Opened i k)) (sym facts) (inr q)

      early : (i ≡ j → n < 0) → Early t i
      early no_one k q at = let l : n < 0 = no_one (same k (old_opened k q) (at ∙ fence)) in absurd (omega arith)

      held : (k : ℕ) → (i ≡ j → n < k) → Holds s i k → Holds t i k
      held k lt h = (
        (h.0.0, new_opened h.0.0 h.0.1),
        λ at.
            let l : n < k = lt (same h.0.0 h.0.1 (at ∙ fence)) in
            let c : count s.core ≡ k = h.1 (at ∙ fence) in
            ⊎_elim {C = count t.core ≡ k} (λ (a : (count s.core ≡ n) × (count t.core ≡ suc n) × (m ≡ suc n)). let x : count s.core ≡ n = a.0 in absurd (omega arith))
            (λ (a : (count s.core ≡ n → ⊥) × (count t.core ≡ count s.core) × (m ≡ count s.core)). a.1 ∙ c) moves,
      )

      go : (p : Phase A) → (i ≡ j → n < known p) → Counted s i p → Counted t i p
      go Idle lt h = early lt
      go Opening lt h = early lt
      go (Checking e) lt h = early lt
      go (Sealing e) lt h = early lt
      go (Confirming k live) lt h = held k (λ e. let l : n < 0 = lt e in omega arith) h
      go (Serving k live) lt h = held k lt h
      go (Sent k append group) lt h = held k lt h
      go (Closing k append group) lt h = held k lt h
      go (Growing k append group) lt h = (
        (h.0.0, new_opened h.0.0 h.0.1),
        (λ at.
            let l : n < suc k = lt (same h.0.0 h.0.1 (at ∙ fence)) in
            let c : (count s.core ≡ k) ⊎ (count s.core ≡ suc k) = h.1 (at ∙ fence) in
            ⊎_elim {C = (count t.core ≡ k) ⊎ (count t.core ≡ suc k)}
            (λ (a : (count s.core ≡ n) × (count t.core ≡ suc n) × (m ≡ suc n)).
            let x : count s.core ≡ n = a.0 in let y : count t.core ≡ suc n = a.1 in
            ⊎_elim {C = (count t.core ≡ k) ⊎ (count t.core ≡ suc k)} (λ (e : count s.core ≡ k). inr (omega arith)) (λ (e : count s.core ≡ suc k). absurd (omega arith)) c)
            (λ (a : (count s.core ≡ n → ⊥) × (count t.core ≡ count s.core) × (m ≡ count s.core)).
            ⊎_elim {C = (count t.core ≡ k) ⊎ (count t.core ≡ suc k)} (λ e. inl (a.1 ∙ e)) (λ e. inr (a.1 ∙ e)) c) moves),
        λ b q. ⊎_elim {C = b ≡ suc k}
            (λ (new : (i ≡ j) × (k ≡ n) × (b ≡ m)).
            let kn : k ≡ n = new.1 in let bm : b ≡ m = new.2 in
            ⊎_elim {C = b ≡ suc k} (λ (a : (count s.core ≡ n) × (count t.core ≡ suc n) × (m ≡ suc n)). let x : m ≡ suc n = a.2 in omega arith)
            (λ (a : (count s.core ≡ n → ⊥) × (count t.core ≡ count s.core) × (m ≡ count s.core)).
            let x : m ≡ count s.core = a.2 in
            ⊎_elim {C = b ≡ suc k} (λ (e : count s.core ≡ k). absurd (a.0 (e ∙ kn))) (λ (e : count s.core ≡ suc k). omega arith) (h.1 (at_j new.0))) moves)
            (λ z. h.2 b z) (new_told k b q),
      )

  abbrev AllFit : MachineState A → (ℕ → Phase A) → Type 0
  AllFit s phase = (i : ℕ) → Fits s i (phase i)

  extend_fits : (s : MachineState A) (run : LogRun A) → Inv A gen s run → (phase : ℕ → Phase A) → AllFit s phase → (j n : ℕ) → In (AsksExtend j n) s.facts → gen j ≡ s.core.fence →
      AllFit (next A gen s (TakesExtend j n)) phase
  extend_fits s run inv phase fits j n sent at i =
      let fj : Fits s j (phase j) = fits j in
      let lt : n < known (phase j) = fj.asked n sent in
      let oj : (k : ℕ) × In (Opened j k) s.facts = has_opened s j n (phase j) fj.counted lt in
      let near : (count s.core ≡ n) ⊎ (suc n ≤ count s.core) = count_near s j n (phase j) fj.counted at lt in
      let fence : (next A gen s (TakesExtend j n)).core.fence ≡ s.core.fence = same_fence s.core (gen j) n s.core.live in
      let mine : i ≡ j → n < known (phase i) = λ e. subst (λ z. n < known (phase z)) (sym e) lt in
      let one : (k : ℕ) → In (Opened i k) s.facts → gen i ≡ s.core.fence → i ≡ j = λ k q g. inv.unique i j k oj.0 q oj.1 (g ∙ sym at) in
      let back : i ≡ j → gen i ≡ s.core.fence = λ e. ap gen e ∙ at in
      elim (outcome s.core (gen j) j n s.facts s.core.live refl) as (λ x. Fits (next A gen s (TakesExtend j n)) i (phase i)) [
        | inl a ↦ answered_fits s (next A gen s (TakesExtend j n)) j n (suc n) i (phase i) fence a.2 (inl (a.0, a.1, refl)) near mine one back (fits i)
        | inr (inl a) ↦ answered_fits s (next A gen s (TakesExtend j n)) j n (count s.core) i (phase i) fence a.2 (inr (a.0, a.1, refl)) near mine one back (fits i)
        | inr (inr a) ↦ fits_quiet i s (next A gen s (TakesExtend j n)) (phase i) (record {
          fence = fence;
          counts = a.0;
          asked = λ k q. subst (In (AsksExtend i k)) a.1 q;
          told = λ k l q. subst (In (Extended i k l)) a.1 q;
          opened = λ k q. subst (In (Opened i k)) a.1 q;
          stays = λ k q. subst (In (Opened i k)) (sym a.1) q;
        }) (fits i)
      ]

  -- what the manager and the nodes do
  layer_fits : (s : MachineState A) (run : LogRun A) → Inv A gen s run → (phase : ℕ → Phase A) → AllFit s phase → (x : MachineStep A) → is_layer A gen x ≡ true → May A gen s x → AllFit (next A gen s x) phase
  layer_fits s run inv phase fits (TakesOpen j) layer may i = open_fits s j i (phase i) (λ k n m. is_low s run inv k n m) may.1 (fits i)
  layer_fits s run inv phase fits (TakesExtend j n) layer may i = extend_fits s run inv phase fits j n may.0 may.1 i
  layer_fits s run inv phase fits (Extends j n) layer may i = absurd (cc)
  layer_fits s run inv phase fits x layer may i = fits_quiet i s (next A gen s x) (phase i) (quiet_step i s x tt (needs s x may)) (fits i)

  -- ---------------------------------------------------------------- turns

  rephase : (t : MachineState A) (i : ℕ) (p q : Phase A) → Fits t i p → known p ≤ known q → Counted t i q → Fits t i q
  rephase t i p q f le c = record {
    asked = λ n m. let l : n < known p = f.asked n m in omega arith;
    told = λ n m there. let r : (n < known p) × (m ≤ count t.core) × (suc n ≤ m) = f.told n m there in let l : n < known p = r.0 in (omega arith, r.1, r.2);
    counted = c;
  }

  settled : (t : MachineState A) (phase : ℕ → Phase A) (i : ℕ) (p : Phase A) → Fits t i p → ((k : ℕ) → (k ≡ i → ⊥) → Fits t k (phase k)) → AllFit t (λ k. if k == i then p else phase k)
  settled t phase i p mine others k = go (k == i) refl
    where
      go : (b : Bool) → (k == i) ≡ b → Fits t k (if b then p else phase k)
      go true e = let same : i ≡ k = grind (arith, nat_tests) in subst (λ z. Fits t z p) same mine
      go false e = others k (λ q. grind (arith, nat_tests))

  on_quiet : (s : MachineState A) (i : ℕ) (x : MachineStep A) (p : Phase A) → IsQuiet i x → NeedsLive s x → Fits s i p → Fits (next A gen s x) i p
  on_quiet s i x p q need f = fits_quiet i s (next A gen s x) p (quiet_step i s x q need) f

  grown : (s : MachineState A) (i n append : ℕ) (group : A) (p : Phase A) → Fits s i p → known p ≡ n → Holds s i n → Fits (next A gen s (Extends i n)) i (Growing n append group)
  grown s i n append group p f is h = record {
    asked = λ k m. ⊎_elim {C = k < suc n} (λ (e : AsksExtend i k ≡ AsksExtend i n). let same : k ≡ n = cc in omega arith) (λ z. let l : k < known p = f.asked k z in omega arith) m;
    told = λ k m there. let r : (k < known p) × (m ≤ count s.core) × (suc k ≤ m) = f.told k m (old k m there) in let l : k < known p = r.0 in (omega arith, r.1, r.2);
    counted = ((h.0.0, inr h.0.1), (λ at. inl (h.1 at)), λ m there. let r : (n < known p) × (m ≤ count s.core) × (suc n ≤ m) = f.told n m (old n m there) in let l : n < known p = r.0 in absurd (omega arith));
  }
    where
      old : (k m : ℕ) → In (Extended i k m) (AsksExtend i n ∷ s.facts) → In (Extended i k m) s.facts
      old k m there = ⊎_elim {C = In (Extended i k m) s.facts} (λ (e : Extended i k m ≡ AsksExtend i n). absurd (cc)) (λ z. z) there

  formed_fits : (s : MachineState A) (phase : ℕ → Phase A) (i n : ℕ) (group : A) (live : Bool) → AllFit s phase → Fits s i (Serving n live) →
      AllFit (all_next A gen s (forms A gen i n (length s.story) group live ++ Begins i group ∷ [])) (λ k. if k == i then formed A gen n (length s.story) group live else phase k)
  formed_fits s phase i zero group live fits f =
      let s1 : MachineState A = next A gen s (Begins i group) in
      let f1 : Fits s1 i (Serving 0 live) = on_quiet s i (Begins i group) (Serving 0 live) tt tt f in
      settled (next A gen s1 (Extends i 0)) phase i (Growing 0 (length s.story) group) (grown s1 i 0 (length s.story) group (Serving 0 live) f1 refl f1.counted)
      (λ k o. on_quiet s1 k (Extends i 0) (phase k) o tt (on_quiet s k (Begins i group) (phase k) tt tt (fits k)))
  formed_fits s phase i (suc e) group true fits f =
      let s1 : MachineState A = next A gen s (Begins i group) in
      let x : MachineStep A = Appends i e (length s.story) group in
      let f2 : Fits (next A gen s1 x) i (Serving (suc e) true) = on_quiet s1 i x (Serving (suc e) true) tt tt (on_quiet s i (Begins i group) (Serving (suc e) true) tt tt f) in
      settled (next A gen s1 x) phase i (Sent (suc e) (length s.story) group) (rephase (next A gen s1 x) i (Serving (suc e) true) (Sent (suc e) (length s.story) group) f2 (omega arith) f2.counted)
      (λ k o. on_quiet s1 k x (phase k) tt tt (on_quiet s k (Begins i group) (phase k) tt tt (fits k)))
  formed_fits s phase i (suc e) group false fits f =
      let s1 : MachineState A = next A gen s (Begins i group) in
      let f1 : Fits s1 i (Serving (suc e) false) = on_quiet s i (Begins i group) (Serving (suc e) false) tt tt f in
      settled (next A gen s1 (Extends i (suc e))) phase i (Growing (suc e) (length s.story) group) (grown s1 i (suc e) (length s.story) group (Serving (suc e) false) f1 refl f1.counted)
      (λ k o. on_quiet s1 k (Extends i (suc e)) (phase k) o tt (on_quiet s k (Begins i group) (phase k) tt tt (fits k)))

  -- a turn of one step that is quiet
  single_fits : (s : MachineState A) (phase : ℕ → Phase A) (i : ℕ) (x : MachineStep A) (p q : Phase A) → AllFit s phase → Fits s i p → ((k : ℕ) → IsQuiet k x) → NeedsLive s x → known p ≤ known q →
      (Fits (next A gen s x) i p → Counted (next A gen s x) i q) → AllFit (next A gen s x) (λ k. if k == i then q else phase k)
  single_fits s phase i x p q fits f quiet need le count_it =
      let f1 : Fits (next A gen s x) i p = on_quiet s i x p (quiet i) need f in
      settled (next A gen s x) phase i q (rephase (next A gen s x) i p q f1 le (count_it f1)) (λ k o. on_quiet s k x (phase k) (quiet k) need (fits k))

  turned_fits : (s : MachineState A) (phase : ℕ → Phase A) (i : ℕ) (p : Phase A) (turn : Turn A) → AllFit s phase → Fits s i p → IsTurn A gen s i p turn →
      AllFit (all_next A gen s (does A gen s i p turn)) (λ k. if k == i then becomes A gen s p turn else phase k)
  turned_fits s phase i Idle Assigned fits f may = single_fits s phase i (Opens i) Idle Opening fits f (λ k. tt) tt (omega arith) (λ g. g.counted)
  turned_fits s phase i Opening (AllSealed n) fits f may = single_fits s phase i (ReadsSealed i n) Opening (Confirming n false) fits f (λ k. tt) tt (omega arith) (λ g. ((n, inr may.0), λ at. g.counted n (inr may.0) at))
  turned_fits s phase i Opening (LastOpen e) fits f may = single_fits s phase i (Checks i e) Opening (Checking e) fits f (λ k. tt) tt (omega arith) (λ g. g.counted)
  turned_fits s phase i (Checking e) (Found stood end) fits f may =
      single_fits s phase i (ReadsChecked i e stood end) (Checking e) (Confirming (suc e) true) fits f (λ k. tt) tt (omega arith) (λ g. ((suc e, inr may.0), λ at. g.counted (suc e) (inr may.0) at))
  turned_fits s phase i (Checking e) Fails fits f may = settled s phase i (Sealing e) (rephase s i (Checking e) (Sealing e) f (omega arith) f.counted) (λ k o. fits k)
  turned_fits s phase i (Sealing e) IsShut fits f may =
      single_fits s phase i (ReadsSealed i (suc e)) (Sealing e) (Confirming (suc e) false) fits f (λ k. tt) tt (omega arith) (λ g. ((suc e, inr may.0), λ at. g.counted (suc e) (inr may.0) at))
  turned_fits s phase i (Confirming n live) (ConfirmedIs start end read) fits f may = single_fits s phase i (TakesConfirmed i start end read) (Confirming n live) (Serving n live) fits f (λ k. tt) tt (omega arith) (λ g. g.counted)
  turned_fits s phase i (Serving n live) (Forms group) fits f may = formed_fits s phase i n group live fits f
  turned_fits s phase i (Sent n append group) (AppendedAt from to) fits f may = single_fits s phase i (TakesAppended i append from to) (Sent n append group) (Serving n true) fits f (λ k. tt) tt (omega arith) (λ g. g.counted)
  turned_fits s phase i (Sent n append group) Fails fits f may = settled s phase i (Closing n append group) (rephase s i (Sent n append group) (Closing n append group) f (omega arith) f.counted) (λ k o. fits k)
  turned_fits s phase i (Closing n append group) IsShut fits f may =
      settled (next A gen s (Extends i n)) phase i (Growing n append group) (grown s i n append group (Closing n append group) f refl f.counted) (λ k o. on_quiet s k (Extends i n) (phase k) o tt (fits k))
  turned_fits s phase i (Growing n append group) (ExtendedTo m) fits f may =
      single_fits s phase i (Appends i n append group) (Growing n append group) (Sent (suc n) append group) fits f (λ k. tt) tt (omega arith)
      (λ g. (
        g.counted.0,
        λ at.
            let r : (n < suc n) × (m ≤ count s.core) × (suc n ≤ m) = f.told n m may in
            let a : m ≤ count s.core = r.1 in let b : suc n ≤ m = r.2 in
            ⊎_elim {C = count s.core ≡ suc n} (λ (e : count s.core ≡ n). absurd (omega arith)) (λ e. e) (g.counted.1 at),
      ))
  turned_fits s phase i p turn fits f may = absurd may

  all_fit : (moves : List (Move A gen)) → AreMoves A gen moves → AllFit (after_all A gen moves).state (after_all A gen moves).phase
  all_fit [] ok = λ i. record { asked = λ n m. absurd m; told = λ n m there. absurd there; counted = λ n m at. absurd m }
  all_fit (Below x ∷ earlier) ok =
      let good : Good A gen (after_all A gen earlier) = all_good A gen earlier ok.1 in
      let f : (run : LogRun A) × Inv A gen (after A gen (good.0).0) run = followed A gen (good.0).0 (good.0).1 in
      let inv : Inv A gen (after_all A gen earlier).state f.0 = subst (λ z. Inv A gen z f.0) (sym (good.0).2) f.1 in
      layer_fits (after_all A gen earlier).state f.0 inv (after_all A gen earlier).phase (all_fit earlier ok.1) x ok.0.0 ok.0.1
  all_fit (Above i turn ∷ earlier) ok =
      let fits : AllFit (after_all A gen earlier).state (after_all A gen earlier).phase = all_fit earlier ok.1 in
      turned_fits (after_all A gen earlier).state (after_all A gen earlier).phase i ((after_all A gen earlier).phase i) turn fits (fits i) ok.0

  -- the extent that an Extend which is waited for names is the one after those that its asker knows
  pub index_is_right : (moves : List (Move A gen)) → AreMoves A gen moves → (i n m append : ℕ) (group : A) → (after_all A gen moves).phase i ≡ Growing n append group →
      In (Extended i n m) (after_all A gen moves).state.facts → m ≡ suc n
  index_is_right moves ok i n m append group growing there =
      let f : Fits (after_all A gen moves).state i (Growing n append group) = subst (λ z. Fits (after_all A gen moves).state i z) growing (all_fit moves ok i) in
      f.counted.2 m there
