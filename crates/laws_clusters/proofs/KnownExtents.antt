-- Each incarnation knows no more extents of its stream than there are, and asks for appends to these alone.
use Rattle.std.proofs.Common.{◌≡◌, ℕ, zero, suc, ◌+◌, ◌≤◌, ◌<◌, List, ◌∷◌, [], length, Bool, true, false, Option, Some, None, refl, sym, ap, subst, ⊎_elim, arith, if◌then◌else◌, ◌==◌}
use Rattle.std.proofs.lemmas.Bool.{eqb-true}
use Rattle.replica.specs.Groups.{Group}
use Rattle.model_histories.specs.StreamMachine.{In, OpenExtent, one_if_live, count, Fact, AsksOpen, Opened as OpenedAs, AsksCheck, Checked, AsksConfirm, Confirmed, Serves, Begun, AsksAppend, Appended, AsksExtend, Extended, MachineState, MachineStep, TakesOpen, TakesExtend, TakesConfirm, TakesCheck, AnswersCheck, AnswersLate, TakesAppend, Keeps, AnswersAppend, Seals, Opens, Checks, ReadsSealed, ReadsChecked, Begins, Appends, Extends, TakesConfirmed, TakesAppended, with_live, new_live, extended, extend_facts, May, next}
use Rattle.model_histories.specs.ServerTurns.{Phase, Idle, Opening, Checking, Sealing, Confirming, Serving, Sent, Closing, Growing, Turn, Assigned, AllSealed, LastOpen, Found, Fails, IsShut, ConfirmedIs, Forms, AppendedAt, ExtendedTo, IsTurn, becomes, does, all_next, Whole, is_layer, Move, Below, Above, after_all, AreMoves}
use Rattle.laws_tables.proofs.Index.{index_is_right}

-- how many extents an incarnation knows
abbrev known_in : Phase Group → ℕ
known_in (Checking e) = suc e
known_in (Sealing e) = suc e
known_in (Confirming n live) = n
known_in (Serving n live) = n
known_in (Sent n append group) = n
known_in (Closing n append group) = n
known_in (Growing n append group) = n
known_in phase = 0

-- what packets say of the extents that there are
abbrev IsWithin : ℕ → Fact Group → Type 0
IsWithin n (OpenedAs i m) = m ≤ n
IsWithin n (Extended i k m) = m ≤ n
IsWithin n (AsksAppend i e append group) = e < n
IsWithin n fact = Unit {0}

abbrev AreWithin : ℕ → List (Fact Group) → Type 0
AreWithin n facts = (f : Fact Group) → In f facts → IsWithin n f

within_more : (m n : ℕ) → m ≤ n → (f : Fact Group) → IsWithin m f → IsWithin n f
within_more m n less (OpenedAs i k) w = omega (arith, less, w)
within_more m n less (Extended i j k) w = omega (arith, less, w)
within_more m n less (AsksAppend i e append group) w = omega (arith, less, w)
within_more m n less (AsksOpen i) w = tt
within_more m n less (AsksCheck i e) w = tt
within_more m n less (Checked i e stood end) w = tt
within_more m n less (AsksConfirm i read end) w = tt
within_more m n less (Confirmed i read end) w = tt
within_more m n less (Serves i) w = tt
within_more m n less (Begun i append group) w = tt
within_more m n less (Appended i append from to) w = tt
within_more m n less (AsksExtend i k) w = tt

all_more : (m n : ℕ) → m ≤ n → (facts : List (Fact Group)) → AreWithin m facts → AreWithin n facts
all_more m n less facts all f there = within_more m n less f (all f there)

one_more : (n : ℕ) (fact : Fact Group) (facts : List (Fact Group)) → IsWithin n fact → AreWithin n facts → AreWithin n (fact ∷ facts)
one_more n fact facts own all f there = ⊎_elim {C = IsWithin n f} (λ (same : f ≡ fact). subst (IsWithin n) (sym same) own) (λ old. all f old) there

module _ (generation : ℕ → ℕ) where
  abbrev Moves : Type 0
  Moves = List (Move Group generation)

  abbrev State : Type 0
  State = MachineState Group

  abbrev Fine : State → Type 0
  Fine s = AreWithin (count s.core) s.facts

  -- ---- the stream layer

  record Goes (s t : State) : Type 0 where
    counts : count s.core ≤ count t.core
    fine : Fine t

  live_counts : (s : State) (v : OpenExtent Group) → s.core.live ≡ Some v → count s.core ≡ length s.core.shut + 1
  live_counts s v is = ap (λ o. length s.core.shut + one_if_live o) is

  told : (s : State) (f : Fact Group) → IsWithin (count s.core) f → Fine s → Goes s (record s { facts = f ∷ s.facts })
  told s f own fine = record { counts = omega arith; fine = one_more (count s.core) f s.facts own fine }

  -- another last extent
  lives : (s : State) (v w : OpenExtent Group) → s.core.live ≡ Some v → Fine s → Goes s (record s { core = record s.core { live = Some w } })
  lives s v w is fine = let same = live_counts s v is in record { counts = omega (arith, same); fine = all_more (count s.core) (length s.core.shut + 1) (omega (arith, same)) s.facts fine }

  extends_live : (s : State) (i n : ℕ) (v : OpenExtent Group) → s.core.live ≡ Some v → (b : Bool) → Fine s → Goes s (record s { facts = if b then s.facts else Extended i n (suc (length s.core.shut)) ∷ s.facts })
  extends_live s i n v is true fine = record { counts = omega arith; fine = fine }
  extends_live s i n v is false fine = let same = live_counts s v is in told s (Extended i n (suc (length s.core.shut))) (omega (arith, same)) fine

  extends_none : (s : State) (i n : ℕ) → s.core.live ≡ None → (b : Bool) → (n == length s.core.shut) ≡ b → Fine s →
      Goes s (record s { core = if b then with_live Group generation s.core (new_live Group generation s.core (generation i)) else s.core; facts = Extended i n (if b then suc n else length s.core.shut) ∷ s.facts })
  extends_none s i n is true e fine =
      let at : n ≡ length s.core.shut = eqb-true n (length s.core.shut) e in
      let none : count s.core ≡ length s.core.shut + 0 = ap (λ o. length s.core.shut + one_if_live o) is in
      record {
        counts = omega (arith, none);
        fine = one_more (length s.core.shut + 1) (Extended i n (suc n)) s.facts (omega (arith, at)) (all_more (count s.core) (length s.core.shut + 1) (omega (arith, none)) s.facts fine);
      }
  extends_none s i n is false e fine =
      let none : count s.core ≡ length s.core.shut + 0 = ap (λ o. length s.core.shut + one_if_live o) is in
      told s (Extended i n (length s.core.shut)) (omega (arith, none)) fine

  extends_goes : (s : State) (i n : ℕ) (o : Option (OpenExtent Group)) → s.core.live ≡ o → Fine s → Goes s (record s { core = extended Group generation s.core (generation i) n o; facts = extend_facts Group generation i n s.core o s.facts })
  extends_goes s i n (Some v) is fine = extends_live s i n v is (n == suc (length s.core.shut)) fine
  extends_goes s i n None is fine = extends_none s i n is (n == length s.core.shut) refl fine

  layer_goes : (s : State) (x : MachineStep Group) → is_layer Group generation x ≡ true → May Group generation s x → Fine s → Goes s (next Group generation s x)
  layer_goes s (TakesOpen i) layer may fine = record { counts = omega arith; fine = one_more (count s.core) (OpenedAs i (count s.core)) s.facts (omega arith) fine }
  layer_goes s (TakesExtend i n) layer may fine = extends_goes s i n s.core.live refl fine
  layer_goes s (TakesConfirm i read end) layer may fine = told s (Confirmed i read end) tt fine
  layer_goes s (TakesCheck i v) layer may fine = lives s v (record v { fence = generation i }) may.1 fine
  layer_goes s (AnswersCheck i v) layer may fine = told s (Checked i (length s.core.shut) v.kept v.sure) tt fine
  layer_goes s (AnswersLate i e x) layer may fine = told s (Checked i e x.copies x.end) tt fine
  layer_goes s (TakesAppend i append group to v) layer may fine = lives s v _ may.1 fine
  layer_goes s (Keeps c rest v) layer may fine = lives s v _ may.0 fine
  layer_goes s (AnswersAppend i append from to group) layer may fine = told s (Appended i append from to) tt fine
  layer_goes s (Seals v) layer may fine =
      let same = live_counts s v may in
      record { counts = omega (arith, same); fine = all_more (count s.core) (suc (length s.core.shut) + 0) (omega (arith, same)) s.facts fine }
  layer_goes s (Opens i) layer may fine = absurd cc
  layer_goes s (Checks i e) layer may fine = absurd cc
  layer_goes s (ReadsSealed i n) layer may fine = absurd cc
  layer_goes s (ReadsChecked i e stood end) layer may fine = absurd cc
  layer_goes s (Begins i group) layer may fine = absurd cc
  layer_goes s (Appends i e append group) layer may fine = absurd cc
  layer_goes s (Extends i n) layer may fine = absurd cc
  layer_goes s (TakesConfirmed i start end read) layer may fine = absurd cc
  layer_goes s (TakesAppended i append from to) layer may fine = absurd cc

  -- ---- turns

  abbrev set : (ℕ → Phase Group) → ℕ → Phase Group → ℕ → Phase Group
  set phase i p = λ j. if j == i then p else phase j

  record Knows (s : State) (phase : ℕ → Phase Group) : Type 0 where
    fine : Fine s
    known : (i : ℕ) → known_in (phase i) ≤ count s.core

  turned : (s t : State) (phase : ℕ → Phase Group) (i : ℕ) (p : Phase Group) → t.core ≡ s.core → Fine t → known_in p ≤ count s.core → Knows s phase → Knows t (set phase i p)
  turned s t phase i p same fine own k = record {
    fine = fine;
    known = λ j. subst (λ c. known_in (set phase i p j) ≤ count c) (sym same) (by j (j == i));
  }
    where
      by : (j : ℕ) (b : Bool) → known_in (if b then p else phase j) ≤ count s.core
      by j true = own
      by j false = k.known j

  module _ (s : State) (phase : ℕ → Phase Group) (i : ℕ) (k : Knows s phase) (right : (n m append : ℕ) (group : Group) → phase i ≡ Growing n append group → In (Extended i n m) s.facts → m ≡ suc n) where
    knew : (p : Phase Group) → phase i ≡ p → known_in p ≤ count s.core
    knew p e = subst (λ z. known_in z ≤ count s.core) e (k.known i)

    more : (f : Fact Group) → IsWithin (count s.core) f → AreWithin (count s.core) (f ∷ s.facts)
    more f own = one_more (count s.core) f s.facts own k.fine

    turn_knows : (p : Phase Group) (turn : Turn Group) → phase i ≡ p → IsTurn Group generation s i p turn → Knows (all_next Group generation s (does Group generation s i p turn)) (set phase i (becomes Group generation s p turn))
    turn_knows Idle Assigned e may = turned s _ phase i Opening refl (more (AsksOpen i) tt) (omega arith) k
    turn_knows Opening (AllSealed n) e may = turned s _ phase i (Confirming n false) refl (more (AsksConfirm i _ _) tt) (k.fine (OpenedAs i n) may.0) k
    turn_knows Opening (LastOpen x) e may = turned s _ phase i (Checking x) refl (more (AsksCheck i x) tt) (k.fine (OpenedAs i (suc x)) may) k
    turn_knows (Checking x) (Found stood end) e may = turned s _ phase i (Confirming (suc x) true) refl (more (AsksConfirm i _ end) tt) (knew (Checking x) e) k
    turn_knows (Checking x) Fails e may = turned s _ phase i (Sealing x) refl k.fine (knew (Checking x) e) k
    turn_knows (Sealing x) IsShut e may = turned s _ phase i (Confirming (suc x) false) refl (more (AsksConfirm i _ _) tt) (knew (Sealing x) e) k
    turn_knows (Confirming n live) (ConfirmedIs start end read) e may = turned s _ phase i (Serving n live) refl (more (Serves i) tt) (knew (Confirming n live) e) k
    turn_knows (Serving zero live) (Forms group) e may =
        turned s _ phase i (Growing 0 (length s.story) group) refl (one_more (count s.core) (AsksExtend i 0) (Begun i (length s.story) group ∷ s.facts) tt (more (Begun i (length s.story) group) tt)) (omega arith) k
    turn_knows (Serving (suc n) true) (Forms group) e may =
        (let have = knew (Serving (suc n) true) e in
        turned s _ phase i (Sent (suc n) (length s.story) group) refl
        (one_more (count s.core) (AsksAppend i n (length s.story) group) (Begun i (length s.story) group ∷ s.facts) (omega (arith, have)) (more (Begun i (length s.story) group) tt)) have k)
    turn_knows (Serving (suc n) false) (Forms group) e may =
        turned s _ phase i (Growing (suc n) (length s.story) group) refl (one_more (count s.core) (AsksExtend i (suc n)) (Begun i (length s.story) group ∷ s.facts) tt (more (Begun i (length s.story) group) tt)) (knew (Serving (suc n) false) e) k
    turn_knows (Sent n append group) (AppendedAt from to) e may = turned s _ phase i (Serving n true) refl k.fine (knew (Sent n append group) e) k
    turn_knows (Sent n append group) Fails e may = turned s _ phase i (Closing n append group) refl k.fine (knew (Sent n append group) e) k
    turn_knows (Closing n append group) IsShut e may = turned s _ phase i (Growing n append group) refl (more (AsksExtend i n) tt) (knew (Closing n append group) e) k
    turn_knows (Growing n append group) (ExtendedTo m) e may =
        (let next_is : m ≡ suc n = right n m append group e may in
        let have : m ≤ count s.core = k.fine (Extended i n m) may in
        turned s _ phase i (Sent (suc n) append group) refl (more (AsksAppend i n append group) (omega (arith, next_is, have))) (omega (arith, next_is, have)) k)
    turn_knows p turn e may = absurd may

  all_know : (moves : Moves) → AreMoves Group generation moves → Knows (after_all Group generation moves).state (after_all Group generation moves).phase
  all_know [] ok = record { fine = λ f there. absurd there; known = λ i. omega arith }
  all_know (Below x ∷ earlier) ok =
      let w : Whole Group generation = after_all Group generation earlier in
      let old : Knows w.state w.phase = all_know earlier ok.1 in
      let goes : Goes w.state (next Group generation w.state x) = layer_goes w.state x ok.0.0 ok.0.1 old.fine in
      record { fine = goes.fine; known = λ i. (let a = old.known i in let b = goes.counts in omega (arith, a, b)) }
  all_know (Above i turn ∷ earlier) ok =
      let w : Whole Group generation = after_all Group generation earlier in
      turn_knows w.state w.phase i (all_know earlier ok.1) (λ n m append group e there. index_is_right Group generation earlier ok.1 i n m append group e there) (w.phase i) turn refl ok.0

  -- an append is asked of an extent that there is
  pub asks_within : (moves : Moves) → AreMoves Group generation moves → (i e append : ℕ) (group : Group) → In (AsksAppend i e append group) (after_all Group generation moves).state.facts → e < count (after_all Group generation moves).state.core
  asks_within moves ok i e append group there = (all_know moves ok).fine (AsksAppend i e append group) there
