-- The stream layer under servers that follow their table keeps the order of their stream.
use Rattle.std.proofs.Common.{◌≡◌, ℕ, zero, suc, List, [], ◌∷◌, ◌++◌, length, Bool, true, false, Option, Some, None, refl, sym, ap, subst, inl, inr, ⊎_elim, arith, if◌then◌else◌, ◌==◌}
use Rattle.std.proofs.lemmas.Bool.Decides.{nat_tests}
use Rattle.model_histories.specs.Story.{KeepsOrder, EndsRise}
use Rattle.model_histories.specs.StreamMachine.{In, OpenExtent, StreamCore, count, Fact, AsksOpen, Opened, AsksCheck, Checked, AsksConfirm, Confirmed, Serves, Begun, AsksAppend, Appended, AsksExtend, Extended, MachineState, MachineStep, TakesOpen, TakesExtend, TakesConfirm, TakesCheck, AnswersCheck, AnswersLate, TakesAppend, Keeps, AnswersAppend, Seals, Opens, Checks, ReadsSealed, ReadsChecked, Begins, Appends, Extends, TakesConfirmed, TakesAppended, NotYet, May, extend_facts, next, after, IsRun}
use Rattle.model_histories.specs.ServerTurns.{Phase, Idle, Opening, Checking, Sealing, Confirming, Serving, Sent, Closing, Growing, Turn, Assigned, AllSealed, LastOpen, Found, Fails, IsShut, ConfirmedIs, Forms, AppendedAt, ExtendedTo, IsTurn, becomes, does, forms, formed, all_next, Whole, Below, Above, Move, is_layer, MayMove, moved, after_all, AreMoves}
use Rattle.laws_tables.proofs.Extents.{stream_ends_rise, stream_keeps_order}

module _ (A : Type 0) (gen : ℕ → ℕ) where
  extend_stays : (i n : ℕ) (c : StreamCore A) (o : Option (OpenExtent A)) (facts : List (Fact A)) (f : Fact A) → In f facts → In f (extend_facts A gen i n c o facts)
  extend_stays i n c None facts f m = inr m
  extend_stays i n c (Some v) facts f m = go (n == suc (length c.shut))
    where
      go : (b : Bool) → In f (if b then facts else Extended i n (suc (length c.shut)) ∷ facts)
      go true = m
      go false = inr m

  extend_not : (i n j : ℕ) (c : StreamCore A) (o : Option (OpenExtent A)) (facts : List (Fact A)) → NotYet A gen j facts → NotYet A gen j (extend_facts A gen i n c o facts)
  extend_not i n j c None facts none = λ r t m. ⊎_elim {C = ⊥} (λ (q : AsksConfirm j r t ≡ Extended i n (if n == length c.shut then suc n else length c.shut)). cc) (λ m'. none r t m') m
  extend_not i n j c (Some v) facts none = go (n == suc (length c.shut))
    where
      go : (b : Bool) → NotYet A gen j (if b then facts else Extended i n (suc (length c.shut)) ∷ facts)
      go true = none
      go false = λ r t m. ⊎_elim {C = ⊥} (λ (q : AsksConfirm j r t ≡ Extended i n (suc (length c.shut))). cc) (λ m'. none r t m') m

  -- what is known stays known
  pub stays : (s : MachineState A) (x : MachineStep A) (f : Fact A) → In f s.facts → In f (next A gen s x).facts
  stays s (TakesOpen i) f m = inr m
  stays s (TakesExtend i n) f m = extend_stays i n s.core s.core.live s.facts f m
  stays s (TakesConfirm i read end) f m = inr m
  stays s (TakesCheck i v) f m = m
  stays s (AnswersCheck i v) f m = inr m
  stays s (AnswersLate i e x) f m = inr m
  stays s (TakesAppend i append group to v) f m = m
  stays s (Keeps c rest v) f m = m
  stays s (AnswersAppend i append from to group) f m = inr m
  stays s (Seals v) f m = m
  stays s (Opens i) f m = inr m
  stays s (Checks i e) f m = inr m
  stays s (ReadsSealed i n) f m = inr m
  stays s (ReadsChecked i e stood end) f m = inr m
  stays s (Begins i group) f m = inr m
  stays s (Appends i e append group) f m = inr m
  stays s (Extends i n) f m = inr m
  stays s (TakesConfirmed i start end read) f m = inr m
  stays s (TakesAppended i append from to) f m = m

  -- no step by which this incarnation asks for its confirmation
  abbrev Other : ℕ → MachineStep A → Type 0
  Other j (ReadsSealed i n) = j ≡ i → ⊥
  Other j (ReadsChecked i e stood end) = j ≡ i → ⊥
  Other j _ = Unit {0}

  layer_other : (j : ℕ) (x : MachineStep A) → is_layer A gen x ≡ true → Other j x
  layer_other j (ReadsSealed i n) t = absurd (cc)
  layer_other j (ReadsChecked i e stood end) t = absurd (cc)
  layer_other j x t = tt

  not_yet_stays : (s : MachineState A) (x : MachineStep A) (j : ℕ) → Other j x → NotYet A gen j s.facts → NotYet A gen j (next A gen s x).facts
  not_yet_stays s (TakesOpen i) j other none = λ r t m. ⊎_elim {C = ⊥} (λ (q : AsksConfirm j r t ≡ Opened i (count s.core)). cc) (λ m'. none r t m') m
  not_yet_stays s (TakesExtend i n) j other none = extend_not i n j s.core s.core.live s.facts none
  not_yet_stays s (TakesConfirm i read end) j other none = λ r t m. ⊎_elim {C = ⊥} (λ (q : AsksConfirm j r t ≡ Confirmed i read end). cc) (λ m'. none r t m') m
  not_yet_stays s (TakesCheck i v) j other none = none
  not_yet_stays s (AnswersCheck i v) j other none = λ r t m. ⊎_elim {C = ⊥} (λ (q : AsksConfirm j r t ≡ Checked i (length s.core.shut) v.kept v.sure). cc) (λ m'. none r t m') m
  not_yet_stays s (AnswersLate i e x) j other none = λ r t m. ⊎_elim {C = ⊥} (λ (q : AsksConfirm j r t ≡ Checked i e x.copies x.end). cc) (λ m'. none r t m') m
  not_yet_stays s (TakesAppend i append group to v) j other none = none
  not_yet_stays s (Keeps c rest v) j other none = none
  not_yet_stays s (AnswersAppend i append from to group) j other none = λ r t m. ⊎_elim {C = ⊥} (λ (q : AsksConfirm j r t ≡ Appended i append from to). cc) (λ m'. none r t m') m
  not_yet_stays s (Seals v) j other none = none
  not_yet_stays s (Opens i) j other none = λ r t m. ⊎_elim {C = ⊥} (λ (q : AsksConfirm j r t ≡ AsksOpen i). cc) (λ m'. none r t m') m
  not_yet_stays s (Checks i e) j other none = λ r t m. ⊎_elim {C = ⊥} (λ (q : AsksConfirm j r t ≡ AsksCheck i e). cc) (λ m'. none r t m') m
  not_yet_stays s (ReadsSealed i n) j other none = λ r t m. ⊎_elim {C = ⊥} (λ q. other (cc)) (λ m'. none r t m') m
  not_yet_stays s (ReadsChecked i e stood end) j other none = λ r t m. ⊎_elim {C = ⊥} (λ q. other (cc)) (λ m'. none r t m') m
  not_yet_stays s (Begins i group) j other none = λ r t m. ⊎_elim {C = ⊥} (λ (q : AsksConfirm j r t ≡ Begun i (length s.story) group). cc) (λ m'. none r t m') m
  not_yet_stays s (Appends i e append group) j other none = λ r t m. ⊎_elim {C = ⊥} (λ (q : AsksConfirm j r t ≡ AsksAppend i e append group). cc) (λ m'. none r t m') m
  not_yet_stays s (Extends i n) j other none = λ r t m. ⊎_elim {C = ⊥} (λ (q : AsksConfirm j r t ≡ AsksExtend i n). cc) (λ m'. none r t m') m
  not_yet_stays s (TakesConfirmed i start end read) j other none = λ r t m. ⊎_elim {C = ⊥} (λ (q : AsksConfirm j r t ≡ Serves i). cc) (λ m'. none r t m') m
  not_yet_stays s (TakesAppended i append from to) j other none = none

  -- what an incarnation in a phase knows
  abbrev pub Knows : MachineState A → ℕ → Phase A → Type 0
  Knows s i Idle = NotYet A gen i s.facts
  Knows s i Opening = NotYet A gen i s.facts
  Knows s i (Checking e) = NotYet A gen i s.facts
  Knows s i (Sealing e) = NotYet A gen i s.facts
  Knows s i (Confirming n live) = Unit {0}
  Knows s i (Serving n live) = In (Serves i) s.facts
  Knows s i (Sent n append group) = In (Serves i) s.facts × In (Begun i append group) s.facts
  Knows s i (Closing n append group) = In (Serves i) s.facts × In (Begun i append group) s.facts
  Knows s i (Growing n append group) = In (Serves i) s.facts × In (Begun i append group) s.facts

  knows_on : (s : MachineState A) (x : MachineStep A) (j : ℕ) (p : Phase A) → Other j x → Knows s j p → Knows (next A gen s x) j p
  knows_on s x j Idle o k = not_yet_stays s x j o k
  knows_on s x j Opening o k = not_yet_stays s x j o k
  knows_on s x j (Checking e) o k = not_yet_stays s x j o k
  knows_on s x j (Sealing e) o k = not_yet_stays s x j o k
  knows_on s x j (Confirming n live) o k = tt
  knows_on s x j (Serving n live) o k = stays s x (Serves j) k
  knows_on s x j (Sent n append group) o k = (stays s x (Serves j) k.0, stays s x (Begun j append group) k.1)
  knows_on s x j (Closing n append group) o k = (stays s x (Serves j) k.0, stays s x (Begun j append group) k.1)
  knows_on s x j (Growing n append group) o k = (stays s x (Serves j) k.0, stays s x (Begun j append group) k.1)

  abbrev pub Ran : MachineState A → Type 0
  Ran s = (steps : List (MachineStep A)) × IsRun A gen steps × (s ≡ after A gen steps)

  abbrev pub Good : Whole A gen → Type 0
  Good w = Ran w.state × ((i : ℕ) → Knows w.state i (w.phase i))

  ran_on : (s : MachineState A) (x : MachineStep A) → May A gen s x → Ran s → Ran (next A gen s x)
  ran_on s x may (steps, ok, e) = (x ∷ steps, (subst (λ z. May A gen z x) e may, ok), ap (λ z. next A gen z x) e)

  settle : (s : MachineState A) (phase : ℕ → Phase A) (i : ℕ) (p : Phase A) → Knows s i p → ((j : ℕ) → (j ≡ i → ⊥) → Knows s j (phase j)) →
      (j : ℕ) → Knows s j (if j == i then p else phase j)
  settle s phase i p mine others j = go (j == i) refl
    where
      go : (b : Bool) → (j == i) ≡ b → Knows s j (if b then p else phase j)
      go true e = let same : i ≡ j = grind (arith, nat_tests) in subst (λ z. Knows s z p) same mine
      go false e = others j (λ q. grind (arith, nat_tests))

  -- a turn of one step
  single : (s : MachineState A) (phase : ℕ → Phase A) (i : ℕ) (x : MachineStep A) (p : Phase A) → Ran s → ((j : ℕ) → Knows s j (phase j)) → May A gen s x → ((j : ℕ) → (j ≡ i → ⊥) → Other j x) →
      Knows (next A gen s x) i p → Good (record { state = next A gen s x; phase = λ j. if j == i then p else phase j })
  single s phase i x p ran knows may other mine =
      (ran_on s x may ran, settle (next A gen s x) phase i p mine (λ j o. knows_on s x j (phase j) (other j o) (knows j)))

  -- a turn of none
  still : (s : MachineState A) (phase : ℕ → Phase A) (i : ℕ) (p : Phase A) → Ran s → ((j : ℕ) → Knows s j (phase j)) → Knows s i p → Good (record { state = s; phase = λ j. if j == i then p else phase j })
  still s phase i p ran knows mine = (ran, settle s phase i p mine (λ j o. knows j))

  -- a group is formed: the job begins and its first packet leaves
  forming : (s : MachineState A) (phase : ℕ → Phase A) (i n : ℕ) (group : A) (live : Bool) → Ran s → ((j : ℕ) → Knows s j (phase j)) → In (Serves i) s.facts →
      Good (record { state = all_next A gen s (forms A gen i n (length s.story) group live ++ Begins i group ∷ []); phase = λ j. if j == i then formed A gen n (length s.story) group live else phase j })
  forming s phase i zero group live ran knows mine =
      let s1 : MachineState A = next A gen s (Begins i group) in
      let r1 : Ran s1 = ran_on s (Begins i group) mine ran in (
        ran_on s1 (Extends i 0) (inr mine) r1,
        settle (next A gen s1 (Extends i 0)) phase i (Growing 0 (length s.story) group) (inr (inr mine), inr (inl refl))
            (λ j o. knows_on s1 (Extends i 0) j (phase j) tt (knows_on s (Begins i group) j (phase j) tt (knows j))),
      )
  forming s phase i (suc e) group true ran knows mine =
      let s1 : MachineState A = next A gen s (Begins i group) in
      let r1 : Ran s1 = ran_on s (Begins i group) mine ran in (
        ran_on s1 (Appends i e (length s.story) group) (inl refl) r1,
        settle (next A gen s1 (Appends i e (length s.story) group)) phase i (Sent (suc e) (length s.story) group) (inr (inr mine), inr (inl refl))
            (λ j o. knows_on s1 (Appends i e (length s.story) group) j (phase j) tt (knows_on s (Begins i group) j (phase j) tt (knows j))),
      )
  forming s phase i (suc e) group false ran knows mine =
      let s1 : MachineState A = next A gen s (Begins i group) in
      let r1 : Ran s1 = ran_on s (Begins i group) mine ran in (
        ran_on s1 (Extends i (suc e)) (inr mine) r1,
        settle (next A gen s1 (Extends i (suc e))) phase i (Growing (suc e) (length s.story) group) (inr (inr mine), inr (inl refl))
            (λ j o. knows_on s1 (Extends i (suc e)) j (phase j) tt (knows_on s (Begins i group) j (phase j) tt (knows j))),
      )

  turned : (s : MachineState A) (phase : ℕ → Phase A) (i : ℕ) (p : Phase A) (turn : Turn A) → Ran s → ((j : ℕ) → Knows s j (phase j)) → Knows s i p → IsTurn A gen s i p turn →
      Good (record { state = all_next A gen s (does A gen s i p turn); phase = λ j. if j == i then becomes A gen s p turn else phase j })
  turned s phase i Idle Assigned ran knows mine may = single s phase i (Opens i) Opening ran knows tt (λ j o. tt) (not_yet_stays s (Opens i) i tt mine)
  turned s phase i Opening (AllSealed n) ran knows mine may = single s phase i (ReadsSealed i n) (Confirming n false) ran knows (may.0, may.1, mine) (λ j o. o) tt
  turned s phase i Opening (LastOpen e) ran knows mine may = single s phase i (Checks i e) (Checking e) ran knows tt (λ j o. tt) (not_yet_stays s (Checks i e) i tt mine)
  turned s phase i (Checking e) (Found stood end) ran knows mine may = single s phase i (ReadsChecked i e stood end) (Confirming (suc e) true) ran knows (may.0, may.1, mine) (λ j o. o) tt
  turned s phase i (Checking e) Fails ran knows mine may = still s phase i (Sealing e) ran knows mine
  turned s phase i (Sealing e) IsShut ran knows mine may = single s phase i (ReadsSealed i (suc e)) (Confirming (suc e) false) ran knows (may.0, may.1, mine) (λ j o. o) tt
  turned s phase i (Confirming n live) (ConfirmedIs start end read) ran knows mine may = single s phase i (TakesConfirmed i start end read) (Serving n live) ran knows may (λ j o. tt) (inl refl)
  turned s phase i (Serving n live) (Forms group) ran knows mine may = forming s phase i n group live ran knows mine
  turned s phase i (Sent n append group) (AppendedAt from to) ran knows mine may = single s phase i (TakesAppended i append from to) (Serving n true) ran knows may (λ j o. tt) mine.0
  turned s phase i (Sent n append group) Fails ran knows mine may = still s phase i (Closing n append group) ran knows mine
  turned s phase i (Closing n append group) IsShut ran knows mine may = single s phase i (Extends i n) (Growing n append group) ran knows mine.0 (λ j o. tt) (inr mine.0, inr mine.1)
  turned s phase i (Growing n append group) (ExtendedTo m) ran knows mine may = single s phase i (Appends i n append group) (Sent (suc n) append group) ran knows mine.1 (λ j o. tt) (inr mine.0, inr mine.1)
  turned s phase i p turn ran knows mine may = absurd may

  goes_on : (w : Whole A gen) (m : Move A gen) → MayMove A gen w m → Good w → Good (moved A gen w m)
  goes_on w (Below x) (layer, may) (ran, knows) = (ran_on w.state x may ran, λ j. knows_on w.state x j (w.phase j) (layer_other j x layer) (knows j))
  goes_on w (Above i turn) may (ran, knows) = turned w.state w.phase i (w.phase i) turn ran knows (knows i) may

  pub all_good : (moves : List (Move A gen)) → AreMoves A gen moves → Good (after_all A gen moves)
  all_good [] ok = (([], tt, refl), λ i r t m. absurd m)
  all_good (m ∷ earlier) ok = goes_on (after_all A gen earlier) m ok.0 (all_good earlier ok.1)

  -- whatever the nodes and the manager do, and however packets are late, lost or repeated, servers that follow their table see a stream that keeps its order
  pub clients_keep_order : (moves : List (Move A gen)) → AreMoves A gen moves → KeepsOrder (after_all A gen moves).state.story
  clients_keep_order moves ok =
      let g : Good (after_all A gen moves) = all_good moves ok in
      subst (λ z. KeepsOrder z.story) (sym (g.0).2) (stream_keeps_order A gen (g.0).0 (g.0).1)

  -- nor does a load of a higher generation end before one of a lower
  pub clients_ends_rise : (moves : List (Move A gen)) → AreMoves A gen moves → EndsRise (after_all A gen moves).state.story
  clients_ends_rise moves ok =
      let g : Good (after_all A gen moves) = all_good moves ok in
      subst (λ z. EndsRise z.story) (sym (g.0).2) (stream_ends_rise A gen (g.0).0 (g.0).1)
