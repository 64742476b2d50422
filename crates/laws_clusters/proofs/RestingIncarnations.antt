-- What a generation has done with a stream, while no append under it is out and none is begun: nothing under it is answered any more.
use Rattle.std.proofs.Common.{◌≡◌, ℕ, zero, suc, ◌≤◌, ◌<◌, ◌+◌, List, ◌∷◌, [], ◌++◌, length, map, Bool, true, false, Option, Some, None, refl, sym, ap, ◌∙◌, subst, ⊎_elim, arith, if◌then◌else◌, ◌==◌, append_assoc, length-append}
use Rattle.std.proofs.lemmas.Bool.Decides.{nat_tests}
use Rattle.replica.specs.Groups.{Group}
use Rattle.model_histories.specs.Story.{Placed, StreamEvent, Made, Answered, Showed, Story, event_at, placed, from_place}
use Rattle.model_histories.specs.StreamMachine.{MachineState, MachineStep, Begins, TakesConfirmed, TakesAppended, next}
use Rattle.model_histories.specs.ServerTurns.{Phase, Idle, Opening, Checking, Sealing, Confirming, Serving, Sent, Closing, Growing, Turn, Assigned, AllSealed, LastOpen, Found, Fails, IsShut, ConfirmedIs, Forms, AppendedAt, ExtendedTo, IsTurn, becomes, does, formed, all_next, Whole, Move, Below, Above, after_all, AreMoves}
use Rattle.laws_tables.specs.Built.{story_of, HasLoad, AnsweredBy}
use Rattle.laws_tables.proofs.Range.{event_cases, newest, older, bound}
use Rattle.laws_clusters.proofs.GrownLists.{GrewFrom}
use Rattle.laws_clusters.proofs.LayerSteps.{layer_same}
use Rattle.laws_clusters.proofs.LoadedOnce.{IsUp, up_once}

-- the append that is out, by the event of its beginning
abbrev pub out_of : Phase Group → Option ℕ
out_of (Sent n append group) = Some append
out_of (Closing n append group) = Some append
out_of (Growing n append group) = Some append
out_of phase = None

module _ (generation : ℕ → ℕ) where
  abbrev Moves : Type 0
  Moves = List (Move Group generation)

  abbrev State : Type 0
  State = MachineState Group

  abbrev set : (ℕ → Phase Group) → ℕ → Phase Group → ℕ → Phase Group
  set phase i p = λ j. if j == i then p else phase j

  -- what holds of the new phase at i, and of each other as before, holds of all
  at_each : (P : ℕ → Phase Group → Type 0) (phase : ℕ → Phase Group) (i : ℕ) (p : Phase Group) → P i p → ((j : ℕ) → (j ≡ i → ⊥) → P j (phase j)) → (j : ℕ) → P j (set phase i p j)
  at_each P phase i p mine others j = go (j == i) refl
    where
      go : (b : Bool) → (j == i) ≡ b → P j (if b then p else phase j)
      go true e = let same : i ≡ j = grind (arith, nat_tests) in subst (λ z. P z p) same mine
      go false e = others j (λ same. grind (arith, nat_tests))

  -- ---- what is served was loaded, and what is out was begun

  abbrev IsBegun : Story Group → ℕ → ℕ → Type 0
  IsBegun story i a = (group : Group) × (event_at story a ≡ Some (Made (generation i) group))

  record Tells (story : Story Group) (i : ℕ) (p : Phase Group) : Type 0 where
    loaded : IsUp generation p → HasLoad Group generation story (generation i)
    begun : (a : ℕ) → out_of p ≡ Some a → IsBegun story i a

  tells_more : (e : StreamEvent Group) (story : Story Group) (i : ℕ) (p : Phase Group) → Tells story i p → Tells (e ∷ story) i p
  tells_more e story i p t = record {
    loaded = λ up. (let l = t.loaded up in (l.0, l.1, l.2, l.3, older Group e story l.0 (Showed (generation i) l.1 l.2 l.3) l.4));
    begun = λ a out. (let b = t.begun a out in (b.0, older Group e story a (Made (generation i) b.0) b.1));
  }

  -- a phase in which nothing is out, and which is up only if this one was
  quiet : (story : Story Group) (i : ℕ) (p q : Phase Group) → Tells story i p → (IsUp generation q → IsUp generation p) → out_of q ≡ None → Tells story i q
  quiet story i p q t up none = record { loaded = λ u. t.loaded (up u); begun = λ a out. absurd (let z : None ≡ Some a = sym none ∙ out in cc) }

  module _ (s : State) (phase : ℕ → Phase Group) (i : ℕ) (all : (j : ℕ) → Tells s.story j (phase j)) where
    mine : (p : Phase Group) → phase i ≡ p → Tells s.story i p
    mine p e = subst (Tells s.story i) e (all i)

    same : (q : Phase Group) → Tells s.story i q → (j : ℕ) → Tells s.story j (set phase i q j)
    same q t = at_each (Tells s.story) phase i q t (λ j apart. all j)

    more : (e : StreamEvent Group) (q : Phase Group) → Tells (e ∷ s.story) i q → (j : ℕ) → Tells (e ∷ s.story) j (set phase i q j)
    more e q t = at_each (Tells (e ∷ s.story)) phase i q t (λ j apart. tells_more e s.story j (phase j) (all j))

    forming : (group : Group) (n : ℕ) (live : Bool) → Tells s.story i (Serving n live) → Tells (Made (generation i) group ∷ s.story) i (formed Group generation n (length s.story) group live)
    forming group n live t = record { loaded = λ up. (tells_more (Made (generation i) group) s.story i (Serving n live) t).loaded tt; begun = λ a out. out_begun n live a out }
      where
        first : (a : ℕ) → Some (length s.story) ≡ Some a → IsBegun (Made (generation i) group ∷ s.story) i a
        first a e = let at : length s.story ≡ a = cc in (group, subst (λ k. event_at (Made (generation i) group ∷ s.story) k ≡ Some (Made (generation i) group)) at (newest Group (Made (generation i) group) s.story))

        out_begun : (n : ℕ) (live : Bool) (a : ℕ) → out_of (formed Group generation n (length s.story) group live) ≡ Some a → IsBegun (Made (generation i) group ∷ s.story) i a
        out_begun zero live a e = first a e
        out_begun (suc k) true a e = first a e
        out_begun (suc k) false a e = first a e

    turn_tells : (p : Phase Group) (turn : Turn Group) → phase i ≡ p → IsTurn Group generation s i p turn →
        (j : ℕ) → Tells (all_next Group generation s (does Group generation s i p turn)).story j (set phase i (becomes Group generation s p turn) j)
    turn_tells Idle Assigned e may = same Opening (quiet s.story i Idle Opening (mine Idle e) (λ u. u) refl)
    turn_tells Opening (AllSealed n) e may = same (Confirming n false) (quiet s.story i Opening (Confirming n false) (mine Opening e) (λ u. u) refl)
    turn_tells Opening (LastOpen x) e may = same (Checking x) (quiet s.story i Opening (Checking x) (mine Opening e) (λ u. u) refl)
    turn_tells (Checking x) (Found stood end) e may = same (Confirming (suc x) true) (quiet s.story i (Checking x) (Confirming (suc x) true) (mine (Checking x) e) (λ u. u) refl)
    turn_tells (Checking x) Fails e may = same (Sealing x) (quiet s.story i (Checking x) (Sealing x) (mine (Checking x) e) (λ u. u) refl)
    turn_tells (Sealing x) IsShut e may = same (Confirming (suc x) false) (quiet s.story i (Sealing x) (Confirming (suc x) false) (mine (Sealing x) e) (λ u. u) refl)
    turn_tells (Confirming n live) (ConfirmedIs start end read) e may =
        more (Showed (generation i) start end (map placed (from_place start read))) (Serving n live)
        (record { loaded = λ up. (length s.story, start, end, map placed (from_place start read), newest Group (Showed (generation i) start end (map placed (from_place start read))) s.story); begun = λ a out. absurd cc })
    turn_tells (Serving zero live) (Forms group) e may = more (Made (generation i) group) (Growing 0 (length s.story) group) (forming group zero live (mine (Serving zero live) e))
    turn_tells (Serving (suc k) true) (Forms group) e may = more (Made (generation i) group) (Sent (suc k) (length s.story) group) (forming group (suc k) true (mine (Serving (suc k) true) e))
    turn_tells (Serving (suc k) false) (Forms group) e may = more (Made (generation i) group) (Growing (suc k) (length s.story) group) (forming group (suc k) false (mine (Serving (suc k) false) e))
    turn_tells (Sent n append group) (AppendedAt from to) e may =
        more (Answered append from to) (Serving n true) (quiet (Answered append from to ∷ s.story) i (Sent n append group) (Serving n true) (tells_more (Answered append from to) s.story i (Sent n append group) (mine (Sent n append group) e)) (λ u. u) refl)
    turn_tells (Sent n append group) Fails e may = same (Closing n append group) (record { loaded = (mine (Sent n append group) e).loaded; begun = (mine (Sent n append group) e).begun })
    turn_tells (Closing n append group) IsShut e may = same (Growing n append group) (record { loaded = (mine (Closing n append group) e).loaded; begun = (mine (Closing n append group) e).begun })
    turn_tells (Growing n append group) (ExtendedTo m) e may = same (Sent (suc n) append group) (record { loaded = (mine (Growing n append group) e).loaded; begun = (mine (Growing n append group) e).begun })
    turn_tells p turn e may = absurd may

  all_tell : (moves : Moves) → AreMoves Group generation moves → (i : ℕ) → Tells (story_of Group generation moves) i ((after_all Group generation moves).phase i)
  all_tell [] ok i = record { loaded = λ up. absurd up; begun = λ a out. absurd cc }
  all_tell (Below x ∷ earlier) ok i =
      let w : Whole Group generation = after_all Group generation earlier in
      subst (λ story. Tells story i (w.phase i)) (sym (layer_same generation w.state x ok.0.0)) (all_tell earlier ok.1 i)
  all_tell (Above j turn ∷ earlier) ok i =
      let w : Whole Group generation = after_all Group generation earlier in
      turn_tells w.state w.phase j (all_tell earlier ok.1) (w.phase j) turn refl ok.0 i

  -- a generation that is served was loaded
  pub up_loaded : (moves : Moves) → AreMoves Group generation moves → (i : ℕ) → IsUp generation ((after_all Group generation moves).phase i) → HasLoad Group generation (story_of Group generation moves) (generation i)
  up_loaded moves ok i up = (all_tell moves ok i).loaded up

  -- what was begun under a generation was begun after its load
  abbrev pub IsLoadedBefore : Story Group → ℕ → ℕ → Type 0
  IsLoadedBefore story a g = (l : ℕ) × (start : ℕ) × (end : ℕ) × (groups : List (Placed Group)) × (event_at story l ≡ Some (Showed g start end groups)) × (l < a)

  AreLoadedBefore : Story Group → Type 0
  AreLoadedBefore story = (a g : ℕ) (group : Group) → event_at story a ≡ Some (Made g group) → IsLoadedBefore story a g

  loaded_more : (e : StreamEvent Group) (story : Story Group) (a g : ℕ) → IsLoadedBefore story a g → IsLoadedBefore (e ∷ story) a g
  loaded_more e story a g l = (l.0, l.1, l.2, l.3, older Group e story l.0 (Showed g l.1 l.2 l.3) l.4, l.5)

  other_loaded : (e : StreamEvent Group) (story : Story Group) → ((g : ℕ) (group : Group) → e ≡ Made g group → ⊥) → AreLoadedBefore story → AreLoadedBefore (e ∷ story)
  unfolding AreLoadedBefore
  other_loaded e story apart all a g group made =
      ⊎_elim {C = IsLoadedBefore (e ∷ story) a g} (λ new. absurd (apart g group new.1)) (λ old. loaded_more e story a g (all a g group old)) (event_cases Group e story a (Made g group) made)

  made_loaded_one : (i : ℕ) (new : Group) (story : Story Group) → HasLoad Group generation story (generation i) → AreLoadedBefore story → AreLoadedBefore (Made (generation i) new ∷ story)
  unfolding AreLoadedBefore
  made_loaded_one i new story load all a g group made =
      ⊎_elim {C = IsLoadedBefore (Made (generation i) new ∷ story) a g}
      (λ now.
      (let same : generation i ≡ g = (let e : Made (generation i) new ≡ Made g group = now.1 in cc) in
      let less : load.0 < length story = bound Group story load.0 (Showed (generation i) load.1 load.2 load.3) load.4 in
      let at : a ≡ length story = now.0 in
      loaded_more (Made (generation i) new) story a g (load.0, load.1, load.2, load.3, subst (λ h. event_at story load.0 ≡ Some (Showed h load.1 load.2 load.3)) same load.4, omega (arith, less, at))))
      (λ old. loaded_more (Made (generation i) new) story a g (all a g group old)) (event_cases Group (Made (generation i) new) story a (Made g group) made)

  turn_loaded : (s : State) (i : ℕ) (p : Phase Group) (turn : Turn Group) → Tells s.story i p → IsTurn Group generation s i p turn → AreLoadedBefore s.story → AreLoadedBefore (all_next Group generation s (does Group generation s i p turn)).story
  turn_loaded s i Idle Assigned t may all = all
  turn_loaded s i Opening (AllSealed n) t may all = all
  turn_loaded s i Opening (LastOpen x) t may all = all
  turn_loaded s i (Checking x) (Found stood end) t may all = all
  turn_loaded s i (Checking x) Fails t may all = all
  turn_loaded s i (Sealing x) IsShut t may all = all
  turn_loaded s i (Confirming n live) (ConfirmedIs start end read) t may all = other_loaded (Showed (generation i) start end (map placed (from_place start read))) s.story (λ g group e. cc) all
  turn_loaded s i (Serving zero live) (Forms group) t may all = made_loaded_one i group s.story (t.loaded tt) all
  turn_loaded s i (Serving (suc k) true) (Forms group) t may all = made_loaded_one i group s.story (t.loaded tt) all
  turn_loaded s i (Serving (suc k) false) (Forms group) t may all = made_loaded_one i group s.story (t.loaded tt) all
  turn_loaded s i (Sent n append group) (AppendedAt from to) t may all = other_loaded (Answered append from to) s.story (λ g x e. cc) all
  turn_loaded s i (Sent n append group) Fails t may all = all
  turn_loaded s i (Closing n append group) IsShut t may all = all
  turn_loaded s i (Growing n append group) (ExtendedTo m) t may all = all
  turn_loaded s i p turn t may all = absurd may

  loaded_before : (moves : Moves) → AreMoves Group generation moves → AreLoadedBefore (story_of Group generation moves)
  unfolding AreLoadedBefore
  loaded_before [] ok = λ a g group made. absurd cc
  loaded_before (Below x ∷ earlier) ok =
      let w : Whole Group generation = after_all Group generation earlier in
      subst AreLoadedBefore (sym (layer_same generation w.state x ok.0.0)) (loaded_before earlier ok.1)
  loaded_before (Above i turn ∷ earlier) ok =
      let w : Whole Group generation = after_all Group generation earlier in
      turn_loaded w.state i (w.phase i) turn (all_tell earlier ok.1 i) ok.0 (loaded_before earlier ok.1)

  pub made_loaded : (moves : Moves) → AreMoves Group generation moves → (a g : ℕ) (group : Group) → event_at (story_of Group generation moves) a ≡ Some (Made g group) → IsLoadedBefore (story_of Group generation moves) a g
  unfolding AreLoadedBefore
  made_loaded moves ok = loaded_before moves ok

  -- ---- a generation that rests

  -- no append under it is out
  abbrev RestsIn : ℕ → (ℕ → Phase Group) → Type 0
  RestsIn g phase = (i : ℕ) → generation i ≡ g → out_of (phase i) ≡ None

  abbrev pub Rests : ℕ → Moves → Type 0
  Rests g moves = RestsIn g (after_all Group generation moves).phase

  out_up : (p : Phase Group) (a : ℕ) → out_of p ≡ Some a → IsUp generation p
  out_up (Sent n append group) a e = tt
  out_up (Closing n append group) a e = tt
  out_up (Growing n append group) a e = tt
  out_up Idle a e = absurd cc
  out_up Opening a e = absurd cc
  out_up (Checking x) a e = absurd cc
  out_up (Sealing x) a e = absurd cc
  out_up (Confirming n live) a e = absurd cc
  out_up (Serving n live) a e = absurd cc

  serving_up : (p : Phase Group) (n : ℕ) (live : Bool) → p ≡ Serving n live → IsUp generation p × (out_of p ≡ None)
  serving_up p n live e = (subst (IsUp generation) (sym e) tt, ap out_of e)

  -- where one of its incarnations is served and has nothing out
  pub one_rests : (moves : Moves) → AreMoves Group generation moves → (i n : ℕ) (live : Bool) → (after_all Group generation moves).phase i ≡ Serving n live → Rests (generation i) moves
  one_rests moves ok i n live e j same = by (out_of ((after_all Group generation moves).phase j)) refl
    where
      here : IsUp generation ((after_all Group generation moves).phase i) × (out_of ((after_all Group generation moves).phase i) ≡ None)
      here = serving_up ((after_all Group generation moves).phase i) n live e

      by : (o : Option ℕ) → out_of ((after_all Group generation moves).phase j) ≡ o → o ≡ None
      by None is = refl
      by (Some a) is =
          let one : j ≡ i = up_once generation moves ok j i (out_up ((after_all Group generation moves).phase j) a is) here.0 same in
          absurd (let z : None ≡ Some a = sym here.1 ∙ ap (λ k. out_of ((after_all Group generation moves).phase k)) (sym one) ∙ is in cc)

  pub one_loaded : (moves : Moves) → AreMoves Group generation moves → (i n : ℕ) (live : Bool) → (after_all Group generation moves).phase i ≡ Serving n live → HasLoad Group generation (story_of Group generation moves) (generation i)
  one_loaded moves ok i n live e = up_loaded moves ok i (serving_up ((after_all Group generation moves).phase i) n live e).0

  -- all that this story has of the generation was begun before its front
  abbrev pub BegunBy : ℕ → Story Group → Story Group → Type 0
  BegunBy g front story = (a : ℕ) (group : Group) → event_at story a ≡ Some (Made g group) → a < length front

  module _ (g : ℕ) (front : Story Group) where
    -- nothing is out under it, and nothing was answered since
    record IsCalm (story : Story Group) (phase : ℕ → Phase Group) : Type 0 where
      longer : length front ≤ length story
      rests : RestsIn g phase
      answered : AnsweredBy Group generation g front story

    module _ (s : State) (phase : ℕ → Phase Group) (i : ℕ) (tells : (j : ℕ) → Tells s.story j (phase j)) (c : IsCalm s.story phase) where
      all_rest : (q : Phase Group) → (generation i ≡ g → out_of q ≡ None) → RestsIn g (set phase i q)
      all_rest q none = at_each (λ j p. generation j ≡ g → out_of p ≡ None) phase i q none (λ j apart. c.rests j)

      same_calm : (q : Phase Group) → (generation i ≡ g → out_of q ≡ None) → IsCalm s.story (set phase i q)
      same_calm q none = record { longer = c.longer; rests = all_rest q none; answered = c.answered }

      -- the phase in which it was
      was : (p : Phase Group) → phase i ≡ p → generation i ≡ g → out_of p ≡ None
      was p e same = ap out_of (sym e) ∙ c.rests i same

      -- what was begun under it was begun before, and what was answered of it too
      more_calm : (e : StreamEvent Group) (q : Phase Group) → (generation i ≡ g → out_of q ≡ None) → ((group : Group) → e ≡ Made g group → ⊥) →
          ((a from to : ℕ) (group : Group) → e ≡ Answered a from to → event_at s.story a ≡ Some (Made g group) → ⊥) → IsCalm (e ∷ s.story) (set phase i q)
      more_calm e q none apart other = record {
        longer = (let l = c.longer in omega (arith, l));
        rests = all_rest q none;
        answered = λ a k from to x made answer.
            (let old : event_at s.story a ≡ Some (Made g x) = ⊎_elim {C = event_at s.story a ≡ Some (Made g x)} (λ new. absurd (apart x new.1)) (λ o. o) (event_cases Group e s.story a (Made g x) made) in
            ⊎_elim {C = k < length front} (λ new. absurd (other a from to x new.1 old)) (λ o. c.answered a k from to x old o) (event_cases Group e s.story k (Answered a from to) answer));
      }

      forms_calm : (group : Group) (q : Phase Group) → BegunBy g front (Made (generation i) group ∷ s.story) → IsCalm (Made (generation i) group ∷ s.story) (set phase i q)
      forms_calm group q begun = more_calm (Made (generation i) group) q (λ same. absurd (another same)) (λ x e. another (let same : generation i ≡ g = cc in same)) (λ a from to x e. absurd cc)
        where
          another : generation i ≡ g → ⊥
          another same =
              let less : length s.story < length front =
              begun (length s.story) group (subst (λ h. event_at (Made (generation i) group ∷ s.story) (length s.story) ≡ Some (Made h group)) same (newest Group (Made (generation i) group) s.story)) in
              let l = c.longer in
              omega (arith, less, l)

      some_none : (a : ℕ) → Some a ≡ None → ⊥
      some_none a e = cc

      turn_calm : (p : Phase Group) (turn : Turn Group) → phase i ≡ p → IsTurn Group generation s i p turn → BegunBy g front (all_next Group generation s (does Group generation s i p turn)).story →
          IsCalm (all_next Group generation s (does Group generation s i p turn)).story (set phase i (becomes Group generation s p turn))
      turn_calm Idle Assigned e may begun = same_calm Opening (λ same. refl)
      turn_calm Opening (AllSealed n) e may begun = same_calm (Confirming n false) (λ same. refl)
      turn_calm Opening (LastOpen x) e may begun = same_calm (Checking x) (λ same. refl)
      turn_calm (Checking x) (Found stood end) e may begun = same_calm (Confirming (suc x) true) (λ same. refl)
      turn_calm (Checking x) Fails e may begun = same_calm (Sealing x) (λ same. refl)
      turn_calm (Sealing x) IsShut e may begun = same_calm (Confirming (suc x) false) (λ same. refl)
      turn_calm (Confirming n live) (ConfirmedIs start end read) e may begun =
          more_calm (Showed (generation i) start end (map placed (from_place start read))) (Serving n live) (λ same. refl) (λ x z. cc) (λ a from to x z. absurd cc)
      turn_calm (Serving zero live) (Forms group) e may begun = forms_calm group (Growing 0 (length s.story) group) begun
      turn_calm (Serving (suc k) true) (Forms group) e may begun = forms_calm group (Sent (suc k) (length s.story) group) begun
      turn_calm (Serving (suc k) false) (Forms group) e may begun = forms_calm group (Growing (suc k) (length s.story) group) begun
      turn_calm (Sent n append group) (AppendedAt from to) e may begun =
          more_calm (Answered append from to) (Serving n true) (λ same. refl) (λ x z. cc)
          (λ a from' to' x z made.
          (let at : append ≡ a = cc in
          let b = (subst (Tells s.story i) e (tells i)).begun append refl in
          let both : Some (Made (generation i) b.0) ≡ Some (Made g x) = sym b.1 ∙ ap (event_at s.story) at ∙ made in
          let same : generation i ≡ g = cc in
          some_none append (was (Sent n append group) e same)))
      turn_calm (Sent n append group) Fails e may begun = same_calm (Closing n append group) (λ same. absurd (some_none append (was (Sent n append group) e same)))
      turn_calm (Closing n append group) IsShut e may begun = same_calm (Growing n append group) (λ same. absurd (some_none append (was (Closing n append group) e same)))
      turn_calm (Growing n append group) (ExtendedTo m) e may begun = same_calm (Sent (suc n) append group) (λ same. absurd (some_none append (was (Growing n append group) e same)))
      turn_calm p turn e may begun = absurd may

  -- ---- whatever comes

  -- a story goes on from another
  abbrev pub GoesOn : Story Group → Story Group → Type 0
  GoesOn story later = (front : Story Group) × (later ≡ front ++ story)

  goes_twice : (x y z : Story Group) → GoesOn x y → GoesOn y z → GoesOn x z
  goes_twice x y z p q = (q.0 ++ p.0, q.1 ∙ ap (λ w. q.0 ++ w) p.1 ∙ sym (append_assoc q.0 p.0 x))

  step_goes : (s : State) (x : MachineStep Group) → GoesOn s.story (next Group generation s x).story
  step_goes s (Begins i group) = (Made (generation i) group ∷ [], refl)
  step_goes s (TakesConfirmed i start end read) = (Showed (generation i) start end (map placed (from_place start read)) ∷ [], refl)
  step_goes s (TakesAppended i append from to) = (Answered append from to ∷ [], refl)
  step_goes s x = ([], refl)

  steps_go : (s : State) (steps : List (MachineStep Group)) → GoesOn s.story (all_next Group generation s steps).story
  steps_go s [] = ([], refl)
  steps_go s (x ∷ earlier) = goes_twice s.story (all_next Group generation s earlier).story (next Group generation (all_next Group generation s earlier) x).story (steps_go s earlier) (step_goes (all_next Group generation s earlier) x)

  move_goes : (m : Move Group generation) (earlier : Moves) → GoesOn (story_of Group generation earlier) (story_of Group generation (m ∷ earlier))
  move_goes (Below x) earlier = step_goes (after_all Group generation earlier).state x
  move_goes (Above i turn) earlier =
      let w : Whole Group generation = after_all Group generation earlier in
      steps_go w.state (does Group generation w.state i (w.phase i) turn)

  -- the story of more moves goes on from that of fewer
  pub story_goes : (late early : Moves) → GoesOn (story_of Group generation early) (story_of Group generation (late ++ early))
  story_goes [] early = ([], refl)
  story_goes (m ∷ late) early = goes_twice (story_of Group generation early) (story_of Group generation (late ++ early)) (story_of Group generation (m ∷ (late ++ early))) (story_goes late early) (move_goes m (late ++ early))

  stood_behind : (front story : Story Group) (n : ℕ) (e : StreamEvent Group) → event_at story n ≡ Some e → event_at (front ++ story) n ≡ Some e
  stood_behind [] story n e h = h
  stood_behind (f ∷ front) story n e h = older Group f (front ++ story) n e (stood_behind front story n e h)

  stood_before : (front story : Story Group) (n : ℕ) (e : StreamEvent Group) → event_at (front ++ story) n ≡ Some e → n < length story → event_at story n ≡ Some e
  stood_before [] story n e h less = h
  stood_before (f ∷ front) story n e h less =
      let len : length (front ++ story) ≡ length front + length story = length-append front story in
      ⊎_elim {C = event_at story n ≡ Some e} (λ new. (let at : n ≡ length (front ++ story) = new.0 in absurd (omega (arith, at, len, less)))) (λ o. stood_before front story n e o less) (event_cases Group f (front ++ story) n e h)

  -- what stood in a story stands in one that goes on from it, and what stands there early stood in it
  pub stands_on : (story later : Story Group) → GoesOn story later → (n : ℕ) (e : StreamEvent Group) → event_at story n ≡ Some e → event_at later n ≡ Some e
  stands_on story later goes n e h = subst (λ z. event_at z n ≡ Some e) (sym goes.1) (stood_behind goes.0 story n e h)

  pub stands_early : (story later : Story Group) → GoesOn story later → (n : ℕ) (e : StreamEvent Group) → event_at later n ≡ Some e → n < length story → event_at story n ≡ Some e
  stands_early story later goes n e h = stood_before goes.0 story n e (subst (λ z. event_at z n ≡ Some e) goes.1 h)

  pub event_later : (late early : Moves) (n : ℕ) (e : StreamEvent Group) → event_at (story_of Group generation early) n ≡ Some e → event_at (story_of Group generation (late ++ early)) n ≡ Some e
  event_later late early = stands_on (story_of Group generation early) (story_of Group generation (late ++ early)) (story_goes late early)

  pub event_early : (late early : Moves) (n : ℕ) (e : StreamEvent Group) → event_at (story_of Group generation (late ++ early)) n ≡ Some e → n < length (story_of Group generation early) → event_at (story_of Group generation early) n ≡ Some e
  event_early late early = stands_early (story_of Group generation early) (story_of Group generation (late ++ early)) (story_goes late early)

  move_older : (m : Move Group generation) (earlier : Moves) (n : ℕ) (e : StreamEvent Group) → event_at (story_of Group generation earlier) n ≡ Some e → event_at (story_of Group generation (m ∷ earlier)) n ≡ Some e
  move_older m earlier = stands_on (story_of Group generation earlier) (story_of Group generation (m ∷ earlier)) (move_goes m earlier)

  module _ (g : ℕ) (early : Moves) (rests : Rests g early) where
    calm_moves : (late : Moves) → AreMoves Group generation (late ++ early) → BegunBy g (story_of Group generation early) (story_of Group generation (late ++ early)) →
        IsCalm g (story_of Group generation early) (story_of Group generation (late ++ early)) (after_all Group generation (late ++ early)).phase
    calm_moves [] ok begun = record { longer = omega arith; rests = rests; answered = λ a k from to x made answer. bound Group (story_of Group generation early) k (Answered a from to) answer }
    calm_moves (Below x ∷ late) ok begun =
        let w : Whole Group generation = after_all Group generation (late ++ early) in
        subst (λ story. IsCalm g (story_of Group generation early) story w.phase) (sym (layer_same generation w.state x ok.0.0))
        (calm_moves late ok.1 (λ a group made. begun a group (move_older (Below x) (late ++ early) a (Made g group) made)))
    calm_moves (Above i turn ∷ late) ok begun =
        let w : Whole Group generation = after_all Group generation (late ++ early) in
        turn_calm g (story_of Group generation early) w.state w.phase i (all_tell (late ++ early) ok.1) (calm_moves late ok.1 (λ a group made. begun a group (move_older (Above i turn) (late ++ early) a (Made g group) made)))
        (w.phase i) turn refl ok.0 begun

    -- A GENERATION THAT RESTS, under which nothing is begun, goes on resting, and nothing is answered of it
    pub rests_on : (late : Moves) → AreMoves Group generation (late ++ early) → BegunBy g (story_of Group generation early) (story_of Group generation (late ++ early)) → Rests g (late ++ early)
    rests_on late ok begun = (calm_moves late ok begun).rests

    pub answers_none : (late : Moves) → AreMoves Group generation (late ++ early) → BegunBy g (story_of Group generation early) (story_of Group generation (late ++ early)) →
        AnsweredBy Group generation g (story_of Group generation early) (story_of Group generation (late ++ early))
    answers_none late ok begun = (calm_moves late ok begun).answered

  -- When a stream had come so far all of its extents were sealed, and nothing was out under the generation, which had been loaded and was the highest
  -- one; and nothing is begun under it since.
  pub record IsSettled (g : ℕ) (early now : Moves) : Type 0 where
    pub closed : (after_all Group generation early).state.core.live ≡ None
    pub loaded : HasLoad Group generation (story_of Group generation early) g
    pub highest : (a h : ℕ) (group : Group) → event_at (story_of Group generation early) a ≡ Some (Made h group) → h ≤ g
    pub rests : Rests g early
    pub begun : BegunBy g (story_of Group generation early) (story_of Group generation now)

  -- A stream was built of its source, of which this story had been made then, and the generation is settled there.
  pub record IsPart (g : ℕ) (source built : Moves) (front : Story Group) : Type 0 where
    pub moves : Moves
    pub source_grew : GrewFrom moves source
    pub built_grew : GrewFrom moves built
    pub story_is : story_of Group generation moves ≡ front
    pub settled : IsSettled g moves source
