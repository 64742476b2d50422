-- No generation of a stream is confirmed twice.
use Rattle.std.proofs.Common.{◌≡◌, ◌⊎◌, ℕ, zero, suc, List, ◌∷◌, [], ◌++◌, length, map, Bool, true, false, Some, refl, sym, ap, ◌∙◌, subst, inl, inr, ⊎_elim, arith, if◌then◌else◌, ◌==◌}
use Rattle.std.proofs.lemmas.Bool.Decides.{nat_tests}
use Rattle.replica.specs.Groups.{Group}
use Rattle.model_histories.specs.ServedTables.{LoadsOnce}
use Rattle.model_histories.specs.Story.{Placed, StreamEvent, Made, Answered, Showed, Story, event_at, placed, from_place}
use Rattle.model_histories.specs.StreamMachine.{In, Opened as OpenedAs, Fact, MachineState, MachineStep, Opens, Checks, ReadsSealed, ReadsChecked, Begins, Appends, Extends, TakesConfirmed, TakesAppended, next}
use Rattle.model_histories.specs.ServerTurns.{Phase, Idle, Opening, Checking, Sealing, Confirming, Serving, Sent, Closing, Growing, Turn, Assigned, AllSealed, LastOpen, Found, Fails, IsShut, ConfirmedIs, Forms, AppendedAt, ExtendedTo, IsTurn, becomes, does, forms, formed, all_next, Whole, Move, Below, Above, after_all, AreMoves}
use Rattle.laws_tables.proofs.Range.{event_cases}
use Rattle.laws_tables.proofs.Extents.{Inv, followed}
use Rattle.laws_tables.proofs.Turns.{stays, all_good}
use Rattle.laws_clusters.proofs.LayerSteps.{layer_same}

module _ (generation : ℕ → ℕ) where
  -- ---- where incarnations stand

  -- it is served
  abbrev pub IsUp : Phase Group → Type 0
  IsUp (Serving n live) = Unit {0}
  IsUp (Sent n append group) = Unit {0}
  IsUp (Closing n append group) = Unit {0}
  IsUp (Growing n append group) = Unit {0}
  IsUp Idle = ⊥
  IsUp Opening = ⊥
  IsUp (Checking e) = ⊥
  IsUp (Sealing e) = ⊥
  IsUp (Confirming n live) = ⊥

  abbrev IsOpened : MachineState Group → ℕ → Type 0
  IsOpened s i = (n : ℕ) × In (OpenedAs i n) s.facts

  abbrev WasOpened : MachineState Group → ℕ → Phase Group → Type 0
  WasOpened s i Idle = Unit {0}
  WasOpened s i Opening = Unit {0}
  WasOpened s i (Checking e) = IsOpened s i
  WasOpened s i (Sealing e) = IsOpened s i
  WasOpened s i (Confirming n live) = IsOpened s i
  WasOpened s i (Serving n live) = IsOpened s i
  WasOpened s i (Sent n append group) = IsOpened s i
  WasOpened s i (Closing n append group) = IsOpened s i
  WasOpened s i (Growing n append group) = IsOpened s i

  -- some incarnation of this generation is served
  abbrev IsUpUnder : (ℕ → Phase Group) → ℕ → Type 0
  IsUpUnder phase g = (i : ℕ) × (generation i ≡ g) × IsUp (phase i)

  abbrev IsShownAt : Story Group → ℕ → ℕ → ℕ → ℕ → List (Placed Group) → Type 0
  IsShownAt story l g start end groups = event_at story l ≡ Some (Showed g start end groups)

  record Holds (s : MachineState Group) (phase : ℕ → Phase Group) : Type 0 where
    opened : (i : ℕ) → WasOpened s i (phase i)
    by_shown : (l g start end : ℕ) (groups : List (Placed Group)) → IsShownAt s.story l g start end groups → IsUpUnder phase g
    once : LoadsOnce s.story

  was_opened : (s : MachineState Group) (i : ℕ) (p : Phase Group) → IsUp p → WasOpened s i p → IsOpened s i
  was_opened s i (Serving n live) up o = o
  was_opened s i (Sent n append group) up o = o
  was_opened s i (Closing n append group) up o = o
  was_opened s i (Growing n append group) up o = o
  was_opened s i Idle up o = absurd up
  was_opened s i Opening up o = absurd up
  was_opened s i (Checking e) up o = absurd up
  was_opened s i (Sealing e) up o = absurd up
  was_opened s i (Confirming n live) up o = absurd up

  opened_on : (s t : MachineState Group) (i : ℕ) (p : Phase Group) → ((f : Fact Group) → In f s.facts → In f t.facts) → WasOpened s i p → WasOpened t i p
  opened_on s t i Idle more o = tt
  opened_on s t i Opening more o = tt
  opened_on s t i (Checking e) more (n, o) = (n, more (OpenedAs i n) o)
  opened_on s t i (Sealing e) more (n, o) = (n, more (OpenedAs i n) o)
  opened_on s t i (Confirming n live) more (k, o) = (k, more (OpenedAs i k) o)
  opened_on s t i (Serving n live) more (k, o) = (k, more (OpenedAs i k) o)
  opened_on s t i (Sent n append group) more (k, o) = (k, more (OpenedAs i k) o)
  opened_on s t i (Closing n append group) more (k, o) = (k, more (OpenedAs i k) o)
  opened_on s t i (Growing n append group) more (k, o) = (k, more (OpenedAs i k) o)

  -- ---- one incarnation goes to another phase

  abbrev set : (ℕ → Phase Group) → ℕ → Phase Group → ℕ → Phase Group
  set phase i p = λ j. if j == i then p else phase j

  -- what holds of the new phase at i, and of each other as before, holds of all
  at_each : (P : ℕ → Phase Group → Type 0) (phase : ℕ → Phase Group) (i : ℕ) (p : Phase Group) → P i p → ((j : ℕ) → P j (phase j)) → (j : ℕ) → P j (set phase i p j)
  at_each P phase i p mine others j = go (j == i) refl
    where
      go : (b : Bool) → (j == i) ≡ b → P j (if b then p else phase j)
      go true e = let same : i ≡ j = grind (arith, nat_tests) in subst (λ z. P z p) same mine
      go false e = others j

  set_here : (phase : ℕ → Phase Group) (i : ℕ) (p : Phase Group) → set phase i p i ≡ p
  set_here phase i p = go (i == i) (same i)
    where
      same : (n : ℕ) → (n == n) ≡ true
      same n = grind (arith, nat_tests)

      go : (b : Bool) → b ≡ true → (if b then p else phase i) ≡ p
      go true e = refl
      go false e = absurd cc

  -- who was up is up
  up_stays : (phase : ℕ → Phase Group) (i : ℕ) (p : Phase Group) → (IsUp (phase i) → IsUp p) → (g : ℕ) → IsUpUnder phase g → IsUpUnder (set phase i p) g
  up_stays phase i p keeps g (j, is, up) = (j, is, at_each_if (j == i) refl)
    where
      at_each_if : (b : Bool) → (j == i) ≡ b → IsUp (if b then p else phase j)
      at_each_if true e = let same : j ≡ i = grind (arith, nat_tests) in keeps (subst (λ z. IsUp (phase z)) same up)
      at_each_if false e = up

  up_here : (phase : ℕ → Phase Group) (i : ℕ) (p : Phase Group) → IsUp p → IsUpUnder (set phase i p) (generation i)
  up_here phase i p up = (i, refl, subst IsUp (sym (set_here phase i p)) up)

  -- ---- one turn

  -- whatever a load shows in the longer story, it shows in the shorter one
  abbrev ShowsNoMore : Story Group → Story Group → Type 0
  ShowsNoMore old new = (l g start end : ℕ) (groups : List (Placed Group)) → IsShownAt new l g start end groups → IsShownAt old l g start end groups

  no_more : (old new : Story Group) → new ≡ old → ShowsNoMore old new
  no_more old new same l g start end groups at = subst (λ z. IsShownAt z l g start end groups) same at

  one_more : (story : Story Group) (e : StreamEvent Group) → ((g start end : ℕ) (groups : List (Placed Group)) → e ≡ Showed g start end groups → ⊥) → ShowsNoMore story (e ∷ story)
  one_more story e other l g start end groups at =
      ⊎_elim {C = IsShownAt story l g start end groups} (λ new. absurd (other g start end groups new.1)) (λ old. old) (event_cases Group e story l (Showed g start end groups) at)

  still : (s t : MachineState Group) (phase : ℕ → Phase Group) (i : ℕ) (p : Phase Group) → Holds s phase → ShowsNoMore s.story t.story → ((f : Fact Group) → In f s.facts → In f t.facts) →
      WasOpened t i p → (IsUp (phase i) → IsUp p) → Holds t (set phase i p)
  still s t phase i p h shows more here up = record {
    opened = at_each (λ j z. WasOpened t j z) phase i p here (λ j. opened_on s t j (phase j) more (h.opened j));
    by_shown = λ l g start end groups at. up_stays phase i p up g (h.by_shown l g start end groups (shows l g start end groups at));
    once = λ l m g start end start' end' groups groups' one two.
        h.once l m g start end start' end' groups groups' (shows l g start end groups one) (shows m g start' end' groups' two);
  }

  -- a load is confirmed
  shows : (s t : MachineState Group) (phase : ℕ → Phase Group) (i start end : ℕ) (groups : List (Placed Group)) (p : Phase Group) → Holds s phase → t.story ≡ Showed (generation i) start end groups ∷ s.story →
      ((f : Fact Group) → In f s.facts → In f t.facts) → WasOpened t i p → IsUp p → (IsUpUnder phase (generation i) → ⊥) → Holds t (set phase i p)
  shows s t phase i start end groups p h is more here up none = record {
    opened = at_each (λ j z. WasOpened t j z) phase i p here (λ j. opened_on s t j (phase j) more (h.opened j));
    by_shown = λ l g start' end' groups' at.
        ⊎_elim {C = IsUpUnder (set phase i p) g}
        (λ new. (let z : e ≡ Showed g start' end' groups' = new.1 in let same : generation i ≡ g = cc in subst (λ k. IsUpUnder (set phase i p) k) same (up_here phase i p up)))
        (λ old. up_stays phase i p (λ u. up) g (h.by_shown l g start' end' groups' old))
        (cases l g start' end' groups' at);
    once = both;
  }
    where
      e : StreamEvent Group
      e = Showed (generation i) start end groups

      cases : (l g start' end' : ℕ) (groups' : List (Placed Group)) → IsShownAt t.story l g start' end' groups' →
          ((l ≡ length s.story) × (Showed (generation i) start end groups ≡ Showed g start' end' groups')) ⊎ (IsShownAt s.story l g start' end' groups')
      cases l g start' end' groups' at =
          event_cases Group (Showed (generation i) start end groups) s.story l (Showed g start' end' groups') (subst (λ z. IsShownAt z l g start' end' groups') is at)

      other : (g a b start' end' m : ℕ) (xs groups' : List (Placed Group)) → Showed (generation i) start end groups ≡ Showed g a b xs → IsShownAt s.story m g start' end' groups' → ⊥
      other g a b start' end' m xs groups' new old =
          let same : generation i ≡ g = cc in
          none (subst (λ k. IsUpUnder phase k) (sym same) (h.by_shown m g start' end' groups' old))

      both : LoadsOnce t.story
      both l m g a b a' b' xs ys one two = elim (cases l g a b xs one) [
        | inl here_l ↦ elim (cases m g a' b' ys two) [
          | inl here_m ↦ here_l.0 ∙ sym here_m.0
          | inr old_m ↦ absurd (other g a b a' b' m xs ys here_l.1 old_m)
        ]
        | inr old_l ↦ elim (cases m g a' b' ys two) [
          | inl here_m ↦ absurd (other g a' b' a b l ys xs here_m.1 old_l)
          | inr old_m ↦ h.once l m g a b a' b' xs ys old_l old_m
        ]
      ]

  -- a generation is opened once
  abbrev OpensOnce : MachineState Group → Type 0
  OpensOnce s = (i j n m : ℕ) → In (OpenedAs i n) s.facts → In (OpenedAs j m) s.facts → generation i ≡ generation j → i ≡ j

  once_of : (s : MachineState Group) (run : _) → Inv Group generation s run → OpensOnce s
  once_of s run v = v.unique

  opens_once : (moves : List (Move Group generation)) → AreMoves Group generation moves → OpensOnce (after_all Group generation moves).state
  opens_once moves ok =
      let ran = (all_good Group generation moves ok).0 in
      let f = followed Group generation ran.0 ran.1 in
      subst OpensOnce (sym ran.2) (once_of _ f.0 f.1)

  module _ (s : MachineState Group) (phase : ℕ → Phase Group) (i : ℕ) (h : Holds s phase) (unique : OpensOnce s) where
    quiet : (t : MachineState Group) (p q : Phase Group) → phase i ≡ p → ShowsNoMore s.story t.story → ((f : Fact Group) → In f s.facts → In f t.facts) → WasOpened t i q → (IsUp p → IsUp q) →
        Holds t (set phase i q)
    quiet t p q e same more here up = still s t phase i q h same more here (λ u. up (subst IsUp e u))

    is_opened : (p : Phase Group) → phase i ≡ p → WasOpened s i p
    is_opened p e = subst (WasOpened s i) e (h.opened i)

    same_story : ShowsNoMore s.story s.story
    same_story = no_more s.story s.story refl

    confirms : (n : ℕ) (live : Bool) (start end : ℕ) (read : List _) → phase i ≡ Confirming n live → Holds (next Group generation s (TakesConfirmed i start end read)) (set phase i (Serving n live))
    confirms n live start end read e =
        let o : IsOpened s i = is_opened (Confirming n live) e in
        shows s (next Group generation s (TakesConfirmed i start end read)) phase i start end (map placed (from_place start read)) (Serving n live) h refl
        (stays Group generation s (TakesConfirmed i start end read)) (o.0, inr o.1) tt (none o)
      where
        none : IsOpened s i → IsUpUnder phase (generation i) → ⊥
        none o (j, same, up) =
            let fact : IsOpened s j = was_opened s j (phase j) up (h.opened j) in
            let here : j ≡ i = unique j i fact.0 o.0 fact.1 o.1 same in
            subst IsUp (ap phase here ∙ e) up

    two_more : (x y : MachineStep Group) (f : Fact Group) → In f s.facts → In f (next Group generation (next Group generation s x) y).facts
    two_more x y f m = stays Group generation (next Group generation s x) y f (stays Group generation s x f m)

    made : (group : Group) → ShowsNoMore s.story (Made (generation i) group ∷ s.story)
    made group = one_more s.story (Made (generation i) group) (λ g start end groups is. absurd cc)

    forming : (n : ℕ) (live : Bool) (group : Group) → phase i ≡ Serving n live →
        Holds (all_next Group generation s (forms Group generation i n (length s.story) group live ++ Begins i group ∷ [])) (set phase i (formed Group generation n (length s.story) group live))
    forming zero live group e =
        let o : IsOpened s i = is_opened (Serving zero live) e in
        quiet (next Group generation (next Group generation s (Begins i group)) (Extends i 0)) (Serving zero live) (Growing 0 (length s.story) group) e (made group) (two_more (Begins i group) (Extends i 0))
        (o.0, two_more (Begins i group) (Extends i 0) (OpenedAs i o.0) o.1) (λ u. u)
    forming (suc k) true group e =
        let o : IsOpened s i = is_opened (Serving (suc k) true) e in
        quiet (next Group generation (next Group generation s (Begins i group)) (Appends i k (length s.story) group)) (Serving (suc k) true) (Sent (suc k) (length s.story) group) e (made group)
        (two_more (Begins i group) (Appends i k (length s.story) group)) (o.0, two_more (Begins i group) (Appends i k (length s.story) group) (OpenedAs i o.0) o.1) (λ u. u)
    forming (suc k) false group e =
        let o : IsOpened s i = is_opened (Serving (suc k) false) e in
        quiet (next Group generation (next Group generation s (Begins i group)) (Extends i (suc k))) (Serving (suc k) false) (Growing (suc k) (length s.story) group) e (made group)
        (two_more (Begins i group) (Extends i (suc k))) (o.0, two_more (Begins i group) (Extends i (suc k)) (OpenedAs i o.0) o.1) (λ u. u)

    turn_holds : (p : Phase Group) (turn : Turn Group) → phase i ≡ p → IsTurn Group generation s i p turn →
        Holds (all_next Group generation s (does Group generation s i p turn)) (set phase i (becomes Group generation s p turn))
    turn_holds Idle Assigned e may = quiet (next Group generation s (Opens i)) Idle Opening e same_story (stays Group generation s (Opens i)) tt (λ u. u)
    turn_holds Opening (AllSealed n) e may =
        quiet (next Group generation s (ReadsSealed i n)) Opening (Confirming n false) e same_story (stays Group generation s (ReadsSealed i n)) (n, inr may.0) (λ u. u)
    turn_holds Opening (LastOpen x) e may = quiet (next Group generation s (Checks i x)) Opening (Checking x) e same_story (stays Group generation s (Checks i x)) (suc x, inr may) (λ u. u)
    turn_holds (Checking x) (Found stood end) e may =
        quiet (next Group generation s (ReadsChecked i x stood end)) (Checking x) (Confirming (suc x) true) e same_story (stays Group generation s (ReadsChecked i x stood end)) (suc x, inr may.0) (λ u. u)
    turn_holds (Checking x) Fails e may = quiet s (Checking x) (Sealing x) e same_story (λ f m. m) (is_opened (Checking x) e) (λ u. u)
    turn_holds (Sealing x) IsShut e may =
        quiet (next Group generation s (ReadsSealed i (suc x))) (Sealing x) (Confirming (suc x) false) e same_story (stays Group generation s (ReadsSealed i (suc x))) (suc x, inr may.0) (λ u. u)
    turn_holds (Confirming n live) (ConfirmedIs start end read) e may = confirms n live start end read e
    turn_holds (Serving n live) (Forms group) e may = forming n live group e
    turn_holds (Sent n append group) (AppendedAt from to) e may =
        quiet (next Group generation s (TakesAppended i append from to)) (Sent n append group) (Serving n true) e
        (one_more s.story (Answered append from to) (λ g start end groups is. absurd cc)) (stays Group generation s (TakesAppended i append from to)) (is_opened (Sent n append group) e) (λ u. u)
    turn_holds (Sent n append group) Fails e may = quiet s (Sent n append group) (Closing n append group) e same_story (λ f m. m) (is_opened (Sent n append group) e) (λ u. u)
    turn_holds (Closing n append group) IsShut e may =
        (let o : IsOpened s i = is_opened (Closing n append group) e in
        quiet (next Group generation s (Extends i n)) (Closing n append group) (Growing n append group) e same_story (stays Group generation s (Extends i n)) (o.0, inr o.1) (λ u. u))
    turn_holds (Growing n append group) (ExtendedTo m) e may =
        (let o : IsOpened s i = is_opened (Growing n append group) e in
        quiet (next Group generation s (Appends i n append group)) (Growing n append group) (Sent (suc n) append group) e same_story (stays Group generation s (Appends i n append group)) (o.0, inr o.1) (λ u. u))
    turn_holds p turn e may = absurd may

  -- ---- all moves

  below_holds : (s t : MachineState Group) (phase : ℕ → Phase Group) → Holds s phase → t.story ≡ s.story → ((f : Fact Group) → In f s.facts → In f t.facts) → Holds t phase
  below_holds s t phase h same more = record {
    opened = λ i. opened_on s t i (phase i) more (h.opened i);
    by_shown = λ l g start end groups at. h.by_shown l g start end groups (no_more s.story t.story same l g start end groups at);
    once = subst (λ z. LoadsOnce z) (sym same) h.once;
  }

  holds : (moves : List (Move Group generation)) → AreMoves Group generation moves → Holds (after_all Group generation moves).state (after_all Group generation moves).phase
  holds [] ok = record {
    opened = λ i. tt;
    by_shown = λ l g start end groups e. absurd cc;
    once = λ l m g start end start' end' groups groups' e. absurd cc;
  }
  holds (Below x ∷ earlier) ok =
      let w : Whole Group generation = after_all Group generation earlier in
      below_holds w.state (next Group generation w.state x) w.phase (holds earlier ok.1) (layer_same generation w.state x ok.0.0) (stays Group generation w.state x)
  holds (Above i turn ∷ earlier) ok =
      let w : Whole Group generation = after_all Group generation earlier in
      turn_holds w.state w.phase i (holds earlier ok.1) (opens_once earlier ok.1) (w.phase i) turn refl ok.0

  -- no two incarnations of one generation are served
  pub up_once : (moves : List (Move Group generation)) → AreMoves Group generation moves → (i j : ℕ) → IsUp ((after_all Group generation moves).phase i) → IsUp ((after_all Group generation moves).phase j) → generation i ≡ generation j → i ≡ j
  up_once moves ok i j one two same =
      let w : Whole Group generation = after_all Group generation moves in
      let h : Holds w.state w.phase = holds moves ok in
      let a : IsOpened w.state i = was_opened w.state i (w.phase i) one (h.opened i) in
      let b : IsOpened w.state j = was_opened w.state j (w.phase j) two (h.opened j) in
      opens_once moves ok i j a.0 b.0 a.1 b.1 same

  pub loads_once : (moves : List (Move Group generation)) → AreMoves Group generation moves → LoadsOnce (after_all Group generation moves).state.story
  loads_once moves ok = (holds moves ok).once
