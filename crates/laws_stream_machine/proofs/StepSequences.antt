-- Steps of a stream's lower layer, one after another from a state on.
use Rattle.std.proofs.Common.{◌≡◌, ℕ, suc, ◌<◌, List, [], ◌∷◌, ◌++◌, length, map, true, Option, Some, None, refl, sym, ap, ◌∙◌, subst, arith, append_assoc, ◌==◌}
use Rattle.std.proofs.lemmas.List.{append-nil}
use Rattle.std.proofs.lemmas.Bool.{eqb-true}
use Rattle.replica.specs.Groups.{Group}
use Rattle.model_streams.proofs.Tests.{if_elim}
use Rattle.model_histories.specs.Story.{Copy}
use Rattle.model_histories.specs.StreamMachine.{In, SealedExtent, OpenExtent, StreamCore, shut_at, Fact, MachineState, MachineStep, TakesOpen, TakesExtend, TakesConfirm, TakesCheck, AnswersCheck, AnswersLate, TakesAppend, Keeps, AnswersAppend, Seals, Opens, Checks, ReadsSealed, ReadsChecked, Begins, Appends, Extends, TakesConfirmed, TakesAppended, May, extended, next}
use Rattle.model_histories.specs.ServerTurns.{all_next, Below, Move, is_layer, after_all, AreMoves}
use Rattle.laws_tables.proofs.Turns.{stays}
use Rattle.laws_stream_machine.proofs.ExtentSteps.{IsRunFrom, end_after}

-- what is sealed is at an index
pub shut_within : (e : ℕ) (xs : List (SealedExtent Group)) (x : SealedExtent Group) → shut_at e xs ≡ Some x → e < length xs
shut_within e [] x is = absurd cc
shut_within e (y ∷ xs) x is =
    if_elim (λ o. o ≡ Some x → e < suc (length xs)) (e == length xs) (Some y) (shut_at e xs)
    (λ t k. let m = eqb-true e (length xs) t in omega (arith, m)) (λ t k. let m = shut_within e xs x k in omega (arith, m)) is

pub shut_stays : (e : ℕ) (y : SealedExtent Group) (xs : List (SealedExtent Group)) (x : SealedExtent Group) → shut_at e xs ≡ Some x → shut_at e (y ∷ xs) ≡ Some x
shut_stays e y xs x is =
    if_elim (λ o. o ≡ Some x) (e == length xs) (Some y) (shut_at e xs)
    (λ t. let m = eqb-true e (length xs) t in let l = shut_within e xs x is in absurd (omega (arith, m, l))) (λ t. is)

-- what is known and what is sealed stays
pub record Onward (s t : MachineState Group) : Type 0 where
  pub facts : (f : Fact Group) → In f s.facts → In f t.facts
  pub shut : (e : ℕ) (x : SealedExtent Group) → shut_at e s.core.shut ≡ Some x → shut_at e t.core.shut ≡ Some x

pub onward_refl : (s : MachineState Group) → Onward s s
onward_refl s = record { facts = λ f m. m; shut = λ e x is. is }

pub onward_trans : (s t u : MachineState Group) → Onward s t → Onward t u → Onward s u
onward_trans s t u a b = record { facts = λ f m. b.facts f (a.facts f m); shut = λ e x is. b.shut e x (a.shut e x is) }

module _ (generation : ℕ → ℕ) where
  extended_shut : (c : StreamCore Group) (g n : ℕ) (o : Option (OpenExtent Group)) → (extended Group generation c g n o).shut ≡ c.shut
  extended_shut c g n (Some v) = refl
  extended_shut c g n None = if_elim (λ (d : StreamCore Group). d.shut ≡ c.shut) (n == length c.shut) _ c (λ t. refl) (λ t. refl)

  shut_next : (s : MachineState Group) (x : MachineStep Group) (e : ℕ) (y : SealedExtent Group) → shut_at e s.core.shut ≡ Some y → shut_at e (next Group generation s x).core.shut ≡ Some y
  shut_next s (TakesOpen i) e y is = is
  shut_next s (TakesExtend i n) e y is = subst (λ xs. shut_at e xs ≡ Some y) (sym (extended_shut s.core (generation i) n s.core.live)) is
  shut_next s (TakesConfirm i read end) e y is = is
  shut_next s (TakesCheck i v) e y is = is
  shut_next s (AnswersCheck i v) e y is = is
  shut_next s (AnswersLate i k x) e y is = is
  shut_next s (TakesAppend i append group to v) e y is = is
  shut_next s (Keeps c rest v) e y is = is
  shut_next s (AnswersAppend i append from to group) e y is = is
  shut_next s (Seals v) e y is = shut_stays e _ s.core.shut y is
  shut_next s (Opens i) e y is = is
  shut_next s (Checks i k) e y is = is
  shut_next s (ReadsSealed i n) e y is = is
  shut_next s (ReadsChecked i k stood end) e y is = is
  shut_next s (Begins i group) e y is = is
  shut_next s (Appends i k append group) e y is = is
  shut_next s (Extends i n) e y is = is
  shut_next s (TakesConfirmed i start end read) e y is = is
  shut_next s (TakesAppended i append from to) e y is = is

  pub next_onward : (s : MachineState Group) (x : MachineStep Group) → Onward s (next Group generation s x)
  next_onward s x = record { facts = λ f m. stays Group generation s x f m; shut = shut_next s x }

  pub all_onward : (s : MachineState Group) (steps : List (MachineStep Group)) → Onward s (all_next Group generation s steps)
  all_onward s [] = onward_refl s
  all_onward s (x ∷ earlier) = onward_trans s _ _ (all_onward s earlier) (next_onward (all_next Group generation s earlier) x)

  abbrev pub AllLayer : List (MachineStep Group) → Type 0
  AllLayer [] = Unit {0}
  AllLayer (x ∷ earlier) = (is_layer Group generation x ≡ true) × AllLayer earlier

  -- steps of the lower layer lead to a state of which this holds
  pub record Walk (s : MachineState Group) (P : MachineState Group → Type 0) : Type 0 where
    pub steps : List (MachineStep Group)
    pub run : IsRunFrom generation s steps
    pub layer : AllLayer steps
    pub there : P (all_next Group generation s steps)

  pub stand : (s : MachineState Group) (P : MachineState Group → Type 0) → P s → Walk s P
  stand s P p = record { steps = []; run = tt; layer = tt; there = p }

  next_joined : (s : MachineState Group) (a b : List (MachineStep Group)) → all_next Group generation s (b ++ a) ≡ all_next Group generation (all_next Group generation s a) b
  next_joined s a [] = refl
  next_joined s a (x ∷ b) = ap (λ t. next Group generation t x) (next_joined s a b)

  run_joined : (s : MachineState Group) (a b : List (MachineStep Group)) → IsRunFrom generation s a → IsRunFrom generation (all_next Group generation s a) b → IsRunFrom generation s (b ++ a)
  run_joined s a [] r t = r
  run_joined s a (x ∷ b) r (may, t) = (subst (λ z. May Group generation z x) (sym (next_joined s a b)) may, run_joined s a b r t)

  layer_joined : (a b : List (MachineStep Group)) → AllLayer a → AllLayer b → AllLayer (b ++ a)
  layer_joined a [] r t = r
  layer_joined a (x ∷ b) r (l, t) = (l, layer_joined a b r t)

  pub walk_on : (s : MachineState Group) (P Q : MachineState Group → Type 0) → Walk s P → ((t : MachineState Group) → Onward s t → P t → Walk t Q) → Walk s Q
  walk_on s P Q a f =
      let t : MachineState Group = all_next Group generation s a.steps in
      let b : Walk t Q = f t (all_onward s a.steps) a.there in
      record {
        steps = b.steps ++ a.steps;
        run = run_joined s a.steps b.steps a.run b.run;
        layer = layer_joined a.steps b.steps a.layer b.layer;
        there = subst Q (sym (next_joined s a.steps b.steps)) b.there;
      }

  -- one step
  pub steps_to : (s : MachineState Group) (P : MachineState Group → Type 0) (x : MachineStep Group) → is_layer Group generation x ≡ true → May Group generation s x → P (next Group generation s x) → Walk s P
  steps_to s P x layer may p = record { steps = x ∷ []; run = (may, tt); layer = (layer, tt); there = p }

  pub walk_weaker : (s : MachineState Group) (P Q : MachineState Group → Type 0) → Walk s P → ((t : MachineState Group) → Onward s t → P t → Q t) → Walk s Q
  walk_weaker s P Q a f = record { steps = a.steps; run = a.run; layer = a.layer; there = f _ (all_onward s a.steps) a.there }

  -- ---- keeping

  abbrev pub with_lived : MachineState Group → OpenExtent Group → MachineState Group
  with_lived s v = record s { core = record s.core { live = Some v } }

  lived : (s : MachineState Group) (o : Option (OpenExtent Group)) → s.core.live ≡ o → s ≡ record s { core = record s.core { live = o } }
  lived s o is = ap (λ z. record s { core = record s.core { live = z } }) is

  -- the copies that are there for good are kept, one by one
  pub keep_all : (more rest : List (Copy Group)) (s : MachineState Group) (v : OpenExtent Group) → s.core.live ≡ Some v → v.loose ≡ more ++ rest →
      Walk s (λ t. t ≡ with_lived s (record v { kept = v.kept ++ more; sure = end_after generation v.sure more; loose = rest }))
  keep_all [] rest s v live loose =
      stand s _ (lived s (Some v) live ∙ ap (λ z. with_lived s (record v { loose = z })) loose ∙ ap (λ z. with_lived s (record v { kept = z; loose = rest })) (sym (append-nil v.kept)))
  keep_all (c ∷ more) rest s v live loose =
      let w : OpenExtent Group = record v { kept = v.kept ++ c ∷ []; sure = c.to; loose = more ++ rest } in
      walk_on s (λ t. t ≡ with_lived s w) _
      (steps_to s (λ t. t ≡ with_lived s w) (Keeps c (more ++ rest) v) refl (live, loose) refl)
      (λ t on is.
      walk_weaker t (λ u. u ≡ with_lived t (record w { kept = w.kept ++ more; sure = end_after generation c.to more; loose = rest })) _
      (keep_all more rest t w (ap (λ (z : MachineState Group). z.core.live) is) refl)
      (λ u far there.
      there
      ∙ ap (λ (z : MachineState Group). with_lived z (record w { kept = w.kept ++ more; sure = end_after generation c.to more; loose = rest })) is
      ∙ ap (λ z. with_lived s (record v { kept = z; sure = end_after generation c.to more; loose = rest })) (append_assoc v.kept (c ∷ []) more)))

  -- ---- as moves

  abbrev pub below_all : List (MachineStep Group) → List (Move Group generation)
  below_all steps = map (λ x. Below x) steps

  pub walked : (ms : List (Move Group generation)) → AreMoves Group generation ms → (steps : List (MachineStep Group)) →
      IsRunFrom generation (after_all Group generation ms).state steps → AllLayer steps →
      AreMoves Group generation (below_all steps ++ ms)
      × ((after_all Group generation (below_all steps ++ ms)).state ≡ all_next Group generation (after_all Group generation ms).state steps)
  walked ms are [] run layer = (are, refl)
  walked ms are (x ∷ steps) (may, run) (is, layer) =
      let (before, same) = walked ms are steps run layer in
      (((is, subst (λ z. May Group generation z x) (sym same) may), before), ap (λ z. next Group generation z x) same)
