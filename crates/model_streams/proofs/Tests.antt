-- Choices by a test, and functions that are changed at one place.
use Rattle.std.proofs.Common.{◌≡◌, ◌≢◌, ℕ, Bool, true, false, ◌==◌, List, [], ◌∷◌, None, refl}
use Rattle.std.specs.Prelude.{if◌then◌else◌}
use Rattle.std.proofs.lemmas.Bool.{eqb-true, eqb-false, and_parts}
use Rattle.wire.specs.declared.refusal.Refusal.{Refusal}
use Rattle.model_streams.specs.Maps.{changed}
use Rattle.model_streams.specs.Outcome.{first_met, all_met}

pub if_elim : {A : Type 0} (P : A → Type 0) (b : Bool) (x y : A) → (b ≡ true → P x) → (b ≡ false → P y) → P (if b then x else y)
if_elim P true x y t f = t refl
if_elim P false x y t f = f refl

-- one test for two choices
pub both_elim : {A B : Type 0} (P : A → B → Type 0) (b : Bool) (x y : A) (u v : B) → (b ≡ true → P x u) → (b ≡ false → P y v) → P (if b then x else y) (if b then u else v)
both_elim P true x y u v t f = t refl
both_elim P false x y u v t f = f refl

-- no test is met
abbrev pub NoneMet : List (Refusal × Bool) → Type 0
NoneMet [] = Unit {0}
NoneMet ((refusal, test) ∷ tests) = (test ≡ false) × NoneMet tests

none_more : (refusal : Refusal) (test : Bool) (tests : List (Refusal × Bool)) → first_met ((refusal, test) ∷ tests) ≡ None → (test ≡ false) × (first_met tests ≡ None)
none_more refusal true tests e = absurd cc
none_more refusal false tests e = (refl, e)

pub none_met : (tests : List (Refusal × Bool)) → first_met tests ≡ None → NoneMet tests
none_met [] e = tt
none_met (x ∷ tests) e = let m = none_more x.0 x.1 tests e in (m.0, none_met tests m.1)

-- all tests are met
abbrev pub AllMet : List Bool → Type 0
AllMet [] = Unit {0}
AllMet (test ∷ tests) = (test ≡ true) × AllMet tests

pub all_are : (tests : List Bool) → all_met tests ≡ true → AllMet tests
all_are [] e = tt
all_are (test ∷ tests) e = let m = and_parts test (all_met tests) e in (m.0, all_are tests m.1)

-- a function that is changed at e has a property at k, if the new value has it where they are the same
pub changed_elim : {A : Type 0} (P : A → Type 0) (e : ℕ) (v : A) (f : ℕ → A) (k : ℕ) → (k ≡ e → P v) → (k ≢ e → P (f k)) → P (changed e v f k)
changed_elim P e v f k p q = if_elim P (k == e) v (f k) (λ t. p (eqb-true k e t)) (λ u. q (eqb-false k e u))
