-- Lists that are numbered from 1.
use Rattle.std.proofs.Common.{◌≡◌, ℕ, zero, suc, ◌-◌, List, [], ◌∷◌, map, Option, Some, None, option_map, slice_get, slice_set, refl, sym, ap, ◌∙◌, subst, arith}
use Rattle.model_streams.specs.Maps.{entry_at}

set_here : {A : Type 0} (xs : List A) (n : ℕ) (c d : A) → slice_get xs n ≡ Some c → slice_get (slice_set xs n d) n ≡ Some d
set_here {A} [] n c d e = absurd cc
set_here {A} (x ∷ xs) zero c d e = refl
set_here {A} (x ∷ xs) (suc n) c d e = set_here xs n c d e

set_elsewhere : {A : Type 0} (xs : List A) (n m : ℕ) (d : A) → (m ≡ n → ⊥) → slice_get (slice_set xs n d) m ≡ slice_get xs m
set_elsewhere {A} [] n m d apart = refl
set_elsewhere {A} (x ∷ xs) zero zero d apart = absurd (apart refl)
set_elsewhere {A} (x ∷ xs) zero (suc m) d apart = refl
set_elsewhere {A} (x ∷ xs) (suc n) zero d apart = refl
set_elsewhere {A} (x ∷ xs) (suc n) (suc m) d apart = set_elsewhere xs n m d (λ e. apart (ap suc e))

before : (n : ℕ) → n ≡ suc n - 1
before n = omega arith

-- what was set is there
pub entry_set : {A : Type 0} (xs : List A) (s : ℕ) (c d : A) → entry_at xs s ≡ Some c → entry_at (slice_set xs (s - 1) d) s ≡ Some d
entry_set {A} xs zero c d e = absurd cc
entry_set {A} xs (suc n) c d e = subst (λ k. slice_get (slice_set xs k d) n ≡ Some d) (before n) (set_here xs n c d e)

-- and nothing else changes
pub entry_other : {A : Type 0} (xs : List A) (s : ℕ) (c d : A) → entry_at xs s ≡ Some c → (t : ℕ) → (t ≡ s → ⊥) → entry_at (slice_set xs (s - 1) d) t ≡ entry_at xs t
entry_other {A} xs zero c d e t apart = absurd cc
entry_other {A} xs (suc n) c d e zero apart = refl
entry_other {A} xs (suc n) c d e (suc m) apart = subst (λ k. slice_get (slice_set xs k d) m ≡ slice_get xs m) (before n) (set_elsewhere xs n m d (λ same. apart (ap suc same)))

map_get : {A B : Type 0} (f : A → B) (xs : List A) (n : ℕ) → slice_get (map f xs) n ≡ option_map f (slice_get xs n)
map_get {A} {B} f [] n = refl
map_get {A} {B} f (x ∷ xs) zero = refl
map_get {A} {B} f (x ∷ xs) (suc n) = map_get f xs n

pub entry_map : {A B : Type 0} (f : A → B) (xs : List A) (s : ℕ) → entry_at (map f xs) s ≡ option_map f (entry_at xs s)
entry_map {A} {B} f xs zero = refl
entry_map {A} {B} f xs (suc n) = map_get f xs n

pub entry_mapped : {A B : Type 0} (f : A → B) (xs : List A) (s : ℕ) (c : A) → entry_at xs s ≡ Some c → entry_at (map f xs) s ≡ Some (f c)
entry_mapped {A} {B} f xs s c e = entry_map f xs s ∙ ap (λ o. option_map f o) e

pub entry_unmapped : {A B : Type 0} (f : A → B) (xs : List A) (s : ℕ) (d : B) → entry_at (map f xs) s ≡ Some d → (c : A) × (entry_at xs s ≡ Some c) × (d ≡ f c)
entry_unmapped {A} {B} f xs s d e = go (entry_at xs s) refl (sym (entry_map f xs s) ∙ e)
  where
    go : (o : Option A) → entry_at xs s ≡ o → option_map f o ≡ Some d → (c : A) × (entry_at xs s ≡ Some c) × (d ≡ f c)
    go None at is = absurd cc
    go (Some c) at is = (c, at, cc)

pub set_twice : {A : Type 0} (xs : List A) (n : ℕ) (a b : A) → slice_set (slice_set xs n a) n b ≡ slice_set xs n b
set_twice {A} [] n a b = refl
set_twice {A} (x ∷ xs) zero a b = refl
set_twice {A} (x ∷ xs) (suc n) a b = ap (λ l. x ∷ l) (set_twice xs n a b)
