-- The entries of a list, by number from 1.
use Rattle.std.proofs.Common.{◌≡◌, ◌≢◌, ◌⊎◌, ℕ, zero, suc, ◌<◌, ◌≤◌, ◌+◌, List, [], ◌∷◌, ◌++◌, Some, None, refl, sym, ap, ◌∙◌, inl, inr, arith, slice_get, slice_index_or, slice_set, length}
use Rattle.std.proofs.lemmas.Option.{same_Some}
use Rattle.model_streams.specs.Maps.{entry_at}

pub entry-set_same : {A : Type 0} (xs : List A) (n : ℕ) (y z : A) → entry_at (slice_set xs n y) (suc n) ≡ Some z → z ≡ y
entry-set_same [] n y z e = absurd cc
entry-set_same (x ∷ xs) zero y z e = sym (same_Some y z e)
entry-set_same (x ∷ xs) (suc n) y z e = entry-set_same xs n y z e

pub entry-set_other : {A : Type 0} (xs : List A) (n m : ℕ) (y : A) → m ≢ suc n → entry_at (slice_set xs n y) m ≡ entry_at xs m
entry-set_other xs n zero y a = refl
entry-set_other [] n (suc m) y a = refl
entry-set_other (x ∷ xs) zero (suc zero) y a = absurd (a refl)
entry-set_other (x ∷ xs) zero (suc (suc m)) y a = refl
entry-set_other (x ∷ xs) (suc n) (suc zero) y a = refl
entry-set_other (x ∷ xs) (suc n) (suc (suc m)) y a = entry-set_other xs n (suc m) y (λ e. a (ap suc e))

pub entry-set_there : {A : Type 0} (xs : List A) (n : ℕ) (y : A) → n < length xs → entry_at (slice_set xs n y) (suc n) ≡ None → ⊥
entry-set_there [] n y l e = omega arith
entry-set_there (x ∷ xs) zero y l e = absurd cc
entry-set_there (x ∷ xs) (suc n) y l e = entry-set_there xs n y (omega arith) e

pub entry_here : {A : Type 0} (xs : List A) (n : ℕ) (d : A) → n < length xs → entry_at xs (suc n) ≡ Some (slice_index_or xs n d)
entry_here [] n d l = absurd (omega arith)
entry_here (x ∷ xs) zero d l = refl
entry_here (x ∷ xs) (suc n) d l = entry_here xs n d (omega arith)

-- nothing changes where the same is put in
pub set_same : {A : Type 0} (xs : List A) (n : ℕ) (d y : A) → d ≡ slice_index_or xs n d → y ≡ d → slice_set xs n y ≡ xs
set_same [] n d y is same = refl
set_same (x ∷ xs) zero d y is same = ap (λ z. z ∷ xs) (same ∙ is)
set_same (x ∷ xs) (suc n) d y is same = ap (λ zs. x ∷ zs) (set_same xs n d y is same)

pub entry_beyond : {A : Type 0} (xs : List A) (n : ℕ) → length xs ≤ n → slice_get xs n ≡ None
entry_beyond [] n l = refl
entry_beyond (x ∷ xs) zero l = absurd (omega arith)
entry_beyond (x ∷ xs) (suc n) l = entry_beyond xs n (omega arith)

pub entry_below : {A : Type 0} (xs : List A) (n : ℕ) (x : A) → entry_at xs n ≡ Some x → (0 < n) × (n ≤ length xs)
entry_below xs zero x e = absurd cc
entry_below [] (suc n) x e = absurd cc
entry_below (y ∷ xs) (suc zero) x e = (omega arith, omega arith)
entry_below (y ∷ xs) (suc (suc n)) x e = let l = entry_below xs (suc n) x e in (omega arith, omega (arith, l.1))

pub entry_none : {A : Type 0} (xs : List A) (n : ℕ) → entry_at xs n ≡ None → 0 < n → length xs < n
entry_none xs zero e l = absurd (omega arith)
entry_none [] (suc n) e l = omega arith
entry_none (y ∷ xs) (suc zero) e l = absurd cc
entry_none (y ∷ xs) (suc (suc n)) e l = let k = entry_none xs (suc n) e (omega arith) in omega (arith, k)

pub entry_push : {A : Type 0} (xs : List A) (y x : A) (n : ℕ) → entry_at (xs ++ y ∷ []) n ≡ Some x → (entry_at xs n ≡ Some x) ⊎ ((n ≡ suc (length xs)) × (x ≡ y))
entry_push xs y x zero e = absurd cc
entry_push [] y x (suc zero) e = inr (refl, sym (same_Some y x e))
entry_push [] y x (suc (suc n)) e = absurd cc
entry_push (z ∷ xs) y x (suc zero) e = inl e
entry_push (z ∷ xs) y x (suc (suc n)) e = elim (entry_push xs y x (suc n) e) [ inl a ↦ inl a | inr b ↦ inr (omega (arith, b.0), b.1) ]

pub length-set : {A : Type 0} (xs : List A) (n : ℕ) (y : A) → length (slice_set xs n y) ≡ length xs
length-set [] n y = refl
length-set (x ∷ xs) zero y = refl
length-set (x ∷ xs) (suc n) y = ap suc (length-set xs n y)

pub push_length : {A : Type 0} (xs : List A) (y : A) → length (xs ++ y ∷ []) ≡ length xs + 1
push_length [] y = omega arith
push_length (x ∷ xs) y = omega (arith, push_length xs y)
