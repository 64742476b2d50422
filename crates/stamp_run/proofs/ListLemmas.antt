-- A list that grew, or in which one place was written, and the first of two that there is.
use Rattle.std.proofs.Common.{◌≡◌, ◌⊎◌, ℕ, zero, suc, List, [], ◌∷◌, ◌++◌, set, Option, Some, None, inl, inr, refl, sym, arith}
use Rattle.std.specs.Prelude.{slice_get}
use Rattle.std.specs.Option.{option_or}
use Rattle.std.proofs.lemmas.Option.{same_Some, none-some}

pub get_append : {X : Type 0} (xs ys : List X) (k : ℕ) (x : X) → slice_get xs k ≡ Some x → slice_get (xs ++ ys) k ≡ Some x
get_append [] ys k x e = absurd (none-some x e)
get_append (z ∷ zs) ys zero x e = e
get_append (z ∷ zs) ys (suc k) x e = get_append zs ys k x e

pub get_snoc : {X : Type 0} (xs : List X) (y : X) (k : ℕ) (x : X) → slice_get (xs ++ y ∷ []) k ≡ Some x → (slice_get xs k ≡ Some x) ⊎ (x ≡ y)
get_snoc [] y zero x e = inr (sym (same_Some y x e))
get_snoc [] y (suc k) x e = absurd (none-some x e)
get_snoc (z ∷ zs) y zero x e = inl e
get_snoc (z ∷ zs) y (suc k) x e = get_snoc zs y k x e

pub get_set : {X : Type 0} (xs : List X) (i : ℕ) (v : X) (k : ℕ) (x : X) → slice_get (set xs i v) k ≡ Some x → ((k ≡ i) × (x ≡ v)) ⊎ (slice_get xs k ≡ Some x)
get_set [] i v k x e = absurd (none-some x e)
get_set (z ∷ zs) zero v zero x e = inl (refl, sym (same_Some v x e))
get_set (z ∷ zs) zero v (suc k) x e = inr e
get_set (z ∷ zs) (suc i) v zero x e = inr e
get_set (z ∷ zs) (suc i) v (suc k) x e =
    elim (get_set zs i v k x e) [ inl h ↦ inl (omega arith, h.1) | inr h ↦ inr h ]

pub or_assoc : {T : Type 0} (a b c : Option T) → option_or (option_or a b) c ≡ option_or a (option_or b c)
or_assoc None b c = refl
or_assoc (Some x) b c = refl

pub or_none : {T : Type 0} (a : Option T) → option_or a None ≡ a
or_none None = refl
or_none (Some x) = refl
