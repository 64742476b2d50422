-- Members of lists.
use Rattle.std.proofs.Common.{◌≡◌, ℕ, zero, suc, ◌<◌, List, [], ◌∷◌, ◌++◌, length, refl, sym, ap, inl, inr, ◌⊎◌, ⊎_elim, arith}
use Rattle.std.specs.Prelude.{Contains, slice_index_or}
use Rattle.model_histories.specs.StreamMachine.{In}

in_at : {A : Type 0} (x : A) (xs : List A) (k : ℕ) → k < length xs → slice_index_or xs k x ≡ x → In x xs
in_at x [] k h e = absurd (omega arith)
in_at x (y ∷ ys) zero h e = inl (sym e)
in_at x (y ∷ ys) (suc k) h e = inr (in_at x ys k (omega arith) e)

pub in_contains : {A : Type 0} (x : A) (xs : List A) → Contains xs x → In x xs
in_contains x xs h = in_at x xs h.0 h.1 h.2

pub contains_in : {A : Type 0} (x : A) (xs : List A) → In x xs → Contains xs x
contains_in x [] h = absurd h
contains_in x (y ∷ ys) (inl e) = (0, omega arith, sym e)
contains_in x (y ∷ ys) (inr h) =
    let r : Contains ys x = contains_in x ys h in
    let lt : r.0 < length ys = r.1 in
    (suc r.0, omega arith, r.2)

pub in_right : {A : Type 0} (x : A) (us vs : List A) → In x vs → In x (us ++ vs)
in_right x [] vs h = h
in_right x (u ∷ us) vs h = inr (in_right x us vs h)

pub in_left : {A : Type 0} (x : A) (us vs : List A) → In x us → In x (us ++ vs)
in_left x [] vs h = absurd h
in_left x (u ∷ us) vs (inl e) = inl e
in_left x (u ∷ us) vs (inr h) = inr (in_left x us vs h)

pub in_middle : {A : Type 0} (x : A) (us vs : List A) → In x (us ++ x ∷ vs)
in_middle x us vs = in_right x us (x ∷ vs) (inl refl)

pub in_cases : {A : Type 0} (x : A) (us vs : List A) → In x (us ++ vs) → In x us ⊎ In x vs
in_cases x [] vs h = inr h
in_cases x (u ∷ us) vs (inl e) = inl (inl e)
in_cases x (u ∷ us) vs (inr h) = ⊎_elim (λ m. inl (inr m)) (λ m. inr m) (in_cases x us vs h)

pub in_split : {A : Type 0} (x : A) (xs : List A) → In x xs → (us : List A) × (vs : List A) × (xs ≡ us ++ x ∷ vs)
in_split x [] h = absurd h
in_split x (y ∷ xs) (inl e) = ([], xs, ap (λ z. z ∷ xs) (sym e))
in_split {A} x (y ∷ xs) (inr h) =
    let r : (us : List A) × (vs : List A) × (xs ≡ us ++ x ∷ vs) = in_split x xs h in
    (y ∷ r.0, r.1, ap (λ l. y ∷ l) r.2)
