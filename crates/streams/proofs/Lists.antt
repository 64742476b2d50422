-- The first element of a list that meets a test, when the list changes at one place.
use Rattle.std.proofs.Common.{◌≡◌, ℕ, zero, suc, ◌<◌, Bool, true, false, List, [], ◌∷◌, length, get_or, set, if◌then◌else◌, Option, Some, None, refl, arith, sym, ap, ◌∙◌}
use Rattle.std.specs.List.{insert}

module _ {X : Type 0} (test : X → Bool) where
  abbrev pub first_with : List X → Option X
  first_with [] = None
  first_with (x ∷ xs) = if test x then Some x else first_with xs

  -- no element before this place meets the test
  abbrev pub NoneBefore : List X → ℕ → Type 0
  NoneBefore xs i = (j : ℕ) (d : X) → j < i → j < length xs → test (get_or xs j d) ≡ false

  tail_none : (x : X) (xs : List X) (i : ℕ) → NoneBefore (x ∷ xs) (suc i) → NoneBefore xs i
  tail_none x xs i none j d lt within = none (suc j) d (omega (arith, lt)) (omega (arith, within))

  pub first_absent : (xs : List X) → NoneBefore xs (length xs) → first_with xs ≡ None
  first_absent [] none = refl
  first_absent (x ∷ xs) none = rw (none 0 x (omega arith) (omega arith)) (first_absent xs (tail_none x xs (length xs) none))

  pub first_present : (xs : List X) (i : ℕ) (d : X) → i < length xs → test (get_or xs i d) ≡ true → NoneBefore xs i → first_with xs ≡ Some (get_or xs i d)
  first_present [] i d within is none = absurd (omega (arith, within))
  first_present (x ∷ xs) zero d within is none = rw is refl
  first_present (x ∷ xs) (suc i) d within is none =
      rw (none 0 x (omega arith) (omega arith)) (first_present xs i d (omega (arith, within)) is (tail_none x xs i none))

  -- another element at a place that meets the test where the old one does
  pub first_set : (xs : List X) (i : ℕ) (y d : X) → i < length xs → test (get_or xs i d) ≡ test y → (test y ≡ true → NoneBefore xs i) →
      first_with (set xs i y) ≡ (if test y then Some y else first_with xs)
  first_set [] i y d within same none = absurd (omega (arith, within))
  first_set (x ∷ xs) zero y d within same none = at_head (test y) refl
    where
      at_head : (b : Bool) → test y ≡ b → (if b then Some y else first_with xs) ≡ (if b then Some y else (if test x then Some x else first_with xs))
      at_head true is = refl
      at_head false is = rw (same ∙ is) refl
  first_set (x ∷ xs) (suc i) y d within same none =
      by_head (test x) refl (test y) refl (λ is. first_set xs i y d (omega (arith, within)) same (λ yes. tail_none x xs i (none yes)))
    where
      by_head : (a : Bool) → test x ≡ a → (b : Bool) → test y ≡ b → (test x ≡ false → first_with (set xs i y) ≡ (if test y then Some y else first_with xs)) →
          (if a then Some x else first_with (set xs i y)) ≡ (if b then Some y else (if a then Some x else first_with xs))
      by_head true is true is_y more = absurd (let no = sym is ∙ none is_y 0 x (omega arith) (omega arith) in cc)
      by_head true is false is_y more = refl
      by_head false is b is_y more = more is ∙ ap (λ (c : Bool). if c then Some y else first_with xs) is_y

  -- one more element at a place
  pub first_insert : (xs : List X) (i : ℕ) (y : X) → (test y ≡ true → NoneBefore xs i) →
      first_with (insert xs i y) ≡ (if test y then Some y else first_with xs)
  first_insert xs zero y none = refl
  first_insert [] (suc i) y none = refl
  first_insert (x ∷ xs) (suc i) y none =
      by_head (test x) refl (test y) refl (λ is. first_insert xs i y (λ yes. tail_none x xs i (none yes)))
    where
      by_head : (a : Bool) → test x ≡ a → (b : Bool) → test y ≡ b → (test x ≡ false → first_with (insert xs i y) ≡ (if test y then Some y else first_with xs)) →
          (if a then Some x else first_with (insert xs i y)) ≡ (if b then Some y else (if a then Some x else first_with xs))
      by_head true is true is_y more = absurd (let no = sym is ∙ none is_y 0 x (omega arith) (omega arith) in cc)
      by_head true is false is_y more = refl
      by_head false is b is_y more = more is ∙ ap (λ (c : Bool). if c then Some y else first_with xs) is_y
