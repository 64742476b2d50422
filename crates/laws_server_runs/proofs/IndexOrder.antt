-- The order in which a load reads indexes: the metadata names the newest first, and the oldest is read first.
use Rattle.std.proofs.Common.{◌≡◌, ⊎_elim, ℕ, zero, suc, ◌-◌, ◌<◌, ◌≤◌, List, [], ◌∷◌, length, drop, nat_lt, Bool, true, false, Some, None, if◌then◌else◌, refl, sym, ap, ◌∙◌, arith}
use Rattle.std.specs.List.{slice_get}
use Rattle.std.proofs.lemmas.Bool.{ltb-true, ltb-false}
use Rattle.std.proofs.lemmas.Option.{slice_get_cases}
use Rattle.metadata.specs.declared.record.IndexRange.{IndexRange}
use Rattle.model_partition.specs.Loading.{index_named}

-- the element at a place, and what is behind it
drop_got : {A : Type 0} (n : ℕ) (xs : List A) (x : A) → slice_get xs n ≡ Some x → drop n xs ≡ x ∷ drop (suc n) xs
drop_got {A} n [] x e = absurd cc
drop_got {A} zero (y ∷ xs) x e = let same : y ≡ x = cc in ap (λ z. z ∷ xs) same
drop_got {A} (suc n) (y ∷ xs) x e = drop_got n xs x e

drop_past : {A : Type 0} (n : ℕ) (xs : List A) → length xs ≤ n → drop n xs ≡ []
drop_past {A} zero [] low = refl
drop_past {A} (suc n) [] low = refl
drop_past {A} zero (x ∷ xs) low = absurd (omega (arith, low))
drop_past {A} (suc n) (x ∷ xs) low = drop_past n xs (omega (arith, low))

-- before the first is read there is none
pub none_read : (xs : List IndexRange) → drop (length xs - 0) xs ≡ []
none_read xs = drop_past (length xs - 0) xs (omega arith)

-- where no other is named all are read
pub all_read : (xs : List IndexRange) (position : ℕ) → index_named xs position ≡ None → drop (length xs - position) xs ≡ xs
all_read xs position none = by (nat_lt position (length xs)) refl none
  where
    by : (b : Bool) → nat_lt position (length xs) ≡ b → (if b then slice_get xs (length xs - suc position) else None) ≡ None → drop (length xs - position) xs ≡ xs
    by true t e =
        let low : position < length xs = ltb-true position (length xs) t in
        ⊎_elim {C = drop (length xs - position) xs ≡ xs}
        (λ there. absurd (let z : Some there.0 ≡ None = sym there.2 ∙ e in cc))
        (λ past. let far : length xs ≤ length xs - suc position = past.0 in absurd (omega (arith, far, low)))
        (slice_get_cases xs (length xs - suc position)).1
    by false f e =
        let high : length xs ≤ position = ltb-false position (length xs) f in
        let zero_left : length xs - position ≡ 0 = omega (arith, high) in
        ap (λ n. drop n xs) zero_left

-- the next one goes before those that were read
pub next_read : (xs : List IndexRange) (position : ℕ) (x : IndexRange) → index_named xs position ≡ Some x → drop (length xs - suc position) xs ≡ x ∷ drop (length xs - position) xs
next_read xs position x is = by (nat_lt position (length xs)) refl is
  where
    by : (b : Bool) → nat_lt position (length xs) ≡ b → (if b then slice_get xs (length xs - suc position) else None) ≡ Some x → drop (length xs - suc position) xs ≡ x ∷ drop (length xs - position) xs
    by false f e = absurd cc
    by true t e =
        let low : position < length xs = ltb-true position (length xs) t in
        let one : suc (length xs - suc position) ≡ length xs - position = omega (arith, low) in
        drop_got (length xs - suc position) xs x e ∙ ap (λ n. x ∷ drop n xs) one
