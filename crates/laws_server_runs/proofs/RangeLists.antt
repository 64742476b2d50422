-- A server's ranges, or its splits, in the order of their numbers: what is found under a number after one of them is set, taken or dropped.
use Rattle.std.proofs.Common.{◌≡◌, ⊎_elim, ℕ, ◌<◌, ◌≤◌, List, [], ◌∷◌, true, false, cond, Option, Some, None, refl, sym, ap, ◌∙◌, subst, inl, inr, arith}
use Rattle.std.specs.BTreeMap.{is_at, insert_entry}
use Rattle.std.specs.Cmp.{nat_cmp_is}
use Rattle.std.specs.Ordering.{nat_cmp, is_eq}
use Rattle.std.specs.declared.cmp.Ordering.TheVariants.{Less, Equal, Greater}
use Rattle.std.proofs.lemmas.Bool.{cases_eq, cases_lt}
use Rattle.std.specs.Map.{lookup, remove_entry, set_value}
use Rattle.laws_server_runs.specs.Places.{AllAbove, AreAscending}

-- ---- numbers

same_number : (k : ℕ) → is_eq (nat_cmp k k) ≡ true
same_number k = ap is_eq (sym (nat_cmp_is k k Equal refl))

other_number : (k j : ℕ) → (k ≡ j → ⊥) → is_eq (nat_cmp k j) ≡ false
other_number k j apart =
    ⊎_elim {C = is_eq (nat_cmp k j) ≡ false}
    (λ less. ap is_eq (sym (nat_cmp_is k j Less less)))
    (λ le. ap is_eq (sym (nat_cmp_is k j Greater (omega (arith, le, apart)))))
    (cases_lt k j)

-- two numbers by their order
by_order : (P : Type 0) (k j : ℕ) → (k < j → nat_cmp k j ≡ Less → P) → (k ≡ j → nat_cmp k j ≡ Equal → P) → (j < k → nat_cmp k j ≡ Greater → P) → P
by_order P k j below same above = elim (cases_lt k j) [
  | inl less ↦ below less (sym (nat_cmp_is k j Less less))
  | inr le ↦ elim (cases_eq k j) [
    | inl is ↦ same is (sym (nat_cmp_is k j Equal is))
    | inr apart ↦ above (omega (arith, le, apart)) (sym (nat_cmp_is k j Greater (omega (arith, le, apart))))
  ]
]

-- whether a number is the first one's
by_number : (P : Type 0) (k j : ℕ) → (k ≡ j → is_at (nat_cmp k) j ≡ true → P) → ((k ≡ j → ⊥) → is_at (nat_cmp k) j ≡ false → P) → P
by_number P k j same other = elim (cases_eq k j) [
  | inl is ↦ same is (subst (λ n. is_eq (nat_cmp k n) ≡ true) is (same_number k))
  | inr apart ↦ other apart (other_number k j apart)
]

-- ---- lists

module _ {A : Type 0} where
  abbrev value_of : List (ℕ × A) → ℕ → Option A
  value_of es k = lookup (is_at (nat_cmp k)) es

  abbrev set_at : List (ℕ × A) → ℕ → Option A → List (ℕ × A)
  set_at es k None = remove_entry (is_at (nat_cmp k)) es
  set_at es k (Some z) = set_value (is_at (nat_cmp k)) es z

  above_all : (k j : ℕ) (es : List (ℕ × A)) → k ≤ j → AllAbove j es → AllAbove k es
  above_all k j [] le a = tt
  above_all k j (e ∷ es) le a = (omega (arith, le, a.0), above_all k j es le a.1)

  none_above : (k j : ℕ) (es : List (ℕ × A)) → k ≤ j → AllAbove j es → value_of es k ≡ None
  none_above k j [] le a = refl
  none_above k j (e ∷ es) le a =
      let low : j < e.0 = a.0 in
      let apart : k ≡ e.0 → ⊥ = λ is. omega (arith, le, low, is) in
      ap (λ b. cond b (Some e.1) (value_of es k)) (other_number k e.0 apart) ∙ none_above k j es le a.1

  -- ---- a range is found

  found_first : (k : ℕ) (z : A) (es : List (ℕ × A)) → value_of ((k, z) ∷ es) k ≡ Some z
  found_first k z es = ap (λ b. cond b (Some z) (value_of es k)) (same_number k)

  found_behind : (k j : ℕ) (z : A) (es : List (ℕ × A)) → (j ≡ k → ⊥) → value_of ((k, z) ∷ es) j ≡ value_of es j
  found_behind k j z es apart = ap (λ b. cond b (Some z) (value_of es j)) (other_number j k apart)

  -- ---- a range is taken

  abbrev inserted : List (ℕ × A) → ℕ → A → List (ℕ × A)
  inserted es k z = insert_entry nat_cmp es k z

  pub inserted_here : (es : List (ℕ × A)) (k : ℕ) (z : A) → value_of (inserted es k z) k ≡ Some z
  inserted_here [] k z = found_first k z []
  inserted_here (e ∷ es) k z =
      by_order (value_of (inserted (e ∷ es) k z) k ≡ Some z) k e.0
      (λ less is. rw is (found_first k z (e ∷ es)))
      (λ same is. rw is (ap (λ b. cond b (Some z) (value_of es k)) (ap is_eq is)))
      (λ more is. rw is (ap (λ b. cond b (Some e.1) (value_of (inserted es k z) k)) (ap is_eq is) ∙ inserted_here es k z))

  pub inserted_other : (es : List (ℕ × A)) (k : ℕ) (z : A) (j : ℕ) → (j ≡ k → ⊥) → value_of (inserted es k z) j ≡ value_of es j
  inserted_other [] k z j apart = found_behind k j z [] apart
  inserted_other (e ∷ es) k z j apart =
      by_order (value_of (inserted (e ∷ es) k z) j ≡ value_of (e ∷ es) j) k e.0
      (λ less is. rw is (found_behind k j z (e ∷ es) apart))
      (λ same is.
      let other : is_eq (nat_cmp j e.0) ≡ false = other_number j e.0 (λ q. apart (q ∙ sym same)) in
      rw is (ap (λ b. cond b (Some z) (value_of es j)) other ∙ sym (ap (λ b. cond b (Some e.1) (value_of es j)) other)))
      (λ more is. rw is (ap (λ o. cond (is_eq (nat_cmp j e.0)) (Some e.1) o) (inserted_other es k z j apart)))

  inserted_above : (n : ℕ) (es : List (ℕ × A)) (k : ℕ) (z : A) → n < k → AllAbove n es → AllAbove n (inserted es k z)
  inserted_above n [] k z less a = (less, tt)
  inserted_above n (e ∷ es) k z less a =
      by_order (AllAbove n (inserted (e ∷ es) k z)) k e.0 (λ low is. rw is (less, a)) (λ same is. rw is a) (λ more is. rw is (a.0, inserted_above n es k z less a.1))

  pub ascending_inserted : (es : List (ℕ × A)) (k : ℕ) (z : A) → AreAscending es → AreAscending (inserted es k z)
  ascending_inserted [] k z a = (tt, tt)
  ascending_inserted (e ∷ es) k z a =
      by_order (AreAscending (inserted (e ∷ es) k z)) k e.0
      (λ low is. rw is ((low, above_all k e.0 es (omega (arith, low)) a.0), a)) (λ same is. rw is a) (λ more is. rw is (inserted_above e.0 es k z more a.0, ascending_inserted es k z a.1))

  -- ---- a range is set, or dropped

  set_here : (es : List (ℕ × A)) (k : ℕ) (r z : A) → value_of es k ≡ Some r → value_of (set_at es k (Some z)) k ≡ Some z
  set_here [] k r z found = absurd cc
  set_here (e ∷ es) k r z found =
      by_number (value_of (set_at (e ∷ es) k (Some z)) k ≡ Some z) k e.0
      (λ same is. rw is (ap (λ b. cond b (Some z) (value_of es k)) is))
      (λ apart is. rw is (ap (λ b. cond b (Some e.1) (value_of (set_at es k (Some z)) k)) is ∙ set_here es k r z (sym (ap (λ b. cond b (Some e.1) (value_of es k)) is) ∙ found)))

  set_other : (es : List (ℕ × A)) (k : ℕ) (z : A) (j : ℕ) → (j ≡ k → ⊥) → value_of (set_at es k (Some z)) j ≡ value_of es j
  set_other [] k z j apart = refl
  set_other (e ∷ es) k z j apart =
      by_number (value_of (set_at (e ∷ es) k (Some z)) j ≡ value_of (e ∷ es) j) k e.0
      (λ same is.
      let other : is_eq (nat_cmp j e.0) ≡ false = other_number j e.0 (λ q. apart (q ∙ sym same)) in
      rw is (ap (λ b. cond b (Some z) (value_of es j)) other ∙ sym (ap (λ b. cond b (Some e.1) (value_of es j)) other)))
      (λ other is. rw is (ap (λ o. cond (is_eq (nat_cmp j e.0)) (Some e.1) o) (set_other es k z j apart)))

  pub dropped_here : (es : List (ℕ × A)) (k : ℕ) → AreAscending es → value_of (set_at es k None) k ≡ None
  dropped_here [] k a = refl
  dropped_here (e ∷ es) k a =
      by_number (value_of (set_at (e ∷ es) k None) k ≡ None) k e.0
      (λ same is. rw is (none_above k e.0 es (omega (arith, same)) a.0))
      (λ apart is. rw is (ap (λ b. cond b (Some e.1) (value_of (set_at es k None) k)) is ∙ dropped_here es k a.1))

  pub dropped_other : (es : List (ℕ × A)) (k j : ℕ) → (j ≡ k → ⊥) → value_of (set_at es k None) j ≡ value_of es j
  dropped_other [] k j apart = refl
  dropped_other (e ∷ es) k j apart =
      by_number (value_of (set_at (e ∷ es) k None) j ≡ value_of (e ∷ es) j) k e.0
      (λ same is. rw is (sym (ap (λ b. cond b (Some e.1) (value_of es j)) (other_number j e.0 (λ q. apart (q ∙ sym same))))))
      (λ other is. rw is (ap (λ o. cond (is_eq (nat_cmp j e.0)) (Some e.1) o) (dropped_other es k j apart)))

  -- what a step left of a range is found under its number
  pub left_here : (es : List (ℕ × A)) (k : ℕ) (r : A) (a : Option A) → AreAscending es → value_of es k ≡ Some r → value_of (set_at es k a) k ≡ a
  left_here es k r None ascending found = dropped_here es k ascending
  left_here es k r (Some z) ascending found = set_here es k r z found

  -- and all others as before
  pub left_other : (es : List (ℕ × A)) (k : ℕ) (a : Option A) (j : ℕ) → (j ≡ k → ⊥) → value_of (set_at es k a) j ≡ value_of es j
  left_other es k None j apart = dropped_other es k j apart
  left_other es k (Some z) j apart = set_other es k z j apart

  left_above : (n : ℕ) (es : List (ℕ × A)) (k : ℕ) (a : Option A) → AllAbove n es → AllAbove n (set_at es k a)
  left_above n [] k None all = tt
  left_above n [] k (Some z) all = tt
  left_above n (e ∷ es) k None all = by_number (AllAbove n (set_at (e ∷ es) k None)) k e.0 (λ same is. rw is all.1) (λ apart is. rw is (all.0, left_above n es k None all.1))
  left_above n (e ∷ es) k (Some z) all = by_number (AllAbove n (set_at (e ∷ es) k (Some z))) k e.0 (λ same is. rw is all) (λ apart is. rw is (all.0, left_above n es k (Some z) all.1))

  pub ascending_left : (es : List (ℕ × A)) (k : ℕ) (a : Option A) → AreAscending es → AreAscending (set_at es k a)
  ascending_left [] k None all = tt
  ascending_left [] k (Some z) all = tt
  ascending_left (e ∷ es) k None all =
      by_number (AreAscending (set_at (e ∷ es) k None)) k e.0 (λ same is. rw is all.1) (λ apart is. rw is (left_above e.0 es k None all.0, ascending_left es k None all.1))
  ascending_left (e ∷ es) k (Some z) all =
      by_number (AreAscending (set_at (e ∷ es) k (Some z))) k e.0 (λ same is. rw is all) (λ apart is. rw is (left_above e.0 es k (Some z) all.0, ascending_left es k (Some z) all.1))
