-- Lists by their numbers: what is found in them after a change.
use Rattle.std.proofs.Common.{◌≡◌, ℕ, Bool, true, false, cond, List, [], ◌∷◌, Option, Some, refl, sym, ap, ◌∙◌, subst, arith}
use Rattle.std.proofs.lemmas.Option.{same_Some}
use Rattle.std.specs.Map.{lookup, remove_entry, set_value}
use Rattle.std.specs.BTreeMap.{is_at, insert_entry}
use Rattle.std.specs.Ordering.{nat_cmp, is_eq, match_ordering}
use Rattle.std.specs.declared.cmp.Ordering.{Ordering}
use Rattle.std.specs.declared.cmp.Ordering.TheVariants.{Less, Equal, Greater}
use Rattle.laws_map.specs.Naming.{IsAbove, IsRising}
use Rattle.laws_map.proofs.Knowing.{same_number}
use Rattle.laws_map.proofs.Rising.{not_found}

is_itself : (n : ℕ) → is_eq (nat_cmp n n) ≡ true
is_itself n = grind arith

not_itself : (m n : ℕ) → (m ≡ n → ⊥) → is_eq (nat_cmp m n) ≡ false
not_itself m n apart = go (is_eq (nat_cmp m n)) refl
  where
    go : (b : Bool) → is_eq (nat_cmp m n) ≡ b → b ≡ false
    go true e = absurd (apart (same_number m n e))
    go false e = refl

module _ {A : Type 0} where
  abbrev found : List (ℕ × A) → ℕ → Option A
  found xs n = lookup (is_at (nat_cmp n)) xs

  -- passed over where the number is another
  passed : (x : ℕ × A) (xs : List (ℕ × A)) (m : ℕ) → (m ≡ x.0 → ⊥) → found (x ∷ xs) m ≡ found xs m
  passed x xs m apart = ap (λ b. cond b (Some x.1) (found xs m)) (not_itself m x.0 apart)

  here : (x : ℕ × A) (xs : List (ℕ × A)) (m : ℕ) → m ≡ x.0 → found (x ∷ xs) m ≡ Some x.1
  here x xs m same = ap (λ b. cond b (Some x.1) (found xs m)) (subst (λ k. is_eq (nat_cmp m k) ≡ true) same (is_itself m))

  -- beside one more, the same are found
  beside : (x : ℕ × A) (xs ys : List (ℕ × A)) (m : ℕ) → found xs m ≡ found ys m → found (x ∷ xs) m ≡ found (x ∷ ys) m
  beside x xs ys m same = ap (cond (is_eq (nat_cmp m x.0)) (Some x.1)) same

  -- ---- other numbers

  pub removed_other : (xs : List (ℕ × A)) (n m : ℕ) → (m ≡ n → ⊥) → lookup (is_at (nat_cmp m)) (remove_entry (is_at (nat_cmp n)) xs) ≡ lookup (is_at (nat_cmp m)) xs
  removed_other [] n m apart = refl
  removed_other (x ∷ xs) n m apart = go (is_eq (nat_cmp n x.0)) refl (removed_other xs n m apart)
    where
      go : (b : Bool) → is_eq (nat_cmp n x.0) ≡ b → found (remove_entry (is_at (nat_cmp n)) xs) m ≡ found xs m → found (cond b xs (x ∷ remove_entry (is_at (nat_cmp n)) xs)) m ≡ found (x ∷ xs) m
      go true e rest = sym (passed x xs m (λ same. apart (same ∙ sym (same_number n x.0 e))))
      go false e rest = beside x _ xs m rest

  pub put_other : (xs : List (ℕ × A)) (n m : ℕ) (v : A) → (m ≡ n → ⊥) → lookup (is_at (nat_cmp m)) (set_value (is_at (nat_cmp n)) xs v) ≡ lookup (is_at (nat_cmp m)) xs
  put_other [] n m v apart = refl
  put_other (x ∷ xs) n m v apart = go (is_eq (nat_cmp n x.0)) refl (put_other xs n m v apart)
    where
      go : (b : Bool) → is_eq (nat_cmp n x.0) ≡ b → found (set_value (is_at (nat_cmp n)) xs v) m ≡ found xs m → found (cond b ((x.0, v) ∷ xs) (x ∷ set_value (is_at (nat_cmp n)) xs v)) m ≡ found (x ∷ xs) m
      go true e rest =
          let away : m ≡ x.0 → ⊥ = λ same. apart (same ∙ sym (same_number n x.0 e)) in
          passed (x.0, v) xs m away ∙ sym (passed x xs m away)
      go false e rest = beside x _ xs m rest

  pub inserted_other : (xs : List (ℕ × A)) (n m : ℕ) (v : A) → (m ≡ n → ⊥) → lookup (is_at (nat_cmp m)) (insert_entry nat_cmp xs n v) ≡ lookup (is_at (nat_cmp m)) xs
  inserted_other [] n m v apart = passed (n, v) [] m apart
  inserted_other (x ∷ xs) n m v apart = go (nat_cmp n x.0) refl (inserted_other xs n m v apart)
    where
      go : (o : Ordering) → nat_cmp n x.0 ≡ o → found (insert_entry nat_cmp xs n v) m ≡ found xs m →
          found (match_ordering o ((n, v) ∷ x ∷ xs) ((x.0, v) ∷ xs) (x ∷ insert_entry nat_cmp xs n v)) m ≡ found (x ∷ xs) m
      go Less e rest = passed (n, v) (x ∷ xs) m apart
      go Equal e rest =
          let away : m ≡ x.0 → ⊥ = λ same. apart (same ∙ sym (same_number n x.0 (ap is_eq e))) in
          passed (x.0, v) xs m away ∙ sym (passed x xs m away)
      go Greater e rest = beside x _ xs m rest

  -- ---- the number itself

  pub inserted_here : (xs : List (ℕ × A)) (n : ℕ) (v : A) → lookup (is_at (nat_cmp n)) (insert_entry nat_cmp xs n v) ≡ Some v
  inserted_here [] n v = here (n, v) [] n refl
  inserted_here (x ∷ xs) n v = go (nat_cmp n x.0) refl (inserted_here xs n v)
    where
      go : (o : Ordering) → nat_cmp n x.0 ≡ o → found (insert_entry nat_cmp xs n v) n ≡ Some v →
          found (match_ordering o ((n, v) ∷ x ∷ xs) ((x.0, v) ∷ xs) (x ∷ insert_entry nat_cmp xs n v)) n ≡ Some v
      go Less e rest = here (n, v) (x ∷ xs) n refl
      go Equal e rest = here (x.0, v) xs n (same_number n x.0 (ap is_eq e))
      go Greater e rest = passed x _ n (λ same. absurd (above same)) ∙ rest
        where
          above : n ≡ x.0 → ⊥
          above same = grind (arith, e, same)

  pub put_here : (xs : List (ℕ × A)) (n : ℕ) (v w : A) → lookup (is_at (nat_cmp n)) (set_value (is_at (nat_cmp n)) xs v) ≡ Some w → v ≡ w
  put_here [] n v w is = absurd cc
  put_here (x ∷ xs) n v w is = go (is_eq (nat_cmp n x.0)) refl (put_here xs n v w) is
    where
      go : (b : Bool) → is_eq (nat_cmp n x.0) ≡ b → (found (set_value (is_at (nat_cmp n)) xs v) n ≡ Some w → v ≡ w) →
          found (cond b ((x.0, v) ∷ xs) (x ∷ set_value (is_at (nat_cmp n)) xs v)) n ≡ Some w → v ≡ w
      go true e rest is = same_Some v w (sym (here (x.0, v) xs n (same_number n x.0 e)) ∙ is)
      go false e rest is = rest (sym (ap (λ b. cond b (Some x.1) (found (set_value (is_at (nat_cmp n)) xs v) n)) e) ∙ is)

  pub removed_here : (xs : List (ℕ × A)) (n : ℕ) (w : A) → IsRising xs → lookup (is_at (nat_cmp n)) (remove_entry (is_at (nat_cmp n)) xs) ≡ Some w → ⊥
  removed_here [] n w s is = absurd cc
  removed_here (x ∷ xs) n w s is = go (is_eq (nat_cmp n x.0)) refl (removed_here xs n w s.1) is
    where
      go : (b : Bool) → is_eq (nat_cmp n x.0) ≡ b → (found (remove_entry (is_at (nat_cmp n)) xs) n ≡ Some w → ⊥) → found (cond b xs (x ∷ remove_entry (is_at (nat_cmp n)) xs)) n ≡ Some w → ⊥
      go true e rest is = not_found n xs w (subst (λ k. IsAbove k xs) (sym (same_number n x.0 e)) s.0) is
      go false e rest is = rest (sym (ap (λ b. cond b (Some x.1) (found (remove_entry (is_at (nat_cmp n)) xs) n)) e) ∙ is)

  -- ---- rising numbers

  pub rising_put : (xs : List (ℕ × A)) (n : ℕ) (v : A) → IsRising xs → IsRising (set_value (is_at (nat_cmp n)) xs v)
  rising_put [] n v s = tt
  rising_put (x ∷ xs) n v s = go (is_eq (nat_cmp n x.0)) (rising_put xs n v s.1) (above (is_eq (nat_cmp n x.0)) refl)
    where
      above : (b : Bool) → is_eq (nat_cmp n x.0) ≡ b → b ≡ false → IsAbove x.0 (set_value (is_at (nat_cmp n)) xs v)
      above true e f = absurd cc
      above false e f = keep xs s.0
        where
          keep : (ys : List (ℕ × A)) → IsAbove x.0 ys → IsAbove x.0 (set_value (is_at (nat_cmp n)) ys v)
          keep [] a = tt
          keep (y ∷ ys) a = on (is_eq (nat_cmp n y.0)) (keep ys a.1)
            where
              on : (b : Bool) → IsAbove x.0 (set_value (is_at (nat_cmp n)) ys v) → IsAbove x.0 (cond b ((y.0, v) ∷ ys) (y ∷ set_value (is_at (nat_cmp n)) ys v))
              on true rest = a
              on false rest = (a.0, rest)

      go : (b : Bool) → IsRising (set_value (is_at (nat_cmp n)) xs v) → (b ≡ false → IsAbove x.0 (set_value (is_at (nat_cmp n)) xs v)) → IsRising (cond b ((x.0, v) ∷ xs) (x ∷ set_value (is_at (nat_cmp n)) xs v))
      go true rest above = s
      go false rest above = (above refl, rest)
