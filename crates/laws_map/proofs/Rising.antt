-- Lists whose numbers rise: no number stands twice, and what is changed by its number leaves them so.
use Rattle.std.proofs.Common.{◌≡◌, ℕ, ◌<◌, Bool, true, false, cond, List, [], ◌∷◌, Some, refl, subst, arith}
use Rattle.std.specs.Map.{lookup, remove_entry}
use Rattle.std.specs.BTreeMap.{is_at, insert_entry}
use Rattle.std.specs.Ordering.{nat_cmp, is_eq, match_ordering}
use Rattle.std.specs.declared.cmp.Ordering.{Ordering}
use Rattle.std.specs.declared.cmp.Ordering.TheVariants.{Less, Equal, Greater}
use Rattle.std.specs.Prelude.{if◌then◌else◌}
use Rattle.wire.specs.declared.actor.ReqNo.{ReqNo}
use Rattle.model_partition.specs.declared.split_job.SplitJob.{SplitJob}
use Rattle.model_partition.specs.Server.{split_of, split_awaiting}
use Rattle.model_partition.specs.Splits.{phase_awaits}
use Rattle.laws_map.specs.Naming.{IsAbove, IsRising}
use Rattle.laws_map.proofs.Knowing.{same_number, each_weaker, removed_at, inserted_at}

is_below : (n m : ℕ) → nat_cmp n m ≡ Less → n < m
is_below n m is = grind (arith, is)

is_over : (n m : ℕ) → nat_cmp n m ≡ Greater → m < n
is_over n m is = grind (arith, is)

module _ {A : Type 0} where
  pub rising_removed : (xs : List (ℕ × A)) (n : ℕ) → IsRising xs → IsRising (remove_entry (is_at (nat_cmp n)) xs)
  rising_removed [] n s = tt
  rising_removed (x ∷ xs) n s = go (is_eq (nat_cmp n x.0)) (rising_removed xs n s.1) (removed_at (λ k v. x.0 < k) xs n s.0)
    where
      go : (b : Bool) → IsRising (remove_entry (is_at (nat_cmp n)) xs) → IsAbove x.0 (remove_entry (is_at (nat_cmp n)) xs) → IsRising (cond b xs (x ∷ remove_entry (is_at (nat_cmp n)) xs))
      go true rest above = s.1
      go false rest above = (above, rest)

  pub rising_inserted : (xs : List (ℕ × A)) (n : ℕ) (v : A) → IsRising xs → IsRising (insert_entry nat_cmp xs n v)
  rising_inserted [] n v s = (tt, tt)
  rising_inserted (x ∷ xs) n v s = go (nat_cmp n x.0) refl (rising_inserted xs n v s.1)
    where
      go : (o : Ordering) → nat_cmp n x.0 ≡ o → IsRising (insert_entry nat_cmp xs n v) → IsRising (match_ordering o ((n, v) ∷ x ∷ xs) ((x.0, v) ∷ xs) (x ∷ insert_entry nat_cmp xs n v))
      go Less e rest = let l = is_below n x.0 e in ((l, each_weaker (λ (y : ℕ × A). x.0 < y.0) (λ (y : ℕ × A). n < y.0) (λ y m. omega (arith, l, m)) xs s.0), s)
      go Equal e rest = s
      go Greater e rest = (inserted_at (λ k w. x.0 < k) xs n v s.0 (is_over n x.0 e), rest)

-- no other stands under a number above
pub not_found : {A : Type 0} (n : ℕ) (xs : List (ℕ × A)) (v : A) → IsAbove n xs → lookup (is_at (nat_cmp n)) xs ≡ Some v → ⊥
not_found n [] v a is = absurd cc
not_found n (x ∷ xs) v a is = go (is_eq (nat_cmp n x.0)) refl (λ more. not_found n xs v a.1 more) is
  where
    go : (b : Bool) → is_eq (nat_cmp n x.0) ≡ b → (lookup (is_at (nat_cmp n)) xs ≡ Some v → ⊥) → cond b (Some x.1) (lookup (is_at (nat_cmp n)) xs) ≡ Some v → ⊥
    go true e rest is = let same = same_number n x.0 e in let l = a.0 in absurd (omega (arith, same, l))
    go false e rest is = rest is

-- the split that is found by its number is the one that waits
pub awaits_itself : (js : List (ℕ × SplitJob)) (w : ReqNo) (n : ℕ) (job : SplitJob) → IsRising js → split_awaiting js w ≡ Some n → split_of js n ≡ Some job → phase_awaits job.phase w ≡ true
awaits_itself [] w n job s waits is = absurd cc
awaits_itself (x ∷ js) w n job s waits is = go (phase_awaits x.1.phase w) refl (is_eq (nat_cmp n x.0)) refl waits is (awaits_itself js w n job s.1)
  where
    later : (js : List (ℕ × SplitJob)) (k : ℕ) → IsAbove k js → split_awaiting js w ≡ Some k → ⊥
    later [] k a waits = absurd cc
    later (y ∷ js) k a waits = on (phase_awaits y.1.phase w) waits (later js k a.1)
      where
        on : (b : Bool) → (if b then Some y.0 else split_awaiting js w) ≡ Some k → (split_awaiting js w ≡ Some k → ⊥) → ⊥
        on true waits rest = let e : y.0 ≡ k = cc in let l = a.0 in absurd (omega (arith, e, l))
        on false waits rest = rest waits

    go : (b : Bool) → phase_awaits x.1.phase w ≡ b → (a : Bool) → is_eq (nat_cmp n x.0) ≡ a → (if b then Some x.0 else split_awaiting js w) ≡ Some n → cond a (Some x.1) (split_of js n) ≡ Some job →
        (split_awaiting js w ≡ Some n → split_of js n ≡ Some job → phase_awaits job.phase w ≡ true) → phase_awaits job.phase w ≡ true
    go true e true f waits is rest = let same : x.1 ≡ job = cc in subst (λ (j : SplitJob). phase_awaits j.phase w ≡ true) same e
    go true e false f waits is rest = let same : x.0 ≡ n = cc in absurd (not_found n js job (subst (λ k. IsAbove k js) same s.0) is)
    go false e true f waits is rest = absurd (later js x.0 s.0 (subst (λ k. split_awaiting js w ≡ Some k) (same_number n x.0 f) waits))
    go false e false f waits is rest = rest waits is
