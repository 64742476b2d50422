-- Entries of a map, of which one is set or taken away.
use Rattle.std.proofs.Common.{◌≡◌, ℕ, Bool, true, false, List, [], ◌∷◌, Some, None, Ordering, Less, Equal, Greater, is_eq, arith, refl, ap, sym, ◌∙◌, ◌==◌, true≢false, eq-eqb}
use Rattle.std.specs.BTreeMap.{insert_entry, is_at}
use Rattle.std.specs.List.Sorted.{IsStrictlySortedBy}
use Rattle.std.specs.Map.{keys_of, lookup, remove_entry, set_value, AreApart}
use Rattle.std.specs.Ordering.{nat_cmp}
use Rattle.std.proofs.lemmas.Map.{lookup-none}
use Rattle.std.proofs.lemmas.Map.Entries.{none_below_head}
use Rattle.std.proofs.lemmas.Map.Lookups.{exact_unsigned}
use Rattle.std.specs.Cmp.{nat_cmp_total}

module _ {K X : Type 0} (test : K → Bool) where
  removed_step : (b : Bool) (e : K × X) (es : List (K × X)) (w : X) →
      remove_entry test (set_value test es w) ≡ remove_entry test es → test e.0 ≡ b →
      remove_entry test (set_value test (e ∷ es) w) ≡ remove_entry test (e ∷ es)
  removed_step true e es w more is = rw (is, is) refl
  removed_step false e es w more is = rw (is, is) (ap (λ l. e ∷ l) more)

  pub removed_after : (es : List (K × X)) (w : X) → remove_entry test (set_value test es w) ≡ remove_entry test es
  removed_after [] w = refl
  removed_after (e ∷ es) w = removed_step (test e.0) e es w (removed_after es w) refl

  same_step : (b : Bool) (e : K × X) (es : List (K × X)) (w : X) → test e.0 ≡ b →
      (lookup test es ≡ Some w → set_value test es w ≡ es) → lookup test (e ∷ es) ≡ Some w → set_value test (e ∷ es) w ≡ e ∷ es
  same_step true e es w is more found = rw is (ap (λ x. (e.0, x) ∷ es) cc)
  same_step false e es w is more found = rw is (ap (λ l. e ∷ l) (more cc))

  pub set_same : (es : List (K × X)) (w : X) → lookup test es ≡ Some w → set_value test es w ≡ es
  set_same [] w found = refl
  set_same (e ∷ es) w found = same_step (test e.0) e es w refl (set_same es w) found

  again_step : (b : Bool) (e : K × X) (es : List (K × X)) (v w : X) → test e.0 ≡ b →
      set_value test (set_value test es v) w ≡ set_value test es w →
      set_value test (set_value test (e ∷ es) v) w ≡ set_value test (e ∷ es) w
  again_step true e es v w is more = rw (is, is) refl
  again_step false e es v w is more = rw (is, is) (ap (λ l. e ∷ l) more)

  pub set_again : (es : List (K × X)) (v w : X) → set_value test (set_value test es v) w ≡ set_value test es w
  set_again [] v w = refl
  set_again (e ∷ es) v w = again_step (test e.0) e es v w refl (set_again es v w)

  found_step : (b : Bool) (e : K × X) (es : List (K × X)) (v w : X) → test e.0 ≡ b →
      (lookup test es ≡ Some v → lookup test (set_value test es w) ≡ Some w) → lookup test (e ∷ es) ≡ Some v →
      lookup test (set_value test (e ∷ es) w) ≡ Some w
  found_step true e es v w is more found = rw (is, is) refl
  found_step false e es v w is more found = rw (is, is) (more cc)

  pub found_again : (es : List (K × X)) (v w : X) → lookup test es ≡ Some v → lookup test (set_value test es w) ≡ Some w
  found_again [] v w found = absurd cc
  found_again (e ∷ es) v w found = found_step (test e.0) e es v w refl (found_again es v w) found

  absent_step : (b : Bool) (e : K × X) (es : List (K × X)) → test e.0 ≡ b →
      (lookup test es ≡ None → remove_entry test es ≡ es) → lookup test (e ∷ es) ≡ None → remove_entry test (e ∷ es) ≡ e ∷ es
  absent_step true e es is more none = absurd cc
  absent_step false e es is more none = rw is (ap (λ l. e ∷ l) (more cc))

  pub removed_absent : (es : List (K × X)) → lookup test es ≡ None → remove_entry test es ≡ es
  removed_absent [] none = refl
  removed_absent (e ∷ es) none = absent_step (test e.0) e es refl (removed_absent es) none

  unset_step : (b : Bool) (e : K × X) (es : List (K × X)) (w : X) → test e.0 ≡ b →
      (lookup test es ≡ None → set_value test es w ≡ es) → lookup test (e ∷ es) ≡ None → set_value test (e ∷ es) w ≡ e ∷ es
  unset_step true e es w is more none = absurd cc
  unset_step false e es w is more none = rw is (ap (λ l. e ∷ l) (more cc))

  pub set_absent : (es : List (K × X)) (w : X) → lookup test es ≡ None → set_value test es w ≡ es
  set_absent [] w none = refl
  set_absent (e ∷ es) w none = unset_step (test e.0) e es w refl (set_absent es w) none

-- ---- entries at two keys

module _ {K X : Type 0} (test other : K → Bool) (apart : AreApart test other) where
  swapped_step : (b c : Bool) (e : K × X) (es : List (K × X)) (v w : X) → test e.0 ≡ b → other e.0 ≡ c →
      set_value test (set_value other es v) w ≡ set_value other (set_value test es w) v →
      set_value test (set_value other (e ∷ es) v) w ≡ set_value other (set_value test (e ∷ es) w) v
  swapped_step true true e es v w is also more = absurd (true≢false (sym also ∙ apart e.0 is))
  swapped_step true false e es v w is also more = rw (is, also, is) refl
  swapped_step false true e es v w is also more = rw (is, also, is) refl
  swapped_step false false e es v w is also more = rw (is, also, is) (ap (λ l. e ∷ l) more)

  -- of two that are set either may be set first
  pub set_swapped : (es : List (K × X)) (v w : X) → set_value test (set_value other es v) w ≡ set_value other (set_value test es w) v
  set_swapped [] v w = refl
  set_swapped (e ∷ es) v w = swapped_step (test e.0) (other e.0) e es v w refl refl (set_swapped es v w)

  removed_step_apart : (b c : Bool) (e : K × X) (es : List (K × X)) (v : X) → test e.0 ≡ b → other e.0 ≡ c →
      remove_entry test (set_value other es v) ≡ set_value other (remove_entry test es) v →
      remove_entry test (set_value other (e ∷ es) v) ≡ set_value other (remove_entry test (e ∷ es)) v
  removed_step_apart true true e es v is also more = absurd (true≢false (sym also ∙ apart e.0 is))
  removed_step_apart true false e es v is also more = rw (is, also, is) refl
  removed_step_apart false true e es v is also more = rw (is, also, is) refl
  removed_step_apart false false e es v is also more = rw (is, also, is) (ap (λ l. e ∷ l) more)

  pub removed_apart : (es : List (K × X)) (v : X) → remove_entry test (set_value other es v) ≡ set_value other (remove_entry test es) v
  removed_apart [] v = refl
  removed_apart (e ∷ es) v = removed_step_apart (test e.0) (other e.0) e es v refl refl (removed_apart es v)

  found_step_apart : (b c : Bool) (e : K × X) (es : List (K × X)) (w : X) → test e.0 ≡ b → other e.0 ≡ c →
      lookup other (set_value test es w) ≡ lookup other es → lookup other (set_value test (e ∷ es) w) ≡ lookup other (e ∷ es)
  found_step_apart true true e es w is also more = absurd (true≢false (sym also ∙ apart e.0 is))
  found_step_apart true false e es w is also more = rw (is, also) refl
  found_step_apart false true e es w is also more = rw (is, also) refl
  found_step_apart false false e es w is also more = rw (is, also) more

  pub found_apart : (es : List (K × X)) (w : X) → lookup other (set_value test es w) ≡ lookup other es
  found_apart [] w = refl
  found_apart (e ∷ es) w = found_step_apart (test e.0) (other e.0) e es w refl refl (found_apart es w)

equal_from : (o : Ordering) → is_eq o ≡ true → o ≡ Equal
equal_from Less is = absurd cc
equal_from Equal is = refl
equal_from Greater is = absurd cc

apart_if : (o : Ordering) (a b k : ℕ) → a == b ≡ false → nat_cmp a k ≡ Equal → nat_cmp b k ≡ o → is_eq o ≡ false
apart_if Less a b k apart here there = refl
apart_if Equal a b k apart here there = absurd (true≢false (sym (eq-eqb a b (exact_unsigned a k here ∙ sym (exact_unsigned b k there))) ∙ apart))
apart_if Greater a b k apart here there = refl

-- no key is two numbers
pub keys_apart : (a b : ℕ) → a == b ≡ false → AreApart (is_at (nat_cmp a)) (is_at (nat_cmp b))
keys_apart a b apart k here = apart_if (nat_cmp b k) a b k apart (equal_from (nat_cmp a k) here) refl

-- ---- entries in the order of their keys

module _ {X : Type 0} (k : ℕ) where
  inserted_step : (o : Ordering) (e : ℕ × X) (es : List (ℕ × X)) (v w : X) → nat_cmp k e.0 ≡ o →
      IsStrictlySortedBy nat_cmp (keys_of (e ∷ es)) → (lookup (is_at (nat_cmp k)) es ≡ Some v → insert_entry nat_cmp es k w ≡ set_value (is_at (nat_cmp k)) es w) →
      lookup (is_at (nat_cmp k)) (e ∷ es) ≡ Some v → insert_entry nat_cmp (e ∷ es) k w ≡ set_value (is_at (nat_cmp k)) (e ∷ es) w
  inserted_step Less e es v w is sorted more found =
      absurd (grind (arith, found, lookup-none (is_at (nat_cmp k)) (e ∷ es) (none_below_head nat_cmp_total k e es sorted is)))
  inserted_step Equal e es v w is sorted more found = rw is refl
  inserted_step Greater e es v w is sorted more found = rw is (ap (λ l. e ∷ l) (more cc))

  -- where the key is there, its value is set
  pub inserted_in_place : (es : List (ℕ × X)) (v w : X) → IsStrictlySortedBy nat_cmp (keys_of es) → lookup (is_at (nat_cmp k)) es ≡ Some v
      → insert_entry nat_cmp es k w ≡ set_value (is_at (nat_cmp k)) es w
  unfolding IsStrictlySortedBy
  inserted_in_place [] v w sorted found = absurd cc
  inserted_in_place (e ∷ es) v w sorted found = inserted_step (nat_cmp k e.0) e es v w refl sorted (inserted_in_place es v w sorted.1) found
