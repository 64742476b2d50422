-- What tests that find nothing say of changes.
use Rattle.std.proofs.Common.{◌≡◌, ℕ, zero, suc, ◌≤◌, Bool, true, false, List, [], ◌∷◌, Option, Some, None, refl, arith}
use Rattle.std.specs.Prelude.{◌==◌, nat_lt, not, ◌||◌, ◌&&◌}
use Rattle.std.specs.List.{AllByRecursion, list_any}
use Rattle.std.proofs.lemmas.Bool.{leb-true, ltb-false}
use Rattle.wire.specs.declared.transaction.Change.{Change}
use Rattle.memtable.specs.Limits.{IsKey}
use Rattle.commitlog.specs.Record.{HasValue, IsChange}
use Rattle.model_partition.specs.Serving.{is_key, value_size}

or_none : (a b : Bool) → (a || b) ≡ false → (a ≡ false) × (b ≡ false)
or_none true b h = cc
or_none false b h = (refl, h)

and_both : (a b : Bool) → (a && b) ≡ true → (a ≡ true) × (b ≡ true)
and_both true b h = (refl, h)
and_both false b h = cc

not_none : (a : Bool) → not a ≡ false → a ≡ true
not_none true h = refl
not_none false h = cc

key_is : (key : List ℕ) → not (is_key key) ≡ false → IsKey key
key_is key h =
    let both = and_both _ _ (not_none (is_key key) h) in
    (leb-true _ _ both.0, leb-true _ _ both.1)

value_is : (value : Option (List ℕ)) → nat_lt 65536 (value_size value) ≡ false → HasValue value
value_is None h = tt
value_is (Some v) h = ltb-false _ _ h

-- changes whose keys and values are in range are those of a record
pub are_changes : (changes : List Change) → list_any (λ c. not (is_key c.key)) changes ≡ false → list_any (λ c. nat_lt 65536 (value_size c.value)) changes ≡ false → AllByRecursion IsChange changes
are_changes [] keys values = tt
are_changes (c ∷ changes) keys values =
    let key = or_none (not (is_key c.key)) (list_any (λ c. not (is_key c.key)) changes) keys in
    let value = or_none (nat_lt 65536 (value_size c.value)) (list_any (λ c. nat_lt 65536 (value_size c.value)) changes) values in
    ((key_is c.key key.0, value_is c.value value.0), are_changes changes key.1 value.1)

pub not_empty : (n : ℕ) → (n == 0) ≡ false → 1 ≤ n
not_empty zero h = cc
not_empty (suc n) h = omega arith
