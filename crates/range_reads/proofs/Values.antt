-- What is held once a value has come.
use Rattle.std.proofs.Common.{◌≡◌, ℕ, zero, suc, ◌-◌, ◌≤◌, Bool, true, false, List, [], ◌∷◌, length, take, Option, Some, None, refl, sym, ap, subst, ◌∙◌, arith}
use Rattle.std.specs.Prelude.{◌==◌, ◌&&◌, is_some, slice_get, if◌then◌else◌}
use Rattle.std.specs.Cmp.{IsEquivalence}
use Rattle.std.specs.List.{AllByRecursion, IsDistinct}
use Rattle.std.specs.Map.{keys_of, lookup, lookup_entry, remove_entry}
use Rattle.std.specs.Option.{option_map_or}
use Rattle.std.proofs.lemmas.Bool.{eqb-true, eqb-false, eq-eqb, ne_eqb, and_parts}
use Rattle.std.proofs.lemmas.Map.{lookup-remove_entry}
use Rattle.memtable.specs.declared.cell.Place.{Place}
use Rattle.lru.specs.LruCache.{lru_cache, put_entries, last_entry}
use Rattle.lru.proofs.CallerLemmas.{Contains-lookup_entry, lookup-put_entries}
use Rattle.model_partition.specs.declared.waiting.PlaceRead.{PlaceRead}
use Rattle.model_partition.specs.Getting.{held_at, came, most_held}
use Rattle.model_partition.specs.PlaceReads.{is_place}
use Rattle.range_reads.specs.declared.value_cache.Fresh.{Fresh}
use Rattle.range_reads.specs.Caching.{IsFor}
use Rattle.range_reads.specs.ValueCache.{Values, with_fresh, is_of, goes_for}

pub held_lookup : (held : Values) (place : Place) → lookup (is_place place) held ≡ held_at held place
held_lookup [] place = refl
held_lookup (x ∷ held) place = ap (λ (o : Option (List ℕ)). if is_place place x.0 then Some x.1 else o) (held_lookup held place)

pub put_same : (before held : Values) (cap : ℕ) (key place : Place) (bytes : List ℕ) → before ≡ held → cap ≡ most_held → key ≡ place
    → put_entries is_place (lru_cache before cap) key bytes ≡ put_entries is_place (lru_cache held most_held) place bytes
put_same before held cap key place bytes held_is cap_is key_is =
    ap (λ (es : Values). put_entries is_place (lru_cache es cap) key bytes) held_is
    ∙ ap (λ (n : ℕ). put_entries is_place (lru_cache held n) key bytes) cap_is
    ∙ ap (λ (k : Place). put_entries is_place (lru_cache held most_held) k bytes) key_is

-- ---- places

pub place_same : (a b : Place) → is_place a b ≡ true → a ≡ b
place_same a b h =
    let first = and_parts _ _ h in
    let rest = and_parts _ _ first.1 in
    let extent : a.extent ≡ b.extent = eqb-true _ _ first.0 in
    let offset : a.offset ≡ b.offset = eqb-true _ _ rest.0 in
    let size : a.length ≡ b.length = eqb-true _ _ rest.1 in
    λ i. record { extent = extent i; offset = offset i; length = size i }

pub place_itself : (a : Place) → is_place a a ≡ true
place_itself a = rw (eq-eqb a.extent a.extent refl, eq-eqb a.offset a.offset refl, eq-eqb a.length a.length refl) refl

swapped : (a b : Place) → is_place a b ≡ true → is_place b a ≡ true
swapped a b h = subst (λ (p : Place). is_place p a ≡ true) (place_same a b h) (place_itself a)

pub place_laws : IsEquivalence is_place
place_laws = record {
  refl = place_itself;
  symm = λ a b. elim (is_place a b) as (λ x. is_place a b ≡ x → x ≡ is_place b a) [
    | true ↦ λ is. sym (swapped a b is)
    | false ↦ λ is. (elim (is_place b a) as (λ y. is_place b a ≡ y → false ≡ y) [
      | true ↦ λ other. let back = swapped b a other in cc
      | false ↦ λ other. refl
    ]) refl
  ] refl;
  congr = λ a b c h. ap (λ (p : Place). is_place p c) (place_same a b h);
}

-- ---- the value that goes

last_on : (x y : Place × List ℕ) (held : Values) (place : Place) → is_of place (last_entry (x ∷ y ∷ held)) ≡ is_of place (last_entry (y ∷ held))
last_on x y held place =
    let next : length (x ∷ y ∷ held) - 1 ≡ suc (length (y ∷ held) - 1) = omega arith in
    ap (λ (k : ℕ). is_of place (slice_get (x ∷ y ∷ held) k)) next

none_last : (held : Values) (place : Place) → AllByRecursion (λ p. is_place place p ≡ false) (keys_of held) → is_of place (last_entry held) ≡ false
none_last [] place all = refl
none_last (x ∷ []) place all = all.0
none_last (x ∷ y ∷ held) place all = last_on x y held place ∙ none_last (y ∷ held) place all.1

same_keys : (x : Place) (place : Place) (held : Values) → is_place place x ≡ true → AllByRecursion (λ p. is_place x p ≡ false) (keys_of held) → AllByRecursion (λ p. is_place place p ≡ false) (keys_of held)
same_keys x place held is all = subst (λ (q : Place). AllByRecursion (λ p. is_place q p ≡ false) (keys_of held)) (sym (place_same place x is)) all

and_none : (b : Bool) (o : Option (List ℕ)) → o ≡ (if b && false then None else o)
and_none true o = refl
and_none false o = refl

not_full : (a b : Bool) (o : Option (List ℕ)) → o ≡ (if a && (false && b) then None else o)
not_full true b o = refl
not_full false b o = refl

eqb_suc : (a b : ℕ) → (suc a == suc b) ≡ (a == b)
eqb_suc a b =
    elim (a == b) as (λ x. (a == b) ≡ x → (suc a == suc b) ≡ x) [
      | true ↦ λ is. eq-eqb (suc a) (suc b) (ap suc (eqb-true a b is))
      | false ↦ λ is. ne_eqb (suc a) (suc b) (λ e. eqb-false a b is (omega (arith, e)))
    ] refl

none_taken : (n : ℕ) → take {A = Place × List ℕ} n [] ≡ []
none_taken zero = refl
none_taken (suc n) = refl

abbrev without_last : ℕ → Values → Place → Option (List ℕ)
without_last n held place = if (length held == suc n) && is_of place (last_entry held) then None else held_at held place

-- all but the last of so many
cut : (n : ℕ) (held : Values) (place : Place) → IsDistinct is_place (keys_of held) → length held ≤ suc n → held_at (take n held) place ≡ without_last n held place
unfolding IsDistinct
cut zero [] place apart le = refl
cut (suc n) [] place apart le = and_none (0 == suc (suc n)) None
cut zero (x ∷ []) place apart le =
    elim (is_place place x.0) as (λ b. is_place place x.0 ≡ b → None ≡ without_last 0 (x ∷ []) place) [
      | true ↦ λ is. rw is refl
      | false ↦ λ is. rw is refl
    ] refl
cut zero (x ∷ y ∷ held) place apart le = absurd (omega (arith, le))
cut (suc n) (x ∷ []) place apart le =
    let size : (1 == suc (suc n)) ≡ false = ne_eqb _ _ (λ e. omega (arith, e)) in
    rw (size, none_taken n) refl
cut (suc n) (x ∷ y ∷ held) place apart le =
    let rest : held_at (take n (y ∷ held)) place ≡ without_last n (y ∷ held) place = cut n (y ∷ held) place apart.1 (omega (arith, le)) in
    elim (is_place place x.0) as (λ b. is_place place x.0 ≡ b → held_at (x ∷ take n (y ∷ held)) place ≡ without_last (suc n) (x ∷ y ∷ held) place) [
      | true ↦ λ is.
          let last : is_of place (last_entry (x ∷ y ∷ held)) ≡ false = last_on x y held place ∙ none_last (y ∷ held) place (same_keys x.0 place (y ∷ held) is apart.0) in
          rw (is, last) (and_none (length (x ∷ y ∷ held) == suc (suc n)) (Some x.1))
      | false ↦ λ is. rw (is, last_on x y held place) (rest
          ∙ ap (λ (b : Bool). if b && is_of place (last_entry (y ∷ held)) then None else held_at (y ∷ held) place) (sym (eqb_suc (length (y ∷ held)) (suc n))))
    ] refl

-- ---- with a value that has come

pub fresh_there : (held : Values) (fresh : Fresh) (place : Place) → is_place place fresh.place ≡ true → held_at (with_fresh held (Some fresh)) place ≡ Some fresh.bytes
fresh_there held fresh place is =
    let after : Values = with_fresh held (Some fresh) in
    ap (λ (p : Place). held_at (with_fresh held (Some fresh)) p) (place_same place fresh.place is)
    ∙ sym (held_lookup (with_fresh held (Some fresh)) fresh.place) ∙ lookup-put_entries is_place (lru_cache held most_held) fresh.place fresh.bytes place_laws

entry_value : (test : Place → Bool) (held : Values) (o : Option (Place × List ℕ)) → lookup_entry test held ≡ o → is_some (lookup test held) ≡ is_some o
entry_value test [] o is = ap is_some is
entry_value test (x ∷ held) o is =
    elim (test x.0) as (λ b. test x.0 ≡ b → is_some (lookup test (x ∷ held)) ≡ is_some o) [
      | true ↦ λ here. rw here (ap is_some (rw here at is))
      | false ↦ λ there. rw there (entry_value test held o (rw there at is))
    ] refl

abbrev left_of : Values → Place → Place → Option (List ℕ)
left_of held fresh place = if goes_for held fresh place then None else held_at held place

abbrev put_after : Values → Fresh → Option (Place × List ℕ) → Values
put_after held fresh o = option_map_or (λ e. (e.0, fresh.bytes) ∷ remove_entry (is_place fresh.place) held) o ((fresh.place, fresh.bytes) ∷ take (most_held - 1) held)

other_way : (a b : Place) → is_place a b ≡ false → is_place b a ≡ false
other_way a b is = sym (place_laws.symm a b) ∙ is

one_key : (k : Place) (x y : Place) → is_place k x ≡ true → is_place k y ≡ is_place x y
one_key k x y is = ap (λ (p : Place). is_place p y) (place_same k x is)

stays : (held : Values) (fresh : Fresh) (place : Place) (o : Option (Place × List ℕ)) → lookup_entry (is_place fresh.place) held ≡ o → is_place place fresh.place ≡ false
    → IsDistinct is_place (keys_of held) → length held ≤ most_held → held_at (put_after held fresh o) place ≡ left_of held fresh.place place
stays held fresh place (Some e) found other apart le =
    let key : fresh.place ≡ e.0 = place_same fresh.place e.0 (Contains-lookup_entry (is_place fresh.place) held e found).1 in
    let first : is_place place e.0 ≡ false = subst (λ (k : Place). is_place place k ≡ false) key other in
    let there : is_some (held_at held fresh.place) ≡ true = ap is_some (sym (held_lookup held fresh.place)) ∙ entry_value (is_place fresh.place) held (Some e) found in
    let left : held_at (remove_entry (is_place fresh.place) held) place ≡ held_at held place =
    sym (held_lookup (remove_entry (is_place fresh.place) held) place)
    ∙ lookup-remove_entry place_laws (is_place fresh.place) (one_key fresh.place) place held apart
    ∙ rw (other_way place fresh.place other) (held_lookup held place) in
    rw (first, there) (left ∙ not_full (length held == most_held) (is_of place (last_entry held)) (held_at held place))
stays held fresh place None found other apart le =
    let absent : is_some (held_at held fresh.place) ≡ false = ap is_some (sym (held_lookup held fresh.place)) ∙ entry_value (is_place fresh.place) held None found in
    rw (other, absent) (cut (most_held - 1) held place apart le)

pub with_other : (held : Values) (fresh : Fresh) (place : Place) → is_place place fresh.place ≡ false → IsDistinct is_place (keys_of held) → length held ≤ most_held
    → held_at (with_fresh held (Some fresh)) place ≡ left_of held fresh.place place
with_other held fresh place other apart le = stays held fresh place (lookup_entry (is_place fresh.place) held) refl other apart le

-- ---- what is held after bytes have come

-- what was asked for is held, and nothing else
pub exactly : (held : Values) (fresh : Option Fresh) (asked : Option PlaceRead) (place : Place) (bytes : List ℕ)
    → (IsFor asked place → fresh ≡ Some (record { place = place; bytes = bytes })) → ((IsFor asked place → ⊥) → fresh ≡ None)
    → with_fresh held fresh ≡ came held asked place bytes
exactly held fresh None place bytes there other = ap (with_fresh held) (other (λ e. e))
exactly held fresh (Some asked) place bytes there other =
    elim (is_place place asked.place) as (λ b. is_place place asked.place ≡ b → with_fresh held fresh ≡ came held (Some asked) place bytes) [
      | true ↦ λ is. rw is (ap (with_fresh held) (there (sym (place_same place asked.place is))))
      | false ↦ λ is. rw is (ap (with_fresh held) (other (λ same.
          let yes : is_place place asked.place ≡ true = subst (λ (p : Place). is_place place p ≡ true) (sym same) (place_itself place) in
          cc)))
    ] refl
