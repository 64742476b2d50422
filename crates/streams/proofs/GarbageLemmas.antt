-- What the tests of what stands in no list say.
use Rattle.std.proofs.Common.{◌≡◌, ℕ, Bool, true, false, ◌&&◌, ◌==◌, not, IsTrue, ◌↔◌, List, Contains, sym, ap, ◌∙◌, subst, eq-eqb, arith}
use Rattle.std.specs.BTreeSet.{BTreeSet, contains}
use Rattle.std.specs.List.{list_any}
use Rattle.std.specs.List.Sorted.{IsStrictlySortedBy}
use Rattle.std.specs.Ordering.{nat_cmp}
use Rattle.std.specs.declared.cmp.Ordering.TheVariants.{Equal}
use Rattle.std.proofs.lemmas.Bool.{eqb-true, and_parts, false_from_ne_true}
use Rattle.std.proofs.lemmas.Cmp.{nat_cmp_total, ranked}
use Rattle.std.proofs.lemmas.List.Folds.{Any-from_list_any, list_any_at}
use Rattle.std.proofs.lemmas.Map.Keys.{below_from_sorted}
use Rattle.std.proofs.lemmas.Map.Views.{btree_set_contains_iff}
use Rattle.std.proofs.lemmas.Option.{slice_get_within, get_or_from_slice_get}
use Rattle.streams.specs.Garbage.{has, has_gone, is_listed}
use Rattle.streams.specs.Table.{Entry, IsAscendingList, IsGarbage}

-- an extent is one of these
one_of : (es : List ℕ) (e : ℕ) → has es e ≡ true → Contains es e
one_of es e is =
    let found = Any-from_list_any (λ x. x == e) es is in
    subst (λ (x : ℕ). Contains es x) (eqb-true found.1 e found.4) (found.0, found.2, found.3)

shown : (es : List ℕ) (e : ℕ) → Contains es e → has es e ≡ true
shown es e is = list_any_at (λ x. x == e) es is.0 e is.1 (eq-eqb _ e is.2)

-- an extent is one of those of some entry
module _ (of : Entry → List ℕ) (entries : List Entry) (e : ℕ) where
  abbrev pub IsOfSome : Type 0
  IsOfSome = (x : Entry) × Contains entries x × Contains (of x) e

  of_some : list_any (λ x. has (of x) e) entries ≡ true → IsOfSome
  of_some is =
      let found = Any-from_list_any (λ x. has (of x) e) entries is in
      (found.1, (found.0, found.2, found.3), one_of (of found.1) e found.4)

  shown_of_some : IsOfSome → list_any (λ x. has (of x) e) entries ≡ true
  shown_of_some is =
      list_any_at (λ x. has (of x) e) entries is.1.0 is.0 is.1.1
      (subst (λ (x : Entry). has (of x) e ≡ true) (sym is.1.2) (shown (of is.0) e is.2))

same_number : (x y : ℕ) → nat_cmp x y ≡ Equal → x ≡ y
same_number x y e = ranked x y Equal (sym e)

module _ (entries : List Entry) (set : BTreeSet ℕ) (sorted : IsStrictlySortedBy nat_cmp set.keys)
    (tests : (e : ℕ) → contains nat_cmp set e ≡ (has_gone entries e && not (is_listed entries e))) where
  ascends : IsAscendingList set.keys
  ascends i j e f before at_i at_j =
      let e_at = get_or_from_slice_get set.keys i e 0 at_i in
      let f_at = get_or_from_slice_get set.keys j f 0 at_j in
      omega (arith, e_at, f_at, below_from_sorted set.keys i j 0 sorted before (slice_get_within set.keys j f at_j))

  in_set : (e : ℕ) → IsTrue (contains nat_cmp set e) ↔ Contains set.keys e
  in_set e = btree_set_contains_iff nat_cmp_total same_number set e

  unlisted : (b : Bool) → not b ≡ true → b ≡ true → ⊥
  unlisted b negated is = let clash : true ≡ false = sym negated ∙ ap not is in cc

  pub in_keys : IsGarbage entries set.keys
  in_keys = record {
    ascending = ascends;
    each = λ e there.
        let parts = and_parts (has_gone entries e) _ (sym (tests e) ∙ (in_set e).1 there) in
        (of_some (λ x. x.stream.gone) entries e parts.0, λ listed. unlisted _ parts.1 (shown_of_some (λ x. x.stream.extents) entries e listed));
    all = λ e gone none.
        let has = shown_of_some (λ x. x.stream.gone) entries e gone in
        let not_listed = false_from_ne_true (is_listed entries e) (λ is. none (of_some (λ x. x.stream.extents) entries e is)) in
        (in_set e).0 (tests e ∙ rw (has, not_listed));
  }
