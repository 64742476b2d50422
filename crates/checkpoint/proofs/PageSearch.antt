-- The page of a key, found by halves.
use Rattle.std.proofs.Common.{◌≡◌, ℕ, zero, suc, ◌-◌, ◌<◌, ◌≤◌, Bool, true, false, cond, not, List, [], ◌∷◌, length, Option, Some, None, refl, sym, ap, ◌∙◌, map, get_or, arith}
use Rattle.std.specs.List.{AllByRecursion}
use Rattle.std.specs.List.Sorted.{IsPartitionedBy, IsPartitionPoint}
use Rattle.std.specs.Ordering.{is_lt}
use Rattle.std.specs.declared.cmp.Ordering.{Ordering}
use Rattle.std.specs.declared.cmp.Ordering.TheVariants.{Less, Equal, Greater}
use Rattle.memtable.specs.declared.cell.Place.{Place}
use Rattle.memtable.specs.Entries.{key_cmp}
use Rattle.checkpoint_format.specs.declared.index.PageAt.{PageAt}
use Rattle.checkpoint_format.specs.Index.{are_ascending}
use Rattle.checkpoint.specs.Lookup.{last_or, page_for}
use Rattle.checkpoint.proofs.Orders.{less_is, less_trans, below_all, and_true}

-- a page does not begin above the key
abbrev pub begins : List ℕ → PageAt → Bool
begins key p = not (is_lt (key_cmp key p.first))

-- the first key is below those behind it
abbrev FirstIsBelow : PageAt → List PageAt → Type 0
FirstIsBelow p pages = AllByRecursion (λ y. key_cmp p.first y ≡ Less) (map (λ q. q.first) pages)

ascending_tail : (p : PageAt) (pages : List PageAt) → are_ascending (p ∷ pages) ≡ true → are_ascending pages ≡ true
ascending_tail p [] e = refl
ascending_tail p (q ∷ pages) e = (and_true (is_lt (key_cmp p.first q.first)) (are_ascending (q ∷ pages)) e).1

first_below : (p : PageAt) (pages : List PageAt) → are_ascending (p ∷ pages) ≡ true → FirstIsBelow p pages
first_below p [] e = tt
first_below p (q ∷ pages) e =
    let parts = and_true (is_lt (key_cmp p.first q.first)) (are_ascending (q ∷ pages)) e in
    let lt = less_is (key_cmp p.first q.first) parts.0 in
    (lt, below_all p.first q.first (map (λ q. q.first) pages) lt (first_below q pages parts.1))

at_place : (p : PageAt) (pages : List PageAt) (i : ℕ) (d : PageAt) → FirstIsBelow p pages → i < length pages → key_cmp p.first (get_or pages i d).first ≡ Less
at_place p [] i d below inside = absurd (omega arith)
at_place p (q ∷ pages) zero d below inside = below.0
at_place p (q ∷ pages) (suc i) d below inside = at_place p pages i d below.1 (omega arith)

begins_before : (key a b : List ℕ) → key_cmp a b ≡ Less → not (is_lt (key_cmp key b)) ≡ true → not (is_lt (key_cmp key a)) ≡ true
begins_before key a b lt from = by (key_cmp key a) refl
  where
    by : (r : Ordering) → key_cmp key a ≡ r → not (is_lt r) ≡ true
    by Less is =
        let above : not (is_lt (key_cmp key b)) ≡ false = ap (λ (r : Ordering). not (is_lt r)) (less_trans key a b is lt) in
        absurd (cc (from, above))
    by Equal is = refl
    by Greater is = refl

pub parted : (key : List ℕ) (pages : List PageAt) → are_ascending pages ≡ true → IsPartitionedBy (begins key) pages
parted key [] e = λ i j d le inside from. absurd (omega arith)
parted key (p ∷ pages) e = by (parted key pages (ascending_tail p pages e))
  where
    by : IsPartitionedBy (begins key) pages → (i j : ℕ) (d : PageAt) → i ≤ j → j < length (p ∷ pages) → begins key (get_or (p ∷ pages) j d) ≡ true → begins key (get_or (p ∷ pages) i d) ≡ true
    by others zero zero d le inside from = from
    by others zero (suc j) d le inside from = begins_before key p.first (get_or pages j d).first (at_place p pages j d (first_below p pages e) (omega arith)) from
    by others (suc i) zero d le inside from = absurd (omega arith)
    by others (suc i) (suc j) d le inside from = others i j d (omega arith) (omega arith) from

-- no page that begins above the key is the key's
none_begun : (key : List ℕ) (pages : List PageAt) → ((k : ℕ) (d : PageAt) → k < length pages → begins key (get_or pages k d) ≡ false) → page_for pages key ≡ None
none_begun key [] above = refl
none_begun key (p ∷ pages) above =
    ap (λ (o : Option Place). last_or o (cond (begins key p) (Some p.place) None)) (none_begun key pages (λ k d inside. above (suc k) d (omega arith)))
    ∙ ap (λ (b : Bool). cond b (Some p.place) None) (above zero p (omega arith))

-- the last page that does not begin above the key
last_begun : (key : List ℕ) (pages : List PageAt) (i : ℕ) (d : PageAt) → i < length pages → begins key (get_or pages i d) ≡ true
    → ((k : ℕ) (d : PageAt) → i < k → k < length pages → begins key (get_or pages k d) ≡ false) → page_for pages key ≡ Some (get_or pages i d).place
last_begun key [] i d inside from above = absurd (omega arith)
last_begun key (p ∷ pages) zero d inside from above =
    ap (λ (o : Option Place). last_or o (cond (begins key p) (Some p.place) None)) (none_begun key pages (λ k d more. above (suc k) d (omega arith) (omega arith)))
    ∙ ap (λ (b : Bool). cond b (Some p.place) None) from
last_begun key (p ∷ pages) (suc i) d inside from above =
    ap (λ (o : Option Place). last_or o (cond (begins key p) (Some p.place) None))
    (last_begun key pages i d (omega arith) from (λ k d less more. above (suc k) d (omega arith) (omega arith)))

pub point_none : (key : List ℕ) (pages : List PageAt) (n : ℕ) → n ≡ 0 → IsPartitionPoint (λ y. begins key y ≡ true) (λ y. begins key y ≡ false) pages n → None ≡ page_for pages key
point_none key pages n is point = sym (none_begun key pages (λ k d inside. point.1 k d (omega arith) inside))

pub point_some : (key : List ℕ) (pages : List PageAt) (n : ℕ) (d : PageAt) → 0 < n → n ≤ length pages
    → IsPartitionPoint (λ y. begins key y ≡ true) (λ y. begins key y ≡ false) pages n → Some (get_or pages (n - 1) d).place ≡ page_for pages key
point_some key pages n d some inside point =
    sym (last_begun key pages (n - 1) d (omega arith) (point.0 (n - 1) d (omega arith) (omega arith)) (λ k d less more. point.1 k d (omega arith) more))
