-- Where the range of a number stands, and what a change there makes of the ranges.
use Rattle.std.proofs.Common.{◌≡◌, ℕ, zero, suc, ◌<◌, ◌≤◌, ◌+◌, Bool, true, false, not, List, [], ◌∷◌, ◌++◌, length, drop, drop-cons, Some, None, Result, Ok, Err, OnErr, is_ok, refl, ap, sym, subst, ◌∙◌, arith, get_or, ltb-true, ltb-false, if◌then◌else◌}
use Rattle.std.specs.Prelude.{map, ◌==◌, nat_lt, position, slice_set, cond, IfSome, IfNone, insert, remove}
use Rattle.std.specs.List.{position_or_len, prefix_len}
use Rattle.std.proofs.lemmas.List.{drop_all}
use Rattle.model_partition.specs.declared.range_entry.RangeEntry.{RangeEntry}
use Rattle.model_partition.specs.Map.{range_at, changed_if, halves, split_in, union, union_with, union_beside, union_at, joined, merge_in}
use Rattle.model_partition.specs.Partition.{uses}
use Rattle.model_partition.proofs.Numbers.{one_here, unchanged}
use Rattle.pmap_table.specs.MapTable.{IsPlaceOf}

-- ---- where it stands

first_or_none : (range : ℕ) (rs : List RangeEntry) (n : ℕ) → prefix_len (λ (r : RangeEntry). not (r.range == range)) rs ≡ n → (n < length rs → IsPlaceOf rs range n) × (length rs ≤ n → range_at rs range ≡ None)
first_or_none range [] n is = ((λ lt. absurd (omega (arith, lt))), λ past. refl)
first_or_none range (r ∷ rs) n is = go (r.range == range) refl n is (λ m e. first_or_none range rs m e)
  where
    go : (b : Bool) → (r.range == range) ≡ b → (n : ℕ) → cond (not b) (1 + prefix_len (λ (x : RangeEntry). not (x.range == range)) rs) 0 ≡ n →
        ((m : ℕ) → prefix_len (λ (x : RangeEntry). not (x.range == range)) rs ≡ m → (m < length rs → IsPlaceOf rs range m) × (length rs ≤ m → range_at rs range ≡ None)) →
        (n < suc (length rs) → IsPlaceOf (r ∷ rs) range n) × (suc (length rs) ≤ n → range_at (r ∷ rs) range ≡ None)
    go true same zero e more = ((λ lt. same), λ past. absurd (omega (arith, past)))
    go true same (suc n) e more = absurd cc
    go false other zero e more = absurd (omega (arith, e))
    go false other (suc n) e more =
        let m = more n (omega (arith, e)) in
        ((λ lt. (other, m.0 (omega (arith, lt)))), λ past. ap (λ (b : Bool). if b then Some r else range_at rs range) other ∙ m.1 (omega (arith, past)))

pub placed : (range : ℕ) (rs : List RangeEntry) → IfSome (position (λ (r : RangeEntry). r.range == range) rs) (IsPlaceOf rs range)
placed range rs = go (nat_lt (position_or_len (λ (r : RangeEntry). r.range == range) rs) (length rs)) refl
  where
    go : (b : Bool) → nat_lt (position_or_len (λ (r : RangeEntry). r.range == range) rs) (length rs) ≡ b → IfSome (cond b (Some (position_or_len (λ (r : RangeEntry). r.range == range) rs)) None) (IsPlaceOf rs range)
    go true lt = (first_or_none range rs _ refl).0 (ltb-true _ _ lt)
    go false past = tt

pub placed_within : (range : ℕ) (rs : List RangeEntry) → IfSome (position (λ (r : RangeEntry). r.range == range) rs) (λ place. place < length rs)
placed_within range rs = go (nat_lt (position_or_len (λ (r : RangeEntry). r.range == range) rs) (length rs)) refl
  where
    go : (b : Bool) → nat_lt (position_or_len (λ (r : RangeEntry). r.range == range) rs) (length rs) ≡ b → IfSome (cond b (Some (position_or_len (λ (r : RangeEntry). r.range == range) rs)) None) (λ place. place < length rs)
    go true lt = ltb-true _ _ lt
    go false past = tt

pub unplaced : (range : ℕ) (rs : List RangeEntry) → IfNone (position (λ (r : RangeEntry). r.range == range) rs) (range_at rs range ≡ None)
unplaced range rs = go (nat_lt (position_or_len (λ (r : RangeEntry). r.range == range) rs) (length rs)) refl
  where
    go : (b : Bool) → nat_lt (position_or_len (λ (r : RangeEntry). r.range == range) rs) (length rs) ≡ b → IfNone (cond b (Some (position_or_len (λ (r : RangeEntry). r.range == range) rs)) None) (range_at rs range ≡ None)
    go true lt = tt
    go false past = (first_or_none range rs _ refl).1 (ltb-false _ _ past)

-- the range at the place is the one of the number
pub found_at : (range : ℕ) (rs : List RangeEntry) (i : ℕ) (d : RangeEntry) → IsPlaceOf rs range i → range_at rs range ≡ Some (get_or rs i d)
found_at range [] i d at = absurd at
found_at range (r ∷ rs) zero d at = ap (λ (b : Bool). if b then Some r else range_at rs range) at
found_at range (r ∷ rs) (suc i) d at = ap (λ (b : Bool). if b then Some r else range_at rs range) at.0 ∙ found_at range rs i d at.1

-- ---- a change there

-- no range has the number
pub no_change : (range : ℕ) (change : RangeEntry → RangeEntry) (rs : List RangeEntry) → range_at rs range ≡ None → map (changed_if range change) rs ≡ rs
no_change range change [] none = refl
no_change range change (r ∷ rs) none = go (r.range == range) refl none (no_change range change rs)
  where
    go : (b : Bool) → (r.range == range) ≡ b → (if b then Some r else range_at rs range) ≡ None → (range_at rs range ≡ None → map (changed_if range change) rs ≡ rs) → map (changed_if range change) (r ∷ rs) ≡ r ∷ rs
    go true is none more = absurd cc
    go false is none more = ap (λ (x : RangeEntry). x ∷ map (changed_if range change) rs) (ap (λ (b : Bool). if b then change r else r) is) ∙ ap (λ (l : List RangeEntry). r ∷ l) (more none)

-- a write at the place of the range of a number that is used once
pub changed_at : (range : ℕ) (change : RangeEntry → RangeEntry) (rs : List RangeEntry) (i : ℕ) (d : RangeEntry) → uses range rs ≤ 1 → IsPlaceOf rs range i → slice_set rs i (change (get_or rs i d)) ≡ map (changed_if range change) rs
changed_at range change [] i d once at = absurd at
changed_at range change (r ∷ rs) zero d once at =
    ap (λ (b : Bool). (if b then change r else r) ∷ rs) (sym at)
    ∙ ap (λ (l : List RangeEntry). changed_if range change r ∷ l) (sym (unchanged range change rs (omega (arith, one_here r.range range at, once))))
changed_at range change (r ∷ rs) (suc i) d once at =
    ap (λ (b : Bool). (if b then change r else r) ∷ slice_set rs i (change (get_or rs i d))) (sym at.0)
    ∙ ap (λ (l : List RangeEntry). changed_if range change r ∷ l) (changed_at range change rs i d (omega (arith, once)) at.1)

-- ---- halves

-- the halves stand where the range stood
pub halved_at : (range : ℕ) (rs : List RangeEntry) (i : ℕ) (d lower upper : RangeEntry) → IsPlaceOf rs range i → halves (get_or rs i d) (get_or rs i d).pending ≡ lower ∷ upper ∷ [] →
    insert (slice_set rs i lower) (suc i) upper ≡ split_in rs range
halved_at range [] i d lower upper at are = absurd at
halved_at range (r ∷ rs) zero d lower upper at are =
    ap (λ (l : List RangeEntry). l ++ rs) (sym are) ∙ sym (ap (λ (b : Bool). if b then halves r r.pending ++ rs else r ∷ split_in rs range) at)
halved_at range (r ∷ rs) (suc i) d lower upper at are =
    ap (λ (l : List RangeEntry). r ∷ l) (halved_at range rs i d lower upper at.1 are) ∙ sym (ap (λ (b : Bool). if b then halves r r.pending ++ rs else r ∷ split_in rs range) at.0)

pub halved_behind : (range : ℕ) (rs : List RangeEntry) (i : ℕ) (d lower upper : RangeEntry) → IsPlaceOf rs range i → halves (get_or rs i d) (get_or rs i d).pending ≡ lower ∷ upper ∷ [] →
    insert (slice_set rs i lower) (i + 1) upper ≡ split_in rs range
halved_behind range rs i d lower upper at are =
    let next : i + 1 ≡ suc i = omega (arith) in
    ap (λ (j : ℕ). insert (slice_set rs i lower) j upper) next ∙ halved_at range rs i d lower upper at are

-- ---- unions

pub not_true : (b : Bool) → not b ≡ true → b ≡ false
not_true true is = absurd cc
not_true false is = refl

pub not_false : (b : Bool) → not b ≡ false → b ≡ true
not_false true is = refl
not_false false is = absurd cc

-- the number of the union is read at the place and behind it
pub union_found : (left right : ℕ) (rs : List RangeEntry) (i : ℕ) (d : RangeEntry) → IsPlaceOf rs left i → union_at rs left right ≡ union_beside right (get_or rs i d) (drop (suc i) rs)
union_found left right [] i d at = absurd at
union_found left right (r ∷ rs) zero d at = ap (λ (b : Bool). if b then union_beside right r rs else union_at rs left right) at
union_found left right (r ∷ rs) (suc i) d at = ap (λ (b : Bool). if b then union_beside right r rs else union_at rs left right) at.0 ∙ union_found left right rs i d at.1

pub union_next : (left right : ℕ) (rs : List RangeEntry) (i : ℕ) (d e : RangeEntry) → IsPlaceOf rs left i → i + 1 < length rs →
    union_at rs left right ≡ (if (get_or rs (i + 1) e).range == right then union_with right (get_or rs i d).pending else None)
union_next left right rs i d e at lt =
    let same : i + 1 ≡ suc i = omega (arith) in
    union_found left right rs i d at
    ∙ ap (λ (l : List RangeEntry). union_beside right (get_or rs i d) l) (drop-cons rs (suc i) e (omega (arith, lt)))
    ∙ ap (λ (j : ℕ). if (get_or rs j e).range == right then union_with right (get_or rs i d).pending else None) (sym same)

pub union_end : (left right : ℕ) (rs : List RangeEntry) (i : ℕ) → IsPlaceOf rs left i → i + 1 ≡ length rs → union_at rs left right ≡ None
union_end left right [] i at ends = absurd at
union_end left right (r ∷ rs) i at ends =
    union_found left right (r ∷ rs) i r at ∙ ap (λ (l : List RangeEntry). union_beside right (get_or (r ∷ rs) i r) l) (drop_all (suc i) (r ∷ rs) (omega (arith, ends)))

pub union_other : (left right : ℕ) (rs : List RangeEntry) (i : ℕ) (d e : RangeEntry) → IsPlaceOf rs left i → i + 1 < length rs → ((get_or rs (i + 1) e).range == right) ≡ false → union_at rs left right ≡ None
union_other left right rs i d e at lt other = union_next left right rs i d e at lt ∙ ap (λ (b : Bool). if b then union_with right (get_or rs i d).pending else None) other

pub union_is : (left right : ℕ) (rs : List RangeEntry) (i : ℕ) (d e : RangeEntry) → IsPlaceOf rs left i → i + 1 < length rs → ((get_or rs (i + 1) e).range == right) ≡ true → union_at rs left right ≡ union_with right (get_or rs i d).pending
union_is left right rs i d e at lt same = union_next left right rs i d e at lt ∙ ap (λ (b : Bool). if b then union_with right (get_or rs i d).pending else None) same

pub no_union : (left right : ℕ) (rs : List RangeEntry) → range_at rs left ≡ None → union_at rs left right ≡ None
no_union left right [] none = refl
no_union left right (r ∷ rs) none = go (r.range == left) refl none (no_union left right rs)
  where
    go : (b : Bool) → (r.range == left) ≡ b → (if b then Some r else range_at rs left) ≡ None → (range_at rs left ≡ None → union_at rs left right ≡ None) → union_at (r ∷ rs) left right ≡ None
    go true is none more = absurd cc
    go false is none more = ap (λ (b : Bool). if b then union_beside right r rs else union_at rs left right) is ∙ more none

-- one stands where the two stood
united_at : (left right into : ℕ) (rs : List RangeEntry) (i : ℕ) (d e : RangeEntry) → IsPlaceOf rs left i → suc i < length rs → union_at rs left right ≡ Some into →
    slice_set (remove rs (suc i)) i (union (get_or rs i d) (get_or rs (suc i) e) into) ≡ merge_in rs left right
united_at left right into [] i d e at lt is = absurd at
united_at left right into (r ∷ []) zero d e at lt is = absurd (omega (arith, lt))
united_at left right into (r ∷ s ∷ rs) zero d e at lt is =
    let beside : union_beside right r (s ∷ rs) ≡ Some into = sym (ap (λ (b : Bool). if b then union_beside right r (s ∷ rs) else union_at (s ∷ rs) left right) at) ∙ is in
    sym (ap (λ (b : Bool). if b then joined r (s ∷ rs) (union_beside right r (s ∷ rs)) else r ∷ merge_in (s ∷ rs) left right) at ∙ ap (joined r (s ∷ rs)) beside)
united_at left right into (r ∷ rs) (suc i) d e at lt is =
    let found : union_at rs left right ≡ Some into = sym (ap (λ (b : Bool). if b then union_beside right r rs else union_at rs left right) at.0) ∙ is in
    ap (λ (l : List RangeEntry). r ∷ l) (united_at left right into rs i d e at.1 (omega (arith, lt)) found)
    ∙ sym (ap (λ (b : Bool). if b then joined r rs (union_beside right r rs) else r ∷ merge_in rs left right) at.0)

kept_before : (rs : List RangeEntry) (i : ℕ) (d : RangeEntry) → suc i < length rs → get_or (remove rs (suc i)) i d ≡ get_or rs i d
kept_before [] i d lt = absurd (omega (arith, lt))
kept_before (r ∷ rs) zero d lt = refl
kept_before (r ∷ rs) (suc i) d lt = kept_before rs i d (omega (arith, lt))

pub united : (left right into : ℕ) (rs : List RangeEntry) (i : ℕ) (d removed new : RangeEntry) → IsPlaceOf rs left i → suc i < length rs → Some into ≡ union_at rs left right →
    removed ≡ get_or rs (i + 1) removed → new ≡ union (get_or (remove rs (i + 1)) i d) removed into → slice_set (remove rs (i + 1)) i new ≡ merge_in rs left right
united left right into rs i d removed new at lt is was made =
    let next : i + 1 ≡ suc i = omega (arith) in
    ap (λ (x : RangeEntry). slice_set (remove rs (i + 1)) i x) made
    ∙ ap (λ (j : ℕ). slice_set (remove rs j) i (union (get_or (remove rs j) i d) removed into)) next
    ∙ ap (λ (x : RangeEntry). slice_set (remove rs (suc i)) i (union x removed into)) (kept_before rs i d lt)
    ∙ ap (λ (x : RangeEntry). slice_set (remove rs (suc i)) i (union (get_or rs i d) x into)) (was ∙ ap (λ (j : ℕ). get_or rs j removed) next)
    ∙ united_at left right into rs i d removed at lt (sym is)

not_joined : (l : RangeEntry) (rs : List RangeEntry) → joined l rs None ≡ l ∷ rs
not_joined l [] = refl
not_joined l (r ∷ rs) = refl

pub not_united : (left right : ℕ) (rs : List RangeEntry) → None ≡ union_at rs left right → rs ≡ merge_in rs left right
not_united left right [] none = refl
not_united left right (r ∷ rs) none = go (r.range == left) refl none (not_united left right rs)
  where
    go : (b : Bool) → (r.range == left) ≡ b → None ≡ (if b then union_beside right r rs else union_at rs left right) → (None ≡ union_at rs left right → rs ≡ merge_in rs left right) → r ∷ rs ≡ merge_in (r ∷ rs) left right
    go true is none more =
        sym (ap (λ (b : Bool). if b then joined r rs (union_beside right r rs) else r ∷ merge_in rs left right) is ∙ ap (joined r rs) (sym none) ∙ not_joined r rs)
    go false is none more = ap (λ (l : List RangeEntry). r ∷ l) (more none) ∙ sym (ap (λ (b : Bool). if b then joined r rs (union_beside right r rs) else r ∷ merge_in rs left right) is)

-- ---- a change of all, one after the other

-- the first so many are changed
abbrev pub changed_to : (RangeEntry → RangeEntry) → ℕ → List RangeEntry → List RangeEntry
changed_to change zero rs = rs
changed_to change (suc n) [] = []
changed_to change (suc n) (r ∷ rs) = change r ∷ changed_to change n rs

pub all_changed : (change : RangeEntry → RangeEntry) (rs : List RangeEntry) → changed_to change (length rs) rs ≡ map change rs
all_changed change [] = refl
all_changed change (r ∷ rs) = ap (λ (l : List RangeEntry). change r ∷ l) (all_changed change rs)

pub changed_length : (change : RangeEntry → RangeEntry) (n : ℕ) (rs : List RangeEntry) → length (changed_to change n rs) ≡ length rs
changed_length change zero rs = refl
changed_length change (suc n) [] = refl
changed_length change (suc n) (r ∷ rs) = ap suc (changed_length change n rs)

pub one_more : (change : RangeEntry → RangeEntry) (i : ℕ) (rs : List RangeEntry) (d : RangeEntry) → i < length rs → slice_set (changed_to change i rs) i (change (get_or (changed_to change i rs) i d)) ≡ changed_to change (suc i) rs
one_more change zero [] d lt = absurd (omega (arith, lt))
one_more change zero (r ∷ rs) d lt = refl
one_more change (suc i) [] d lt = absurd (omega (arith, lt))
one_more change (suc i) (r ∷ rs) d lt = ap (λ (l : List RangeEntry). change r ∷ l) (one_more change i rs d (omega (arith, lt)))

-- the loop over all of them goes on, and ends
pub change_more : (change : RangeEntry → RangeEntry) (i : ℕ) (rs ss : List RangeEntry) (d new : RangeEntry) → i < length rs → ss ≡ changed_to change i rs → new ≡ change (get_or ss i d) → slice_set ss i new ≡ changed_to change (i + 1) rs
change_more change i rs ss d new lt is made =
    let next : suc i ≡ i + 1 = omega (arith) in
    ap (λ (x : RangeEntry). slice_set ss i x) made
    ∙ ap (λ (l : List RangeEntry). slice_set l i (change (get_or l i d))) is
    ∙ one_more change i rs d lt
    ∙ ap (λ (n : ℕ). changed_to change n rs) next

pub change_ends : (change : RangeEntry → RangeEntry) (i : ℕ) (rs ss : List RangeEntry) → i ≡ length rs → ss ≡ changed_to change i rs → ss ≡ map change rs
change_ends change i rs ss ends is = is ∙ ap (λ (n : ℕ). changed_to change n rs) ends ∙ all_changed change rs

-- ---- as the table's functions have it, whose places are found in a view of the ranges

pub found_in : (range : ℕ) (rs ss : List RangeEntry) (i : ℕ) (r : RangeEntry) → ss ≡ rs → IsPlaceOf ss range i → r ≡ get_or rs i r → range_at rs range ≡ Some r
found_in range rs ss i r same at is = found_at range rs i r (subst (λ (l : List RangeEntry). IsPlaceOf l range i) same at) ∙ ap Some (sym is)

pub changed_in : (range : ℕ) (change : RangeEntry → RangeEntry) (rs ss : List RangeEntry) (i : ℕ) (r new : RangeEntry) → ss ≡ rs → uses range rs ≤ 1 → IsPlaceOf ss range i → r ≡ get_or rs i r → new ≡ change r →
    slice_set rs i new ≡ map (changed_if range change) rs
changed_in range change rs ss i r new same once at is made =
    ap (λ (x : RangeEntry). slice_set rs i x) (made ∙ ap change is) ∙ changed_at range change rs i r once (subst (λ (l : List RangeEntry). IsPlaceOf l range i) same at)

pub none_in : (range : ℕ) (change : RangeEntry → RangeEntry) (rs ss : List RangeEntry) → ss ≡ rs → range_at ss range ≡ None → rs ≡ map (changed_if range change) rs
none_in range change rs ss same none = sym (no_change range change rs (ap (λ (l : List RangeEntry). range_at l range) (sym same) ∙ none))

pub halved_in : (range : ℕ) (rs ss : List RangeEntry) (i : ℕ) (r lower upper : RangeEntry) → ss ≡ rs → IsPlaceOf ss range i → r ≡ get_or rs i r → halves r r.pending ≡ lower ∷ upper ∷ [] → insert (slice_set rs i lower) (i + 1) upper ≡ split_in rs range
halved_in range rs ss i r lower upper same at is are =
    halved_behind range rs i r lower upper (subst (λ (l : List RangeEntry). IsPlaceOf l range i) same at) (ap (λ (x : RangeEntry). halves x x.pending) (sym is) ∙ are)

-- an insertion into room that was made does not fail
pub inserted : {T E X : Type 0} (r : Result T E) (new longer same : List X) (len capacity : ℕ) → new ≡ (if is_ok r then longer else same) → OnErr r (capacity ≤ len) → len < capacity → new ≡ longer
inserted (Ok x) new longer same len capacity is full room = is
inserted (Err x) new longer same len capacity is full room = absurd (omega (arith, full, room))
