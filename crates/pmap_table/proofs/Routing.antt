-- The range of a key is the last of those that begin there or below.
use Rattle.std.proofs.Common.{◌≡◌, ℕ, zero, suc, ◌-◌, ◌<◌, ◌≤◌, Bool, true, false, not, ◌&&◌, List, [], ◌∷◌, length, get_or, Option, Some, None, refl, ap, sym, ◌∙◌, arith, if◌then◌else◌}
use Rattle.std.specs.Prelude.{slice_get}
use Rattle.std.specs.List.{AllWithin}
use Rattle.std.specs.List.Sorted.{IsPartitionedBy, IsPartitionPoint}
use Rattle.std.specs.Cmp.Lexicographic.{slice_cmp}
use Rattle.std.specs.Ordering.{nat_cmp, is_lt}
use Rattle.std.specs.declared.cmp.Ordering.{Ordering}
use Rattle.std.specs.declared.cmp.Ordering.TheVariants.{Less, Equal, Greater}
use Rattle.std.proofs.lemmas.Cmp.{nat_list_cmp_total}
use Rattle.std.proofs.lemmas.Option.{slice_get_read}
use Rattle.metadata.specs.Keys.{below_high, within}
use Rattle.model_partition.specs.declared.range_entry.RangeEntry.{RangeEntry}
use Rattle.model_partition.specs.Map.{range_of_key}
use Rattle.model_partition.specs.Partition.{IsBelow, LiesFrom}

-- its keys begin at this one or below
abbrev pub begins : List ℕ → RangeEntry → Bool
begins key r = not (is_lt (slice_cmp nat_cmp key r.keys.low))

not_begun : (r : RangeEntry) (low key : List ℕ) → r.keys.low ≡ low → IsBelow key low → begins key r ≡ false
not_begun r low key is below = ap (λ (l : List ℕ). not (is_lt (slice_cmp nat_cmp key l))) is ∙ ap (λ (o : Ordering). not (is_lt o)) below

-- below the first of some ranges none begins
none_begun : (low : List ℕ) (rs : List RangeEntry) (key : List ℕ) → LiesFrom low rs → IsBelow key low → (j : ℕ) (d : RangeEntry) → j < length rs → begins key (get_or rs j d) ≡ false
none_begun low [] key lies below j d lt = absurd lies
none_begun low (r ∷ []) key lies below zero d lt = not_begun r low key lies.0 below
none_begun low (r ∷ []) key lies below (suc j) d lt = absurd (omega arith)
none_begun low (r ∷ s ∷ rs) key lies below zero d lt = not_begun r low key lies.0 below
none_begun low (r ∷ s ∷ rs) key lies below (suc j) d lt =
    none_begun s.keys.low (s ∷ rs) key lies.3 (nat_list_cmp_total.trans key low s.keys.low below lies.2) j d (omega arith)

below_first : (low : List ℕ) (r : RangeEntry) (rs : List RangeEntry) → LiesFrom low (r ∷ rs) → r.keys.low ≡ low
below_first low r [] lies = lies.0
below_first low r (s ∷ rs) lies = lies.0

is_below : (o : Ordering) → not (is_lt o) ≡ false → o ≡ Less
is_below Less e = refl
is_below Equal e = absurd cc
is_below Greater e = absurd cc

-- those that begin at a key or below stand before the others
pub partitioned : (low : List ℕ) (rs : List RangeEntry) (key : List ℕ) → LiesFrom low rs → IsPartitionedBy (begins key) rs
partitioned low [] key lies i j d le lt is = absurd lies
partitioned low (r ∷ rs) key lies zero j d le lt is = go (begins key r) refl
  where
    go : (b : Bool) → begins key r ≡ b → b ≡ true
    go true here = refl
    go false here =
        let first = below_first low r rs lies in
        let below : IsBelow key low = ap (λ (l : List ℕ). slice_cmp nat_cmp key l) (sym first) ∙ is_below (slice_cmp nat_cmp key r.keys.low) here in
        sym (none_begun low (r ∷ rs) key lies below j d lt) ∙ is
partitioned low (r ∷ rs) key lies (suc i) zero d le lt is = absurd (omega arith)
partitioned low (r ∷ []) key lies (suc i) (suc j) d le lt is = absurd (omega arith)
partitioned low (r ∷ s ∷ rs) key lies (suc i) (suc j) d le lt is = partitioned s.keys.low (s ∷ rs) key lies.3 i j d (omega arith) (omega arith) is

-- the ranges begin at the lowest key, so that the first begins at any key or below
first_begins : (rs : List RangeEntry) (key : List ℕ) (d : RangeEntry) → LiesFrom [] rs → begins key (get_or rs 0 d) ≡ true
first_begins [] key d lies = absurd lies
first_begins (r ∷ rs) key d lies = ap (λ (l : List ℕ). not (is_lt (slice_cmp nat_cmp key l))) (below_first [] r rs lies) ∙ lowest key
  where
    lowest : (k : List ℕ) → not (is_lt (slice_cmp nat_cmp k [])) ≡ true
    lowest [] = refl
    lowest (x ∷ k) = refl

turned : (b : Bool) → not b ≡ false → b ≡ true
turned true e = refl
turned false e = absurd cc

turned_back : (b : Bool) → not b ≡ true → b ≡ false
turned_back true e = absurd cc
turned_back false e = refl

-- so far they begin at a key or below, and from there on above
covers : (low : List ℕ) (rs : List RangeEntry) (key : List ℕ) (m : ℕ) → LiesFrom low rs → suc m ≤ length rs → AllWithin (λ r. begins key r ≡ true) rs 0 (suc m) →
    AllWithin (λ r. begins key r ≡ false) rs (suc m) (length rs) → range_of_key rs key ≡ slice_get rs m
covers low [] key m lies le before behind = absurd lies
covers low (r ∷ []) key zero lies le before behind =
    let has : within r.keys key ≡ true = ap (λ (b : Bool). b && below_high r.keys.high key) (before 0 r (omega arith) (omega arith)) ∙ ap (λ (h : Option (List ℕ)). below_high h key) lies.1 in
    ap (λ (b : Bool). if b then Some r else None) has
covers low (r ∷ []) key (suc m) lies le before behind = absurd (omega arith)
covers low (r ∷ s ∷ rs) key zero lies le before behind =
    let ends : is_lt (slice_cmp nat_cmp key s.keys.low) ≡ true = turned _ (behind 1 s (omega arith) (omega arith)) in
    let has : within r.keys key ≡ true = ap (λ (b : Bool). b && below_high r.keys.high key) (before 0 r (omega arith) (omega arith)) ∙ ap (λ (h : Option (List ℕ)). below_high h key) lies.1 ∙ ends in
    ap (λ (b : Bool). if b then Some r else range_of_key (s ∷ rs) key) has
covers low (r ∷ s ∷ rs) key (suc m) lies le before behind =
    let ends : is_lt (slice_cmp nat_cmp key s.keys.low) ≡ false = turned_back _ (before 1 s (omega arith) (omega arith)) in
    let lacks : within r.keys key ≡ false = ap (λ (b : Bool). b && below_high r.keys.high key) (before 0 r (omega arith) (omega arith)) ∙ ap (λ (h : Option (List ℕ)). below_high h key) lies.1 ∙ ends in
    ap (λ (b : Bool). if b then Some r else range_of_key (s ∷ rs) key) lacks
    ∙ covers s.keys.low (s ∷ rs) key m lies.3 (omega arith) (λ k d lo hi. before (suc k) d (omega arith) (omega arith)) (λ k d lo hi. behind (suc k) d (omega arith) (omega arith))

-- where those that begin at a key or below end, the last of them stands, and has the key
pub some_begin : (rs : List RangeEntry) (key : List ℕ) (n : ℕ) → LiesFrom [] rs → IsPartitionPoint (λ r. begins key r ≡ true) (λ r. begins key r ≡ false) rs n → 1 ≤ n
some_begin [] key n lies point = absurd lies
some_begin (r ∷ rs) key zero lies point = absurd (let a = first_begins (r ∷ rs) key r lies in let b = point.1 0 r (omega arith) (omega arith) in cc)
some_begin (r ∷ rs) key (suc n) lies point = omega arith

pub covered : (rs : List RangeEntry) (key : List ℕ) (n : ℕ) (r : RangeEntry) → LiesFrom [] rs → n ≤ length rs → IsPartitionPoint (λ r. begins key r ≡ true) (λ r. begins key r ≡ false) rs n →
    r ≡ get_or rs (n - 1) r → range_of_key rs key ≡ Some r
covered rs key zero r lies le point is = absurd (let some = some_begin rs key zero lies point in omega arith)
covered rs key (suc m) r lies le point is =
    let e : suc m - 1 ≡ m = omega arith in
    covers [] rs key m lies le point.0 point.1 ∙ slice_get_read rs (length rs) m r refl (omega arith) (rw e at is)
