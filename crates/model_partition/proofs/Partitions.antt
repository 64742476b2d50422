-- Ranges side by side have each key once, and they stay so where one changes, is split or is merged with the next.
use Rattle.std.proofs.Common.{◌≡◌, ℕ, Bool, true, false, not, ◌&&◌, List, [], ◌∷◌, ◌++◌, length, Option, Some, None, refl, ap, sym, subst, ◌∙◌, if◌then◌else◌}
use Rattle.std.specs.Prelude.{map, ◌==◌}
use Rattle.std.specs.Cmp.Lexicographic.{slice_cmp}
use Rattle.std.specs.Ordering.{nat_cmp, is_lt}
use Rattle.std.specs.declared.cmp.Ordering.{Ordering}
use Rattle.std.specs.declared.cmp.Ordering.TheVariants.{Less, Equal, Greater}
use Rattle.std.proofs.lemmas.Bool.{and_parts}
use Rattle.std.proofs.lemmas.Cmp.{nat_list_cmp_total}
use Rattle.block_types.specs.Limits.{is_within}
use Rattle.metadata.specs.declared.record.KeyRange.{KeyRange}
use Rattle.metadata.specs.Keys.{below_high, within}
use Rattle.model_streams.proofs.Tests.{if_elim}
use Rattle.model_partition.specs.declared.pending.Pending.{Pending}
use Rattle.model_partition.specs.declared.pending.Pending.TheVariants as pendings
use Rattle.model_partition.specs.declared.range_entry.RangeEntry.{RangeEntry}
use Rattle.model_partition.specs.Map.{range_of_key, changed_if, half, halves, split_in, union, union_beside, joined, merge_in}
use Rattle.model_partition.specs.Partition.{IsBelow, IsBelowEnd, LiesFrom, IsPartition, HasSplitKey, HaveSplitKeys, NoneHas, HasKey, HaveEachKeyOnce}

-- ---- where a key is

below_is : (o : Ordering) → is_lt o ≡ true → o ≡ Less
below_is Less e = refl
below_is Equal e = absurd cc
below_is Greater e = absurd cc

-- nothing stands below the lowest key
not_below_lowest : (key : List ℕ) → is_lt (slice_cmp nat_cmp key []) ≡ false
not_below_lowest [] = refl
not_below_lowest (x ∷ key) = refl

-- a range has no key below its beginning
below_low : (r : RangeEntry) (low key : List ℕ) → r.keys.low ≡ low → IsBelow key low → within r.keys key ≡ false
below_low r low key begins below = ap (λ (l : List ℕ). not (is_lt (slice_cmp nat_cmp key l)) && below_high r.keys.high key) begins ∙ ap (λ (o : Ordering). not (is_lt o) && below_high r.keys.high key) below

-- from its beginning on, only the end says whether it has a key
from_low : (r : RangeEntry) (low key : List ℕ) (high : Option (List ℕ)) → r.keys.low ≡ low → r.keys.high ≡ high → is_lt (slice_cmp nat_cmp key low) ≡ false → within r.keys key ≡ below_high high key
from_low r low key high begins ends from =
    ap (λ (l : List ℕ). not (is_lt (slice_cmp nat_cmp key l)) && below_high r.keys.high key) begins
    ∙ ap (λ (b : Bool). not b && below_high r.keys.high key) from
    ∙ ap (λ (h : Option (List ℕ)). below_high h key) ends

-- a key below the first range is in none
none_below : (low : List ℕ) (rs : List RangeEntry) (key : List ℕ) → IsBelow key low → LiesFrom low rs → NoneHas rs key
none_below low [] key below lies = tt
none_below low (r ∷ []) key below lies = (below_low r low key lies.0 below, tt)
none_below low (r ∷ s ∷ rs) key below lies =
    (below_low r low key lies.0 below, none_below s.keys.low (s ∷ rs) key (nat_list_cmp_total.trans key low s.keys.low below lies.2) lies.3)

more_before : (r : RangeEntry) (rs : List RangeEntry) (key : List ℕ) → within r.keys key ≡ false → HasKey rs key → HasKey (r ∷ rs) key
more_before r rs key lacks h = record {
  before = r ∷ h.before;
  range = h.range;
  behind = h.behind;
  is = ap (λ (xs : List RangeEntry). r ∷ xs) h.is;
  has = h.has;
  only_before = (lacks, h.only_before);
  only_behind = h.only_behind;
}

-- a key from the first range on is in one
once_from : (low : List ℕ) (rs : List RangeEntry) (key : List ℕ) → is_lt (slice_cmp nat_cmp key low) ≡ false → LiesFrom low rs → HasKey rs key
once_from low [] key from lies = absurd lies
once_from low (r ∷ []) key from lies = record {
  before = [];
  range = r;
  behind = [];
  is = refl;
  has = from_low r low key None lies.0 lies.1 from;
  only_before = tt;
  only_behind = tt;
}
once_from low (r ∷ s ∷ rs) key from lies = go (is_lt (slice_cmp nat_cmp key s.keys.low)) refl (λ next. once_from s.keys.low (s ∷ rs) key next lies.3)
  where
    has_next : (b : Bool) → is_lt (slice_cmp nat_cmp key s.keys.low) ≡ b → within r.keys key ≡ b
    has_next b is = from_low r low key (Some s.keys.low) lies.0 lies.1 from ∙ is

    go : (b : Bool) → is_lt (slice_cmp nat_cmp key s.keys.low) ≡ b → (is_lt (slice_cmp nat_cmp key s.keys.low) ≡ false → HasKey (s ∷ rs) key) → HasKey (r ∷ s ∷ rs) key
    go true is more = record {
      before = [];
      range = r;
      behind = s ∷ rs;
      is = refl;
      has = has_next true is;
      only_before = tt;
      only_behind = none_below s.keys.low (s ∷ rs) key (below_is _ is) lies.3;
    }
    go false is more = more_before r (s ∷ rs) key (has_next false is) (more is)

pub once : (rs : List RangeEntry) → IsPartition rs → HaveEachKeyOnce rs
once rs lies key = once_from [] rs key (not_below_lowest key) lies

routed_past : (before : List RangeEntry) (r : RangeEntry) (behind : List RangeEntry) (key : List ℕ) → NoneHas before key → within r.keys key ≡ true → range_of_key (before ++ (r ∷ behind)) key ≡ Some r
routed_past [] r behind key none has = ap (λ (b : Bool). if b then Some r else range_of_key behind key) has
routed_past (x ∷ before) r behind key none has =
    ap (λ (b : Bool). if b then Some x else range_of_key (before ++ (r ∷ behind)) key) none.0 ∙ routed_past before r behind key none.1 has

-- a key is found at the range that has it
pub routed : (rs : List RangeEntry) (key : List ℕ) (h : HasKey rs key) → range_of_key rs key ≡ Some h.range
routed rs key h = ap (λ (xs : List RangeEntry). range_of_key xs key) h.is ∙ routed_past h.before h.range h.behind key h.only_before h.has

-- ---- one range changes

keys_kept : (range : ℕ) (change : RangeEntry → RangeEntry) → ((r : RangeEntry) → (change r).keys ≡ r.keys) → (r : RangeEntry) → (changed_if range change r).keys ≡ r.keys
keys_kept range change keeps r = if_elim (λ (x : RangeEntry). x.keys ≡ r.keys) (r.range == range) (change r) r (λ t. keeps r) (λ f. refl)

-- what keeps the keys of each range keeps the ranges side by side
pub map_lies : (low : List ℕ) (rs : List RangeEntry) (change : RangeEntry → RangeEntry) → ((r : RangeEntry) → (change r).keys ≡ r.keys) → LiesFrom low rs → LiesFrom low (map change rs)
map_lies low [] change keeps lies = absurd lies
map_lies low (r ∷ []) change keeps lies = (ap (λ (x : KeyRange). x.low) (keeps r) ∙ lies.0, ap (λ (x : KeyRange). x.high) (keeps r) ∙ lies.1)
map_lies low (r ∷ s ∷ rs) change keeps lies =
    let next : s.keys.low ≡ (change s).keys.low = sym (ap (λ (x : KeyRange). x.low) (keeps s)) in (
      ap (λ (x : KeyRange). x.low) (keeps r) ∙ lies.0,
      ap (λ (x : KeyRange). x.high) (keeps r) ∙ lies.1 ∙ ap Some next,
      subst (λ (x : List ℕ). IsBelow low x) next lies.2,
      subst (λ (x : List ℕ). LiesFrom x (map change (s ∷ rs))) next (map_lies s.keys.low (s ∷ rs) change keeps lies.3),
    )

pub change_lies : (low : List ℕ) (rs : List RangeEntry) (range : ℕ) (change : RangeEntry → RangeEntry) → ((r : RangeEntry) → (change r).keys ≡ r.keys) → LiesFrom low rs → LiesFrom low (map (changed_if range change) rs)
change_lies low rs range change keeps lies = map_lies low rs (changed_if range change) (keys_kept range change keeps) lies

-- ---- splits and merges

-- a range before others that lie side by side
next_lies : (low next : List ℕ) (r : RangeEntry) (rs : List RangeEntry) → r.keys.low ≡ low → r.keys.high ≡ Some next → IsBelow low next → LiesFrom next rs → LiesFrom low (r ∷ rs)
next_lies low next r [] begins ends below lies = absurd lies
next_lies low next r (s ∷ []) begins ends below lies =
    (begins, ends ∙ ap Some (sym lies.0), subst (λ (k : List ℕ). IsBelow low k) (sym lies.0) below, (refl, lies.1))
next_lies low next r (s ∷ t ∷ rs) begins ends below lies = (
  begins,
  ends ∙ ap Some (sym lies.0),
  subst (λ (k : List ℕ). IsBelow low k) (sym lies.0) below,
  (refl, lies.1, subst (λ (k : List ℕ). IsBelow k t.keys.low) (sym lies.0) lies.2, lies.3),
)

lows : (keys : KeyRange) (low : List ℕ) (high : Option (List ℕ)) → keys ≡ record { low = low; high = high } → keys.low ≡ low
lows keys low high is = ap (λ (k : KeyRange). k.low) is

highs : (keys : KeyRange) (low : List ℕ) (high : Option (List ℕ)) → keys ≡ record { low = low; high = high } → keys.high ≡ high
highs keys low high is = ap (λ (k : KeyRange). k.high) is

split_first : (r c d : RangeEntry) (behind : List RangeEntry) (key : List ℕ) → IsBelow r.keys.low key → IsBelowEnd key r.keys.high → c.keys ≡ record { low = r.keys.low; high = Some key } →
    d.keys ≡ record { low = key; high = r.keys.high } → (from : List ℕ) → LiesFrom from (r ∷ behind) → LiesFrom from (c ∷ d ∷ behind)
split_first r c d [] key above below cs ds from lies =
    let begins = lows c.keys r.keys.low (Some key) cs in
    let ends = highs c.keys r.keys.low (Some key) cs in
    let next = lows d.keys key r.keys.high ds in
    let last = highs d.keys key r.keys.high ds in (
      begins ∙ lies.0,
      ends ∙ ap Some (sym next),
      subst (λ (k : List ℕ). IsBelow from k) (sym next) (subst (λ (k : List ℕ). IsBelow k key) lies.0 above),
      (refl, last ∙ lies.1),
    )
split_first r c d (s ∷ behind) key above below cs ds from lies =
    let begins = lows c.keys r.keys.low (Some key) cs in
    let ends = highs c.keys r.keys.low (Some key) cs in
    let next = lows d.keys key r.keys.high ds in
    let last = highs d.keys key r.keys.high ds in
    let under : IsBelow key s.keys.low = subst (λ (h : Option (List ℕ)). IsBelowEnd key h) lies.1 below in (
      begins ∙ lies.0,
      ends ∙ ap Some (sym next),
      subst (λ (k : List ℕ). IsBelow from k) (sym next) (subst (λ (k : List ℕ). IsBelow k key) lies.0 above),
      (refl, last ∙ lies.1, subst (λ (k : List ℕ). IsBelow k s.keys.low) (sym next) under, lies.3),
    )

is_below : (x : List ℕ) (key : List ℕ) → is_lt (slice_cmp nat_cmp x key) ≡ true → IsBelow x key
is_below x key e = below_is (slice_cmp nat_cmp x key) e

is_below_end : (key : List ℕ) (high : Option (List ℕ)) → below_high high key ≡ true → IsBelowEnd key high
is_below_end key None e = tt
is_below_end key (Some high) e = is_below key high e

halves_lie : (low : List ℕ) (r : RangeEntry) (rs : List RangeEntry) (p : Option Pending) → HasSplitKey r.keys p → LiesFrom low (r ∷ rs) → LiesFrom low (halves r p ++ rs)
halves_lie low r rs None splits lies = lies
halves_lie low r rs (Some (pendings.Split key c d)) splits lies =
    let ends = and_parts (is_within 1 256 (length key) && is_lt (slice_cmp nat_cmp r.keys.low key)) (below_high r.keys.high key) splits in
    let above = and_parts (is_within 1 256 (length key)) (is_lt (slice_cmp nat_cmp r.keys.low key)) ends.0 in
    split_first r (half r c (record { low = r.keys.low; high = Some key })) (half r d (record { low = key; high = r.keys.high })) rs key (is_below r.keys.low key above.1)
    (is_below_end key r.keys.high ends.1) refl refl low lies
halves_lie low r rs (Some (pendings.Merge right into)) splits lies = lies

-- the halves of a range lie where it lay
pub split_lies : (low : List ℕ) (range : ℕ) (rs : List RangeEntry) → HaveSplitKeys rs → LiesFrom low rs → LiesFrom low (split_in rs range)
split_lies low range [] have lies = absurd lies
split_lies low range (r ∷ []) have lies =
    if_elim (LiesFrom low) (r.range == range) (halves r r.pending ++ []) (r ∷ []) (λ same. halves_lie low r [] r.pending have.0 lies) (λ other. lies)
split_lies low range (r ∷ s ∷ rs) have lies =
    if_elim (LiesFrom low) (r.range == range) (halves r r.pending ++ s ∷ rs) (r ∷ split_in (s ∷ rs) range)
    (λ same. halves_lie low r (s ∷ rs) r.pending have.0 lies)
    (λ other. next_lies low s.keys.low r (split_in (s ∷ rs) range) lies.0 lies.1 lies.2 (split_lies s.keys.low range (s ∷ rs) have.1 lies.3))

merged_first : (l r e : RangeEntry) (behind : List RangeEntry) → e.keys ≡ record { low = l.keys.low; high = r.keys.high } → (from : List ℕ) → LiesFrom from (l ∷ r ∷ behind) → LiesFrom from (e ∷ behind)
merged_first l r e [] es from lies = (lows e.keys l.keys.low r.keys.high es ∙ lies.0, highs e.keys l.keys.low r.keys.high es ∙ lies.3.1)
merged_first l r e (s ∷ behind) es from lies = (
  lows e.keys l.keys.low r.keys.high es ∙ lies.0,
  highs e.keys l.keys.low r.keys.high es ∙ lies.3.1,
  nat_list_cmp_total.trans from r.keys.low s.keys.low lies.2 lies.3.2,
  lies.3.3,
)

joined_lies : (low : List ℕ) (l : RangeEntry) (rs : List RangeEntry) (o : Option ℕ) → LiesFrom low (l ∷ rs) → LiesFrom low (joined l rs o)
joined_lies low l [] o lies = lies
joined_lies low l (r ∷ rs) None lies = lies
joined_lies low l (r ∷ rs) (Some into) lies = merged_first l r (union l r into) rs refl low lies

-- what two ranges become lies where they lay
pub merge_lies : (low : List ℕ) (left right : ℕ) (rs : List RangeEntry) → LiesFrom low rs → LiesFrom low (merge_in rs left right)
merge_lies low left right [] lies = absurd lies
merge_lies low left right (l ∷ []) lies =
    if_elim (LiesFrom low) (l.range == left) (joined l [] None) (l ∷ []) (λ same. lies) (λ other. lies)
merge_lies low left right (l ∷ s ∷ rs) lies =
    if_elim (LiesFrom low) (l.range == left) (joined l (s ∷ rs) (union_beside right l (s ∷ rs))) (l ∷ merge_in (s ∷ rs) left right)
    (λ same. joined_lies low l (s ∷ rs) (union_beside right l (s ∷ rs)) lies)
    (λ other. next_lies low s.keys.low l (merge_in (s ∷ rs) left right) lies.0 lies.1 lies.2 (merge_lies s.keys.low left right (s ∷ rs) lies.3))
