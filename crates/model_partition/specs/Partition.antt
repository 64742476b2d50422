-- Ranges that do not overlap and have each key, and whose numbers are their own.
use Rattle.std.specs.Prelude.{◌≡◌, ◌≤◌, ℕ, ◌+◌, Bool, true, false, ◌==◌, nat_lt, List, [], ◌∷◌, ◌++◌, Option, Some, None, if◌then◌else◌}
use Rattle.std.specs.Cmp.Lexicographic.{slice_cmp}
use Rattle.std.specs.Ordering.{nat_cmp}
use Rattle.std.specs.declared.cmp.Ordering.TheVariants.{Less}
use Rattle.metadata.specs.Keys.{within}
use Rattle.metadata.specs.declared.record.KeyRange.{KeyRange}
use Rattle.model_partition.specs.declared.pending.Pending.{Pending}
use Rattle.model_partition.specs.declared.pending.Pending.TheVariants as pendings
use Rattle.model_partition.specs.declared.range_entry.RangeEntry.{RangeEntry}
use Rattle.model_partition.specs.Map.{MapState, is_split_key}

-- in byte order
abbrev pub IsBelow : List ℕ → List ℕ → Type 0
IsBelow key other = slice_cmp nat_cmp key other ≡ Less

-- below the end of a range, where that has one
abbrev pub IsBelowEnd : List ℕ → Option (List ℕ) → Type 0
IsBelowEnd key None = Unit {0}
IsBelowEnd key (Some high) = IsBelow key high

-- Ranges that lie side by side from a key on: the first begins there, each next one where the one before it ends, which is
-- above its beginning, and the last has no end.
abbrev pub LiesFrom : List ℕ → List RangeEntry → Type 0
LiesFrom low [] = ⊥
LiesFrom low (r ∷ []) = (r.keys.low ≡ low) × (r.keys.high ≡ None)
LiesFrom low (r ∷ s ∷ rs) = (r.keys.low ≡ low) × (r.keys.high ≡ Some s.keys.low) × IsBelow low s.keys.low × LiesFrom s.keys.low (s ∷ rs)

-- from the lowest key on
abbrev pub IsPartition : List RangeEntry → Type 0
IsPartition rs = LiesFrom [] rs

-- ---- numbers

abbrev pub one_if : Bool → ℕ
one_if b = if b then 1 else 0

-- how often a number is that of a range to come, of those that are pending
abbrev pub uses_pending : ℕ → Option Pending → ℕ
uses_pending n None = 0
uses_pending n (Some (pendings.Split key low high)) = one_if (low == n) + one_if (high == n)
uses_pending n (Some (pendings.Merge right into)) = one_if (into == n)

-- how often a number is that of a range, or of a range to come
abbrev pub uses : ℕ → List RangeEntry → ℕ
uses n [] = 0
uses n (r ∷ rs) = one_if (r.range == n) + uses_pending n r.pending + uses n rs

-- a number below the next one is that of at most one of all these, and no other number is
abbrev pub AreFresh : MapState → Type 0
AreFresh m = (n : ℕ) → uses n m.ranges ≤ one_if (nat_lt n m.next)

-- ---- splits that are pending

-- the key splits the range
abbrev pub HasSplitKey : KeyRange → Option Pending → Type 0
HasSplitKey keys None = Unit {0}
HasSplitKey keys (Some (pendings.Split key low high)) = is_split_key keys key ≡ true
HasSplitKey keys (Some (pendings.Merge right into)) = Unit {0}

abbrev pub HaveSplitKeys : List RangeEntry → Type 0
HaveSplitKeys [] = Unit {0}
HaveSplitKeys (r ∷ rs) = HasSplitKey r.keys r.pending × HaveSplitKeys rs

-- ---- what each record that fits keeps

pub record IsSound (m : MapState) : Type 0 where
  pub partition : IsPartition m.ranges
  pub fresh : AreFresh m
  pub split_keys : HaveSplitKeys m.ranges

-- ---- what that means of a key

-- none of them has the key
abbrev pub NoneHas : List RangeEntry → List ℕ → Type 0
NoneHas [] key = Unit {0}
NoneHas (r ∷ rs) key = (within r.keys key ≡ false) × NoneHas rs key

-- one of the ranges has the key, and what stands before it and after it does not
pub record HasKey (rs : List RangeEntry) (key : List ℕ) : Type 0 where
  pub before : List RangeEntry
  pub range : RangeEntry
  pub behind : List RangeEntry
  pub is : rs ≡ before ++ range ∷ behind
  pub has : within range.keys key ≡ true
  pub only_before : NoneHas before key
  pub only_behind : NoneHas behind key

-- each key is in exactly one of the ranges
abbrev pub HaveEachKeyOnce : List RangeEntry → Type 0
HaveEachKeyOnce rs = (key : List ℕ) → HasKey rs key
