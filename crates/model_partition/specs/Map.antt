-- The partition map: which range has which keys, which server holds it until when, and which splits and merges are begun.
use Rattle.std.specs.Prelude.{ℕ, suc, ◌+◌, max, Bool, true, false, ◌&&◌, ◌||◌, ◌==◌, List, [], ◌∷◌, ◌++◌, length, map, Option, Some, None, bytes_eq, if◌then◌else◌}
use Rattle.std.specs.Cmp.Lexicographic.{slice_cmp}
use Rattle.std.specs.Ordering.{nat_cmp, is_lt}
use Rattle.block_types.specs.Limits.{is_within}
use Rattle.metadata.specs.Fold.{all_keys}
use Rattle.metadata.specs.Keys.{within, below_high}
use Rattle.metadata.specs.declared.record.KeyRange.{KeyRange}
use Rattle.model_partition.specs.declared.pending.Pending.{Pending}
use Rattle.model_partition.specs.declared.pending.Pending.TheVariants as pendings
use Rattle.model_partition.specs.declared.range_entry.RangeEntry.{RangeEntry}
use Rattle.model_partition.specs.Past.{first_range}

-- the ranges in the order of their keys, and the number of the next range
pub record MapState : Type 0 where
  pub ranges : List RangeEntry
  pub next : ℕ

-- the first range has all keys, nobody holds it, and nothing is begun at it
abbrev pub first_entry : RangeEntry
first_entry = record { range = first_range; keys = all_keys; generation = 0; holder = None; until = 0; pending = None }

abbrev pub first_map : MapState
first_map = record { ranges = first_entry ∷ []; next = suc first_range }

-- ---- finding a range

-- the range of a number
abbrev pub range_at : List RangeEntry → ℕ → Option RangeEntry
range_at [] range = None
range_at (r ∷ rs) range = if r.range == range then Some r else range_at rs range

-- the range that has a key
abbrev pub range_of_key : List RangeEntry → List ℕ → Option RangeEntry
range_of_key [] key = None
range_of_key (r ∷ rs) key = if within r.keys key then Some r else range_of_key rs key

-- ---- changing one

-- the range of a number after a change
abbrev pub changed_if : ℕ → (RangeEntry → RangeEntry) → RangeEntry → RangeEntry
changed_if range change r = if r.range == range then change r else r

abbrev pub with_range : MapState → ℕ → (RangeEntry → RangeEntry) → MapState
with_range m range change = record m { ranges = map (changed_if range change) m.ranges }

-- held by the server, under a generation one higher; a lease's end never goes back
abbrev pub assigned : ℕ → ℕ → RangeEntry → RangeEntry
assigned server until r = record r { generation = suc r.generation; holder = Some server; until = max r.until until }

abbrev pub renewed : ℕ → RangeEntry → RangeEntry
renewed until r = record r { until = max r.until until }

-- ---- what is begun

-- the pending merge of a range with this one, the right one
abbrev pub is_merge_with : ℕ → Option Pending → Bool
is_merge_with range (Some (pendings.Merge right into)) = right == range
is_merge_with range pending = false

-- Nothing is pending at the range of a number any more. A pair is pending at both its ranges, so it goes from both: it stands at
-- the left one alone, and goes from there where the right one drops it.
abbrev pub dropped_if : ℕ → RangeEntry → RangeEntry
dropped_if range r = if r.range == range || is_merge_with range r.pending then record r { pending = None } else r

abbrev pub drop_pending : MapState → ℕ → MapState
drop_pending m range = record m { ranges = map (dropped_if range) m.ranges }

abbrev pub with_pending : Pending → RangeEntry → RangeEntry
with_pending pending r = record r { pending = Some pending }

-- something is pending at the range of a number, in place of what was; it takes so many numbers
abbrev pub begin : MapState → ℕ → ℕ → Pending → MapState
begin m range count pending =
    record {
      ranges = map (changed_if range (with_pending pending)) (map (dropped_if range) m.ranges);
      next = m.next + count;
    }

-- ---- assignments

-- what is pending at a range is dropped where it is assigned
abbrev pub assign : MapState → ℕ → ℕ → ℕ → MapState
assign m range server until = with_range (drop_pending m range) range (assigned server until)

-- ---- splits

-- a key that splits a range: of 1 to 256 bytes, above its first key, and below its end
abbrev pub is_split_key : KeyRange → List ℕ → Bool
is_split_key keys key = is_within 1 256 (length key) && is_lt (slice_cmp nat_cmp keys.low key) && below_high keys.high key

-- the numbers of the two halves, where a split at this key is pending
abbrev pub halves_at : List ℕ → Option Pending → Option (ℕ × ℕ)
halves_at key (Some (pendings.Split at low high)) = if bytes_eq at key then Some (low, high) else None
halves_at key pending = None

-- a split at a key is pending at a range, in place of what was; its halves have the next two numbers
abbrev pub begin_split : MapState → ℕ → List ℕ → MapState
begin_split m range key = begin m range 2 (pendings.Split key m.next (m.next + 1))

-- some of a range's keys under a number of their own; nobody holds them, and their generation is the range's
abbrev pub half : RangeEntry → ℕ → KeyRange → RangeEntry
half r range keys = record { range = range; keys = keys; generation = r.generation; holder = None; until = 0; pending = None }

-- what a range becomes: two where a split is pending, its keys below the key and those from it on
abbrev pub halves : RangeEntry → Option Pending → List RangeEntry
halves r (Some (pendings.Split key low high)) =
    half r low (record { low = r.keys.low; high = Some key }) ∷ half r high (record { low = key; high = r.keys.high }) ∷ []
halves r pending = r ∷ []

-- the halves of the range of a number stand in its place
abbrev pub split_in : List RangeEntry → ℕ → List RangeEntry
split_in [] range = []
split_in (r ∷ rs) range = if r.range == range then halves r r.pending ++ rs else r ∷ split_in rs range

abbrev pub complete_split : MapState → ℕ → MapState
complete_split m range = record m { ranges = split_in m.ranges range }

-- ---- merges

-- the number of what they become, where a merge with this right one is pending
abbrev pub union_with : ℕ → Option Pending → Option ℕ
union_with range (Some (pendings.Merge right into)) = if right == range then Some into else None
union_with range pending = None

-- the merge of two ranges is pending, in place of what was at either; what they become has the next number
abbrev pub begin_merge : MapState → ℕ → ℕ → MapState
begin_merge m left right = begin (drop_pending m right) left 1 (pendings.Merge right m.next)

-- Where a merge of the range of a number with this right one is pending, and the right one stands behind it: the number of what
-- they become.
abbrev pub union_beside : ℕ → RangeEntry → List RangeEntry → Option ℕ
union_beside right l [] = None
union_beside right l (r ∷ rs) = if r.range == right then union_with right l.pending else None

abbrev pub union_at : List RangeEntry → ℕ → ℕ → Option ℕ
union_at [] left right = None
union_at (l ∷ rs) left right = if l.range == left then union_beside right l rs else union_at rs left right

-- all keys of two ranges under a number of their own, and the greater of their generations; nobody holds them
abbrev pub union : RangeEntry → RangeEntry → ℕ → RangeEntry
union l r into =
    record {
      range = into;
      keys = record { low = l.keys.low; high = r.keys.high };
      generation = max l.generation r.generation;
      holder = None;
      until = 0;
      pending = None;
    }

-- a range and the one behind it become one
abbrev pub joined : RangeEntry → List RangeEntry → Option ℕ → List RangeEntry
joined l (r ∷ rs) (Some into) = union l r into ∷ rs
joined l rs into = l ∷ rs

abbrev pub merge_in : List RangeEntry → ℕ → ℕ → List RangeEntry
merge_in [] left right = []
merge_in (l ∷ rs) left right = if l.range == left then joined l rs (union_beside right l rs) else l ∷ merge_in rs left right

abbrev pub complete_merge : MapState → ℕ → ℕ → MapState
complete_merge m left right = record m { ranges = merge_in m.ranges left right }
