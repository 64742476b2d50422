-- A table stays sound by a record that fits.
use Rattle.std.proofs.Common.{◌≡◌, ◌≤◌, ℕ, ◌+◌, true, ◌||◌, List, Option, Some, None, ap, sym, subst, ◌∙◌}
use Rattle.std.specs.Prelude.{map, option_map, ◌==◌}
use Rattle.model_streams.proofs.Tests.{if_elim}
use Rattle.model_partition.specs.declared.map_record.MapRecord.{MapRecord}
use Rattle.model_partition.specs.declared.map_record.MapRecord.TheVariants as records
use Rattle.model_partition.specs.declared.pending.Pending.TheVariants as pendings
use Rattle.model_partition.specs.declared.range_entry.RangeEntry.{RangeEntry}
use Rattle.model_partition.specs.Map.{MapState, range_at, is_merge_with, changed_if, dropped_if, drop_pending, with_pending, begin_split, begin_merge}
use Rattle.model_partition.specs.Partition.{uses, IsSound}
use Rattle.model_partition.specs.Replay.{after_record, fits_map, may_assign}
use Rattle.model_partition.proofs.Numbers.{used_once, dropped, found_after}
use Rattle.model_partition.proofs.Replaying.{after_sound, drop_sound}
use Rattle.pmap_table.specs.MapTable.{MapTable}

-- the map of a table that is looked into
pub fits_in : (t u : MapTable) (r : MapRecord) → t ≡ u → fits_map u.map r ≡ true → fits_map t.map r ≡ true
fits_in t u r same fits = subst (λ (x : MapTable). fits_map x.map r ≡ true) (sym same) fits

pub stays_sound : (m : MapState) (r : MapRecord) (rs : List RangeEntry) (next : ℕ) → fits_map m r ≡ true → IsSound m → after_record m r ≡ record { ranges = rs; next = next } → IsSound (record { ranges = rs; next = next })
stays_sound m r rs next fits sound is = subst IsSound is (after_sound m r fits sound)

-- once something was dropped each number is still used once
pub once_dropped : (m : MapState) (range n : ℕ) (rs : List RangeEntry) → IsSound m → rs ≡ map (dropped_if range) m.ranges → uses n rs ≤ 1
once_dropped m range n rs sound is = subst (λ (l : List RangeEntry). uses n l ≤ 1) (sym is) (used_once (drop_pending m range) (drop_sound m range sound).fresh n)

pub once : (m : MapState) (n : ℕ) → IsSound m → uses n m.ranges ≤ 1
once m n sound = used_once m sound.fresh n

pub may_still : (m : MapState) (range : ℕ) (rs : List RangeEntry) → rs ≡ map (dropped_if range) m.ranges → may_assign (range_at m.ranges range) ≡ true → may_assign (range_at rs range) ≡ true
may_still m range rs is may =
    ap (λ (l : List RangeEntry). may_assign (range_at l range)) is ∙ ap may_assign (found_after (dropped_if range) (dropped range).number range m.ranges) ∙ kept (range_at m.ranges range) may
  where
    kept : (o : Option RangeEntry) → may_assign o ≡ true → may_assign (option_map (dropped_if range) o) ≡ true
    kept None may = absurd cc
    kept (Some r) may =
        if_elim (λ (x : RangeEntry). may_assign (Some x) ≡ true) (r.range == range || is_merge_with range r.pending) (record r { pending = None }) r (λ t. may) (λ f. may)

-- ---- what is begun

-- the next number is read by another name
pub split_sound : (m : MapState) (range : ℕ) (key : List ℕ) (less rs : List RangeEntry) (n k : ℕ) → n ≡ m.next → k ≡ m.next → less ≡ map (dropped_if range) m.ranges →
    rs ≡ map (changed_if range (with_pending (pendings.Split key m.next (n + 1)))) less → fits_map m (records.BeginSplit range key) ≡ true → IsSound m → IsSound (record { ranges = rs; next = k + 2 })
split_sound m range key less rs n k same again drops begins fits sound =
    let after : rs ≡ (begin_split m range key).ranges = begins ∙ ap (λ (j : ℕ). map (changed_if range (with_pending (pendings.Split key m.next (j + 1)))) less) same
    ∙ ap (map (changed_if range (with_pending (pendings.Split key m.next (m.next + 1))))) drops in
    stays_sound m (records.BeginSplit range key) rs (k + 2) fits sound
    (ap (λ (l : List RangeEntry). let x : MapState = record { ranges = l; next = m.next + 2 } in x) (sym after) ∙ ap (λ (j : ℕ). let x : MapState = record { ranges = rs; next = j + 2 } in x) (sym again))

pub merge_sound : (m : MapState) (left right : ℕ) (less rs : List RangeEntry) (n : ℕ) → n ≡ m.next → less ≡ map (dropped_if left) (map (dropped_if right) m.ranges) →
    rs ≡ map (changed_if left (with_pending (pendings.Merge right m.next))) less → fits_map m (records.BeginMerge left right) ≡ true → IsSound m → IsSound (record { ranges = rs; next = n + 1 })
merge_sound m left right less rs n same drops begins fits sound =
    let after : rs ≡ (begin_merge m left right).ranges = begins ∙ ap (map (changed_if left (with_pending (pendings.Merge right m.next)))) drops in
    stays_sound m (records.BeginMerge left right) rs (n + 1) fits sound
    (ap (λ (l : List RangeEntry). let x : MapState = record { ranges = l; next = m.next + 1 } in x) (sym after) ∙ ap (λ (k : ℕ). let x : MapState = record { ranges = rs; next = k + 1 } in x) (sym same))
