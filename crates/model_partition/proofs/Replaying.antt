-- The map that records make is sound where they fit, and one record more is one change more.
use Rattle.std.proofs.Common.{◌≡◌, ℕ, suc, ◌+◌, ◌≤◌, Bool, true, false, ◌&&◌, List, [], ◌∷◌, ◌++◌, Option, Some, None, inl, refl, ap, sym, subst, ◌∙◌, arith, if◌then◌else◌}
use Rattle.std.specs.Prelude.{◌==◌, nat_lt, is_none, map, option_map}
use Rattle.std.proofs.lemmas.Bool.{and_parts, ltb-true, ltb-false, eqb-true, eqb-false}
use Rattle.block_types.specs.declared.record.Record.{Record}
use Rattle.metadata.specs.declared.record.KeyRange.{KeyRange}
use Rattle.model_streams.proofs.Tests.{if_elim}
use Rattle.model_partition.specs.declared.map_record.MapRecord.{MapRecord}
use Rattle.model_partition.specs.declared.map_record.MapRecord.TheVariants.{Assign, Renew, BeginSplit, CompleteSplit, BeginMerge, CompleteMerge}
use Rattle.model_partition.specs.declared.pending.Pending.{Pending}
use Rattle.model_partition.specs.declared.pending.Pending.TheVariants as pendings
use Rattle.model_partition.specs.declared.range_entry.RangeEntry.{RangeEntry}
use Rattle.model_partition.specs.Map.{MapState, first_map, range_at, changed_if, dropped_if, drop_pending, assigned, renewed, is_split_key, halves_at, with_pending, begin}
use Rattle.model_partition.specs.MapRules.{has_numbers}
use Rattle.model_partition.specs.Partition.{IsPartition, one_if, uses_pending, uses, AreFresh, HasSplitKey, HaveSplitKeys, IsSound}
use Rattle.model_partition.specs.Replay.{after_record, map_after, map_record_of, replay_from, map_replay, may_begin_split, fits_map, map_record_fits, fit_from, map_fits}
use Rattle.model_partition.proofs.Numbers.{used_once, BeginsNothing, kept, dropped, fewer, split_keys_kept, found_after, one_begins, one_has_key, split_fewer, split_have, merge_fewer, merge_have}
use Rattle.model_partition.proofs.Partitions.{map_lies, change_lies, split_lies, merge_lies}

-- ---- what a record keeps

-- what begins nothing
pub change_sound : (m : MapState) (change : RangeEntry → RangeEntry) → BeginsNothing change → IsSound m → IsSound (record m { ranges = map change m.ranges })
change_sound m change b s = record {
  partition = map_lies [] m.ranges change b.keys s.partition;
  fresh = λ n. omega (arith, fewer change b n m.ranges, s.fresh n);
  split_keys = split_keys_kept change b m.ranges s.split_keys;
}

pub drop_sound : (m : MapState) (range : ℕ) → IsSound m → IsSound (drop_pending m range)
drop_sound m range s = change_sound m (dropped_if range) (dropped range) s

assigned_begins : (server until : ℕ) → BeginsNothing (assigned server until)
assigned_begins server until = record { number = λ r. refl; keys = λ r. refl; pending = λ r. inl refl }

renewed_begins : (until : ℕ) → BeginsNothing (renewed until)
renewed_begins until = record { number = λ r. refl; keys = λ r. refl; pending = λ r. inl refl }

-- what is begun at one range takes numbers from the next one on
begin_sound : (m : MapState) (range count : ℕ) (p : Pending) → IsSound m → ((r : RangeEntry) → range_at (drop_pending m range).ranges range ≡ Some r → HasSplitKey r.keys (Some p)) →
    ((n : ℕ) → one_if (nat_lt n m.next) + uses_pending n (Some p) ≤ one_if (nat_lt n (m.next + count))) →
    IsSound (begin m range count p)
begin_sound m range count p s splits few =
    let d = drop_sound m range s in
    let rs = (drop_pending m range).ranges in
    let once = used_once (drop_pending m range) d.fresh range in record {
      partition = change_lies [] rs range (with_pending p) (λ r. refl) d.partition;
      fresh = λ n. omega (arith, one_begins range p n rs once, d.fresh n, few n);
      split_keys = one_has_key range p rs once splits d.split_keys;
    }

one_next : (n next more : ℕ) → more ≡ next + 1 → one_if (nat_lt n next) + one_if (next == n) ≤ one_if (nat_lt n more)
one_next n next more is = go (nat_lt n next) (next == n) (nat_lt n more) refl refl refl
  where
    go : (a b c : Bool) → nat_lt n next ≡ a → (next == n) ≡ b → nat_lt n more ≡ c → one_if a + one_if b ≤ one_if c
    go true true c below same e = absurd (omega (arith, ltb-true n next below, eqb-true next n same))
    go true false true below other e = omega (arith)
    go true false false below other e = absurd (omega (arith, ltb-true n next below, ltb-false n more e, is))
    go false true true from same e = omega (arith)
    go false true false from same e = absurd (omega (arith, eqb-true next n same, ltb-false n more e, is))
    go false false c from other e = omega (arith)

two_next : (n next : ℕ) → one_if (nat_lt n next) + (one_if (next == n) + one_if (next + 1 == n)) ≤ one_if (nat_lt n (next + 2))
two_next n next = omega (arith, one_next n next (next + 1) refl, one_next n (next + 1) (next + 2) (omega (arith)))

-- a key that splits the range of a number does so when something is dropped
dropped_splits : (m : MapState) (range : ℕ) (key : List ℕ) (r : RangeEntry) → may_begin_split key (range_at m.ranges range) ≡ true → range_at (drop_pending m range).ranges range ≡ Some r → is_split_key r.keys key ≡ true
dropped_splits m range key r may is = go (range_at m.ranges range) may (sym (found_after (dropped_if range) (dropped range).number range m.ranges) ∙ is)
  where
    go : (o : Option RangeEntry) → may_begin_split key o ≡ true → option_map (dropped_if range) o ≡ Some r → is_split_key r.keys key ≡ true
    go None may found = absurd cc
    go (Some x) may found =
        let e : dropped_if range x ≡ r = cc in
        subst (λ (k : KeyRange). is_split_key k key ≡ true) (sym ((dropped range).keys x) ∙ ap (λ (y : RangeEntry). y.keys) e)
        (and_parts (is_split_key x.keys key) (is_none (halves_at key x.pending)) may).0

-- each record that fits keeps the map sound
pub after_sound : (m : MapState) (r : MapRecord) → fits_map m r ≡ true → IsSound m → IsSound (after_record m r)
after_sound m (Assign range server until) fits s =
    change_sound (drop_pending m range) (changed_if range (assigned server until)) (kept range (assigned server until) (assigned_begins server until)) (drop_sound m range s)
after_sound m (Renew range until) fits s = change_sound m (changed_if range (renewed until)) (kept range (renewed until) (renewed_begins until)) s
after_sound m (BeginSplit range key) fits s =
    let may = and_parts (may_begin_split key (range_at m.ranges range)) (has_numbers m 2) fits in
    begin_sound m range 2 (pendings.Split key m.next (m.next + 1)) s (λ r is. dropped_splits m range key r may.0 is) (λ n. two_next n m.next)
after_sound m (CompleteSplit range) fits s = record {
  partition = split_lies [] range m.ranges s.split_keys s.partition;
  fresh = λ n. omega (arith, split_fewer n range m.ranges, s.fresh n);
  split_keys = split_have range m.ranges s.split_keys;
}
after_sound m (BeginMerge left right) fits s =
    begin_sound (drop_pending m right) left 1 (pendings.Merge right m.next) (drop_sound m right s) (λ r is. tt) (λ n. one_next n m.next (m.next + 1) refl)
after_sound m (CompleteMerge left right) fits s = record {
  partition = merge_lies [] left right m.ranges s.partition;
  fresh = λ n. omega (arith, merge_fewer n left right m.ranges, s.fresh n);
  split_keys = merge_have left right m.ranges s.split_keys;
}

pub map_after_sound : (m : MapState) (r : Option MapRecord) → map_record_fits m r ≡ true → IsSound m → IsSound (map_after m r)
map_after_sound m None fits s = absurd cc
map_after_sound m (Some r) fits s = after_sound m r fits s

-- ---- the map of records

first_uses : (n : ℕ) → uses n first_map.ranges ≤ one_if (nat_lt n first_map.next)
first_uses n = omega (arith, one_next n 1 2 refl)

pub first_sound : IsSound first_map
first_sound = record { partition = (refl, refl); fresh = first_uses; split_keys = (tt, tt) }

from_sound : (m : MapState) (rs : List Record) → fit_from m rs ≡ true → IsSound m → IsSound (replay_from m rs)
from_sound m [] fits s = s
from_sound m (r ∷ rs) fits s =
    let both = and_parts (map_record_fits m (map_record_of r)) (fit_from (map_after m (map_record_of r)) rs) fits in
    from_sound (map_after m (map_record_of r)) rs both.1 (map_after_sound m (map_record_of r) both.0 s)

pub replay_sound : (rs : List Record) → map_fits rs ≡ true → IsSound (map_replay rs)
replay_sound rs fits = from_sound first_map rs fits first_sound

-- ---- one record more

from_push : (m : MapState) (rs : List Record) (r : Record) → replay_from m (rs ++ r ∷ []) ≡ map_after (replay_from m rs) (map_record_of r)
from_push m [] r = refl
from_push m (x ∷ rs) r = from_push (map_after m (map_record_of x)) rs r

pub replay_push : (rs : List Record) (r : Record) → map_replay (rs ++ r ∷ []) ≡ map_after (map_replay rs) (map_record_of r)
replay_push rs r = from_push first_map rs r

and_true : (b : Bool) → (b && true) ≡ b
and_true true = refl
and_true false = refl

and_more : (a b c d : Bool) → b ≡ (c && d) → (a && b) ≡ ((a && c) && d)
and_more true b c d is = is
and_more false b c d is = refl

fit_from_push : (m : MapState) (rs : List Record) (r : Record) → fit_from m (rs ++ r ∷ []) ≡ (fit_from m rs && map_record_fits (replay_from m rs) (map_record_of r))
fit_from_push m [] r = and_true (map_record_fits m (map_record_of r))
fit_from_push m (x ∷ rs) r = and_more (map_record_fits m (map_record_of x)) _ _ _ (fit_from_push (map_after m (map_record_of x)) rs r)

pub fits_push : (rs : List Record) (r : Record) → map_fits (rs ++ r ∷ []) ≡ (map_fits rs && map_record_fits (map_replay rs) (map_record_of r))
fits_push rs r = fit_from_push first_map rs r
