-- How often numbers are used, and which splits are pending, as ranges change.
use Rattle.std.proofs.Common.{◌≡◌, ℕ, suc, ◌+◌, ◌≤◌, ◌⊎◌, inl, inr, Bool, true, false, ◌&&◌, ◌||◌, List, [], ◌∷◌, ◌++◌, Option, Some, None, refl, ap, sym, subst, ◌∙◌, arith, if◌then◌else◌}
use Rattle.std.specs.Prelude.{map, ◌==◌, nat_lt, option_map}
use Rattle.metadata.specs.declared.record.KeyRange.{KeyRange}
use Rattle.model_streams.proofs.Tests.{if_elim}
use Rattle.model_partition.specs.declared.pending.Pending.{Pending}
use Rattle.model_partition.specs.declared.pending.Pending.TheVariants as pendings
use Rattle.model_partition.specs.declared.range_entry.RangeEntry.{RangeEntry}
use Rattle.model_partition.specs.Map.{MapState, range_at, changed_if, is_merge_with, dropped_if, with_pending, halves, split_in, union_with, union_beside, joined, merge_in, union}
use Rattle.model_partition.specs.Partition.{one_if, uses_pending, uses, AreFresh, HasSplitKey, HaveSplitKeys}

-- ---- at most once

pub one_at_most : (b : Bool) → one_if b ≤ 1
one_at_most true = omega (arith)
one_at_most false = omega (arith)

pub used_once : (m : MapState) → AreFresh m → (n : ℕ) → uses n m.ranges ≤ 1
used_once m fresh n = omega (arith, fresh n, one_at_most (nat_lt n m.next))

pub one_here : (n m : ℕ) → (n == m) ≡ true → one_if (n == m) ≡ 1
one_here n m is = ap one_if is

-- ---- changes that begin nothing

-- a change that keeps the number and the keys of each range, and what is pending there or drops it
pub record BeginsNothing (change : RangeEntry → RangeEntry) : Type 0 where
  pub number : (r : RangeEntry) → (change r).range ≡ r.range
  pub keys : (r : RangeEntry) → (change r).keys ≡ r.keys
  pub pending : (r : RangeEntry) → ((change r).pending ≡ r.pending) ⊎ ((change r).pending ≡ None)

pub kept : (range : ℕ) (change : RangeEntry → RangeEntry) → BeginsNothing change → BeginsNothing (changed_if range change)
kept range change b = record {
  number = λ r. if_elim (λ (x : RangeEntry). x.range ≡ r.range) (r.range == range) (change r) r (λ t. b.number r) (λ f. refl);
  keys = λ r. if_elim (λ (x : RangeEntry). x.keys ≡ r.keys) (r.range == range) (change r) r (λ t. b.keys r) (λ f. refl);
  pending = λ r. if_elim (λ (x : RangeEntry). (x.pending ≡ r.pending) ⊎ (x.pending ≡ None)) (r.range == range) (change r) r (λ t. b.pending r) (λ f. inl refl);
}

pub dropped : (range : ℕ) → BeginsNothing (dropped_if range)
dropped range = record {
  number = λ r. if_elim (λ (x : RangeEntry). x.range ≡ r.range) (r.range == range || is_merge_with range r.pending) (record r { pending = None }) r (λ t. refl) (λ f. refl);
  keys = λ r. if_elim (λ (x : RangeEntry). x.keys ≡ r.keys) (r.range == range || is_merge_with range r.pending) (record r { pending = None }) r (λ t. refl) (λ f. refl);
  pending = λ r. if_elim (λ (x : RangeEntry). (x.pending ≡ r.pending) ⊎ (x.pending ≡ None)) (r.range == range || is_merge_with range r.pending) (record r { pending = None }) r (λ t. inr refl) (λ f. inl refl);
}

pending_fewer : (n : ℕ) (old new : Option Pending) → (new ≡ old) ⊎ (new ≡ None) → uses_pending n new ≤ uses_pending n old
pending_fewer n old new (inl is) = omega (arith, ap (uses_pending n) is)
pending_fewer n old new (inr none) = omega (arith, ap (uses_pending n) none)

pub fewer : (change : RangeEntry → RangeEntry) → BeginsNothing change → (n : ℕ) (rs : List RangeEntry) → uses n (map change rs) ≤ uses n rs
fewer change b n [] = omega (arith)
fewer change b n (r ∷ rs) = omega (
  arith,
  ap (λ (x : ℕ). one_if (x == n)) (b.number r),
  pending_fewer n r.pending (change r).pending (b.pending r),
  fewer change b n rs,
)

split_key_kept : (old new : KeyRange) (was is : Option Pending) → new ≡ old → (is ≡ was) ⊎ (is ≡ None) → HasSplitKey old was → HasSplitKey new is
split_key_kept old new was is keys (inl same) has = subst (λ (k : KeyRange). HasSplitKey k is) (sym keys) (subst (λ (p : Option Pending). HasSplitKey old p) (sym same) has)
split_key_kept old new was is keys (inr none) has = subst (λ (p : Option Pending). HasSplitKey new p) (sym none) tt

pub split_keys_kept : (change : RangeEntry → RangeEntry) → BeginsNothing change → (rs : List RangeEntry) → HaveSplitKeys rs → HaveSplitKeys (map change rs)
split_keys_kept change b [] have = tt
split_keys_kept change b (r ∷ rs) have = (
  split_key_kept r.keys (change r).keys r.pending (change r).pending (b.keys r) (b.pending r) have.0,
  split_keys_kept change b rs have.1,
)

-- the range of a number after a change of all
pub found_after : (change : RangeEntry → RangeEntry) → ((r : RangeEntry) → (change r).range ≡ r.range) → (range : ℕ) (rs : List RangeEntry) → range_at (map change rs) range ≡ option_map change (range_at rs range)
found_after change number range [] = refl
found_after change number range (r ∷ rs) =
    ap (λ (n : ℕ). if n == range then Some (change r) else range_at (map change rs) range) (number r)
    ∙ if_elim (λ (o : Option RangeEntry). (if r.range == range then Some (change r) else range_at (map change rs) range) ≡ option_map change o) (r.range == range) (Some r) (range_at rs range)
    (λ t. ap (λ (b : Bool). if b then Some (change r) else range_at (map change rs) range) t)
    (λ f. ap (λ (b : Bool). if b then Some (change r) else range_at (map change rs) range) f ∙ found_after change number range rs)

-- ---- what is begun at one range

-- none of them has the number
pub unchanged : (range : ℕ) (change : RangeEntry → RangeEntry) (rs : List RangeEntry) → uses range rs ≡ 0 → map (changed_if range change) rs ≡ rs
unchanged range change [] none = refl
unchanged range change (r ∷ rs) none =
    if_elim (λ (x : RangeEntry). x ∷ map (changed_if range change) rs ≡ r ∷ rs) (r.range == range) (change r) r
    (λ same. absurd (omega (arith, one_here r.range range same, none)))
    (λ other. ap (λ (l : List RangeEntry). r ∷ l) (unchanged range change rs (omega (arith, none))))

-- one range alone is the one that it is begun at
pub one_begins : (range : ℕ) (p : Pending) (n : ℕ) (rs : List RangeEntry) → uses range rs ≤ 1 → uses n (map (changed_if range (with_pending p)) rs) ≤ uses n rs + uses_pending n (Some p)
one_begins range p n [] once = omega (arith)
one_begins range p n (r ∷ rs) once =
    if_elim (λ (x : RangeEntry). one_if (x.range == n) + uses_pending n x.pending + uses n (map (changed_if range (with_pending p)) rs) ≤ uses n (r ∷ rs) + uses_pending n (Some p))
    (r.range == range) (with_pending p r) r
    (λ same. omega (arith, ap (uses n) (unchanged range (with_pending p) rs (omega (arith, one_here r.range range same, once)))))
    (λ other. omega (arith, one_begins range p n rs (omega (arith, once))))

pub one_has_key : (range : ℕ) (p : Pending) (rs : List RangeEntry) → uses range rs ≤ 1 → ((r : RangeEntry) → range_at rs range ≡ Some r → HasSplitKey r.keys (Some p)) → HaveSplitKeys rs →
    HaveSplitKeys (map (changed_if range (with_pending p)) rs)
one_has_key range p [] once splits have = tt
one_has_key range p (r ∷ rs) once splits have =
    if_elim (λ (x : RangeEntry). HaveSplitKeys (x ∷ map (changed_if range (with_pending p)) rs)) (r.range == range) (with_pending p r) r
    (λ same. (
      splits r (ap (λ (b : Bool). if b then Some r else range_at rs range) same),
      subst HaveSplitKeys (sym (unchanged range (with_pending p) rs (omega (arith, one_here r.range range same, once)))) have.1,
    ))
    (λ other. (
      have.0,
      one_has_key range p rs (omega (arith, once)) (λ x found. splits x (ap (λ (b : Bool). if b then Some r else range_at rs range) other ∙ found)) have.1,
    ))

-- ---- splits that are done

halves_fewer : (n : ℕ) (r : RangeEntry) (rs : List RangeEntry) (p : Option Pending) → r.pending ≡ p → uses n (halves r p ++ rs) ≤ uses n (r ∷ rs)
halves_fewer n r rs None is = omega (arith)
halves_fewer n r rs (Some (pendings.Split key low high)) is = omega (arith, ap (uses_pending n) is)
halves_fewer n r rs (Some (pendings.Merge right into)) is = omega (arith)

pub split_fewer : (n range : ℕ) (rs : List RangeEntry) → uses n (split_in rs range) ≤ uses n rs
split_fewer n range [] = omega (arith)
split_fewer n range (r ∷ rs) =
    if_elim (λ (l : List RangeEntry). uses n l ≤ uses n (r ∷ rs)) (r.range == range) (halves r r.pending ++ rs) (r ∷ split_in rs range)
    (λ same. halves_fewer n r rs r.pending refl)
    (λ other. omega (arith, split_fewer n range rs))

halves_have : (r : RangeEntry) (rs : List RangeEntry) (p : Option Pending) → r.pending ≡ p → HaveSplitKeys (r ∷ rs) → HaveSplitKeys (halves r p ++ rs)
halves_have r rs None is have = have
halves_have r rs (Some (pendings.Split key low high)) is have = (tt, (tt, have.1))
halves_have r rs (Some (pendings.Merge right into)) is have = have

pub split_have : (range : ℕ) (rs : List RangeEntry) → HaveSplitKeys rs → HaveSplitKeys (split_in rs range)
split_have range [] have = tt
split_have range (r ∷ rs) have =
    if_elim HaveSplitKeys (r.range == range) (halves r r.pending ++ rs) (r ∷ split_in rs range)
    (λ same. halves_have r rs r.pending refl have)
    (λ other. (have.0, split_have range rs have.1))

-- ---- merges that are done

-- the number of what two ranges become is one to come of the left one
union_used : (n right into : ℕ) (p : Option Pending) → union_with right p ≡ Some into → one_if (into == n) ≤ uses_pending n p
union_used n right into None is = absurd cc
union_used n right into (Some (pendings.Split key low high)) is = absurd cc
union_used n right into (Some (pendings.Merge other target)) is = go (other == right) is
  where
    go : (b : Bool) → (if b then Some target else None) ≡ Some into → one_if (into == n) ≤ one_if (target == n)
    go true some = let e : target ≡ into = cc in omega (arith, ap (λ (x : ℕ). one_if (x == n)) e)
    go false some = absurd cc

pub beside_used : (n right into : ℕ) (l : RangeEntry) (rs : List RangeEntry) → union_beside right l rs ≡ Some into → one_if (into == n) ≤ uses_pending n l.pending
beside_used n right into l [] is = absurd cc
beside_used n right into l (r ∷ rs) is = go (r.range == right) is
  where
    go : (b : Bool) → (if b then union_with right l.pending else None) ≡ Some into → one_if (into == n) ≤ uses_pending n l.pending
    go true some = union_used n right into l.pending some
    go false none = absurd cc

joined_fewer : (n right : ℕ) (l : RangeEntry) (rs : List RangeEntry) (o : Option ℕ) → union_beside right l rs ≡ o → uses n (joined l rs o) ≤ uses n (l ∷ rs)
joined_fewer n right l [] o is = omega (arith)
joined_fewer n right l (r ∷ rs) None is = omega (arith)
joined_fewer n right l (r ∷ rs) (Some into) is = omega (arith, beside_used n right into l (r ∷ rs) is)

pub merge_fewer : (n left right : ℕ) (rs : List RangeEntry) → uses n (merge_in rs left right) ≤ uses n rs
merge_fewer n left right [] = omega (arith)
merge_fewer n left right (l ∷ rs) =
    if_elim (λ (x : List RangeEntry). uses n x ≤ uses n (l ∷ rs)) (l.range == left) (joined l rs (union_beside right l rs)) (l ∷ merge_in rs left right)
    (λ same. joined_fewer n right l rs (union_beside right l rs) refl)
    (λ other. omega (arith, merge_fewer n left right rs))

joined_have : (l : RangeEntry) (rs : List RangeEntry) (o : Option ℕ) → HaveSplitKeys (l ∷ rs) → HaveSplitKeys (joined l rs o)
joined_have l [] o have = have
joined_have l (r ∷ rs) None have = have
joined_have l (r ∷ rs) (Some into) have = (tt, have.1.1)

pub merge_have : (left right : ℕ) (rs : List RangeEntry) → HaveSplitKeys rs → HaveSplitKeys (merge_in rs left right)
merge_have left right [] have = tt
merge_have left right (l ∷ rs) have =
    if_elim HaveSplitKeys (l.range == left) (joined l rs (union_beside right l rs)) (l ∷ merge_in rs left right)
    (λ same. joined_have l rs (union_beside right l rs) have)
    (λ other. (have.0, merge_have left right rs have.1))
