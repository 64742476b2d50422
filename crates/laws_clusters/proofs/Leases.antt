-- Leases that the map told servers of: whatever the map does next, the range's entry keeps to them. Its generation and its end are the
-- lease's or above; under the lease's generation the lease's server holds it; and another has it only once the lease has ended.
use Rattle.std.proofs.Common.{◌≡◌, ℕ, suc, ◌+◌, ◌≤◌, ◌<◌, max, Bool, true, false, ◌||◌, ◌==◌, nat_lt, List, [], ◌∷◌, ◌++◌, map, Option, Some, None, refl, sym, ap, ◌∙◌, subst, inl, inr, arith, if◌then◌else◌}
use Rattle.std.proofs.lemmas.Bool.{cases_eq, eqb-true}
use Rattle.std.proofs.lemmas.Bool.Decides.{nat_tests}
use Rattle.std.proofs.lemmas.Option.{same_Some}
use Rattle.metadata.specs.declared.record.KeyRange.{KeyRange}
use Rattle.model_streams.proofs.Tests.{if_elim}
use Rattle.model_partition.specs.declared.pending.Pending.{Pending}
use Rattle.model_partition.specs.declared.pending.Pending.TheVariants as pendings
use Rattle.model_partition.specs.declared.range_entry.RangeEntry.{RangeEntry}
use Rattle.model_partition.specs.Map.{MapState, range_at, changed_if, with_range, assigned, renewed, is_merge_with, dropped_if, drop_pending, with_pending, begin, assign, half, halves, split_in, complete_split, union_beside, joined, merge_in, complete_merge}
use Rattle.model_partition.specs.Partition.{one_if, uses_pending, uses, AreFresh}
use Rattle.model_partition.proofs.Numbers.{beside_used}
use Rattle.laws_streams.proofs.Choices.{Each, each-weaker}
use Rattle.laws_clusters.specs.Leases.{Lease, KeepsTo}

-- an entry keeps to it, and no range that is to come has the lease's range for its number
abbrev pub EntryKeeps : Lease → ℕ → RangeEntry → Type 0
EntryKeeps lease now r = (uses_pending lease.range r.pending ≡ 0) × (r.range ≡ lease.range → KeepsTo lease now r.generation r.until r.holder)

pub record MapKeeps (lease : Lease) (now : ℕ) (m : MapState) : Type 0 where
  pub numbered : lease.range < m.next
  pub entries : Each (EntryKeeps lease now) m.ranges

-- a server may have the entry from now on: no other holds it, or its lease has ended
abbrev pub MayTake : ℕ → ℕ → ℕ → Option ℕ → Type 0
MayTake now server until holder = (s : ℕ) → holder ≡ Some s → (s ≡ server → ⊥) → until ≤ now

-- ---- lists of entries

pub each_map : (P Q : RangeEntry → Type 0) (change : RangeEntry → RangeEntry) → ((r : RangeEntry) → P r → Q (change r)) → (rs : List RangeEntry) → Each P rs → Each Q (map change rs)
each_map P Q change f [] a = tt
each_map P Q change f (r ∷ rs) a = (f r a.0, each_map P Q change f rs a.1)

each_both : (P Q : RangeEntry → Type 0) (rs : List RangeEntry) → Each P rs → Each Q rs → Each (λ r. P r × Q r) rs
each_both P Q [] a b = tt
each_both P Q (r ∷ rs) a b = ((a.0, b.0), each_both P Q rs a.1 b.1)

-- ---- the entry of a number

-- no entry has the number, and none is to come
none_used : (n : ℕ) (rs : List RangeEntry) → uses n rs ≡ 0 → Each (λ (r : RangeEntry). (r.range ≡ n → ⊥) × (uses_pending n r.pending ≡ 0)) rs
none_used n [] none = tt
none_used n (r ∷ rs) none = ((apart (r.range == n) refl none, omega (arith, none)), none_used n rs (omega (arith, none)))
  where
    apart : (b : Bool) → (r.range == n) ≡ b → one_if b + uses_pending n r.pending + uses n rs ≡ 0 → r.range ≡ n → ⊥
    apart true e none same = absurd (omega (arith, none))
    apart false e none same = grind (arith, nat_tests)

-- a number that an entry has is used
found_used : (n : ℕ) (rs : List RangeEntry) (x : RangeEntry) → range_at rs n ≡ Some x → 1 ≤ uses n rs
found_used n [] x at = absurd cc
found_used n (r ∷ rs) x at = by (r.range == n) at (λ is. found_used n rs x is)
  where
    by : (b : Bool) → (if b then Some r else range_at rs n) ≡ Some x → (range_at rs n ≡ Some x → 1 ≤ uses n rs) → 1 ≤ one_if b + uses_pending n r.pending + uses n rs
    by true is more = omega arith
    by false is more = let l = more is in omega (arith, l)

-- what is so of each entry is so of the one of a number
pub entry_of : (P : RangeEntry → Type 0) (range : ℕ) (rs : List RangeEntry) (x : RangeEntry) → Each P rs → range_at rs range ≡ Some x → P x × (x.range ≡ range)
entry_of P range [] x each found = absurd cc
entry_of P range (r ∷ rs) x each found = go (r.range == range) refl found (entry_of P range rs x each.1)
  where
    go : (b : Bool) → (r.range == range) ≡ b → (if b then Some r else range_at rs range) ≡ Some x → (range_at rs range ≡ Some x → P x × (x.range ≡ range)) → P x × (x.range ≡ range)
    go true e is more = (let same : r ≡ x = cc in subst (λ (y : RangeEntry). P y × (y.range ≡ range)) same (each.0, eqb-true r.range range e))
    go false e is more = more is

-- where a number is used once, the entry that has it is the only one, and none of this number is to come
pub only_entry : (n : ℕ) (rs : List RangeEntry) (x : RangeEntry) → uses n rs ≤ 1 → range_at rs n ≡ Some x → Each (λ (r : RangeEntry). (r.range ≡ n → r ≡ x) × (uses_pending n r.pending ≡ 0)) rs
only_entry n [] x once found = absurd cc
only_entry n (r ∷ rs) x once found = go (r.range == n) refl once found (λ more is. only_entry n rs x more is)
  where
    go : (b : Bool) → (r.range == n) ≡ b → one_if b + uses_pending n r.pending + uses n rs ≤ 1 → (if b then Some r else range_at rs n) ≡ Some x →
        (uses n rs ≤ 1 → range_at rs n ≡ Some x → Each (λ (r : RangeEntry). (r.range ≡ n → r ≡ x) × (uses_pending n r.pending ≡ 0)) rs) →
        Each (λ (r : RangeEntry). (r.range ≡ n → r ≡ x) × (uses_pending n r.pending ≡ 0)) (r ∷ rs)
    go true e once is rest = (
      ((λ same. same_Some r x is), omega (arith, once)),
      each-weaker (λ (r : RangeEntry). (r.range ≡ n → ⊥) × (uses_pending n r.pending ≡ 0)) (λ (r : RangeEntry). (r.range ≡ n → r ≡ x) × (uses_pending n r.pending ≡ 0)) (λ r none. ((λ same. absurd (none.0 same)), none.1)) rs
          (none_used n rs (omega (arith, once))),
    )
    go false e once is rest =
        let more : uses n rs ≤ 1 = omega (arith, once) in
        let some : 1 ≤ uses n rs = found_used n rs x is in
        (((λ same. absurd (let f : (r.range == n) ≡ true = grind (arith, nat_tests) in let z : true ≡ false = sym f ∙ e in cc)), omega (arith, once, some)), rest more is)

-- a number that is used is below the next one
pub found_below : (m : MapState) (n : ℕ) (x : RangeEntry) → AreFresh m → range_at m.ranges n ≡ Some x → n < m.next
found_below m n x fresh found = go (nat_lt n m.next) refl (fresh n)
  where
    go : (b : Bool) → nat_lt n m.next ≡ b → uses n m.ranges ≤ one_if b → n < m.next
    go true e few = grind (arith, nat_tests)
    go false e few = absurd (let l = found_used n m.ranges x found in omega (arith, l, few))

-- ---- what is pending is dropped

module _ (lease : Lease) (now : ℕ) where
  drop_keeps : (range : ℕ) (r : RangeEntry) → EntryKeeps lease now r → EntryKeeps lease now (dropped_if range r)
  drop_keeps range r k = if_elim (EntryKeeps lease now) ((r.range == range) || is_merge_with range r.pending) (record r { pending = None }) r (λ t. (refl, k.1)) (λ f. k)

  pub drops : (m : MapState) (range : ℕ) → MapKeeps lease now m → MapKeeps lease now (drop_pending m range)
  drops m range k = record { numbered = k.numbered; entries = each_map (EntryKeeps lease now) (EntryKeeps lease now) (dropped_if range) (drop_keeps range) m.ranges k.entries }

  -- ---- leases

  max_above : (a b c : ℕ) → a ≤ b → a ≤ max b c
  max_above a b c l = grind arith

  assigned_keeps : (server until g u : ℕ) (h : Option ℕ) → MayTake now server u h → KeepsTo lease now g u h → KeepsTo lease now (suc g) (max u until) (Some server)
  assigned_keeps server until g u h may k = record {
    generation_above = let l = k.generation_above in omega (arith, l);
    until_above = max_above lease.until u until k.until_above;
    same = λ e. absurd (let l = k.generation_above in omega (arith, l, e));
    other = λ apart. by_holder h may k.other apart;
  }
    where
      by_holder : (h : Option ℕ) → MayTake now server u h → ((h ≡ Some lease.server → ⊥) → lease.until ≤ now) → (Some server ≡ Some lease.server → ⊥) → lease.until ≤ now
      by_holder None may other apart = other (λ e. cc)
      by_holder (Some s) may other apart = elim (cases_eq s lease.server) [
        | inl same ↦ (let l = may s refl (λ e. apart (ap Some (sym e ∙ same))) in let u = k.until_above in omega (arith, l, u))
        | inr differ ↦ other (λ e. differ (same_Some s lease.server e))
      ]

  -- an entry keeps to the lease, and where it has this number this server may have it from now on
  abbrev KeepsAndMay : ℕ → ℕ → RangeEntry → Type 0
  KeepsAndMay range server r = EntryKeeps lease now r × (r.range ≡ range → MayTake now server r.until r.holder)

  drop_both : (range server : ℕ) (r : RangeEntry) → KeepsAndMay range server r → KeepsAndMay range server (dropped_if range r)
  drop_both range server r k = if_elim (KeepsAndMay range server) ((r.range == range) || is_merge_with range r.pending) (record r { pending = None }) r (λ t. ((refl, k.0.1), k.1)) (λ f. k)

  take_keeps : (range server until : ℕ) (r : RangeEntry) → KeepsAndMay range server r → EntryKeeps lease now (changed_if range (assigned server until) r)
  take_keeps range server until r k =
      if_elim (EntryKeeps lease now) (r.range == range) (assigned server until r) r
      (λ t. (k.0.0, λ e. assigned_keeps server until r.generation r.until r.holder (k.1 (eqb-true r.range range t)) (k.0.1 e))) (λ f. k.0)

  pub assign_keeps : (m : MapState) (range server until : ℕ) → Each (λ (r : RangeEntry). r.range ≡ range → MayTake now server r.until r.holder) m.ranges → MapKeeps lease now m → MapKeeps lease now (assign m range server until)
  assign_keeps m range server until may k = record {
    numbered = k.numbered;
    entries =
        each_map (KeepsAndMay range server) (EntryKeeps lease now) (changed_if range (assigned server until)) (take_keeps range server until) (map (dropped_if range) m.ranges)
        (each_map (KeepsAndMay range server) (KeepsAndMay range server) (dropped_if range) (drop_both range server) m.ranges
        (each_both (EntryKeeps lease now) (λ (r : RangeEntry). r.range ≡ range → MayTake now server r.until r.holder) m.ranges k.entries may));
  }

  pub renew_keeps : (m : MapState) (range until : ℕ) → MapKeeps lease now m → MapKeeps lease now (with_range m range (renewed until))
  renew_keeps m range until k = record {
    numbered = k.numbered;
    entries = each_map (EntryKeeps lease now) (EntryKeeps lease now) (changed_if range (renewed until)) step m.ranges k.entries;
  }
    where
      longer : (r : RangeEntry) → KeepsTo lease now r.generation r.until r.holder → KeepsTo lease now r.generation (max r.until until) r.holder
      longer r k = record { generation_above = k.generation_above; until_above = max_above lease.until r.until until k.until_above; same = k.same; other = k.other }

      step : (r : RangeEntry) → EntryKeeps lease now r → EntryKeeps lease now (changed_if range (renewed until) r)
      step r k = if_elim (EntryKeeps lease now) (r.range == range) (renewed until r) r (λ t. (k.0, λ e. longer r (k.1 e))) (λ f. k)

  -- ---- splits and merges

  -- what is pending from now on has other numbers
  pub begin_keeps : (m : MapState) (range count : ℕ) (pending : Pending) → uses_pending lease.range (Some pending) ≡ 0 → MapKeeps lease now m → MapKeeps lease now (begin m range count pending)
  begin_keeps m range count pending none k = record {
    numbered = let l = k.numbered in omega (arith, l);
    entries = each_map (EntryKeeps lease now) (EntryKeeps lease now) (changed_if range (with_pending pending)) step (map (dropped_if range) m.ranges) (drops m range k).entries;
  }
    where
      step : (r : RangeEntry) → EntryKeeps lease now r → EntryKeeps lease now (changed_if range (with_pending pending) r)
      step r k = if_elim (EntryKeeps lease now) (r.range == range) (with_pending pending r) r (λ t. (none, k.1)) (λ f. k)

  not_used : (number : ℕ) → one_if (number == lease.range) ≡ 0 → number ≡ lease.range → ⊥
  not_used number none same = go (number == lease.range) refl none
    where
      go : (b : Bool) → (number == lease.range) ≡ b → one_if b ≡ 0 → ⊥
      go true e none = absurd (omega (arith, none))
      go false e none = grind (arith, nat_tests)

  split_in_keeps : (range : ℕ) (rs : List RangeEntry) → Each (EntryKeeps lease now) rs → Each (EntryKeeps lease now) (split_in rs range)
  split_in_keeps range [] k = tt
  split_in_keeps range (r ∷ rs) k =
      if_elim (Each (EntryKeeps lease now)) (r.range == range) (halves r r.pending ++ rs) (r ∷ split_in rs range)
      (λ t. by_pending r.pending k.0.0) (λ f. (k.0, split_in_keeps range rs k.1))
    where
      half_keeps : (number : ℕ) (keys : KeyRange) → one_if (number == lease.range) ≡ 0 → EntryKeeps lease now (half r number keys)
      half_keeps number keys none = (refl, λ e. absurd (not_used number none e))

      by_pending : (p : Option Pending) → uses_pending lease.range p ≡ 0 → Each (EntryKeeps lease now) (halves r p ++ rs)
      by_pending None none = k
      by_pending (Some (pendings.Merge right into)) none = k
      by_pending (Some (pendings.Split key low high)) none = (half_keeps low (record { low = r.keys.low; high = Some key }) (omega (arith, none)), (half_keeps high (record { low = key; high = r.keys.high }) (omega (arith, none)), k.1))

  pub complete_split_keeps : (m : MapState) (range : ℕ) → MapKeeps lease now m → MapKeeps lease now (complete_split m range)
  complete_split_keeps m range k = record { numbered = k.numbered; entries = split_in_keeps range m.ranges k.entries }

  merge_in_keeps : (left right : ℕ) (rs : List RangeEntry) → Each (EntryKeeps lease now) rs → Each (EntryKeeps lease now) (merge_in rs left right)
  merge_in_keeps left right [] k = tt
  merge_in_keeps left right (l ∷ rs) k =
      if_elim (Each (EntryKeeps lease now)) (l.range == left) (joined l rs (union_beside right l rs)) (l ∷ merge_in rs left right)
      (λ t. by_union rs k.1 (union_beside right l rs) refl) (λ f. (k.0, merge_in_keeps left right rs k.1))
    where
      by_union : (rs : List RangeEntry) → Each (EntryKeeps lease now) rs → (o : Option ℕ) → union_beside right l rs ≡ o → Each (EntryKeeps lease now) (joined l rs o)
      by_union [] more o is = (k.0, tt)
      by_union (r ∷ rs) more None is = (k.0, more)
      by_union (r ∷ rs) more (Some into) is =
          let used = beside_used lease.range right into l (r ∷ rs) is in
          let none = k.0.0 in
          ((refl, λ e. absurd (not_used into (omega (arith, used, none)) e)), more.1)

  pub complete_merge_keeps : (m : MapState) (left right : ℕ) → MapKeeps lease now m → MapKeeps lease now (complete_merge m left right)
  complete_merge_keeps m left right k = record { numbered = k.numbered; entries = merge_in_keeps left right m.ranges k.entries }
