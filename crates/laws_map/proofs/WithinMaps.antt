-- Whatever the map does, generations that were within it stay so, and it tells of no others.
use Rattle.std.proofs.Common.{◌≡◌, ◌⊎◌, ℕ, suc, ◌+◌, ◌≤◌, ◌<◌, ◌^◌, max, Bool, true, false, not, ◌||◌, ◌==◌, nat_lt, List, [], ◌∷◌, ◌++◌, map, Option, Some, None, refl, sym, ap, subst, inl, inr, arith, if◌then◌else◌}
use Rattle.std.proofs.lemmas.Bool.{eqb-true, eqb-false}
use Rattle.std.proofs.lemmas.Bool.Decides.{nat_tests}
use Rattle.std.proofs.lemmas.Option.{same_Some}
use Rattle.metadata.specs.declared.record.KeyRange.{KeyRange}
use Rattle.wire.specs.declared.actor.ActorId.{ActorId}
use Rattle.wire.specs.declared.actor.ReqNo.{ReqNo}
use Rattle.wire.specs.declared.body.Body.{Body}
use Rattle.wire.specs.declared.body.Body.TheVariants as bodies
use Rattle.wire.specs.declared.body.MapBody.{MapBody}
use Rattle.wire.specs.declared.body.MapBody.TheVariants as maps
use Rattle.wire.specs.declared.packet.Packet.{Packet}
use Rattle.wire.specs.declared.refusal.Refusal.{Refusal}
use Rattle.wire.specs.declared.refusal.Refusal.TheVariants.{BadSplitKey, GenerationChanged}
use Rattle.model_streams.specs.Outcome.{Outcome, silent}
use Rattle.model_streams.specs.StreamSystem.{is_request}
use Rattle.model_streams.proofs.Tests.{if_elim, none_met}
use Rattle.model_partition.specs.declared.pending.Pending.{Pending}
use Rattle.model_partition.specs.declared.pending.Pending.TheVariants as pendings
use Rattle.model_partition.specs.declared.range_entry.RangeEntry.{RangeEntry}
use Rattle.model_partition.specs.Map.{MapState, range_at, range_of_key, changed_if, with_range, assigned, renewed, is_merge_with, dropped_if, drop_pending, with_pending, begin, assign, is_split_key, halves_at, begin_split, half, halves, split_in, complete_split, union_with, union_beside, union_at, begin_merge, joined, merge_in, complete_merge}
use Rattle.model_partition.specs.MapRules.{assign_rule, renew_rule, has_numbers, begin_split_fault, begin_split_taken, begin_split_rule, complete_split_fault, complete_split_taken, complete_split_rule, begin_merge_fault, begin_merge_taken, begin_merge_rule, complete_merge_fault, complete_merge_rule, route_rule, called, told, map_rule}
use Rattle.model_partition.specs.Partition.{one_if, uses_pending, uses, IsSound}
use Rattle.model_partition.proofs.Numbers.{beside_used, used_once}
use Rattle.laws_map.specs.Naming.{Each, Knowledge, BodyNames, PacketNames}
use Rattle.laws_map.specs.Generations.{EntryKnows, IsWithin, HasAsked, within}
use Rattle.laws_map.proofs.Knowing.{each_weaker, Extends}
use Rattle.laws_map.proofs.EventNames.{RuleNames}
use Rattle.laws_map.proofs.GivenNumbers.{entry_uses, entry_number, found_given, key_given, pair_given, into_given, halves_pending, union_pending}

-- ---- lists of entries

pub each_map : {A : Type 0} (P Q : A → Type 0) (change : A → A) → ((r : A) → P r → Q (change r)) → (rs : List A) → Each P rs → Each Q (map change rs)
each_map P Q change f [] a = tt
each_map P Q change f (r ∷ rs) a = (f r a.0, each_map P Q change f rs a.1)

pub each_and : {A : Type 0} (P Q : A → Type 0) (rs : List A) → Each P rs → Each Q rs → Each (λ r. P r × Q r) rs
each_and P Q [] a b = tt
each_and P Q (r ∷ rs) a b = ((a.0, b.0), each_and P Q rs a.1 b.1)

-- no entry has the number, and none is to come
abbrev pub HasNot : ℕ → RangeEntry → Type 0
HasNot n r = (r.range ≡ n → ⊥) × (uses_pending n r.pending ≡ 0)

pub none_used : (n : ℕ) (rs : List RangeEntry) → uses n rs ≡ 0 → Each (HasNot n) rs
none_used n [] none = tt
none_used n (r ∷ rs) none = ((apart (r.range == n) refl none, omega (arith, none)), none_used n rs (omega (arith, none)))
  where
    apart : (b : Bool) → (r.range == n) ≡ b → one_if b + uses_pending n r.pending + uses n rs ≡ 0 → r.range ≡ n → ⊥
    apart true e none same = absurd (omega (arith, none))
    apart false e none same = grind (arith, nat_tests)

is_here : (r : RangeEntry) (n : ℕ) → r.range ≡ n → one_if (r.range == n) ≡ 1
is_here r n same = go (r.range == n) refl
  where
    go : (b : Bool) → (r.range == n) ≡ b → one_if b ≡ 1
    go true e = refl
    go false e = absurd (grind (arith, nat_tests))

-- Where a number is used once, and the entry found under another uses it, no other does.
pub only_user : (n range : ℕ) (rs : List RangeEntry) (x : RangeEntry) → uses n rs ≤ 1 → range_at rs range ≡ Some x → 1 ≤ one_if (x.range == n) + uses_pending n x.pending → Each (λ (r : RangeEntry). (r ≡ x) ⊎ HasNot n r) rs
only_user n range [] x once found used = absurd cc
only_user n range (r ∷ rs) x once found used = go (r.range == range) refl once found (λ less more. only_user n range rs x less more used)
  where
    go : (b : Bool) → (r.range == range) ≡ b → one_if (r.range == n) + uses_pending n r.pending + uses n rs ≤ 1 → (if b then Some r else range_at rs range) ≡ Some x →
        (uses n rs ≤ 1 → range_at rs range ≡ Some x → Each (λ (r : RangeEntry). (r ≡ x) ⊎ HasNot n r) rs) → Each (λ (r : RangeEntry). (r ≡ x) ⊎ HasNot n r) (r ∷ rs)
    go true e once is rest =
        let same : r ≡ x = same_Some r x is in
        let here : 1 ≤ one_if (r.range == n) + uses_pending n r.pending = subst (λ (y : RangeEntry). 1 ≤ one_if (y.range == n) + uses_pending n y.pending) (sym same) used in
        (inl same, each_weaker (HasNot n) (λ (r : RangeEntry). (r ≡ x) ⊎ HasNot n r) (λ r h. inr h) rs (none_used n rs (omega (arith, once, here))))
    go false e once is rest =
        let there = entry_uses n range rs x is in
        (inr (apart (r.range == n) refl, omega (arith, once, there, used)), rest (omega (arith, once)) is)
      where
        apart : (b : Bool) → (r.range == n) ≡ b → r.range ≡ n → ⊥
        apart true f same = let one = is_here r n same in let there = entry_uses n range rs x is in absurd (omega (arith, once, one, there, used))
        apart false f same = grind (arith, nat_tests)

-- ---- what was within stays so

module _ (n g : ℕ) where
  abbrev Knows : RangeEntry → Type 0
  Knows r = EntryKnows n g r

  drop_knows : (range : ℕ) (r : RangeEntry) → Knows r → Knows (dropped_if range r)
  drop_knows range r k = if_elim Knows ((r.range == range) || is_merge_with range r.pending) (record r { pending = None }) r (λ t. (k.0, inl refl)) (λ f. k)

  pub drops_within : (m : MapState) (range : ℕ) → IsWithin m n g → IsWithin (drop_pending m range) n g
  drops_within m range k = record { given = k.given; entries = each_map Knows Knows (dropped_if range) (drop_knows range) m.ranges k.entries }

  higher : (r : RangeEntry) → Knows r → (uses_pending n r.pending ≡ 0) ⊎ (g ≤ suc r.generation)
  higher r k = elim k.1 [ inl none ↦ inl none | inr l ↦ inr (omega (arith, l)) ]

  pub assign_within : (m : MapState) (range server until : ℕ) → IsWithin m n g → IsWithin (assign m range server until) n g
  assign_within m range server until k = record {
    given = k.given;
    entries = each_map Knows Knows (changed_if range (assigned server until)) step (map (dropped_if range) m.ranges) (drops_within m range k).entries;
  }
    where
      step : (r : RangeEntry) → Knows r → Knows (changed_if range (assigned server until) r)
      step r k = if_elim Knows (r.range == range) (assigned server until r) r (λ t. ((λ e. let l = k.0 e in omega (arith, l)), higher r k)) (λ f. k)

  pub renew_within : (m : MapState) (range until : ℕ) → IsWithin m n g → IsWithin (with_range m range (renewed until)) n g
  renew_within m range until k = record { given = k.given; entries = each_map Knows Knows (changed_if range (renewed until)) step m.ranges k.entries }
    where
      step : (r : RangeEntry) → Knows r → Knows (changed_if range (renewed until) r)
      step r k = if_elim Knows (r.range == range) (renewed until r) r (λ t. k) (λ f. k)

  pub begin_within : (m : MapState) (range count : ℕ) (pending : Pending) → uses_pending n (Some pending) ≡ 0 → IsWithin m n g → IsWithin (begin m range count pending) n g
  begin_within m range count pending none k = record {
    given = let l = k.given in omega (arith, l);
    entries = each_map Knows Knows (changed_if range (with_pending pending)) step (map (dropped_if range) m.ranges) (drops_within m range k).entries;
  }
    where
      step : (r : RangeEntry) → Knows r → Knows (changed_if range (with_pending pending) r)
      step r k = if_elim Knows (r.range == range) (with_pending pending r) r (λ t. (k.0, inl none)) (λ f. k)

  not_used : (number : ℕ) → one_if (number == n) ≡ 0 → number ≡ n → ⊥
  not_used number none same = go (number == n) refl none
    where
      go : (b : Bool) → (number == n) ≡ b → one_if b ≡ 0 → ⊥
      go true e none = absurd (omega (arith, none))
      go false e none = grind (arith, nat_tests)

  split_in_within : (range : ℕ) (rs : List RangeEntry) → Each Knows rs → Each Knows (split_in rs range)
  split_in_within range [] k = tt
  split_in_within range (r ∷ rs) k = if_elim (Each Knows) (r.range == range) (halves r r.pending ++ rs) (r ∷ split_in rs range) (λ t. by_pending r.pending k.0.1) (λ f. (k.0, split_in_within range rs k.1))
    where
      half_knows : (number : ℕ) (keys : KeyRange) → (one_if (number == n) ≡ 0) ⊎ (g ≤ r.generation) → Knows (half r number keys)
      half_knows number keys h = ((λ e. elim h [ inl none ↦ absurd (not_used number none e) | inr l ↦ l ]), inl refl)

      by_pending : (p : Option Pending) → (uses_pending n p ≡ 0) ⊎ (g ≤ r.generation) → Each Knows (halves r p ++ rs)
      by_pending None h = k
      by_pending (Some (pendings.Merge right into)) h = k
      by_pending (Some (pendings.Split key low high)) h = (
        half_knows low (record { low = r.keys.low; high = Some key }) (elim h [ inl none ↦ inl (omega (arith, none)) | inr l ↦ inr l ]),
        (half_knows high (record { low = key; high = r.keys.high }) (elim h [ inl none ↦ inl (omega (arith, none)) | inr l ↦ inr l ]), k.1),
      )

  pub complete_split_within : (m : MapState) (range : ℕ) → IsWithin m n g → IsWithin (complete_split m range) n g
  complete_split_within m range k = record { given = k.given; entries = split_in_within range m.ranges k.entries }

  merge_in_within : (left right : ℕ) (rs : List RangeEntry) → Each Knows rs → Each Knows (merge_in rs left right)
  merge_in_within left right [] k = tt
  merge_in_within left right (l ∷ rs) k =
      if_elim (Each Knows) (l.range == left) (joined l rs (union_beside right l rs)) (l ∷ merge_in rs left right)
      (λ t. by_union rs k.1 (union_beside right l rs) refl) (λ f. (k.0, merge_in_within left right rs k.1))
    where
      by_union : (rs : List RangeEntry) → Each Knows rs → (o : Option ℕ) → union_beside right l rs ≡ o → Each Knows (joined l rs o)
      by_union [] more o is = (k.0, tt)
      by_union (r ∷ rs) more None is = (k.0, more)
      by_union (r ∷ rs) more (Some into) is =
          let used = beside_used n right into l (r ∷ rs) is in
          (((λ e. elim k.0.1 [ inl none ↦ absurd (not_used into (omega (arith, used, none)) e) | inr less ↦ greater less ]), inl refl), more.1)
        where
          greater : g ≤ l.generation → g ≤ max l.generation r.generation
          greater less = grind arith

  pub complete_merge_within : (m : MapState) (left right : ℕ) → IsWithin m n g → IsWithin (complete_merge m left right) n g
  complete_merge_within m left right k = record { given = k.given; entries = merge_in_within left right m.ranges k.entries }

  -- numbers that are given now are not those that were named
  pub not_next : (m : MapState) (number : ℕ) → m.next ≤ number → IsWithin m n g → one_if (number == n) ≡ 0
  not_next m number above k = go (number == n) refl
    where
      go : (b : Bool) → (number == n) ≡ b → one_if b ≡ 0
      go true e = absurd (let same = eqb-true number n e in let below = k.given in omega (arith, same, below, above))
      go false e = refl

-- ---- what rules tell

module _ (m : MapState) (s : IsSound m) where
  -- the entry of a number is the only one that has it
  pub entry_only : (range : ℕ) (x : RangeEntry) → range_at m.ranges range ≡ Some x → Each (λ (r : RangeEntry). (r ≡ x) ⊎ HasNot range r) m.ranges
  entry_only range x at = only_user range range m.ranges x (used_once m s.fresh range) at (let one = is_here x range (entry_number range m.ranges x at) in omega (arith, one))

  -- where it has the number nothing of this number is pending
  pub itself : (range : ℕ) (x : RangeEntry) → range_at m.ranges range ≡ Some x → uses_pending range x.pending ≡ 0
  itself range x at =
      let one = is_here x range (entry_number range m.ranges x at) in
      let l = entry_uses range range m.ranges x at in
      let once = used_once m s.fresh range in
      omega (arith, one, l, once)

  pub renewed_within : (range until : ℕ) (x : RangeEntry) → range_at m.ranges range ≡ Some x → IsWithin m range x.generation
  renewed_within range until x at = record {
    given = found_given m s range x at;
    entries = each_weaker (λ (r : RangeEntry). (r ≡ x) ⊎ HasNot range r) (EntryKnows range x.generation) step m.ranges (entry_only range x at);
  }
    where
      step : (r : RangeEntry) → (r ≡ x) ⊎ HasNot range r → EntryKnows range x.generation r
      step r (inl same) = subst (EntryKnows range x.generation) (sym same) ((λ e. omega arith), inl (itself range x at))
      step r (inr none) = ((λ e. absurd (none.0 e)), inl none.1)

  -- the entry that is assigned has its new generation
  pub assigned_within : (range server until : ℕ) (x : RangeEntry) → range_at m.ranges range ≡ Some x → IsWithin (assign m range server until) range (suc x.generation)
  assigned_within range server until x at = record {
    given = found_given m s range x at;
    entries =
        each_map IsAsX (EntryKnows range (suc x.generation)) (changed_if range (assigned server until)) assigns (map (dropped_if range) m.ranges)
        (each_map (λ (r : RangeEntry). (r ≡ x) ⊎ HasNot range r) IsAsX (dropped_if range) drops m.ranges (entry_only range x at));
  }
    where
      IsAsX : RangeEntry → Type 0
      IsAsX r = (uses_pending range r.pending ≡ 0) × (r.range ≡ range → r.generation ≡ x.generation)

      drops : (r : RangeEntry) → (r ≡ x) ⊎ HasNot range r → IsAsX (dropped_if range r)
      drops r (inl same) =
          if_elim IsAsX ((r.range == range) || is_merge_with range r.pending) (record r { pending = None }) r
          (λ t. (refl, λ e. ap (λ (y : RangeEntry). y.generation) same)) (λ f. (subst (λ (y : RangeEntry). uses_pending range y.pending ≡ 0) (sym same) (itself range x at), λ e. ap (λ (y : RangeEntry). y.generation) same))
      drops r (inr none) =
          if_elim IsAsX ((r.range == range) || is_merge_with range r.pending) (record r { pending = None }) r
          (λ t. (refl, λ e. absurd (none.0 e))) (λ f. (none.1, λ e. absurd (none.0 e)))

      assigns : (r : RangeEntry) → IsAsX r → EntryKnows range (suc x.generation) (changed_if range (assigned server until) r)
      assigns r h =
          if_elim (EntryKnows range (suc x.generation)) (r.range == range) (assigned server until r) r
          (λ t. ((λ e. let g = h.1 e in omega (arith, g)), inl h.0)) (λ f. ((λ e. absurd (eqb-false r.range range f e)), inl h.0))

  -- a number that is pending is so at one entry alone
  pub pending_within : (n range g : ℕ) (x : RangeEntry) → range_at m.ranges range ≡ Some x → 1 ≤ uses_pending n x.pending → n < m.next → g ≤ x.generation → IsWithin m n g
  pending_within n range g x at used given less = record {
    given = given;
    entries = each_weaker (λ (r : RangeEntry). (r ≡ x) ⊎ HasNot n r) (EntryKnows n g) step m.ranges (only_user n range m.ranges x (used_once m s.fresh n) at (omega (arith, used)));
  }
    where
      step : (r : RangeEntry) → (r ≡ x) ⊎ HasNot n r → EntryKnows n g r
      step r (inl same) = subst (EntryKnows n g) (sym same) ((λ e. less), inr less)
      step r (inr none) = ((λ e. absurd (none.0 e)), inl none.1)

  -- so is one that is given now
  pub begun_within : (n range count g : ℕ) (pending : Pending) (x : RangeEntry) → range_at m.ranges range ≡ Some x → m.next ≤ n → n < m.next + count → g ≤ x.generation → IsWithin (begin m range count pending) n g
  begun_within n range count g pending x at above given less = record {
    given = given;
    entries =
        each_map IsFree (EntryKnows n g) (changed_if range (with_pending pending)) begins (map (dropped_if range) m.ranges)
        (each_map (λ (r : RangeEntry). HasNot n r × ((r ≡ x) ⊎ HasNot range r)) IsFree (dropped_if range) drops m.ranges
        (each_and (HasNot n) (λ (r : RangeEntry). (r ≡ x) ⊎ HasNot range r) m.ranges (none_used n m.ranges (unused (nat_lt n m.next) refl (s.fresh n))) (entry_only range x at)));
  }
    where
      unused : (b : Bool) → nat_lt n m.next ≡ b → uses n m.ranges ≤ one_if b → uses n m.ranges ≡ 0
      unused true e few = absurd (let l : n < m.next = grind (arith, nat_tests) in omega (arith, l, above))
      unused false e few = omega (arith, few)

      IsFree : RangeEntry → Type 0
      IsFree r = HasNot n r × (r.range ≡ range → g ≤ r.generation)

      as_x : (r : RangeEntry) → (r ≡ x) ⊎ HasNot range r → r.range ≡ range → g ≤ r.generation
      as_x r (inl same) e = subst (λ (y : RangeEntry). g ≤ y.generation) (sym same) less
      as_x r (inr none) e = absurd (none.0 e)

      drops : (r : RangeEntry) → HasNot n r × ((r ≡ x) ⊎ HasNot range r) → IsFree (dropped_if range r)
      drops r h =
          if_elim IsFree ((r.range == range) || is_merge_with range r.pending) (record r { pending = None }) r
          (λ t. ((h.0.0, refl), as_x r h.1)) (λ f. (h.0, as_x r h.1))

      begins : (r : RangeEntry) → IsFree r → EntryKnows n g (changed_if range (with_pending pending) r)
      begins r h =
          if_elim (EntryKnows n g) (r.range == range) (with_pending pending r) r
          (λ t. ((λ e. absurd (h.0.0 e)), inr (h.1 (eqb-true r.range range t)))) (λ f. ((λ e. absurd (h.0.0 e)), inl h.0.1))

-- ---- the rules of the map

module _ (post : List Packet) (m : MapState) (s : IsSound m) where
  abbrev K : MapState → Knowledge
  K map = within map post

  abbrev Told : Outcome MapState → Type 0
  Told o = RuleNames K m o

  -- a map within which all stays that was
  extends : (a : MapState) → m.next ≤ a.next → ((n g : ℕ) → IsWithin m n g → IsWithin a n g) → Extends (K m) (K a)
  extends a less on = record {
    knows = on;
    assigned = on;
    asked = λ q range generation key k. k;
    begun = λ q low high k. record { range = k.range; generation = k.generation; key = k.key; asked = k.asked; low_known = on low k.generation k.low_known; high_known = on high k.generation k.high_known };
    splits = λ range generation key low high k. (on low generation k.0, on high generation k.1);
    numbers = λ range k. omega (arith, k, less);
    merges = on;
  }

  same_map : Extends (K m) (K m)
  same_map = extends m (omega arith) (λ n g k. k)

  silent_told : Told (silent m)
  silent_told = record { extends = same_map; packets = tt }

  called_told : (p : Packet) (q : ReqNo) (fault : Option Refusal) (o : Outcome MapState) → (fault ≡ None → Told o) → Told (called m p q fault o)
  called_told p q (Some refusal) o taken = record { extends = same_map; packets = (tt, tt) }
  called_told p q None o taken = taken refl

  pub assign_told : (range server until : ℕ) (o : Option RangeEntry) → range_at m.ranges range ≡ o → Told (assign_rule m range server until o)
  assign_told range server until None at = silent_told
  assign_told range server until (Some x) at =
      if_elim Told (nat_lt (suc x.generation) (2 ^ 64)) _ _
      (λ t. record {
        extends = extends (assign m range server until) (omega arith) (λ n g k. assign_within n g m range server until k);
        packets = (assigned_within m s range server until x at, tt);
      })
      (λ f. silent_told)

  pub renew_told : (range server until : ℕ) (o : Option RangeEntry) → range_at m.ranges range ≡ o → Told (renew_rule m range server until o)
  renew_told range server until None at = silent_told
  renew_told range server until (Some x) at = record {
    extends = extends (with_range m range (renewed until)) (omega arith) (λ n g k. renew_within n g m range until k);
    packets = (renew_within range x.generation m range until (renewed_within m s range until x at), tt);
  }

  route_told : (p : Packet) (q : ReqNo) (key : List ℕ) (o : Option RangeEntry) → range_of_key m.ranges key ≡ o → Told (route_rule m p q o)
  route_told p q key None at = silent_told
  route_told p q key (Some r) at = record { extends = same_map; packets = (key_given m s key r at, tt) }

  begin_split_told : (to : ActorId) (q : ReqNo) (range generation : ℕ) (key : List ℕ) (x : RangeEntry) → range_at m.ranges range ≡ Some x → generation ≤ x.generation → HasAsked post q range generation key →
      (pair : Option (ℕ × ℕ)) → halves_at key x.pending ≡ pair → Told (begin_split_taken m to q range key pair)
  begin_split_told to q range generation key x at less asked (Some pair) is =
      let (at_key, pending, same) = halves_pending m s key x.pending pair is in
      let given = pair_given m s at_key range pair.0 pair.1 x at pending in
      record {
        extends = same_map;
        packets = (
          record {
            range = range;
            generation = generation;
            key = key;
            asked = asked;
            low_known =
                pending_within m s pair.0 range generation x at (subst (λ p. 1 ≤ uses_pending pair.0 p) (sym pending) (low_used at_key pair.0 pair.1)) given.0 less;
            high_known =
                pending_within m s pair.1 range generation x at (subst (λ p. 1 ≤ uses_pending pair.1 p) (sym pending) (high_used at_key pair.0 pair.1)) given.1 less;
          },
          tt,
        );
      }
    where
      one : (n : ℕ) → one_if (n == n) ≡ 1
      one n = go (n == n) refl
        where
          go : (b : Bool) → (n == n) ≡ b → one_if b ≡ 1
          go true e = refl
          go false e = absurd (grind (arith, nat_tests))

      low_used : (at : List ℕ) (low high : ℕ) → 1 ≤ uses_pending low (Some (pendings.Split at low high))
      low_used at low high = let o = one low in omega (arith, o)

      high_used : (at : List ℕ) (low high : ℕ) → 1 ≤ uses_pending high (Some (pendings.Split at low high))
      high_used at low high = let o = one high in omega (arith, o)
  begin_split_told to q range generation key x at less asked None is =
      if_elim Told (has_numbers m 2) _ _
      (λ t. record {
        extends = extends (begin_split m range key) (omega arith) (λ n g k. begin_within n g m range 2 (pendings.Split key m.next (m.next + 1)) (unused n g k) k);
        packets = (
          record {
            range = range;
            generation = generation;
            key = key;
            asked = asked;
            low_known =
                begun_within m s m.next range 2 generation (pendings.Split key m.next (m.next + 1)) x at (omega arith) (omega arith) less;
            high_known =
                begun_within m s (m.next + 1) range 2 generation (pendings.Split key m.next (m.next + 1)) x at (omega arith) (omega arith) less;
          },
          tt,
        );
      })
      (λ f. silent_told)
    where
      unused : (n g : ℕ) → IsWithin m n g → one_if (m.next == n) + one_if (m.next + 1 == n) ≡ 0
      unused n g k =
          let a = not_next n g m m.next (omega arith) k in
          let b = not_next n g m (m.next + 1) (omega arith) k in
          omega (arith, a, b)

  not_false : (b : Bool) → not b ≡ false → b ≡ true
  not_false true e = refl
  not_false false e = absurd cc

  begin_split_rule_told : (to : ActorId) (q : ReqNo) (range generation : ℕ) (key : List ℕ) → HasAsked post q range generation key → (o : Option RangeEntry) → range_at m.ranges range ≡ o → begin_split_fault generation key o ≡ None →
      Told (begin_split_rule m to q range key o)
  begin_split_rule_told to q range generation key asked None at free = silent_told
  begin_split_rule_told to q range generation key asked (Some x) at free =
      let same : x.generation ≡ generation =
      eqb-true x.generation generation (not_false (x.generation == generation) (none_met ((GenerationChanged, not (x.generation == generation)) ∷ (BadSplitKey, not (is_split_key x.keys key)) ∷ []) free).0) in
      begin_split_told to q range generation key x at (omega (arith, same)) asked (halves_at key x.pending) refl

  complete_split_told : (to : ActorId) (q : ReqNo) (range : ℕ) (o : Option RangeEntry) → Told (complete_split_rule m to q range o)
  complete_split_told to q range None = silent_told
  complete_split_told to q range (Some r) = by_pending r.pending
    where
      by_pending : (p : Option Pending) → Told (complete_split_taken m to q range p)
      by_pending None = silent_told
      by_pending (Some (pendings.Merge right into)) = silent_told
      by_pending (Some (pendings.Split key low high)) = record { extends = extends (complete_split m range) (omega arith) (λ n g k. complete_split_within n g m range k); packets = (tt, tt) }

  begin_merge_told : (to : ActorId) (q : ReqNo) (left right : ℕ) (l : RangeEntry) → range_at m.ranges left ≡ Some l → (into : Option ℕ) → union_with right l.pending ≡ into → Told (begin_merge_taken m to q left right into)
  begin_merge_told to q left right l at (Some into) is = record { extends = same_map; packets = (into_given m s right into left l at (union_pending m s right l.pending into is), tt) }
  begin_merge_told to q left right l at None is =
      if_elim Told (has_numbers m 1) _ _
      (λ t. record {
        extends = extends (begin_merge m left right) (omega arith)
            (λ n g k. begin_within n g (drop_pending m right) left 1 (pendings.Merge right m.next) (not_next n g m m.next (omega arith) k) (drops_within n g m right k));
        packets = (omega arith, tt);
      })
      (λ f. silent_told)

  begin_merge_rule_told : (to : ActorId) (q : ReqNo) (left right : ℕ) (l : Option RangeEntry) → range_at m.ranges left ≡ l → Told (begin_merge_rule m to q left right l)
  begin_merge_rule_told to q left right None at = silent_told
  begin_merge_rule_told to q left right (Some l) at = begin_merge_told to q left right l at (union_with right l.pending) refl

  complete_merge_told : (to : ActorId) (q : ReqNo) (left right : ℕ) (into : Option ℕ) → Told (complete_merge_rule m to q left right into)
  complete_merge_told to q left right None = silent_told
  complete_merge_told to q left right (Some into) = record { extends = extends (complete_merge m left right) (omega arith) (λ n g k. complete_merge_within n g m left right k); packets = (tt, tt) }

  -- what a packet asks that names what is known; a user asks no more than where a key is
  abbrev IsAsking : MapBody → Type 0
  IsAsking (maps.BeginSplit range generation key q) = HasAsked post q range generation key
  IsAsking body = Unit {0}

  told_told : (p : Packet) (body : MapBody) → IsAsking body → Told (told m p body)
  told_told p (maps.Route key q) a = route_told p q key (range_of_key m.ranges key) refl
  told_told p (maps.BeginSplit range generation key q) a =
      called_told p q (begin_split_fault generation key (range_at m.ranges range)) _ (λ free. begin_split_rule_told p.from q range generation key a (range_at m.ranges range) refl free)
  told_told p (maps.CompleteSplit range generation q) a =
      called_told p q (complete_split_fault generation (range_at m.ranges range)) _ (λ free. complete_split_told p.from q range (range_at m.ranges range))
  told_told p (maps.BeginMerge left a right b q) asks =
      called_told p q (begin_merge_fault a b (range_at m.ranges left) (range_at m.ranges right)) _ (λ free. begin_merge_rule_told p.from q left right (range_at m.ranges left) refl)
  told_told p (maps.CompleteMerge left a right b q) asks =
      called_told p q (complete_merge_fault a b (range_at m.ranges left) (range_at m.ranges right) (union_at m.ranges left right)) _ (λ free. complete_merge_told p.from q left right (union_at m.ranges left right))
  told_told p body a = silent_told

  asking : (p : Packet) (body : MapBody) → p.body ≡ bodies.Map body → PacketNames (K m) p → IsAsking body
  asking p (maps.BeginSplit range generation key q) is (inl asks) = absurd (let z : is_request (bodies.Map (maps.BeginSplit range generation key q)) ≡ true = subst (λ b. is_request b ≡ true) is asks.1 in cc)
  asking p (maps.BeginSplit range generation key q) is (inr names) = (subst (BodyNames (K m)) is names).1
  asking p body is names = tt

  rule_told : (p : Packet) (body : Body) → p.body ≡ body → PacketNames (K m) p → Told (map_rule m p body)
  rule_told p (bodies.Map body) is names = told_told p body (asking p body is names)
  rule_told p body is names = silent_told

  pub map_told : (p : Packet) → PacketNames (K m) p → Told (map_rule m p p.body)
  map_told p names = rule_told p p.body refl names
