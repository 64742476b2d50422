-- Whatever the map does, a range that a split made keeps a generation above that of the split, once a server holds it.
use Rattle.std.proofs.Common.{◌≡◌, ◌⊎◌, ℕ, suc, ◌+◌, ◌≤◌, ◌<◌, ◌^◌, Bool, true, false, ◌||◌, ◌==◌, nat_lt, List, [], ◌∷◌, ◌++◌, map, Option, Some, None, refl, sym, ap, ◌∙◌, subst, inl, inr, arith, if◌then◌else◌}
use Rattle.std.proofs.lemmas.Bool.{eqb-true}
use Rattle.std.proofs.lemmas.Option.{same_Some}
use Rattle.wire.specs.declared.actor.ActorId.{ActorId}
use Rattle.wire.specs.declared.actor.ReqNo.{ReqNo}
use Rattle.wire.specs.declared.body.Body.{Body}
use Rattle.wire.specs.declared.body.Body.TheVariants as bodies
use Rattle.wire.specs.declared.body.MapBody.{MapBody}
use Rattle.wire.specs.declared.body.MapBody.TheVariants as maps
use Rattle.wire.specs.declared.packet.Packet.{Packet}
use Rattle.wire.specs.declared.refusal.Refusal.{Refusal}
use Rattle.metadata.specs.declared.record.KeyRange.{KeyRange}
use Rattle.model_streams.specs.declared.event.Event.{Event}
use Rattle.model_streams.specs.declared.event.Event.TheVariants.{Deliver, Assign, Renew}
use Rattle.model_streams.specs.Outcome.{Outcome}
use Rattle.model_streams.proofs.Tests.{if_elim}
use Rattle.model_partition.specs.declared.pending.Pending.{Pending}
use Rattle.model_partition.specs.declared.pending.Pending.TheVariants as pendings
use Rattle.model_partition.specs.declared.range_entry.RangeEntry.{RangeEntry}
use Rattle.model_partition.specs.Map.{MapState, range_at, range_of_key, changed_if, with_range, assigned, renewed, is_merge_with, dropped_if, drop_pending, with_pending, begin, assign, halves_at, half, halves, split_in, union_with, union_beside, union_at, joined, merge_in}
use Rattle.model_partition.specs.MapRules.{assign_rule, renew_rule, has_numbers, begin_split_fault, begin_split_taken, begin_split_rule, complete_split_fault, complete_split_taken, complete_split_rule, begin_merge_fault, begin_merge_taken, begin_merge_rule, complete_merge_fault, complete_merge_rule, route_rule, called, told, map_rule}
use Rattle.model_partition.specs.Partition.{one_if, uses_pending, uses}
use Rattle.model_partition.specs.Cluster.{Cluster, cluster_after}
use Rattle.model_partition.proofs.Numbers.{beside_used}
use Rattle.laws_map.specs.Naming.{Each}
use Rattle.laws_map.proofs.GivenNumbers.{self_used, entry_uses}
use Rattle.laws_map.proofs.Knowing.{each_weaker}
use Rattle.laws_map.proofs.SoundMaps.{RuleLeaves, event_leaves}
use Rattle.laws_map.proofs.UsedNumbers.{used_at}
use Rattle.laws_map.proofs.WithinMaps.{each_map, HasNot, none_used}

-- it has a higher generation, or this one and nobody holds it
abbrev pub IsOver : ℕ → RangeEntry → Type 0
IsOver g r = (g < r.generation) ⊎ ((r.generation ≡ g) × (r.holder ≡ None))

-- an entry that has the number is over the generation, and none is to become it
abbrev pub EntryOver : ℕ → ℕ → RangeEntry → Type 0
EntryOver n g r = (uses_pending n r.pending ≡ 0) × (r.range ≡ n → IsOver g r)

-- the number has been given, and so it is of each entry
pub record IsAbove (n g : ℕ) (m : MapState) : Type 0 where
  pub given : n < m.next
  pub entries : Each (EntryOver n g) m.ranges

pub one_number : (a n : ℕ) → a ≡ n → one_if (a == n) ≡ 1
one_number a n same = subst (λ k. one_if (k == n) ≡ 1) (sym same) (self_used n)

-- ---- changes of the map

module _ (n g : ℕ) where
  abbrev Over : RangeEntry → Type 0
  Over r = EntryOver n g r

  drop_over : (range : ℕ) (r : RangeEntry) → Over r → Over (dropped_if range r)
  drop_over range r k = if_elim Over (r.range == range || is_merge_with range r.pending) (record r { pending = None }) r (λ t. (refl, k.1)) (λ f. k)

  drop_above : (m : MapState) (range : ℕ) → IsAbove n g m → IsAbove n g (drop_pending m range)
  drop_above m range k = record { given = k.given; entries = each_map Over Over (dropped_if range) (drop_over range) m.ranges k.entries }

  higher : (r : RangeEntry) → IsOver g r → g < suc r.generation
  higher r (inl less) = omega (arith, less)
  higher r (inr same) = let e = same.0 in omega (arith, e)

  assign_above : (m : MapState) (range server until : ℕ) → IsAbove n g m → IsAbove n g (assign m range server until)
  assign_above m range server until k = record {
    given = k.given;
    entries = each_map Over Over (changed_if range (assigned server until)) step (map (dropped_if range) m.ranges) (drop_above m range k).entries;
  }
    where
      step : (r : RangeEntry) → Over r → Over (changed_if range (assigned server until) r)
      step r k = if_elim Over (r.range == range) (assigned server until r) r (λ t. (k.0, λ e. inl (higher r (k.1 e)))) (λ f. k)

  renew_above : (m : MapState) (range until : ℕ) → IsAbove n g m → IsAbove n g (with_range m range (renewed until))
  renew_above m range until k = record { given = k.given; entries = each_map Over Over (changed_if range (renewed until)) step m.ranges k.entries }
    where
      step : (r : RangeEntry) → Over r → Over (changed_if range (renewed until) r)
      step r k = if_elim Over (r.range == range) (renewed until r) r (λ t. k) (λ f. k)

  begin_above : (m : MapState) (range count : ℕ) (pending : Pending) → uses_pending n (Some pending) ≡ 0 → IsAbove n g m → IsAbove n g (begin m range count pending)
  begin_above m range count pending none k = record {
    given = let l = k.given in omega (arith, l);
    entries = each_map Over Over (changed_if range (with_pending pending)) step (map (dropped_if range) m.ranges) (drop_above m range k).entries;
  }
    where
      step : (r : RangeEntry) → Over r → Over (changed_if range (with_pending pending) r)
      step r k = if_elim Over (r.range == range) (with_pending pending r) r (λ t. (none, k.1)) (λ f. k)

  not_used : (number : ℕ) → one_if (number == n) ≡ 0 → number ≡ n → ⊥
  not_used number none same = let one = one_number number n same in absurd (omega (arith, none, one))

  split_in_above : (range : ℕ) (rs : List RangeEntry) → Each Over rs → Each Over (split_in rs range)
  split_in_above range [] k = tt
  split_in_above range (r ∷ rs) k = if_elim (Each Over) (r.range == range) (halves r r.pending ++ rs) (r ∷ split_in rs range) (λ t. by_pending r.pending k.0.0) (λ f. (k.0, split_in_above range rs k.1))
    where
      half_over : (number : ℕ) (keys : KeyRange) → one_if (number == n) ≡ 0 → Over (half r number keys)
      half_over number keys none = (refl, λ e. absurd (not_used number none e))

      by_pending : (p : Option Pending) → uses_pending n p ≡ 0 → Each Over (halves r p ++ rs)
      by_pending None none = k
      by_pending (Some (pendings.Merge right into)) none = k
      by_pending (Some (pendings.Split key low high)) none = (
        half_over low (record { low = r.keys.low; high = Some key }) (omega (arith, none)),
        (half_over high (record { low = key; high = r.keys.high }) (omega (arith, none)), k.1),
      )

  merge_in_above : (left right : ℕ) (rs : List RangeEntry) → Each Over rs → Each Over (merge_in rs left right)
  merge_in_above left right [] k = tt
  merge_in_above left right (l ∷ rs) k =
      if_elim (Each Over) (l.range == left) (joined l rs (union_beside right l rs)) (l ∷ merge_in rs left right)
      (λ t. by_union rs k.1 (union_beside right l rs) refl) (λ f. (k.0, merge_in_above left right rs k.1))
    where
      by_union : (rs : List RangeEntry) → Each Over rs → (o : Option ℕ) → union_beside right l rs ≡ o → Each Over (joined l rs o)
      by_union [] more o is = (k.0, tt)
      by_union (r ∷ rs) more None is = (k.0, more)
      by_union (r ∷ rs) more (Some into) is =
          let used = beside_used n right into l (r ∷ rs) is in
          let none = k.0.0 in
          ((refl, λ e. absurd (not_used into (omega (arith, used, none)) e)), more.1)

  -- numbers that are given now are not that of the range
  not_next : (m : MapState) (number : ℕ) → m.next ≤ number → IsAbove n g m → one_if (number == n) ≡ 0
  not_next m number above k = go (number == n) refl
    where
      go : (b : Bool) → (number == n) ≡ b → one_if b ≡ 0
      go true e = absurd (let same = eqb-true number n e in let below = k.given in omega (arith, same, below, above))
      go false e = refl

  -- ---- rules of the map

  module _ (m : MapState) (a : IsAbove n g m) where
    abbrev Leaves : Outcome MapState → Type 0
    Leaves o = IsAbove n g o.after

    called_leaves : (p : Packet) (q : ReqNo) (fault : Option Refusal) (o : Outcome MapState) → Leaves o → Leaves (called m p q fault o)
    called_leaves p q (Some refusal) o rule = a
    called_leaves p q None o rule = rule

    assign_leaves : (range server until : ℕ) (o : Option RangeEntry) → Leaves (assign_rule m range server until o)
    assign_leaves range server until None = a
    assign_leaves range server until (Some x) = if_elim Leaves (nat_lt (suc x.generation) (2 ^ 64)) _ _ (λ t. assign_above m range server until a) (λ f. a)

    renew_leaves : (range server until : ℕ) (o : Option RangeEntry) → Leaves (renew_rule m range server until o)
    renew_leaves range server until None = a
    renew_leaves range server until (Some x) = renew_above m range until a

    route_leaves : (p : Packet) (q : ReqNo) (o : Option RangeEntry) → Leaves (route_rule m p q o)
    route_leaves p q None = a
    route_leaves p q (Some r) = a

    begin_split_leaves : (to : ActorId) (q : ReqNo) (range : ℕ) (key : List ℕ) (pair : Option (ℕ × ℕ)) → Leaves (begin_split_taken m to q range key pair)
    begin_split_leaves to q range key (Some pair) = a
    begin_split_leaves to q range key None =
        if_elim Leaves (has_numbers m 2) _ _
        (λ t. begin_above m range 2 (pendings.Split key m.next (m.next + 1)) (let u = not_next m m.next (omega arith) a in let v = not_next m (m.next + 1) (omega arith) a in omega (arith, u, v)) a)
        (λ f. a)

    begin_split_rule_leaves : (to : ActorId) (q : ReqNo) (range : ℕ) (key : List ℕ) (o : Option RangeEntry) → Leaves (begin_split_rule m to q range key o)
    begin_split_rule_leaves to q range key None = a
    begin_split_rule_leaves to q range key (Some x) = begin_split_leaves to q range key (halves_at key x.pending)

    complete_split_leaves : (to : ActorId) (q : ReqNo) (range : ℕ) (o : Option RangeEntry) → Leaves (complete_split_rule m to q range o)
    complete_split_leaves to q range None = a
    complete_split_leaves to q range (Some r) = by_pending r.pending
      where
        by_pending : (p : Option Pending) → Leaves (complete_split_taken m to q range p)
        by_pending None = a
        by_pending (Some (pendings.Merge right into)) = a
        by_pending (Some (pendings.Split key low high)) = record { given = a.given; entries = split_in_above range m.ranges a.entries }

    begin_merge_leaves : (to : ActorId) (q : ReqNo) (left right : ℕ) (into : Option ℕ) → Leaves (begin_merge_taken m to q left right into)
    begin_merge_leaves to q left right (Some into) = a
    begin_merge_leaves to q left right None =
        if_elim Leaves (has_numbers m 1) _ _
        (λ t. begin_above (drop_pending m right) left 1 (pendings.Merge right m.next) (not_next m m.next (omega arith) a) (drop_above m right a)) (λ f. a)

    begin_merge_rule_leaves : (to : ActorId) (q : ReqNo) (left right : ℕ) (l : Option RangeEntry) → Leaves (begin_merge_rule m to q left right l)
    begin_merge_rule_leaves to q left right None = a
    begin_merge_rule_leaves to q left right (Some l) = begin_merge_leaves to q left right (union_with right l.pending)

    complete_merge_leaves : (to : ActorId) (q : ReqNo) (left right : ℕ) (into : Option ℕ) → Leaves (complete_merge_rule m to q left right into)
    complete_merge_leaves to q left right None = a
    complete_merge_leaves to q left right (Some into) = record { given = a.given; entries = merge_in_above left right m.ranges a.entries }

    told_leaves : (p : Packet) (body : MapBody) → Leaves (told m p body)
    told_leaves p (maps.Route key q) = route_leaves p q (range_of_key m.ranges key)
    told_leaves p (maps.BeginSplit range generation key q) =
        called_leaves p q (begin_split_fault generation key (range_at m.ranges range)) _ (begin_split_rule_leaves p.from q range key (range_at m.ranges range))
    told_leaves p (maps.CompleteSplit range generation q) =
        called_leaves p q (complete_split_fault generation (range_at m.ranges range)) _ (complete_split_leaves p.from q range (range_at m.ranges range))
    told_leaves p (maps.BeginMerge left b right d q) =
        called_leaves p q (begin_merge_fault b d (range_at m.ranges left) (range_at m.ranges right)) _ (begin_merge_rule_leaves p.from q left right (range_at m.ranges left))
    told_leaves p (maps.CompleteMerge left b right d q) =
        called_leaves p q (complete_merge_fault b d (range_at m.ranges left) (range_at m.ranges right) (union_at m.ranges left right)) _ (complete_merge_leaves p.from q left right (union_at m.ranges left right))
    told_leaves p body = a

    map_leaves : (p : Packet) (body : Body) → Leaves (map_rule m p body)
    map_leaves p (bodies.Map body) = told_leaves p body
    map_leaves p body = a

  -- ---- events

  pub event_above : (c : Cluster) (event : Event) → IsAbove n g c.map → IsAbove n g (cluster_after c event).map
  event_above c event a = event_leaves (IsAbove n g) c a event (leaves event)
    where
      leaves : (event : Event) → RuleLeaves (IsAbove n g) c a event
      leaves (Deliver number) = λ p at. map_leaves c.map a p p.body
      leaves (Assign range server until) = assign_leaves c.map a range server until (range_at c.map.ranges range)
      leaves (Renew range server until) = λ free. renew_leaves c.map a range server until (range_at c.map.ranges range)
      leaves event = tt

-- ---- the split that makes it

-- of the two that a split makes each is over its generation
pub split_over : (n range : ℕ) (key : List ℕ) (low high : ℕ) (rs : List RangeEntry) (x : RangeEntry) → range_at rs range ≡ Some x → x.pending ≡ Some (pendings.Split key low high) → 1 ≤ uses_pending n x.pending → uses n rs ≤ 1 →
    Each (EntryOver n x.generation) (split_in rs range)
split_over n range key low high [] x found pending used once = absurd cc
split_over n range key low high (r ∷ rs) x found pending used once = go (r.range == range) refl found (λ is few. split_over n range key low high rs x is pending used few)
  where
    go : (b : Bool) → (r.range == range) ≡ b → (if b then Some r else range_at rs range) ≡ Some x → (range_at rs range ≡ Some x → uses n rs ≤ 1 → Each (EntryOver n x.generation) (split_in rs range)) →
        Each (EntryOver n x.generation) (if b then halves r r.pending ++ rs else r ∷ split_in rs range)
    go true e is more =
        let same : r ≡ x = same_Some r x is in
        let mine : 1 ≤ uses_pending n r.pending = subst (λ (y : RangeEntry). 1 ≤ uses_pending n y.pending) (sym same) used in
        let rest : Each (HasNot n) rs = none_used n rs (omega (arith, once, mine)) in
        subst (λ (p : Option Pending). Each (EntryOver n x.generation) (halves r p ++ rs)) (sym (ap (λ (y : RangeEntry). y.pending) same ∙ pending)) (
          (refl, λ h. inr (ap (λ (y : RangeEntry). y.generation) same, refl)),
          (
            (refl, λ h. inr (ap (λ (y : RangeEntry). y.generation) same, refl)),
            each_weaker (HasNot n) (EntryOver n x.generation) (λ y h. (h.1, λ e. absurd (h.0 e))) rs rest,
          ),
        )
    go false e is more =
        let there = entry_uses n range rs x is in
        ((omega (arith, once, there, used), λ h. absurd (let one = one_number r.range n h in omega (arith, once, there, used, one))), more is (omega (arith, once)))

-- and of the range itself nothing is left
pub split_gone : (n : ℕ) (key : List ℕ) (low high : ℕ) (rs : List RangeEntry) (x : RangeEntry) → range_at rs n ≡ Some x → x.pending ≡ Some (pendings.Split key low high) → uses n rs ≤ 1 → uses n (split_in rs n) ≡ 0
split_gone n key low high [] x found pending once = absurd cc
split_gone n key low high (r ∷ rs) x found pending once = go (r.range == n) refl found once (λ is few. split_gone n key low high rs x is pending few)
  where
    go : (b : Bool) → (r.range == n) ≡ b → (if b then Some r else range_at rs n) ≡ Some x → one_if b + uses_pending n r.pending + uses n rs ≤ 1 → (range_at rs n ≡ Some x → uses n rs ≤ 1 → uses n (split_in rs n) ≡ 0) →
        uses n (if b then halves r r.pending ++ rs else r ∷ split_in rs n) ≡ 0
    go true e is few more =
        let same : r ≡ x = same_Some r x is in
        let p : r.pending ≡ Some (pendings.Split key low high) = ap (λ (y : RangeEntry). y.pending) same ∙ pending in
        let u : uses_pending n r.pending ≡ one_if (low == n) + one_if (high == n) = ap (uses_pending n) p in
        subst (λ (z : Option Pending). uses n (halves r z ++ rs) ≡ 0) (sym p) (omega (arith, few, u))
    go false e is few more =
        let there = used_at n rs x is in
        let none : one_if (r.range == n) ≡ 0 = ap one_if e in
        let rest = more is (omega (arith, few)) in
        omega (arith, few, there, none, rest)
