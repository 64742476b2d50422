-- The map tells only of ranges that it has then, or is to have.
use Rattle.std.proofs.Common.{◌≡◌, ℕ, suc, ◌+◌, ◌≤◌, ◌^◌, ◌==◌, nat_lt, List, map, Option, Some, None, refl, sym, ap, ◌∙◌, subst, inl, arith}
use Rattle.std.specs.Prelude.{option_map}
use Rattle.std.proofs.lemmas.Bool.{eqb-false}
use Rattle.wire.specs.declared.actor.ActorId.{ActorId}
use Rattle.wire.specs.declared.actor.ReqNo.{ReqNo}
use Rattle.wire.specs.declared.body.Body.{Body}
use Rattle.wire.specs.declared.body.Body.TheVariants as bodies
use Rattle.wire.specs.declared.body.MapBody.{MapBody}
use Rattle.wire.specs.declared.body.MapBody.TheVariants as maps
use Rattle.wire.specs.declared.packet.Packet.{Packet}
use Rattle.wire.specs.declared.refusal.Refusal.{Refusal}
use Rattle.model_streams.specs.Outcome.{Outcome}
use Rattle.model_streams.proofs.Tests.{if_elim}
use Rattle.model_partition.specs.declared.pending.Pending.{Pending}
use Rattle.model_partition.specs.declared.pending.Pending.TheVariants as pendings
use Rattle.model_partition.specs.declared.range_entry.RangeEntry.{RangeEntry}
use Rattle.model_partition.specs.Map.{MapState, range_at, range_of_key, changed_if, assigned, renewed, dropped_if, with_pending, halves_at, union_with, union_at}
use Rattle.model_partition.specs.MapRules.{assign_rule, renew_rule, has_numbers, begin_split_fault, begin_split_taken, begin_split_rule, complete_split_fault, complete_split_taken, complete_split_rule, begin_merge_fault, begin_merge_taken, begin_merge_rule, complete_merge_fault, complete_merge_rule, route_rule, called, told, map_rule}
use Rattle.model_partition.specs.Partition.{one_if, uses_pending, uses, IsSound}
use Rattle.model_partition.proofs.Numbers.{BeginsNothing, kept, dropped, found_after}
use Rattle.laws_map.specs.Naming.{Each}
use Rattle.laws_map.proofs.GivenNumbers.{entry_uses, entry_number, self_used, halves_pending}

-- what a packet tells of leases and of splits is of numbers that are used
abbrev pub MapUses : MapState → MapBody → Type 0
MapUses a (maps.Assign n generation until) = 1 ≤ uses n a.ranges
MapUses a (maps.Renew n generation until) = 1 ≤ uses n a.ranges
MapUses a (maps.SplitBegun q low high) = (1 ≤ uses low a.ranges) × (1 ≤ uses high a.ranges)
MapUses a (maps.BeginSplit n generation key q) = ⊥
MapUses a (maps.CompleteSplit n generation q) = ⊥
MapUses a (maps.BeginMerge left left_generation right right_generation q) = ⊥
MapUses a (maps.CompleteMerge left left_generation right right_generation q) = ⊥
MapUses a body = Unit {0}

-- and it asks for nothing
abbrev pub BodyUses : MapState → Body → Type 0
BodyUses a (bodies.Map body) = MapUses a body
BodyUses a (bodies.Stream body) = ⊥
BodyUses a body = Unit {0}

abbrev pub TellsUsed : Outcome MapState → Type 0
TellsUsed o = Each (λ (p : Packet). BodyUses o.after p.body) o.packets

-- a number that an entry has is used
pub used_at : (n : ℕ) (rs : List RangeEntry) (x : RangeEntry) → range_at rs n ≡ Some x → 1 ≤ uses n rs
used_at n rs x at =
    let l = entry_uses n n rs x at in
    let one : one_if (x.range == n) ≡ 1 = subst (λ k. one_if (k == n) ≡ 1) (sym (entry_number n rs x at)) (self_used n) in
    omega (arith, l, one)

-- so are those of a pair that is pending
pub pair_used : (at low high : ℕ) (key : List ℕ) (rs : List RangeEntry) (x : RangeEntry) → range_at rs at ≡ Some x → x.pending ≡ Some (pendings.Split key low high) → (1 ≤ uses low rs) × (1 ≤ uses high rs)
pair_used at low high key rs x found pending =
    let l = entry_uses low at rs x found in
    let h = entry_uses high at rs x found in
    let a : uses_pending low x.pending ≡ one_if (low == low) + one_if (high == low) = ap (uses_pending low) pending in
    let b : uses_pending high x.pending ≡ one_if (low == high) + one_if (high == high) = ap (uses_pending high) pending in
    let c = self_used low in
    let d = self_used high in
    (omega (arith, l, a, c), omega (arith, h, b, d))

pub assigns_nothing : (server until : ℕ) → BeginsNothing (assigned server until)
assigns_nothing server until = record { number = λ r. refl; keys = λ r. refl; pending = λ r. inl refl }

pub renews_nothing : (until : ℕ) → BeginsNothing (renewed until)
renews_nothing until = record { number = λ r. refl; keys = λ r. refl; pending = λ r. inl refl }

module _ (m : MapState) (s : IsSound m) where
  called_uses : (p : Packet) (q : ReqNo) (fault : Option Refusal) (o : Outcome MapState) → TellsUsed o → TellsUsed (called m p q fault o)
  called_uses p q (Some refusal) o u = (tt, tt)
  called_uses p q None o u = u

  -- what is dropped at an entry leaves it its number
  dropped_at : (n range : ℕ) (x : RangeEntry) → range_at m.ranges n ≡ Some x → range_at (map (dropped_if range) m.ranges) n ≡ Some (dropped_if range x)
  dropped_at n range x at = found_after (dropped_if range) (dropped range).number n m.ranges ∙ ap (option_map (dropped_if range)) at

  pub assign_uses : (n server until : ℕ) (o : Option RangeEntry) → range_at m.ranges n ≡ o → TellsUsed (assign_rule m n server until o)
  assign_uses n server until None at = tt
  assign_uses n server until (Some x) at =
      if_elim TellsUsed (nat_lt (suc x.generation) (2 ^ 64)) _ _
      (λ t. (
        used_at n _ (changed_if n (assigned server until) (dropped_if n x))
            (found_after (changed_if n (assigned server until)) (kept n (assigned server until) (assigns_nothing server until)).number n (map (dropped_if n) m.ranges) ∙ ap (option_map (changed_if n (assigned server until))) (dropped_at n n x at)),
        tt,
      ))
      (λ f. tt)

  pub renew_uses : (n server until : ℕ) (o : Option RangeEntry) → range_at m.ranges n ≡ o → TellsUsed (renew_rule m n server until o)
  renew_uses n server until None at = tt
  renew_uses n server until (Some x) at = (
    used_at n _ (changed_if n (renewed until) x) (found_after (changed_if n (renewed until)) (kept n (renewed until) (renews_nothing until)).number n m.ranges ∙ ap (option_map (changed_if n (renewed until))) at),
    tt,
  )

  route_uses : (p : Packet) (q : ReqNo) (o : Option RangeEntry) → TellsUsed (route_rule m p q o)
  route_uses p q None = tt
  route_uses p q (Some r) = (tt, tt)

  pending_is : (n : ℕ) (p : Pending) (r : RangeEntry) → r.range ≡ n → (changed_if n (with_pending p) r).pending ≡ Some p
  pending_is n p r same = if_elim (λ (y : RangeEntry). y.pending ≡ Some p) (r.range == n) (with_pending p r) r (λ t. refl) (λ f. absurd (eqb-false r.range n f same))

  changed_number : (n : ℕ) (p : Pending) (r : RangeEntry) → (changed_if n (with_pending p) r).range ≡ r.range
  changed_number n p r = if_elim (λ (y : RangeEntry). y.range ≡ r.range) (r.range == n) (with_pending p r) r (λ t. refl) (λ f. refl)

  begin_split_uses : (to : ActorId) (q : ReqNo) (n : ℕ) (key : List ℕ) (x : RangeEntry) → range_at m.ranges n ≡ Some x → (pair : Option (ℕ × ℕ)) → halves_at key x.pending ≡ pair → TellsUsed (begin_split_taken m to q n key pair)
  begin_split_uses to q n key x at (Some pair) is = let (at_key, pending, here) = halves_pending m s key x.pending pair is in (pair_used n pair.0 pair.1 at_key m.ranges x at pending, tt)
  begin_split_uses to q n key x at None is =
      let p : Pending = pendings.Split key m.next (m.next + 1) in
      if_elim TellsUsed (has_numbers m 2) _ _
      (λ t. (
        pair_used n m.next (m.next + 1) key _ (changed_if n (with_pending p) (dropped_if n x))
            (found_after (changed_if n (with_pending p)) (changed_number n p) n (map (dropped_if n) m.ranges) ∙ ap (option_map (changed_if n (with_pending p))) (dropped_at n n x at))
            (pending_is n p (dropped_if n x) ((dropped n).number x ∙ entry_number n m.ranges x at)),
        tt,
      ))
      (λ f. tt)

  begin_split_rule_uses : (to : ActorId) (q : ReqNo) (n : ℕ) (key : List ℕ) (o : Option RangeEntry) → range_at m.ranges n ≡ o → TellsUsed (begin_split_rule m to q n key o)
  begin_split_rule_uses to q n key None at = tt
  begin_split_rule_uses to q n key (Some x) at = begin_split_uses to q n key x at (halves_at key x.pending) refl

  complete_split_uses : (to : ActorId) (q : ReqNo) (n : ℕ) (o : Option RangeEntry) → TellsUsed (complete_split_rule m to q n o)
  complete_split_uses to q n None = tt
  complete_split_uses to q n (Some r) = by_pending r.pending
    where
      by_pending : (p : Option Pending) → TellsUsed (complete_split_taken m to q n p)
      by_pending None = tt
      by_pending (Some (pendings.Merge right into)) = tt
      by_pending (Some (pendings.Split key low high)) = (tt, tt)

  begin_merge_uses : (to : ActorId) (q : ReqNo) (left right : ℕ) (into : Option ℕ) → TellsUsed (begin_merge_taken m to q left right into)
  begin_merge_uses to q left right (Some into) = (tt, tt)
  begin_merge_uses to q left right None = if_elim TellsUsed (has_numbers m 1) _ _ (λ t. (tt, tt)) (λ f. tt)

  begin_merge_rule_uses : (to : ActorId) (q : ReqNo) (left right : ℕ) (l : Option RangeEntry) → TellsUsed (begin_merge_rule m to q left right l)
  begin_merge_rule_uses to q left right None = tt
  begin_merge_rule_uses to q left right (Some l) = begin_merge_uses to q left right (union_with right l.pending)

  complete_merge_uses : (to : ActorId) (q : ReqNo) (left right : ℕ) (into : Option ℕ) → TellsUsed (complete_merge_rule m to q left right into)
  complete_merge_uses to q left right None = tt
  complete_merge_uses to q left right (Some into) = (tt, tt)

  told_uses : (p : Packet) (body : MapBody) → TellsUsed (told m p body)
  told_uses p (maps.Route key q) = route_uses p q (range_of_key m.ranges key)
  told_uses p (maps.BeginSplit n generation key q) = called_uses p q (begin_split_fault generation key (range_at m.ranges n)) _ (begin_split_rule_uses p.from q n key (range_at m.ranges n) refl)
  told_uses p (maps.CompleteSplit n generation q) = called_uses p q (complete_split_fault generation (range_at m.ranges n)) _ (complete_split_uses p.from q n (range_at m.ranges n))
  told_uses p (maps.BeginMerge left a right b q) =
      called_uses p q (begin_merge_fault a b (range_at m.ranges left) (range_at m.ranges right)) _ (begin_merge_rule_uses p.from q left right (range_at m.ranges left))
  told_uses p (maps.CompleteMerge left a right b q) =
      called_uses p q (complete_merge_fault a b (range_at m.ranges left) (range_at m.ranges right) (union_at m.ranges left right)) _ (complete_merge_uses p.from q left right (union_at m.ranges left right))
  told_uses p body = tt

  pub map_uses : (p : Packet) (body : Body) → TellsUsed (map_rule m p body)
  map_uses p (bodies.Map body) = told_uses p body
  map_uses p body = tt
