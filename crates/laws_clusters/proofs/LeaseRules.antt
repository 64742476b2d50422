-- Each rule of the map keeps to all leases that were told, and to the one that it tells.
use Rattle.std.proofs.Common.{◌≡◌, ℕ, zero, suc, ◌+◌, ◌≤◌, ◌<◌, ◌^◌, max, Bool, true, false, not, ◌&&◌, ◌||◌, ◌==◌, nat_lt, List, [], ◌∷◌, map, Option, Some, None, is_none, is_some, Contains, refl, sym, ap, ◌∙◌, subst, inl, arith}
use Rattle.std.specs.Prelude.{option_map}
use Rattle.std.proofs.lemmas.Bool.{eqb-true, eqb-false}
use Rattle.std.proofs.lemmas.Bool.Decides.{nat_tests}
use Rattle.std.proofs.lemmas.Option.{same_Some}
use Rattle.wire.specs.declared.actor.ActorId.{ActorId}
use Rattle.wire.specs.declared.actor.ActorId.TheVariants.{Map, Server}
use Rattle.wire.specs.declared.actor.ReqNo.{ReqNo}
use Rattle.wire.specs.declared.body.AppendBody.TheVariants.{Refused}
use Rattle.wire.specs.declared.body.Body.{Body}
use Rattle.wire.specs.declared.body.Body.TheVariants as bodies
use Rattle.wire.specs.declared.body.MapBody.{MapBody}
use Rattle.wire.specs.declared.body.MapBody.TheVariants as maps
use Rattle.wire.specs.declared.packet.Packet.{Packet}
use Rattle.wire.specs.declared.refusal.Refusal.{Refusal}
use Rattle.wire.specs.declared.refusal.Refusal.TheVariants.{LeaseHeld, NotOwner, BadSplitKey, NotAdjacent, GenerationChanged}
use Rattle.model_streams.specs.Outcome.{Outcome, packet, silent, sends}
use Rattle.model_streams.proofs.Tests.{if_elim, none_met}
use Rattle.model_partition.specs.declared.map_record.MapRecord.TheVariants as records
use Rattle.model_partition.specs.declared.pending.Pending.{Pending}
use Rattle.model_partition.specs.declared.pending.Pending.TheVariants as pendings
use Rattle.model_partition.specs.declared.range_entry.RangeEntry.{RangeEntry}
use Rattle.model_partition.specs.Map.{MapState, range_at, range_of_key, changed_if, with_range, assigned, renewed, is_merge_with, dropped_if, drop_pending, assign, is_split_key, halves_at, union_with, union_at}
use Rattle.model_partition.specs.MapRules.{is_holder, is_other, assign_fault, assign_rule, renew_fault, renew_rule, has_numbers, begin_split_fault, begin_split_taken, begin_split_rule, is_split, complete_split_fault, complete_split_taken, complete_split_rule, is_beside, is_same_holder, begin_merge_fault, begin_merge_taken, begin_merge_rule, complete_merge_fault, complete_merge_rule, route_rule, called, told, map_rule}
use Rattle.model_partition.specs.Partition.{one_if, uses_pending, IsSound}
use Rattle.model_partition.specs.Replay.{may_assign, may_renew, may_begin_split, may_complete_split, may_begin_merge}
use Rattle.model_partition.proofs.Numbers.{used_once, kept, dropped, found_after}
use Rattle.model_partition.proofs.Replaying.{after_sound}
use Rattle.laws_streams.proofs.Choices.{Each, each-weaker}
use Rattle.laws_clusters.specs.Leases.{Lease, lease_in, KeepsTo}
use Rattle.laws_clusters.proofs.Leases.{EntryKeeps, MapKeeps, MayTake, each_map, entry_of, only_entry, found_below, drops, assign_keeps, renew_keeps, begin_keeps, complete_split_keeps, complete_merge_keeps}

-- the entry of its range has its generation, and its server for a holder
pub record IsOfEntry (m : MapState) (lease : Lease) : Type 0 where
  pub entry : RangeEntry
  pub found : range_at m.ranges lease.range ≡ Some entry
  pub generation : entry.generation ≡ lease.generation
  pub holder : entry.holder ≡ Some lease.server

-- what a rule leaves keeps to the leases that were kept to before it, and to those that it tells, which are of their entries
pub record RuleKeeps (now : ℕ) (m : MapState) (o : Outcome MapState) : Type 0 where
  pub sound : IsSound o.after
  pub kept : (lease : Lease) → MapKeeps lease now m → MapKeeps lease now o.after
  pub tells : (p : Packet) → Contains o.packets p → (lease : Lease) → lease_in p.to p.body ≡ Some lease → MapKeeps lease now o.after
  pub entry : (p : Packet) → Contains o.packets p → (lease : Lease) → lease_in p.to p.body ≡ Some lease → IsOfEntry o.after lease

-- ---- nothing changes

only_one : (p q : Packet) → Contains (p ∷ []) q → p ≡ q
only_one p q (zero, less, is) = is
only_one p q (suc k, less, is) = absurd (omega arith)

one_lease : (to : ActorId) (body : Body) (p : Packet) → Contains (packet Map to body ∷ []) p → (lease : Lease) → lease_in p.to p.body ≡ Some lease → lease_in to body ≡ Some lease
one_lease to body p there lease is = subst (λ (x : Packet). lease_in x.to x.body ≡ Some lease) (sym (only_one (packet Map to body) p there)) is

silent_keeps : (now : ℕ) (m : MapState) → IsSound m → RuleKeeps now m (silent m)
silent_keeps now m s = record {
  sound = s;
  kept = λ lease k. k;
  tells = λ p there lease is. absurd (let less = there.1 in omega (arith, less));
  entry = λ p there lease is. absurd (let less = there.1 in omega (arith, less));
}

-- one packet is sent that tells of no lease
one_keeps : (now : ℕ) (m : MapState) (to : ActorId) (body : Body) → lease_in to body ≡ None → IsSound m → RuleKeeps now m (sends m (packet Map to body ∷ []))
one_keeps now m to body none s = record {
  sound = s;
  kept = λ lease k. k;
  tells = λ p there lease is. absurd (let e : None ≡ Some lease = sym none ∙ one_lease to body p there lease is in cc);
  entry = λ p there lease is. absurd (let e : None ≡ Some lease = sym none ∙ one_lease to body p there lease is in cc);
}

called_keeps : (now : ℕ) (m : MapState) (p : Packet) (q : ReqNo) (fault : Option Refusal) (o : Outcome MapState) → IsSound m → (fault ≡ None → RuleKeeps now m o) → RuleKeeps now m (called m p q fault o)
called_keeps now m p q (Some refusal) o s taken = one_keeps now m p.from (bodies.Append (Refused q refusal)) refl s
called_keeps now m p q None o s taken = taken refl

-- ---- assignments and renewals

module _ (now : ℕ) (m : MapState) (s : IsSound m) (range server until : ℕ) (x : RangeEntry) (at : range_at m.ranges range ≡ Some x) where
  abbrev IsOnly : RangeEntry → Type 0
  IsOnly r = (r.range ≡ range → r ≡ x) × (uses_pending range r.pending ≡ 0)

  only : Each IsOnly m.ranges
  only = only_entry range m.ranges x (used_once m s.fresh range) at

  other_range : (r : RangeEntry) → (r.range == range) ≡ false → r.range ≡ range → ⊥
  other_range r f = eqb-false r.range range f

  may_take : (h : Option ℕ) (u : ℕ) → (is_other h server && nat_lt now u) ≡ false → MayTake now server u h
  may_take None u free k e apart = absurd cc
  may_take (Some h) u free k e apart = go (h == server) refl (nat_lt now u) refl free
    where
      same : h ≡ k
      same = same_Some h k e

      go : (a : Bool) → (h == server) ≡ a → (b : Bool) → nat_lt now u ≡ b → (not a && b) ≡ false → u ≤ now
      go true here b t free = absurd (apart (sym same ∙ eqb-true h server here))
      go false here true t free = absurd cc
      go false here false t free = grind (arith, nat_tests)

  -- the entry as it is assigned
  abbrev IsAsX : RangeEntry → Type 0
  IsAsX r = (uses_pending range r.pending ≡ 0) × (r.range ≡ range → (r.generation ≡ x.generation) × (r.until ≡ x.until))

  as_x : (r : RangeEntry) → IsOnly r → IsAsX (dropped_if range r)
  as_x r h =
      if_elim IsAsX ((r.range == range) || is_merge_with range r.pending) (record r { pending = None }) r
      (λ t. (refl, λ e. (ap (λ (y : RangeEntry). y.generation) (h.0 e), ap (λ (y : RangeEntry). y.until) (h.0 e))))
      (λ f. (h.1, λ e. (ap (λ (y : RangeEntry). y.generation) (h.0 e), ap (λ (y : RangeEntry). y.until) (h.0 e))))

  abbrev assigned_lease : Lease
  assigned_lease = record { server = server; range = range; generation = suc x.generation; until = max x.until until }

  assigned_entry : (r : RangeEntry) → IsAsX r → EntryKeeps assigned_lease now (changed_if range (assigned server until) r)
  assigned_entry r h =
      if_elim (EntryKeeps assigned_lease now) (r.range == range) (assigned server until r) r
      (λ t. (
        h.0,
        λ e. record {
          generation_above = (let g = (h.1 e).0 in omega (arith, g));
          until_above = (let u = (h.1 e).1 in subst (λ k. max x.until until ≤ max k until) (sym u) (omega arith));
          same = λ z. refl;
          other = λ apart. absurd (apart refl);
        },
      ))
      (λ f. (h.0, λ e. absurd (other_range r f e)))

  new_assigned : MapKeeps assigned_lease now (assign m range server until)
  new_assigned = record {
    numbered = found_below m range x s.fresh at;
    entries =
        each_map IsAsX (EntryKeeps assigned_lease now) (changed_if range (assigned server until)) assigned_entry (map (dropped_if range) m.ranges)
        (each_map IsOnly IsAsX (dropped_if range) as_x m.ranges only);
  }

  -- the entry has the lease that is told
  abbrev HasLease : ℕ → RangeEntry → Type 0
  HasLease generation r = r.range ≡ range → (r.generation ≡ generation) × (r.holder ≡ Some server)

  of_entry : (rs : List RangeEntry) (generation end : ℕ) (y : RangeEntry) → Each (HasLease generation) rs → range_at rs range ≡ Some y → (next : ℕ) →
      IsOfEntry (record { ranges = rs; next = next }) (record { server = server; range = range; generation = generation; until = end })
  of_entry rs generation end y has found next =
      let (h, number) = entry_of (HasLease generation) range rs y has found in
      record { entry = y; found = found; generation = (h number).0; holder = (h number).1 }

  assigned_of_entry : IsOfEntry (assign m range server until) assigned_lease
  assigned_of_entry =
      let takes = kept range (assigned server until) (record { number = λ r. refl; keys = λ r. refl; pending = λ r. inl refl }) in
      of_entry (assign m range server until).ranges (suc x.generation) (max x.until until) (changed_if range (assigned server until) (dropped_if range x))
      (each_map IsAsX (HasLease (suc x.generation)) (changed_if range (assigned server until)) has (map (dropped_if range) m.ranges)
      (each_map IsOnly IsAsX (dropped_if range) as_x m.ranges only))
      (found_after (changed_if range (assigned server until)) takes.number range (map (dropped_if range) m.ranges)
      ∙ ap (option_map (changed_if range (assigned server until))) (found_after (dropped_if range) (dropped range).number range m.ranges ∙ ap (option_map (dropped_if range)) at)) m.next
    where
      has : (r : RangeEntry) → IsAsX r → HasLease (suc x.generation) (changed_if range (assigned server until) r)
      has r h =
          if_elim (HasLease (suc x.generation)) (r.range == range) (assigned server until r) r
          (λ t e. (ap suc (h.1 e).0, refl)) (λ f e. absurd (other_range r f e))

  pub assign_taken_keeps : assign_fault server now (Some x) ≡ None → RuleKeeps now m (assign_rule m range server until (Some x))
  assign_taken_keeps free =
      if_elim (RuleKeeps now m) (nat_lt (suc x.generation) (2 ^ 64)) _ _
      (λ t. record {
        sound = after_sound m (records.Assign range server until) (ap may_assign at ∙ t) s;
        kept = λ lease k.
            assign_keeps lease now m range server until
            (each-weaker IsOnly (λ (r : RangeEntry). r.range ≡ range → MayTake now server r.until r.holder)
            (λ r h e. subst (λ (y : RangeEntry). MayTake now server y.until y.holder) (sym (h.0 e)) (may_take x.holder x.until (none_met ((LeaseHeld, is_other x.holder server && nat_lt now x.until) ∷ []) free).0)) m.ranges only) k;
        tells = λ p there lease is.
            subst (λ l. MapKeeps l now (assign m range server until))
            (same_Some assigned_lease lease (one_lease (Server server) (bodies.Map (maps.Assign range (suc x.generation) (max x.until until))) p there lease is)) new_assigned;
        entry = λ p there lease is.
            subst (IsOfEntry (assign m range server until))
            (same_Some assigned_lease lease (one_lease (Server server) (bodies.Map (maps.Assign range (suc x.generation) (max x.until until))) p there lease is)) assigned_of_entry;
      })
      (λ f. silent_keeps now m s)

  abbrev renewed_lease : Lease
  renewed_lease = record { server = server; range = range; generation = x.generation; until = max x.until until }

  held_by : (h : Option ℕ) → not (is_holder h server) ≡ false → h ≡ Some server
  held_by None free = absurd cc
  held_by (Some h) free = go (h == server) refl free
    where
      go : (b : Bool) → (h == server) ≡ b → not b ≡ false → Some h ≡ Some server
      go true e free = ap Some (eqb-true h server e)
      go false e free = absurd cc

  renewed_entry : x.holder ≡ Some server → (r : RangeEntry) → IsOnly r → EntryKeeps renewed_lease now (changed_if range (renewed until) r)
  renewed_entry held r h =
      if_elim (EntryKeeps renewed_lease now) (r.range == range) (renewed until r) r
      (λ t. (
        h.1,
        λ e. subst (λ (y : RangeEntry). KeepsTo renewed_lease now y.generation (max y.until until) y.holder) (sym (h.0 e))
            (record { generation_above = omega arith; until_above = omega arith; same = λ z. held; other = λ apart. absurd (apart held) }),
      ))
      (λ f. (h.1, λ e. absurd (other_range r f e)))

  renewed_of_entry : x.holder ≡ Some server → IsOfEntry (with_range m range (renewed until)) renewed_lease
  renewed_of_entry held =
      let longer = kept range (renewed until) (record { number = λ r. refl; keys = λ r. refl; pending = λ r. inl refl }) in
      of_entry (with_range m range (renewed until)).ranges x.generation (max x.until until) (changed_if range (renewed until) x) (each_map IsOnly (HasLease x.generation) (changed_if range (renewed until)) has m.ranges only)
      (found_after (changed_if range (renewed until)) longer.number range m.ranges ∙ ap (option_map (changed_if range (renewed until))) at) m.next
    where
      has : (r : RangeEntry) → IsOnly r → HasLease x.generation (changed_if range (renewed until) r)
      has r h =
          if_elim (HasLease x.generation) (r.range == range) (renewed until r) r
          (λ t e. (ap (λ (y : RangeEntry). y.generation) (h.0 e), ap (λ (y : RangeEntry). y.holder) (h.0 e) ∙ held)) (λ f e. absurd (other_range r f e))

  pub renew_taken_keeps : renew_fault server (Some x) ≡ None → RuleKeeps now m (renew_rule m range server until (Some x))
  renew_taken_keeps free =
      let held : x.holder ≡ Some server = held_by x.holder (none_met ((NotOwner, not (is_holder x.holder server)) ∷ []) free).0 in
      record {
        sound = after_sound m (records.Renew range until) (ap may_renew at ∙ ap is_some held) s;
        kept = λ lease k. renew_keeps lease now m range until k;
        tells = λ p there lease is.
            subst (λ l. MapKeeps l now (with_range m range (renewed until)))
            (same_Some renewed_lease lease (one_lease (Server server) (bodies.Map (maps.Renew range x.generation (max x.until until))) p there lease is))
            (record {
              numbered = found_below m range x s.fresh at;
              entries = each_map IsOnly (EntryKeeps renewed_lease now) (changed_if range (renewed until)) (renewed_entry held) m.ranges only;
            });
        entry = λ p there lease is.
            subst (IsOfEntry (with_range m range (renewed until)))
            (same_Some renewed_lease lease (one_lease (Server server) (bodies.Map (maps.Renew range x.generation (max x.until until))) p there lease is)) (renewed_of_entry held);
      }

pub assign_rule_keeps : (now : ℕ) (m : MapState) (range server until : ℕ) (o : Option RangeEntry) → range_at m.ranges range ≡ o → assign_fault server now o ≡ None → IsSound m → RuleKeeps now m (assign_rule m range server until o)
assign_rule_keeps now m range server until None at free s = silent_keeps now m s
assign_rule_keeps now m range server until (Some x) at free s = assign_taken_keeps now m s range server until x at free

pub renew_rule_keeps : (now : ℕ) (m : MapState) (range server until : ℕ) (o : Option RangeEntry) → range_at m.ranges range ≡ o → renew_fault server o ≡ None → IsSound m → RuleKeeps now m (renew_rule m range server until o)
renew_rule_keeps now m range server until None at free s = silent_keeps now m s
renew_rule_keeps now m range server until (Some x) at free s = renew_taken_keeps now m s range server until x at free

-- ---- packets

not_false : (b : Bool) → not b ≡ false → b ≡ true
not_false true e = refl
not_false false e = absurd cc

module _ (now : ℕ) (m : MapState) (s : IsSound m) where
  -- these do not tell of leases, and what they leave keeps to those that were told
  changes : (after : MapState) (to : ActorId) (body : MapBody) → lease_in to (bodies.Map body) ≡ None → IsSound after → ((lease : Lease) → MapKeeps lease now m → MapKeeps lease now after) →
      (o : Outcome MapState) → o.after ≡ after → o.packets ≡ packet Map to (bodies.Map body) ∷ [] → RuleKeeps now m o
  changes after to body none sound kept o is packets = record {
    sound = subst IsSound (sym is) sound;
    kept = λ lease k. subst (MapKeeps lease now) (sym is) (kept lease k);
    tells = λ p there lease e.
        absurd (let z : None ≡ Some lease = sym none ∙ one_lease to (bodies.Map body) p (subst (λ ps. Contains ps p) packets there) lease e in cc);
    entry = λ p there lease e.
        absurd (let z : None ≡ Some lease = sym none ∙ one_lease to (bodies.Map body) p (subst (λ ps. Contains ps p) packets there) lease e in cc);
  }

  route_keeps : (p : Packet) (q : ReqNo) (o : Option RangeEntry) → RuleKeeps now m (route_rule m p q o)
  route_keeps p q None = silent_keeps now m s
  route_keeps p q (Some r) = one_keeps now m p.from (bodies.Map (maps.RouteIs q r.range r.holder)) refl s

  -- numbers that are given now are those of no range that has a lease
  not_next : (number k : ℕ) → k < m.next → m.next ≤ number → one_if (number == k) ≡ 0
  not_next number k below above = go (number == k) refl
    where
      go : (b : Bool) → (number == k) ≡ b → one_if b ≡ 0
      go true e = absurd (let same = eqb-true number k e in omega (arith, same, below, above))
      go false e = refl

  begin_split_keeps : (to : ActorId) (q : ReqNo) (range : ℕ) (key : List ℕ) (r : RangeEntry) → range_at m.ranges range ≡ Some r → is_split_key r.keys key ≡ true → (pair : Option (ℕ × ℕ)) → halves_at key r.pending ≡ pair →
      RuleKeeps now m (begin_split_taken m to q range key pair)
  begin_split_keeps to q range key r at splits (Some pair) is = one_keeps now m to (bodies.Map (maps.SplitBegun q pair.0 pair.1)) refl s
  begin_split_keeps to q range key r at splits None is =
      if_elim (RuleKeeps now m) (has_numbers m 2) _ _
      (λ t. changes _ to (maps.SplitBegun q m.next (m.next + 1)) refl (after_sound m (records.BeginSplit range key) (fits t) s)
      (λ lease k. begin_keeps lease now m range 2 (pendings.Split key m.next (m.next + 1)) (unused lease k) k) _ refl refl)
      (λ f. silent_keeps now m s)
    where
      fits : has_numbers m 2 ≡ true → (may_begin_split key (range_at m.ranges range) && has_numbers m 2) ≡ true
      fits t = (λ i. may_begin_split key (at i) && t i) ∙ (λ i. (splits i && is_none (is i)) && true)

      unused : (lease : Lease) → MapKeeps lease now m → one_if (m.next == lease.range) + one_if (m.next + 1 == lease.range) ≡ 0
      unused lease k =
          let below = k.numbered in
          let one = not_next m.next lease.range below (omega arith) in
          let two = not_next (m.next + 1) lease.range below (omega arith) in
          omega (arith, one, two)

  begin_split_rule_keeps : (to : ActorId) (q : ReqNo) (range generation : ℕ) (key : List ℕ) (o : Option RangeEntry) → range_at m.ranges range ≡ o → begin_split_fault generation key o ≡ None → RuleKeeps now m (begin_split_rule m to q range key o)
  begin_split_rule_keeps to q range generation key None at free = silent_keeps now m s
  begin_split_rule_keeps to q range generation key (Some r) at free =
      begin_split_keeps to q range key r at
      (not_false (is_split_key r.keys key) (none_met ((GenerationChanged, not (r.generation == generation)) ∷ (BadSplitKey, not (is_split_key r.keys key)) ∷ []) free).1.0) (halves_at key r.pending) refl

  complete_split_rule_keeps : (to : ActorId) (q : ReqNo) (range : ℕ) (o : Option RangeEntry) → range_at m.ranges range ≡ o → RuleKeeps now m (complete_split_rule m to q range o)
  complete_split_rule_keeps to q range None at = silent_keeps now m s
  complete_split_rule_keeps to q range (Some r) at = by_pending r.pending refl
    where
      by_pending : (p : Option Pending) → r.pending ≡ p → RuleKeeps now m (complete_split_taken m to q range p)
      by_pending None is = silent_keeps now m s
      by_pending (Some (pendings.Merge right into)) is = silent_keeps now m s
      by_pending (Some (pendings.Split key low high)) is =
          changes _ to (maps.SplitDone q) refl (after_sound m (records.CompleteSplit range) (ap may_complete_split at ∙ ap is_split is) s) (λ lease k. complete_split_keeps lease now m range k) _ refl refl

  begin_merge_keeps : (to : ActorId) (q : ReqNo) (left right : ℕ) (l r : RangeEntry) → range_at m.ranges left ≡ Some l → range_at m.ranges right ≡ Some r → is_beside l.keys r.keys ≡ true → is_same_holder l.holder r.holder ≡ true →
      (into : Option ℕ) → union_with right l.pending ≡ into → RuleKeeps now m (begin_merge_taken m to q left right into)
  begin_merge_keeps to q left right l r at there beside same (Some into) is = one_keeps now m to (bodies.Map (maps.MergeBegun q into)) refl s
  begin_merge_keeps to q left right l r at there beside same None is =
      if_elim (RuleKeeps now m) (has_numbers m 1) _ _
      (λ t. changes _ to (maps.MergeBegun q m.next) refl (after_sound m (records.BeginMerge left right) (fits t) s)
      (λ lease k. begin_keeps lease now (drop_pending m right) left 1 (pendings.Merge right m.next) (not_next m.next lease.range k.numbered (omega arith)) (drops lease now m right k)) _ refl refl)
      (λ f. silent_keeps now m s)
    where
      fits : has_numbers m 1 ≡ true → (may_begin_merge right (range_at m.ranges left) (range_at m.ranges right) && has_numbers m 1) ≡ true
      fits t = (λ i. may_begin_merge right (at i) (there i) && t i) ∙ (λ i. (beside i && same i && is_none (is i)) && true)

  begin_merge_rule_keeps : (to : ActorId) (q : ReqNo) (left a right b : ℕ) (l r : Option RangeEntry) → range_at m.ranges left ≡ l → range_at m.ranges right ≡ r → begin_merge_fault a b l r ≡ None → RuleKeeps now m (begin_merge_rule m to q left right l)
  begin_merge_rule_keeps to q left a right b None r at there free = silent_keeps now m s
  begin_merge_rule_keeps to q left a right b (Some l) None at there free = absurd cc
  begin_merge_rule_keeps to q left a right b (Some l) (Some r) at there free =
      let tests = none_met ((GenerationChanged, not (l.generation == a && r.generation == b)) ∷ (NotAdjacent, not (is_beside l.keys r.keys)) ∷ (NotOwner, not (is_same_holder l.holder r.holder)) ∷ []) free in
      begin_merge_keeps to q left right l r at there (not_false (is_beside l.keys r.keys) tests.1.0) (not_false (is_same_holder l.holder r.holder) tests.1.1.0) (union_with right l.pending) refl

  complete_merge_rule_keeps : (to : ActorId) (q : ReqNo) (left right : ℕ) (into : Option ℕ) → union_at m.ranges left right ≡ into → RuleKeeps now m (complete_merge_rule m to q left right into)
  complete_merge_rule_keeps to q left right None is = silent_keeps now m s
  complete_merge_rule_keeps to q left right (Some into) is =
      changes _ to (maps.MergeDone q) refl (after_sound m (records.CompleteMerge left right) (ap is_some is) s) (λ lease k. complete_merge_keeps lease now m left right k) _ refl refl

  told_keeps : (p : Packet) (body : MapBody) → RuleKeeps now m (told m p body)
  told_keeps p (maps.Route key q) = route_keeps p q (range_of_key m.ranges key)
  told_keeps p (maps.BeginSplit range generation key q) =
      called_keeps now m p q (begin_split_fault generation key (range_at m.ranges range)) (begin_split_rule m p.from q range key (range_at m.ranges range)) s
      (λ free. begin_split_rule_keeps p.from q range generation key (range_at m.ranges range) refl free)
  told_keeps p (maps.CompleteSplit range generation q) =
      called_keeps now m p q (complete_split_fault generation (range_at m.ranges range)) (complete_split_rule m p.from q range (range_at m.ranges range)) s
      (λ free. complete_split_rule_keeps p.from q range (range_at m.ranges range) refl)
  told_keeps p (maps.BeginMerge left a right b q) =
      called_keeps now m p q (begin_merge_fault a b (range_at m.ranges left) (range_at m.ranges right)) (begin_merge_rule m p.from q left right (range_at m.ranges left)) s
      (λ free. begin_merge_rule_keeps p.from q left a right b (range_at m.ranges left) (range_at m.ranges right) refl refl free)
  told_keeps p (maps.CompleteMerge left a right b q) =
      called_keeps now m p q (complete_merge_fault a b (range_at m.ranges left) (range_at m.ranges right) (union_at m.ranges left right)) (complete_merge_rule m p.from q left right (union_at m.ranges left right)) s
      (λ free. complete_merge_rule_keeps p.from q left right (union_at m.ranges left right) refl)
  told_keeps p body = silent_keeps now m s

  -- whatever the map does with a packet
  pub map_rule_keeps : (p : Packet) (body : Body) → RuleKeeps now m (map_rule m p body)
  map_rule_keeps p (bodies.Map body) = told_keeps p body
  map_rule_keeps p body = silent_keeps now m s
