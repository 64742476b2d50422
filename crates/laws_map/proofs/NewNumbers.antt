-- No range that a split makes has the number of one that the map has had, as of the first.
use Rattle.std.proofs.Common.{◌≡◌, ◌∙◌, ◌+◌, ℕ, suc, inl, inr, Bool, true, false, ◌==◌, ◌^◌, nat_lt, List, [], ◌∷◌, Option, Some, None, Contains, refl, sym, ap, arith}
use Rattle.std.proofs.lemmas.Bool.{eqb-false}
use Rattle.wire.specs.declared.actor.ActorId.{ActorId}
use Rattle.wire.specs.declared.actor.ActorId.TheVariants.{Map}
use Rattle.wire.specs.declared.actor.ReqNo.{ReqNo}
use Rattle.wire.specs.declared.body.Body.{Body}
use Rattle.wire.specs.declared.body.Body.TheVariants as bodies
use Rattle.wire.specs.declared.body.MapBody.{MapBody}
use Rattle.wire.specs.declared.body.MapBody.TheVariants as maps
use Rattle.wire.specs.declared.packet.Packet.{Packet}
use Rattle.wire.specs.declared.refusal.Refusal.{Refusal}
use Rattle.model_streams.specs.declared.event.Event.{Event}
use Rattle.model_streams.specs.declared.event.Event.TheVariants.{Deliver, Assign, Renew, Split, Merge}
use Rattle.model_streams.specs.Outcome.{Outcome, packet, silent}
use Rattle.model_streams.proofs.Tests.{if_elim}
use Rattle.model_partition.specs.declared.pending.Pending.{Pending}
use Rattle.model_partition.specs.declared.pending.Pending.TheVariants as pendings
use Rattle.model_partition.specs.declared.range_entry.RangeEntry.{RangeEntry}
use Rattle.model_partition.specs.Past.{first_range}
use Rattle.model_partition.specs.Map.{MapState, range_at, range_of_key, halves_at, union_with, union_at}
use Rattle.model_partition.specs.MapRules.{assign_rule, renew_rule, has_numbers, begin_split_fault, begin_split_taken, begin_split_rule, complete_split_fault, complete_split_taken, complete_split_rule, begin_merge_fault, begin_merge_taken, begin_merge_rule, complete_merge_fault, complete_merge_rule, route_rule, called, told, map_rule}
use Rattle.model_partition.specs.Partition.{one_if, uses_pending, IsSound}
use Rattle.model_partition.specs.Cluster.{Cluster, cluster_after, cluster_after_all, first_cluster, IsUnmerged, AreUnmerged}
use Rattle.laws_map.specs.Naming.{Knowledge}
use Rattle.laws_map.specs.Assigned.{IsNone, IsSettled}
use Rattle.laws_map.specs.NewNumbers.{apart_from, IsTaken}
use Rattle.laws_map.proofs.Knowing.{Extends}
use Rattle.laws_map.proofs.EventNames.{RuleNames, MapLaws, AskedIn, event_keeps}
use Rattle.laws_map.proofs.SoundMaps.{RuleLeaves, event_leaves, event_sound, first_is_sound}
use Rattle.laws_map.proofs.GivenNumbers.{halves_pending, first_cells}
use Rattle.laws_map.proofs.GoneRanges.{found_knows}
use Rattle.laws_map.proofs.Unassigned.{not_next, map_settles, assign_settles, renew_settles}

-- ---- the rules of the map

module _ (m : MapState) (s : IsSound m) (n : ℕ) (k : IsSettled m n) where
  abbrev N : MapState → Knowledge
  N a = apart_from n

  abbrev Apart : Outcome MapState → Type 0
  Apart o = RuleNames N m o

  same_apart : Extends (apart_from n) (apart_from n)
  same_apart = record {
    knows = λ i g x. x;
    assigned = λ i g x. x;
    asked = λ q i g key x. x;
    begun = λ q low high x. x;
    splits = λ i g key low high x. x;
    numbers = λ i x. x;
    merges = λ i g x. x;
  }

  none_apart : (o : Outcome MapState) → o.packets ≡ [] → Apart o
  none_apart o is = record { extends = same_apart; packets = rw is tt }

  called_apart : (p : Packet) (q : ReqNo) (fault : Option Refusal) (o : Outcome MapState) → Apart o → Apart (called m p q fault o)
  called_apart p q (Some refusal) o taken = record { extends = same_apart; packets = (tt, tt) }
  called_apart p q None o taken = taken

  -- a number that is used once at least is not this one, where this one is not used
  other_than : (number : ℕ) → one_if (number == n) ≡ 0 → number ≡ n → ⊥
  other_than number none same = go (number == n) refl
    where
      go : (b : Bool) → (number == n) ≡ b → ⊥
      go true e = let c : 1 ≡ 0 = sym (ap one_if e) ∙ none in cc
      go false e = eqb-false number n e same

  pair_apart : (at key : List ℕ) (x : RangeEntry) (low high : ℕ) → IsNone n x → x.pending ≡ Some (pendings.Split at low high) → (low ≡ n → ⊥) × (high ≡ n → ⊥)
  pair_apart at key x low high none pending =
      let sum : one_if (low == n) + one_if (high == n) ≡ 0 = sym (ap (uses_pending n) pending) ∙ none in
      (other_than low (omega (arith, sum)), other_than high (omega (arith, sum)))

  assign_apart : (range server until : ℕ) (o : Option RangeEntry) → Apart (assign_rule m range server until o)
  assign_apart range server until None = none_apart (silent m) refl
  assign_apart range server until (Some x) = if_elim Apart (nat_lt (suc x.generation) (2 ^ 64)) _ _ (λ t. record { extends = same_apart; packets = (tt, tt) }) (λ f. none_apart (silent m) refl)

  renew_apart : (range server until : ℕ) (o : Option RangeEntry) → Apart (renew_rule m range server until o)
  renew_apart range server until None = none_apart (silent m) refl
  renew_apart range server until (Some x) = record { extends = same_apart; packets = (tt, tt) }

  route_apart : (p : Packet) (q : ReqNo) (o : Option RangeEntry) → Apart (route_rule m p q o)
  route_apart p q None = none_apart (silent m) refl
  route_apart p q (Some r) = record { extends = same_apart; packets = (tt, tt) }

  begin_split_apart : (to : ActorId) (q : ReqNo) (range : ℕ) (key : List ℕ) (x : RangeEntry) → range_at m.ranges range ≡ Some x → (pair : Option (ℕ × ℕ)) → halves_at key x.pending ≡ pair → Apart (begin_split_taken m to q range key pair)
  begin_split_apart to q range key x at (Some pair) halves =
      let (place, pending, same) = halves_pending m s key x.pending pair halves in
      record { extends = same_apart; packets = (pair_apart place key x pair.0 pair.1 (found_knows (IsNone n) range m.ranges x k.entries at) pending, tt) }
  begin_split_apart to q range key x at None halves =
      if_elim Apart (has_numbers m 2) _ _
      (λ t. record { extends = same_apart; packets = ((other_than m.next (not_next n m m.next (omega arith) k), other_than (m.next + 1) (not_next n m (m.next + 1) (omega arith) k)), tt) })
      (λ f. none_apart (silent m) refl)

  begin_split_rule_apart : (to : ActorId) (q : ReqNo) (range : ℕ) (key : List ℕ) (o : Option RangeEntry) → range_at m.ranges range ≡ o → Apart (begin_split_rule m to q range key o)
  begin_split_rule_apart to q range key None at = none_apart (silent m) refl
  begin_split_rule_apart to q range key (Some x) at = begin_split_apart to q range key x at (halves_at key x.pending) refl

  complete_split_apart : (to : ActorId) (q : ReqNo) (range : ℕ) (o : Option RangeEntry) → Apart (complete_split_rule m to q range o)
  complete_split_apart to q range None = none_apart (silent m) refl
  complete_split_apart to q range (Some r) = by_pending r.pending
    where
      by_pending : (p : Option Pending) → Apart (complete_split_taken m to q range p)
      by_pending None = none_apart (silent m) refl
      by_pending (Some (pendings.Merge right into)) = none_apart (silent m) refl
      by_pending (Some (pendings.Split key low high)) = record { extends = same_apart; packets = (tt, tt) }

  begin_merge_apart : (to : ActorId) (q : ReqNo) (left right : ℕ) (into : Option ℕ) → Apart (begin_merge_taken m to q left right into)
  begin_merge_apart to q left right (Some into) = record { extends = same_apart; packets = (tt, tt) }
  begin_merge_apart to q left right None = if_elim Apart (has_numbers m 1) _ _ (λ t. record { extends = same_apart; packets = (tt, tt) }) (λ f. none_apart (silent m) refl)

  begin_merge_rule_apart : (to : ActorId) (q : ReqNo) (left right : ℕ) (l : Option RangeEntry) → Apart (begin_merge_rule m to q left right l)
  begin_merge_rule_apart to q left right None = none_apart (silent m) refl
  begin_merge_rule_apart to q left right (Some l) = begin_merge_apart to q left right (union_with right l.pending)

  complete_merge_apart : (to : ActorId) (q : ReqNo) (left right : ℕ) (into : Option ℕ) → Apart (complete_merge_rule m to q left right into)
  complete_merge_apart to q left right None = none_apart (silent m) refl
  complete_merge_apart to q left right (Some into) = record { extends = same_apart; packets = (tt, tt) }

  told_apart : (p : Packet) (body : MapBody) → Apart (told m p body)
  told_apart p (maps.Route key q) = route_apart p q (range_of_key m.ranges key)
  told_apart p (maps.BeginSplit range generation key q) =
      called_apart p q (begin_split_fault generation key (range_at m.ranges range)) _ (begin_split_rule_apart p.from q range key (range_at m.ranges range) refl)
  told_apart p (maps.CompleteSplit range generation q) =
      called_apart p q (complete_split_fault generation (range_at m.ranges range)) _ (complete_split_apart p.from q range (range_at m.ranges range))
  told_apart p (maps.BeginMerge left a right b q) =
      called_apart p q (begin_merge_fault a b (range_at m.ranges left) (range_at m.ranges right)) _ (begin_merge_rule_apart p.from q left right (range_at m.ranges left))
  told_apart p (maps.CompleteMerge left a right b q) =
      called_apart p q (complete_merge_fault a b (range_at m.ranges left) (range_at m.ranges right) (union_at m.ranges left right)) _ (complete_merge_apart p.from q left right (union_at m.ranges left right))
  told_apart p body = none_apart (silent m) refl

  map_apart : (p : Packet) (body : Body) → Apart (map_rule m p body)
  map_apart p (bodies.Map body) = told_apart p body
  map_apart p body = none_apart (silent m) refl

  apart_laws : MapLaws (λ a. apart_from n) m
  apart_laws = record {
    laws = record { leased = λ range generation x. tt; tells = λ q w range generation key low high a same b. b; low = λ range generation key low high x. tt; high = λ range generation key low high x. tt };
    users = tt;
    assigns = λ range server until. assign_apart range server until (range_at m.ranges range);
    renews = λ range server until. renew_apart range server until (range_at m.ranges range);
    takes = λ p names. map_apart p p.body;
  }

-- ---- runs

module _ (n : ℕ) where
  asks_apart : (c : Cluster) (event : Event) → IsUnmerged event → AskedIn (λ a. apart_from n) c event
  asks_apart c (Split s range key) unmerged = λ cell at st is r sent. tt
  asks_apart c (Merge server left right) unmerged = absurd unmerged
  asks_apart c event unmerged = tt

  -- what was settled stays so through the rule of the map that an event is
  pub settled_leaves : (c : Cluster) (s : IsSound c.map) (k : IsSettled c.map n) (event : Event) → RuleLeaves (λ a. IsSettled a n) c k event
  settled_leaves c s k (Deliver number) = λ p at. (map_settles c.map s p p.body).extends.assigned n 0 k
  settled_leaves c s k (Assign range server until) = (assign_settles c.map s range server until (range_at c.map.ranges range) refl).extends.assigned n 0 k
  settled_leaves c s k (Renew range server until) = λ free. (renew_settles c.map s range server until (range_at c.map.ranges range) refl).extends.assigned n 0 k
  settled_leaves c s k event = tt

  -- a number that is taken stays so
  pub taken_on : (c : Cluster) (event : Event) → IsUnmerged event → IsTaken n c → IsTaken n (cluster_after c event)
  taken_on c event unmerged x = record {
    sound = event_sound c event x.sound;
    settled = event_leaves (λ a. IsSettled a n) c x.settled event (settled_leaves c x.sound x.settled event);
    names = event_keeps (λ a. apart_from n) c (apart_laws c.map x.sound n x.settled) x.names event (asks_apart c event unmerged);
  }

  pub all_taken : (events : List Event) → AreUnmerged events → (c : Cluster) → IsTaken n c → IsTaken n (cluster_after_all c events)
  all_taken [] unmerged c x = x
  all_taken (event ∷ events) unmerged c x = all_taken events unmerged.1 (cluster_after c event) (taken_on c event unmerged.0 x)

  -- so the map tells of no split that gives it away
  pub taken_told : (c : Cluster) → IsTaken n c → (to : ActorId) (q : ReqNo) (low high : ℕ) → Contains c.stream_layer.post (packet Map to (bodies.Map (maps.SplitBegun q low high))) → (low ≡ n → ⊥) × (high ≡ n → ⊥)
  taken_told c x to q low high there = elim (x.names.post (packet Map to (bodies.Map (maps.SplitBegun q low high))) there) [ inl asks ↦ absurd (let u = asks.0 in cc) | inr names ↦ names ]

pub first_is_taken : (nodes servers target batch : ℕ) → IsTaken first_range (first_cluster nodes servers target batch)
first_is_taken nodes servers target batch = record {
  sound = first_is_sound;
  settled = record { given = omega arith; entries = (refl, tt) };
  names = record { post = λ p there. absurd (let less = there.1 in omega (arith, less)); servers = first_cells (apart_from first_range) batch 1 servers; catalog = λ range kind x is. tt };
}

-- In every run without merges the map gives the number of the first range to no other.
pub run_takes_first : (nodes servers target batch : ℕ) (events : List Event) → AreUnmerged events → IsTaken first_range (cluster_after_all (first_cluster nodes servers target batch) events)
run_takes_first nodes servers target batch events unmerged = all_taken first_range events unmerged (first_cluster nodes servers target batch) (first_is_taken nodes servers target batch)
