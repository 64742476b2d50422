-- A range that the map is only to have was never assigned; and where it goes without having come it never is.
use Rattle.std.proofs.Common.{◌≡◌, ◌⊎◌, ℕ, suc, ◌+◌, ◌≤◌, ◌^◌, Bool, true, false, ◌==◌, nat_lt, List, [], ◌∷◌, ◌++◌, map, Option, Some, None, refl, sym, subst, inl, inr, arith}
use Rattle.std.proofs.lemmas.Bool.{eqb-true}
use Rattle.wire.specs.declared.actor.ActorId.{ActorId}
use Rattle.wire.specs.declared.actor.ReqNo.{ReqNo}
use Rattle.wire.specs.declared.body.Body.{Body}
use Rattle.wire.specs.declared.body.Body.TheVariants as bodies
use Rattle.wire.specs.declared.body.MapBody.{MapBody}
use Rattle.wire.specs.declared.body.MapBody.TheVariants as maps
use Rattle.wire.specs.declared.packet.Packet.{Packet}
use Rattle.wire.specs.declared.refusal.Refusal.{Refusal}
use Rattle.model_streams.specs.declared.event.Event.{Event}
use Rattle.model_streams.specs.declared.event.Event.TheVariants.{Submit, Deliver, Stop, Restart, Decide, GiveUp, Assign, Renew, Moment, Checkpoint, Split, Merge}
use Rattle.model_streams.specs.Outcome.{Outcome, silent}
use Rattle.model_streams.proofs.Tests.{if_elim}
use Rattle.model_partition.specs.declared.pending.Pending.{Pending}
use Rattle.model_partition.specs.declared.pending.Pending.TheVariants as pendings
use Rattle.model_partition.specs.declared.range_entry.RangeEntry.{RangeEntry}
use Rattle.model_partition.specs.Map.{MapState, range_at, range_of_key, changed_if, with_range, assigned, renewed, dropped_if, drop_pending, with_pending, begin, assign, halves_at, begin_split, halves, split_in, complete_split, union_with, union_beside, union_at, begin_merge, joined, merge_in, complete_merge}
use Rattle.model_partition.specs.MapRules.{assign_rule, renew_rule, has_numbers, begin_split_fault, begin_split_taken, begin_split_rule, complete_split_fault, complete_split_taken, complete_split_rule, begin_merge_fault, begin_merge_taken, begin_merge_rule, complete_merge_fault, complete_merge_rule, route_rule, called, told, map_rule}
use Rattle.model_partition.specs.Partition.{one_if, uses_pending, uses, IsSound}
use Rattle.model_partition.specs.Cluster.{IsUnmerged, AreUnmerged, Cluster, cluster_after, cluster_after_all, first_cluster}
use Rattle.model_partition.proofs.Numbers.{BeginsNothing, kept, dropped}
use Rattle.laws_map.specs.Naming.{Each, Knowledge, MapNames, BodyNames}
use Rattle.laws_map.specs.Generations.{IsGone}
use Rattle.laws_map.specs.Assigned.{IsNone, IsSettled, assigning, AreSettled, IsUnassigned}
use Rattle.laws_map.proofs.Knowing.{each_weaker, AllName, Extends}
use Rattle.laws_map.proofs.SplitNames.{Laws}
use Rattle.laws_map.proofs.EventNames.{RuleNames, MapLaws, AskedIn, RulesOf, names_on, event_goes, event_keeps}
use Rattle.laws_map.proofs.SoundMaps.{event_sound, first_is_sound}
use Rattle.laws_map.proofs.GivenNumbers.{below_next, entry_uses, found_given, first_cells}
use Rattle.laws_map.proofs.UsedNumbers.{MapUses, BodyUses, TellsUsed, assigns_nothing, renews_nothing, assign_uses, renew_uses, map_uses}
use Rattle.laws_map.proofs.WithinMaps.{each_map, HasNot, entry_only, itself}
use Rattle.laws_map.proofs.GenerationsInRuns.{Governs, event_governs, all_govern, first_governs}
use Rattle.laws_map.proofs.GoneRanges.{LeavesGone, leaves_gone, event_gone, leaves, found_knows, pending_bounds}

-- ---- what was settled stays so

module _ (n : ℕ) where
  abbrev Free : RangeEntry → Type 0
  Free r = IsNone n r

  -- a change that begins nothing
  change_settled : (change : RangeEntry → RangeEntry) → BeginsNothing change → (rs : List RangeEntry) → Each Free rs → Each Free (map change rs)
  change_settled change b rs all = each_map Free Free change step rs all
    where
      step : (r : RangeEntry) → Free r → Free (change r)
      step r none = elim (b.pending r) [ inl same ↦ subst (λ (p : Option Pending). uses_pending n p ≡ 0) (sym same) none | inr gone ↦ subst (λ (p : Option Pending). uses_pending n p ≡ 0) (sym gone) refl ]

  drop_settled : (m : MapState) (range : ℕ) → IsSettled m n → IsSettled (drop_pending m range) n
  drop_settled m range k = record { given = k.given; entries = change_settled (dropped_if range) (dropped range) m.ranges k.entries }

  assign_settled : (m : MapState) (range server until : ℕ) → IsSettled m n → IsSettled (assign m range server until) n
  assign_settled m range server until k = record {
    given = k.given;
    entries = change_settled (changed_if range (assigned server until)) (kept range (assigned server until) (assigns_nothing server until)) (map (dropped_if range) m.ranges) (drop_settled m range k).entries;
  }

  renew_settled : (m : MapState) (range until : ℕ) → IsSettled m n → IsSettled (with_range m range (renewed until)) n
  renew_settled m range until k = record { given = k.given; entries = change_settled (changed_if range (renewed until)) (kept range (renewed until) (renews_nothing until)) m.ranges k.entries }

  begin_settled : (m : MapState) (range count : ℕ) (pending : Pending) → uses_pending n (Some pending) ≡ 0 → IsSettled m n → IsSettled (begin m range count pending) n
  begin_settled m range count pending none k = record {
    given = let l = k.given in omega (arith, l);
    entries = each_map Free Free (changed_if range (with_pending pending)) step (map (dropped_if range) m.ranges) (drop_settled m range k).entries;
  }
    where
      step : (r : RangeEntry) → Free r → Free (changed_if range (with_pending pending) r)
      step r f = if_elim Free (r.range == range) (with_pending pending r) r (λ t. none) (λ u. f)

  pub split_in_settled : (range : ℕ) (rs : List RangeEntry) → Each Free rs → Each Free (split_in rs range)
  split_in_settled range [] k = tt
  split_in_settled range (r ∷ rs) k = if_elim (Each Free) (r.range == range) (halves r r.pending ++ rs) (r ∷ split_in rs range) (λ t. by_pending r.pending) (λ f. (k.0, split_in_settled range rs k.1))
    where
      by_pending : (p : Option Pending) → Each Free (halves r p ++ rs)
      by_pending None = k
      by_pending (Some (pendings.Merge right into)) = k
      by_pending (Some (pendings.Split key low high)) = (refl, (refl, k.1))

  merge_in_settled : (left right : ℕ) (rs : List RangeEntry) → Each Free rs → Each Free (merge_in rs left right)
  merge_in_settled left right [] k = tt
  merge_in_settled left right (l ∷ rs) k =
      if_elim (Each Free) (l.range == left) (joined l rs (union_beside right l rs)) (l ∷ merge_in rs left right) (λ t. by_union rs k.1 (union_beside right l rs)) (λ f. (k.0, merge_in_settled left right rs k.1))
    where
      by_union : (rs : List RangeEntry) → Each Free rs → (o : Option ℕ) → Each Free (joined l rs o)
      by_union [] more None = (k.0, tt)
      by_union [] more (Some into) = (k.0, tt)
      by_union (r ∷ rs) more None = (k.0, more)
      by_union (r ∷ rs) more (Some into) = (refl, more.1)

  pub not_next : (m : MapState) (number : ℕ) → m.next ≤ number → IsSettled m n → one_if (number == n) ≡ 0
  not_next m number above k = go (number == n) refl
    where
      go : (b : Bool) → (number == n) ≡ b → one_if b ≡ 0
      go true e = absurd (let same = eqb-true number n e in let below = k.given in omega (arith, same, below, above))
      go false e = refl

-- ---- the rules of the map

module _ (m : MapState) (s : IsSound m) where
  abbrev S : MapState → Knowledge
  S a = assigning (IsSettled a)

  abbrev Settles : Outcome MapState → Type 0
  Settles o = RuleNames S m o

  extends : (a : MapState) → ((n : ℕ) → IsSettled m n → IsSettled a n) → Extends (S m) (S a)
  extends a on = record {
    knows = λ n g k. tt;
    assigned = λ n g k. on n k;
    asked = λ q n g key k. tt;
    begun = λ q low high k. tt;
    splits = λ n g key low high k. tt;
    numbers = λ n k. tt;
    merges = λ n g k. tt;
  }

  same_map : Extends (S m) (S m)
  same_map = extends m (λ n k. k)

  -- an entry's own number is settled
  pub found_settled : (n : ℕ) (x : RangeEntry) → range_at m.ranges n ≡ Some x → IsSettled m n
  found_settled n x at = record { given = found_given m s n x at; entries = each_weaker (λ (r : RangeEntry). (r ≡ x) ⊎ HasNot n r) (IsNone n) step m.ranges (entry_only m s n x at) }
    where
      step : (r : RangeEntry) → (r ≡ x) ⊎ HasNot n r → IsNone n r
      step r (inl same) = subst (IsNone n) (sym same) (itself m s n x at)
      step r (inr none) = none.1

  silent_settles : Settles (silent m)
  silent_settles = record { extends = same_map; packets = tt }

  called_settles : (p : Packet) (q : ReqNo) (fault : Option Refusal) (o : Outcome MapState) → Settles o → Settles (called m p q fault o)
  called_settles p q (Some refusal) o taken = record { extends = same_map; packets = (tt, tt) }
  called_settles p q None o taken = taken

  pub assign_settles : (n server until : ℕ) (o : Option RangeEntry) → range_at m.ranges n ≡ o → Settles (assign_rule m n server until o)
  assign_settles n server until None at = silent_settles
  assign_settles n server until (Some x) at =
      if_elim Settles (nat_lt (suc x.generation) (2 ^ 64)) _ _
      (λ t. record { extends = extends (assign m n server until) (λ j k. assign_settled j m n server until k); packets = (assign_settled n m n server until (found_settled n x at), tt) }) (λ f. silent_settles)

  pub renew_settles : (n server until : ℕ) (o : Option RangeEntry) → range_at m.ranges n ≡ o → Settles (renew_rule m n server until o)
  renew_settles n server until None at = silent_settles
  renew_settles n server until (Some x) at =
      record { extends = extends (with_range m n (renewed until)) (λ j k. renew_settled j m n until k); packets = (renew_settled n m n until (found_settled n x at), tt) }

  route_settles : (p : Packet) (q : ReqNo) (o : Option RangeEntry) → Settles (route_rule m p q o)
  route_settles p q None = silent_settles
  route_settles p q (Some r) = record { extends = same_map; packets = (tt, tt) }

  begin_split_settles : (to : ActorId) (q : ReqNo) (n : ℕ) (key : List ℕ) (pair : Option (ℕ × ℕ)) → Settles (begin_split_taken m to q n key pair)
  begin_split_settles to q n key (Some pair) = record { extends = same_map; packets = (tt, tt) }
  begin_split_settles to q n key None =
      if_elim Settles (has_numbers m 2) _ _
      (λ t. record {
        extends = extends (begin_split m n key)
            (λ j k. begin_settled j m n 2 (pendings.Split key m.next (m.next + 1)) (let a = not_next j m m.next (omega arith) k in let b = not_next j m (m.next + 1) (omega arith) k in omega (arith, a, b)) k);
        packets = (tt, tt);
      })
      (λ f. silent_settles)

  begin_split_rule_settles : (to : ActorId) (q : ReqNo) (n : ℕ) (key : List ℕ) (o : Option RangeEntry) → Settles (begin_split_rule m to q n key o)
  begin_split_rule_settles to q n key None = silent_settles
  begin_split_rule_settles to q n key (Some x) = begin_split_settles to q n key (halves_at key x.pending)

  complete_split_settles : (to : ActorId) (q : ReqNo) (n : ℕ) (o : Option RangeEntry) → Settles (complete_split_rule m to q n o)
  complete_split_settles to q n None = silent_settles
  complete_split_settles to q n (Some r) = by_pending r.pending
    where
      by_pending : (p : Option Pending) → Settles (complete_split_taken m to q n p)
      by_pending None = silent_settles
      by_pending (Some (pendings.Merge right into)) = silent_settles
      by_pending (Some (pendings.Split key low high)) =
          record { extends = extends (complete_split m n) (λ j k. record { given = k.given; entries = split_in_settled j n m.ranges k.entries }); packets = (tt, tt) }

  begin_merge_settles : (to : ActorId) (q : ReqNo) (left right : ℕ) (into : Option ℕ) → Settles (begin_merge_taken m to q left right into)
  begin_merge_settles to q left right (Some into) = record { extends = same_map; packets = (tt, tt) }
  begin_merge_settles to q left right None =
      if_elim Settles (has_numbers m 1) _ _
      (λ t. record {
        extends = extends (begin_merge m left right) (λ j k. begin_settled j (drop_pending m right) left 1 (pendings.Merge right m.next) (not_next j m m.next (omega arith) k) (drop_settled j m right k));
        packets = (tt, tt);
      })
      (λ f. silent_settles)

  begin_merge_rule_settles : (to : ActorId) (q : ReqNo) (left right : ℕ) (l : Option RangeEntry) → Settles (begin_merge_rule m to q left right l)
  begin_merge_rule_settles to q left right None = silent_settles
  begin_merge_rule_settles to q left right (Some l) = begin_merge_settles to q left right (union_with right l.pending)

  complete_merge_settles : (to : ActorId) (q : ReqNo) (left right : ℕ) (into : Option ℕ) → Settles (complete_merge_rule m to q left right into)
  complete_merge_settles to q left right None = silent_settles
  complete_merge_settles to q left right (Some into) =
      record { extends = extends (complete_merge m left right) (λ j k. record { given = k.given; entries = merge_in_settled j left right m.ranges k.entries }); packets = (tt, tt) }

  told_settles : (p : Packet) (body : MapBody) → Settles (told m p body)
  told_settles p (maps.Route key q) = route_settles p q (range_of_key m.ranges key)
  told_settles p (maps.BeginSplit n generation key q) = called_settles p q (begin_split_fault generation key (range_at m.ranges n)) _ (begin_split_rule_settles p.from q n key (range_at m.ranges n))
  told_settles p (maps.CompleteSplit n generation q) = called_settles p q (complete_split_fault generation (range_at m.ranges n)) _ (complete_split_settles p.from q n (range_at m.ranges n))
  told_settles p (maps.BeginMerge left a right b q) =
      called_settles p q (begin_merge_fault a b (range_at m.ranges left) (range_at m.ranges right)) _ (begin_merge_rule_settles p.from q left right (range_at m.ranges left))
  told_settles p (maps.CompleteMerge left a right b q) =
      called_settles p q (complete_merge_fault a b (range_at m.ranges left) (range_at m.ranges right) (union_at m.ranges left right)) _ (complete_merge_settles p.from q left right (union_at m.ranges left right))
  told_settles p body = silent_settles

  pub map_settles : (p : Packet) (body : Body) → Settles (map_rule m p body)
  map_settles p (bodies.Map body) = told_settles p body
  map_settles p body = silent_settles

-- of assignments alone there is nothing else to know
assigning_laws : (assigned : ℕ → Type 0) → Laws (assigning assigned)
assigning_laws assigned = record {
  leased = λ range generation k. tt;
  tells = λ q w range generation key low high a same b. tt;
  low = λ range generation key low high k. tt;
  high = λ range generation key low high k. tt;
}

settled_laws : (m : MapState) → IsSound m → MapLaws (λ a. assigning (IsSettled a)) m
settled_laws m s = record {
  laws = assigning_laws (IsSettled m);
  users = tt;
  assigns = λ n server until. assign_settles m s n server until (range_at m.ranges n) refl;
  renews = λ n server until. renew_settles m s n server until (range_at m.ranges n) refl;
  takes = λ p names. map_settles m s p p.body;
}

-- ---- runs

asks_nothing : (K : MapState → ℕ → Type 0) (c : Cluster) (event : Event) → IsUnmerged event → AskedIn (λ a. assigning (K a)) c event
asks_nothing K c (Split s range key) unmerged = λ cell at st is r sent. tt
asks_nothing K c (Submit user to body) unmerged = tt
asks_nothing K c (Deliver number) unmerged = tt
asks_nothing K c (Stop actor call keep) unmerged = tt
asks_nothing K c (Restart actor) unmerged = tt
asks_nothing K c (Decide e) unmerged = tt
asks_nothing K c (GiveUp server range pick) unmerged = tt
asks_nothing K c (Assign range server until) unmerged = tt
asks_nothing K c (Renew range server until) unmerged = tt
asks_nothing K c (Moment now) unmerged = tt
asks_nothing K c (Checkpoint server range combine) unmerged = tt
asks_nothing K c (Merge server left right) unmerged = absurd unmerged

all_settled : (events : List Event) → AreUnmerged events → (c : Cluster) → IsSound c.map → AreSettled c → AreSettled (cluster_after_all c events)
all_settled [] are c s n = n
all_settled (event ∷ events) are c s n =
    all_settled events are.1 (cluster_after c event) (event_sound c event s)
    (event_keeps (λ a. assigning (IsSettled a)) c (settled_laws c.map s) n event (asks_nothing (λ a. IsSettled a) c event are.0))

-- In every run without merges no range that was assigned, or that a server holds, is one that the map is only to have.
pub run_is_settled : (nodes servers target batch : ℕ) (events : List Event) → AreUnmerged events → AreSettled (cluster_after_all (first_cluster nodes servers target batch) events)
run_is_settled nodes servers target batch events are =
    let c : Cluster = first_cluster nodes servers target batch in
    all_settled events are c first_is_sound (record { post = λ p there. absurd (let less = there.1 in omega (arith, less)); servers = first_cells (assigning (IsSettled c.map)) batch 1 servers; catalog = λ range kind x is. tt })

-- ---- a range that is to come

-- while it is to come nobody was assigned it
pending_unassigned : (c : Cluster) (range at : ℕ) (x : RangeEntry) → range_at c.map.ranges at ≡ Some x → 1 ≤ uses_pending range x.pending → AreSettled c → IsUnassigned range c
pending_unassigned c range at x found pending n =
    names_on (assigning (IsSettled c.map)) (assigning (λ j. j ≡ range → ⊥)) (record {
      knows = λ j g k. tt;
      assigned = λ j g k same. (let none = found_knows (IsNone j) at c.map.ranges x k.entries found in let e : uses_pending range x.pending ≡ 0 = subst (λ i. uses_pending i x.pending ≡ 0) same none in absurd (omega (arith, e, pending)));
      asked = λ q j g key k. tt;
      begun = λ q low high k. tt;
      splits = λ j g key low high k. tt;
      numbers = λ j k. tt;
      merges = λ j g k. tt;
    }) c n

-- nothing is told of one that is gone
module _ (range : ℕ) (a : MapState) (gone : IsGone range a) where
  map_tells : (body : MapBody) → MapUses a body → MapNames (assigning (λ j. j ≡ range → ⊥)) body
  map_tells (maps.Assign n generation until) u = λ is. absurd (let none : uses n a.ranges ≡ 0 = subst (λ k. uses k a.ranges ≡ 0) (sym is) gone.1 in omega (arith, u, none))
  map_tells (maps.Renew n generation until) u = λ is. absurd (let none : uses n a.ranges ≡ 0 = subst (λ k. uses k a.ranges ≡ 0) (sym is) gone.1 in omega (arith, u, none))
  map_tells (maps.BeginSplit n generation key q) u = absurd u
  map_tells (maps.CompleteSplit n generation q) u = absurd u
  map_tells (maps.BeginMerge left b right g q) u = absurd u
  map_tells (maps.CompleteMerge left b right g q) u = absurd u
  map_tells body u = tt

  body_tells : (body : Body) → BodyUses a body → BodyNames (assigning (λ j. j ≡ range → ⊥)) body
  body_tells (bodies.Map body) u = map_tells body u
  body_tells (bodies.Stream body) u = absurd u
  body_tells body u = tt

  all_tell : (ps : List Packet) → Each (λ (p : Packet). BodyUses a p.body) ps → AllName (assigning (λ j. j ≡ range → ⊥)) ps
  all_tell [] u = tt
  all_tell (p ∷ ps) u = (body_tells p.body u.0, all_tell ps u.1)

rule_unassigned : (range : ℕ) (m : MapState) (o : Outcome MapState) → IsGone range o.after → TellsUsed o → RuleNames (λ a. assigning (λ j. j ≡ range → ⊥)) m o
rule_unassigned range m o gone u = record {
  extends = record { knows = λ n g k. k; assigned = λ n g k. k; asked = λ q n g key k. k; begun = λ q low high k. k; splits = λ n g key low high k. k; numbers = λ n k. k; merges = λ n g k. k };
  packets = all_tell range o.after gone o.packets u;
}

module _ (range bound : ℕ) (c : Cluster) (g : Governs c) (n : IsUnassigned range c) where
  rules : (event : Event) → LeavesGone range bound c g event → RulesOf (λ a. assigning (λ j. j ≡ range → ⊥)) c event
  rules (Deliver number) leaves = λ p at names. rule_unassigned range c.map _ (leaves p at) (map_uses c.map g.sound p p.body)
  rules (Assign k server until) leaves = rule_unassigned range c.map _ leaves (assign_uses c.map g.sound k server until (range_at c.map.ranges k) refl)
  rules (Renew k server until) leaves = rule_unassigned range c.map _ leaves (renew_uses c.map g.sound k server until (range_at c.map.ranges k) refl)
  rules (Submit user to body) leaves = tt
  rules (Stop actor call keep) leaves = tt
  rules (Restart actor) leaves = tt
  rules (Decide e) leaves = tt
  rules (GiveUp server k pick) leaves = tt
  rules (Moment now) leaves = tt
  rules (Checkpoint server k combine) leaves = tt
  rules (Split server k key) leaves = tt
  rules (Merge server left right) leaves = tt

  event_unassigned : (event : Event) → IsUnmerged event → LeavesGone range bound c g event → IsUnassigned range (cluster_after c event)
  event_unassigned event unmerged leaves = event_goes (λ a. assigning (λ j. j ≡ range → ⊥)) c (assigning_laws (λ j. j ≡ range → ⊥)) tt n event (rules event leaves) (asks_nothing (λ a j. j ≡ range → ⊥) c event unmerged)

never_assigned : (range : ℕ) (events : List Event) → AreUnmerged events → (c : Cluster) → Governs c → IsGone range c.map → IsUnassigned range c → IsUnassigned range (cluster_after_all c events)
never_assigned range [] are c g gone n = n
never_assigned range (event ∷ events) are c g gone n =
    never_assigned range events are.1 (cluster_after c event) (event_governs c event are.0 g) (event_gone range 0 c g gone event)
    (event_unassigned range 0 c g n event are.0 (leaves_gone range 0 c g gone event))

-- A range that the map was to have, and that is gone after the next event, was never assigned and never is, and no server ever holds it.
pub run_never_assigns : (nodes servers target batch : ℕ) (events : List Event) (event : Event) (later : List Event) (range at : ℕ) (x : RangeEntry) →
    AreUnmerged events → IsUnmerged event → AreUnmerged later → range_at (cluster_after_all (first_cluster nodes servers target batch) events).map.ranges at ≡ Some x → 1 ≤ uses_pending range x.pending →
    IsGone range (cluster_after (cluster_after_all (first_cluster nodes servers target batch) events) event).map →
    IsUnassigned range (cluster_after_all (cluster_after (cluster_after_all (first_cluster nodes servers target batch) events) event) later)
run_never_assigns nodes servers target batch events event later range at x are is will found pending gone =
    let c : Cluster = cluster_after_all (first_cluster nodes servers target batch) events in
    let g : Governs c = all_govern events are (first_cluster nodes servers target batch) (first_governs nodes servers target batch) in
    let l = entry_uses range at c.map.ranges x found in
    let used : 1 ≤ uses range c.map.ranges = omega (arith, l, pending) in
    let n = pending_unassigned c range at x found pending (run_is_settled nodes servers target batch events are) in
    let drops = leaves range x.generation c g (below_next c.map range g.sound.fresh used) used (pending_bounds c.map range at x found pending) event gone in
    never_assigned range later will (cluster_after c event) (event_governs c event is g) gone (event_unassigned range x.generation c g n event is drops)
