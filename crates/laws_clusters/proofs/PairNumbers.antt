-- In a run without merges the two numbers of each split are twice a number and the next one, so no two splits share one of theirs.
use Rattle.std.proofs.Common.{◌≡◌, ℕ, suc, ◌+◌, ◌≤◌, ◌^◌, true, false, ◌==◌, nat_lt, List, [], ◌∷◌, ◌++◌, map, Option, Some, None, refl, sym, subst, inl, inr, arith}
use Rattle.wire.specs.declared.actor.ActorId.{ActorId}
use Rattle.wire.specs.declared.actor.ReqNo.{ReqNo}
use Rattle.wire.specs.declared.body.Body.{Body}
use Rattle.wire.specs.declared.body.Body.TheVariants as bodies
use Rattle.wire.specs.declared.body.MapBody.{MapBody}
use Rattle.wire.specs.declared.body.MapBody.TheVariants as maps
use Rattle.wire.specs.declared.packet.Packet.{Packet}
use Rattle.wire.specs.declared.refusal.Refusal.{Refusal}
use Rattle.model_streams.specs.declared.event.Event.{Event}
use Rattle.model_streams.specs.declared.event.Event.TheVariants.{Deliver, Assign, Renew, Split, Merge}
use Rattle.model_streams.specs.Outcome.{Outcome, silent}
use Rattle.model_streams.specs.StreamSystem.{is_request}
use Rattle.model_streams.proofs.Tests.{if_elim}
use Rattle.model_partition.specs.declared.pending.Pending.{Pending}
use Rattle.model_partition.specs.declared.pending.Pending.TheVariants as pendings
use Rattle.model_partition.specs.declared.range_entry.RangeEntry.{RangeEntry}
use Rattle.model_partition.specs.Map.{MapState, range_at, range_of_key, changed_if, assigned, renewed, dropped_if, with_pending, halves_at, halves, split_in}
use Rattle.model_partition.specs.MapRules.{assign_rule, renew_rule, has_numbers, begin_split_fault, begin_split_taken, begin_split_rule, complete_split_fault, complete_split_taken, complete_split_rule, route_rule, called, told, map_rule}
use Rattle.model_partition.specs.Partition.{IsSound}
use Rattle.model_partition.specs.Cluster.{IsUnmerged, AreUnmerged, Cluster, cluster_after, cluster_after_all, first_cluster}
use Rattle.model_partition.proofs.Numbers.{BeginsNothing, kept, dropped}
use Rattle.laws_streams.proofs.Choices.{contains_get}
use Rattle.laws_map.specs.Naming.{Each, Knowledge, BodyNames, PacketNames, Names}
use Rattle.laws_map.proofs.EventNames.{RuleNames, AskedIn, RulesOf, event_goes}
use Rattle.laws_map.proofs.GivenNumbers.{first_cells, halves_pending}
use Rattle.laws_map.proofs.GoneRanges.{found_knows}
use Rattle.laws_map.proofs.Knowing.{AllName, Extends}
use Rattle.laws_map.proofs.SoundMaps.{RuleLeaves, event_leaves, event_sound, first_is_sound}
use Rattle.laws_map.proofs.SplitNames.{Laws}
use Rattle.laws_map.proofs.UsedNumbers.{assigns_nothing, renews_nothing}
use Rattle.laws_map.proofs.WithinMaps.{each_map}

-- twice a number, and the next one
abbrev pub IsPair : ℕ → ℕ → Type 0
IsPair low high = (k : ℕ) × (low ≡ k + k) × (high ≡ suc (k + k)) × (1 ≤ k)

abbrev PendingPairs : Option Pending → Type 0
PendingPairs (Some (pendings.Split key low high)) = IsPair low high
PendingPairs pending = Unit {0}

abbrev EntryIsPaired : RangeEntry → Type 0
EntryIsPaired r = PendingPairs r.pending

-- the next number is twice a number, and so are the splits that are pending
record ArePairs (m : MapState) : Type 0 where
  next : (k : ℕ) × (m.next ≡ k + k) × (1 ≤ k)
  entries : Each EntryIsPaired m.ranges

-- of each split, and of what is told of one, it is so; and nothing is merged
abbrev pub pairs : Knowledge
pairs =
    record {
      knows = λ range generation. Unit {0};
      assigned = λ range generation. Unit {0};
      asked = λ q range generation key. Unit {0};
      begun = λ q low high. IsPair low high;
      splits = λ range generation key low high. IsPair low high;
      numbers = λ range. Unit {0};
      merges = λ range generation. ⊥;
    }

pairs_laws : Laws pairs
pairs_laws = record {
  leased = λ range generation k. tt;
  tells = λ q w range generation key low high a same b. b;
  low = λ range generation key low high k. tt;
  high = λ range generation key low high k. tt;
}

same_pairs : Extends pairs pairs
same_pairs = record {
  knows = λ range generation k. k;
  assigned = λ range generation k. k;
  asked = λ q range generation key k. k;
  begun = λ q low high k. k;
  splits = λ range generation key low high k. k;
  numbers = λ range k. k;
  merges = λ range generation k. k;
}

-- ---- changes

change_pairs : (change : RangeEntry → RangeEntry) → BeginsNothing change → (rs : List RangeEntry) → Each EntryIsPaired rs → Each EntryIsPaired (map change rs)
change_pairs change b rs all = each_map EntryIsPaired EntryIsPaired change step rs all
  where
    step : (r : RangeEntry) → EntryIsPaired r → EntryIsPaired (change r)
    step r pair = elim (b.pending r) [ inl same ↦ subst PendingPairs (sym same) pair | inr gone ↦ subst PendingPairs (sym gone) tt ]

begin_pairs : (range : ℕ) (pending : Pending) (rs : List RangeEntry) → PendingPairs (Some pending) → Each EntryIsPaired rs → Each EntryIsPaired (map (changed_if range (with_pending pending)) (map (dropped_if range) rs))
begin_pairs range pending rs pair all = each_map EntryIsPaired EntryIsPaired (changed_if range (with_pending pending)) step (map (dropped_if range) rs) (change_pairs (dropped_if range) (dropped range) rs all)
  where
    step : (r : RangeEntry) → EntryIsPaired r → EntryIsPaired (changed_if range (with_pending pending) r)
    step r old = if_elim EntryIsPaired (r.range == range) (with_pending pending r) r (λ t. pair) (λ f. old)

split_in_pairs : (range : ℕ) (rs : List RangeEntry) → Each EntryIsPaired rs → Each EntryIsPaired (split_in rs range)
split_in_pairs range [] all = tt
split_in_pairs range (r ∷ rs) all = if_elim (Each EntryIsPaired) (r.range == range) (halves r r.pending ++ rs) (r ∷ split_in rs range) (λ t. by_pending r.pending) (λ f. (all.0, split_in_pairs range rs all.1))
  where
    by_pending : (p : Option Pending) → Each EntryIsPaired (halves r p ++ rs)
    by_pending None = all
    by_pending (Some (pendings.Merge right into)) = all
    by_pending (Some (pendings.Split key low high)) = (tt, (tt, all.1))

-- ---- the rules of the map

-- it asks for no merge
abbrev pub IsApart : MapBody → Type 0
IsApart (maps.BeginMerge left b right g q) = ⊥
IsApart (maps.CompleteMerge left b right g q) = ⊥
IsApart body = Unit {0}

abbrev pub IsApartBody : Body → Type 0
IsApartBody (bodies.Map body) = IsApart body
IsApartBody body = Unit {0}

record Pairs (o : Outcome MapState) : Type 0 where
  after : ArePairs o.after
  packets : AllName pairs o.packets

module _ (m : MapState) (s : IsSound m) (x : ArePairs m) where
  silent_pairs : Pairs (silent m)
  silent_pairs = record { after = x; packets = tt }

  called_pairs : (p : Packet) (q : ReqNo) (fault : Option Refusal) (o : Outcome MapState) → Pairs o → Pairs (called m p q fault o)
  called_pairs p q (Some refusal) o taken = record { after = x; packets = (tt, tt) }
  called_pairs p q None o taken = taken

  assign_pairs : (range server until : ℕ) (o : Option RangeEntry) → Pairs (assign_rule m range server until o)
  assign_pairs range server until None = silent_pairs
  assign_pairs range server until (Some e) =
      if_elim Pairs (nat_lt (suc e.generation) (2 ^ 64)) _ _
      (λ t. record {
        after = record { next = x.next; entries = change_pairs (changed_if range (assigned server until)) (kept range (assigned server until) (assigns_nothing server until)) (map (dropped_if range) m.ranges) (change_pairs (dropped_if range) (dropped range) m.ranges x.entries) };
        packets = (tt, tt);
      })
      (λ f. silent_pairs)

  renew_pairs : (range server until : ℕ) (o : Option RangeEntry) → Pairs (renew_rule m range server until o)
  renew_pairs range server until None = silent_pairs
  renew_pairs range server until (Some e) = record {
    after = record { next = x.next; entries = change_pairs (changed_if range (renewed until)) (kept range (renewed until) (renews_nothing until)) m.ranges x.entries };
    packets = (tt, tt);
  }

  route_pairs : (p : Packet) (q : ReqNo) (o : Option RangeEntry) → Pairs (route_rule m p q o)
  route_pairs p q None = silent_pairs
  route_pairs p q (Some r) = record { after = x; packets = (tt, tt) }

  begin_split_pairs : (to : ActorId) (q : ReqNo) (range : ℕ) (key : List ℕ) (e : RangeEntry) → EntryIsPaired e → (pair : Option (ℕ × ℕ)) → halves_at key e.pending ≡ pair → Pairs (begin_split_taken m to q range key pair)
  begin_split_pairs to q range key e old (Some pair) is = let (at_key, pending, here) = halves_pending m s key e.pending pair is in record { after = x; packets = (subst PendingPairs pending old, tt) }
  begin_split_pairs to q range key e old None is =
      let (k, next, one) = x.next in
      let new : IsPair m.next (m.next + 1) = (k, next, omega (arith, next), one) in
      if_elim Pairs (has_numbers m 2) _ _
      (λ t. record {
        after = record { next = (suc k, omega (arith, next), omega (arith, one)); entries = begin_pairs range (pendings.Split key m.next (m.next + 1)) m.ranges new x.entries };
        packets = (new, tt);
      })
      (λ f. silent_pairs)

  begin_split_rule_pairs : (to : ActorId) (q : ReqNo) (range : ℕ) (key : List ℕ) (o : Option RangeEntry) → range_at m.ranges range ≡ o → Pairs (begin_split_rule m to q range key o)
  begin_split_rule_pairs to q range key None at = silent_pairs
  begin_split_rule_pairs to q range key (Some r) at = begin_split_pairs to q range key r (found_knows EntryIsPaired range m.ranges r x.entries at) (halves_at key r.pending) refl

  complete_split_pairs : (to : ActorId) (q : ReqNo) (range : ℕ) (o : Option RangeEntry) → Pairs (complete_split_rule m to q range o)
  complete_split_pairs to q range None = silent_pairs
  complete_split_pairs to q range (Some r) = by_pending r.pending
    where
      by_pending : (p : Option Pending) → Pairs (complete_split_taken m to q range p)
      by_pending None = silent_pairs
      by_pending (Some (pendings.Merge right into)) = silent_pairs
      by_pending (Some (pendings.Split key low high)) = record { after = record { next = x.next; entries = split_in_pairs range m.ranges x.entries }; packets = (tt, tt) }

  told_pairs : (p : Packet) (body : MapBody) → IsApart body → Pairs (told m p body)
  told_pairs p (maps.Route key q) apart = route_pairs p q (range_of_key m.ranges key)
  told_pairs p (maps.BeginSplit range generation key q) apart =
      called_pairs p q (begin_split_fault generation key (range_at m.ranges range)) _ (begin_split_rule_pairs p.from q range key (range_at m.ranges range) refl)
  told_pairs p (maps.CompleteSplit range generation q) apart = called_pairs p q (complete_split_fault generation (range_at m.ranges range)) _ (complete_split_pairs p.from q range (range_at m.ranges range))
  told_pairs p (maps.BeginMerge left b right g q) apart = absurd apart
  told_pairs p (maps.CompleteMerge left b right g q) apart = absurd apart
  told_pairs p body apart = silent_pairs

  rule_pairs : (p : Packet) (body : Body) → IsApartBody body → Pairs (map_rule m p body)
  rule_pairs p (bodies.Map body) apart = told_pairs p body apart
  rule_pairs p body apart = silent_pairs

-- ---- events

pub record InPairs (c : Cluster) : Type 0 where
  sound : IsSound c.map
  map : ArePairs c.map
  pub names : Names pairs c

module _ (c : Cluster) (x : InPairs c) where
  asked_apart : (body : Body) → is_request body ≡ true → IsApartBody body
  asked_apart (bodies.Map (maps.BeginMerge left b right g q)) asks = absurd (let z : false ≡ true = asks in cc)
  asked_apart (bodies.Map (maps.CompleteMerge left b right g q)) asks = absurd (let z : false ≡ true = asks in cc)
  asked_apart (bodies.Map body) asks = tt
  asked_apart body asks = tt

  named_apart : (body : Body) → BodyNames pairs body → IsApartBody body
  named_apart (bodies.Map (maps.BeginMerge left b right g q)) names = absurd names.0
  named_apart (bodies.Map (maps.CompleteMerge left b right g q)) names = absurd names.0
  named_apart (bodies.Map body) names = tt
  named_apart body names = tt

  pub packet_apart : (p : Packet) → PacketNames pairs p → IsApartBody p.body
  packet_apart p n = elim n [ inl asks ↦ asked_apart p.body asks.1 | inr names ↦ named_apart p.body names ]

  by : (o : Outcome MapState) → Pairs o → RuleNames (λ a. pairs) c.map o
  by o p = record { extends = same_pairs; packets = p.packets }

  rules : (event : Event) → RulesOf (λ a. pairs) c event
  rules (Deliver number) = λ p at names. by _ (rule_pairs c.map x.sound x.map p p.body (packet_apart p names))
  rules (Assign range server until) = by _ (assign_pairs c.map x.sound x.map range server until (range_at c.map.ranges range))
  rules (Renew range server until) = by _ (renew_pairs c.map x.sound x.map range server until (range_at c.map.ranges range))
  rules event = tt

  leaves : (event : Event) → RuleLeaves ArePairs c x.map event
  leaves (Deliver number) = λ p at. (rule_pairs c.map x.sound x.map p p.body (packet_apart p (x.names.post p (contains_get c.stream_layer.post number p at)))).after
  leaves (Assign range server until) = (assign_pairs c.map x.sound x.map range server until (range_at c.map.ranges range)).after
  leaves (Renew range server until) = λ free. (renew_pairs c.map x.sound x.map range server until (range_at c.map.ranges range)).after
  leaves event = tt

  asked : (event : Event) → IsUnmerged event → AskedIn (λ a. pairs) c event
  asked (Split s range key) is = λ cell at st up r sent. tt
  asked (Merge server left right) is = absurd is
  asked event is = tt

  event_pairs : (event : Event) → IsUnmerged event → InPairs (cluster_after c event)
  event_pairs event is = record {
    sound = event_sound c event x.sound;
    map = event_leaves ArePairs c x.map event (leaves event);
    names = event_goes (λ a. pairs) c pairs_laws tt x.names event (rules event) (asked event is);
  }

all_pairs : (events : List Event) → AreUnmerged events → (c : Cluster) → InPairs c → InPairs (cluster_after_all c events)
all_pairs [] are c x = x
all_pairs (event ∷ events) are c x = all_pairs events are.1 (cluster_after c event) (event_pairs c x event are.0)

-- So it is in every run without merges.
pub run_pairs : (nodes servers target batch : ℕ) (events : List Event) → AreUnmerged events → InPairs (cluster_after_all (first_cluster nodes servers target batch) events)
run_pairs nodes servers target batch events are =
    all_pairs events are (first_cluster nodes servers target batch) (record {
      sound = first_is_sound;
      map = record { next = (1, refl, omega arith); entries = (tt, tt) };
      names = record { post = λ p there. absurd (let less = there.1 in omega (arith, less)); servers = first_cells pairs batch 1 servers; catalog = λ range kind s is. tt };
    })
