-- In every run without merges streams are opened of ranges from 1 on alone, or under generation 0, under which the manager opens none.
use Rattle.std.proofs.Common.{◌≡◌, ◌⊎◌, ℕ, zero, suc, ◌+◌, ◌^◌, ◌≤◌, ◌==◌, true, false, nat_lt, List, [], ◌∷◌, map, Option, Some, None, Contains, refl, sym, ap, ◌∙◌, subst, inl, inr, arith}
use Rattle.wire.specs.declared.actor.ActorId.{ActorId}
use Rattle.wire.specs.declared.actor.ReqNo.{ReqNo}
use Rattle.wire.specs.declared.body.Body.{Body}
use Rattle.wire.specs.declared.body.Body.TheVariants as bodies
use Rattle.wire.specs.declared.body.MapBody.{MapBody}
use Rattle.wire.specs.declared.body.MapBody.TheVariants as maps
use Rattle.wire.specs.declared.body.StreamBody.TheVariants as streams
use Rattle.wire.specs.declared.packet.Packet.{Packet}
use Rattle.wire.specs.declared.refusal.Refusal.{Refusal}
use Rattle.model_streams.specs.declared.event.Event.{Event}
use Rattle.model_streams.specs.declared.event.Event.TheVariants.{Deliver, Assign, Renew, Split, Merge}
use Rattle.model_streams.specs.Outcome.{Outcome, silent}
use Rattle.model_streams.specs.StreamSystem.{is_request}
use Rattle.model_streams.proofs.Tests.{if_elim}
use Rattle.model_partition.specs.declared.pending.Pending.{Pending}
use Rattle.model_partition.specs.declared.pending.Pending.TheVariants as pendings
use Rattle.model_partition.specs.declared.range_entry.RangeEntry.{RangeEntry}
use Rattle.model_partition.specs.Map.{MapState, range_at, range_of_key, changed_if, assigned, renewed, dropped_if, halves_at}
use Rattle.model_partition.specs.MapRules.{assign_rule, renew_rule, has_numbers, begin_split_fault, begin_split_taken, begin_split_rule, complete_split_fault, complete_split_taken, complete_split_rule, route_rule, called, told, map_rule}
use Rattle.model_partition.specs.Partition.{one_if, uses_pending, uses, IsSound}
use Rattle.model_partition.specs.Cluster.{IsUnmerged, AreUnmerged, Cluster, cluster_after, cluster_after_all, first_cluster}
use Rattle.model_partition.proofs.Numbers.{kept, dropped, fewer, split_fewer}
use Rattle.laws_streams.proofs.Choices.{contains_get}
use Rattle.laws_map.specs.Naming.{Knowledge, BodyNames, PacketNames, Names}
use Rattle.laws_map.proofs.EventNames.{RuleNames, AskedIn, RulesOf, event_goes}
use Rattle.laws_map.proofs.GivenNumbers.{entry_uses, first_cells, first_stream, halves_pending}
use Rattle.laws_map.proofs.Knowing.{AllName, Extends}
use Rattle.laws_map.proofs.SoundMaps.{RuleLeaves, event_leaves, event_sound, first_is_sound}
use Rattle.laws_map.proofs.SplitNames.{Laws}
use Rattle.laws_map.proofs.UsedNumbers.{used_at, assigns_nothing, renews_nothing}
use Rattle.laws_clusters.proofs.MapWords.{AreCounted, not_first, none_of_fewer, begun_counted}
use Rattle.laws_clusters.proofs.PairNumbers.{IsApart, IsApartBody}

-- a range from 1 on, or generation 0
abbrev pub IsCounted : ℕ → ℕ → Type 0
IsCounted range generation = (1 ≤ range) ⊎ (generation ≡ 0)

-- so is each range, with the generation, that somebody asks to open
abbrev pub OpensCounted : List Packet → Type 0
OpensCounted post = (p : Packet) → Contains post p → (range generation : ℕ) (q : ReqNo) → p.body ≡ bodies.Stream (streams.OpenStreams range generation q) → IsCounted range generation

-- users have streams of range 0 under generation 0; what is assigned and what splits make has numbers from 1 on; and nothing is merged
abbrev pub counted : Knowledge
counted =
    record {
      knows = IsCounted;
      assigned = λ range generation. 1 ≤ range;
      asked = λ q range generation key. Unit {0};
      begun = λ q low high. (1 ≤ low) × (1 ≤ high);
      splits = λ range generation key low high. (1 ≤ low) × (1 ≤ high);
      numbers = λ range. Unit {0};
      merges = λ range generation. ⊥;
    }

counted_laws : Laws counted
counted_laws = record {
  leased = λ range generation k. inl k;
  tells = λ q w range generation key low high a same b. b;
  low = λ range generation key low high k. inl k.0;
  high = λ range generation key low high k. inl k.1;
}

same_counted : Extends counted counted
same_counted = record {
  knows = λ range generation k. k;
  assigned = λ range generation k. k;
  asked = λ q range generation key k. k;
  begun = λ q low high k. k;
  splits = λ range generation key low high k. k;
  numbers = λ range k. k;
  merges = λ range generation k. k;
}

-- ---- the rules of the map

some_number : (n : ℕ) → one_if (n == 0) ≡ 0 → 1 ≤ n
some_number zero none = absurd cc
some_number (suc n) none = omega arith

record Counts (o : Outcome MapState) : Type 0 where
  after : AreCounted o.after
  packets : AllName counted o.packets

module _ (m : MapState) (s : IsSound m) (x : AreCounted m) where
  silent_counts : Counts (silent m)
  silent_counts = record { after = x; packets = tt }

  called_counts : (p : Packet) (q : ReqNo) (fault : Option Refusal) (o : Outcome MapState) → Counts o → Counts (called m p q fault o)
  called_counts p q (Some refusal) o taken = record { after = x; packets = (tt, tt) }
  called_counts p q None o taken = taken

  found_counted : (range : ℕ) (r : RangeEntry) → range_at m.ranges range ≡ Some r → 1 ≤ range
  found_counted zero r at = absurd (let used = used_at 0 m.ranges r at in let none = x.entries in omega (arith, used, none))
  found_counted (suc n) r at = omega arith

  dropped_counted : (range : ℕ) → uses 0 (map (dropped_if range) m.ranges) ≡ 0
  dropped_counted range = none_of_fewer _ _ (fewer (dropped_if range) (dropped range) 0 m.ranges) x.entries

  assign_counts : (range server until : ℕ) (o : Option RangeEntry) → range_at m.ranges range ≡ o → Counts (assign_rule m range server until o)
  assign_counts range server until None at = silent_counts
  assign_counts range server until (Some e) at =
      if_elim Counts (nat_lt (suc e.generation) (2 ^ 64)) _ _
      (λ t. record {
        after = record {
          next = x.next;
          entries = none_of_fewer _ _ (fewer (changed_if range (assigned server until)) (kept range (assigned server until) (assigns_nothing server until)) 0 (map (dropped_if range) m.ranges)) (dropped_counted range);
        };
        packets = (found_counted range e at, tt);
      })
      (λ f. silent_counts)

  renew_counts : (range server until : ℕ) (o : Option RangeEntry) → range_at m.ranges range ≡ o → Counts (renew_rule m range server until o)
  renew_counts range server until None at = silent_counts
  renew_counts range server until (Some e) at = record {
    after = record { next = x.next; entries = none_of_fewer _ _ (fewer (changed_if range (renewed until)) (kept range (renewed until) (renews_nothing until)) 0 m.ranges) x.entries };
    packets = (found_counted range e at, tt);
  }

  route_counts : (p : Packet) (q : ReqNo) (o : Option RangeEntry) → Counts (route_rule m p q o)
  route_counts p q None = silent_counts
  route_counts p q (Some r) = record { after = x; packets = (tt, tt) }

  -- the two numbers of a split that is pending
  pair_counted : (key : List ℕ) (p : Option Pending) (pair : ℕ × ℕ) → uses_pending 0 p ≡ 0 → halves_at key p ≡ Some pair → (1 ≤ pair.0) × (1 ≤ pair.1)
  pair_counted key p pair none is =
      let (at_key, pending, here) = halves_pending m s key p pair is in
      let both : one_if (pair.0 == 0) + one_if (pair.1 == 0) ≡ 0 = ap (uses_pending 0) (sym pending) ∙ none in
      (some_number pair.0 (omega (arith, both)), some_number pair.1 (omega (arith, both)))

  begin_split_counts : (to : ActorId) (q : ReqNo) (range : ℕ) (key : List ℕ) (p : Option Pending) → uses_pending 0 p ≡ 0 → (pair : Option (ℕ × ℕ)) → halves_at key p ≡ pair → Counts (begin_split_taken m to q range key pair)
  begin_split_counts to q range key p none (Some pair) is = record { after = x; packets = (pair_counted key p pair none is, tt) }
  begin_split_counts to q range key p none None is =
      if_elim Counts (has_numbers m 2) _ _
      (λ t. record {
        after = record {
          next = (let some = x.next in omega (arith, some));
          entries = begun_counted range (pendings.Split key m.next (m.next + 1))
              (let one = not_first m.next x.next in let two = not_first (m.next + 1) (omega arith) in omega (arith, one, two)) (map (dropped_if range) m.ranges) (dropped_counted range);
        };
        packets = ((x.next, omega arith), tt);
      })
      (λ f. silent_counts)

  begin_split_rule_counts : (to : ActorId) (q : ReqNo) (range : ℕ) (key : List ℕ) (o : Option RangeEntry) → range_at m.ranges range ≡ o → Counts (begin_split_rule m to q range key o)
  begin_split_rule_counts to q range key None at = silent_counts
  begin_split_rule_counts to q range key (Some r) at =
      begin_split_counts to q range key r.pending (let used = entry_uses 0 range m.ranges r at in let none = x.entries in omega (arith, used, none)) (halves_at key r.pending) refl

  complete_split_counts : (to : ActorId) (q : ReqNo) (range : ℕ) (o : Option RangeEntry) → Counts (complete_split_rule m to q range o)
  complete_split_counts to q range None = silent_counts
  complete_split_counts to q range (Some r) = by_pending r.pending
    where
      by_pending : (p : Option Pending) → Counts (complete_split_taken m to q range p)
      by_pending None = silent_counts
      by_pending (Some (pendings.Merge right into)) = silent_counts
      by_pending (Some (pendings.Split key low high)) = record { after = record { next = x.next; entries = none_of_fewer _ _ (split_fewer 0 range m.ranges) x.entries }; packets = (tt, tt) }

  told_counts : (p : Packet) (body : MapBody) → IsApart body → Counts (told m p body)
  told_counts p (maps.Route key q) apart = route_counts p q (range_of_key m.ranges key)
  told_counts p (maps.BeginSplit range generation key q) apart =
      called_counts p q (begin_split_fault generation key (range_at m.ranges range)) _ (begin_split_rule_counts p.from q range key (range_at m.ranges range) refl)
  told_counts p (maps.CompleteSplit range generation q) apart = called_counts p q (complete_split_fault generation (range_at m.ranges range)) _ (complete_split_counts p.from q range (range_at m.ranges range))
  told_counts p (maps.BeginMerge left b right g q) apart = absurd apart
  told_counts p (maps.CompleteMerge left b right g q) apart = absurd apart
  told_counts p body apart = silent_counts

  rule_counts : (p : Packet) (body : Body) → IsApartBody body → Counts (map_rule m p body)
  rule_counts p (bodies.Map body) apart = told_counts p body apart
  rule_counts p body apart = silent_counts

-- ---- events

-- the map is sound and gives no range the number 0, and all that is named in the cluster is counted
pub record CountsRanges (c : Cluster) : Type 0 where
  pub sound : IsSound c.map
  pub map : AreCounted c.map
  pub names : Names counted c

module _ (c : Cluster) (x : CountsRanges c) where
  asked_apart : (body : Body) → is_request body ≡ true → IsApartBody body
  asked_apart (bodies.Map (maps.BeginMerge left b right g q)) asks = absurd (let z : false ≡ true = asks in cc)
  asked_apart (bodies.Map (maps.CompleteMerge left b right g q)) asks = absurd (let z : false ≡ true = asks in cc)
  asked_apart (bodies.Map body) asks = tt
  asked_apart body asks = tt

  named_apart : (body : Body) → BodyNames counted body → IsApartBody body
  named_apart (bodies.Map (maps.BeginMerge left b right g q)) names = absurd names.0
  named_apart (bodies.Map (maps.CompleteMerge left b right g q)) names = absurd names.0
  named_apart (bodies.Map body) names = tt
  named_apart body names = tt

  packet_apart : (p : Packet) → PacketNames counted p → IsApartBody p.body
  packet_apart p n = elim n [ inl asks ↦ asked_apart p.body asks.1 | inr names ↦ named_apart p.body names ]

  by : (o : Outcome MapState) → Counts o → RuleNames (λ a. counted) c.map o
  by o p = record { extends = same_counted; packets = p.packets }

  rules : (event : Event) → RulesOf (λ a. counted) c event
  rules (Deliver number) = λ p at names. by _ (rule_counts c.map x.sound x.map p p.body (packet_apart p names))
  rules (Assign range server until) = by _ (assign_counts c.map x.sound x.map range server until (range_at c.map.ranges range) refl)
  rules (Renew range server until) = by _ (renew_counts c.map x.sound x.map range server until (range_at c.map.ranges range) refl)
  rules event = tt

  leaves : (event : Event) → RuleLeaves AreCounted c x.map event
  leaves (Deliver number) = λ p at. (rule_counts c.map x.sound x.map p p.body (packet_apart p (x.names.post p (contains_get c.stream_layer.post number p at)))).after
  leaves (Assign range server until) = (assign_counts c.map x.sound x.map range server until (range_at c.map.ranges range) refl).after
  leaves (Renew range server until) = λ free. (renew_counts c.map x.sound x.map range server until (range_at c.map.ranges range) refl).after
  leaves event = tt

  asked : (event : Event) → IsUnmerged event → AskedIn (λ a. counted) c event
  asked (Split s range key) is = λ cell at st up r sent. tt
  asked (Merge server left right) is = absurd is
  asked event is = tt

  -- Each event leaves it so.
  pub counts_on : (event : Event) → IsUnmerged event → CountsRanges (cluster_after c event)
  counts_on event is = record {
    sound = event_sound c event x.sound;
    map = event_leaves AreCounted c x.map event (leaves event);
    names = event_goes (λ a. counted) c counted_laws (inr refl) x.names event (rules event) (asked event is);
  }

  -- what is opened is counted
  pub opens_counted : OpensCounted c.stream_layer.post
  opens_counted p there range generation q is = elim (x.names.post p there) [
    | inl asks ↦ absurd (let z : false ≡ true = ap is_request (sym is) ∙ asks.1 in cc)
    | inr names ↦ subst (BodyNames counted) is names
  ]

-- ---- runs

-- so it is at first
pub first_counts : (nodes servers target batch : ℕ) → CountsRanges (first_cluster nodes servers target batch)
first_counts nodes servers target batch = record {
  sound = first_is_sound;
  map = record { next = omega arith; entries = refl };
  names = record {
    post = λ p there. absurd (let less = there.1 in omega (arith, less));
    servers = first_cells counted batch 1 servers;
    catalog = λ range kind s is. inr (first_stream range kind s is).1;
  };
}

all_count : (events : List Event) → AreUnmerged events → (c : Cluster) → CountsRanges c → CountsRanges (cluster_after_all c events)
all_count [] are c x = x
all_count (event ∷ events) are c x = all_count events are.1 (cluster_after c event) (counts_on c x event are.0)

-- So it is in every run without merges.
pub run_counts : (nodes servers target batch : ℕ) (events : List Event) → AreUnmerged events → CountsRanges (cluster_after_all (first_cluster nodes servers target batch) events)
run_counts nodes servers target batch events are = all_count events are (first_cluster nodes servers target batch) (first_counts nodes servers target batch)

-- What is opened in such a run is counted.
pub run_opens : (nodes servers target batch : ℕ) (events : List Event) → AreUnmerged events → OpensCounted (cluster_after_all (first_cluster nodes servers target batch) events).stream_layer.post
run_opens nodes servers target batch events are = opens_counted (cluster_after_all (first_cluster nodes servers target batch) events) (run_counts nodes servers target batch events are)
