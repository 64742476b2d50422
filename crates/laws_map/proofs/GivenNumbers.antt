-- In a run each number of a range that anybody names has been given by the map.
use Rattle.std.proofs.Common.{◌≡◌, ℕ, zero, suc, ◌+◌, ◌≤◌, ◌<◌, ◌^◌, Bool, true, false, ◌&&◌, ◌==◌, nat_lt, List, [], ◌∷◌, Option, Some, None, bytes_eq, refl, sym, ap, ◌∙◌, subst, arith, if◌then◌else◌, nat_le, eqb-true}
use Rattle.std.proofs.lemmas.Bool.{and_parts}
use Rattle.std.proofs.lemmas.Bool.Decides.{nat_tests}
use Rattle.std.proofs.lemmas.Option.{same_Some}
use Rattle.metadata.specs.Keys.{within}
use Rattle.wire.specs.declared.actor.ActorId.{ActorId}
use Rattle.wire.specs.declared.actor.ReqNo.{ReqNo}
use Rattle.wire.specs.declared.body.Body.{Body}
use Rattle.wire.specs.declared.body.Body.TheVariants as bodies
use Rattle.wire.specs.declared.body.MapBody.{MapBody}
use Rattle.wire.specs.declared.body.MapBody.TheVariants as maps
use Rattle.wire.specs.declared.packet.Packet.{Packet}
use Rattle.wire.specs.declared.refusal.Refusal.{Refusal}
use Rattle.streams.specs.Streams.{Stream, empty_stream}
use Rattle.model_streams.specs.declared.event.Event.{Event}
use Rattle.model_streams.specs.declared.event.Event.TheVariants.{Split, Merge}
use Rattle.model_streams.specs.Outcome.{Outcome, silent}
use Rattle.model_streams.specs.Manager.{first_streams}
use Rattle.model_streams.proofs.Tests.{if_elim}
use Rattle.model_partition.specs.declared.pending.Pending.{Pending}
use Rattle.model_partition.specs.declared.pending.Pending.TheVariants as pendings
use Rattle.model_partition.specs.declared.range_entry.RangeEntry.{RangeEntry}
use Rattle.model_partition.specs.Map.{MapState, range_at, range_of_key, halves_at, union_with, union_at}
use Rattle.model_partition.specs.MapRules.{assign_rule, renew_rule, has_numbers, begin_split_fault, begin_split_taken, begin_split_rule, complete_split_fault, complete_split_taken, complete_split_rule, begin_merge_fault, begin_merge_taken, begin_merge_rule, complete_merge_fault, complete_merge_rule, route_rule, called, told, map_rule}
use Rattle.model_partition.specs.Partition.{one_if, uses_pending, uses, AreFresh, IsPartition, IsSound}
use Rattle.model_partition.specs.Servers.{ServerCell, first_servers}
use Rattle.model_partition.specs.Cluster.{IsUnmerged, AreUnmerged, Cluster, cluster_after, cluster_after_all, first_cluster}
use Rattle.laws_map.specs.Naming.{Each, Knowledge, StateNames}
use Rattle.laws_map.specs.Numbers.{below, AreGiven}
use Rattle.laws_map.proofs.Knowing.{Extends}
use Rattle.laws_map.proofs.EventNames.{RuleNames, MapLaws, AskedIn, event_keeps}
use Rattle.laws_map.proofs.SoundMaps.{event_sound, first_is_sound}

-- ---- numbers that entries use

pub below_next : (m : MapState) (n : ℕ) → AreFresh m → 1 ≤ uses n m.ranges → n < m.next
below_next m n fresh used = go (nat_lt n m.next) refl (fresh n)
  where
    go : (b : Bool) → nat_lt n m.next ≡ b → uses n m.ranges ≤ one_if b → n < m.next
    go true e few = grind (arith, nat_tests)
    go false e few = absurd (omega (arith, used, few))

pub self_used : (n : ℕ) → one_if (n == n) ≡ 1
self_used n = go (n == n) refl
  where
    go : (b : Bool) → (n == n) ≡ b → one_if b ≡ 1
    go true e = refl
    go false e = absurd (grind (arith, nat_tests))

-- those of the entry that has a number, and what is pending there
pub entry_uses : (n range : ℕ) (rs : List RangeEntry) (x : RangeEntry) → range_at rs range ≡ Some x → one_if (x.range == n) + uses_pending n x.pending ≤ uses n rs
entry_uses n range [] x is = absurd cc
entry_uses n range (r ∷ rs) x is = go (r.range == range) is (λ more. entry_uses n range rs x more)
  where
    go : (b : Bool) → (if b then Some r else range_at rs range) ≡ Some x → (range_at rs range ≡ Some x → one_if (x.range == n) + uses_pending n x.pending ≤ uses n rs) →
        one_if (x.range == n) + uses_pending n x.pending ≤ one_if (r.range == n) + uses_pending n r.pending + uses n rs
    go true is rest = let same : r ≡ x = same_Some r x is in subst (λ (y : RangeEntry). one_if (y.range == n) + uses_pending n y.pending ≤ one_if (r.range == n) + uses_pending n r.pending + uses n rs) same (omega arith)
    go false is rest = let l = rest is in omega (arith, l)

pub entry_number : (range : ℕ) (rs : List RangeEntry) (x : RangeEntry) → range_at rs range ≡ Some x → x.range ≡ range
entry_number range [] x is = absurd cc
entry_number range (r ∷ rs) x is = go (r.range == range) refl is (λ more. entry_number range rs x more)
  where
    go : (b : Bool) → (r.range == range) ≡ b → (if b then Some r else range_at rs range) ≡ Some x → (range_at rs range ≡ Some x → x.range ≡ range) → x.range ≡ range
    go true e is rest = let same : r ≡ x = same_Some r x is in subst (λ (y : RangeEntry). y.range ≡ range) same (grind (arith, nat_tests))
    go false e is rest = rest is

key_uses : (rs : List RangeEntry) (key : List ℕ) (x : RangeEntry) → range_of_key rs key ≡ Some x → 1 ≤ uses x.range rs
key_uses [] key x is = absurd cc
key_uses (r ∷ rs) key x is = go (within r.keys key) is (λ more. key_uses rs key x more)
  where
    go : (b : Bool) → (if b then Some r else range_of_key rs key) ≡ Some x → (range_of_key rs key ≡ Some x → 1 ≤ uses x.range rs) → 1 ≤ one_if (r.range == x.range) + uses_pending x.range r.pending + uses x.range rs
    go true is rest =
        let same : r ≡ x = same_Some r x is in
        subst (λ (y : RangeEntry). 1 ≤ one_if (r.range == y.range) + uses_pending y.range r.pending + uses y.range rs) same (let one = self_used r.range in omega (arith, one))
    go false is rest = let l = rest is in omega (arith, l)

module _ (m : MapState) (s : IsSound m) where
  pub found_given : (range : ℕ) (x : RangeEntry) → range_at m.ranges range ≡ Some x → range < m.next
  found_given range x is =
      let used = entry_uses range range m.ranges x is in
      let one : one_if (x.range == range) ≡ 1 = subst (λ n. one_if (n == range) ≡ 1) (sym (entry_number range m.ranges x is)) (self_used range) in
      below_next m range s.fresh (omega (arith, used, one))

  pub key_given : (key : List ℕ) (x : RangeEntry) → range_of_key m.ranges key ≡ Some x → x.range < m.next
  key_given key x is = below_next m x.range s.fresh (key_uses m.ranges key x is)

  -- those of a split that is pending, and of a merge
  pub pair_given : (key : List ℕ) (range low high : ℕ) (x : RangeEntry) → range_at m.ranges range ≡ Some x → x.pending ≡ Some (pendings.Split key low high) → (low < m.next) × (high < m.next)
  pair_given key range low high x is pending =
      let l = entry_uses low range m.ranges x is in
      let h = entry_uses high range m.ranges x is in
      let a : uses_pending low x.pending ≡ one_if (low == low) + one_if (high == low) = ap (uses_pending low) pending in
      let b : uses_pending high x.pending ≡ one_if (low == high) + one_if (high == high) = ap (uses_pending high) pending in
      let c = self_used low in
      let d = self_used high in
      (below_next m low s.fresh (omega (arith, l, a, c)), below_next m high s.fresh (omega (arith, h, b, d)))

  pub into_given : (right into range : ℕ) (x : RangeEntry) → range_at m.ranges range ≡ Some x → x.pending ≡ Some (pendings.Merge right into) → into < m.next
  into_given right into range x is pending =
      let l = entry_uses into range m.ranges x is in
      let a : uses_pending into x.pending ≡ one_if (into == into) = ap (uses_pending into) pending in
      let c = self_used into in
      below_next m into s.fresh (omega (arith, l, a, c))

  pub first_given : 0 < m.next
  first_given = go m.ranges refl s.partition
    where
      go : (rs : List RangeEntry) → m.ranges ≡ rs → IsPartition rs → 0 < m.next
      go [] is p = absurd p
      go (r ∷ rs) is p =
          let one = self_used r.range in
          let l = below_next m r.range s.fresh (subst (λ l. 1 ≤ uses r.range l) (sym is) (omega (arith, one))) in
          omega (arith, l)

  -- the pair that is pending at a key
  pub halves_pending : (key : List ℕ) (p : Option Pending) (pair : ℕ × ℕ) → halves_at key p ≡ Some pair → (at : List ℕ) × (p ≡ Some (pendings.Split at pair.0 pair.1)) × (bytes_eq at key ≡ true)
  halves_pending key None pair is = absurd cc
  halves_pending key (Some (pendings.Merge right into)) pair is = absurd cc
  halves_pending key (Some (pendings.Split at low high)) pair is = go (bytes_eq at key) refl is
    where
      go : (b : Bool) → bytes_eq at key ≡ b → (if b then Some (low, high) else None) ≡ Some pair → (x : List ℕ) × (Some (pendings.Split at low high) ≡ Some (pendings.Split x pair.0 pair.1)) × (bytes_eq x key ≡ true)
      go true e is = let same : (low, high) ≡ pair = same_Some (low, high) pair is in (at, ap (λ (z : ℕ × ℕ). Some (pendings.Split at z.0 z.1)) same, e)
      go false e is = absurd cc

  pub union_pending : (right : ℕ) (p : Option Pending) (into : ℕ) → union_with right p ≡ Some into → p ≡ Some (pendings.Merge right into)
  union_pending right None into is = absurd cc
  union_pending right (Some (pendings.Split at low high)) into is = absurd cc
  union_pending right (Some (pendings.Merge other n)) into is = go (other == right) refl is
    where
      go : (b : Bool) → (other == right) ≡ b → (if b then Some n else None) ≡ Some into → Some (pendings.Merge other n) ≡ Some (pendings.Merge right into)
      go true e is =
          let same : n ≡ into = same_Some n into is in
          let right_is : other ≡ right = grind (arith, nat_tests) in
          ap (λ x. Some (pendings.Merge other x)) same ∙ ap (λ x. Some (pendings.Merge x into)) right_is
      go false e is = absurd cc

-- ---- the rules of the map

abbrev given : MapState → Knowledge
given m = below m.next

more_given : (a b : ℕ) → a ≤ b → Extends (below a) (below b)
more_given a b l = record {
  knows = λ range generation k. omega (arith, k, l);
  assigned = λ range generation k. omega (arith, k, l);
  asked = λ q range generation key k. tt;
  begun = λ q low high k. (let x = k.0 in let y = k.1 in (omega (arith, x, l), omega (arith, y, l)));
  splits = λ range generation key low high k. (let x = k.0 in let y = k.1 in (omega (arith, x, l), omega (arith, y, l)));
  numbers = λ range k. omega (arith, k, l);
  merges = λ range generation k. omega (arith, k, l);
}

module _ (m : MapState) (s : IsSound m) where
  abbrev Gives : Outcome MapState → Type 0
  Gives o = RuleNames given m o

  same_given : Extends (given m) (given m)
  same_given = more_given m.next m.next (omega arith)

  silent_gives : Gives (silent m)
  silent_gives = record { extends = same_given; packets = tt }

  called_gives : (p : Packet) (q : ReqNo) (fault : Option Refusal) (o : Outcome MapState) → Gives o → Gives (called m p q fault o)
  called_gives p q (Some refusal) o g = record { extends = same_given; packets = (tt, tt) }
  called_gives p q None o g = g

  assign_gives : (range server until : ℕ) (o : Option RangeEntry) → range_at m.ranges range ≡ o → Gives (assign_rule m range server until o)
  assign_gives range server until None is = silent_gives
  assign_gives range server until (Some r) is =
      if_elim Gives (nat_lt (suc r.generation) (2 ^ 64)) _ _ (λ t. record { extends = same_given; packets = (found_given m s range r is, tt) }) (λ f. silent_gives)

  renew_gives : (range server until : ℕ) (o : Option RangeEntry) → range_at m.ranges range ≡ o → Gives (renew_rule m range server until o)
  renew_gives range server until None is = silent_gives
  renew_gives range server until (Some r) is = record { extends = same_given; packets = (found_given m s range r is, tt) }

  route_gives : (p : Packet) (q : ReqNo) (key : List ℕ) (o : Option RangeEntry) → range_of_key m.ranges key ≡ o → Gives (route_rule m p q o)
  route_gives p q key None is = silent_gives
  route_gives p q key (Some r) is = record { extends = same_given; packets = (key_given m s key r is, tt) }

  begin_split_takes : (to : ActorId) (q : ReqNo) (range : ℕ) (key : List ℕ) (r : RangeEntry) → range_at m.ranges range ≡ Some r → (pair : Option (ℕ × ℕ)) → halves_at key r.pending ≡ pair → Gives (begin_split_taken m to q range key pair)
  begin_split_takes to q range key r is (Some pair) halves =
      let (at, pending, same) = halves_pending m s key r.pending pair halves in
      record { extends = same_given; packets = (pair_given m s at range pair.0 pair.1 r is pending, tt) }
  begin_split_takes to q range key r is None halves =
      if_elim Gives (has_numbers m 2) _ _
      (λ t. record { extends = more_given m.next (m.next + 2) (omega arith); packets = ((omega arith, omega arith), tt) }) (λ f. silent_gives)

  begin_split_gives : (to : ActorId) (q : ReqNo) (range : ℕ) (key : List ℕ) (o : Option RangeEntry) → range_at m.ranges range ≡ o → Gives (begin_split_rule m to q range key o)
  begin_split_gives to q range key None is = silent_gives
  begin_split_gives to q range key (Some r) is = begin_split_takes to q range key r is (halves_at key r.pending) refl

  complete_split_gives : (to : ActorId) (q : ReqNo) (range : ℕ) (o : Option RangeEntry) → Gives (complete_split_rule m to q range o)
  complete_split_gives to q range None = silent_gives
  complete_split_gives to q range (Some r) = by_pending r.pending
    where
      by_pending : (p : Option Pending) → Gives (complete_split_taken m to q range p)
      by_pending None = silent_gives
      by_pending (Some (pendings.Merge right into)) = silent_gives
      by_pending (Some (pendings.Split key low high)) = record { extends = same_given; packets = (tt, tt) }

  begin_merge_takes : (to : ActorId) (q : ReqNo) (left right : ℕ) (l : RangeEntry) → range_at m.ranges left ≡ Some l → (into : Option ℕ) → union_with right l.pending ≡ into → Gives (begin_merge_taken m to q left right into)
  begin_merge_takes to q left right l is (Some into) union = record { extends = same_given; packets = (into_given m s right into left l is (union_pending m s right l.pending into union), tt) }
  begin_merge_takes to q left right l is None union =
      if_elim Gives (has_numbers m 1) _ _ (λ t. record { extends = more_given m.next (m.next + 1) (omega arith); packets = (omega arith, tt) }) (λ f. silent_gives)

  begin_merge_gives : (to : ActorId) (q : ReqNo) (left right : ℕ) (l : Option RangeEntry) → range_at m.ranges left ≡ l → Gives (begin_merge_rule m to q left right l)
  begin_merge_gives to q left right None is = silent_gives
  begin_merge_gives to q left right (Some l) is = begin_merge_takes to q left right l is (union_with right l.pending) refl

  complete_merge_gives : (to : ActorId) (q : ReqNo) (left right : ℕ) (into : Option ℕ) → Gives (complete_merge_rule m to q left right into)
  complete_merge_gives to q left right None = silent_gives
  complete_merge_gives to q left right (Some into) = record { extends = same_given; packets = (tt, tt) }

  told_gives : (p : Packet) (body : MapBody) → Gives (told m p body)
  told_gives p (maps.Route key q) = route_gives p q key (range_of_key m.ranges key) refl
  told_gives p (maps.BeginSplit range generation key q) =
      called_gives p q (begin_split_fault generation key (range_at m.ranges range)) _ (begin_split_gives p.from q range key (range_at m.ranges range) refl)
  told_gives p (maps.CompleteSplit range generation q) =
      called_gives p q (complete_split_fault generation (range_at m.ranges range)) _ (complete_split_gives p.from q range (range_at m.ranges range))
  told_gives p (maps.BeginMerge left a right b q) =
      called_gives p q (begin_merge_fault a b (range_at m.ranges left) (range_at m.ranges right)) _ (begin_merge_gives p.from q left right (range_at m.ranges left) refl)
  told_gives p (maps.CompleteMerge left a right b q) =
      called_gives p q (complete_merge_fault a b (range_at m.ranges left) (range_at m.ranges right) (union_at m.ranges left right)) _ (complete_merge_gives p.from q left right (union_at m.ranges left right))
  told_gives p body = silent_gives

  map_gives : (p : Packet) (body : Body) → Gives (map_rule m p body)
  map_gives p (bodies.Map body) = told_gives p body
  map_gives p body = silent_gives

  given_laws : MapLaws given m
  given_laws = record {
    laws = record { leased = λ range generation k. k; tells = λ q w range generation key low high a same b. b; low = λ range generation key low high k. k.0; high = λ range generation key low high k. k.1 };
    users = first_given m s;
    assigns = λ range server until. assign_gives range server until (range_at m.ranges range) refl;
    renews = λ range server until. renew_gives range server until (range_at m.ranges range) refl;
    takes = λ p names. map_gives p p.body;
  }

-- ---- runs

asked_given : (c : Cluster) (event : Event) → IsUnmerged event → AskedIn given c event
asked_given c (Split s range key) unmerged = λ cell at st is r sent. tt
asked_given c (Merge server left right) unmerged = absurd unmerged
asked_given c event unmerged = tt

all_given : (events : List Event) → AreUnmerged events → (c : Cluster) → IsSound c.map → AreGiven c → AreGiven (cluster_after_all c events)
all_given [] are c s n = n
all_given (event ∷ events) are c s n =
    all_given events are.1 (cluster_after c event) (event_sound c event s) (event_keeps given c (given_laws c.map s) n event (asked_given c event are.0))

-- servers that hold nothing name nothing
pub first_cells : (K : Knowledge) (batch s servers : ℕ) → Each (λ (cell : ServerCell). StateNames K cell.state) (first_servers batch s servers)
first_cells K batch s zero = tt
first_cells K batch s (suc more) = (record { ranges = tt; splits = tt; rising = tt; merges = refl }, first_cells K batch (suc s) more)

-- the first streams are those of range 1, under generation 0
pub first_stream : (range kind : ℕ) (x : Stream) → first_streams range kind ≡ Some x → (range ≡ 1) × (x.fence ≡ 0)
first_stream range kind x is = go ((range == 1) && nat_le kind 3) refl is
  where
    go : (b : Bool) → ((range == 1) && nat_le kind 3) ≡ b → (if b then Some (empty_stream 0) else None) ≡ Some x → (range ≡ 1) × (x.fence ≡ 0)
    go true e is = (eqb-true range 1 (and_parts (range == 1) (nat_le kind 3) e).0, sym (ap (λ (z : Stream). z.fence) (same_Some (empty_stream 0) x is)))
    go false e is = absurd cc

-- In every run without merges each number of a range that packets, servers, splits or the manager's streams name is one that the map has given.
pub run_is_given : (nodes servers target batch : ℕ) (events : List Event) → AreUnmerged events → AreGiven (cluster_after_all (first_cluster nodes servers target batch) events)
run_is_given nodes servers target batch events are =
    all_given events are (first_cluster nodes servers target batch) first_is_sound (record {
      post = λ p there. absurd (let less = there.1 in omega (arith, less));
      servers = first_cells (below 2) batch 1 servers;
      catalog = λ range kind x is. (let one = (first_stream range kind x is).0 in omega (arith, one));
    })
