-- In a run without merges the map gives each number to one split, and assigns no range of a pair before somebody asks to complete its split:
-- whatever happens keeps it.
use Rattle.std.proofs.Common.{◌≡◌, ◌⊎◌, ℕ, suc, ◌<◌, ◌≤◌, List, [], ◌∷◌, slice_get, Option, Some, None, Contains, refl, sym, ap, ◌∙◌, subst, inl, inr, arith}
use Rattle.std.proofs.lemmas.List.Elements.{Contains-append_left}
use Rattle.wire.specs.declared.actor.ActorId.{ActorId}
use Rattle.wire.specs.declared.actor.ActorId.TheVariants.{Node, Manager, Map, Server, User}
use Rattle.wire.specs.declared.actor.ReqNo.{ReqNo}
use Rattle.wire.specs.declared.packet.Packet.{Packet}
use Rattle.model_streams.specs.declared.event.Event.{Event}
use Rattle.model_streams.specs.declared.event.Event.TheVariants.{Submit, Deliver, Stop, Restart, Decide, GiveUp, Assign, Renew, Moment, Checkpoint, Split, Merge}
use Rattle.model_streams.specs.Outcome.{Outcome}
use Rattle.model_streams.specs.StreamSystem.{stops_in, stands_in, delivered_if, delivered}
use Rattle.model_streams.proofs.Tests.{if_elim}
use Rattle.model_partition.specs.Map.{MapState, range_at}
use Rattle.model_partition.specs.MapRules.{map_rule}
use Rattle.model_partition.specs.Cluster.{IsUnmerged, AreUnmerged, Cluster, map_performs, delivered_to, delivers, cluster_after, cluster_after_all, first_cluster}
use Rattle.laws_streams.proofs.Choices.{contains_get}
use Rattle.laws_map.specs.Naming.{Knowledge, Names}
use Rattle.laws_map.specs.Generations.{HasAsked, AreOnce}
use Rattle.laws_map.specs.GivenPairs.{GivenPair, given_to, AsksToComplete, IsCompleted, EntryGives, MapGives, giving, GivesOnce}
use Rattle.laws_map.proofs.Knowing.{each_weaker, Extends}
use Rattle.laws_map.proofs.SplitNames.{Laws}
use Rattle.laws_map.proofs.EventNames.{RuleNames, AskedIn, RulesOf, servers_take, servers_names, happens_keeps, names_on, event_goes}
use Rattle.laws_map.proofs.SoundMaps.{RuleLeaves, event_leaves}
use Rattle.laws_map.proofs.PostStays.{stays_in_post}
use Rattle.laws_map.proofs.GivenNumbers.{first_cells}
use Rattle.laws_map.proofs.GivenPairs.{completed_more, Keeps, IsNext, Giving, assign_gives, renew_gives, rule_gives}
use Rattle.laws_map.proofs.GenerationsInRuns.{same_request, Governs, other_governs, split_governs, event_governs, all_govern, first_governs, asked_now, now_once, asks_now}

-- ---- more is known

-- a longer post, and more that was asked
module _ (given : List GivenPair) (asks later : List Packet) (more : (p : Packet) → Contains asks p → Contains later p) (post grown : List Packet) (grows : (p : Packet) → Contains post p → Contains grown p) where
  completes_later : (range generation : ℕ) → AsksToComplete post range generation → AsksToComplete grown range generation
  completes_later range generation a = record { packet = a.packet; request = a.request; sent = grows a.packet a.sent; is = a.is }

  completed_later : (n : ℕ) → IsCompleted given post n → IsCompleted given grown n
  completed_later n c pair among has = completes_later pair.range pair.generation (c pair among has)

  asked_later : (q : ReqNo) (range generation : ℕ) (key : List ℕ) → HasAsked asks q range generation key → HasAsked later q range generation key
  asked_later q range generation key h = record { packet = h.packet; sent = more h.packet h.sent; is = h.is }

  pub giving_later : (next : ℕ) → Extends (giving given asks post next) (giving given later grown next)
  giving_later next = record {
    knows = λ n g k. k;
    assigned = λ n g k. (k.0, completed_later n k.1);
    asked = asked_later;
    begun = λ q low high k. record { range = k.range; generation = k.generation; key = k.key; among = k.among; asked = asked_later q k.range k.generation k.key k.asked };
    splits = λ n g key low high k. (k.0, (k.1.0, asked_later k.1.0 n g key k.1.1));
    numbers = λ n k. k;
    merges = λ n g k. k;
  }

  pub map_later : (m : MapState) → MapGives given post m → MapGives given grown m
  map_later m x = record { below = x.below; entries = each_weaker (EntryGives given post m.next) (EntryGives given grown m.next) (λ r e. record { number = e.number; completed = completed_later r.range e.completed; pending = e.pending }) m.ranges x.entries }

-- one pair more
giving_more : (pair : GivenPair) (given : List GivenPair) (asks post : List Packet) (next : ℕ) → next ≤ pair.low → pair.low < pair.high → Extends (giving given asks post next) (giving (pair ∷ given) asks post next)
giving_more pair given asks post next above apart = record {
  knows = λ n g k. k;
  assigned = λ n g k. (k.0, completed_more pair given post next n above apart k.0 k.1);
  asked = λ q n g key k. k;
  begun = λ q low high k. record { range = k.range; generation = k.generation; key = k.key; among = older (given_to k.range k.generation k.key low high) k.among; asked = k.asked };
  splits = λ n g key low high k. (older (given_to n g key low high) k.0, k.1);
  numbers = λ n k. k;
  merges = λ n g k. k;
}
  where
    older : (x : GivenPair) → Contains given x → Contains (pair ∷ given) x
    older x (k, less, is) = (suc k, omega (arith, less), is)

giving_laws : (given : List GivenPair) (asks post : List Packet) (next : ℕ) → AreOnce asks → Laws (giving given asks post next)
giving_laws given asks post next once = record {
  leased = λ range generation k. tt;
  tells = λ q w range generation key low high a same b.
      (let is = once q range generation key b.range b.generation b.key a (subst (λ (v : ReqNo). HasAsked asks v b.range b.generation b.key) (sym (same_request q w same)) b.asked) in (
        subst (λ r. Contains given (given_to r generation key low high)) (sym is.0)
            (subst (λ g. Contains given (given_to b.range g key low high)) (sym is.1) (subst (λ k. Contains given (given_to b.range b.generation k low high)) (sym is.2) b.among)),
        (q, a),
      ));
  low = λ range generation key low high k. tt;
  high = λ range generation key low high k. tt;
}

-- ---- events

-- these pairs were given, where so much was asked and this is in the post
pub record Gives (given : List GivenPair) (asks post : List Packet) (c : Cluster) : Type 0 where
  pub map : MapGives given post c.map
  pub names : Names (giving given asks post c.map.next) c

pub record GivesSome (asks post : List Packet) (c : Cluster) : Type 0 where
  pub given : List GivenPair
  pub gives : Gives given asks post c

-- these or more were given, and a number below this one that was settled so stays so
pub record GivesMore (old : List GivenPair) (next : ℕ) (asks post : List Packet) (c : Cluster) : Type 0 where
  pub some : GivesSome asks post c
  pub settled : (n : ℕ) → n < next → IsCompleted old post n → IsCompleted some.given post n

module _ (c : Cluster) (g : Governs c) (asks : List Packet) (once : AreOnce asks) (post : List Packet) (all : (p : Packet) → Contains c.stream_layer.post p → Contains post p) (given : List GivenPair) (x : Gives given asks post c) where
  abbrev L : List GivenPair → MapState → Knowledge
  L pairs a = giving pairs asks post a.next

  laws : (pairs : List GivenPair) → Laws (giving pairs asks post c.map.next)
  laws pairs = giving_laws pairs asks post c.map.next once

  -- no more are given
  same_gives : (d : Cluster) → Gives given asks post d → GivesMore given c.map.next asks post d
  same_gives d y = record { some = record { given = given; gives = y }; settled = λ n less done. done }

  -- ---- a delivery to the map

  module _ (pair : GivenPair) (next : IsNext asks post c.map g.sound given x.map pair) where
    settled_more : (n : ℕ) → n < c.map.next → IsCompleted given post n → IsCompleted (pair ∷ given) post n
    settled_more n less done = completed_more pair given post c.map.next n (let l = next.low in omega (arith, l)) (let l = next.low in let h = next.high in omega (arith, l, h)) less done

    names_more : Names (giving (pair ∷ given) asks post c.map.next) c
    names_more =
        names_on (giving given asks post c.map.next) (giving (pair ∷ given) asks post c.map.next)
        (giving_more pair given asks post c.map.next (let l = next.low in omega (arith, l)) (let l = next.low in let h = next.high in omega (arith, l, h))) c x.names

  -- after a rule either the record of the map did not stand, or what the rule leaves is so
  abbrev Left : List GivenPair → Cluster → Type 0
  Left pairs d = Gives given asks post d ⊎ MapGives pairs post d.map

  left : (pairs : List GivenPair) (o : Outcome MapState) → MapGives pairs post o.after → Left pairs (map_performs c o)
  left pairs o m =
      if_elim (Left pairs) (stops_in c.map_cell o.written) _ _
      (λ t. if_elim (Left pairs) (stands_in c.map_cell) _ _
      (λ s. inr m) (λ s. inl (record { map = x.map; names = record { post = x.names.post; servers = x.names.servers; catalog = x.names.catalog } }))) (λ f. inr m)

  module _ (number : ℕ) (p : Packet) (at : slice_get c.stream_layer.post number ≡ Some p) where
    abbrev d : Cluster
    d = cluster_after c (Deliver number)

    there : Contains c.stream_layer.post p
    there = contains_get c.stream_layer.post number p at

    rule : Giving asks post c.map g.sound given x.map (map_rule c.map p p.body)
    rule = rule_gives asks post c.map g.sound given x.map p (all p there) p.body refl (x.names.post p there)

    -- the packet is delivered so
    taken_as : (to : ActorId) → p.to ≡ to → d ≡ delivered_to c p to
    taken_as to is = ap (delivers c) at ∙ ap (delivered_to c p) is

    of_pairs : (pairs : List GivenPair) → Names (giving pairs asks post c.map.next) c → Keeps asks post c.map g.sound given x.map pairs (map_rule c.map p p.body) → ((n : ℕ) → n < c.map.next → IsCompleted given post n → IsCompleted pairs post n) → Left pairs d → GivesMore given c.map.next asks post d
    of_pairs pairs names k settled (inl old) = same_gives d old
    of_pairs pairs names k settled (inr m) = record {
      some = record {
        given = pairs;
        gives = record {
          map = m;
          names = event_goes (L pairs) c (laws pairs) tt names (Deliver number) (λ q there named. subst (λ (y : Packet). RuleNames (L pairs) c.map (map_rule c.map y y.body)) (same q there) k.rule) tt;
        };
      };
      settled = settled;
    }
      where
        same : (q : Packet) → slice_get c.stream_layer.post number ≡ Some q → p ≡ q
        same q there = let z : Some p ≡ Some q = sym at ∙ there in cc

    to_map : p.to ≡ Map → GivesMore given c.map.next asks post d
    to_map is = elim rule [
      | inl k ↦ of_pairs given x.names k (λ n less done. done) (go given k.map)
      | inr new ↦ of_pairs (new.0 ∷ given) (names_more new.0 new.1) new.2 (settled_more new.0 new.1) (go (new.0 ∷ given) new.2.map)
    ]
      where
        go : (pairs : List GivenPair) → MapGives pairs post (map_rule c.map p p.body).after → Left pairs d
        go pairs m =
            subst (Left pairs) (sym (taken_as Map is))
            (if_elim (Left pairs) c.map_cell.up _ _ (λ up. left pairs (map_rule c.map p p.body) m) (λ up. inl x))

    -- others leave the map
    others : (to : ActorId) → p.to ≡ to → (e : Cluster) → delivered_to c p to ≡ e → e.map ≡ c.map → Names (giving given asks post c.map.next) e → GivesMore given c.map.next asks post d
    others to is e same still names =
        same_gives d (subst (Gives given asks post) (sym (taken_as to is ∙ same)) (record { map = subst (MapGives given post) (sym still) x.map; names = subst (λ (m : MapState). Names (giving given asks post m.next) e) (sym still) names }))

    layer_takes : (to : ActorId) → p.to ≡ to → Names (giving given asks post c.map.next) (record c { stream_layer = delivered c.stream_layer p to })
    layer_takes to is =
        subst (λ z. Names (giving given asks post c.map.next) (record c { stream_layer = z })) (ap (delivered_if c.stream_layer) at ∙ ap (delivered c.stream_layer p) is)
        (happens_keeps (giving given asks post c.map.next) (laws given) tt c (Deliver number) x.names)

    delivered_gives : (to : ActorId) → p.to ≡ to → GivesMore given c.map.next asks post d
    delivered_gives Map is = to_map is
    delivered_gives (Server s) is =
        others (Server s) is _ refl refl
        (servers_names (giving given asks post c.map.next) c _ (servers_take (giving given asks post c.map.next) (laws given) c.servers s p (x.names.post p there) x.names.servers) x.names)
    delivered_gives (Node n) is = others (Node n) is _ refl refl (layer_takes (Node n) is)
    delivered_gives Manager is = others Manager is _ refl refl (layer_takes Manager is)
    delivered_gives (User u) is = others (User u) is _ refl refl (layer_takes (User u) is)

  delivers_gives : (number : ℕ) (o : Option Packet) → slice_get c.stream_layer.post number ≡ o → GivesMore given c.map.next asks post (cluster_after c (Deliver number))
  delivers_gives number None at = same_gives (cluster_after c (Deliver number)) (subst (Gives given asks post) (sym (ap (delivers c) at)) x)
  delivers_gives number (Some p) at = delivered_gives number p at p.to refl

  -- ---- other events

  abbrev IsOther : Event → Type 0
  IsOther (Deliver number) = ⊥
  IsOther event = Unit {0}

  leaves : (event : Event) → IsOther event → RuleLeaves (λ a. MapGives given post a) c x.map event
  leaves (Deliver number) other = absurd other
  leaves (Assign range server until) other = (assign_gives asks post c.map g.sound given x.map range server until (range_at c.map.ranges range) refl).map
  leaves (Renew range server until) other = λ free. (renew_gives asks post c.map g.sound given x.map range server until (range_at c.map.ranges range) refl).map
  leaves event other = tt

  rules : (event : Event) → IsOther event → RulesOf (L given) c event
  rules (Deliver number) other = absurd other
  rules (Assign range server until) other = (assign_gives asks post c.map g.sound given x.map range server until (range_at c.map.ranges range) refl).rule
  rules (Renew range server until) other = (renew_gives asks post c.map g.sound given x.map range server until (range_at c.map.ranges range) refl).rule
  rules event other = tt

  other_gives : (event : Event) → IsOther event → AskedIn (L given) c event → GivesMore given c.map.next asks post (cluster_after c event)
  other_gives event other asked = same_gives (cluster_after c event) (record {
    map = event_leaves (λ a. MapGives given post a) c x.map event (leaves event other);
    names = event_goes (L given) c (laws given) tt x.names event (rules event other) asked;
  })

  pub gives_on : (event : Event) → AskedIn (L given) c event → GivesMore given c.map.next asks post (cluster_after c event)
  gives_on (Deliver number) asked = delivers_gives number (slice_get c.stream_layer.post number) refl
  gives_on (Submit user to body) asked = other_gives (Submit user to body) tt asked
  gives_on (Stop actor call keep) asked = other_gives (Stop actor call keep) tt asked
  gives_on (Restart actor) asked = other_gives (Restart actor) tt asked
  gives_on (Decide e) asked = other_gives (Decide e) tt asked
  gives_on (GiveUp server range pick) asked = other_gives (GiveUp server range pick) tt asked
  gives_on (Assign range server until) asked = other_gives (Assign range server until) tt asked
  gives_on (Renew range server until) asked = other_gives (Renew range server until) tt asked
  gives_on (Moment now) asked = other_gives (Moment now) tt asked
  gives_on (Checkpoint server range combine) asked = other_gives (Checkpoint server range combine) tt asked
  gives_on (Split server range key) asked = other_gives (Split server range key) tt asked
  gives_on (Merge server one other) asked = other_gives (Merge server one other) tt asked

-- ---- the post and what was asked grow

abbrev pub GivesNow : (c : Cluster) → Governs c → Type 0
GivesNow c g = GivesSome g.asks c.stream_layer.post c

module _ (c : Cluster) (g : Governs c) (x : GivesNow c g) where
  grown : (event : Event) (asks : List Packet) → ((p : Packet) → Contains g.asks p → Contains asks p) → Gives x.given asks (cluster_after c event).stream_layer.post c
  grown event asks more =
      let grows : (p : Packet) → Contains c.stream_layer.post p → Contains (cluster_after c event).stream_layer.post p = λ p there. stays_in_post c p there event in
      record {
        map = map_later x.given g.asks asks more c.stream_layer.post (cluster_after c event).stream_layer.post grows c.map x.gives.map;
        names = names_on (giving x.given g.asks c.stream_layer.post c.map.next) (giving x.given asks (cluster_after c event).stream_layer.post c.map.next)
            (giving_later x.given g.asks asks more c.stream_layer.post (cluster_after c event).stream_layer.post grows c.map.next) c x.gives.names;
      }

  -- what is given then
  pub event_gives_more : (event : Event) (unmerged : IsUnmerged event) → GivesMore x.given c.map.next (event_governs c event unmerged g).asks (cluster_after c event).stream_layer.post (cluster_after c event)
  unfolding event_governs other_governs split_governs
  event_gives_more event unmerged = go event unmerged
    where
      same : (event : Event) → AskedIn (λ (m : MapState). giving x.given g.asks (cluster_after c event).stream_layer.post m.next) c event →
          GivesMore x.given c.map.next g.asks (cluster_after c event).stream_layer.post (cluster_after c event)
      same event asked = gives_on c g g.asks g.once (cluster_after c event).stream_layer.post (λ p there. stays_in_post c p there event) x.given (grown event g.asks (λ p there. there)) event asked

      go : (event : Event) (unmerged : IsUnmerged event) → GivesMore x.given c.map.next (event_governs c event unmerged g).asks (cluster_after c event).stream_layer.post (cluster_after c event)
      go (Split s k key) unmerged =
          gives_on c g (asked_now c s k key g) (now_once c s k key g) (cluster_after c (Split s k key)).stream_layer.post (λ p there. stays_in_post c p there (Split s k key)) x.given
          (grown (Split s k key) (asked_now c s k key g) (λ p there. Contains-append_left g.asks _ p there)) (Split s k key) (λ cell at st is r sent. asks_now c s k key g cell at st is r sent)
      go (Submit user to body) unmerged = same (Submit user to body) tt
      go (Deliver number) unmerged = same (Deliver number) tt
      go (Stop actor call keep) unmerged = same (Stop actor call keep) tt
      go (Restart actor) unmerged = same (Restart actor) tt
      go (Decide e) unmerged = same (Decide e) tt
      go (GiveUp server k pick) unmerged = same (GiveUp server k pick) tt
      go (Assign k server until) unmerged = same (Assign k server until) tt
      go (Renew k server until) unmerged = same (Renew k server until) tt
      go (Moment now) unmerged = same (Moment now) tt
      go (Checkpoint server k combine) unmerged = same (Checkpoint server k combine) tt
      go (Merge server one other) unmerged = absurd unmerged

  unfoldable pub event_gives : (event : Event) (unmerged : IsUnmerged event) → GivesNow (cluster_after c event) (event_governs c event unmerged g)
  event_gives event unmerged = (event_gives_more event unmerged).some

  -- what was settled stays so
  pub event_settled : (event : Event) (unmerged : IsUnmerged event) (n : ℕ) → n < c.map.next → IsCompleted x.given c.stream_layer.post n → IsCompleted (event_gives event unmerged).given (cluster_after c event).stream_layer.post n
  unfolding event_gives
  event_settled event unmerged n less done =
      (event_gives_more event unmerged).settled n less
      (completed_later x.given g.asks g.asks (λ p there. there) c.stream_layer.post (cluster_after c event).stream_layer.post (λ p there. stays_in_post c p there event) n done)

-- ---- runs

pub all_give : (events : List Event) (are : AreUnmerged events) (c : Cluster) (g : Governs c) → GivesNow c g → GivesNow (cluster_after_all c events) (all_govern events are c g)
unfolding all_govern
all_give [] are c g x = x
all_give (event ∷ events) are c g x = all_give events are.1 (cluster_after c event) (event_governs c event are.0 g) (event_gives c g x event are.0)

pub first_gives : (nodes servers target batch : ℕ) → GivesNow (first_cluster nodes servers target batch) (first_governs nodes servers target batch)
first_gives nodes servers target batch = record {
  given = [];
  gives = record {
    map = record { below = omega arith; entries = (record { number = omega arith; completed = λ pair among has. absurd (let less = among.1 in omega (arith, less)); pending = λ key low high is. absurd cc }, tt) };
    names = record { post = λ p there. absurd (let less = there.1 in omega (arith, less)); servers = first_cells _ batch 1 servers; catalog = λ range kind x is. tt };
  };
}

-- In every run without merges each number that the map gave to a split is of one pair, of one range under one generation; and a range of such a
-- number is assigned, or the map's, only where somebody asked to complete the split.
pub run_gives_once : (nodes servers target batch : ℕ) (events : List Event) → AreUnmerged events → GivesOnce (cluster_after_all (first_cluster nodes servers target batch) events)
run_gives_once nodes servers target batch events are =
    let c : Cluster = first_cluster nodes servers target batch in
    let x = all_give events are c (first_governs nodes servers target batch) (first_gives nodes servers target batch) in
    record { asks = (all_govern events are c (first_governs nodes servers target batch)).asks; given = x.given; map = x.gives.map; names = x.gives.names }
