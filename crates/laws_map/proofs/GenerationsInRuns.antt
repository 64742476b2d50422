-- In a run no generation that anybody names is above that of the range's entry in the map.
use Rattle.std.proofs.Common.{◌≡◌, ◌⊎◌, ℕ, zero, suc, ◌+◌, ◌-◌, ◌<◌, ◌&&◌, ◌==◌, Bool, true, nat_lt, List, [], ◌∷◌, ◌++◌, Option, Some, None, slice_get, slice_set, Contains, refl, sym, ap, ◌∙◌, subst, inl, inr, arith, eqb-true}
use Rattle.std.proofs.lemmas.Bool.{and_parts}
use Rattle.std.proofs.lemmas.Option.{same_Some}
use Rattle.std.proofs.lemmas.List.Elements.{Contains-append_left, Contains-append_right, Contains-append_cases}
use Rattle.block_types.specs.declared.record.Nodes.{Nodes}
use Rattle.wire.specs.declared.actor.ActorId.{ActorId}
use Rattle.wire.specs.declared.actor.ActorId.TheVariants.{Node, Manager, Map, Server, User}
use Rattle.wire.specs.declared.actor.ReqNo.{ReqNo}
use Rattle.wire.specs.declared.actor.ReqNo.TheVariants as requests
use Rattle.wire.specs.declared.packet.Packet.{Packet}
use Rattle.wire.specs.declared.refusal.Refusal.{Refusal}
use Rattle.client.specs.Requests.{is_same}
use Rattle.model_streams.specs.declared.event.Event.{Event}
use Rattle.model_streams.specs.declared.event.Event.TheVariants.{Submit, Deliver, Stop, Restart, Decide, GiveUp, Assign, Renew, Moment, Checkpoint, Split, Merge}
use Rattle.model_streams.specs.Maps.{entry_at}
use Rattle.model_streams.specs.Outcome.{Outcome}
use Rattle.model_streams.specs.StreamSystem.{stops_in, stands_in}
use Rattle.model_streams.proofs.Tests.{if_elim}
use Rattle.model_partition.specs.Map.{MapState, range_at, first_map}
use Rattle.model_partition.specs.MapRules.{assign_fault, renew_fault, map_rule}
use Rattle.model_partition.specs.Partition.{IsSound}
use Rattle.model_partition.specs.Range.{request}
use Rattle.model_partition.specs.Splits.{new_split, begin_packet}
use Rattle.model_partition.specs.Server.{ServerState, ServerOutcome, server_split, picked, give_up_rule}
use Rattle.model_partition.specs.Servers.{ServerCell, CellOutcome, ServersOutcome, cell_rests, cell_takes, cell_given_up, cell_gives_up, cell_checkpoints, cell_splits, cell_stops, cell_starts, at_server, server_splits, first_server, first_servers}
use Rattle.model_partition.specs.Cluster.{IsUnmerged, AreUnmerged, Cluster, servers_perform, map_performs, map_performs_if, delivered_to, delivers, stops, restarts, cluster_after, cluster_after_all, first_cluster}
use Rattle.laws_streams.proofs.Choices.{contains_get}
use Rattle.laws_map.specs.Naming.{Each, Knowledge, PacketNames, StateNames, Names}
use Rattle.laws_map.specs.Generations.{EntryKnows, IsWithin, HasAsked, knowing, within, AreOnce, AreWithinMap}
use Rattle.laws_map.proofs.Knowing.{Extends}
use Rattle.laws_map.proofs.SplitNames.{Laws}
use Rattle.laws_map.proofs.ServerNames.{ServerStep, StepIf, AsksFor, server_step, server_gives_up_step, server_checkpoint_step, server_split_step}
use Rattle.laws_map.proofs.EventNames.{MapLaws, AskedIn, entry_is, names_on, event_keeps}
use Rattle.laws_map.proofs.PostStays.{stays_in_post}
use Rattle.laws_map.proofs.SoundMaps.{event_sound, first_is_sound}
use Rattle.laws_map.proofs.GivenNumbers.{first_given, first_cells, first_stream}
use Rattle.laws_map.proofs.WithinMaps.{assign_told, renew_told, map_told}
use Rattle.laws_map.proofs.AskedNumbers.{IsPast, IsItself, AreThemselves, CellOn, ServersOn, nothing_on, one_on, same_cell, stepped_cell, stopped_cell, started_cell, moments_on, entry_set, asked_cases, one_asked, IsAskedFor, split_asks}

-- ---- what a map knows

each_all : {A : Type 0} (P : A → Type 0) → ((x : A) → P x) → (xs : List A) → Each P xs
each_all P f [] = tt
each_all P f (x ∷ xs) = (f x, each_all P f xs)

pub same_request : (q w : ReqNo) → is_same q w ≡ true → q ≡ w
same_request (requests.Server s n k) (requests.Server t m j) is =
    let a = and_parts (s == t) ((n == m) && (k == j)) is in
    let b = and_parts (n == m) (k == j) a.1 in
    (λ i. requests.Server (eqb-true s t a.0 i) (eqb-true n m b.0 i) (eqb-true k j b.1 i))
same_request (requests.User u n) (requests.User v m) is =
    let a = and_parts (u == v) (n == m) is in
    (λ i. requests.User (eqb-true u v a.0 i) (eqb-true n m a.1 i))
same_request requests.NoRequest requests.NoRequest is = refl
same_request (requests.Server s n k) (requests.User v m) is = absurd cc
same_request (requests.Server s n k) requests.NoRequest is = absurd cc
same_request (requests.User u n) (requests.Server t m j) is = absurd cc
same_request (requests.User u n) requests.NoRequest is = absurd cc
same_request requests.NoRequest (requests.Server t m j) is = absurd cc
same_request requests.NoRequest (requests.User v m) is = absurd cc

-- what was told for a request is of the split that was asked for under its number
pub knowing_laws : (knows : ℕ → ℕ → Type 0) (numbers : ℕ → Type 0) (asks : List Packet) → AreOnce asks → Laws (knowing knows numbers asks)
knowing_laws knows numbers asks once = record {
  leased = λ range generation k. k;
  tells = λ q w range generation key low high a same b.
      (let is = once q range generation key b.range b.generation b.key a (subst (λ (v : ReqNo). HasAsked asks v b.range b.generation b.key) (sym (same_request q w same)) b.asked) in
      (subst (λ g. knows low g) (sym is.1) b.low_known, subst (λ g. knows high g) (sym is.1) b.high_known));
  low = λ range generation key low high k. k.0;
  high = λ range generation key low high k. k.1;
}

-- where more was asked more is known
pub more_asked : (knows : ℕ → ℕ → Type 0) (numbers : ℕ → Type 0) (asks more : List Packet) → Extends (knowing knows numbers asks) (knowing knows numbers (asks ++ more))
more_asked knows numbers asks more = record {
  knows = λ range generation k. k;
  assigned = λ range generation k. k;
  asked = λ q range generation key k. on q range generation key k;
  begun = λ q low high k. record { range = k.range; generation = k.generation; key = k.key; asked = on q k.range k.generation k.key k.asked; low_known = k.low_known; high_known = k.high_known };
  splits = λ range generation key low high k. k;
  numbers = λ range k. k;
  merges = λ range generation k. k;
}
  where
    on : (q : ReqNo) (range generation : ℕ) (key : List ℕ) → HasAsked asks q range generation key → HasAsked (asks ++ more) q range generation key
    on q range generation key h = record { packet = h.packet; sent = Contains-append_left asks more h.packet h.sent; is = h.is }

module _ (m : MapState) (s : IsSound m) (asks : List Packet) (once : AreOnce asks) where
  pub within_laws : Laws (within m asks)
  within_laws = knowing_laws (IsWithin m) (λ range. range < m.next) asks once

  -- everybody is above generation 0
  pub none_within : IsWithin m 0 0
  none_within = record { given = first_given m s; entries = each_all (EntryKnows 0 0) (λ r. ((λ e. omega arith), inr (omega arith))) m.ranges }

  pub map_laws : MapLaws (λ a. within a asks) m
  map_laws = record {
    laws = within_laws;
    users = none_within;
    assigns = λ range server until. assign_told asks m s range server until (range_at m.ranges range) refl;
    renews = λ range server until. renew_told asks m s range server until (range_at m.ranges range) refl;
    takes = λ p names. map_told asks m s p names;
  }

-- ---- how servers go on

-- what a server of a number does
at_on : (servers : List ServerCell) (s : ℕ) (rule : ServerCell → CellOutcome) → ((cell : ServerCell) → entry_at servers s ≡ Some cell → CellOn s cell (rule cell).cell) → (o : Option ServerCell) → entry_at servers s ≡ o →
    ServersOn servers (at_server servers s rule o).servers
at_on servers s rule on None at = nothing_on servers
at_on servers s rule on (Some cell) at = one_on servers s cell (rule cell).cell at (on cell at)

module _ (K : Knowledge) (laws : Laws K) where
  goes_on : (s : ℕ) (cell : ServerCell) (st : ServerState) (o : ServerOutcome) → cell.state ≡ Some st → ServerStep K st o → CellOn s cell (record cell { state = Some o.after })
  goes_on s cell st o is h = stepped_cell s cell st o.after is h.count h.server h.session

  takes_on : (s : ℕ) (cell : ServerCell) (p : Packet) → PacketNames K p → (state : Option ServerState) → cell.state ≡ state → StateNames K state → CellOn s cell (cell_takes cell p state).cell
  takes_on s cell p names None is n = same_cell s cell
  takes_on s cell p names (Some st) is n = goes_on s cell st _ is (server_step K laws st n p names)

  gives_up_on : (s : ℕ) (cell : ServerCell) (range : ℕ) (pick : Nodes) (state : Option ServerState) → cell.state ≡ state → StateNames K state → CellOn s cell (cell_gives_up cell range pick state).cell
  gives_up_on s cell range pick None is n = same_cell s cell
  gives_up_on s cell range pick (Some st) is n = by (give_up_rule st range pick) (server_gives_up_step K laws st range pick n)
    where
      by : (o : Option ServerOutcome) → StepIf K (picked st pick) o → CellOn s cell (cell_given_up cell o).cell
      by None h = same_cell s cell
      by (Some o) h = stepped_cell s cell st o.after is h.count h.server h.session

  checkpoints_on : (s : ℕ) (cell : ServerCell) (range : ℕ) (combine : Bool) (state : Option ServerState) → cell.state ≡ state → StateNames K state → CellOn s cell (cell_checkpoints cell range combine state).cell
  checkpoints_on s cell range combine None is n = same_cell s cell
  checkpoints_on s cell range combine (Some st) is n = goes_on s cell st _ is (server_checkpoint_step K laws st n range combine)

  splits_on : (s : ℕ) (cell : ServerCell) (range : ℕ) (key : List ℕ) (state : Option ServerState) → cell.state ≡ state → StateNames K state → ((st : ServerState) → state ≡ Some st → AsksFor K st range key) → CellOn s cell (cell_splits cell range key state).cell
  splits_on s cell range key None is n asked = same_cell s cell
  splits_on s cell range key (Some st) is n asked = goes_on s cell st _ is (server_split_step K laws st n range key (asked st refl))

  module _ (c : Cluster) (n : Names K c) where
    abbrev On : Cluster → Type 0
    On d = ServersOn c.servers d.servers

    rests_on : On c
    rests_on = nothing_on c.servers

    state_at : (s : ℕ) (cell : ServerCell) → entry_at c.servers s ≡ Some cell → StateNames K cell.state
    state_at s cell at = entry_is (λ (x : ServerCell). StateNames K x.state) c.servers s cell n.servers at

    does_on : (o : Outcome MapState) → On (map_performs c o)
    does_on o = if_elim On (stops_in c.map_cell o.written) _ _ (λ t. if_elim On (stands_in c.map_cell) _ _ (λ s. rests_on) (λ s. rests_on)) (λ f. rests_on)

    does_if_on : (fault : Option Refusal) (o : Outcome MapState) → On (map_performs_if c fault o)
    does_if_on (Some refusal) o = rests_on
    does_if_on None o = does_on o

    delivered_on : (p : Packet) → PacketNames K p → (to : ActorId) → On (delivered_to c p to)
    delivered_on p names (Server s) = at_on c.servers s (λ cell. cell_takes cell p cell.state) (λ cell at. takes_on s cell p names cell.state refl (state_at s cell at)) (entry_at c.servers s) refl
    delivered_on p names Map = if_elim On c.map_cell.up _ _ (λ up. does_on (map_rule c.map p p.body)) (λ up. rests_on)
    delivered_on p names (Node k) = rests_on
    delivered_on p names Manager = rests_on
    delivered_on p names (User u) = rests_on

    delivers_on : (number : ℕ) (o : Option Packet) → slice_get c.stream_layer.post number ≡ o → On (delivers c o)
    delivers_on number None at = rests_on
    delivers_on number (Some p) at = delivered_on p (n.post p (contains_get c.stream_layer.post number p at)) p.to

    stops_on : (actor : ActorId) (call : ℕ) (keep : Bool) → On (stops c actor call keep)
    stops_on (Server s) call keep = at_on c.servers s (λ cell. cell_rests (cell_stops call cell)) (λ cell at. stopped_cell s call cell) (entry_at c.servers s) refl
    stops_on Map call keep = if_elim On c.map_cell.up _ _ (λ up. if_elim On (call == 0) _ _ (λ z. rests_on) (λ z. rests_on)) (λ up. rests_on)
    stops_on (Node k) call keep = rests_on
    stops_on Manager call keep = rests_on
    stops_on (User u) call keep = rests_on

    restarts_on : (actor : ActorId) → On (restarts c actor)
    restarts_on (Server s) = at_on c.servers s (λ cell. cell_rests (cell_starts s c.now c.batch cell cell.state)) (λ cell at. started_cell s c.now c.batch cell cell.state refl) (entry_at c.servers s) refl
    restarts_on Map = if_elim On c.map_cell.up _ _ (λ up. rests_on) (λ up. rests_on)
    restarts_on (Node k) = rests_on
    restarts_on Manager = rests_on
    restarts_on (User u) = rests_on

    split_on : (s range : ℕ) (key : List ℕ) → ((cell : ServerCell) → entry_at c.servers s ≡ Some cell → (st : ServerState) → cell.state ≡ Some st → AsksFor K st range key) → On (servers_perform c (server_splits c.servers s range key))
    split_on s range key asked = at_on c.servers s (λ cell. cell_splits cell range key cell.state) (λ cell at. splits_on s cell range key cell.state refl (state_at s cell at) (asked cell at)) (entry_at c.servers s) refl

    -- of each event but a split or a merge
    pub other_on : (event : Event) → ((s range : ℕ) (key : List ℕ) → event ≡ Split s range key → ⊥) → IsUnmerged event → On (cluster_after c event)
    other_on (Submit user to body) other unmerged = rests_on
    other_on (Deliver number) other unmerged = delivers_on number (slice_get c.stream_layer.post number) refl
    other_on (Stop actor call keep) other unmerged = stops_on actor call keep
    other_on (Restart actor) other unmerged = restarts_on actor
    other_on (Decide e) other unmerged = rests_on
    other_on (GiveUp server range pick) other unmerged =
        at_on c.servers server (λ cell. cell_gives_up cell range pick cell.state) (λ cell at. gives_up_on server cell range pick cell.state refl (state_at server cell at)) (entry_at c.servers server) refl
    other_on (Assign range server until) other unmerged = if_elim On c.map_cell.up _ _ (λ up. does_if_on (assign_fault server c.now (range_at c.map.ranges range)) _) (λ up. rests_on)
    other_on (Renew range server until) other unmerged = if_elim On c.map_cell.up _ _ (λ up. does_if_on (renew_fault server (range_at c.map.ranges range)) _) (λ up. rests_on)
    other_on (Moment now) other unmerged = if_elim On (nat_lt now c.now) _ _ (λ back. rests_on) (λ on. moments_on c.servers now)
    other_on (Checkpoint server range combine) other unmerged =
        at_on c.servers server (λ cell. cell_checkpoints cell range combine cell.state) (λ cell at. checkpoints_on server cell range combine cell.state refl (state_at server cell at)) (entry_at c.servers server) refl
    other_on (Split server range key) other unmerged = absurd (other server range key refl)
    other_on (Merge server left right) other unmerged = absurd unmerged

-- ---- the invariant

-- What is known of a cluster: its map is sound; all that is named is within it; and each number under which a split was asked for was used by
-- a server, for one split.
pub record Governs (c : Cluster) : Type 0 where
  pub sound : IsSound c.map
  pub asks : List Packet
  pub sent : (p : Packet) → Contains asks p → Contains c.stream_layer.post p
  pub names : Names (within c.map asks) c
  pub once : AreOnce asks
  pub past : (q : ReqNo) (range generation : ℕ) (key : List ℕ) → HasAsked asks q range generation key → IsPast c.servers q
  pub themselves : AreThemselves c.servers

unfoldable pub other_governs : (c : Cluster) (event : Event) → ((s range : ℕ) (key : List ℕ) → event ≡ Split s range key → ⊥) → IsUnmerged event → Governs c → Governs (cluster_after c event)
other_governs c event other unmerged g =
    let on = other_on (within c.map g.asks) (within_laws c.map g.sound g.asks g.once) c g.names event other unmerged in
    record {
      sound = event_sound c event g.sound;
      asks = g.asks;
      sent = λ p there. stays_in_post c p (g.sent p there) event;
      names = event_keeps (λ m. within m g.asks) c (map_laws c.map g.sound g.asks g.once) g.names event (nothing event other unmerged);
      once = g.once;
      past = λ q range generation key h. on.past q (g.past q range generation key h);
      themselves = on.themselves g.themselves;
    }
  where
    nothing : (event : Event) → ((s range : ℕ) (key : List ℕ) → event ≡ Split s range key → ⊥) → IsUnmerged event → AskedIn (λ m. within m g.asks) c event
    nothing (Split s range key) other unmerged = absurd (other s range key refl)
    nothing (Merge server left right) other unmerged = absurd unmerged
    nothing event other unmerged = tt

-- ---- a split begins

module _ (c : Cluster) (s range : ℕ) (key : List ℕ) (g : Governs c) where
  abbrev o : ServersOutcome
  o = server_splits c.servers s range key

  abbrev pub asked_now : List Packet
  asked_now = g.asks ++ o.packets

  -- what a server sends there
  sent_is : (cell : ServerCell) → entry_at c.servers s ≡ Some cell → (st : ServerState) → cell.state ≡ Some st → o.packets ≡ (server_split st range key).packets
  sent_is cell at st is =
      ap (λ (x : Option ServerCell). (at_server c.servers s (λ cell. cell_splits cell range key cell.state) x).packets) at
      ∙ ap (λ (x : Option ServerState). (cell_splits cell range key x).packets) is

  servers_are : (cell : ServerCell) → entry_at c.servers s ≡ Some cell → (st : ServerState) → cell.state ≡ Some st → o.servers ≡ slice_set c.servers (s - 1) (record cell { state = Some (server_split st range key).after })
  servers_are cell at st is =
      ap (λ (x : Option ServerCell). (at_server c.servers s (λ cell. cell_splits cell range key cell.state) x).servers) at
      ∙ ap (λ (x : Option ServerState). slice_set c.servers (s - 1) (cell_splits cell range key x).cell) is

  -- one server asks for a split under the number of its next request
  record OneAsks : Type 0 where
    cell : ServerCell
    at : entry_at c.servers s ≡ Some cell
    st : ServerState
    is : cell.state ≡ Some st
    ask : IsAskedFor st range key (server_split st range key)

  who_asks : (o.packets ≡ []) ⊎ OneAsks
  who_asks = by_cell (entry_at c.servers s) refl
    where
      by_state : (cell : ServerCell) → entry_at c.servers s ≡ Some cell → (x : Option ServerState) → cell.state ≡ x → (o.packets ≡ []) ⊎ OneAsks
      by_state cell at None is =
          inl (ap (λ (x : Option ServerCell). (at_server c.servers s (λ cell. cell_splits cell range key cell.state) x).packets) at ∙ ap (λ (x : Option ServerState). (cell_splits cell range key x).packets) is)
      by_state cell at (Some st) is = elim (split_asks st range key) [
        | inl none ↦ inl (sent_is cell at st is ∙ none)
        | inr ask ↦ inr (record { cell = cell; at = at; st = st; is = is; ask = ask })
      ]

      by_cell : (x : Option ServerCell) → entry_at c.servers s ≡ x → (o.packets ≡ []) ⊎ OneAsks
      by_cell None at = inl (ap (λ (x : Option ServerCell). (at_server c.servers s (λ cell. cell_splits cell range key cell.state) x).packets) at)
      by_cell (Some cell) at = by_state cell at cell.state refl

  -- its number was not used before
  fresh : (a : OneAsks) → IsPast c.servers (request a.st.context) → ⊥
  fresh a (cell, at, past) =
      let own = g.themselves s a.cell a.at a.st a.is in
      let same : cell ≡ a.cell = same_Some cell a.cell (sym at ∙ ap (entry_at c.servers) own.0 ∙ a.at) in
      elim past [
        | inl over ↦ absurd (let e = own.1 in let z = ap (λ (x : ServerCell). x.session) same in omega (arith, over, e, z))
        | inr lasts ↦ absurd (let l = lasts.1 a.st (ap (λ (x : ServerCell). x.state) same ∙ a.is) in omega (arith, l))
      ]

  -- what is asked for there is what this server asks for
  new_ask : (a : OneAsks) (q : ReqNo) (n h : ℕ) (k : List ℕ) → HasAsked o.packets q n h k → (a.ask.held.load.range ≡ n) × (a.ask.held.load.generation ≡ h) × (key ≡ k) × (request a.st.context ≡ q)
  new_ask a q n h k asked =
      one_asked a.ask.held.load.range a.ask.held.load.generation key (request a.st.context) (begin_packet a.st.context (new_split a.st.context a.ask.held key) (request a.st.context)) refl q n h k
      (subst (λ ps. HasAsked ps q n h k) (sent_is a.cell a.at a.st a.is ∙ a.ask.sent) asked)

  no_ask : o.packets ≡ [] → (q : ReqNo) (n h : ℕ) (k : List ℕ) → HasAsked o.packets q n h k → ⊥
  no_ask none q n h k asked = let there = subst (λ ps. Contains ps asked.packet) none asked.sent in let less = there.1 in absurd (omega (arith, less))

  pub now_once : AreOnce asked_now
  now_once q n h k m i l one two = elim who_asks [
    | inl none ↦ elim (asked_cases g.asks o.packets q n h k one) [
      | inl old ↦ elim (asked_cases g.asks o.packets q m i l two) [ inl also ↦ g.once q n h k m i l old also | inr new ↦ absurd (no_ask none q m i l new) ]
      | inr new ↦ absurd (no_ask none q n h k new)
    ]
    | inr a ↦ elim (asked_cases g.asks o.packets q n h k one) [
      | inl old ↦ elim (asked_cases g.asks o.packets q m i l two) [
        | inl also ↦ g.once q n h k m i l old also
        | inr new ↦ absurd (fresh a (subst (IsPast c.servers) (sym (new_ask a q m i l new).3) (g.past q n h k old)))
      ]
      | inr new ↦ elim (asked_cases g.asks o.packets q m i l two) [
        | inl also ↦ absurd (fresh a (subst (IsPast c.servers) (sym (new_ask a q n h k new).3) (g.past q m i l also)))
        | inr other ↦ (let x = new_ask a q n h k new in let y = new_ask a q m i l other in (sym x.0 ∙ y.0, sym x.1 ∙ y.1, sym x.2 ∙ y.2))
      ]
    ]
  ]

  pub asks_now : AskedIn (λ m. within m asked_now) c (Split s range key)
  asks_now cell at st is r sent = record {
    packet = begin_packet st.context (new_split st.context r key) (request st.context);
    sent = Contains-append_right g.asks o.packets _ (subst (λ ps. Contains ps (begin_packet st.context (new_split st.context r key) (request st.context))) (sym (sent_is cell at st is ∙ sent)) (0, omega arith, refl));
    is = refl;
  }

  pub names_now : Names (within c.map asked_now) c
  names_now = names_on (within c.map g.asks) (within c.map asked_now) (more_asked (IsWithin c.map) (λ range. range < c.map.next) g.asks o.packets) c g.names

  pub on_now : ServersOn c.servers o.servers
  on_now = split_on (within c.map asked_now) (within_laws c.map g.sound asked_now now_once) c names_now s range key asks_now

  -- its number is used then
  used_now : (a : OneAsks) → IsPast o.servers (request a.st.context)
  used_now a =
      let own = g.themselves s a.cell a.at a.st a.is in
      let after : ServerState = (server_split a.st range key).after in
      let next : ServerCell = record a.cell { state = Some after } in (
        next,
        ap (entry_at o.servers) own.0 ∙ ap (λ xs. entry_at xs s) (servers_are a.cell a.at a.st a.is) ∙ entry_set c.servers s a.cell next a.at,
        inr (own.1, λ z e. (let same : after ≡ z = same_Some after z e in let l = a.ask.count in subst (λ (y : ServerState). a.st.context.count < y.context.count) same (omega (arith, l)))),
      )

  pub past_now : (q : ReqNo) (n h : ℕ) (k : List ℕ) → HasAsked asked_now q n h k → IsPast o.servers q
  past_now q n h k asked = elim (asked_cases g.asks o.packets q n h k asked) [
    | inl old ↦ on_now.past q (g.past q n h k old)
    | inr new ↦ elim who_asks [
      | inl none ↦ absurd (no_ask none q n h k new)
      | inr a ↦ subst (IsPast o.servers) (new_ask a q n h k new).3 (used_now a)
    ]
  ]

  unfoldable pub split_governs : Governs (cluster_after c (Split s range key))
  split_governs = record {
    sound = event_sound c (Split s range key) g.sound;
    asks = asked_now;
    sent = λ p there. elim (Contains-append_cases g.asks o.packets p there) [
      | inl old ↦ stays_in_post c p (g.sent p old) (Split s range key)
      | inr new ↦ Contains-append_right c.stream_layer.post o.packets p new
    ];
    names = event_keeps (λ m. within m asked_now) c (map_laws c.map g.sound asked_now now_once) names_now (Split s range key) asks_now;
    once = now_once;
    past = past_now;
    themselves = on_now.themselves g.themselves;
  }

-- ---- runs

unfoldable pub event_governs : (c : Cluster) (event : Event) → IsUnmerged event → Governs c → Governs (cluster_after c event)
event_governs c (Split s range key) unmerged g = split_governs c s range key g
event_governs c (Submit user to body) unmerged g = other_governs c (Submit user to body) (λ s range key e. absurd cc) tt g
event_governs c (Deliver number) unmerged g = other_governs c (Deliver number) (λ s range key e. absurd cc) tt g
event_governs c (Stop actor call keep) unmerged g = other_governs c (Stop actor call keep) (λ s range key e. absurd cc) tt g
event_governs c (Restart actor) unmerged g = other_governs c (Restart actor) (λ s range key e. absurd cc) tt g
event_governs c (Decide e) unmerged g = other_governs c (Decide e) (λ s range key e. absurd cc) tt g
event_governs c (GiveUp server range pick) unmerged g = other_governs c (GiveUp server range pick) (λ s range key e. absurd cc) tt g
event_governs c (Assign range server until) unmerged g = other_governs c (Assign range server until) (λ s range key e. absurd cc) tt g
event_governs c (Renew range server until) unmerged g = other_governs c (Renew range server until) (λ s range key e. absurd cc) tt g
event_governs c (Moment now) unmerged g = other_governs c (Moment now) (λ s range key e. absurd cc) tt g
event_governs c (Checkpoint server range combine) unmerged g = other_governs c (Checkpoint server range combine) (λ s range key e. absurd cc) tt g
event_governs c (Merge server left right) unmerged g = absurd unmerged

unfoldable pub all_govern : (events : List Event) → AreUnmerged events → (c : Cluster) → Governs c → Governs (cluster_after_all c events)
all_govern [] are c g = g
all_govern (event ∷ events) are c g = all_govern events are.1 (cluster_after c event) (event_governs c event are.0 g)

-- the first servers, from a number on
first_themselves : (batch k n : ℕ) (j : ℕ) (cell : ServerCell) → slice_get (first_servers batch k n) j ≡ Some cell → IsItself (k + j) cell
first_themselves batch k zero j cell at = absurd cc
first_themselves batch k (suc n) zero cell at =
    let same : first_server batch k ≡ cell = same_Some (first_server batch k) cell at in
    let own : IsItself k (first_server batch k) = λ z e. (let s = same_Some _ z e in subst (λ (y : ServerState). (y.context.server ≡ k) × (y.context.session ≡ 1)) s (refl, refl)) in
    subst (IsItself (k + 0)) same (subst (λ m. IsItself m (first_server batch k)) (omega arith) own)
first_themselves batch k (suc n) (suc j) cell at = subst (λ m. IsItself m cell) (omega arith) (first_themselves batch (suc k) n j cell at)

pub first_are_themselves : (batch n : ℕ) → AreThemselves (first_servers batch 1 n)
first_are_themselves batch n zero cell at = absurd cc
first_are_themselves batch n (suc j) cell at = subst (λ m. IsItself m cell) (omega arith) (first_themselves batch 1 n j cell at)

none_asked : (q : ReqNo) (range generation : ℕ) (key : List ℕ) → HasAsked [] q range generation key → ⊥
none_asked q range generation key h = let less = h.sent.1 in absurd (omega (arith, less))

pub first_governs : (nodes servers target batch : ℕ) → Governs (first_cluster nodes servers target batch)
first_governs nodes servers target batch = record {
  sound = first_is_sound;
  asks = [];
  sent = λ p there. absurd (let less = there.1 in omega (arith, less));
  names = record {
    post = λ p there. absurd (let less = there.1 in omega (arith, less));
    servers = first_cells (within first_map []) batch 1 servers;
    catalog = λ range kind x is.
        (let is_one = first_stream range kind x is in subst (λ n. IsWithin first_map n x.fence) (sym is_one.0) (subst (IsWithin first_map 1) (sym is_one.1) (record { given = omega arith; entries = (((λ e. omega arith), inr (omega arith)), tt) })));
  };
  once = λ q range generation key n g k a b. absurd (none_asked q range generation key a);
  past = λ q range generation key a. absurd (none_asked q range generation key a);
  themselves = first_are_themselves batch servers;
}

-- In every run without merges no generation that packets, servers, splits or the manager's streams name is above that of the range's entry in the map.
pub run_is_within : (nodes servers target batch : ℕ) (events : List Event) → AreUnmerged events → AreWithinMap (cluster_after_all (first_cluster nodes servers target batch) events)
run_is_within nodes servers target batch events are =
    let g = all_govern events are (first_cluster nodes servers target batch) (first_governs nodes servers target batch) in record { asks = g.asks; sent = g.sent; once = g.once; names = g.names }
