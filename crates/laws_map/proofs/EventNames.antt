-- Each event of a run leaves all that packets, servers and the manager name with what is known, where each rule of the map does.
use Rattle.std.proofs.Common.{◌≡◌, ℕ, zero, suc, ◌-◌, ◌==◌, Bool, nat_lt, List, [], ◌∷◌, map, Option, Some, None, option_map, slice_get, refl, sym, ap, ◌∙◌, subst, inr, arith, ◌^◌}
use Rattle.block_types.specs.declared.record.Nodes.{Nodes}
use Rattle.wire.specs.declared.actor.ActorId.{ActorId}
use Rattle.wire.specs.declared.actor.ActorId.TheVariants.{Node, Manager, Map, Server, User}
use Rattle.wire.specs.declared.packet.Packet.{Packet}
use Rattle.wire.specs.declared.refusal.Refusal.{Refusal}
use Rattle.model_streams.specs.declared.event.Event.{Event}
use Rattle.model_streams.specs.declared.event.Event.TheVariants.{Submit, Deliver, Stop, Restart, Decide, GiveUp, Assign, Renew, Moment, Checkpoint, Split, Merge}
use Rattle.model_streams.specs.Maps.{entry_at}
use Rattle.model_streams.specs.Outcome.{Outcome}
use Rattle.model_streams.specs.StreamSystem.{happens, ActorCell, running, down, armed, stops_in, stands_in, delivered_if, delivered}
use Rattle.model_streams.proofs.Tests.{if_elim}
use Rattle.model_partition.specs.Map.{MapState, range_at}
use Rattle.model_partition.specs.MapRules.{assign_fault, assign_rule, renew_fault, renew_rule, map_rule}
use Rattle.model_partition.specs.Server.{ServerState, ServerOutcome, picked, give_up_rule, moment_rule}
use Rattle.model_partition.specs.Servers.{ServerCell, CellOutcome, ServersOutcome, cell_rests, cell_performs, cell_takes, cell_given_up, cell_gives_up, cell_checkpoints, cell_splits, cell_stops, cell_starts, at_server, server_takes, server_gives_up, server_checkpoints, server_splits, server_stops, server_starts, told_moment}
use Rattle.model_partition.specs.Cluster.{Cluster, servers_perform, map_performs, map_performs_if, map_takes, delivered_to, delivers, stops, restarts, shows_moment, map_stops, map_starts, cluster_after}
use Rattle.laws_streams.proofs.Choices.{contains_get}
use Rattle.laws_map.specs.Naming.{Each, Knowledge, BodyNames, PacketNames, StateNames, Names}
use Rattle.laws_map.proofs.Knowing.{AllName, Extends, packet_on, cells_on, catalog_on, each_get, each_put, each_has}
use Rattle.laws_map.proofs.SplitNames.{Laws}
use Rattle.laws_map.proofs.ServerNames.{AsksFor, ServerStep, StepIf, moment_names, server_step, server_gives_up_step, server_checkpoint_step, server_split_step}
use Rattle.laws_map.proofs.StreamNames.{LayerNames, more_known, happens_names}

-- ---- servers

-- the entry of a number is one of them
pub entry_is : {A : Type 0} (P : A → Type 0) (xs : List A) (s : ℕ) (x : A) → Each P xs → entry_at xs s ≡ Some x → P x
entry_is P xs zero x a is = absurd cc
entry_is P xs (suc n) x a is = each_get P xs n x a is

module _ (K : Knowledge) where
  abbrev Cells : List ServerCell → Type 0
  Cells cells = Each (λ (cell : ServerCell). StateNames K cell.state) cells

  -- a cell is left with what is known, and asks for that
  abbrev CellStep : CellOutcome → Type 0
  CellStep o = StateNames K o.cell.state × AllName K o.packets

  pub record ServersStep (o : ServersOutcome) : Type 0 where
    pub names : Each (λ (cell : ServerCell). StateNames K cell.state) o.servers
    pub packets : AllName K o.packets

  at_names : (servers : List ServerCell) (s : ℕ) (rule : ServerCell → CellOutcome) → Cells servers →
      ((cell : ServerCell) → entry_at servers s ≡ Some cell → StateNames K cell.state → CellStep (rule cell)) → (o : Option ServerCell) → entry_at servers s ≡ o → ServersStep (at_server servers s rule o)
  at_names servers s rule all step None is = record { names = all; packets = tt }
  at_names servers s rule all step (Some cell) is =
      let h = step cell is (entry_is (λ (cell : ServerCell). StateNames K cell.state) servers s cell all is) in
      record { names = each_put (λ (cell : ServerCell). StateNames K cell.state) servers (s - 1) (rule cell).cell all h.0; packets = h.1 }

  module _ (laws : Laws K) where
    performs_step : (cell : ServerCell) (s : ServerState) (o : ServerOutcome) → ServerStep K s o → CellStep (cell_performs cell o)
    performs_step cell s o h = (h.names, h.packets)

    takes_step : (cell : ServerCell) (p : Packet) (state : Option ServerState) → cell.state ≡ state → PacketNames K p → StateNames K state → CellStep (cell_takes cell p state)
    takes_step cell p None is names n = (subst (StateNames K) (sym is) tt, tt)
    takes_step cell p (Some s) is names n = performs_step cell s _ (server_step K laws s n p names)

    pub servers_take : (servers : List ServerCell) (s : ℕ) (p : Packet) → PacketNames K p → Cells servers → ServersStep (server_takes servers s p)
    servers_take servers s p names all = at_names servers s _ all (λ cell at n. takes_step cell p cell.state refl names n) (entry_at servers s) refl

    given_up_if : (cell : ServerCell) (s : ServerState) (o : Option ServerOutcome) → StateNames K cell.state → StepIf K s o → CellStep (cell_given_up cell o)
    given_up_if cell s None n h = (n, tt)
    given_up_if cell s (Some o) n h = performs_step cell s o h

    gives_up_cell : (cell : ServerCell) (range : ℕ) (pick : Nodes) (state : Option ServerState) → cell.state ≡ state → StateNames K state → CellStep (cell_gives_up cell range pick state)
    gives_up_cell cell range pick None is n = (subst (StateNames K) (sym is) tt, tt)
    gives_up_cell cell range pick (Some s) is n =
        given_up_if cell (picked s pick) (give_up_rule s range pick) (subst (StateNames K) (sym is) n) (server_gives_up_step K laws s range pick n)

    pub servers_give_up : (servers : List ServerCell) (s range : ℕ) (pick : Nodes) → Cells servers → ServersStep (server_gives_up servers s range pick)
    servers_give_up servers s range pick all = at_names servers s _ all (λ cell at n. gives_up_cell cell range pick cell.state refl n) (entry_at servers s) refl

    checkpoints_cell : (cell : ServerCell) (range : ℕ) (combine : Bool) (state : Option ServerState) → cell.state ≡ state → StateNames K state → CellStep (cell_checkpoints cell range combine state)
    checkpoints_cell cell range combine None is n = (subst (StateNames K) (sym is) tt, tt)
    checkpoints_cell cell range combine (Some s) is n = performs_step cell s _ (server_checkpoint_step K laws s n range combine)

    pub servers_checkpoint : (servers : List ServerCell) (s range : ℕ) (combine : Bool) → Cells servers → ServersStep (server_checkpoints servers s range combine)
    servers_checkpoint servers s range combine all = at_names servers s _ all (λ cell at n. checkpoints_cell cell range combine cell.state refl n) (entry_at servers s) refl

    -- a split that begins there is asked for under the number of the server's next request
    abbrev AskedAt : List ServerCell → ℕ → ℕ → List ℕ → Type 0
    AskedAt servers s range key = (cell : ServerCell) → entry_at servers s ≡ Some cell → (st : ServerState) → cell.state ≡ Some st → AsksFor K st range key

    splits_cell : (cell : ServerCell) (range : ℕ) (key : List ℕ) (state : Option ServerState) → cell.state ≡ state → StateNames K state →
        ((st : ServerState) → cell.state ≡ Some st → AsksFor K st range key) → CellStep (cell_splits cell range key state)
    splits_cell cell range key None is n asked = (subst (StateNames K) (sym is) tt, tt)
    splits_cell cell range key (Some s) is n asked = performs_step cell s _ (server_split_step K laws s n range key (asked s is))

    pub servers_split : (servers : List ServerCell) (s range : ℕ) (key : List ℕ) → AskedAt servers s range key → Cells servers → ServersStep (server_splits servers s range key)
    servers_split servers s range key asked all = at_names servers s _ all (λ cell at n. splits_cell cell range key cell.state refl n (asked cell at)) (entry_at servers s) refl

  stops_cell : (call : ℕ) (cell : ServerCell) → StateNames K cell.state → CellStep (cell_rests (cell_stops call cell))
  stops_cell call cell n = if_elim (λ (x : ServerCell). StateNames K x.state × AllName K []) (call == 0) (record cell { state = None }) cell (λ t. (tt, tt)) (λ f. (n, tt))

  pub servers_stop : (servers : List ServerCell) (s call : ℕ) → Cells servers → ServersStep (server_stops servers s call)
  servers_stop servers s call all = at_names servers s _ all (λ cell at n. stops_cell call cell n) (entry_at servers s) refl

  starts_cell : (s now batch : ℕ) (cell : ServerCell) (state : Option ServerState) → cell.state ≡ state → StateNames K state → CellStep (cell_rests (cell_starts s now batch cell state))
  starts_cell s now batch cell (Some server) is n = (subst (StateNames K) (sym is) n, tt)
  starts_cell s now batch cell None is n =
      if_elim (λ (x : ServerCell). StateNames K x.state × AllName K []) (nat_lt (suc cell.session) (2 ^ 64)) _ cell
      (λ t. (record { ranges = tt; splits = tt; rising = tt; merges = refl }, tt)) (λ f. (subst (StateNames K) (sym is) tt, tt))

  pub servers_start : (servers : List ServerCell) (s now batch : ℕ) → Cells servers → ServersStep (server_starts servers s now batch)
  servers_start servers s now batch all = at_names servers s _ all (λ cell at n. starts_cell s now batch cell cell.state refl n) (entry_at servers s) refl

  moment_cell : (now : ℕ) (state : Option ServerState) → StateNames K state → StateNames K (option_map (λ server. moment_rule server now) state)
  moment_cell now None n = tt
  moment_cell now (Some s) n = moment_names K s now n

  moment_cells : (now : ℕ) (cells : List ServerCell) → Cells cells → Cells (map (told_moment now) cells)
  moment_cells now [] all = tt
  moment_cells now (cell ∷ cells) all = (moment_cell now cell.state all.0, moment_cells now cells all.1)

  -- ---- the cluster

  pub servers_names : (c : Cluster) (o : ServersOutcome) → ServersStep o → Names K c → Names K (servers_perform c o)
  servers_names c o h n = record {
    post = more_known K c.stream_layer.post o.packets n.post (λ p there. inr (each_has (λ (p : Packet). BodyNames K p.body) o.packets p h.packets there));
    servers = h.names;
    catalog = n.catalog;
  }

  layer_names : (c : Cluster) → Names K c → LayerNames K c.stream_layer
  layer_names c n = record { post = n.post; catalog = n.catalog }

  pub happens_keeps : Laws K → K.knows 0 0 → (c : Cluster) (event : Event) → Names K c → Names K (record c { stream_layer = happens c.stream_layer event })
  happens_keeps laws users c event n =
      let l = happens_names K laws users c.stream_layer event (layer_names c n) in record { post = l.post; servers = n.servers; catalog = l.catalog }

  cell_keeps : (c : Cluster) (cell : ActorCell) → Names K c → Names K (record c { map_cell = cell })
  cell_keeps c cell n = record { post = n.post; servers = n.servers; catalog = n.catalog }

-- where more is known all is known still
pub names_on : (K L : Knowledge) → Extends K L → (c : Cluster) → Names K c → Names L c
names_on K L e c n = record {
  post = λ p there. packet_on K L e p (n.post p there);
  servers = cells_on K L e c.servers n.servers;
  catalog = catalog_on K L e c.stream_layer.catalog n.catalog;
}

-- ---- the map

-- What a rule of the map leaves knows all that was known, and what it tells of.
pub record RuleNames (K : MapState → Knowledge) (m : MapState) (o : Outcome MapState) : Type 0 where
  pub extends : Extends (K m) (K o.after)
  pub packets : AllName (K o.after) o.packets

-- the rules of the map name what it knows then
pub record MapLaws (K : MapState → Knowledge) (m : MapState) : Type 0 where
  pub laws : Laws (K m)
  pub users : (K m).knows 0 0
  pub assigns : (range server until : ℕ) → RuleNames K m (assign_rule m range server until (range_at m.ranges range))
  pub renews : (range server until : ℕ) → RuleNames K m (renew_rule m range server until (range_at m.ranges range))
  pub takes : (p : Packet) → PacketNames (K m) p → RuleNames K m (map_rule m p p.body)

module _ (K : MapState → Knowledge) where
  -- all that is named in a cluster is known to its map
  abbrev pub Known : Cluster → Type 0
  Known c = Names (K c.map) c

  moment_keeps : (c : Cluster) (now : ℕ) → Known c → Known (shows_moment c now)
  moment_keeps c now n = if_elim Known (nat_lt now c.now) _ _ (λ back. n) (λ on. record { post = n.post; servers = moment_cells (K c.map) now c.servers n.servers; catalog = n.catalog })

  map_stops_keep : (c : Cluster) (call : ℕ) (keep : Bool) → Known c → Known (map_stops c call keep)
  map_stops_keep c call keep n =
      if_elim Known c.map_cell.up _ _
      (λ up. if_elim Known (call == 0) _ _ (λ now. cell_keeps (K c.map) c down n) (λ later. cell_keeps (K c.map) c (armed call keep) n)) (λ up. n)

  map_starts_keep : (c : Cluster) → Known c → Known (map_starts c)
  map_starts_keep c n = if_elim Known c.map_cell.up _ _ (λ up. n) (λ up. cell_keeps (K c.map) c running n)

  does_keep : (c : Cluster) (o : Outcome MapState) → RuleNames K c.map o → Known c → Known (map_performs c o)
  does_keep c o rule n =
      let on : Names (K o.after) c = names_on (K c.map) (K o.after) rule.extends c n in
      if_elim Known (stops_in c.map_cell o.written) _ _
      (λ t. if_elim Known (stands_in c.map_cell) _ _
      (λ s. record { post = more_known (K o.after) c.stream_layer.post [] on.post (λ p there. absurd (let less = there.1 in omega (arith, less))); servers = on.servers; catalog = on.catalog })
      (λ s. cell_keeps (K c.map) c down n))
      (λ f. record {
        post = more_known (K o.after) c.stream_layer.post o.packets on.post (λ p there. inr (each_has (λ (p : Packet). BodyNames (K o.after) p.body) o.packets p rule.packets there));
        servers = on.servers;
        catalog = on.catalog;
      })

  does_if_keep : (c : Cluster) (fault : Option Refusal) (o : Outcome MapState) → RuleNames K c.map o → Known c → Known (map_performs_if c fault o)
  does_if_keep c (Some refusal) o rule n = n
  does_if_keep c None o rule n = does_keep c o rule n

  -- ---- events

  -- a split that begins is asked for, and no merge begins
  abbrev pub AskedIn : Cluster → Event → Type 0
  AskedIn c (Split s range key) =
      (cell : ServerCell) → entry_at c.servers s ≡ Some cell → (st : ServerState) → cell.state ≡ Some st → AsksFor (K c.map) st range key
  AskedIn c (Merge server left right) = ⊥
  AskedIn c event = Unit {0}

  -- what the map does at an event names what it knows then
  abbrev pub RulesOf : Cluster → Event → Type 0
  RulesOf c (Deliver number) = (p : Packet) → slice_get c.stream_layer.post number ≡ Some p → PacketNames (K c.map) p → RuleNames K c.map (map_rule c.map p p.body)
  RulesOf c (Assign range server until) = RuleNames K c.map (assign_rule c.map range server until (range_at c.map.ranges range))
  RulesOf c (Renew range server until) = RuleNames K c.map (renew_rule c.map range server until (range_at c.map.ranges range))
  RulesOf c event = Unit {0}

  pub rules_of : (c : Cluster) → MapLaws K c.map → (event : Event) → RulesOf c event
  rules_of c m (Deliver number) = λ p at names. m.takes p names
  rules_of c m (Assign range server until) = m.assigns range server until
  rules_of c m (Renew range server until) = m.renews range server until
  rules_of c m (Submit user to body) = tt
  rules_of c m (Stop actor call keep) = tt
  rules_of c m (Restart actor) = tt
  rules_of c m (Decide e) = tt
  rules_of c m (GiveUp server range pick) = tt
  rules_of c m (Moment now) = tt
  rules_of c m (Checkpoint server range combine) = tt
  rules_of c m (Split server range key) = tt
  rules_of c m (Merge server left right) = tt

  module _ (c : Cluster) (laws : Laws (K c.map)) (users : (K c.map).knows 0 0) (n : Known c) where
    map_takes_keep : (p : Packet) → RuleNames K c.map (map_rule c.map p p.body) → Known (map_takes c p)
    map_takes_keep p rule = if_elim Known c.map_cell.up _ _ (λ up. does_keep c (map_rule c.map p p.body) rule n) (λ up. n)

    delivers_keep : (number : ℕ) → ((p : Packet) → slice_get c.stream_layer.post number ≡ Some p → PacketNames (K c.map) p → RuleNames K c.map (map_rule c.map p p.body)) →
        (o : Option Packet) → slice_get c.stream_layer.post number ≡ o → Known (delivers c o)
    delivers_keep number rules None at = n
    delivers_keep number rules (Some p) at = go p.to refl
      where
        names : PacketNames (K c.map) p
        names = n.post p (contains_get c.stream_layer.post number p at)

        layer_takes : (to : ActorId) → p.to ≡ to → Known (record c { stream_layer = delivered c.stream_layer p to })
        layer_takes to is =
            subst (λ z. Known (record c { stream_layer = z })) (ap (delivered_if c.stream_layer) at ∙ ap (delivered c.stream_layer p) is) (happens_keeps (K c.map) laws users c (Deliver number) n)

        go : (to : ActorId) → p.to ≡ to → Known (delivered_to c p to)
        go (Server s) is = servers_names (K c.map) c _ (servers_take (K c.map) laws c.servers s p names n.servers) n
        go Map is = map_takes_keep p (rules p at names)
        go (Node k) is = layer_takes (Node k) is
        go Manager is = layer_takes Manager is
        go (User u) is = layer_takes (User u) is

    layer_keeps : (event : Event) → Known (record c { stream_layer = happens c.stream_layer event })
    layer_keeps event = happens_keeps (K c.map) laws users c event n

    stops_keep : (actor : ActorId) (call : ℕ) (keep : Bool) → Known (stops c actor call keep)
    stops_keep (Server s) call keep = servers_names (K c.map) c _ (servers_stop (K c.map) c.servers s call n.servers) n
    stops_keep Map call keep = map_stops_keep c call keep n
    stops_keep (Node k) call keep = layer_keeps (Stop (Node k) call keep)
    stops_keep Manager call keep = layer_keeps (Stop Manager call keep)
    stops_keep (User u) call keep = layer_keeps (Stop (User u) call keep)

    restarts_keep : (actor : ActorId) → Known (restarts c actor)
    restarts_keep (Server s) = servers_names (K c.map) c _ (servers_start (K c.map) c.servers s c.now c.batch n.servers) n
    restarts_keep Map = map_starts_keep c n
    restarts_keep (Node k) = layer_keeps (Restart (Node k))
    restarts_keep Manager = layer_keeps (Restart Manager)
    restarts_keep (User u) = layer_keeps (Restart (User u))

    -- what is named is known to the map as it is after the event, where the map's own rule does
    pub event_goes : (event : Event) → RulesOf c event → AskedIn c event → Known (cluster_after c event)
    event_goes (Submit user to body) rules asked = layer_keeps (Submit user to body)
    event_goes (Deliver number) rules asked = delivers_keep number rules (slice_get c.stream_layer.post number) refl
    event_goes (Stop actor call keep) rules asked = stops_keep actor call keep
    event_goes (Restart actor) rules asked = restarts_keep actor
    event_goes (Decide e) rules asked = layer_keeps (Decide e)
    event_goes (GiveUp server range pick) rules asked = servers_names (K c.map) c _ (servers_give_up (K c.map) laws c.servers server range pick n.servers) n
    event_goes (Assign range server until) rules asked =
        if_elim Known c.map_cell.up _ _ (λ up. does_if_keep c (assign_fault server c.now (range_at c.map.ranges range)) _ rules n) (λ up. n)
    event_goes (Renew range server until) rules asked =
        if_elim Known c.map_cell.up _ _ (λ up. does_if_keep c (renew_fault server (range_at c.map.ranges range)) _ rules n) (λ up. n)
    event_goes (Moment now) rules asked = moment_keeps c now n
    event_goes (Checkpoint server range combine) rules asked = servers_names (K c.map) c _ (servers_checkpoint (K c.map) laws c.servers server range combine n.servers) n
    event_goes (Split server range key) rules asked = servers_names (K c.map) c _ (servers_split (K c.map) laws c.servers server range key asked n.servers) n
    event_goes (Merge server left right) rules asked = absurd asked

  -- whatever happens, what is named is known to the map as it is then
  pub event_keeps : (c : Cluster) → MapLaws K c.map → Known c → (event : Event) → AskedIn c event → Known (cluster_after c event)
  event_keeps c m n event asked = event_goes c m.laws m.users n event (rules_of c m event) asked
