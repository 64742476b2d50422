-- In every run without merges all who ask to split a range under one generation ask for one key.
use Rattle.std.proofs.Common.{◌≡◌, ℕ, zero, suc, ◌-◌, ◌==◌, nat_lt, Bool, List, [], ◌∷◌, ◌++◌, map, Option, Some, None, option_map, slice_get, slice_set, Contains, refl, sym, ap, ◌∙◌, subst, arith}
use Rattle.std.specs.Prelude.{◌^◌}
use Rattle.std.proofs.lemmas.Option.{same_Some}
use Rattle.block_types.specs.declared.record.Nodes.{Nodes}
use Rattle.wire.specs.declared.actor.ActorId.{ActorId}
use Rattle.wire.specs.declared.actor.ActorId.TheVariants.{Node, Manager, Map, Server, User}
use Rattle.wire.specs.declared.actor.ReqNo.{ReqNo}
use Rattle.wire.specs.declared.note.Note.{Note}
use Rattle.wire.specs.declared.packet.Packet.{Packet}
use Rattle.wire.specs.declared.refusal.Refusal.{Refusal}
use Rattle.model_streams.specs.declared.event.Event.{Event}
use Rattle.model_streams.specs.declared.event.Event.TheVariants.{Submit, Deliver, Stop, Restart, Decide, GiveUp, Assign, Renew, Moment, Checkpoint, Split, Merge}
use Rattle.model_streams.specs.Maps.{entry_at}
use Rattle.model_streams.specs.Outcome.{Outcome}
use Rattle.model_streams.specs.StreamSystem.{stops_in, stands_in, happens, delivered, delivered_if}
use Rattle.model_streams.proofs.Tests.{if_elim}
use Rattle.model_partition.specs.Map.{MapState, range_at}
use Rattle.model_partition.specs.MapRules.{assign_fault, renew_fault, map_rule}
use Rattle.model_partition.specs.Server.{ServerState, ServerOutcome, range_of, server_rule, give_up_rule, picked, moment_rule, server_checkpoint, server_split, started}
use Rattle.model_partition.specs.Servers.{ServerCell, CellOutcome, cell_rests, cell_performs, cell_takes, cell_given_up, cell_gives_up, cell_checkpoints, cell_splits, cell_stops, cell_starts, first_pick, first_servers, at_server, with_told, told_moment}
use Rattle.model_partition.specs.Cluster.{Cluster, IsUnmerged, AreUnmerged, map_performs, map_performs_if, map_takes, delivered_to, delivers, stops, restarts, servers_perform, cluster_after, cluster_after_all, first_cluster}
use Rattle.laws_streams.proofs.Choices.{contains_get}
use Rattle.laws_map.specs.Naming.{Each}
use Rattle.laws_map.specs.Pairs.{AskOneKey}
use Rattle.laws_map.specs.Openings.{AreQuiet, AreOpening, OpeningIf, Speaks}
use Rattle.laws_map.proofs.RangeNames.{no_less}
use Rattle.laws_map.proofs.EventNames.{entry_is}
use Rattle.laws_map.proofs.WithinMaps.{each_map}
use Rattle.laws_map.proofs.GenerationsInRuns.{first_are_themselves}
use Rattle.laws_map.proofs.AskedNumbers.{CellOn, same_cell, stepped_cell, stopped_cell, started_cell, moments_on, entry_set, entry_mapped}
use Rattle.laws_map.proofs.LayerOpenings.{happens_layered, assign_quiet, renew_quiet, map_quiet}
use Rattle.laws_map.proofs.ServerLoads.{ServerGoes}
use Rattle.laws_map.proofs.ServerOpenings.{server_goes, checkpoint_goes, split_goes, GoesIf, give_up_goes, picked_opening, moment_opening}
use Rattle.laws_map.proofs.OneOpening.{Whole, layered_whole, quiet_layer, cell_whole, server_whole}

-- ---- lists of servers

pub set_twice : {A : Type 0} (xs : List A) (n : ℕ) (x y : A) → slice_set (slice_set xs n x) n y ≡ slice_set xs n y
set_twice [] n x y = refl
set_twice (z ∷ zs) zero x y = refl
set_twice (z ∷ zs) (suc n) x y = ap (λ l. z ∷ l) (set_twice zs n x y)

-- ---- one event

abbrev pub WholeOf : Cluster → Type 0
WholeOf c = Whole c.stream_layer c.servers

module _ (c : Cluster) (h : WholeOf c) where
  layer_whole : (event : Event) → WholeOf (record c { stream_layer = happens c.stream_layer event })
  layer_whole event = layered_whole c.stream_layer (happens c.stream_layer event) c.servers (happens_layered c.stream_layer event) h

  -- ---- the map

  more_whole : (packets : List Packet) (notes : List Note) → AreQuiet packets → Whole (record c.stream_layer { post = c.stream_layer.post ++ packets; notes = notes }) c.servers
  more_whole packets notes quiet = layered_whole c.stream_layer (record c.stream_layer { post = c.stream_layer.post ++ packets; notes = notes }) c.servers (quiet_layer c.stream_layer packets notes quiet) h

  does_whole : (o : Outcome MapState) → AreQuiet o.packets → WholeOf (map_performs c o)
  does_whole o quiet =
      if_elim WholeOf (stops_in c.map_cell o.written) _ _
      (λ t. if_elim WholeOf (stands_in c.map_cell) _ _ (λ s. more_whole [] (c.stream_layer.notes ++ o.notes) tt) (λ s. h))
      (λ f. more_whole o.packets (c.stream_layer.notes ++ o.notes) quiet)

  does_if_whole : (fault : Option Refusal) (o : Outcome MapState) → AreQuiet o.packets → WholeOf (map_performs_if c fault o)
  does_if_whole (Some refusal) o quiet = h
  does_if_whole None o quiet = does_whole o quiet

  -- ---- a server

  -- what a server's cell becomes, and what it sends
  abbrev CellWhole : ℕ → CellOutcome → Type 0
  CellWhole s o = Whole (with_told c.stream_layer o.packets o.notes) (slice_set c.servers (s - 1) o.cell)

  at_whole : (s : ℕ) (rule : ServerCell → CellOutcome) → ((cell : ServerCell) → entry_at c.servers s ≡ Some cell → CellWhole s (rule cell)) → (o : Option ServerCell) → entry_at c.servers s ≡ o → WholeOf (servers_perform c (at_server c.servers s rule o))
  at_whole s rule step None at = more_whole [] _ tt
  at_whole s rule step (Some cell) at = step cell at

  -- the cell changes so, and nothing is sent
  changed_whole : (s : ℕ) (d : ServerCell) → Whole c.stream_layer (slice_set c.servers (s - 1) d) → CellWhole s (cell_rests d)
  changed_whole s d whole = layered_whole c.stream_layer (with_told c.stream_layer [] []) (slice_set c.servers (s - 1) d) (quiet_layer c.stream_layer [] _ tt) whole

  opening_of : (s : ℕ) (cell : ServerCell) → entry_at c.servers s ≡ Some cell → OpeningIf c.stream_layer.post cell.state
  opening_of s cell at = entry_is (λ (x : ServerCell). OpeningIf c.stream_layer.post x.state) c.servers s cell h.held at

  same_whole : (s : ℕ) (cell : ServerCell) → entry_at c.servers s ≡ Some cell → Whole c.stream_layer (slice_set c.servers (s - 1) cell)
  same_whole s cell at = cell_whole c.stream_layer c.servers h s cell cell at (same_cell s cell) (opening_of s cell at) (λ session lasts t is n g key q says. says cell refl lasts t is)

  rests_whole : (s : ℕ) (cell : ServerCell) → entry_at c.servers s ≡ Some cell → CellWhole s (cell_rests cell)
  rests_whole s cell at = changed_whole s cell (same_whole s cell at)

  performs_whole : (s : ℕ) (cell : ServerCell) (st : ServerState) (o : ServerOutcome) → entry_at c.servers s ≡ Some cell → cell.state ≡ Some st → ServerGoes c.stream_layer.post st o → CellWhole s (cell_performs cell o)
  performs_whole s cell st o at up goes = server_whole c.stream_layer c.servers h s cell st at up o _ goes

  state_of : (s : ℕ) (cell : ServerCell) (st : ServerState) → entry_at c.servers s ≡ Some cell → cell.state ≡ Some st → AreOpening c.stream_layer.post st
  state_of s cell st at up = subst (OpeningIf c.stream_layer.post) up (opening_of s cell at)

  takes_whole : (p : Packet) → Contains c.stream_layer.post p → (s : ℕ) (cell : ServerCell) → entry_at c.servers s ≡ Some cell → (state : Option ServerState) → cell.state ≡ state → CellWhole s (cell_takes cell p state)
  takes_whole p there s cell at None up = rests_whole s cell at
  takes_whole p there s cell at (Some st) up = performs_whole s cell st (server_rule st p p.body) at up (server_goes c.stream_layer.post st (state_of s cell st at up) p there)

  checkpoints_whole : (s range : ℕ) (combine : Bool) (cell : ServerCell) → entry_at c.servers s ≡ Some cell → (state : Option ServerState) → cell.state ≡ state → CellWhole s (cell_checkpoints cell range combine state)
  checkpoints_whole s range combine cell at None up = rests_whole s cell at
  checkpoints_whole s range combine cell at (Some st) up = performs_whole s cell st (server_checkpoint st range combine) at up (checkpoint_goes c.stream_layer.post st (state_of s cell st at up) range combine)

  splits_whole : (s range : ℕ) (key : List ℕ) (cell : ServerCell) → entry_at c.servers s ≡ Some cell → (state : Option ServerState) → cell.state ≡ state → CellWhole s (cell_splits cell range key state)
  splits_whole s range key cell at None up = rests_whole s cell at
  splits_whole s range key cell at (Some st) up = performs_whole s cell st (server_split st range key) at up (split_goes c.stream_layer.post st (state_of s cell st at up) range key)

  -- the nodes for new extents are replaced, and then the range gives up
  gives_up_whole : (s range : ℕ) (pick : Nodes) (cell : ServerCell) → entry_at c.servers s ≡ Some cell → (state : Option ServerState) → cell.state ≡ state → CellWhole s (cell_gives_up cell range pick state)
  gives_up_whole s range pick cell at None up = rests_whole s cell at
  gives_up_whole s range pick cell at (Some st) up = by (give_up_rule st range pick) (give_up_goes c.stream_layer.post st range pick (state_of s cell st at up))
    where
      next : ServerCell
      next = record cell { state = Some (picked st pick) }

      picked_whole : Whole c.stream_layer (slice_set c.servers (s - 1) next)
      picked_whole =
          cell_whole c.stream_layer c.servers h s cell next at (stepped_cell s cell st (picked st pick) up (no_less st.context.count) refl refl) (picked_opening c.stream_layer.post st pick (state_of s cell st at up))
          (λ session lasts t is n g key q says. subst (λ y. Speaks y n g key q) (same_Some (picked st pick) t is) (says cell refl lasts st up))

      by : (o : Option ServerOutcome) → GoesIf c.stream_layer.post (picked st pick) o → CellWhole s (cell_given_up cell o)
      by None goes = rests_whole s cell at
      by (Some o) goes =
          subst (Whole (with_told c.stream_layer o.packets o.notes)) (set_twice c.servers (s - 1) next (record cell { state = Some o.after }))
          (server_whole c.stream_layer (slice_set c.servers (s - 1) next) picked_whole s next (picked st pick) (entry_set c.servers s cell next at) refl o _ goes)

  stops_whole : (s call : ℕ) (cell : ServerCell) → entry_at c.servers s ≡ Some cell → CellWhole s (cell_rests (cell_stops call cell))
  stops_whole s call cell at =
      if_elim (λ (d : ServerCell). CellWhole s (cell_rests d)) (call == 0) (record cell { state = None }) cell
      (λ t. changed_whole s (record cell { state = None }) (cell_whole c.stream_layer c.servers h s cell (record cell { state = None }) at (stopped_cell s 0 cell) tt (λ session lasts t is n g key q says. absurd cc)))
      (λ f. rests_whole s cell at)

  starts_whole : (s now batch : ℕ) (cell : ServerCell) → entry_at c.servers s ≡ Some cell → (state : Option ServerState) → cell.state ≡ state → CellWhole s (cell_rests (cell_starts s now batch cell state))
  starts_whole s now batch cell at (Some st) up = rests_whole s cell at
  starts_whole s now batch cell at None up =
      if_elim (λ (d : ServerCell). CellOn s cell d → CellWhole s (cell_rests d)) (nat_lt (suc cell.session) (2 ^ 64)) next cell
      (λ t on. changed_whole s next (cell_whole c.stream_layer c.servers h s cell next at on (record { ranges = tt; rising = tt; splits = tt; apart = refl }) nothing))
      (λ f on. rests_whole s cell at) (started_cell s now batch cell None up)
    where
      new : ServerState
      new = started s (suc cell.session) now first_pick batch

      next : ServerCell
      next = record { session = suc cell.session; state = Some new }

      nothing : (session : ℕ) → next.session ≡ session → (t : ServerState) → next.state ≡ Some t → (n g : ℕ) (key : List ℕ) (q : ReqNo) →
          ((x : ServerCell) → cell ≡ x → x.session ≡ session → (z : ServerState) → x.state ≡ Some z → Speaks z n g key q) → Speaks t n g key q
      nothing session lasts t is n g key q says r found under =
          let same : new ≡ t = same_Some new t is in
          let none : range_of new.ranges n ≡ Some r = ap (λ (y : ServerState). range_of y.ranges n) same ∙ found in
          absurd cc

  -- ---- the clock

  moment_state : (now : ℕ) (state : Option ServerState) → OpeningIf c.stream_layer.post state → OpeningIf c.stream_layer.post (option_map (λ server. moment_rule server now) state)
  moment_state now None o = tt
  moment_state now (Some st) o = moment_opening c.stream_layer.post st now o

  moment_whole : (now : ℕ) → Whole c.stream_layer (map (told_moment now) c.servers)
  moment_whole now =
      let on = moments_on c.servers now in
      record {
        openings = h.openings;
        past = λ n g q a. on.past q (h.past n g q a);
        themselves = on.themselves h.themselves;
        held = each_map (λ (cell : ServerCell). OpeningIf c.stream_layer.post cell.state) (λ (cell : ServerCell). OpeningIf c.stream_layer.post cell.state) (told_moment now) (λ cell o. moment_state now cell.state o) c.servers h.held;
        splits = λ n g key a. (let x = h.splits n g key a in record { server = x.server; session = x.session; count = x.count; granted = x.granted; speaks = λ cell at session t is. told n g key x.server x.session _ x.speaks cell at session t is });
        one = h.one;
      }
    where
      told : (n g : ℕ) (key : List ℕ) (server session : ℕ) (q : ReqNo) → ((cell : ServerCell) → entry_at c.servers server ≡ Some cell → cell.session ≡ session → (z : ServerState) → cell.state ≡ Some z → Speaks z n g key q) →
          (cell : ServerCell) → entry_at (map (told_moment now) c.servers) server ≡ Some cell → cell.session ≡ session → (t : ServerState) → cell.state ≡ Some t → Speaks t n g key q
      told n g key server session q says cell at lasts t is = by (entry_at c.servers server) refl (sym (entry_mapped (told_moment now) c.servers server) ∙ at)
        where
          by_state : (x : ServerCell) → entry_at c.servers server ≡ Some x → told_moment now x ≡ cell → (o : Option ServerState) → x.state ≡ o → option_map (λ z. moment_rule z now) o ≡ Some t → Speaks t n g key q
          by_state x there same None up e = absurd cc
          by_state x there same (Some z) up e = subst (λ y. Speaks y n g key q) (same_Some (moment_rule z now) t e) (says x there (ap (λ (y : ServerCell). y.session) same ∙ lasts) z up)

          by : (o : Option ServerCell) → entry_at c.servers server ≡ o → option_map (told_moment now) o ≡ Some cell → Speaks t n g key q
          by None there e = absurd cc
          by (Some x) there e =
              let same : told_moment now x ≡ cell = same_Some (told_moment now x) cell e in
              by_state x there same x.state refl (ap (λ (y : ServerCell). y.state) same ∙ is)

  -- ---- events

  map_takes_whole : (p : Packet) → WholeOf (map_takes c p)
  map_takes_whole p = if_elim WholeOf c.map_cell.up _ _ (λ up. does_whole (map_rule c.map p p.body) (map_quiet c.map p p.body)) (λ up. h)

  delivers_whole : (number : ℕ) (o : Option Packet) → slice_get c.stream_layer.post number ≡ o → WholeOf (delivers c o)
  delivers_whole number None at = h
  delivers_whole number (Some p) at = go p.to refl
    where
      layer_takes : (to : ActorId) → p.to ≡ to → WholeOf (record c { stream_layer = delivered c.stream_layer p to })
      layer_takes to is = subst (λ z. WholeOf (record c { stream_layer = z })) (ap (delivered_if c.stream_layer) at ∙ ap (delivered c.stream_layer p) is) (layer_whole (Deliver number))

      go : (to : ActorId) → p.to ≡ to → WholeOf (delivered_to c p to)
      go (Server s) is = at_whole s (λ cell. cell_takes cell p cell.state) (λ cell found. takes_whole p (contains_get c.stream_layer.post number p at) s cell found cell.state refl) (entry_at c.servers s) refl
      go Map is = map_takes_whole p
      go (Node n) is = layer_takes (Node n) is
      go Manager is = layer_takes Manager is
      go (User u) is = layer_takes (User u) is

  stop_whole : (actor : ActorId) (call : ℕ) (keep : Bool) → WholeOf (stops c actor call keep)
  stop_whole (Server s) call keep = at_whole s (λ cell. cell_rests (cell_stops call cell)) (λ cell found. stops_whole s call cell found) (entry_at c.servers s) refl
  stop_whole Map call keep = if_elim WholeOf c.map_cell.up _ _ (λ up. if_elim WholeOf (call == 0) _ _ (λ z. h) (λ z. h)) (λ up. h)
  stop_whole (Node n) call keep = layer_whole (Stop (Node n) call keep)
  stop_whole Manager call keep = layer_whole (Stop Manager call keep)
  stop_whole (User u) call keep = layer_whole (Stop (User u) call keep)

  restart_whole : (actor : ActorId) → WholeOf (restarts c actor)
  restart_whole (Server s) = at_whole s (λ cell. cell_rests (cell_starts s c.now c.batch cell cell.state)) (λ cell found. starts_whole s c.now c.batch cell found cell.state refl) (entry_at c.servers s) refl
  restart_whole Map = if_elim WholeOf c.map_cell.up _ _ (λ up. h) (λ up. h)
  restart_whole (Node n) = layer_whole (Restart (Node n))
  restart_whole Manager = layer_whole (Restart Manager)
  restart_whole (User u) = layer_whole (Restart (User u))

  pub event_whole : (event : Event) → IsUnmerged event → WholeOf (cluster_after c event)
  event_whole (Submit user to body) apart = layer_whole (Submit user to body)
  event_whole (Deliver number) apart = delivers_whole number (slice_get c.stream_layer.post number) refl
  event_whole (Stop actor call keep) apart = stop_whole actor call keep
  event_whole (Restart actor) apart = restart_whole actor
  event_whole (Decide e) apart = layer_whole (Decide e)
  event_whole (GiveUp server range pick) apart =
      at_whole server (λ cell. cell_gives_up cell range pick cell.state) (λ cell found. gives_up_whole server range pick cell found cell.state refl) (entry_at c.servers server) refl
  event_whole (Assign range server until) apart =
      if_elim WholeOf c.map_cell.up _ _ (λ up. does_if_whole (assign_fault server c.now (range_at c.map.ranges range)) _ (assign_quiet c.map range server until (range_at c.map.ranges range))) (λ up. h)
  event_whole (Renew range server until) apart =
      if_elim WholeOf c.map_cell.up _ _ (λ up. does_if_whole (renew_fault server (range_at c.map.ranges range)) _ (renew_quiet c.map range server until (range_at c.map.ranges range))) (λ up. h)
  event_whole (Moment now) apart = if_elim WholeOf (nat_lt now c.now) _ _ (λ back. h) (λ on. moment_whole now)
  event_whole (Checkpoint server range combine) apart =
      at_whole server (λ cell. cell_checkpoints cell range combine cell.state) (λ cell found. checkpoints_whole server range combine cell found cell.state refl) (entry_at c.servers server) refl
  event_whole (Split server range key) apart =
      at_whole server (λ cell. cell_splits cell range key cell.state) (λ cell found. splits_whole server range key cell found cell.state refl) (entry_at c.servers server) refl
  event_whole (Merge server left right) apart = absurd apart

-- ---- runs

all_whole : (events : List Event) → AreUnmerged events → (c : Cluster) → WholeOf c → WholeOf (cluster_after_all c events)
all_whole [] apart c h = h
all_whole (event ∷ events) apart c h = all_whole events apart.1 (cluster_after c event) (event_whole c h event apart.0)

first_held : (batch k n : ℕ) → Each (λ (cell : ServerCell). OpeningIf [] cell.state) (first_servers batch k n)
first_held batch k zero = tt
first_held batch k (suc n) = (record { ranges = tt; rising = tt; splits = tt; apart = refl }, first_held batch (suc k) n)

none_in : {p : Packet} → Contains [] p → ⊥
none_in there = let less = there.1 in omega (arith, less)

pub first_whole : (nodes servers target batch : ℕ) → WholeOf (first_cluster nodes servers target batch)
first_whole nodes servers target batch = record {
  openings = record {
    once = λ q n g m k a b. absurd (none_in a.sent);
    asked = λ q told. absurd (none_in told.sent);
    fenced = λ n g q granted. absurd (none_in granted.0.sent);
    one = λ n g q r a b. absurd (none_in a.0.sent);
  };
  past = λ n g q a. absurd (none_in a.sent);
  themselves = first_are_themselves batch servers;
  held = first_held batch 1 servers;
  splits = λ n g key a. absurd (none_in a.1.sent);
  one = λ n g key other a b. absurd (none_in a.1.sent);
}

-- In every run without merges all who ask to split a range under one generation ask for one key.
pub run_asks_one_key : (nodes servers target batch : ℕ) (events : List Event) → AreUnmerged events → AskOneKey (cluster_after_all (first_cluster nodes servers target batch) events).stream_layer.post
run_asks_one_key nodes servers target batch events apart q w range generation key other a b =
    (all_whole events apart (first_cluster nodes servers target batch) (first_whole nodes servers target batch)).one range generation key other (q, a) (w, b)
