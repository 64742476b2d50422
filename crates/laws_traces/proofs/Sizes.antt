-- How many nodes and servers a cluster has, and that an absent node is down: no event changes that.
use Rattle.std.proofs.Common.{◌≡◌, ℕ, zero, suc, ◌-◌, Bool, true, false, not, ◌==◌, ◌&&◌, ◌||◌, nat_lt, nat_le, List, length, length-set, Option, Some, None, refl, sym, ap, ◌∙◌, slice_get}
use Rattle.std.proofs.lemmas.Bool.{eqb-true, not-false, or_parts}
use Rattle.std.proofs.lemmas.List.{length-map}
use Rattle.wire.specs.declared.actor.ActorId.{ActorId}
use Rattle.wire.specs.declared.actor.ActorId.TheVariants.{Node, Manager, Map, Server, User}
use Rattle.wire.specs.declared.packet.Packet.{Packet}
use Rattle.wire.specs.declared.refusal.Refusal.{Refusal}
use Rattle.model_streams.specs.declared.event.Event.{Event}
use Rattle.model_streams.specs.declared.event.Event.TheVariants.{Submit, Deliver, Stop, Restart, Decide, GiveUp, Checkpoint, Split, Merge, Assign, Renew, Moment}
use Rattle.model_streams.specs.Maps.{changed, entry_at}
use Rattle.model_streams.specs.Outcome.{Outcome}
use Rattle.model_streams.specs.Manager.{Catalog}
use Rattle.model_streams.specs.Node.{Replica}
use Rattle.model_streams.specs.StreamSystem.{StreamSystem, ActorCell, burnt, delivered, down, happens, is_present, is_request, manager_performs, manager_stops, node_performs, node_stops, restart, running, stands_in, stop, stops_in}
use Rattle.model_streams.proofs.Tests.{if_elim}
use Rattle.model_partition.specs.Map.{MapState, range_at}
use Rattle.model_partition.specs.MapRules.{assign_fault, assign_rule, renew_fault, renew_rule}
use Rattle.model_partition.specs.Servers.{CellOutcome, ServerCell, at_server, first_servers, told_moment}
use Rattle.model_partition.specs.Cluster.{Cluster, cluster_after, delivered_to, delivers, first_cluster, map_performs, map_performs_if, restarts, servers_perform, shows_moment, stops}

-- so many nodes, and no other one runs
pub record HasNodes (nodes : ℕ) (w : StreamSystem) : Type 0 where
  pub count : w.nodes ≡ nodes
  pub absent : (n : ℕ) → is_present w n ≡ false → (w.cell n).up ≡ false

-- so many nodes and servers
pub record HasSize (nodes servers : ℕ) (c : Cluster) : Type 0 where
  pub below : HasNodes nodes c.stream_layer
  pub above : length c.servers ≡ servers

-- ---- the stream layer

module _ (nodes : ℕ) (w : StreamSystem) (h : HasNodes nodes w) where
  -- a node that runs is there
  there_up : (n : ℕ) → (w.cell n).up ≡ true → is_present w n ≡ true
  there_up n up = by_test (is_present w n) refl
    where
      by_test : (b : Bool) → is_present w n ≡ b → is_present w n ≡ true
      by_test true is = is
      by_test false is = absurd (let isdown = h.absent n is in cc)

  -- the cell of a node that is there may change
  absent_still : (n : ℕ) (x : ActorCell) → is_present w n ≡ true → (m : ℕ) → is_present w m ≡ false → (changed n x w.cell m).up ≡ false
  absent_still n x there m none =
      if_elim (λ (c : ActorCell). c.up ≡ false) (m == n) x (w.cell m)
      (λ same. absurd (let e = ap (is_present w) (eqb-true m n same) in cc))
      (λ other. h.absent m none)

  node_performed : (n e : ℕ) (o : Outcome (Option Replica)) → is_present w n ≡ true → HasNodes nodes (node_performs w n e o)
  node_performed n e o there =
      if_elim (HasNodes nodes) (stops_in (w.cell n) o.written) _ _
      (λ stops. if_elim (HasNodes nodes) (stands_in (w.cell n)) _ _
      (λ stands. record { count = h.count; absent = absent_still n down there })
      (λ lost. record { count = h.count; absent = absent_still n down there }))
      (λ goes. record { count = h.count; absent = absent_still n (burnt (w.cell n) o.written) there })

  manager_performed : (o : Outcome Catalog) → HasNodes nodes (manager_performs w o)
  manager_performed o =
      if_elim (HasNodes nodes) (stops_in w.manager_cell o.written) _ _
      (λ stops. if_elim (HasNodes nodes) (stands_in w.manager_cell) _ _
      (λ stands. record { count = h.count; absent = h.absent })
      (λ lost. record { count = h.count; absent = h.absent }))
      (λ goes. record { count = h.count; absent = h.absent })

  pub nodes_delivered : (p : Packet) (to : ActorId) → HasNodes nodes (delivered w p to)
  nodes_delivered p (Node n) = if_elim (HasNodes nodes) (w.cell n).up _ w (λ up. node_performed n _ _ (there_up n up)) (λ isdown. h)
  nodes_delivered p Manager = if_elim (HasNodes nodes) w.manager_cell.up _ w (λ up. manager_performed _) (λ isdown. h)
  nodes_delivered p Map = h
  nodes_delivered p (Server s) = h
  nodes_delivered p (User u) = h

  nodes_stopped : (actor : ActorId) (call : ℕ) (keep : Bool) → HasNodes nodes (stop w actor call keep)
  nodes_stopped (Node n) call keep =
      if_elim (HasNodes nodes) (w.cell n).up (node_stops w n call keep) w
      (λ up. if_elim (HasNodes nodes) (call == 0) _ _
      (λ now. record { count = h.count; absent = absent_still n down (there_up n up) })
      (λ later. record { count = h.count; absent = absent_still n (record { up = true; fuse = call; keep = keep }) (there_up n up) }))
      (λ isdown. h)
  nodes_stopped Manager call keep =
      if_elim (HasNodes nodes) w.manager_cell.up (manager_stops w call keep) w
      (λ up. if_elim (HasNodes nodes) (call == 0) _ _ (λ now. record { count = h.count; absent = h.absent }) (λ later. record { count = h.count; absent = h.absent }))
      (λ isdown. h)
  nodes_stopped Map call keep = h
  nodes_stopped (Server s) call keep = h
  nodes_stopped (User u) call keep = h

  nodes_restarted : (actor : ActorId) → HasNodes nodes (restart w actor)
  nodes_restarted (Node n) =
      if_elim (HasNodes nodes) ((w.cell n).up || not (is_present w n)) w (record w { cell = changed n running w.cell })
      (λ rests. h)
      (λ goes. record { count = h.count; absent = absent_still n running (not-false (is_present w n) (or_parts (w.cell n).up (not (is_present w n)) goes).1) })
  nodes_restarted Manager = if_elim (HasNodes nodes) w.manager_cell.up w _ (λ up. h) (λ isdown. record { count = h.count; absent = h.absent })
  nodes_restarted Map = h
  nodes_restarted (Server s) = h
  nodes_restarted (User u) = h

  nodes_submitted : (user : ℕ) (to : ActorId) (body : _) → HasNodes nodes (happens w (Submit user to body))
  nodes_submitted user to body = if_elim (HasNodes nodes) (is_request body) _ w (λ asks. record { count = h.count; absent = h.absent }) (λ none. h)

  nodes_decided : (e : ℕ) → HasNodes nodes (happens w (Decide e))
  nodes_decided e = if_elim (HasNodes nodes) w.manager_cell.up _ w (λ up. manager_performed _) (λ isdown. h)

-- ---- servers

length_at : (servers : List ServerCell) (s : ℕ) (rule : ServerCell → CellOutcome) (found : Option ServerCell) → length (at_server servers s rule found).servers ≡ length servers
length_at servers s rule None = refl
length_at servers s rule (Some cell) = length-set servers (s - 1) (rule cell).cell

-- ---- the cluster

module _ (nodes servers : ℕ) (c : Cluster) (h : HasSize nodes servers c) where
  -- the stream layer alone changes
  in_layer : (w : StreamSystem) → HasNodes nodes w → HasSize nodes servers (record c { stream_layer = w })
  in_layer w below = record { below = below; above = h.above }

  -- a server steps
  server_performed : (s : ℕ) (rule : ServerCell → CellOutcome) → HasSize nodes servers (servers_perform c (at_server c.servers s rule (entry_at c.servers s)))
  server_performed s rule = record {
    below = record { count = h.below.count; absent = h.below.absent };
    above = length_at c.servers s rule (entry_at c.servers s) ∙ h.above;
  }

  -- the map steps, and sends and shows something
  map_sent : (d : Cluster) → d.stream_layer.nodes ≡ c.stream_layer.nodes → d.stream_layer.cell ≡ c.stream_layer.cell → d.servers ≡ c.servers → HasSize nodes servers d
  map_sent d count cells same = record {
    below = record {
      count = count ∙ h.below.count;
      absent = λ n none. ap (λ (f : ℕ → ActorCell). (f n).up) cells ∙ h.below.absent n (ap (λ (k : ℕ). nat_lt 0 n && nat_le n k) (sym count) ∙ none);
    };
    above = ap length same ∙ h.above;
  }

  map_performed : (o : Outcome MapState) → HasSize nodes servers (map_performs c o)
  map_performed o =
      if_elim (HasSize nodes servers) (stops_in c.map_cell o.written) _ _
      (λ stops. if_elim (HasSize nodes servers) (stands_in c.map_cell) _ _ (λ stands. map_sent _ refl refl refl) (λ lost. map_sent _ refl refl refl))
      (λ goes. map_sent _ refl refl refl)

  map_performed_if : (fault : Option Refusal) (o : Outcome MapState) → HasSize nodes servers (map_performs_if c fault o)
  map_performed_if (Some refusal) o = h
  map_performed_if None o = map_performed o

  size_delivered : (p : Packet) (to : ActorId) → HasSize nodes servers (delivered_to c p to)
  size_delivered p (Server s) = server_performed s _
  size_delivered p Map = if_elim (HasSize nodes servers) c.map_cell.up _ c (λ up. map_performed _) (λ isdown. h)
  size_delivered p (Node n) = in_layer (delivered c.stream_layer p (Node n)) (nodes_delivered nodes c.stream_layer h.below p (Node n))
  size_delivered p Manager = in_layer (delivered c.stream_layer p Manager) (nodes_delivered nodes c.stream_layer h.below p Manager)
  size_delivered p (User u) = in_layer c.stream_layer h.below

  size_found : (found : Option Packet) → HasSize nodes servers (delivers c found)
  size_found None = h
  size_found (Some p) = size_delivered p p.to

  size_stopped : (actor : ActorId) (call : ℕ) (keep : Bool) → HasSize nodes servers (stops c actor call keep)
  size_stopped (Server s) call keep = server_performed s _
  size_stopped Map call keep =
      if_elim (HasSize nodes servers) c.map_cell.up _ c (λ up. if_elim (HasSize nodes servers) (call == 0) _ _ (λ now. map_sent _ refl refl refl) (λ later. map_sent _ refl refl refl)) (λ isdown. h)
  size_stopped (Node n) call keep = in_layer (stop c.stream_layer (Node n) call keep) (nodes_stopped nodes c.stream_layer h.below (Node n) call keep)
  size_stopped Manager call keep = in_layer (stop c.stream_layer Manager call keep) (nodes_stopped nodes c.stream_layer h.below Manager call keep)
  size_stopped (User u) call keep = in_layer c.stream_layer h.below

  size_restarted : (actor : ActorId) → HasSize nodes servers (restarts c actor)
  size_restarted (Server s) = server_performed s _
  size_restarted Map = if_elim (HasSize nodes servers) c.map_cell.up c _ (λ up. h) (λ isdown. map_sent _ refl refl refl)
  size_restarted (Node n) = in_layer (restart c.stream_layer (Node n)) (nodes_restarted nodes c.stream_layer h.below (Node n))
  size_restarted Manager = in_layer (restart c.stream_layer Manager) (nodes_restarted nodes c.stream_layer h.below Manager)
  size_restarted (User u) = in_layer c.stream_layer h.below

  size_shown : (now : ℕ) → HasSize nodes servers (shows_moment c now)
  size_shown now =
      if_elim (HasSize nodes servers) (nat_lt now c.now) c _ (λ back. h)
      (λ on. record { below = record { count = h.below.count; absent = h.below.absent }; above = length-map c.servers (told_moment now) ∙ h.above })

  -- the cluster after an event
  pub size_after : (event : Event) → HasSize nodes servers (cluster_after c event)
  size_after (Submit user to body) = in_layer (happens c.stream_layer (Submit user to body)) (nodes_submitted nodes c.stream_layer h.below user to body)
  size_after (Deliver number) = size_found (slice_get c.stream_layer.post number)
  size_after (Stop actor call keep) = size_stopped actor call keep
  size_after (Restart actor) = size_restarted actor
  size_after (Decide e) = in_layer (happens c.stream_layer (Decide e)) (nodes_decided nodes c.stream_layer h.below e)
  size_after (GiveUp server range pick) = server_performed server _
  size_after (Checkpoint server range combine) = server_performed server _
  size_after (Split server range key) = server_performed server _
  size_after (Merge server left right) = server_performed server _
  size_after (Assign range server until) =
      if_elim (HasSize nodes servers) c.map_cell.up _ c
      (λ up. map_performed_if (assign_fault server c.now (range_at c.map.ranges range)) (assign_rule c.map range server until (range_at c.map.ranges range)))
      (λ isdown. h)
  size_after (Renew range server until) =
      if_elim (HasSize nodes servers) c.map_cell.up _ c
      (λ up. map_performed_if (renew_fault server (range_at c.map.ranges range)) (renew_rule c.map range server until (range_at c.map.ranges range)))
      (λ isdown. h)
  size_after (Moment now) = size_shown now

-- ---- the start

length_first : (batch s many : ℕ) → length (first_servers batch s many) ≡ many
length_first batch s zero = refl
length_first batch s (suc many) = ap suc (length_first batch (suc s) many)

pub size_first : (nodes servers target batch : ℕ) → HasSize nodes servers (first_cluster nodes servers target batch)
size_first nodes servers target batch = record {
  below = record {
    count = refl;
    absent = λ n none. if_elim (λ (c : ActorCell). c.up ≡ false) (nat_lt 0 n && nat_le n nodes) running down (λ there. absurd (let e = none in cc)) (λ away. refl);
  };
  above = length_first batch 1 servers;
}
