-- What is sent is added after what was sent before, whatever happens: a packet keeps its number.
use Rattle.std.proofs.Common.{◌==◌, ◌∙◌, ap, refl, sym, subst, ℕ, Bool, List, [], ◌++◌, Option, Some, None, append-nil, nat_lt, slice_get}
use Rattle.wire.specs.declared.actor.ActorId.{ActorId}
use Rattle.wire.specs.declared.actor.ActorId.TheVariants.{Node, Manager, Map, Server, User}
use Rattle.wire.specs.declared.packet.Packet.{Packet}
use Rattle.wire.specs.declared.refusal.Refusal.{Refusal}
use Rattle.model_streams.specs.declared.event.Event.{Event}
use Rattle.model_streams.specs.declared.event.Event.TheVariants as events
use Rattle.model_streams.specs.Outcome.{Outcome}
use Rattle.model_streams.specs.StreamSystem.{StreamSystem, delivered, delivered_if, happens, is_request, manager_performs, node_performs, restart, stands_in, stop, stops_in}
use Rattle.model_streams.proofs.Tests.{if_elim}
use Rattle.model_partition.specs.Map.{MapState, range_at}
use Rattle.model_partition.specs.MapRules.{assign_fault, assign_rule, renew_fault, renew_rule}
use Rattle.model_partition.specs.Cluster.{Cluster, cluster_after, cluster_after_all, delivered_to, delivers, first_cluster, map_performs, map_performs_if, restarts, stops}
use Rattle.world.specs.Cluster.{ClusterSimulates, ClusterState, IsRun}
use Rattle.script_lines.specs.declared.line.Line.{Line}
use Rattle.script_lines.specs.declared.line.Line.TheVariants as lines
use Rattle.script_run.specs.Playing.{Delivers, DeliversIf, Plays, SessionState}
use Rattle.script_steps.specs.Steps.{Grows, IsSingle, post_of}

-- nothing is added
pub same : (xs : List Packet) → Grows xs xs
same xs = ([], sym (append-nil xs))

-- ---- the stream layer

abbrev GrowsTo : StreamSystem → StreamSystem → Type 0
GrowsTo w v = Grows w.post v.post

node_performs_grows : (w : StreamSystem) (n e : ℕ) (o : Outcome _) → GrowsTo w (node_performs w n e o)
node_performs_grows w n e o =
    if_elim (GrowsTo w) (stops_in (w.cell n) o.written) _ _
    (λ stops. if_elim (GrowsTo w) (stands_in (w.cell n)) _ _ (λ stands. ([], refl)) (λ falls. same w.post))
    (λ goes. (o.packets, refl))

manager_performs_grows : (w : StreamSystem) (o : Outcome _) → GrowsTo w (manager_performs w o)
manager_performs_grows w o =
    if_elim (GrowsTo w) (stops_in w.manager_cell o.written) _ _
    (λ stops. if_elim (GrowsTo w) (stands_in w.manager_cell) _ _ (λ stands. ([], refl)) (λ falls. same w.post))
    (λ goes. (o.packets, refl))

delivered_grows : (w : StreamSystem) (p : Packet) (to : ActorId) → GrowsTo w (delivered w p to)
delivered_grows w p (Node n) = if_elim (GrowsTo w) (w.cell n).up _ _ (λ up. node_performs_grows w n _ _) (λ down. same w.post)
delivered_grows w p Manager = if_elim (GrowsTo w) w.manager_cell.up _ _ (λ up. manager_performs_grows w _) (λ down. same w.post)
delivered_grows w p Map = same w.post
delivered_grows w p (Server s) = same w.post
delivered_grows w p (User u) = same w.post

delivered_if_grows : (w : StreamSystem) (found : Option Packet) → GrowsTo w (delivered_if w found)
delivered_if_grows w None = same w.post
delivered_if_grows w (Some p) = delivered_grows w p p.to

stop_grows : (w : StreamSystem) (actor : ActorId) (call : ℕ) (keep : Bool) → GrowsTo w (stop w actor call keep)
stop_grows w (Node n) call keep =
    if_elim (GrowsTo w) (w.cell n).up _ _ (λ up. if_elim (GrowsTo w) (call == 0) _ _ (λ now. same w.post) (λ later. same w.post)) (λ down. same w.post)
stop_grows w Manager call keep =
    if_elim (GrowsTo w) w.manager_cell.up _ _ (λ up. if_elim (GrowsTo w) (call == 0) _ _ (λ now. same w.post) (λ later. same w.post)) (λ down. same w.post)
stop_grows w Map call keep = same w.post
stop_grows w (Server s) call keep = same w.post
stop_grows w (User u) call keep = same w.post

restart_grows : (w : StreamSystem) (actor : ActorId) → GrowsTo w (restart w actor)
restart_grows w (Node n) = if_elim (GrowsTo w) _ _ _ (λ up. same w.post) (λ down. same w.post)
restart_grows w Manager = if_elim (GrowsTo w) w.manager_cell.up _ _ (λ up. same w.post) (λ down. same w.post)
restart_grows w Map = same w.post
restart_grows w (Server s) = same w.post
restart_grows w (User u) = same w.post

happens_grows : (w : StreamSystem) (event : Event) → GrowsTo w (happens w event)
happens_grows w (events.Submit user to body) = if_elim (GrowsTo w) (is_request body) _ _ (λ asks. (_, refl)) (λ other. same w.post)
happens_grows w (events.Deliver number) = delivered_if_grows w (slice_get w.post number)
happens_grows w (events.Stop actor call keep) = stop_grows w actor call keep
happens_grows w (events.Restart actor) = restart_grows w actor
happens_grows w (events.Decide e) = if_elim (GrowsTo w) w.manager_cell.up _ _ (λ up. manager_performs_grows w _) (λ down. same w.post)
happens_grows w (events.GiveUp server range pick) = same w.post
happens_grows w (events.Assign range server until) = same w.post
happens_grows w (events.Renew range server until) = same w.post
happens_grows w (events.Moment now) = same w.post
happens_grows w (events.Checkpoint server range combine) = same w.post
happens_grows w (events.Split server range key) = same w.post
happens_grows w (events.Merge server left right) = same w.post

-- ---- the map and the servers above it

abbrev ClusterGrows : Cluster → Cluster → Type 0
ClusterGrows c d = Grows c.stream_layer.post d.stream_layer.post

map_performs_grows : (c : Cluster) (o : Outcome MapState) → ClusterGrows c (map_performs c o)
map_performs_grows c o =
    if_elim (ClusterGrows c) (stops_in c.map_cell o.written) _ _
    (λ stops. if_elim (ClusterGrows c) (stands_in c.map_cell) _ _ (λ stands. ([], refl)) (λ falls. same c.stream_layer.post))
    (λ goes. (o.packets, refl))

map_performs_if_grows : (c : Cluster) (fault : Option Refusal) (o : Outcome MapState) → ClusterGrows c (map_performs_if c fault o)
map_performs_if_grows c (Some refusal) o = same c.stream_layer.post
map_performs_if_grows c None o = map_performs_grows c o

delivered_to_grows : (c : Cluster) (p : Packet) (to : ActorId) → ClusterGrows c (delivered_to c p to)
delivered_to_grows c p (Server s) = (_, refl)
delivered_to_grows c p Map = if_elim (ClusterGrows c) c.map_cell.up _ _ (λ up. map_performs_grows c _) (λ down. same c.stream_layer.post)
delivered_to_grows c p (Node n) = delivered_grows c.stream_layer p (Node n)
delivered_to_grows c p Manager = delivered_grows c.stream_layer p Manager
delivered_to_grows c p (User u) = delivered_grows c.stream_layer p (User u)

delivers_grows : (c : Cluster) (found : Option Packet) → ClusterGrows c (delivers c found)
delivers_grows c None = same c.stream_layer.post
delivers_grows c (Some p) = delivered_to_grows c p p.to

stops_grows : (c : Cluster) (actor : ActorId) (call : ℕ) (keep : Bool) → ClusterGrows c (stops c actor call keep)
stops_grows c (Server s) call keep = (_, refl)
stops_grows c Map call keep =
    if_elim (ClusterGrows c) c.map_cell.up _ _
    (λ up. if_elim (ClusterGrows c) (call == 0) _ _ (λ now. same c.stream_layer.post) (λ later. same c.stream_layer.post))
    (λ down. same c.stream_layer.post)
stops_grows c (Node n) call keep = stop_grows c.stream_layer (Node n) call keep
stops_grows c Manager call keep = stop_grows c.stream_layer Manager call keep
stops_grows c (User u) call keep = stop_grows c.stream_layer (User u) call keep

restarts_grows : (c : Cluster) (actor : ActorId) → ClusterGrows c (restarts c actor)
restarts_grows c (Server s) = (_, refl)
restarts_grows c Map = if_elim (ClusterGrows c) c.map_cell.up _ _ (λ up. same c.stream_layer.post) (λ down. same c.stream_layer.post)
restarts_grows c (Node n) = restart_grows c.stream_layer (Node n)
restarts_grows c Manager = restart_grows c.stream_layer Manager
restarts_grows c (User u) = restart_grows c.stream_layer (User u)

pub event_grows : (c : Cluster) (event : Event) → ClusterGrows c (cluster_after c event)
event_grows c (events.Submit user to body) = happens_grows c.stream_layer (events.Submit user to body)
event_grows c (events.Deliver number) = delivers_grows c (slice_get c.stream_layer.post number)
event_grows c (events.Stop actor call keep) = stops_grows c actor call keep
event_grows c (events.Restart actor) = restarts_grows c actor
event_grows c (events.Decide e) = happens_grows c.stream_layer (events.Decide e)
event_grows c (events.GiveUp server range pick) = (_, refl)
event_grows c (events.Assign range server until) =
    if_elim (ClusterGrows c) c.map_cell.up _ _
    (λ up. map_performs_if_grows c (assign_fault server c.now (range_at c.map.ranges range)) (assign_rule c.map range server until (range_at c.map.ranges range)))
    (λ down. same c.stream_layer.post)
event_grows c (events.Renew range server until) =
    if_elim (ClusterGrows c) c.map_cell.up _ _
    (λ up. map_performs_if_grows c (renew_fault server (range_at c.map.ranges range)) (renew_rule c.map range server until (range_at c.map.ranges range)))
    (λ down. same c.stream_layer.post)
event_grows c (events.Moment now) = if_elim (ClusterGrows c) (nat_lt now c.now) _ _ (λ back. same c.stream_layer.post) (λ on. same c.stream_layer.post)
event_grows c (events.Checkpoint server range combine) = (_, refl)
event_grows c (events.Split server range key) = (_, refl)
event_grows c (events.Merge server left right) = (_, refl)

-- ---- the real one

simulates_grows : (x y : ClusterState) (event : Event) → IsRun x → ClusterSimulates x y event → Grows x.stream_layer.post y.stream_layer.post
simulates_grows x y event run goes =
    let c : Cluster = cluster_after_all (first_cluster run.nodes run.servers run.target run.batch) run.events in
    let grown = event_grows c event in
    (grown.0, (goes c run.led).stream_layer.post ∙ grown.1 ∙ ap (λ (l : List Packet). l ++ grown.0) (sym run.led.stream_layer.post))

delivers_if_grow : (s t : SessionState) (n : ℕ) (found : Option Packet) (text : List ℕ) → IsRun s.run → DeliversIf s n found text t → Grows (post_of s) (post_of t)
delivers_if_grow s t n None text run h = subst (λ (x : SessionState). Grows (post_of s) (post_of x)) (sym h.1) (same (post_of s))
delivers_if_grow s t n (Some p) text run h = simulates_grows s.run t.run (events.Deliver n) run h.tells.came

pub delivers_grow : (s t : SessionState) (n : ℕ) (text : List ℕ) → IsRun s.run → Delivers s n text t → Grows (post_of s) (post_of t)
delivers_grow s t n text run h = delivers_if_grow s t n (slice_get (post_of s) n) text run h

pub plays_grow : (s t : SessionState) (line : Line) (text : List ℕ) → IsSingle line → IsRun s.run → Plays s line text t → Grows (post_of s) (post_of t)
plays_grow s t (lines.Submit user request) text one run h = simulates_grows s.run t.run _ run h.tells.came
plays_grow s t (lines.Deliver n) text one run h = delivers_grow s t n text run h
plays_grow s t lines.DeliverLast text one run h = absurd one
plays_grow s t lines.Settle text one run h = absurd one
plays_grow s t (lines.Cut actor) text one run h = subst (λ (x : SessionState). Grows (post_of s) (post_of x)) (sym h.1) (same (post_of s))
plays_grow s t (lines.Heal actor) text one run h = subst (λ (x : SessionState). Grows (post_of s) (post_of x)) (sym h.1) (same (post_of s))
plays_grow s t (lines.Show node extent) text one run h = subst (λ (x : SessionState). Grows (post_of s) (post_of x)) (sym h.1) (same (post_of s))
plays_grow s t (lines.Happens event) text one run h = simulates_grows s.run t.run event run h.tells.came
