-- An event that no actor takes: of a request its packet is sent, and else nothing comes of it.
use Rattle.std.proofs.Common.{◌≡◌, ◌≤◌, ◌+◌, ◌-◌, ℕ, zero, suc, Bool, false, not, ◌&&◌, ◌||◌, nat_lt, nat_le, if◌then◌else◌, List, [], ◌∷◌, Option, Some, None, arith, refl, sym, ap, ◌∙◌, subst, append-nil}
use Rattle.std.proofs.lemmas.Bool.Decides.{nat_tests}
use Rattle.std.proofs.lemmas.Bool.{not-false, or_parts}
use Rattle.std.proofs.lemmas.Option.{none-some, slice_get_past}
use Rattle.wire.specs.declared.actor.ActorId.{ActorId}
use Rattle.wire.specs.declared.actor.ActorId.TheVariants as actors
use Rattle.wire.specs.declared.packet.Packet.{Packet}
use Rattle.model_streams.specs.declared.event.Event.{Event}
use Rattle.model_streams.specs.declared.event.Event.TheVariants.{Submit, Deliver, Stop, Restart, Decide, GiveUp, Checkpoint, Split, Merge, Assign, Renew, Moment}
use Rattle.model_streams.specs.Maps.{changed, entry_at}
use Rattle.model_streams.specs.Outcome.{packet}
use Rattle.model_streams.specs.StreamSystem.{StreamSystem, is_present, is_request, node_stops, running, sent_more}
use Rattle.model_streams.proofs.Tests.{both_elim, if_elim}
use Rattle.model_partition.specs.Servers.{CellOutcome, ServerCell, at_server}
use Rattle.model_partition.specs.Cluster.{Cluster, cluster_after, delivered_to, delivers, restarts, servers_perform, stops}
use Rattle.world_steps.specs.ActorStep.{ActorStep, nothing, packets_alone}
use Rattle.world_actors.specs.declared.run_actor.RunActor.{RunActor}
use Rattle.world_actors.specs.declared.run_actor.RunActor.TheVariants.{Node, Manager, Map, Server}
use Rattle.world_actors.specs.Numbers.{nodes_in, servers_in, place_in}
use Rattle.world_actors.specs.Inputs.{is_moment, packet_of, place_if, taker_of}
use Rattle.world_actors.specs.Actors.{IsActor}
use Rattle.laws_traces.specs.Traces.{unheard}
use Rattle.laws_traces.proofs.Sizes.{HasSize}

-- the cluster with more packets
abbrev pub with_packets : Cluster → List Packet → Cluster
with_packets c packets = record c { stream_layer = sent_more c.stream_layer packets }

-- each actor stays as it is
pub actor_stays : (z : RunActor) (c : Cluster) (packets : List Packet) → IsActor z c → IsActor z (with_packets c packets)
actor_stays (Node x) c packets m = (record { number = m.0.number; replica = m.0.replica; up = m.0.up; plan = m.0.plan }, m.1)
actor_stays (Manager x) c packets m = record { running = m.running; stopped = m.stopped; up = m.up; plan = m.plan }
actor_stays (Map x) c packets m = m
actor_stays (Server x) c packets m = record { cell = m.cell; moment = m.moment; batch = m.batch }

unchanged : (c : Cluster) → c ≡ with_packets c []
unchanged c = ap (λ (post : List Packet). record c { stream_layer = record c.stream_layer { post = post } }) (sym (append-nil c.stream_layer.post))

-- ---- whoever has no place is not there

not_within : (n many before : ℕ) → (if nat_lt 0 (suc n) && nat_le (suc n) many then Some (before + suc n) else None) ≡ None → many ≤ n
not_within n many before is = grind (arith, nat_tests)

not_present : (n many : ℕ) → (if nat_lt 0 n && nat_le n many then Some (n - 1) else None) ≡ None → (nat_lt 0 n && nat_le n many) ≡ false
not_present n many is = grind (arith, nat_tests)

module _ (ns : List ℕ) (c : Cluster) (h : HasSize (nodes_in ns) (servers_in ns) c) where
  no_server : (s : ℕ) → place_in ns (actors.Server s) ≡ None → entry_at c.servers s ≡ None
  no_server zero is = refl
  no_server (suc n) is = let far = not_within n (servers_in ns) (nodes_in ns + 1) is in slice_get_past c.servers n (omega (arith, far, h.above))

  no_node : (n : ℕ) → place_in ns (actors.Node n) ≡ None → is_present c.stream_layer n ≡ false
  no_node n is = ap (λ (k : ℕ). nat_lt 0 n && nat_le n k) h.below.count ∙ not_present n (nodes_in ns) is

  node_down : (n : ℕ) → place_in ns (actors.Node n) ≡ None → (c.stream_layer.cell n).up ≡ false
  node_down n is = h.below.absent n (no_node n is)

  -- the stream layer stays as it is
  layer_rests : (w : StreamSystem) → w ≡ c.stream_layer → record c { stream_layer = w } ≡ with_packets c []
  layer_rests w same = ap (λ (v : StreamSystem). record c { stream_layer = v }) same ∙ unchanged c

  server_rests : (s : ℕ) (rule : ServerCell → CellOutcome) → place_in ns (actors.Server s) ≡ None →
      servers_perform c (at_server c.servers s rule (entry_at c.servers s)) ≡ with_packets c []
  server_rests s rule is = ap (λ (found : Option ServerCell). servers_perform c (at_server c.servers s rule found)) (no_server s is)

  undelivered : (p : Packet) (to : ActorId) → place_in ns to ≡ None → delivered_to c p to ≡ with_packets c []
  undelivered p (actors.Node n) is = layer_rests _ (if_elim (λ (w : StreamSystem). w ≡ c.stream_layer) (c.stream_layer.cell n).up _ c.stream_layer (λ up. absurd (let isdown = node_down n is in cc)) (λ isdown. refl))
  undelivered p actors.Manager is = absurd (none-some (nodes_in ns) (sym is))
  undelivered p actors.Map is = absurd (none-some (nodes_in ns + 1) (sym is))
  undelivered p (actors.Server s) is = server_rests s _ is
  undelivered p (actors.User u) is = unchanged c

  none_found : (found : Option Packet) → place_if ns (taker_of (Deliver 0) found) ≡ None → delivers c found ≡ with_packets c []
  none_found None is = unchanged c
  none_found (Some p) is = undelivered p p.to is

  unstopped : (actor : ActorId) (call : ℕ) (keep : Bool) → place_in ns actor ≡ None → stops c actor call keep ≡ with_packets c []
  unstopped (actors.Node n) call keep is =
      layer_rests _ (if_elim (λ (w : StreamSystem). w ≡ c.stream_layer) (c.stream_layer.cell n).up (node_stops c.stream_layer n call keep) c.stream_layer (λ up. absurd (let isdown = node_down n is in cc)) (λ isdown. refl))
  unstopped actors.Manager call keep is = absurd (none-some (nodes_in ns) (sym is))
  unstopped actors.Map call keep is = absurd (none-some (nodes_in ns + 1) (sym is))
  unstopped (actors.Server s) call keep is = server_rests s _ is
  unstopped (actors.User u) call keep is = unchanged c

  unstarted : (actor : ActorId) → place_in ns actor ≡ None → restarts c actor ≡ with_packets c []
  unstarted (actors.Node n) is =
      layer_rests _ (if_elim (λ (w : StreamSystem). w ≡ c.stream_layer) ((c.stream_layer.cell n).up || not (is_present c.stream_layer n)) c.stream_layer (record c.stream_layer { cell = changed n running c.stream_layer.cell })
      (λ rests. refl)
      (λ goes. absurd (let away = no_node n is in let there = not-false (is_present c.stream_layer n) (or_parts (c.stream_layer.cell n).up (not (is_present c.stream_layer n)) goes).1 in cc)))
  unstarted actors.Manager is = absurd (none-some (nodes_in ns) (sym is))
  unstarted actors.Map is = absurd (none-some (nodes_in ns + 1) (sym is))
  unstarted (actors.Server s) is = server_rests s _ is
  unstarted (actors.User u) is = unchanged c

  -- what comes of an event that is for nobody
  pub untaken : (event : Event) (o : Option Packet) → o ≡ packet_of c.stream_layer.post event → is_moment event ≡ false → place_if ns (taker_of event o) ≡ None →
      cluster_after c event ≡ with_packets c (unheard event).packets
  untaken (Submit user to body) o got moment is =
      both_elim (λ (w : StreamSystem) (r : ActorStep). record c { stream_layer = w } ≡ with_packets c r.packets) (is_request body)
      (sent_more c.stream_layer (packet (actors.User user) to body ∷ [])) c.stream_layer (packets_alone (packet (actors.User user) to body ∷ [])) nothing
      (λ asks. refl) (λ none. unchanged c)
  untaken (Deliver number) o got moment is = subst (λ (found : Option Packet). delivers c found ≡ with_packets c []) got (none_found o is)
  untaken (Stop actor call keep) o got moment is = unstopped actor call keep is
  untaken (Restart actor) o got moment is = unstarted actor is
  untaken (Decide e) o got moment is = absurd (none-some (nodes_in ns) (sym is))
  untaken (GiveUp server range pick) o got moment is = server_rests server _ is
  untaken (Checkpoint server range combine) o got moment is = server_rests server _ is
  untaken (Split server range key) o got moment is = server_rests server _ is
  untaken (Merge server left right) o got moment is = server_rests server _ is
  untaken (Assign range server until) o got moment is = absurd (none-some (nodes_in ns + 1) (sym is))
  untaken (Renew range server until) o got moment is = absurd (none-some (nodes_in ns + 1) (sym is))
  untaken (Moment now) o got moment is = absurd (let e = moment in cc)
