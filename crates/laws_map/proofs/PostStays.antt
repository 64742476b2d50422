-- What is in the post stays there.
use Rattle.std.proofs.Common.{◌≡◌, ℕ, Bool, ◌==◌, nat_lt, List, [], ◌++◌, Option, Some, None, slice_get, Contains, refl, ap, ◌∙◌, subst}
use Rattle.std.proofs.lemmas.List.Elements.{Contains-append_left}
use Rattle.wire.specs.declared.actor.ActorId.{ActorId}
use Rattle.wire.specs.declared.actor.ActorId.TheVariants.{Node, Manager, Map, Server, User}
use Rattle.wire.specs.declared.packet.Packet.{Packet}
use Rattle.wire.specs.declared.refusal.Refusal.{Refusal}
use Rattle.model_streams.specs.declared.event.Event.{Event}
use Rattle.model_streams.specs.declared.event.Event.TheVariants.{Submit, Deliver, Stop, Restart, Decide, GiveUp, Assign, Renew, Moment, Checkpoint, Split, Merge}
use Rattle.model_streams.specs.Outcome.{Outcome}
use Rattle.model_streams.specs.StreamSystem.{Happens, happens, stops_in, stands_in, delivered_if, delivered}
use Rattle.model_streams.proofs.Tests.{if_elim}
use Rattle.model_partition.specs.Map.{MapState, range_at}
use Rattle.model_partition.specs.MapRules.{assign_fault, renew_fault, map_rule}
use Rattle.model_partition.specs.Servers.{server_takes, server_gives_up, server_checkpoints, server_splits, server_merges, server_stops, server_starts}
use Rattle.model_partition.specs.Cluster.{Cluster, map_performs, map_performs_if, delivered_to, delivers, stops, restarts, cluster_after}
use Rattle.laws_streams.proofs.PacketSources.{moved_gains}

module _ (c : Cluster) (p : Packet) (there : Contains c.stream_layer.post p) where
  abbrev In : Cluster → Type 0
  In d = Contains d.stream_layer.post p

  more : (packets : List Packet) → Contains (c.stream_layer.post ++ packets) p
  more packets = Contains-append_left c.stream_layer.post packets p there

  layer : (event : Event) → Contains (happens c.stream_layer event).post p
  layer event = (moved_gains c.stream_layer (Happens event)).post p there

  does : (o : Outcome MapState) → In (map_performs c o)
  does o = if_elim In (stops_in c.map_cell o.written) _ _ (λ t. if_elim In (stands_in c.map_cell) _ _ (λ s. more []) (λ s. there)) (λ f. more o.packets)

  does_if : (fault : Option Refusal) (o : Outcome MapState) → In (map_performs_if c fault o)
  does_if (Some refusal) o = there
  does_if None o = does o

  delivers_in : (number : ℕ) (o : Option Packet) → slice_get c.stream_layer.post number ≡ o → In (delivers c o)
  delivers_in number None at = there
  delivers_in number (Some q) at = go q.to refl
    where
      layer_takes : (to : ActorId) → q.to ≡ to → In (record c { stream_layer = delivered c.stream_layer q to })
      layer_takes to is = subst (λ z. In (record c { stream_layer = z })) (ap (delivered_if c.stream_layer) at ∙ ap (delivered c.stream_layer q) is) (layer (Deliver number))

      go : (to : ActorId) → q.to ≡ to → In (delivered_to c q to)
      go (Server s) is = more (server_takes c.servers s q).packets
      go Map is = if_elim In c.map_cell.up _ _ (λ up. does (map_rule c.map q q.body)) (λ up. there)
      go (Node n) is = layer_takes (Node n) is
      go Manager is = layer_takes Manager is
      go (User u) is = layer_takes (User u) is

  stops_in_post : (actor : ActorId) (call : ℕ) (keep : Bool) → In (stops c actor call keep)
  stops_in_post (Server s) call keep = more (server_stops c.servers s call).packets
  stops_in_post Map call keep = if_elim In c.map_cell.up _ _ (λ up. if_elim In (call == 0) _ _ (λ z. there) (λ z. there)) (λ up. there)
  stops_in_post (Node n) call keep = layer (Stop (Node n) call keep)
  stops_in_post Manager call keep = layer (Stop Manager call keep)
  stops_in_post (User u) call keep = layer (Stop (User u) call keep)

  restarts_in_post : (actor : ActorId) → In (restarts c actor)
  restarts_in_post (Server s) = more (server_starts c.servers s c.now c.batch).packets
  restarts_in_post Map = if_elim In c.map_cell.up _ _ (λ up. there) (λ up. there)
  restarts_in_post (Node n) = layer (Restart (Node n))
  restarts_in_post Manager = layer (Restart Manager)
  restarts_in_post (User u) = layer (Restart (User u))

  pub stays_in_post : (event : Event) → Contains (cluster_after c event).stream_layer.post p
  stays_in_post (Submit user to body) = layer (Submit user to body)
  stays_in_post (Deliver number) = delivers_in number (slice_get c.stream_layer.post number) refl
  stays_in_post (Stop actor call keep) = stops_in_post actor call keep
  stays_in_post (Restart actor) = restarts_in_post actor
  stays_in_post (Decide e) = layer (Decide e)
  stays_in_post (GiveUp server range pick) = more (server_gives_up c.servers server range pick).packets
  stays_in_post (Assign range server until) = if_elim In c.map_cell.up _ _ (λ up. does_if (assign_fault server c.now (range_at c.map.ranges range)) _) (λ up. there)
  stays_in_post (Renew range server until) = if_elim In c.map_cell.up _ _ (λ up. does_if (renew_fault server (range_at c.map.ranges range)) _) (λ up. there)
  stays_in_post (Moment now) = if_elim In (nat_lt now c.now) _ _ (λ back. there) (λ on. there)
  stays_in_post (Checkpoint server range combine) = more (server_checkpoints c.servers server range combine).packets
  stays_in_post (Split server range key) = more (server_splits c.servers server range key).packets
  stays_in_post (Merge server left right) = more (server_merges c.servers server left right).packets
