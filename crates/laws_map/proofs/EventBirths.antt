-- Which streams come to be in an event of a run.
use Rattle.std.proofs.Common.{◌≡◌, ◌⊎◌, ℕ, ◌==◌, nat_lt, Bool, Option, Some, None, slice_get, refl, ap, ◌∙◌, subst, inl}
use Rattle.wire.specs.declared.actor.ActorId.{ActorId}
use Rattle.wire.specs.declared.actor.ActorId.TheVariants.{Node, Manager, Map, Server, User}
use Rattle.wire.specs.declared.packet.Packet.{Packet}
use Rattle.wire.specs.declared.refusal.Refusal.{Refusal}
use Rattle.wire.specs.declared.streams.StreamName.{StreamName}
use Rattle.model_streams.specs.declared.event.Event.{Event}
use Rattle.model_streams.specs.declared.event.Event.TheVariants.{Submit, Deliver, Stop, Restart, Decide, GiveUp, Assign, Renew, Moment, Checkpoint, Split, Merge}
use Rattle.model_streams.specs.Outcome.{Outcome}
use Rattle.model_streams.specs.StreamSystem.{StreamSystem, stops_in, stands_in, happens, delivered, delivered_if}
use Rattle.model_streams.proofs.Tests.{if_elim}
use Rattle.model_partition.specs.Map.{MapState, range_at}
use Rattle.model_partition.specs.MapRules.{assign_fault, renew_fault, map_rule}
use Rattle.model_partition.specs.Cluster.{Cluster, IsUnmerged, map_performs, map_performs_if, delivered_to, delivers, stops, restarts, cluster_after}
use Rattle.laws_map.proofs.ManagerBirths.{IsIn}
use Rattle.laws_map.proofs.LayerBirths.{BuildsName, happens_brings}
use Rattle.laws_map.proofs.StagesKept.{lists_apart}
use Rattle.laws_map.proofs.SplitFacts.{KnowsSplits}

module _ (c : Cluster) (k : KnowsSplits c) where
  abbrev w : StreamSystem
  w = c.stream_layer

  -- what was there, a user's, and what the manager builds in the event
  abbrev Born : Event → Cluster → Type 0
  Born event d = (name : StreamName) → IsIn d.stream_layer.catalog.stream name → IsIn w.catalog.stream name ⊎ ((name.range ≡ 0) ⊎ BuildsName w event (happens w event) name)

  layer : (event : Event) → Born event (record c { stream_layer = happens w event })
  layer event = (happens_brings w k.stand.stages.creates (lists_apart w k.gives.given k.governs.asks c.map.next k.gives.gives.map.below k.gives.gives.names.post) event).born

  does : (event : Event) (o : Outcome MapState) → Born event (map_performs c o)
  does event o = if_elim (Born event) (stops_in c.map_cell o.written) _ _ (λ t. if_elim (Born event) (stands_in c.map_cell) _ _ (λ s name there. inl there) (λ s name there. inl there)) (λ f name there. inl there)

  does_if : (event : Event) (fault : Option Refusal) (o : Outcome MapState) → Born event (map_performs_if c fault o)
  does_if event (Some refusal) o = λ name there. inl there
  does_if event None o = does event o

  delivers_born : (number : ℕ) (o : Option Packet) → slice_get w.post number ≡ o → Born (Deliver number) (delivers c o)
  delivers_born number None at = λ name there. inl there
  delivers_born number (Some p) at = go p.to refl
    where
      layer_takes : (to : ActorId) → p.to ≡ to → Born (Deliver number) (record c { stream_layer = delivered w p to })
      layer_takes to is = subst (λ z. Born (Deliver number) (record c { stream_layer = z })) (ap (delivered_if w) at ∙ ap (delivered w p) is) (layer (Deliver number))

      go : (to : ActorId) → p.to ≡ to → Born (Deliver number) (delivered_to c p to)
      go (Server s) is = λ name there. inl there
      go Map is = if_elim (Born (Deliver number)) c.map_cell.up _ _ (λ up. does (Deliver number) (map_rule c.map p p.body)) (λ up name there. inl there)
      go (Node n) is = layer_takes (Node n) is
      go Manager is = layer_takes Manager is
      go (User u) is = layer_takes (User u) is

  stops_born : (actor : ActorId) (call : ℕ) (keep : Bool) → Born (Stop actor call keep) (stops c actor call keep)
  stops_born (Server s) call keep = λ name there. inl there
  stops_born Map call keep = if_elim (Born (Stop Map call keep)) c.map_cell.up _ _ (λ up. if_elim (Born (Stop Map call keep)) (call == 0) _ _ (λ z name there. inl there) (λ z name there. inl there)) (λ up name there. inl there)
  stops_born (Node n) call keep = layer (Stop (Node n) call keep)
  stops_born Manager call keep = layer (Stop Manager call keep)
  stops_born (User u) call keep = layer (Stop (User u) call keep)

  restarts_born : (actor : ActorId) → Born (Restart actor) (restarts c actor)
  restarts_born (Server s) = λ name there. inl there
  restarts_born Map = if_elim (Born (Restart Map)) c.map_cell.up _ _ (λ up name there. inl there) (λ up name there. inl there)
  restarts_born (Node n) = layer (Restart (Node n))
  restarts_born Manager = layer (Restart Manager)
  restarts_born (User u) = layer (Restart (User u))

  pub event_born : (event : Event) → IsUnmerged event → Born event (cluster_after c event)
  event_born (Submit user to body) apart = layer (Submit user to body)
  event_born (Deliver number) apart = delivers_born number (slice_get w.post number) refl
  event_born (Stop actor call keep) apart = stops_born actor call keep
  event_born (Restart actor) apart = restarts_born actor
  event_born (Decide e) apart = layer (Decide e)
  event_born (GiveUp server range pick) apart = λ name there. inl there
  event_born (Assign range server until) apart = if_elim (Born (Assign range server until)) c.map_cell.up _ _ (λ up. does_if _ (assign_fault server c.now (range_at c.map.ranges range)) _) (λ up name there. inl there)
  event_born (Renew range server until) apart = if_elim (Born (Renew range server until)) c.map_cell.up _ _ (λ up. does_if _ (renew_fault server (range_at c.map.ranges range)) _) (λ up name there. inl there)
  event_born (Moment now) apart = if_elim (Born (Moment now)) (nat_lt now c.now) _ _ (λ back name there. inl there) (λ on name there. inl there)
  event_born (Checkpoint server range combine) apart = λ name there. inl there
  event_born (Split server range key) apart = λ name there. inl there
  event_born (Merge server one two) apart = absurd apart
