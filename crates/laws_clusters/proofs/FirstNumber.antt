-- What comes to the servers of a run without merges never makes a second range of the first one's number, whatever ranges are split.
use Rattle.std.proofs.Common.{◌≡◌, ◌⊎◌, ℕ, Bool, true, false, List, [], ◌∷◌, ◌++◌, Option, Some, None, slice_get, nat_lt, Contains, refl, sym, subst, inl, inr, if◌then◌else◌}
use Rattle.wire.specs.declared.actor.ActorId.{ActorId}
use Rattle.wire.specs.declared.actor.ActorId.TheVariants.{Node, Manager, Map, Server, User}
use Rattle.wire.specs.declared.body.Body.{Body}
use Rattle.wire.specs.declared.body.Body.TheVariants as bodies
use Rattle.wire.specs.declared.body.MapBody.{MapBody}
use Rattle.wire.specs.declared.body.MapBody.TheVariants as maps
use Rattle.wire.specs.declared.body.StreamBody.TheVariants.{MultiModify}
use Rattle.wire.specs.declared.packet.Packet.{Packet}
use Rattle.wire.specs.declared.streams.Modify.{Modify}
use Rattle.model_streams.specs.declared.event.Event.{Event}
use Rattle.model_streams.specs.declared.event.Event.TheVariants.{Submit, Deliver, Stop, Restart, Decide, GiveUp, Assign, Renew, Moment as MomentTold, Checkpoint, Split, Merge}
use Rattle.model_streams.specs.Actors.{is_user}
use Rattle.model_streams.specs.Outcome.{packet}
use Rattle.model_streams.specs.StreamSystem.{is_request}
use Rattle.model_partition.specs.Past.{first_range}
use Rattle.model_partition.specs.Cluster.{AreUnmerged, Cluster, cluster_after, first_cluster}
use Rattle.model_histories.specs.ServerRun.{ServerEvent, Moment}
use Rattle.model_histories.specs.ServedTables.{IsOfOthers, AreUnborn}
use Rattle.laws_streams.proofs.Choices.{contains_get}
use Rattle.laws_map.specs.Naming.{IsBuilt, BodyNames}
use Rattle.laws_map.specs.NewNumbers.{apart_from, IsTaken}
use Rattle.laws_map.proofs.NewNumbers.{taken_on, taken_told, first_is_taken}
use Rattle.laws_clusters.specs.ServerEvents.{takes_build, built_by, built_events, packet_events, delivery_events, stop_events, start_events, server_events, server_events_after}
use Rattle.laws_clusters.proofs.BuildEvents.{users_build_none}

module _ (range : ℕ) where
  abbrev Unborn : List ServerEvent → Type 0
  Unborn events = AreUnborn range events

  module _ (c : Cluster) (x : IsTaken range c) (coming : List ServerEvent) (u : Unborn coming) where
    -- no packet that is delivered gives it to a range that a split makes
    told_others : (p : Packet) → Contains c.stream_layer.post p → IsOfOthers range p.from p.body
    told_others p there = go p.from p.body refl refl
      where
        by : (body : MapBody) → Contains c.stream_layer.post (packet Map p.to (bodies.Map body)) → IsOfOthers range Map (bodies.Map body)
        by (maps.SplitBegun q low high) sent = taken_told range c x p.to q low high sent
        by body sent = tt

        go : (from : ActorId) (body : Body) → p.from ≡ from → p.body ≡ body → IsOfOthers range from body
        go Map (bodies.Map body) e f =
            by body (subst (λ b. Contains c.stream_layer.post (packet Map p.to b)) f (subst (λ a. Contains c.stream_layer.post (packet a p.to p.body)) e there))
        go Map body e f = tt
        go (Node n) body e f = tt
        go Manager body e f = tt
        go (Server s) body e f = tt
        go (User user) body e f = tt

    -- the manager builds its streams of no others
    built_unborn : (p : Packet) → Contains c.stream_layer.post p → Unborn (built_events (built_by c.stream_layer p p.body) ++ coming)
    built_unborn p there = by p.body (x.names.post p there)
      where
        by_list : (list : List Modify) → ((is_user p.from ≡ true) × (is_request p.body ≡ true)) ⊎ IsBuilt (apart_from range) list → (b : Bool) → takes_build c.stream_layer p list ≡ b →
            Unborn (built_events (if b then list else []) ++ coming)
        by_list list names false e = u
        by_list list (inl asks) true e = absurd (users_build_none c.stream_layer p list asks.0 e)
        by_list list (inr of) true e = subst (λ l. Unborn (built_events l ++ coming)) (sym of.is) (of.split.1, (of.split.0, u))

        by : (body : Body) → ((is_user p.from ≡ true) × (is_request p.body ≡ true)) ⊎ BodyNames (apart_from range) body → Unborn (built_events (built_by c.stream_layer p body) ++ coming)
        by (bodies.Stream (MultiModify list q)) names = by_list list names (takes_build c.stream_layer p list) refl
        by (bodies.Stream body) names = u
        by body names = u

    delivered_unborn : (number : ℕ) (o : Option Packet) → slice_get c.stream_layer.post number ≡ o → Unborn (delivery_events c o ++ coming)
    delivered_unborn number None at = u
    delivered_unborn number (Some p) at = go p.to
      where
        go : (to : ActorId) → Unborn (packet_events c to p ++ coming)
        go (Server s) = (told_others p (contains_get c.stream_layer.post number p at), u)
        go (Node n) = u
        go Manager = built_unborn p (contains_get c.stream_layer.post number p at)
        go Map = u
        go (User user) = u

    stopped_unborn : (actor : ActorId) (call : ℕ) → Unborn (stop_events actor call ++ coming)
    stopped_unborn (Server s) call = (tt, u)
    stopped_unborn (Node n) call = u
    stopped_unborn Manager call = u
    stopped_unborn Map call = u
    stopped_unborn (User user) call = u

    started_unborn : (actor : ActorId) → Unborn (start_events c actor ++ coming)
    started_unborn (Server s) = (tt, u)
    started_unborn (Node n) = u
    started_unborn Manager = u
    started_unborn Map = u
    started_unborn (User user) = u

    moment_unborn : (now : ℕ) → Unborn ((if nat_lt now c.now then [] else Moment now ∷ []) ++ coming)
    moment_unborn now = go (nat_lt now c.now)
      where
        go : (b : Bool) → Unborn ((if b then [] else Moment now ∷ []) ++ coming)
        go true = u
        go false = (tt, u)

    events_unborn : (event : Event) → Unborn (server_events c event ++ coming)
    events_unborn (Submit user to body) = u
    events_unborn (Deliver number) = delivered_unborn number (slice_get c.stream_layer.post number) refl
    events_unborn (Stop actor call keep) = stopped_unborn actor call
    events_unborn (Restart actor) = started_unborn actor
    events_unborn (Decide e) = u
    events_unborn (GiveUp server number pick) = (tt, u)
    events_unborn (Assign number server until) = u
    events_unborn (Renew number server until) = u
    events_unborn (MomentTold now) = moment_unborn now
    events_unborn (Checkpoint server number combine) = (tt, u)
    events_unborn (Split server number key) = (tt, u)
    events_unborn (Merge server left right) = u

  pub led_unborn : (events : List Event) → AreUnmerged events → (c : Cluster) → IsTaken range c → (coming : List ServerEvent) → Unborn coming → Unborn (server_events_after c coming events)
  led_unborn [] unmerged c x coming u = u
  led_unborn (event ∷ events) unmerged c x coming u =
      led_unborn events unmerged.1 (cluster_after c event) (taken_on range c event unmerged.0 x) (server_events c event ++ coming) (events_unborn c x coming u event)

-- So it is of every run without merges.
pub run_unborn : (nodes servers target batch : ℕ) (events : List Event) → AreUnmerged events → AreUnborn first_range (server_events_after (first_cluster nodes servers target batch) [] events)
run_unborn nodes servers target batch events unmerged =
    led_unborn first_range events unmerged (first_cluster nodes servers target batch) (first_is_taken nodes servers target batch) [] tt
