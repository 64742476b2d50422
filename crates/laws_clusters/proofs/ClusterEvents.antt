-- A cluster stands on through each event of a run without merges, but for what is owed: of ranges that are being split, of what takes the
-- place of others at the map, and of the tables that servers show.
use Rattle.std.proofs.Common.{◌≡◌, ℕ, Bool, true, false, nat_lt, List, [], ◌∷◌, ◌++◌, map, Option, Some, None, slice_get, refl, sym, ap, ◌∙◌, subst, if◌then◌else◌}
use Rattle.wire.specs.declared.actor.ActorId.{ActorId}
use Rattle.wire.specs.declared.actor.ActorId.TheVariants.{Node, Manager, Map, Server, User}
use Rattle.wire.specs.declared.packet.Packet.{Packet}
use Rattle.model_streams.specs.declared.event.Event.{Event}
use Rattle.model_streams.specs.declared.event.Event.TheVariants.{Submit, Deliver, Stop, Restart, Decide, GiveUp, Assign, Renew, Moment, Checkpoint, Split, Merge}
use Rattle.model_streams.specs.Maps.{entry_at}
use Rattle.model_streams.specs.StreamSystem.{delivered, delivered_if, happens}
use Rattle.model_partition.specs.Server.{ServerState}
use Rattle.model_partition.specs.Servers.{ServerCell, told_moment}
use Rattle.model_partition.specs.Cluster.{Cluster, IsUnmerged, delivered_to, delivers, stops, restarts, shows_moment, cluster_after}
use Rattle.model_histories.specs.ServerRun.{ServerRun, ServerEvent, Takes, GivesUp, Checkpoints, Moment as MomentSo, run_of, Splits}
use Rattle.laws_streams.proofs.Choices.{contains_get}
use Rattle.laws_server_runs.proofs.Unmerged.{HaveNoMerges, unmerged}
use Rattle.laws_clusters.specs.ServerEvents.{built_events, packet_events, delivery_events, stop_events, start_events, server_events}
use Rattle.laws_clusters.proofs.BuildEvents.{built_at, built_if, built_in}
use Rattle.laws_clusters.proofs.BuiltRanges.{after_events, happens_stands, builds_stand}
use Rattle.laws_clusters.proofs.Generations.{generation_at, plenty}
use Rattle.laws_clusters.proofs.Invariant.{Standing, Bases}
use Rattle.laws_clusters.proofs.MapSteps.{map_takes_stand, assigns_stand, renews_stand, map_stops_stand, map_starts_stand}
use Rattle.laws_clusters.proofs.MapWords.{Completes}
use Rattle.laws_clusters.proofs.OtherEvents.{stops_stand, starts_stand, moment_stands}
use Rattle.laws_clusters.proofs.ServerPackets.{takes_stands, OwedPicked, gives_up_stands, checkpoints_stand, splits_stand}
use Rattle.laws_clusters.proofs.ServerRules.{IsLaid}
use Rattle.laws_clusters.proofs.SplitNews.{BuildsOfSplits}
use Rattle.laws_clusters.proofs.SplitServers.{SplitsOwed}

-- the events that come to servers, one after the other
pub run_events : (batch count : ℕ) (events coming : List ServerEvent) → after_events (run_of batch count coming) events ≡ run_of batch count (events ++ coming)
run_events batch count [] coming = refl
run_events batch count (event ∷ events) coming = ap (λ y. after_events y (event ∷ [])) (run_events batch count events coming)

module _ (nodes target batch count : ℕ) where
  abbrev run : List ServerEvent → ServerRun
  run coming = run_of batch count coming

  abbrev Stands : Bases generation_at → Cluster → List ServerEvent → Type 0
  Stands base c coming = Standing generation_at nodes target base c (run coming)

  module _ {base : Bases generation_at} (c : Cluster) (coming : List ServerEvent) (x : Stands base c coming) where
    abbrev y : ServerRun
    y = run coming

    -- no server merges two ranges
    pub whole : HaveNoMerges c.servers
    whole = subst HaveNoMerges (sym x.cells) (unmerged batch count coming)

    -- ---- what is owed

    abbrev pub TakingOwes : ℕ → Type 0
    TakingOwes s = (cell : ServerCell) (st : ServerState) (at : entry_at c.servers s ≡ Some cell) (is : cell.state ≡ Some st) → SplitsOwed generation_at nodes target c y x s cell st at is

    abbrev pub PacketOwes : Packet → ActorId → Type 0
    PacketOwes p (Server s) = TakingOwes s × IsLaid (run (Takes s p ∷ coming))
    PacketOwes p Map = Completes c.stream_layer c.map p.body
    PacketOwes p to = Unit {0}

    abbrev pub EventOwes : Event → Type 0
    EventOwes (Deliver number) = (p : Packet) → slice_get c.stream_layer.post number ≡ Some p → PacketOwes p p.to
    EventOwes (GiveUp s range pick) = OwedPicked generation_at plenty nodes target c y x whole s range pick × IsLaid (run (GivesUp s range pick ∷ coming))
    EventOwes (Checkpoint s range combine) = IsLaid (run (Checkpoints s range combine ∷ coming))
    EventOwes (Split s range key) = IsLaid (run (Splits s range key ∷ coming))
    EventOwes event = Unit {0}

    -- ---- events

    delivers_on : (number : ℕ) → BuildsOfSplits c (Deliver number) → EventOwes (Deliver number) → (o : Option Packet) → slice_get c.stream_layer.post number ≡ o → Stands base (delivers c o) (delivery_events c o ++ coming)
    delivers_on number news owes None at = x
    delivers_on number news owes (Some p) at = go p.to refl (owes p at)
      where
        built_is : (to : ActorId) → p.to ≡ to → built_in c.stream_layer (Deliver number) ≡ built_at c.stream_layer p to
        built_is to is = ap (built_if c.stream_layer) at ∙ ap (built_at c.stream_layer p) is

        layer_takes : (to : ActorId) → p.to ≡ to → built_at c.stream_layer p to ≡ [] → Stands base (record c { stream_layer = delivered c.stream_layer p to }) coming
        layer_takes to is none =
            subst (λ z. Stands base (record c { stream_layer = z }) coming) (ap (delivered_if c.stream_layer) at ∙ ap (delivered c.stream_layer p) is)
            (happens_stands generation_at nodes target c y x (Deliver number) news (built_is to is ∙ none))

        manager_takes : p.to ≡ Manager → Stands base (record c { stream_layer = delivered c.stream_layer p Manager }) (built_events (built_at c.stream_layer p Manager) ++ coming)
        manager_takes is =
            subst (λ l. Stands base (record c { stream_layer = delivered c.stream_layer p Manager }) (built_events l ++ coming)) (built_is Manager is)
            (subst (λ z. Stands base (record c { stream_layer = z }) (built_events (built_in c.stream_layer (Deliver number)) ++ coming)) (ap (delivered_if c.stream_layer) at ∙ ap (delivered c.stream_layer p) is)
            (subst (λ z. Standing generation_at nodes target base (record c { stream_layer = happens c.stream_layer (Deliver number) }) z) (run_events batch count (built_events (built_in c.stream_layer (Deliver number))) coming)
            (builds_stand generation_at nodes target c y x (Deliver number) news)))

        go : (to : ActorId) → p.to ≡ to → PacketOwes p to → Stands base (delivered_to c p to) (packet_events c to p ++ coming)
        go (Server s) is owed = takes_stands generation_at plenty nodes target c y x whole s p (contains_get c.stream_layer.post number p at) is owed.0 owed.1
        go (Node n) is owed = layer_takes (Node n) is refl
        go Manager is owed = manager_takes is
        go Map is owed = map_takes_stand generation_at nodes target y c p owed x
        go (User u) is owed = layer_takes (User u) is refl

    layer_on : (event : Event) → BuildsOfSplits c event → built_in c.stream_layer event ≡ [] → Standing generation_at nodes target base (record c { stream_layer = happens c.stream_layer event }) y
    layer_on event news none = happens_stands generation_at nodes target c y x event news none

    stops_on : (actor : ActorId) (call : ℕ) (keep : Bool) → BuildsOfSplits c (Stop actor call keep) → Stands base (stops c actor call keep) (stop_events actor call ++ coming)
    stops_on (Server s) call keep news = stops_stand generation_at nodes target c y s call x
    stops_on (Node n) call keep news = layer_on (Stop (Node n) call keep) news refl
    stops_on Manager call keep news = layer_on (Stop Manager call keep) news refl
    stops_on Map call keep news = map_stops_stand generation_at nodes target y c call keep x
    stops_on (User u) call keep news = layer_on (Stop (User u) call keep) news refl

    restarts_on : (actor : ActorId) → BuildsOfSplits c (Restart actor) → Stands base (restarts c actor) (start_events c actor ++ coming)
    restarts_on (Server s) news = starts_stand generation_at nodes target c y s c.now c.batch x
    restarts_on (Node n) news = layer_on (Restart (Node n)) news refl
    restarts_on Manager news = layer_on (Restart Manager) news refl
    restarts_on Map news = map_starts_stand generation_at nodes target y c x
    restarts_on (User u) news = layer_on (Restart (User u)) news refl

    moment_on : (now : ℕ) → Stands base (shows_moment c now) (server_events c (Moment now) ++ coming)
    moment_on now = go (nat_lt now c.now)
      where
        go : (b : Bool) → Stands base (if b then c else record c { now = now; servers = map (told_moment now) c.servers }) ((if b then [] else MomentSo now ∷ []) ++ coming)
        go true = x
        go false = moment_stands generation_at nodes target c y now x

    pub comes_on : (event : Event) → IsUnmerged event → BuildsOfSplits c event → EventOwes event → Stands base (cluster_after c event) (server_events c event ++ coming)
    comes_on (Submit user to body) unmerged news owes = layer_on (Submit user to body) news refl
    comes_on (Deliver number) unmerged news owes = delivers_on number news owes (slice_get c.stream_layer.post number) refl
    comes_on (Stop actor call keep) unmerged news owes = stops_on actor call keep news
    comes_on (Restart actor) unmerged news owes = restarts_on actor news
    comes_on (Decide e) unmerged news owes = layer_on (Decide e) news refl
    comes_on (GiveUp s range pick) unmerged news owes = gives_up_stands generation_at plenty nodes target c y x whole s range pick owes.0 owes.1
    comes_on (Assign range server until) unmerged news owes = assigns_stand generation_at nodes target y c range server until x
    comes_on (Renew range server until) unmerged news owes = renews_stand generation_at nodes target y c range server until x
    comes_on (Moment now) unmerged news owes = moment_on now
    comes_on (Checkpoint s range combine) unmerged news owes = checkpoints_stand generation_at plenty nodes target c y x whole s range combine owes
    comes_on (Split s range key) unmerged news owes = splits_stand generation_at plenty nodes target c y x whole s range key owes
    comes_on (Merge server left right) unmerged news owes = absurd unmerged
