-- A cluster whose servers may split their ranges stands on through each event of a run without merges, and blob streams stay closed, where what is
-- completed at the map has its streams, servers open counted ranges, and the tables that they show are laid.
use Rattle.std.proofs.Common.{◌≡◌, ℕ, nat_lt, List, [], ◌∷◌, ◌++◌, Option, Some, None, Contains, slice_get, refl, sym, ap, ◌∙◌, subst, append_assoc}
use Rattle.wire.specs.declared.actor.ActorId.{ActorId}
use Rattle.wire.specs.declared.actor.ActorId.TheVariants.{Node, Manager, Map, Server, User}
use Rattle.wire.specs.declared.packet.Packet.{Packet}
use Rattle.wire.specs.declared.streams.Modify.{Modify}
use Rattle.wire.specs.declared.streams.Source.{Source}
use Rattle.wire.specs.declared.streams.StreamKind.{StreamKind}
use Rattle.wire.specs.declared.streams.StreamKind.TheVariants as kinds
use Rattle.model_streams.specs.declared.event.Event.{Event}
use Rattle.model_streams.specs.declared.event.Event.TheVariants.{Submit, Deliver, Stop, Restart, Decide, GiveUp, Assign, Renew, Moment, Checkpoint, Split, Merge}
use Rattle.model_streams.specs.Maps.{entry_at}
use Rattle.model_streams.proofs.Tests.{if_elim}
use Rattle.model_partition.specs.Server.{picked}
use Rattle.model_partition.specs.Cluster.{Cluster, IsUnmerged, cluster_after}
use Rattle.model_histories.specs.ServerRun.{ServerRun, ServerEvent, Takes, GivesUp, Checkpoints, Splits, Stops, Starts, Moment as MomentSo, run_of}
use Rattle.laws_streams.proofs.Choices.{contains_get}
use Rattle.laws_map.proofs.SplitFacts.{KnowsSplits, event_knows}
use Rattle.laws_server_runs.proofs.Unmerged.{HaveNoMerges, unmerged}
use Rattle.laws_clusters.specs.ServerEvents.{source_events, entry_events, built_by, built_events, packet_events, delivery_events, stop_events, start_events, server_events}
use Rattle.laws_clusters.proofs.BlobLists.{BlobsSealed, cluster_blobs, told_closed}
use Rattle.laws_clusters.proofs.ClosedServers.{HaveClosed, HaveAscending, EventTells, event_closed}
use Rattle.laws_clusters.proofs.ClusterEvents.{whole, PacketOwes, EventOwes}
use Rattle.laws_clusters.proofs.CountedOpenings.{OpensCounted}
use Rattle.laws_clusters.proofs.Generations.{generation_at, plenty}
use Rattle.laws_clusters.proofs.KeysOwed.{keys_again_stands, known_keys_owed}
use Rattle.laws_clusters.proofs.MapWords.{Completes}
use Rattle.laws_clusters.proofs.ServerPackets.{picked_cell, picked_cluster, picked_run, picked_stands, picked_at}
use Rattle.laws_clusters.proofs.ServerRules.{IsLaid}
use Rattle.laws_clusters.proofs.BuiltParts.{StandParts, parts_on}
use Rattle.laws_clusters.proofs.SharesInRuns.{StandsSharing, sharing_on, sharing_gone}
use Rattle.laws_clusters.proofs.SideFacts.{known_builds}
use Rattle.laws_clusters.proofs.SplitsInRuns.{known_counted, known_absent, answer_left, leaving_owed, splits_owed}

module _ (nodes target batch count : ℕ) where
  abbrev run : List ServerEvent → ServerRun
  run coming = run_of batch count coming

  -- it stands, so much is known of splits, and what servers know of blob streams is closed
  pub record StandsSplitting (c : Cluster) (coming : List ServerEvent) : Type 0 where
    pub sharing : StandsSharing nodes target batch count c coming
    pub known : KnowsSplits c
    pub closed : HaveClosed c.servers
    pub blobs : BlobsSealed c.stream_layer
    -- and the streams of each range that were built of another's have their part of these
    pub parts : StandParts nodes target batch count c coming sharing known

  module _ (c : Cluster) (coming : List ServerEvent) (x : StandsSplitting c coming) where
    abbrev y : ServerRun
    y = run coming

    abbrev whole_here : HaveNoMerges c.servers
    whole_here = whole nodes target batch count c coming x.sharing.stands

    module _ (completes : (p : Packet) → Contains c.stream_layer.post p → Completes c.stream_layer c.map p.body) where
      -- ---- nothing is owed

      packet_owes : (p : Packet) → Contains c.stream_layer.post p → (to : ActorId) → ((s : ℕ) → to ≡ Server s → IsLaid (run (Takes s p ∷ coming))) → PacketOwes nodes target batch count c coming x.sharing.stands p to
      packet_owes p there (Server s) laid = (
        (λ cell st at is. splits_owed generation_at nodes target c y x.sharing.stands s cell st at is (known_counted c x.known s cell st at is) (known_absent c x.known s cell st at is) (x.closed s cell at st is) x.known (told_closed c x.blobs s cell st at is)
            (known_keys_owed generation_at nodes target c y x.sharing.stands x.sharing.calm s cell st at is x.known)),
        laid s refl,
      )
      packet_owes p there Map laid = completes p there
      packet_owes p there (Node n) laid = tt
      packet_owes p there Manager laid = tt
      packet_owes p there (User u) laid = tt

      event_owes : (event : Event) → IsLaid (run (server_events c event ++ coming)) → EventOwes nodes target batch count c coming x.sharing.stands event
      event_owes (Deliver number) laid = λ p at.
          packet_owes p (contains_get c.stream_layer.post number p at) p.to (λ s is. subst (λ l. IsLaid (run (l ++ coming))) (ap (delivery_events c) at ∙ ap (λ to. packet_events c to p) is) laid)
      event_owes (GiveUp s range pick) laid = (
        (λ cell st at is. leaving_owed generation_at nodes target (picked_cluster generation_at plenty nodes target c y x.sharing.stands whole_here s range pick cell st) (picked_run generation_at plenty nodes target c y x.sharing.stands whole_here s range pick cell st)
            (picked_stands generation_at plenty nodes target c y x.sharing.stands whole_here s range pick cell st at is) s (picked_cell generation_at plenty nodes target c y x.sharing.stands whole_here s range pick cell st) (picked st pick)
            (picked_at generation_at plenty nodes target c y x.sharing.stands whole_here s range pick cell st at) refl (known_counted c x.known s cell st at is) (known_absent c x.known s cell st at is)
            (keys_again_stands generation_at nodes target (picked_cluster generation_at plenty nodes target c y x.sharing.stands whole_here s range pick cell st) (picked_run generation_at plenty nodes target c y x.sharing.stands whole_here s range pick cell st)
            (picked_stands generation_at plenty nodes target c y x.sharing.stands whole_here s range pick cell st at is) x.sharing.calm s (picked_cell generation_at plenty nodes target c y x.sharing.stands whole_here s range pick cell st) (picked st pick)
            (picked_at generation_at plenty nodes target c y x.sharing.stands whole_here s range pick cell st at) refl)),
        laid,
      )
      event_owes (Checkpoint s range combine) laid = laid
      event_owes (Split s range key) laid = laid
      event_owes (Submit user to body) laid = tt
      event_owes (Stop actor call keep) laid = tt
      event_owes (Restart actor) laid = tt
      event_owes (Decide e) laid = tt
      event_owes (Assign range server until) laid = tt
      event_owes (Renew range server until) laid = tt
      event_owes (Moment now) laid = tt
      event_owes (Merge server left right) laid = tt

      -- ---- blob streams

      none_merge : HaveNoMerges y.servers
      none_merge = unmerged batch count coming

      ascending : HaveAscending y.servers
      ascending s cell at st is = (x.sharing.stands.servers s cell st (ap (λ l. entry_at l s) x.sharing.stands.cells ∙ at) is).ascending

      closed_here : HaveClosed y.servers
      closed_here = subst HaveClosed x.sharing.stands.cells x.closed

      abbrev Closed : List ServerEvent → Type 0
      Closed events = HaveClosed (run (events ++ coming)).servers

      one_event : (event : ServerEvent) → EventTells y none_merge ascending closed_here event → Closed (event ∷ [])
      one_event event tells = event_closed y none_merge ascending closed_here event tells

      taken : (s : ℕ) (p : Packet) → Contains c.stream_layer.post p → p.to ≡ Server s → Closed (Takes s p ∷ [])
      taken s p there to =
          one_event (Takes s p)
          (λ cell at st is range r found u number.
          (let here : entry_at c.servers s ≡ Some cell = ap (λ l. entry_at l s) x.sharing.stands.cells ∙ at in
          answer_left generation_at nodes target c y x.sharing.stands s cell st here is (closed_here s cell at st is) (told_closed c x.blobs s cell st here is) range r found p there to u number))

      source_closed : (range : ℕ) (sources : List Source) (later : List ServerEvent) → HaveClosed (run later).servers → HaveClosed (run (source_events range sources ++ later)).servers
      source_closed range [] later closed = closed
      source_closed range (source ∷ []) later closed = closed
      source_closed range (source ∷ other ∷ sources) later closed = closed

      entry_closed : (kind : StreamKind) (range : ℕ) (sources : List Source) (later : List ServerEvent) → HaveClosed (run later).servers → HaveClosed (run (entry_events kind range sources ++ later)).servers
      entry_closed kinds.Metadata range sources later closed = source_closed range sources later closed
      entry_closed kinds.Log range sources later closed = closed
      entry_closed kinds.RowData range sources later closed = closed
      entry_closed kinds.BlobData range sources later closed = closed

      built_closed : (list : List Modify) (later : List ServerEvent) → HaveClosed (run later).servers → HaveClosed (run (built_events list ++ later)).servers
      built_closed [] later closed = closed
      built_closed (m ∷ list) later closed =
          subst (λ l. HaveClosed (run l).servers) (sym (append_assoc (built_events list) (entry_events m.stream.kind m.stream.range m.sources) later))
          (built_closed list (entry_events m.stream.kind m.stream.range m.sources ++ later) (entry_closed m.stream.kind m.stream.range m.sources later closed))

      delivered : (number : ℕ) (o : Option Packet) → slice_get c.stream_layer.post number ≡ o → Closed (delivery_events c o)
      delivered number None at = closed_here
      delivered number (Some p) at = go p.to refl
        where
          go : (to : ActorId) → p.to ≡ to → Closed (packet_events c to p)
          go (Server s) to = taken s p (contains_get c.stream_layer.post number p at) to
          go Manager to = built_closed (built_by c.stream_layer p p.body) coming closed_here
          go (Node n) to = closed_here
          go Map to = closed_here
          go (User u) to = closed_here

      stopped : (actor : ActorId) (call : ℕ) → Closed (stop_events actor call)
      stopped (Server s) call = one_event (Stops s call) tt
      stopped (Node n) call = closed_here
      stopped Manager call = closed_here
      stopped Map call = closed_here
      stopped (User u) call = closed_here

      started : (actor : ActorId) → Closed (start_events c actor)
      started (Server s) = one_event (Starts s c.now c.batch) tt
      started (Node n) = closed_here
      started Manager = closed_here
      started Map = closed_here
      started (User u) = closed_here

      events_closed : (event : Event) → Closed (server_events c event)
      events_closed (Submit user to body) = closed_here
      events_closed (Deliver number) = delivered number (slice_get c.stream_layer.post number) refl
      events_closed (Stop actor call keep) = stopped actor call
      events_closed (Restart actor) = started actor
      events_closed (Decide e) = closed_here
      events_closed (GiveUp s range pick) = one_event (GivesUp s range pick) tt
      events_closed (Assign range server until) = closed_here
      events_closed (Renew range server until) = closed_here
      events_closed (Moment now) = if_elim Closed (nat_lt now c.now) [] (MomentSo now ∷ []) (λ t. closed_here) (λ f. one_event (MomentSo now) tt)
      events_closed (Checkpoint s range combine) = one_event (Checkpoints s range combine) tt
      events_closed (Split s range key) = one_event (Splits s range key) tt
      events_closed (Merge server left right) = closed_here

      -- Each event leaves it so.
      pub splitting_on : (event : Event) → IsUnmerged event → OpensCounted c.stream_layer.post → IsLaid (run (server_events c event ++ coming)) → StandsSplitting (cluster_after c event) (server_events c event ++ coming)
      splitting_on event is opens laid =
          let stands = x.sharing.stands in
          let next : StandsSharing nodes target batch count (cluster_after c event) (server_events c event ++ coming) = sharing_on nodes target batch count c coming x.sharing event is (known_builds c x.known event) (event_owes event laid) in
          record {
            sharing = next;
            known = event_knows c event is x.known;
            closed = subst HaveClosed (sym next.stands.cells) (events_closed event);
            blobs = cluster_blobs nodes target stands.moves c event is stands.leads stands.extends stands.lists opens x.blobs;
            parts = parts_on nodes target batch count c coming x.sharing x.known x.parts event is next (sharing_gone nodes target batch count c coming x.sharing event is (known_builds c x.known event) (event_owes event laid));
          }
