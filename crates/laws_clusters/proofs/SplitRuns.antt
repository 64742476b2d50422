-- Over every run without merges a cluster whose servers may split their ranges stands, with what comes to them, and blob streams stay closed.
use Rattle.std.proofs.Common.{◌≡◌, ℕ, List, [], ◌∷◌, ◌++◌, Contains, refl, sym, ap, ◌∙◌, subst}
use Rattle.wire.specs.declared.packet.Packet.{Packet}
use Rattle.model_streams.specs.declared.event.Event.{Event}
use Rattle.model_partition.specs.Cluster.{Cluster, AreUnmerged, cluster_after, cluster_after_all, first_cluster}
use Rattle.model_histories.specs.ServerRun.{ServerEvent, run_of}
use Rattle.laws_map.proofs.SplitFacts.{first_knows}
use Rattle.laws_clusters.specs.ServerEvents.{server_events, server_events_after}
use Rattle.laws_clusters.proofs.BlobLists.{first_blobs}
use Rattle.laws_clusters.proofs.BuiltParts.{first_parts}
use Rattle.laws_clusters.proofs.BuiltSplits.{pushed, unmerged_pushed}
use Rattle.laws_clusters.proofs.ClosedServers.{first_closed}
use Rattle.laws_clusters.proofs.CompletedSplits.{run_completes}
use Rattle.laws_clusters.proofs.CountedOpenings.{OpensCounted, run_opens}
use Rattle.laws_clusters.proofs.MapWords.{Completes}
use Rattle.laws_clusters.proofs.BareRanges.{run_laid}
use Rattle.laws_clusters.proofs.ServerRules.{IsLaid}
use Rattle.laws_clusters.proofs.SharesInRuns.{begun_sharing}
use Rattle.laws_clusters.proofs.SplitEvents.{StandsSplitting, splitting_on}
use Rattle.laws_clusters.proofs.FirstStanding.{first_standing}

-- what comes to servers, with one event more
events_pushed : (done : List Event) (event : Event) (c : Cluster) (coming : List ServerEvent) → server_events_after c coming (done ++ event ∷ []) ≡ server_events (cluster_after_all c done) event ++ server_events_after c coming done
events_pushed [] event c coming = refl
events_pushed (x ∷ done) event c coming = events_pushed done event (cluster_after c x) (server_events c x ++ coming)

module _ (nodes servers target batch : ℕ) where
  abbrev Splitting : Cluster → List ServerEvent → Type 0
  Splitting c coming = StandsSplitting nodes target batch servers c coming

  abbrev first : Cluster
  first = first_cluster nodes servers target batch

  first_splitting : Splitting first []
  first_splitting =
      let sharing = begun_sharing nodes target batch servers first refl (first_standing nodes target batch servers) in
      let known = first_knows nodes servers target batch in
      record { sharing = sharing; known = known; closed = first_closed batch servers; blobs = first_blobs nodes target; parts = first_parts nodes target batch servers first refl sharing known }

  AllComplete : Cluster → Type 0
  AllComplete c = (p : Packet) → Contains c.stream_layer.post p → Completes c.stream_layer c.map p.body

  splitting_all : (events : List Event) → AreUnmerged events → (done : List Event) → AreUnmerged done → (c : Cluster) → c ≡ cluster_after_all first done → (coming : List ServerEvent) → coming ≡ server_events_after first [] done → Splitting c coming →
      Splitting (cluster_after_all c events) (server_events_after c coming events)
  unfolding AllComplete
  splitting_all [] are done was c is coming come x = x
  splitting_all (event ∷ events) are done was c is coming come x =
      let complete : AllComplete c = subst AllComplete (sym is) (run_completes nodes servers target batch done was) in
      let opens : OpensCounted c.stream_layer.post = subst (λ (z : Cluster). OpensCounted z.stream_layer.post) (sym is) (run_opens nodes servers target batch done was) in
      let both : AreUnmerged (done ++ event ∷ []) = unmerged_pushed nodes servers target batch done event was are.0 in
      let later : server_events c event ++ coming ≡ server_events_after first [] (done ++ event ∷ []) = (λ i. server_events (is i) event ++ come i) ∙ sym (events_pushed done event first []) in
      let laid : IsLaid (run_of batch servers (server_events c event ++ coming)) = subst (λ l. IsLaid (run_of batch servers l)) (sym later) (run_laid nodes servers target batch (done ++ event ∷ []) both) in
      splitting_all events are.1 (done ++ event ∷ []) both (cluster_after c event)
      (ap (λ z. cluster_after z event) is ∙ sym (pushed nodes servers target batch done event first)) (server_events c event ++ coming) later (splitting_on nodes target batch servers c coming x complete event are.0 opens laid)

  pub run_splitting : (events : List Event) → AreUnmerged events →
      StandsSplitting nodes target batch servers (cluster_after_all (first_cluster nodes servers target batch) events) (server_events_after (first_cluster nodes servers target batch) [] events)
  run_splitting events are = splitting_all events are [] tt first refl [] refl first_splitting
