-- Where somebody asks in a run without merges to complete a split, the streams of both its ranges are there.
use Rattle.std.proofs.Common.{◌≡◌, ℕ, List, Some, Contains, sym, ap, ◌∙◌, subst, inl, inr, arith}
use Rattle.wire.specs.declared.body.Body.{Body}
use Rattle.wire.specs.declared.body.Body.TheVariants as bodies
use Rattle.wire.specs.declared.body.MapBody.{MapBody}
use Rattle.wire.specs.declared.body.MapBody.TheVariants as maps
use Rattle.wire.specs.declared.packet.Packet.{Packet}
use Rattle.model_streams.specs.declared.event.Event.{Event}
use Rattle.model_partition.specs.declared.pending.Pending.{Pending}
use Rattle.model_partition.specs.declared.pending.Pending.TheVariants as pendings
use Rattle.model_partition.specs.declared.range_entry.RangeEntry.{RangeEntry}
use Rattle.model_partition.specs.Map.{range_at}
use Rattle.model_partition.specs.Cluster.{Cluster, AreUnmerged, cluster_after_all, first_cluster}
use Rattle.laws_map.specs.Pairs.{EntryPairs}
use Rattle.laws_map.proofs.GivenNumbers.{entry_number}
use Rattle.laws_map.proofs.GoneRanges.{found_knows}
use Rattle.laws_clusters.proofs.BuildSteps as building
use Rattle.laws_clusters.proofs.BuiltSplits.{run_constructed}
use Rattle.laws_clusters.proofs.MapWords.{MapCompletes, Completes}
use Rattle.laws_clusters.proofs.PairNumbers.{IsApart, IsApartBody, InPairs, packet_apart, run_pairs}
use Rattle.laws_clusters.proofs.RangeStreams.{HasStreams}
use Rattle.laws_clusters.proofs.RunBuilds.{IsFitIn}

pending_low : Pending → ℕ
pending_low (pendings.Split key low high) = low
pending_low (pendings.Merge right into) = 0

pending_high : Pending → ℕ
pending_high (pendings.Split key low high) = high
pending_high (pendings.Merge right into) = 0

module _ (c : Cluster) where
  split_completes : (range generation : ℕ) (key : List ℕ) (low high : ℕ) → IsFitIn c range generation key low high → (r : RangeEntry) → range_at c.map.ranges range ≡ Some r → r.generation ≡ generation → (other : List ℕ) (l h : ℕ) →
      r.pending ≡ Some (pendings.Split other l h) → HasStreams c.stream_layer l × HasStreams c.stream_layer h
  unfolding pending_low pending_high
  split_completes range generation key low high fit r at under other l h pending =
      elim ((found_knows (EntryPairs range generation key low high) range c.map.ranges r fit.0.pending.entries at).1 (entry_number range c.map.ranges r at)) [
        | inl later ↦ absurd (omega (arith, later, under))
        | inr same ↦
            (let both : Some (pendings.Split key low high) ≡ Some (pendings.Split other l h) = sym same.1 ∙ pending in
            let is : pendings.Split key low high ≡ pendings.Split other l h = cc in
            (subst (HasStreams c.stream_layer) (ap pending_low is) fit.1, subst (HasStreams c.stream_layer) (ap pending_high is) fit.2))
      ]

  map_completes : (body : MapBody) → IsApart body → building.Completes (IsFitIn c) (bodies.Map body) → MapCompletes c.stream_layer c.map body
  map_completes (maps.CompleteSplit range generation q) apart f = split_completes range generation f.0 f.1 f.2 f.3
  map_completes (maps.CompleteMerge left a right b q) apart f = absurd apart
  map_completes body apart f = tt

  body_completes : (body : Body) → IsApartBody body → building.Completes (IsFitIn c) body → Completes c.stream_layer c.map body
  body_completes (bodies.Map body) apart f = map_completes body apart f
  body_completes body apart f = tt

-- Whatever comes to the map in a run without merges, what takes the place of others has its streams.
pub run_completes : (nodes servers target batch : ℕ) (events : List Event) → AreUnmerged events → (p : Packet) → Contains (cluster_after_all (first_cluster nodes servers target batch) events).stream_layer.post p →
    Completes (cluster_after_all (first_cluster nodes servers target batch) events).stream_layer (cluster_after_all (first_cluster nodes servers target batch) events).map p.body
run_completes nodes servers target batch events are p there =
    let c : Cluster = cluster_after_all (first_cluster nodes servers target batch) events in
    let pairs : InPairs c = run_pairs nodes servers target batch events are in
    body_completes c p.body (packet_apart c pairs p (pairs.names.post p there)) ((run_constructed nodes servers target batch events are).completes p there)
