-- While the lease lasts of a range that a server holds, in any run, no other server holds it within a lease of its own, and nobody has loaded it
-- under a higher generation where its streams were told.
use Rattle.std.proofs.Common.{◌≡◌, ◌≤◌, ℕ, List, inl, inr, refl, sym, arith}
use Rattle.std.proofs.lemmas.Bool.{cases_eq, cases_lt}
use Rattle.model_streams.specs.declared.event.Event.{Event}
use Rattle.model_partition.specs.Cluster.{Cluster, cluster_after_all, first_cluster}
use Rattle.laws_clusters.specs.Leases.{Lease}
use Rattle.laws_clusters.specs.Timely.{AreOfOneServer, AreTimely, IsElsewhere, LoadsElsewhere, ServesAlone, HoldsAlone}
use Rattle.laws_clusters.proofs.LeasesInRuns.{run_keeps_leases}
use Rattle.laws_clusters.proofs.Moments.{run_is_timely, run_loads_elsewhere}

-- the two leases are apart, so the lower one would have ended
serves_alone : (c : Cluster) → AreTimely c → LoadsElsewhere c → ServesAlone c
serves_alone c timely elsewhere server range r held beyond lasts generation above load =
    let e : IsElsewhere c.stream_layer.post server range generation = elsewhere server range r held beyond generation above load in
    let own : Lease = record { server = server; range = range; generation = r.load.generation; until = r.until } in
    let under = e.generation_is in
    let ended : r.until ≤ c.now = timely.apart own e.lease (timely.leased server range r held) e.told (sym e.range_is) (omega (arith, under, above)) (λ same. e.other (sym same)) in
    absurd (omega (arith, ended, lasts))

pub run_serves_alone : (nodes servers target batch : ℕ) (events : List Event) → ServesAlone (cluster_after_all (first_cluster nodes servers target batch) events)
run_serves_alone nodes servers target batch events =
    serves_alone (cluster_after_all (first_cluster nodes servers target batch) events) (run_is_timely nodes servers target batch events) (run_loads_elsewhere nodes servers target batch events)

-- one of the two leases has ended, unless both are of one server
holds_alone : (c : Cluster) → AreTimely c → AreOfOneServer c → HoldsAlone c
holds_alone c timely single server other range r k held also lasts more = elim (cases_eq server other) [ inl same ↦ same | inr differ ↦ absurd (two differ) ]
  where
    own : Lease
    own = record { server = server; range = range; generation = r.load.generation; until = r.until }

    theirs : Lease
    theirs = record { server = other; range = range; generation = k.load.generation; until = k.until }

    two : (server ≡ other → ⊥) → ⊥
    two differ = elim (cases_lt r.load.generation k.load.generation) [
      | inl below ↦ (let ended : r.until ≤ c.now = timely.apart own theirs (timely.leased server range r held) (timely.leased other range k also) refl below differ in omega (arith, ended, lasts))
      | inr above ↦ elim (cases_lt k.load.generation r.load.generation) [
        | inl under ↦ (
            let ended : k.until ≤ c.now = timely.apart theirs own (timely.leased other range k also) (timely.leased server range r held) refl under (λ same. differ (sym same)) in
            omega (arith, ended, more)
            )
        | inr level ↦ (
            let same : r.load.generation ≡ k.load.generation = omega (arith, above, level) in
            differ (single own theirs (timely.leased server range r held) (timely.leased other range k also) refl same)
            )
      ]
    ]

pub run_holds_alone : (nodes servers target batch : ℕ) (events : List Event) → HoldsAlone (cluster_after_all (first_cluster nodes servers target batch) events)
run_holds_alone nodes servers target batch events =
    holds_alone (cluster_after_all (first_cluster nodes servers target batch) events) (run_is_timely nodes servers target batch events) (run_keeps_leases nodes servers target batch events).single
