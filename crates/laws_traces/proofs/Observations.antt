-- What a legal trace shows is what a run shows.
use Rattle.std.proofs.Common.{ℕ, List, [], subst}
use Rattle.model_streams.specs.Honest.{Agree, Kept}
use Rattle.model_partition.specs.Cluster.{AreUnmerged, cluster_after_all}
use Rattle.model_partition.specs.Honest.{Honest}
use Rattle.laws_servers.proofs.EventsAsMoves.{led_agrees, led_keeps}
use Rattle.laws_clusters.proofs.Theorem.{led_honest}
use Rattle.world_actors.specs.Numbers.{batch_in, nodes_in, servers_in, target_in}
use Rattle.laws_traces.specs.Traces.{AreNumbers, IsLegalTrace, Reaches, RunEntry, events_of, first_cluster_of, observed}
use Rattle.laws_traces.proofs.Reaching.{reaches}

module _ (ns : List ℕ) (numbers : AreNumbers ns) (xs : List RunEntry) (legal : IsLegalTrace ns xs) where
  reached : Reaches ns xs legal.states (cluster_after_all (first_cluster_of ns) (events_of xs))
  reached = reaches ns numbers xs legal.states legal.leads legal.entries

  pub trace_agrees : Agree (observed [] xs)
  trace_agrees = subst Agree reached.notes (led_agrees (nodes_in ns) (servers_in ns) (target_in ns) (batch_in ns) (events_of xs))

  pub trace_keeps : Kept (observed [] xs)
  trace_keeps = subst Kept reached.notes (led_keeps (nodes_in ns) (servers_in ns) (target_in ns) (batch_in ns) (events_of xs))

  pub trace_honest : AreUnmerged (events_of xs) → Honest (observed [] xs)
  trace_honest unmerged = subst Honest reached.notes (led_honest (nodes_in ns) (servers_in ns) (target_in ns) (batch_in ns) (events_of xs) unmerged)
