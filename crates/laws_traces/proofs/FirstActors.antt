-- The actors of a setup, before any event, are those of the first cluster.
use Rattle.std.proofs.Common.{◌≡◌, ◌<◌, ◌≤◌, ◌+◌, ◌-◌, ℕ, zero, suc, true, ◌==◌, ◌&&◌, nat_le, nat_lt, List, Some, arith, refl, ap, ◌∙◌, slice_get}
use Rattle.std.proofs.lemmas.Bool.Decides.{nat_tests}
use Rattle.wire.specs.declared.actor.ActorId.{ActorId}
use Rattle.model_streams.specs.Maps.{entry_at}
use Rattle.model_streams.specs.StreamSystem.{cell_at, down, running}
use Rattle.model_streams.proofs.Tests.{both_elim, if_elim}
use Rattle.model_partition.specs.Servers.{first_server, first_servers}
use Rattle.world_nodes.specs.Seen.{new_node}
use Rattle.world_nodes.proofs.Stopping.{new_mirrors as node_mirrors}
use Rattle.world_manager.proofs.ManagerSimulation.{new_mirrors as manager_mirrors}
use Rattle.world_server.specs.Seen.{new_server}
use Rattle.world_actors.specs.declared.run_actor.RunActor.{RunActor}
use Rattle.world_actors.specs.declared.run_actor.RunActor.TheVariants.{Node, Server}
use Rattle.world_actors.specs.Numbers.{batch_in, count_of, nodes_in, servers_in, target_in}
use Rattle.world_actors.specs.Actors.{IsActor, actor_at, first_of, id_of}
use Rattle.laws_traces.specs.Traces.{AreNumbers, first_cluster_of}
use Rattle.laws_traces.proofs.EntrySteps.{HasActors}
use Rattle.laws_traces.proofs.Sizes.{size_first}

first_at : (batch k many at : ℕ) → at < many → slice_get (first_servers batch k many) at ≡ Some (first_server batch (k + at))
first_at batch k zero at low = absurd (omega arith)
first_at batch k (suc many) zero low = ap (λ (s : ℕ). Some (first_server batch s)) {x = k} {y = k + 0} (omega arith)
first_at batch k (suc many) (suc at) low = first_at batch (suc k) many at (omega arith) ∙ ap (λ (s : ℕ). Some (first_server batch s)) {x = suc k + at} {y = k + suc at} (omega arith)

first_entry : (batch many s : ℕ) → 0 < s → s ≤ many → entry_at (first_servers batch 1 many) s ≡ Some (first_server batch s)
first_entry batch many zero some most = absurd (omega arith)
first_entry batch many (suc at) some most = first_at batch 1 many at (omega arith) ∙ ap (λ (s : ℕ). Some (first_server batch s)) {x = 1 + at} {y = suc at} (omega arith)

runs_at : (nodes n : ℕ) → n < nodes → cell_at nodes (suc n) ≡ running
runs_at nodes n low = if_elim (λ c. c ≡ running) (nat_lt 0 (suc n) && nat_le (suc n) nodes) running down (λ there. refl) (λ away. absurd (grind (arith, nat_tests)))

there_at : (nodes n : ℕ) → n < nodes → (nat_lt 0 (suc n) && nat_le (suc n) nodes) ≡ true
there_at nodes n low = grind (arith, nat_tests)

module _ (ns : List ℕ) (numbers : AreNumbers ns) where
  same_ids : (n : ℕ) → id_of (first_of ns n) ≡ actor_at ns n
  same_ids n =
      both_elim Same (nat_lt n (nodes_in ns)) _ _ _ _ (λ node. refl)
      (λ high. both_elim Same (n == nodes_in ns) _ _ _ _ (λ manager. refl)
      (λ other. both_elim Same (n == nodes_in ns + 1) _ _ _ _ (λ map. refl) (λ server. refl)))
    where
      Same : RunActor → ActorId → Type 0
      Same z a = id_of z ≡ a

  node_begins : (n : ℕ) → n < nodes_in ns → IsActor (Node (new_node (suc n))) (first_cluster_of ns)
  node_begins n low = (node_mirrors (suc n) (first_cluster_of ns).stream_layer (λ e. refl) (runs_at (nodes_in ns) n low), there_at (nodes_in ns) n low)

  server_begins : (s : ℕ) → 0 < s → s ≤ servers_in ns → IsActor (Server (new_server (batch_in ns) s)) (first_cluster_of ns)
  server_begins s some most = record { cell = first_entry (batch_in ns) (servers_in ns) s some most; moment = refl; batch = refl }

  actor_begins : (n : ℕ) → n < count_of ns → IsActor (first_of ns n) (first_cluster_of ns)
  actor_begins n below =
      if_elim (λ (z : RunActor). IsActor z (first_cluster_of ns)) (nat_lt n (nodes_in ns)) _ _ (λ node. node_begins n (grind (arith, nat_tests, node)))
      (λ high. if_elim (λ (z : RunActor). IsActor z (first_cluster_of ns)) (n == nodes_in ns) _ _ (λ manager. manager_mirrors (nodes_in ns) (target_in ns) numbers.0 numbers.2)
      (λ other. if_elim (λ (z : RunActor). IsActor z (first_cluster_of ns)) (n == nodes_in ns + 1) _ _ (λ map. record { map = refl; up = refl; plan = λ up. refl; moment = refl })
      (λ rest. server_begins (n - (nodes_in ns + 1)) (grind (arith, nat_tests, high, other, rest)) (omega (arith, below)))))

  pub has_first : HasActors ns (first_of ns) (first_cluster_of ns)
  has_first = record {
    size = size_first (nodes_in ns) (servers_in ns) (target_in ns) (batch_in ns);
    each = λ n below. record { id = same_ids n; actor = actor_begins n below };
  }
