-- Actors of all kinds.
use Rattle.std.specs.Prelude.{◌≡◌, ℕ, suc, ◌-◌, ◌+◌, ◌==◌, nat_lt, Bool, true, is_none, List, Option, Some, None, if◌then◌else◌}
use Rattle.wire.specs.declared.actor.ActorId.{ActorId}
use Rattle.wire.specs.declared.actor.ActorId.TheVariants as actors
use Rattle.model_streams.specs.Maps.{entry_at}
use Rattle.model_streams.specs.StreamSystem.{is_present}
use Rattle.model_partition.specs.Cluster.{Cluster}
use Rattle.world_nodes.specs.Seen.{NodeSeen, NodeMirrors, if_running, new_node}
use Rattle.world_manager.specs.Seen.{ManagerMirrors, new_manager}
use Rattle.world_map.specs.Seen as map
use Rattle.world_server.specs.Seen as server
use Rattle.world_actors.specs.declared.run_actor.RunActor.{RunActor}
use Rattle.world_actors.specs.declared.run_actor.RunActor.TheVariants.{Node, Manager, Map, Server}
use Rattle.world_actors.specs.Numbers.{nodes_in, target_in, batch_in}

abbrev pub id_of : RunActor → ActorId
id_of (Node x) = actors.Node x.number
id_of (Manager x) = actors.Manager
id_of (Map x) = actors.Map
id_of (Server x) = actors.Server x.number

-- nothing comes of a packet to it
abbrev pub is_stopped : RunActor → Bool
is_stopped (Node x) = x.stopped
is_stopped (Manager x) = x.stopped
is_stopped (Map x) = x.stopped
is_stopped (Server x) = is_none x.cell.state

-- a node that runs
abbrev pub running_node : RunActor → Option NodeSeen
running_node (Node x) = if_running (Some x)
running_node x = None

-- the clock shows this moment; nodes and the manager do not look at it
abbrev pub ticked : ℕ → RunActor → RunActor
ticked now (Node x) = Node x
ticked now (Manager x) = Manager x
ticked now (Map x) = Map (map.moment_shown now x)
ticked now (Server x) = Server (server.moment_shown now x)

-- the model's server of this number, its clock, and how many transactions a group may hold, are as is seen here
pub record HasServer (c : Cluster) (x : server.ServerSeen) : Type 0 where
  pub cell : entry_at c.servers x.number ≡ Some x.cell
  pub moment : c.now ≡ x.moment
  pub batch : c.batch ≡ x.batch

-- the cluster has this actor
abbrev pub IsActor : RunActor → Cluster → Type 0
IsActor (Node x) c = NodeMirrors x.number x c.stream_layer × (is_present c.stream_layer x.number ≡ true)
IsActor (Manager x) c = ManagerMirrors x c.stream_layer
IsActor (Map x) c = map.MapMirrors x c
IsActor (Server x) c = HasServer c x

-- who has this number
abbrev pub actor_at : List ℕ → ℕ → ActorId
actor_at ns n =
    if nat_lt n (nodes_in ns) then actors.Node (suc n)
    else (if n == nodes_in ns then actors.Manager
    else (if n == nodes_in ns + 1 then actors.Map
    else actors.Server (n - (nodes_in ns + 1))))

-- the actor of this number before any event
abbrev pub first_of : List ℕ → ℕ → RunActor
first_of ns n =
    if nat_lt n (nodes_in ns) then Node (new_node (suc n))
    else (if n == nodes_in ns then Manager (new_manager (nodes_in ns) (target_in ns))
    else (if n == nodes_in ns + 1 then Map map.new_map
    else Server (server.new_server (batch_in ns) (n - (nodes_in ns + 1)))))
