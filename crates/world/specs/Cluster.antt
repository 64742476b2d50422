-- A cluster of real actors beside the model's.
use Rattle.std.specs.Prelude.{◌≡◌, ℕ, List, Option, Some, None}
use Rattle.wire.specs.declared.actor.ActorId.{ActorId}
use Rattle.wire.specs.declared.actor.ActorId.TheVariants.{Node, Manager, Map, Server, User}
use Rattle.wire.specs.declared.packet.Packet.{Packet}
use Rattle.wire.specs.declared.refusal.Refusal.{Refusal}
use Rattle.model_streams.specs.declared.event.Event.{Event}
use Rattle.model_streams.specs.declared.event.Event.TheVariants.{Decide, GiveUp, Checkpoint, Split, Merge, Assign, Renew}
use Rattle.model_streams.specs.Maps.{entry_at}
use Rattle.model_partition.specs.Servers.{ServerCell, checkpoint_refusal_at, give_up_refusal, merge_refusal_at, split_refusal_at}
use Rattle.model_partition.specs.Cluster.{AreUnmerged, Cluster, cluster_after, cluster_after_all, first_cluster}
use Rattle.world_map.specs.Seen.{MapSeen, MapMirrors, assign_refusal, renew_refusal}
use Rattle.world_manager.specs.Seen.{decision_refusal}
use Rattle.world_streams.specs.StreamLayer.{StreamLayerState, StreamLayerMirrors}

-- the stream layer, the servers, the map, the last moment, and how many transactions a group may hold
pub record ClusterState : Type 0 where
  pub stream_layer : StreamLayerState
  pub servers : List ServerCell
  pub map : MapSeen
  pub moment : ℕ
  pub batch : ℕ

-- the model's cluster mirrors what is seen of the real one
pub record ClusterMirrors (x : ClusterState) (c : Cluster) : Type 0 where
  pub stream_layer : StreamLayerMirrors x.stream_layer c.stream_layer
  pub servers : x.servers ≡ c.servers
  pub map : MapMirrors x.map c
  pub moment : x.moment ≡ c.now
  pub batch : x.batch ≡ c.batch

-- the event leads from one to the other, as the model's cluster goes
abbrev pub ClusterSimulates : ClusterState → ClusterState → Event → Type 0
ClusterSimulates x y event = (c : Cluster) → ClusterMirrors x c → ClusterMirrors y (cluster_after c event)

-- it is what these events make of the first
abbrev pub ReachedBy : List Event → Cluster → ClusterState → Type 0
ReachedBy events first x = ClusterMirrors x (cluster_after_all first events)

-- some events made this, from the start of some setup
pub record IsRun (x : ClusterState) : Type 0 where
  pub nodes : ℕ
  pub servers : ℕ
  pub target : ℕ
  pub batch : ℕ
  pub events : List Event
  pub led : ReachedBy events (first_cluster nodes servers target batch) x

-- some events by which no two ranges are merged made this, from the start of some setup
pub record IsUnmergedRun (x : ClusterState) : Type 0 where
  pub nodes : ℕ
  pub servers : ℕ
  pub target : ℕ
  pub batch : ℕ
  pub events : List Event
  pub unmerged : AreUnmerged events
  pub led : ReachedBy events (first_cluster nodes servers target batch) x

-- whom a packet is for, where there is one
abbrev pub addressee_of : Option Packet → Option ActorId
addressee_of None = None
addressee_of (Some p) = Some p.to

-- nobody above the stream layer
abbrev pub IsBelow : ActorId → Type 0
IsBelow (Node n) = Unit {0}
IsBelow Manager = Unit {0}
IsBelow Map = ⊥
IsBelow (Server s) = ⊥
IsBelow (User u) = Unit {0}

-- why an event is refused: the manager's, a server's or the map's reason, and nothing else
abbrev pub refusal_of : ClusterState → Event → Option Refusal
refusal_of x (Decide e) = decision_refusal x.stream_layer.manager e
refusal_of x (GiveUp server range pick) = give_up_refusal range pick (entry_at x.servers server)
refusal_of x (Checkpoint server range combine) = checkpoint_refusal_at range (entry_at x.servers server)
refusal_of x (Split server range key) = split_refusal_at range key (entry_at x.servers server)
refusal_of x (Merge server left right) = merge_refusal_at left right (entry_at x.servers server)
refusal_of x (Assign range server until) = assign_refusal x.map x.moment range server
refusal_of x (Renew range server until) = renew_refusal x.map range server
refusal_of x event = None
