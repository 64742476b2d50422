-- A step of one actor of a cluster.
use Rattle.std.specs.Prelude.{◌≡◌, ◌≢◌, ℕ, ◌++◌, Option, None}
use Rattle.wire.specs.declared.refusal.Refusal.{Refusal}
use Rattle.model_streams.specs.declared.event.Event.{Event}
use Rattle.model_streams.specs.declared.event.Event.TheVariants as events
use Rattle.model_partition.specs.Servers.{checkpoint_fault_of, give_up_fault, merge_fault_of, noted, split_fault_of}
use Rattle.model_partition.specs.Cluster.{Cluster, cluster_after}
use Rattle.world_steps.specs.ActorStep.{ActorStep, IsFew, nothing}
use Rattle.world_manager.specs.Seen.{ManagerSeen, decision_refusal}
use Rattle.world_map.specs.Seen.{MapSeen, assign_refusal, renew_refusal}
use Rattle.world_server.specs.Seen.{ServerSeen}
use Rattle.world_actors.specs.declared.run_actor.RunActor.{RunActor}
use Rattle.world_actors.specs.declared.run_actor.RunActor.TheVariants.{Node, Manager, Map, Server}
use Rattle.world_actors.specs.declared.actor_input.ActorInput.{ActorInput}
use Rattle.world_actors.specs.Inputs.{Carries, IsFor}
use Rattle.world_actors.specs.Actors.{IsActor, id_of, ticked}

-- from c to d the actor x alone steps, to y, and it sends and shows this
pub record ActorSteps (x y : RunActor) (c d : Cluster) (t : ActorStep) : Type 0 where
  pub post : d.stream_layer.post ≡ c.stream_layer.post ++ t.packets
  pub notes : d.stream_layer.notes ≡ noted (c.stream_layer.notes ++ t.notes) t.tables
  pub id : id_of y ≡ id_of x
  pub here : IsActor y d
  pub others : (z : RunActor) → id_of z ≢ id_of x → IsActor z c → IsActor z d

abbrev pub manager_refusal : ManagerSeen → Event → Option Refusal
manager_refusal x (events.Decide e) = decision_refusal x e
manager_refusal x event = None

abbrev pub map_refusal : MapSeen → Event → Option Refusal
map_refusal x (events.Assign range server until) = assign_refusal x x.moment range server
map_refusal x (events.Renew range server until) = renew_refusal x range server
map_refusal x event = None

abbrev pub server_refusal : ServerSeen → Event → Option Refusal
server_refusal x (events.GiveUp server range pick) = give_up_fault range pick x.cell.state
server_refusal x (events.Checkpoint server range combine) = checkpoint_fault_of range x.cell.state
server_refusal x (events.Split server range key) = split_fault_of range key x.cell.state
server_refusal x (events.Merge server left right) = merge_fault_of left right x.cell.state
server_refusal x event = None

-- why the actor refuses an event; a node refuses none
abbrev pub refusal_by : RunActor → Event → Option Refusal
refusal_by (Node x) event = None
refusal_by (Manager x) event = manager_refusal x event
refusal_by (Map x) event = map_refusal x event
refusal_by (Server x) event = server_refusal x event

-- from x the actor goes to y by an input, and answers this: whatever cluster has x, what the event makes of it has y, and all
-- others as they were; and a moment is shown to it
pub record Goes (x : RunActor) (d : ActorInput) (y : RunActor) (t : ActorStep) : Type 0 where
  pub few : IsFew t
  pub refusal : t.refusal ≡ refusal_by x d.event
  pub steps : (c : Cluster) → IsActor x c → Carries c.stream_layer.post d → IsFor d (id_of x) → ActorSteps x y c (cluster_after c d.event) t
  pub moment : (now : ℕ) → d.event ≡ events.Moment now → (y ≡ ticked now x) × (t ≡ nothing)
