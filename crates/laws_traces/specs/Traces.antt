-- Which traces of a run are legal, and which cluster they lead to.
use Rattle.std.specs.Prelude.{◌≡◌, ◌<◌, ◌≤◌, ℕ, List, [], ◌∷◌, ◌++◌, Option, None, if◌then◌else◌}
use Rattle.wire.specs.declared.actor.ActorId.TheVariants.{User}
use Rattle.wire.specs.declared.note.Note.{Note}
use Rattle.wire.specs.declared.packet.Packet.{Packet}
use Rattle.model_streams.specs.declared.event.Event.{Event}
use Rattle.model_streams.specs.declared.event.Event.TheVariants.{Deliver, Submit}
use Rattle.model_streams.specs.Outcome.{packet}
use Rattle.model_streams.specs.StreamSystem.{is_request}
use Rattle.model_partition.specs.Servers.{noted}
use Rattle.model_partition.specs.Cluster.{Cluster, cluster_after_all, first_cluster}
use Rattle.stamp_traces.specs.Traces.{Entry, LeadsFrom}
use Rattle.world_setup.specs.Limits.{IsWithinLimits}
use Rattle.world_steps.specs.ActorStep.{ActorStep, nothing, packets_alone}
use Rattle.world_actors.specs.declared.actor_input.ActorInput.{ActorInput}
use Rattle.world_actors.specs.declared.run_actor.RunActor.{RunActor}
use Rattle.world_actors.specs.Numbers.{batch_in, count_of, nodes_in, servers_in, target_in}
use Rattle.world_actors.specs.Inputs.{Carries, takers_in}
use Rattle.world_actors.specs.Actors.{IsActor, actor_at, first_of, id_of}
use Rattle.world_actors.specs.Steps.{Goes}

-- ---- what a trace has

-- the entry of an input, who took it, and the step that it was answered by
abbrev pub RunEntry : Type 0
RunEntry = Entry ActorInput ActorStep

-- all packets sent, in order
abbrev pub sent_by : List RunEntry → List Packet
sent_by [] = []
sent_by (x ∷ xs) = x.reply.packets ++ sent_by xs

abbrev pub events_of : List RunEntry → List Event
events_of [] = []
events_of (x ∷ xs) = x.event.event ∷ events_of xs

-- all that is observed, after these notes
abbrev pub observed : List Note → List RunEntry → List Note
observed notes [] = notes
observed notes (x ∷ xs) = observed (noted (notes ++ x.reply.notes) x.reply.tables) xs

-- ---- which traces are legal

-- what comes of an event that no actor takes: the packet of a request, and else nothing
abbrev pub unheard : Event → ActorStep
unheard (Submit user to body) = if is_request body then packets_alone (packet (User user) to body ∷ []) else nothing
unheard event = nothing

-- a delivery has its packet
abbrev pub HasPacket : Event → Option Packet → Type 0
HasPacket (Deliver number) None = ⊥
HasPacket event packet = Unit {0}

-- after these packets the entry has the actors whose event it is, of a delivery a packet that was sent, and, where it has no actor, no
-- other reply
pub record IsLegalEntry (ns : List ℕ) (post : List Packet) (x : RunEntry) : Type 0 where
  pub takers : x.takers ≡ takers_in ns x.event
  pub carries : Carries post x.event
  pub sent : HasPacket x.event.event x.event.packet
  pub untaken : x.takers.end ≤ x.takers.first → x.reply ≡ unheard x.event.event

-- each entry is legal after the packets of those before it
abbrev pub IsLegalFrom : List ℕ → List Packet → List RunEntry → Type 0
IsLegalFrom ns post [] = Unit {0}
IsLegalFrom ns post (x ∷ xs) = IsLegalEntry ns post x × IsLegalFrom ns (post ++ x.reply.packets) xs

-- from the actors of a setup each event is a step of its actors, and each packet was sent before it is delivered
pub record IsLegalTrace (ns : List ℕ) (xs : List RunEntry) : Type 0 where
  pub states : ℕ → RunActor
  pub leads : LeadsFrom Goes (first_of ns) xs states
  pub entries : IsLegalFrom ns [] xs

-- ---- where they lead

-- numbers that a setup may have
abbrev pub AreNumbers : List ℕ → Type 0
AreNumbers ns = IsWithinLimits (nodes_in ns) (servers_in ns) (target_in ns) (batch_in ns)

-- the cluster as it begins
abbrev pub first_cluster_of : List ℕ → Cluster
first_cluster_of ns = first_cluster (nodes_in ns) (servers_in ns) (target_in ns) (batch_in ns)

-- the cluster has an actor of this number, as it is here
pub record IsActorAt (ns : List ℕ) (n : ℕ) (x : RunActor) (c : Cluster) : Type 0 where
  pub id : id_of x ≡ actor_at ns n
  pub actor : IsActor x c

-- the cluster is what the events make of the first one; it has sent and shown what the trace has; and each of its actors is as here
pub record Reaches (ns : List ℕ) (xs : List RunEntry) (t : ℕ → RunActor) (c : Cluster) : Type 0 where
  pub made : c ≡ cluster_after_all (first_cluster_of ns) (events_of xs)
  pub post : c.stream_layer.post ≡ sent_by xs
  pub notes : c.stream_layer.notes ≡ observed [] xs
  pub actors : (n : ℕ) → n < count_of ns → IsActorAt ns n (t n) c
