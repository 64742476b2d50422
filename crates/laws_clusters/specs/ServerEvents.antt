-- What of a run without merges comes to its servers.
use Rattle.std.specs.Prelude.{ℕ, Bool, not, ◌&&◌, ◌||◌, List, [], ◌∷◌, ◌++◌, Option, Some, None, is_none, slice_get, if◌then◌else◌, nat_lt}
use Rattle.block_types.specs.declared.record.Record.{Record}
use Rattle.wire.specs.declared.actor.ActorId.{ActorId}
use Rattle.wire.specs.declared.actor.ActorId.TheVariants.{Manager, Server}
use Rattle.wire.specs.declared.body.Body.{Body}
use Rattle.wire.specs.declared.body.Body.TheVariants as bodies
use Rattle.wire.specs.declared.body.StreamBody.TheVariants.{MultiModify}
use Rattle.wire.specs.declared.packet.Packet.{Packet}
use Rattle.wire.specs.declared.streams.Modify.{Modify}
use Rattle.wire.specs.declared.streams.Source.{Source}
use Rattle.wire.specs.declared.streams.StreamKind.{StreamKind}
use Rattle.wire.specs.declared.streams.StreamKind.TheVariants as kinds
use Rattle.model_streams.specs.declared.event.Event.{Event}
use Rattle.model_streams.specs.declared.event.Event.TheVariants.{Deliver, Stop, Restart, GiveUp, Checkpoint, Split, Moment as MomentTold}
use Rattle.model_streams.specs.declared.manager_record.ManagerRecord.TheVariants as records
use Rattle.model_streams.specs.Manager.{modify_refusal, writes}
use Rattle.model_streams.specs.StreamSystem.{StreamSystem, ActorCell, stops_in, stands_in}
use Rattle.model_partition.specs.Cluster.{Cluster, cluster_after, first_cluster}
use Rattle.model_histories.specs.ServerRun.{ServerEvent, Takes, GivesUp, Checkpoints, Splits, Stops, Starts, Moment, Builds, ServerRun, run_of}

-- ---- streams that are built

-- the record that an actor writes stands
abbrev pub is_written : ActorCell → Option Record → Bool
is_written cell written = not (stops_in cell written) || stands_in cell

-- the manager runs, does not refuse to build these streams, and its record of them stands
abbrev pub takes_build : StreamSystem → Packet → List Modify → Bool
takes_build w p list = w.manager_cell.up && (is_none (modify_refusal w.catalog p list) && is_written w.manager_cell (writes (records.MultiModify list)))

-- the streams that the manager builds where this comes to it
abbrev pub built_by : StreamSystem → Packet → Body → List Modify
built_by w p (bodies.Stream (MultiModify list q)) = if takes_build w p list then list else []
built_by w p body = []

abbrev pub source_events : ℕ → List Source → List ServerEvent
source_events range (source ∷ []) = Builds source.stream.range range ∷ []
source_events range sources = []

abbrev pub entry_events : StreamKind → ℕ → List Source → List ServerEvent
entry_events kinds.Metadata range sources = source_events range sources
entry_events kind range sources = []

-- the streams of a range are built together, and this is said once, of its metadata
abbrev pub built_events : List Modify → List ServerEvent
built_events [] = []
built_events (m ∷ list) = built_events list ++ entry_events m.stream.kind m.stream.range m.sources

-- ---- what comes to servers

abbrev pub packet_events : Cluster → ActorId → Packet → List ServerEvent
packet_events c (Server s) p = Takes s p ∷ []
packet_events c Manager p = built_events (built_by c.stream_layer p p.body)
packet_events c to p = []

abbrev pub delivery_events : Cluster → Option Packet → List ServerEvent
delivery_events c None = []
delivery_events c (Some p) = packet_events c p.to p

abbrev pub stop_events : ActorId → ℕ → List ServerEvent
stop_events (Server s) call = Stops s call ∷ []
stop_events actor call = []

abbrev pub start_events : Cluster → ActorId → List ServerEvent
start_events c (Server s) = Starts s c.now c.batch ∷ []
start_events c actor = []

-- what an event is to the servers, if anything
abbrev pub server_events : Cluster → Event → List ServerEvent
server_events c (Deliver number) = delivery_events c (slice_get c.stream_layer.post number)
server_events c (Stop actor call keep) = stop_events actor call
server_events c (Restart actor) = start_events c actor
server_events c (GiveUp server range pick) = GivesUp server range pick ∷ []
server_events c (Checkpoint server range combine) = Checkpoints server range combine ∷ []
server_events c (Split server range key) = Splits server range key ∷ []
server_events c (MomentTold now) = if nat_lt now c.now then [] else Moment now ∷ []
server_events c event = []

-- what these events, one after the other, are to them, behind what came before; the newest comes first
abbrev pub server_events_after : Cluster → List ServerEvent → List Event → List ServerEvent
server_events_after c before [] = before
server_events_after c before (event ∷ events) = server_events_after (cluster_after c event) (server_events c event ++ before) events

-- what comes to the servers of a run
abbrev pub events_of_run : (nodes servers target batch : ℕ) → List Event → List ServerEvent
events_of_run nodes servers target batch events = server_events_after (first_cluster nodes servers target batch) [] events

-- what they make of the packets that are delivered to them and of what they are told
abbrev pub servers_of_run : (nodes servers target batch : ℕ) → List Event → ServerRun
servers_of_run nodes servers target batch events = run_of batch servers (events_of_run nodes servers target batch events)
