-- Whole runs: nodes and the manager below, servers and the map above them.
use Rattle.std.specs.Prelude.{ℕ, Bool, List, [], ◌∷◌, ◌++◌, map, Option, Some, None, nat_lt, ◌==◌, slice_get, if◌then◌else◌}
use Rattle.wire.specs.declared.actor.ActorId.{ActorId}
use Rattle.wire.specs.declared.actor.ActorId.TheVariants.{Map, Server}
use Rattle.wire.specs.declared.note.Note.{Note}
use Rattle.wire.specs.declared.packet.Packet.{Packet}
use Rattle.wire.specs.declared.refusal.Refusal.{Refusal}
use Rattle.model_streams.specs.declared.event.Event.{Event}
use Rattle.model_streams.specs.declared.event.Event.TheVariants.{Deliver, Stop, Restart, GiveUp, Checkpoint, Split, Merge, Assign, Renew, Moment}
use Rattle.model_streams.specs.Outcome.{Outcome}
use Rattle.model_streams.specs.StreamSystem.{StreamSystem, ActorCell, running, down, armed, stops_in, stands_in, burnt, unsent, happens, delivered, start}
use Rattle.model_partition.specs.Map.{MapState, first_map, range_at}
use Rattle.model_partition.specs.MapRules.{assign_fault, assign_rule, renew_fault, renew_rule, map_rule}
use Rattle.model_partition.specs.Servers.{ServerCell, ServersOutcome, with_told, server_takes, server_gives_up, server_checkpoints, server_splits, server_merges, server_stops, server_starts, told_moment, first_servers}

-- the stream layer, with all packets and observations; the servers, numbered from 1; the map, which of one that has stopped is
-- what its records make, and whether it runs; the last moment; and how many transactions a group may hold
pub record Cluster : Type 0 where
  pub stream_layer : StreamSystem
  pub servers : List ServerCell
  pub map : MapState
  pub map_cell : ActorCell
  pub now : ℕ
  pub batch : ℕ

-- ---- servers

abbrev pub servers_perform : Cluster → ServersOutcome → Cluster
servers_perform c o = record c { stream_layer = with_told c.stream_layer o.packets o.notes; servers = o.servers }

-- ---- the clock

-- a moment that goes back changes nothing
abbrev pub shows_moment : Cluster → ℕ → Cluster
shows_moment c now = if nat_lt now c.now then c else record c { now = now; servers = map (told_moment now) c.servers }

-- ---- the map

abbrev pub map_halted : Cluster → Cluster
map_halted c = record c { map_cell = down }

-- what the map sends and shows
abbrev pub told_by_map : StreamSystem → List Packet → List Note → StreamSystem
told_by_map w packets notes = record w { post = w.post ++ packets; notes = w.notes ++ notes }

abbrev pub after_map_rule : Cluster → Outcome MapState → Cluster
after_map_rule c o = record c { map = o.after; stream_layer = told_by_map c.stream_layer o.packets o.notes }

-- the map goes through a rule, or stops while it writes the rule's record; what the rule shows is shown where its record stands
abbrev pub map_performs : Cluster → Outcome MapState → Cluster
map_performs c o =
    if stops_in c.map_cell o.written
    then (if stands_in c.map_cell then map_halted (after_map_rule c (unsent o)) else map_halted c)
    else after_map_rule (record c { map_cell = burnt c.map_cell o.written }) o

abbrev pub map_takes : Cluster → Packet → Cluster
map_takes c p = if c.map_cell.up then map_performs c (map_rule c.map p p.body) else c

-- the map refuses a call, or goes through its rule
abbrev pub map_performs_if : Cluster → Option Refusal → Outcome MapState → Cluster
map_performs_if c (Some refusal) o = c
map_performs_if c None o = map_performs c o

abbrev pub assigns : Cluster → ℕ → ℕ → ℕ → Cluster
assigns c range server until =
    if c.map_cell.up
    then map_performs_if c (assign_fault server c.now (range_at c.map.ranges range)) (assign_rule c.map range server until (range_at c.map.ranges range))
    else c

abbrev pub renews : Cluster → ℕ → ℕ → ℕ → Cluster
renews c range server until =
    if c.map_cell.up
    then map_performs_if c (renew_fault server (range_at c.map.ranges range)) (renew_rule c.map range server until (range_at c.map.ranges range))
    else c

-- it stops at once, or in one of its next device calls
abbrev pub map_stops : Cluster → ℕ → Bool → Cluster
map_stops c call keep = if c.map_cell.up then (if call == 0 then map_halted c else record c { map_cell = armed call keep }) else c

-- it comes back with what its records make
abbrev pub map_starts : Cluster → Cluster
map_starts c = if c.map_cell.up then c else record c { map_cell = running }

-- ---- events

abbrev pub delivered_to : Cluster → Packet → ActorId → Cluster
delivered_to c p (Server s) = servers_perform c (server_takes c.servers s p)
delivered_to c p Map = map_takes c p
delivered_to c p to = record c { stream_layer = delivered c.stream_layer p to }

abbrev pub delivers : Cluster → Option Packet → Cluster
delivers c None = c
delivers c (Some p) = delivered_to c p p.to

abbrev pub stops : Cluster → ActorId → ℕ → Bool → Cluster
stops c (Server s) call keep = servers_perform c (server_stops c.servers s call)
stops c Map call keep = map_stops c call keep
stops c actor call keep = record c { stream_layer = happens c.stream_layer (Stop actor call keep) }

abbrev pub restarts : Cluster → ActorId → Cluster
restarts c (Server s) = servers_perform c (server_starts c.servers s c.now c.batch)
restarts c Map = map_starts c
restarts c actor = record c { stream_layer = happens c.stream_layer (Restart actor) }

-- what an event does
abbrev pub cluster_after : Cluster → Event → Cluster
cluster_after c (Deliver number) = delivers c (slice_get c.stream_layer.post number)
cluster_after c (Stop actor call keep) = stops c actor call keep
cluster_after c (Restart actor) = restarts c actor
cluster_after c (GiveUp server range pick) = servers_perform c (server_gives_up c.servers server range pick)
cluster_after c (Checkpoint server range combine) = servers_perform c (server_checkpoints c.servers server range combine)
cluster_after c (Split server range key) = servers_perform c (server_splits c.servers server range key)
cluster_after c (Merge server left right) = servers_perform c (server_merges c.servers server left right)
cluster_after c (Assign range server until) = assigns c range server until
cluster_after c (Renew range server until) = renews c range server until
cluster_after c (Moment now) = shows_moment c now
cluster_after c event = record c { stream_layer = happens c.stream_layer event }

-- what these events make of it, one after the other
abbrev pub cluster_after_all : Cluster → List Event → Cluster
cluster_after_all c [] = c
cluster_after_all c (event ∷ events) = cluster_after_all (cluster_after c event) events

-- no two ranges are merged
abbrev pub IsUnmerged : Event → Type 0
IsUnmerged (Merge server left right) = ⊥
IsUnmerged event = Unit {0}

abbrev pub AreUnmerged : List Event → Type 0
AreUnmerged [] = Unit {0}
AreUnmerged (event ∷ events) = IsUnmerged event × AreUnmerged events

-- so many nodes and servers, extents that take appends below the target, and groups of at most so many transactions
abbrev pub first_cluster : ℕ → ℕ → ℕ → ℕ → Cluster
first_cluster nodes servers target batch =
    record {
      stream_layer = start nodes target;
      servers = first_servers batch 1 servers;
      map = first_map;
      map_cell = running;
      now = 0;
      batch = batch;
    }
