-- Whole runs: the network is the list of all packets sent, and a delivery takes any of them, again and in any order.
use Rattle.std.specs.Prelude.{ℕ, ◌-◌, Bool, true, false, not, ◌&&◌, ◌||◌, List, [], ◌∷◌, ◌++◌, Option, Some, None, ◌==◌, nat_lt, nat_le, slice_get, if◌then◌else◌}
use Rattle.std.specs.List.{list_all}
use Rattle.block_types.specs.declared.record.Record.{Record}
use Rattle.wire.specs.declared.actor.ActorId.{ActorId}
use Rattle.wire.specs.declared.actor.ActorId.TheVariants.{Node, Manager, Map, Server, User}
use Rattle.wire.specs.declared.body.AppendBody.{AppendBody}
use Rattle.wire.specs.declared.body.AppendBody.TheVariants as appends
use Rattle.wire.specs.declared.body.CheckBody.{CheckBody}
use Rattle.wire.specs.declared.body.CheckBody.TheVariants as checks
use Rattle.wire.specs.declared.body.SealBody.{SealBody}
use Rattle.wire.specs.declared.body.SealBody.TheVariants as seals
use Rattle.wire.specs.declared.body.ReadBody.{ReadBody}
use Rattle.wire.specs.declared.body.ReadBody.TheVariants as reads
use Rattle.wire.specs.declared.body.StreamBody.{StreamBody}
use Rattle.wire.specs.declared.body.StreamBody.TheVariants as streams
use Rattle.wire.specs.declared.body.MapBody.{MapBody}
use Rattle.wire.specs.declared.body.MapBody.TheVariants as maps
use Rattle.wire.specs.declared.body.TableBody.{TableBody}
use Rattle.wire.specs.declared.body.TableBody.TheVariants as tables
use Rattle.wire.specs.declared.body.Body.{Body}
use Rattle.wire.specs.declared.body.Body.TheVariants as bodies
use Rattle.wire.specs.declared.note.Note.{Note}
use Rattle.wire.specs.declared.note.Note.TheVariants.{Began, Done, Loaded, Got, Split, Merged}
use Rattle.wire.specs.declared.packet.Packet.{Packet}
use Rattle.wire.specs.declared.streams.Modify.{Modify}
use Rattle.streams.specs.Streams.{kind_number}
use Rattle.model_streams.specs.declared.event.Event.{Event}
use Rattle.model_streams.specs.declared.event.Event.TheVariants.{Submit, Deliver, Stop, Restart, Decide, GiveUp, Assign, Renew, Moment, Checkpoint, Split, Merge}
use Rattle.model_streams.specs.Maps.{changed, changed_at}
use Rattle.model_streams.specs.Outcome.{Outcome, packet}
use Rattle.model_streams.specs.Node.{Replica, stopped, node_rule, extent_of}
use Rattle.model_streams.specs.Manager.{Catalog, first_catalog, catalog_stopped, manager_rule, decide_rule}

-- whether an actor runs, and in which of its next device calls it stops (0: in none)
pub record ActorCell : Type 0 where
  pub up : Bool
  pub fuse : ℕ
  pub keep : Bool

pub record StreamSystem : Type 0 where
  pub post : List Packet
  pub notes : List Note
  pub replica : ℕ → ℕ → Option Replica  -- by node and extent
  pub catalog : Catalog
  pub cell : ℕ → ActorCell  -- of each node
  pub manager_cell : ActorCell  -- of the manager
  pub nodes : ℕ  -- how many nodes there are, numbered from 1

abbrev pub running : ActorCell
running = record { up = true; fuse = 0; keep = false }

abbrev pub down : ActorCell
down = record { up = false; fuse = 0; keep = false }

-- ---- a node

-- a record takes four device calls
abbrev pub stops_in : ActorCell → Option Record → Bool
stops_in c None = false
stops_in c (Some added) = nat_lt 0 c.fuse && nat_le c.fuse 4

-- the record that is being written stands
abbrev pub stands_in : ActorCell → Bool
stands_in c = nat_le 3 c.fuse && c.keep

abbrev pub burnt : ActorCell → Option Record → ActorCell
burnt c None = c
burnt c (Some added) = record c { fuse = c.fuse - 4 }

abbrev pub stopped_at : ℕ → (ℕ → ℕ → Option Replica) → ℕ → ℕ → Option Replica
stopped_at n replica m e = if m == n then stopped (replica m e) else replica m e

-- a node stops
abbrev pub node_halted : StreamSystem → ℕ → StreamSystem
node_halted w n = record w { replica = stopped_at n w.replica; cell = changed n down w.cell }

abbrev pub unsent : {S : Type 0} → Outcome S → Outcome S
unsent o = record o { packets = [] }

abbrev pub after_node_rule : StreamSystem → ℕ → ℕ → Outcome (Option Replica) → StreamSystem
after_node_rule w n e o =
    record w {
      replica = changed_at n e o.after w.replica;
      post = w.post ++ o.packets;
      notes = w.notes ++ o.notes;
    }

-- a node goes through a rule, or stops while it writes the rule's record
abbrev pub node_performs : StreamSystem → ℕ → ℕ → Outcome (Option Replica) → StreamSystem
node_performs w n e o =
    if stops_in (w.cell n) o.written
    then (if stands_in (w.cell n) then node_halted (after_node_rule w n e (unsent o)) n else node_halted w n)
    else after_node_rule (record w { cell = changed n (burnt (w.cell n) o.written) w.cell }) n e o

abbrev pub node_takes : StreamSystem → ℕ → Packet → StreamSystem
node_takes w n p =
    if (w.cell n).up then node_performs w n (extent_of p.body) (node_rule n (w.replica n (extent_of p.body)) p p.body) else w

-- ---- the manager

-- the manager stops
abbrev pub manager_halted : StreamSystem → StreamSystem
manager_halted w = record w { catalog = catalog_stopped w.catalog; manager_cell = down }

abbrev pub after_manager_rule : StreamSystem → Outcome Catalog → StreamSystem
after_manager_rule w o = record w { catalog = o.after; post = w.post ++ o.packets; notes = w.notes ++ o.notes }

-- the manager goes through a rule, or stops while it writes the rule's record
abbrev pub manager_performs : StreamSystem → Outcome Catalog → StreamSystem
manager_performs w o =
    if stops_in w.manager_cell o.written
    then (if stands_in w.manager_cell then manager_halted (after_manager_rule w (unsent o)) else manager_halted w)
    else after_manager_rule (record w { manager_cell = burnt w.manager_cell o.written }) o

abbrev pub manager_takes : StreamSystem → Packet → StreamSystem
manager_takes w p = if w.manager_cell.up then manager_performs w (manager_rule w.catalog p p.body) else w

abbrev pub manager_decides : StreamSystem → ℕ → StreamSystem
manager_decides w e = if w.manager_cell.up then manager_performs w (decide_rule w.catalog e (w.catalog.extent e)) else w

-- ---- events

abbrev pub sent_more : StreamSystem → List Packet → StreamSystem
sent_more w packets = record w { post = w.post ++ packets }

abbrev pub delivered : StreamSystem → Packet → ActorId → StreamSystem
delivered w p (Node n) = node_takes w n p
delivered w p Manager = manager_takes w p
delivered w p Map = w
delivered w p (Server s) = w
delivered w p (User u) = w

abbrev pub delivered_if : StreamSystem → Option Packet → StreamSystem
delivered_if w None = w
delivered_if w (Some p) = delivered w p p.to

abbrev pub is_append : AppendBody → Bool
is_append (appends.Append e generation blocks q) = true
is_append _ = false

abbrev pub is_seal : SealBody → Bool
is_seal (seals.SealExtent e q) = true
is_seal _ = false

abbrev pub is_read : ReadBody → Bool
is_read (reads.ReadAt e offset length q) = true
is_read (reads.ReadGroups e upto sealed q) = true
is_read _ = false

abbrev pub is_stream_call : StreamBody → Bool
is_stream_call (streams.CreateStream s fence q) = true
is_stream_call (streams.Extend s generation last pick q) = true
is_stream_call _ = false

abbrev pub is_route : MapBody → Bool
is_route (maps.Route key q) = true
is_route _ = false

abbrev pub is_table_call : TableBody → Bool
is_table_call (tables.Transact range changes q) = true
is_table_call (tables.Get range key q) = true
is_table_call _ = false

-- what users may ask
abbrev pub is_request : Body → Bool
is_request (bodies.Append body) = is_append body
is_request (bodies.Check body) = false
is_request (bodies.Seal body) = is_seal body
is_request (bodies.Read body) = is_read body
is_request (bodies.Stream body) = is_stream_call body
is_request (bodies.Map body) = is_route body
is_request (bodies.Table body) = is_table_call body

-- ---- stops and restarts

-- it runs, and stops in one of its next device calls
abbrev pub armed : ℕ → Bool → ActorCell
armed call keep = record { up = true; fuse = call; keep = keep }

abbrev pub node_stops : StreamSystem → ℕ → ℕ → Bool → StreamSystem
node_stops w n call keep = if call == 0 then node_halted w n else record w { cell = changed n (armed call keep) w.cell }

abbrev pub manager_stops : StreamSystem → ℕ → Bool → StreamSystem
manager_stops w call keep = if call == 0 then manager_halted w else record w { manager_cell = armed call keep }

-- a stop that is told again replaces one that has not come
abbrev pub stop : StreamSystem → ActorId → ℕ → Bool → StreamSystem
stop w (Node n) call keep = if (w.cell n).up then node_stops w n call keep else w
stop w Manager call keep = if w.manager_cell.up then manager_stops w call keep else w
stop w actor call keep = w

-- there is such a node
abbrev pub is_present : StreamSystem → ℕ → Bool
is_present w n = nat_lt 0 n && nat_le n w.nodes

-- what a stop dropped is empty, and the rest is as the records make it
abbrev pub restart : StreamSystem → ActorId → StreamSystem
restart w (Node n) = if (w.cell n).up || not (is_present w n) then w else record w { cell = changed n running w.cell }
restart w Manager = if w.manager_cell.up then w else record w { manager_cell = running }
restart w actor = w

-- An event that does not fit changes nothing; what servers and the map do is no matter of the stream layer.
abbrev pub happens : StreamSystem → Event → StreamSystem
happens w (Submit user to body) = if is_request body then sent_more w (packet (User user) to body ∷ []) else w
happens w (Deliver number) = delivered_if w (slice_get w.post number)
happens w (Stop actor call keep) = stop w actor call keep
happens w (Restart actor) = restart w actor
happens w (Decide e) = manager_decides w e
happens w (GiveUp server range pick) = w
happens w (Assign range server until) = w
happens w (Renew range server until) = w
happens w (Moment now) = w
happens w (Checkpoint server range combine) = w
happens w (Split server range key) = w
happens w (Merge server left right) = w

abbrev pub run : List Event → StreamSystem → StreamSystem
run [] w = w
run (event ∷ events) w = run events (happens w event)

abbrev pub cell_at : ℕ → ℕ → ActorCell
cell_at nodes n = if nat_lt 0 n && nat_le n nodes then running else down

-- so many nodes, and extents that take appends below this target
abbrev pub start : ℕ → ℕ → StreamSystem
start nodes target =
    record {
      post = [];
      notes = [];
      replica = λ n e. None;
      catalog = first_catalog nodes target;
      cell = cell_at nodes;
      manager_cell = running;
      nodes = nodes;
    }

-- ---- servers

abbrev pub is_check : CheckBody → Bool
is_check (checks.Check e generation q) = true
is_check _ = false

-- a server builds streams of a kind from streams of that kind
abbrev pub are_of_one_kind : List Modify → Bool
are_of_one_kind list = list_all (λ m. list_all (λ s. kind_number s.stream.kind == kind_number m.stream.kind) m.sources) list

abbrev pub is_server_stream_call : StreamBody → Bool
is_server_stream_call (streams.CreateStream s fence q) = true
is_server_stream_call (streams.OpenStreams range generation q) = true
is_server_stream_call (streams.Confirm range generation q) = true
is_server_stream_call (streams.Extend s generation last pick q) = true
is_server_stream_call (streams.Trim range generation before to_blob q) = true
is_server_stream_call (streams.MultiModify list q) = are_of_one_kind list
is_server_stream_call _ = false

-- what servers may ask of nodes and of the manager
abbrev pub is_server_call : Body → Bool
is_server_call (bodies.Append body) = is_append body
is_server_call (bodies.Check body) = is_check body
is_server_call (bodies.Seal body) = is_seal body
is_server_call (bodies.Read body) = is_read body
is_server_call (bodies.Stream body) = is_server_stream_call body
is_server_call _ = false

abbrev pub is_refusal : AppendBody → Bool
is_refusal (appends.Refused q refusal) = true
is_refusal _ = false

-- what servers and the map tell users and each other: no node takes it, and neither does the manager
abbrev pub is_told : Body → Bool
is_told (bodies.Append body) = is_refusal body
is_told (bodies.Map body) = true
is_told (bodies.Table body) = true
is_told _ = false

-- what servers and the map show
abbrev pub is_table_note : Note → Bool
is_table_note (Began range generation number changes) = true
is_table_note (Done range generation number) = true
is_table_note (Loaded range generation rows next) = true
is_table_note (Got range generation key value) = true
is_table_note (Split range low high key) = true
is_table_note (Merged left right range) = true
is_table_note _ = false

-- an event; a server that asks what it likes, under any generation; somebody who tells what no node takes; or an observation
-- of servers and the map
pub data Move : Type 0 where
  Happens : (event : Event) → Move
  Asks : (server : ℕ) (to : ActorId) (body : Body) → Move
  Says : (from to : ActorId) (body : Body) → Move
  Observes : (note : Note) → Move

abbrev pub moved : StreamSystem → Move → StreamSystem
moved w (Happens event) = happens w event
moved w (Asks server to body) = if is_server_call body then sent_more w (packet (Server server) to body ∷ []) else w
moved w (Says from to body) = if is_told body then sent_more w (packet from to body ∷ []) else w
moved w (Observes note) = if is_table_note note then record w { notes = w.notes ++ note ∷ [] } else w

-- whatever the servers do
abbrev pub run_moves : List Move → StreamSystem → StreamSystem
run_moves [] w = w
run_moves (move ∷ moves) w = run_moves moves (moved w move)
