-- The real map beside the model's.
use Rattle.std.specs.Prelude.{◌≡◌, ℕ, Bool, false, not, nat_lt, List, Option, None, if◌then◌else◌}
use Rattle.disk.specs.declared.memory.MemDisk.{MemDisk}
use Rattle.disk.specs.Memory.{memory_state}
use Rattle.wire.specs.declared.note.Note.{Note}
use Rattle.wire.specs.declared.packet.Packet.{Packet}
use Rattle.wire.specs.declared.refusal.Refusal.{Refusal}
use Rattle.model_streams.specs.StreamSystem.{ActorCell}
use Rattle.model_partition.specs.Map.{MapState, first_map, range_at}
use Rattle.model_partition.specs.MapRules.{assign_fault, renew_fault}
use Rattle.model_partition.specs.Replay.{map_replay}
use Rattle.model_partition.specs.Cluster.{Cluster, told_by_map}
use Rattle.world_stops.specs.Plan.{plan_of}
use Rattle.pmap.specs.MapWithFile.{MapWithFile, map_of}

-- what is seen of the map: of one that has stopped, what its records make; whether it has; its disk's plan to stop; and the last
-- moment of the clock
pub record MapSeen : Type 0 where
  pub map : MapState
  pub stopped : Bool
  pub stop : Option (ℕ × Bool)
  pub moment : ℕ

abbrev pub seen_of : ℕ → MapWithFile MemDisk → MapSeen
seen_of moment x =
    record {
      map = if x.file.stopped then map_replay x.file.records else map_of x;
      stopped = x.file.stopped;
      stop = (memory_state x.file.disk).stop;
      moment = moment;
    }

-- the model's map, whether it runs, and the moment are as is seen here
pub record IsMap (x : MapSeen) (m : MapState) (cell : ActorCell) (now : ℕ) : Type 0 where
  pub map : m ≡ x.map
  pub up : cell.up ≡ not x.stopped
  pub plan : x.stopped ≡ false → x.stop ≡ plan_of cell
  pub moment : now ≡ x.moment

-- the model's map mirrors what is seen of the real one
abbrev pub MapMirrors : MapSeen → Cluster → Type 0
MapMirrors x c = IsMap x c.map c.map_cell c.now

-- from c to d the map alone steps: y is seen of it then, and it sends and shows these
pub record MapSteps (y : MapSeen) (c d : Cluster) (packets : List Packet) (notes : List Note) : Type 0 where
  pub stream_layer : d.stream_layer ≡ told_by_map c.stream_layer packets notes
  pub servers : d.servers ≡ c.servers
  pub now : d.now ≡ c.now
  pub batch : d.batch ≡ c.batch
  pub map : MapMirrors y d

-- whatever cluster has the map that was before, this step of it leaves the one after, and sends and shows these
abbrev pub MapSimulates : MapSeen → MapSeen → (Cluster → Cluster) → List Packet → List Note → Type 0
MapSimulates x y step packets notes = (c : Cluster) → MapMirrors x c → MapSteps y c (step c) packets notes

-- a map that runs, of a range that nobody holds, at moment 0
abbrev pub new_map : MapSeen
new_map = record { map = first_map; stopped = false; stop = None; moment = 0 }

-- the clock shows this; a moment that goes back changes nothing
abbrev pub moment_shown : ℕ → MapSeen → MapSeen
moment_shown now x = if nat_lt now x.moment then x else record x { moment = now }

-- why a call is refused; one that has stopped refuses nothing
abbrev pub assign_refusal : MapSeen → ℕ → ℕ → ℕ → Option Refusal
assign_refusal x now range server = if x.stopped then None else assign_fault server now (range_at x.map.ranges range)

abbrev pub renew_refusal : MapSeen → ℕ → ℕ → Option Refusal
renew_refusal x range server = if x.stopped then None else renew_fault server (range_at x.map.ranges range)
