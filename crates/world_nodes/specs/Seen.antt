-- A real node beside the model's.
use Rattle.std.specs.Prelude.{◌≡◌, ◌≢◌, ℕ, Bool, false, not, List, [], ◌++◌, Option, Some, None, if◌then◌else◌}
use Rattle.std.specs.FinMap.{entries, from_entries}
use Rattle.std.specs.Ordering.{nat_cmp}
use Rattle.block_types.specs.declared.record.Record.{Record}
use Rattle.disk.specs.declared.memory.MemDisk.{MemDisk}
use Rattle.disk.specs.Memory.{memory_state}
use Rattle.replica.specs.Replay.{replay}
use Rattle.model_streams.specs.Node.{Replica}
use Rattle.model_streams.specs.StreamSystem.{StreamSystem}
use Rattle.enode.specs.Node.{NodeState, find, fresh_of}
use Rattle.world_stops.specs.Plan.{plan_of}
use Rattle.world_steps.specs.ActorStep.{ActorStep}

-- what is seen of a node: its replicas in order of their extents, the records of its file, whether it has stopped, and
-- what its disk was told
pub record NodeSeen : Type 0 where
  pub number : ℕ
  pub replicas : List (ℕ × Replica)
  pub records : List Record
  pub stopped : Bool
  pub stop : Option (ℕ × Bool)

-- the entries in order of their keys, each key once
abbrev pub sorted : List (ℕ × Replica) → List (ℕ × Replica)
sorted es = entries (from_entries {R = nat_cmp} es)

abbrev pub seen_of : NodeState MemDisk → NodeSeen
seen_of x =
    record {
      number = x.number;
      replicas = sorted x.replicas;
      records = x.file.records;
      stopped = x.file.stopped;
      stop = (memory_state x.file.disk).stop;
    }

-- where it has not stopped
abbrev pub if_running : Option NodeSeen → Option NodeSeen
if_running None = None
if_running (Some x) = if x.stopped then None else Some x

-- the replica of an extent: of a node that has stopped, what its records make
abbrev pub shown : NodeSeen → ℕ → Option Replica
shown x e = if x.stopped then fresh_of (replay e x.records) else find x.replicas e

-- the model's node n mirrors what is seen of the real one
pub record NodeMirrors (n : ℕ) (x : NodeSeen) (w : StreamSystem) : Type 0 where
  pub number : x.number ≡ n
  pub replica : (e : ℕ) → shown x e ≡ w.replica n e
  pub up : (w.cell n).up ≡ not x.stopped
  pub plan : x.stopped ≡ false → x.stop ≡ plan_of (w.cell n)

-- from w to v node n alone steps: y is seen of it then, and it sends and shows this
pub record NodeSteps (n : ℕ) (y : NodeSeen) (w v : StreamSystem) (s : ActorStep) : Type 0 where
  pub post : v.post ≡ w.post ++ s.packets
  pub notes : v.notes ≡ w.notes ++ s.notes
  pub node : NodeMirrors n y v
  pub others : (m : ℕ) → m ≢ n → ((e : ℕ) → v.replica m e ≡ w.replica m e) × (v.cell m ≡ w.cell m)
  pub nodes : v.nodes ≡ w.nodes
  pub catalog : v.catalog ≡ w.catalog
  pub manager : v.manager_cell ≡ w.manager_cell

-- whatever system has the node that was before, under whatever number, this step of it leaves the one after, and sends and
-- shows this
abbrev pub NodeSimulates : NodeSeen → NodeSeen → (StreamSystem → ℕ → StreamSystem) → ActorStep → Type 0
NodeSimulates x y step s = (n : ℕ) (w : StreamSystem) → NodeMirrors n x w → NodeSteps n y w (step w n) s

-- a node that runs, with nothing on its disk
abbrev pub new_node : ℕ → NodeSeen
new_node n = record { number = n; replicas = []; records = []; stopped = false; stop = None }
