-- The real manager beside the model's.
use Rattle.std.specs.Prelude.{◌≡◌, ℕ, length, Bool, true, false, not, ◌++◌, List, [], ◌∷◌, Option, Some, None, if◌then◌else◌}
use Rattle.block_types.specs.declared.record.Record.{Record}
use Rattle.disk.specs.declared.memory.MemDisk.{MemDisk}
use Rattle.disk.specs.Memory.{memory_state}
use Rattle.streams.specs.Streams.{Streams}
use Rattle.wire.specs.declared.refusal.Refusal.{Refusal}
use Rattle.model_streams.specs.declared.extent.Extent.{Extent}
use Rattle.model_streams.specs.Maps.{entry_at}
use Rattle.model_streams.specs.Manager.{Catalog, decide_refusal}
use Rattle.model_streams.specs.Replay.{catalog_replay}
use Rattle.model_streams.specs.StreamSystem.{StreamSystem}
use Rattle.manager.specs.Manager.{ManagerState, first_record}
use Rattle.world_stops.specs.Plan.{plan_of}
use Rattle.world_steps.specs.ActorStep.{ActorStep}

-- what is seen of the manager: its extents, the records of its file, whether it has stopped, and its disk's plan to stop
pub record ManagerSeen : Type 0 where
  pub nodes : ℕ
  pub target : ℕ
  pub extents : List Extent
  pub records : List Record
  pub stopped : Bool
  pub stop : Option (ℕ × Bool)

abbrev pub seen_of : ManagerState MemDisk → ManagerSeen
seen_of x =
    record {
      nodes = x.nodes;
      target = x.target;
      extents = x.extents;
      records = x.file.records;
      stopped = x.file.stopped;
      stop = (memory_state x.file.disk).stop;
    }

-- these records make just these streams
pub record RecordsMakeStreams (rs : List Record) (streams : Streams) : Type 0 where
  pub catalog : Catalog
  pub replays : catalog_replay rs ≡ Some catalog
  pub stream : (range kind : ℕ) → catalog.stream range kind ≡ streams range kind

-- the catalog says what is seen of a manager that runs, and its streams are those that the manager's records make
pub record CatalogMirrors (x : ManagerSeen) (b : Catalog) : Type 0 where
  pub nodes : b.nodes ≡ x.nodes
  pub target : b.target ≡ x.target
  pub count : b.count ≡ length x.extents
  pub extent : (e : ℕ) → b.extent e ≡ entry_at x.extents e
  pub streams : RecordsMakeStreams x.records b.stream

-- these records make just this catalog
pub record RecordsMakeCatalog (rs : List Record) (b : Catalog) : Type 0 where
  pub catalog : Catalog
  pub replays : catalog_replay rs ≡ Some catalog
  pub nodes : catalog.nodes ≡ b.nodes
  pub target : catalog.target ≡ b.target
  pub count : catalog.count ≡ b.count
  pub stream : (range kind : ℕ) → catalog.stream range kind ≡ b.stream range kind
  pub extent : (e : ℕ) → catalog.extent e ≡ b.extent e

-- the model's manager mirrors what is seen of the real one: of one that has stopped, what its records make
pub record ManagerMirrors (x : ManagerSeen) (w : StreamSystem) : Type 0 where
  pub running : x.stopped ≡ false → CatalogMirrors x w.catalog
  pub stopped : x.stopped ≡ true → RecordsMakeCatalog x.records w.catalog
  pub up : w.manager_cell.up ≡ not x.stopped
  pub plan : x.stopped ≡ false → x.stop ≡ plan_of w.manager_cell

-- from w to v the manager alone steps: y is seen of it then, and it sends and shows this
pub record ManagerSteps (y : ManagerSeen) (w v : StreamSystem) (s : ActorStep) : Type 0 where
  pub post : v.post ≡ w.post ++ s.packets
  pub notes : v.notes ≡ w.notes ++ s.notes
  pub manager : ManagerMirrors y v
  pub replica : v.replica ≡ w.replica
  pub cell : v.cell ≡ w.cell
  pub nodes : v.nodes ≡ w.nodes

-- whatever system has the manager that was before, this step of it leaves the one after, and sends and shows this
abbrev pub ManagerSimulates : ManagerSeen → ManagerSeen → (StreamSystem → StreamSystem) → ActorStep → Type 0
ManagerSimulates x y step s = (w : StreamSystem) → ManagerMirrors x w → ManagerSteps y w (step w) s

-- a manager that runs, with its first record and no extent
abbrev pub new_manager : ℕ → ℕ → ManagerSeen
new_manager nodes target =
    record { nodes = nodes; target = target; extents = []; records = first_record nodes target ∷ []; stopped = false; stop = None }

-- why a decision is refused; one that has stopped refuses nothing
abbrev pub decision_refusal : ManagerSeen → ℕ → Option Refusal
decision_refusal x e = if x.stopped then None else decide_refusal (entry_at x.extents e)
