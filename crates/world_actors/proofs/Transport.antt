-- What is said of one actor says nothing of the rest of a cluster.
use Rattle.std.proofs.Common.{◌≡◌, ℕ, ◌++◌, List, [], sym, ap, ◌∙◌, subst, append-nil}
use Rattle.wire.specs.declared.note.Note.{Note}
use Rattle.model_streams.specs.Manager.{Catalog}
use Rattle.model_streams.specs.StreamSystem.{StreamSystem, ActorCell}
use Rattle.model_partition.specs.Servers.{noted}
use Rattle.model_partition.specs.declared.table_note.TableNote.{TableNote}
use Rattle.world_stops.specs.Plan.{plan_of}
use Rattle.world_nodes.specs.Seen.{NodeSeen, NodeMirrors}
use Rattle.world_manager.specs.Seen.{ManagerSeen, ManagerMirrors, CatalogMirrors, RecordsMakeCatalog}

-- a node's replicas and its cell are as they were
pub node_as : (n : ℕ) (x : NodeSeen) (w v : StreamSystem) → NodeMirrors n x w → ((e : ℕ) → v.replica n e ≡ w.replica n e) → v.cell n ≡ w.cell n → NodeMirrors n x v
node_as n x w v m replicas cell = record {
  number = m.number;
  replica = λ e. m.replica e ∙ sym (replicas e);
  up = ap (λ (c : ActorCell). c.up) cell ∙ m.up;
  plan = λ up. m.plan up ∙ ap plan_of (sym cell);
}

-- the catalog and the manager's cell are as they were
pub manager_as : (x : ManagerSeen) (w v : StreamSystem) → ManagerMirrors x w → v.catalog ≡ w.catalog → v.manager_cell ≡ w.manager_cell → ManagerMirrors x v
manager_as x w v m catalog cell = record {
  running = λ up. subst (λ (b : Catalog). CatalogMirrors x b) (sym catalog) (m.running up);
  stopped = λ isdown. subst (λ (b : Catalog). RecordsMakeCatalog x.records b) (sym catalog) (m.stopped isdown);
  up = ap (λ (c : ActorCell). c.up) cell ∙ m.up;
  plan = λ up. m.plan up ∙ ap plan_of (sym cell);
}

-- what shows no table shows what it shows of extents
pub plain_notes : (notes more : List Note) (tables : List TableNote) → tables ≡ [] → notes ++ more ≡ noted (notes ++ more) tables
plain_notes notes more tables none = ap (noted (notes ++ more)) (sym none)

-- what shows nothing of extents shows its tables
pub table_notes : (notes more : List Note) (tables : List TableNote) → more ≡ [] → noted notes tables ≡ noted (notes ++ more) tables
table_notes notes more tables none = ap (λ (l : List Note). noted l tables) (sym (ap (λ (l : List Note). notes ++ l) none ∙ append-nil notes))
