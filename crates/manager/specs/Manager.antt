-- The manager's state, and what its records make of it.
use Rattle.std.specs.Prelude.{◌≡◌, ◌≢◌, ℕ, Bool, true, List, [], map, Some}
use Rattle.block_types.specs.declared.record.Record.{Record}
use Rattle.block_types.specs.declared.record.Record.TheVariants.{Manage}
use Rattle.disk.specs.Filed.{Filed}
use Rattle.disk.specs.Made.{IsMadeOf}
use Rattle.streams.specs.Table.{StreamTableState, streams_of}
use Rattle.model_streams.specs.declared.extent.Extent.{Extent}
use Rattle.model_streams.specs.declared.manager_record.ManagerRecord.TheVariants.{First}
use Rattle.model_streams.specs.RecordBytes.{spelled}
use Rattle.model_streams.specs.Manager.{Catalog, forgotten, catalog_stopped}
use Rattle.model_streams.specs.Replay.{catalog_replay, catalog_fits}
use Rattle.manager_state.specs.Replay.{TableIsReplay}
use Rattle.manager_state.specs.Table.{ManagerTableState, ManagerTableValue, SameCatalog}

pub record ManagerState (D : Type 0) : Type 0 where
  pub nodes : ℕ
  pub target : ℕ
  pub streams : StreamTableState
  pub extents : List Extent
  pub file : Filed D

abbrev pub state_of : {D : Type 0} → ManagerTableValue → Filed D → ManagerState D
state_of t file = record { nodes = t.nodes; target = t.target; streams = t.streams; extents = t.extents; file = file }

-- all but the file
abbrev pub table_of : {D : Type 0} → ManagerState D → ManagerTableState
table_of s = record { nodes = s.nodes; target = s.target; streams = streams_of s.streams; extents = s.extents }

-- the model's catalog says what the manager's state says
abbrev pub ShowsCatalog : {D : Type 0} → ManagerState D → Catalog → Type 0
ShowsCatalog s b = SameCatalog (table_of s) b

-- the first record of a manager's file
abbrev pub first_record : ℕ → ℕ → Record
first_record nodes target = Manage (spelled (First nodes target))

-- without what a stop drops
abbrev pub forgotten_state : {D : Type 0} → ManagerState D → ManagerState D
forgotten_state s = record s { extents = map forgotten s.extents }

abbrev pub ManagerIsReplay : {D : Type 0} → ManagerState D → List Record → Type 0
ManagerIsReplay s rs = TableIsReplay (table_of s) rs

-- records of which a restart makes a manager: there is a first one, and each fits those before it
abbrev pub AreOfManager : List Record → Type 0
AreOfManager rs = (rs ≢ []) × (catalog_fits rs ≡ true)

-- what a manager holds comes of the records of its file, which fit
abbrev pub HoldsTable : ManagerTableState → Bool → List Record → Type 0
HoldsTable t stopped rs = IsMadeOf (TableIsReplay t) AreOfManager stopped rs

-- the records fit, and make a catalog that says what this one says without what a stop drops
pub record MakesCatalog (rs : List Record) (b : Catalog) : Type 0 where
  pub catalog : Catalog
  pub replays : catalog_replay rs ≡ Some catalog
  pub nodes : catalog.nodes ≡ b.nodes
  pub target : catalog.target ≡ b.target
  pub count : catalog.count ≡ b.count
  pub stream : (range kind : ℕ) → catalog.stream range kind ≡ (catalog_stopped b).stream range kind
  pub extent : (e : ℕ) → catalog.extent e ≡ (catalog_stopped b).extent e
  pub fits : catalog_fits rs ≡ true
