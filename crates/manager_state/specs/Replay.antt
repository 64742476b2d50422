-- The table that records make: what one record more leaves, and what they have made.
use Rattle.std.specs.Prelude.{◌≡◌, Bool, List, true, false, Option, Some, None, Result, IsErrOf, IfOk, OnOk}
use Rattle.block_types.specs.declared.record.Record.{Record}
use Rattle.block_types.specs.declared.fault.BlockFault.{BlockFault}
use Rattle.block_types.specs.declared.fault.BlockFault.TheVariants.{Damaged}
use Rattle.model_streams.specs.declared.manager_record.ManagerRecord.{ManagerRecord}
use Rattle.model_streams.specs.declared.manager_record.ManagerRecord.TheVariants.{First}
use Rattle.model_streams.specs.Manager.{Catalog}
use Rattle.model_streams.specs.Replay.{catalog_replay, catalog_fits, manager_record_of}
use Rattle.manager_state.specs.Table.{ManagerTableState, ManagerTableValue, plain, SameCatalog, first_table, table_after, table_fits, forgotten_table}

-- whether a record fits the table, or none before the first record
abbrev pub fits_on : Option ManagerTableState → Option ManagerRecord → Bool
fits_on None (Some (First nodes target)) = true
fits_on None r = false
fits_on (Some t) None = false
fits_on (Some t) (Some r) = table_fits t r

abbrev pub table_on : Option ManagerTableState → Option ManagerRecord → Option ManagerTableState
table_on None (Some (First nodes target)) = Some (first_table nodes target)
table_on None r = None
table_on (Some t) None = Some t
table_on (Some t) (Some r) = Some (table_after t r)

-- what a record leaves: it fits, and the table is what it makes of the one before; or it is refused, as it does not fit
pub record RecoversWith (was : Option ManagerTableState) (new_record : Option ManagerRecord) (result : Result ManagerTableValue BlockFault) : Type 0 where
  pub fits : OnOk result (fits_on was new_record ≡ true)
  pub table : IfOk result (λ t. table_on was new_record ≡ Some (plain t))
  pub damaged : IsErrOf result Damaged → fits_on was new_record ≡ false

abbrev pub plain_of : Option ManagerTableValue → Option ManagerTableState
plain_of None = None
plain_of (Some t) = Some (plain t)

abbrev pub Recovers : Option ManagerTableValue → Record → Result ManagerTableValue BlockFault → Type 0
Recovers was r result = RecoversWith (plain_of was) (manager_record_of r) result

abbrev pub RecoversManagerRecord : Option ManagerTableValue → ManagerRecord → Result ManagerTableValue BlockFault → Type 0
RecoversManagerRecord was new_record result = RecoversWith (plain_of was) (Some new_record) result

-- the records fit, and make this table but for what a stop drops
pub record TableIsReplay (t : ManagerTableState) (rs : List Record) : Type 0 where
  pub catalog : Catalog
  pub replays : catalog_replay rs ≡ Some catalog
  pub shows : SameCatalog (forgotten_table t) catalog
  pub fits : catalog_fits rs ≡ true

-- a table that was made from records has nothing that a stop drops
pub record IsMade (t : ManagerTableState) (rs : List Record) : Type 0 where
  pub replays : TableIsReplay t rs
  pub fresh : t ≡ forgotten_table t
