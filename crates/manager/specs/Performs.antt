-- What a rule leaves of the manager, and what its calls answer.
use Rattle.std.specs.Prelude.{◌≡◌, ℕ, List, [], ◌∷◌, ◌++◌, Option, Some, None, Result, Ok, Err, OnOk, OnErr, IfOk, if◌then◌else◌}
use Rattle.block_types.specs.declared.record.Record.{Record}
use Rattle.disk.specs.declared.device.DiskFault.{DiskFault}
use Rattle.disk.specs.declared.device.DiskFault.TheVariants as disk
use Rattle.disk.specs.Disk.{DiskState}
use Rattle.disk.specs.Appends.{Records}
pub use Rattle.disk.specs.Appends.{listed}
use Rattle.wire.specs.declared.note.Note.{Note}
use Rattle.wire.specs.declared.note.Note.TheVariants.{SealedAt}
use Rattle.wire.specs.declared.packet.Step.{Step}
use Rattle.wire.specs.declared.refusal.Refusal.{Refusal}
use Rattle.wire.specs.declared.refusal.Refusal.TheVariants as refusals
use Rattle.model_streams.specs.declared.extent.Extent.{Extent}
use Rattle.model_streams.specs.declared.manager_record.ManagerRecord.TheVariants as manager_records
use Rattle.model_streams.specs.Outcome.{Outcome}
use Rattle.model_streams.specs.Manager.{Catalog, is_there, least_told, writes}
use Rattle.manager.specs.declared.fault.ManagerFault.{ManagerFault}
use Rattle.manager.specs.declared.fault.ManagerFault.TheVariants as faults
use Rattle.manager.specs.Manager.{ManagerState, table_of, ShowsCatalog, MakesCatalog}

pub record ManagerPerforms {D : Type 0} (state : D → DiskState) (old new : ManagerState D) (o : Outcome Catalog) (result : Result Step DiskFault) : Type 0 where
  pub after : OnOk result (ShowsCatalog new o.after)
  pub packets : IfOk result (λ step. step.packets ≡ o.packets)
  pub notes : IfOk result (λ step. step.notes ≡ o.notes)
  -- everything but the file is as it was
  pub same : OnErr result (table_of new ≡ table_of old)
  pub file : Records state old.file new.file (listed o.written) result
  -- what a restart makes of the records where the new one stands
  pub stands : MakesCatalog (old.file.records ++ listed o.written) o.after

-- ---- decide

-- the answer of a call that was not refused, as a rule's
abbrev pub rule_fault : ManagerFault → DiskFault
rule_fault faults.DiskFailed = disk.Failed
rule_fault fault = disk.Memory

abbrev pub as_rule : Result Step ManagerFault → Result Step DiskFault
as_rule (Ok step) = Ok step
as_rule (Err fault) = Err (rule_fault fault)

-- the fault of a refusal that a seal meets
abbrev pub fault_of : Refusal → ManagerFault
fault_of refusals.NoSuchExtent = faults.NoSuchExtent
fault_of refusal = faults.NoReply

-- the length at which a decision would seal it
abbrev pub sealing_at : Option Extent → Option ℕ
sealing_at None = None
sealing_at (Some x) = if is_there x.sealed then None else least_told x

-- what a decision that seals at this length shows, and writes
abbrev pub sealing_notes : ℕ → Option ℕ → List Note
sealing_notes e None = []
sealing_notes e (Some length) = SealedAt e length ∷ []

abbrev pub sealing_record : ℕ → Option ℕ → Option Record
sealing_record e None = None
sealing_record e (Some length) = writes (manager_records.Seal e length)
