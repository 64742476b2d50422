-- The record that a step adds to its node's file.
use Rattle.std.proofs.Common.{◌≡◌, ℕ, Result}
use Rattle.disk.specs.declared.device.DiskFault.{DiskFault}
use Rattle.disk.specs.Disk.{DiskState}
use Rattle.disk.specs.Filed.{Filed}
use Rattle.disk.specs.Appends.{Appends}
use Rattle.block_types.specs.declared.record.Record.{Record}
use Rattle.block_types.specs.declared.record.Record.TheVariants as records
use Rattle.replica.specs.Groups.{Group}

-- a copy of a group is written at the end, however that ends
pub append_written : {D : Type 0} (state : D → DiskState) (old new : Filed D) (e offset end : ℕ) (g added : Group) (w r : Result Unit DiskFault) →
    offset ≡ end → added ≡ g → w ≡ r → Appends state old new (records.Append e offset added) w → Appends {T = Unit} state old new (records.Append e end g) r
append_written state old new e offset end g added w r at same told h = rw (← at, ← same, ← told) h

-- what a write told is told
pub told_again : {D : Type 0} (state : D → DiskState) (old new : Filed D) (added : Record) (w r : Result Unit DiskFault) →
    w ≡ r → Appends state old new added w → Appends {T = Unit} state old new added r
told_again state old new added w r told h = rw (← told) h
