-- A disk of which one call fails.
use Rattle.std.specs.Prelude.{◌≡◌, ◌≢◌, ◌+◌, ◌-◌, ◌==◌, ℕ, true, false, None, List, Result, IsOk, IsErrOf, Err, if◌then◌else◌}
use Rattle.disk.specs.declared.device.DiskFault.{DiskFault}
use Rattle.disk.specs.declared.device.DiskFault.TheVariants.{Failed, Memory}
use Rattle.disk.specs.Disk.{DiskState, Writes, Syncs}
use Rattle.disk.specs.declared.fault_disk.FaultDisk.{FaultDisk}

-- 1 once the call that was to fail has failed
abbrev pub failures_made : ℕ → ℕ
failures_made left = if left == 0 then 1 else 0

-- The disk in it, but that the failure that was made is counted too. It is not told to stop, and may fail at any call.
abbrev pub fault_state : {D : Type 0} → (D → DiskState) → FaultDisk D → DiskState
fault_state state f = record (state f.disk) {
  failures = (state f.disk).failures + failures_made f.left;
  stop = None;
  sure = false;
}

-- A write is passed on, but for the one that fails: where its bytes are kept it writes all of them, and else does nothing.
-- One without memory does not count as the one that fails.
pub record FaultsWrite {D : Type 0} (state : D → DiskState) (old new : FaultDisk D) (at : ℕ) (bytes : List ℕ) (result : Result Unit DiskFault) : Type 0 where
  pub passed : old.left ≢ 1 → Writes (state old.disk) (state new.disk) at bytes result × (new.left ≡ old.left - 1)
  pub fails : old.left ≡ 1 → IsOk result → ⊥
  pub counted : old.left ≡ 1 → IsErrOf result Failed → new.left ≡ 0
  pub kept : old.left ≡ 1 → old.keep ≡ true → IsErrOf result Failed → (r : Result Unit DiskFault) × Writes (state old.disk) (state new.disk) at bytes r × (IsErrOf r Memory → ⊥)
  pub short : IsErrOf result Memory → old.left ≡ 1 → new.left ≡ 1
  pub lost : old.left ≡ 1 → old.keep ≡ false → new.disk ≡ old.disk
  pub keep : new.keep ≡ old.keep

-- A sync is passed on, but for the one that fails, which does nothing.
pub record FaultsSync {D : Type 0} (state : D → DiskState) (old new : FaultDisk D) (result : Result Unit DiskFault) : Type 0 where
  pub passed : old.left ≢ 1 → Syncs (state old.disk) (state new.disk) result × (new.left ≡ old.left - 1)
  pub fails : old.left ≡ 1 → (result ≡ Err Failed) × (new.left ≡ 0) × (new.disk ≡ old.disk)
  pub keep : new.keep ≡ old.keep
