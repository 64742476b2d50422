-- What the calls that put records behind the last gate of a file leave of the disk.
use Rattle.std.specs.Prelude.{◌≡◌, ◌<◌, ◌≤◌, ◌+◌, ◌-◌, ℕ, Bool, Some, None, List, [], ◌∷◌, ◌++◌, length, Result, IsErrOf, IsOk, OnOk}
use Rattle.std.specs.List.{AllByRecursion}
use Rattle.block_types.specs.declared.record.Version.{Version}
use Rattle.block_types.specs.declared.record.Record.{Record}
use Rattle.blocks.specs.Record.{Fits}
use Rattle.disk.specs.declared.device.DiskFault.{DiskFault}
use Rattle.disk.specs.declared.device.DiskFault.TheVariants.{Failed, Memory}
use Rattle.disk.specs.Disk.{DiskState, IsSteady, LeavesOnly}
use Rattle.disk.specs.File.{opened, IsOpen, IsBeforeOrAfterAll, records_in, stopped_all}

-- the bytes are these records as they stand behind the first one's gate, and a closed gate after the last
abbrev pub IsBehind : Version → List Record → List ℕ → Type 0
IsBehind v rs bytes = opened v rs ++ 0 ∷ [] ≡ 1 ∷ bytes

-- What four calls leave that put records behind the last gate of a file: the records stand together or not at all.
pub record PutsRecords (old new : DiskState) (v : Version) (end : ℕ) (rs added : List Record) (result : Result Unit DiskFault) : Type 0 where
  pub left : LeavesOnly old new (IsBeforeOrAfterAll v rs added)
  pub ok : OnOk result (IsOpen new v (end + length (opened v added)) (rs ++ added))
  pub memory : IsErrOf result Memory → ⊥
  pub failed : IsErrOf result Failed → old.failures < new.failures
  pub later : old.failures ≤ new.failures
  pub sure : new.sure ≡ old.sure
  -- a disk that was told to stop in one of the four calls fails there, and in none before
  pub stop : (n : ℕ) (keep : Bool) → old.stop ≡ Some (n, keep) → n ≤ 4
      → (IsOk result → ⊥) × (IsErrOf result Failed → (new.stop ≡ None) × (records_in v new.seen ≡ stopped_all n keep rs added))
  pub goes_on : (n : ℕ) (keep : Bool) → old.stop ≡ Some (n, keep) → 4 < n
      → (IsErrOf result Failed → ⊥) × OnOk result (new.stop ≡ Some (n - 4, keep))
  pub steady : IsSteady old → (IsErrOf result Failed → ⊥) × IsSteady new

-- the same, whatever file it was that has its last gate there, and whichever records the bytes are
abbrev pub PutsBytes : DiskState → DiskState → ℕ → List ℕ → Result Unit DiskFault → Type 0
PutsBytes old new end bytes result = (v : Version) (rs added : List Record) → IsOpen old v end rs → AllByRecursion (Fits v) added → IsBehind v added bytes → PutsRecords old new v end rs added result

-- the disk has room for so many calls, whose writes end there or before
abbrev pub HasRoom : DiskState → ℕ → ℕ → Type 0
HasRoom d calls end = (calls ≤ d.room) × (end ≤ d.reserved)
