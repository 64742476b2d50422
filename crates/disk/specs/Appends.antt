-- What an append of one record leaves of a record file.
use Rattle.std.specs.Prelude.{◌≡◌, ◌⊎◌, ◌<◌, ◌≤◌, ◌-◌, ℕ, Bool, true, false, List, [], ◌∷◌, ◌++◌, Option, Some, None, Result, IsErrOf, IsOk, OnOk}
use Rattle.block_types.specs.declared.record.Record.{Record}
use Rattle.disk.specs.declared.device.DiskFault.{DiskFault}
use Rattle.disk.specs.declared.device.DiskFault.TheVariants.{Failed, Memory}
use Rattle.disk.specs.Disk.{DiskState, IsUntouched, IsSteady, LeavesOnly, Only}
use Rattle.disk.specs.File.{IsFileOf, IsBeforeOrAfter, stopped_records}
use Rattle.disk.specs.Filed.{Filed}

-- nothing is done to the file
pub record IsStill {D : Type 0} (state : D → DiskState) (old new : Filed D) : Type 0 where
  pub disk : IsUntouched (state old.disk) (state new.disk)
  pub stopped : new.stopped ≡ old.stopped
  pub version : new.version ≡ old.version
  pub records : new.records ≡ old.records

-- What a call that appends one record to a running file leaves, whatever else the call does and answers.
pub record Appends {D T : Type 0} (state : D → DiskState) (old new : Filed D) (added : Record) (result : Result T DiskFault) : Type 0 where
  -- the record is the last, and from then on each crash leaves it
  pub ok : OnOk result ((new.stopped ≡ false) × (new.version ≡ old.version) × (new.records ≡ old.records ++ added ∷ []))
  pub durable : OnOk result (Only (state new.disk).seen (state new.disk).may_leave)
  -- a crash at any moment of the call leaves the records from before it, with the new one or without
  pub any_moment : (IsErrOf result Memory → ⊥) → LeavesOnly (state old.disk) (state new.disk) (IsBeforeOrAfter old.version old.records added)
  -- the bytes are a file of the records that the value shows, after a failure too
  pub stands : (IsErrOf result Memory → ⊥) → IsFileOf new.version new.records (state new.disk).seen
  pub memory : IsErrOf result Memory → IsStill state old new
  pub failed : IsErrOf result Failed → (new.stopped ≡ true) × ((state old.disk).failures < (state new.disk).failures)
  pub either : IsErrOf result Failed → (new.records ≡ old.records) ⊎ (new.records ≡ old.records ++ added ∷ [])
  pub version : new.version ≡ old.version
  -- A disk that was told to stop in one of the four calls fails there. The record stands where it is the third or the
  -- fourth, and the bytes are kept.
  pub stop : (n : ℕ) (keep : Bool) → (state old.disk).stop ≡ Some (n, keep) → 1 ≤ n → n ≤ 4
      → (IsOk result → ⊥) × (IsErrOf result Failed → ((state new.disk).stop ≡ None) × (new.records ≡ stopped_records n keep old.records added))
  -- one that was told to stop later comes four calls nearer to it
  pub later : (n : ℕ) (keep : Bool) → (state old.disk).stop ≡ Some (n, keep) → 4 < n
      → (IsErrOf result Failed → ⊥) × OnOk result ((state new.disk).stop ≡ Some (n - 4, keep))
  -- one that cannot fail does not
  pub steady : IsSteady (state old.disk) → (IsErrOf result Failed → ⊥) × IsSteady (state new.disk)
  pub sure : (state new.disk).sure ≡ (state old.disk).sure

-- a record, where there is one
abbrev pub listed : Option Record → List Record
listed None = []
listed (Some r) = r ∷ []

-- no record is appended, or the one that is given
abbrev pub Records : {D T : Type 0} → (D → DiskState) → Filed D → Filed D → List Record → Result T DiskFault → Type 0
Records state old new [] result = (new ≡ old) × (IsErrOf result Failed → ⊥)
Records state old new (added ∷ more) result = Appends state old new added result
