-- What a file of records stands for.
use Rattle.std.specs.Prelude.{◌≡◌, ◌≢◌, ◌⊎◌, ℕ, zero, suc, List, [], ◌∷◌, ◌++◌, length, drop, Option, Some, None, Bool, false, nat_le, ◌&&◌, if◌then◌else◌, ◌==◌}
use Rattle.std.specs.List.{AllByRecursion}
use Rattle.block_types.specs.declared.record.Version.{Version}
use Rattle.block_types.specs.declared.record.Version.TheVariants.{V1, V2}
use Rattle.block_types.specs.declared.record.Record.{Record}
use Rattle.blocks.specs.Record.{spelling, Fits}
use Rattle.blocks.specs.Reading.{record_at}
use Rattle.disk.specs.Disk.{DiskState, Only}

-- "XRF1", "XRF2"
abbrev pub header : Version → List ℕ
header V1 = 88 ∷ 82 ∷ 70 ∷ 49 ∷ []
header V2 = 88 ∷ 82 ∷ 70 ∷ 50 ∷ []

-- records after open gates
abbrev pub opened : Version → List Record → List ℕ
opened v [] = []
opened v (r ∷ rs) = 1 ∷ (spelling v r ++ opened v rs)

-- the file is these records after open gates, and then a closed one, whatever follows
pub record IsFileOf (v : Version) (rs : List Record) (file : List ℕ) : Type 0 where
  pub fit : AllByRecursion (Fits v) rs
  pub gate : ℕ
  pub rest : List ℕ
  pub closed : gate ≢ 1
  pub bytes : file ≡ (header v ++ opened v rs) ++ gate ∷ rest

-- the records that a reader finds
abbrev pub found : {A : Type 0} → Option A → (A → List Record) → List Record
found (Some x) f = f x
found None f = []

unfoldable pub records_from : Version → ℕ → List ℕ → List Record
records_from v zero bytes = []
records_from v (suc fuel) [] = []
records_from v (suc fuel) (gate ∷ bytes) = if gate == 1 then found (record_at v bytes) (λ x. x.0 ∷ records_from v fuel (drop x.1 bytes)) else []

unfoldable pub records_in : Version → List ℕ → List Record
records_in v file = records_from v (length file) (drop 4 file)

-- the file is all on the disk, and its last gate is at the place end
pub record IsOpen (d : DiskState) (v : Version) (end : ℕ) (rs : List Record) : Type 0 where
  pub file : IsFileOf v rs d.seen
  pub place : end ≡ length (header v ++ opened v rs)
  pub durable : Only d.seen d.may_leave

-- What is known of a record file at any time: its bytes are a file of its records. Where it runs, they are all on the
-- disk too, and the place of the last gate is known.
pub record IsKept (d : DiskState) (v : Version) (end : ℕ) (stopped : Bool) (rs : List Record) : Type 0 where
  pub file : IsFileOf v rs d.seen
  pub running : stopped ≡ false → IsOpen d v end rs

-- with the new records or without: all of them or none
abbrev pub IsBeforeOrAfterAll : Version → List Record → List Record → List ℕ → Type 0
IsBeforeOrAfterAll v rs added file = IsFileOf v rs file ⊎ IsFileOf v (rs ++ added) file

-- with the new record or without
abbrev pub IsBeforeOrAfter : Version → List Record → Record → List ℕ → Type 0
IsBeforeOrAfter v rs r file = IsFileOf v rs file ⊎ IsFileOf v (rs ++ r ∷ []) file

-- as a file of records, it has none
abbrev pub HasNoRecord : List ℕ → Type 0
HasNoRecord file = (v : Version) (rs : List Record) → IsFileOf v rs file → rs ≡ []

-- as a file of records, it has none, or it is a file of these
abbrev pub IsNoneOrAll : Version → List Record → List ℕ → Type 0
IsNoneOrAll v rs file = HasNoRecord file ⊎ IsFileOf v rs file

-- as a file of records, it has none, or this one alone
abbrev pub HoldsAtMost : Version → Record → List ℕ → Type 0
HoldsAtMost v r file = HasNoRecord file ⊎ IsBeforeOrAfter v [] r file

-- the records after a stop in the n-th device call of an append
abbrev pub stopped_records : ℕ → Bool → List Record → Record → List Record
stopped_records n keep rs r = if keep && nat_le 3 n then rs ++ r ∷ [] else rs

-- the same, where more than one record is put behind the last gate at once
abbrev pub stopped_all : ℕ → Bool → List Record → List Record → List Record
stopped_all n keep rs added = if keep && nat_le 3 n then rs ++ added else rs
