-- What the calls of a disk do to its file, and what a crash may do between two syncs.
use Rattle.std.specs.Prelude.{◌<◌, ◌≡◌, ◌⊎◌, ℕ, ◌+◌, ◌-◌, ◌≤◌, max, Bool, true, Option, Some, None, List, ◌++◌, length, take, drop, Result, IsErrOf, IsOk, OnOk, if◌then◌else◌}
use Rattle.std.specs.declared.alloc.AllocError.{AllocError}
use Rattle.disk.specs.declared.device.DiskFault.{DiskFault}
use Rattle.disk.specs.declared.device.DiskFault.TheVariants.{Failed, Memory}

pub record DiskState : Type 1 where
  -- what a read gives
  pub seen : List ℕ
  -- what a crash at this moment may leave
  pub may_leave : List ℕ → Type 0
  -- a number that doesn't fall
  pub moment : ℕ
  -- what a crash at some moment from that one on might have left
  pub left_since : ℕ → List ℕ → Type 0
  -- how often the disk has failed
  pub failures : ℕ
  -- so many writes and syncs, the writes ending there or before, take no memory
  pub room : ℕ
  pub reserved : ℕ
  -- a disk that was told to stop: how many calls there are up to the one that fails, and whether its bytes are kept
  pub stop : Option (ℕ × Bool)
  -- what the last sync made sure of
  pub synced : List ℕ
  -- whether it fails only where it was told
  pub sure : Bool

-- new is old with these bytes at this offset
abbrev pub Holds : List ℕ → ℕ → List ℕ → List ℕ → Type 0
Holds old at bytes new = new ≡ take at old ++ bytes ++ drop (at + length bytes) old

-- After a write of n bytes that a crash cuts short: any bytes in the range and past the old end, the same elsewhere.
pub record Torn (at n : ℕ) (old new : List ℕ) : Type 0 where
  pub before : take at new ≡ take at old
  pub after : drop (at + n) new ≡ drop (at + n) old
  pub no_shorter : length old ≤ length new
  pub no_longer : length new ≤ max (length old) (at + n)

-- each new outcome of a crash is an old outcome after a step
abbrev pub Follows : (List ℕ → List ℕ → Type 0) → (List ℕ → Type 0) → (List ℕ → Type 0) → Type 0
Follows step old new = (c : List ℕ) → new c → (d : List ℕ) × old d × step d c

-- a crash leaves this and nothing else
abbrev pub Only : List ℕ → (List ℕ → Type 0) → Type 0
Only file outcomes = (c : List ℕ) → outcomes c → c ≡ file

-- Time goes on: a crash since t might have left what it might have left before, or what it may leave now.
pub record Elapses (old new : DiskState) : Type 0 where
  pub later : old.moment ≤ new.moment
  pub nothing_else : (t : ℕ) (c : List ℕ) → t ≤ old.moment → new.left_since t c → old.left_since t c ⊎ new.may_leave c
  pub keeps : (t : ℕ) (c : List ℕ) → t ≤ old.moment → old.left_since t c → new.left_since t c

-- `Failed` is answered only where the disk has failed in the call
pub record HasCause {T : Type 0} (old new : DiskState) (result : Result T DiskFault) : Type 0 where
  pub later : old.failures ≤ new.failures
  pub failed : IsErrOf result Failed → old.failures < new.failures

-- one call less has room
pub record Spends (old new : DiskState) : Type 0 where
  pub room : old.room ≤ new.room + 1
  pub reserved : old.reserved ≤ new.reserved

-- a disk that won't fail
abbrev pub IsSteady : DiskState → Type 0
IsSteady d = (d.sure ≡ true) × (d.stop ≡ None)

-- A disk that was told to stop fails in the call that it was told, and in none before. Then it has the bytes that
-- the call was to leave, or those of the last sync. Where nothing was told this says nothing.
pub record Stops {T : Type 0} (old new : DiskState) (written : List ℕ) (result : Result T DiskFault) : Type 0 where
  pub goes_on : (n : ℕ) (keep : Bool) → old.stop ≡ Some (n, keep) → 1 < n → (IsErrOf result Failed → ⊥) × OnOk result (new.stop ≡ Some (n - 1, keep))
  pub fails : (n : ℕ) (keep : Bool) → old.stop ≡ Some (n, keep) → n ≤ 1 → (IsOk result → ⊥) × (IsErrOf result Failed → (new.stop ≡ None) × (new.seen ≡ (if keep then written else old.synced)))
  pub steady : IsSteady old → (IsErrOf result Failed → ⊥) × IsSteady new
  pub sure : new.sure ≡ old.sure

-- nothing has changed but room
pub record IsUntouched (old new : DiskState) : Type 0 where
  pub seen : new.seen ≡ old.seen
  pub may_leave : (c : List ℕ) → new.may_leave c → old.may_leave c
  pub moment : new.moment ≡ old.moment
  pub failures : new.failures ≡ old.failures
  pub time : Elapses old new
  pub stop : new.stop ≡ old.stop
  pub synced : new.synced ≡ old.synced
  pub sure : new.sure ≡ old.sure

pub record Reserves (old new : DiskState) (end : ℕ) (result : Result Unit AllocError) : Type 0 where
  pub same : IsUntouched old new
  pub ok : OnOk result ((end ≤ new.reserved) × (6 ≤ new.room))

pub record Writes (old new : DiskState) (at : ℕ) (bytes : List ℕ) (result : Result Unit DiskFault) : Type 0 where
  pub written : OnOk result (Holds old.seen at bytes new.seen)
  pub crash : Follows (Torn at (length bytes)) old.may_leave new.may_leave
  pub time : Elapses old new
  pub cause : HasCause old new result
  pub spent : at + length bytes ≤ old.reserved → OnOk result (Spends old new)
  pub synced : OnOk result (new.synced ≡ old.synced)
  pub stops : Stops old new (take at old.seen ++ bytes ++ drop (at + length bytes) old.seen) result
  pub memory : at + length bytes ≤ old.reserved → 0 < old.room → IsErrOf result Memory → ⊥

pub record Syncs (old new : DiskState) (result : Result Unit DiskFault) : Type 0 where
  pub durable : OnOk result (Only old.seen new.may_leave)
  pub seen : OnOk result (new.seen ≡ old.seen)
  pub crash : (c : List ℕ) → new.may_leave c → old.may_leave c
  pub time : Elapses old new
  pub cause : HasCause old new result
  pub spent : OnOk result (Spends old new)
  pub synced : OnOk result (new.synced ≡ old.seen)
  pub stops : Stops old new old.seen result
  pub memory : 0 < old.room → IsErrOf result Memory → ⊥

abbrev pub CountsNow : DiskState → Type 0
CountsNow d = (t : ℕ) (c : List ℕ) → t ≤ d.moment → d.may_leave c → d.left_since t c

-- A crash may leave what a read gives: nothing that was written is lost for sure.
abbrev pub SeenIsThere : DiskState → Type 0
SeenIsThere d = d.may_leave d.seen

-- What the last sync made sure of is there after a crash, where the disk was told to stop.
abbrev pub SyncedIsThere : DiskState → Type 0
SyncedIsThere d = (n : ℕ) (keep : Bool) → d.stop ≡ Some (n, keep) → d.may_leave d.synced

abbrev pub OnlyNow : DiskState → Type 0
OnlyNow d = (c : List ℕ) → d.left_since d.moment c → d.may_leave c

-- A crash at any moment since old leaves a file that has P.
pub record LeavesOnly (old new : DiskState) (P : List ℕ → Type 0) : Type 0 where
  pub later : old.moment ≤ new.moment
  pub each : (c : List ℕ) → new.left_since old.moment c → P c
  -- for a run that began earlier
  pub before : (t : ℕ) (c : List ℕ) → t ≤ old.moment → new.left_since t c → old.left_since t c ⊎ P c
