-- What is told where a server does nothing with a range.
use Rattle.std.specs.Prelude.{◌≡◌, ◌⊎◌, Option, Some, None, Result, Ok, Err}
use Rattle.wire.specs.declared.refusal.Refusal.{Refusal}
use Rattle.wire.specs.declared.refusal.Refusal.TheVariants as refusals
use Rattle.range.specs.declared.fault.RangeFault.{RangeFault}
use Rattle.range.specs.declared.fault.RangeFault.TheVariants as faults

-- the refusal that is told; none is for want of memory
abbrev pub refusal_of : RangeFault → Option Refusal
refusal_of faults.Memory = None
refusal_of faults.NotOwner = Some refusals.NotOwner
refusal_of faults.Loading = Some refusals.Loading
refusal_of faults.Paused = Some refusals.Paused
refusal_of faults.Busy = Some refusals.Busy
refusal_of faults.BadSplitKey = Some refusals.BadSplitKey
refusal_of faults.NotAdjacent = Some refusals.NotAdjacent
refusal_of faults.TooLarge = Some refusals.TooLarge

-- what refuses a checkpoint, a split or a merge of ranges that the server holds: 38, 34, 35, 39, 40 or 37
abbrev pub IsBeginningRefusal : Refusal → Type 0
IsBeginningRefusal refusal =
    (refusal ≡ refusals.Loading) ⊎ ((refusal ≡ refusals.Paused) ⊎ ((refusal ≡ refusals.Busy) ⊎ ((refusal ≡ refusals.BadSplitKey) ⊎ ((refusal ≡ refusals.NotAdjacent) ⊎ (refusal ≡ refusals.TooLarge)))))

-- the refusal that a call ends with
abbrev pub refusal_in : {A : Type 0} → Result A RangeFault → Option Refusal
refusal_in (Ok x) = None
refusal_in (Err fault) = refusal_of fault
