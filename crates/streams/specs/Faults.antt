-- The refusals of a table of streams.
use Rattle.std.specs.Prelude.{Option, Some, None, Result, Ok, Err}
use Rattle.wire.specs.declared.refusal.Refusal.{Refusal}
use Rattle.wire.specs.declared.refusal.Refusal.TheVariants as refusals
use Rattle.streams.specs.declared.fault.StreamFault.{StreamFault}
use Rattle.streams.specs.declared.fault.StreamFault.TheVariants.{NoSuchStream, Stale, NameTaken, LastOpen, Memory}

abbrev pub refusal_of : StreamFault → Refusal
refusal_of NoSuchStream = refusals.NoSuchStream
refusal_of Stale = refusals.Stale
refusal_of NameTaken = refusals.NameTaken
refusal_of LastOpen = refusals.LastOpen
refusal_of Memory = refusals.Memory

-- what a call was refused for
abbrev pub refusal_in : {T : Type 0} → Result T StreamFault → Option Refusal
refusal_in (Ok x) = None
refusal_in (Err fault) = Some (refusal_of fault)

-- the same answer, with the refusal in place of the fault
abbrev pub with_refusal : {T : Type 0} → Result T StreamFault → Result T Refusal
with_refusal (Ok x) = Ok x
with_refusal (Err fault) = Err (refusal_of fault)
