-- Why a task ended early.
use Rattle.std.specs.Prelude.{Option, Some, None}
use Rattle.script_run.specs.declared.error.Failure.{Failure}
use Rattle.script_run.specs.declared.error.Failure.TheVariants.{BadScript, Memory, NoFile, Output}
use Rattle.wire.specs.declared.refusal.Refusal.{Refusal}
use Rattle.wire.specs.declared.refusal.Refusal.TheVariants as refusals

-- the refusal that is told of a failure, if there is one
abbrev pub refusal_of : Failure → Option Refusal
refusal_of (BadScript line) = Some refusals.BadScript
refusal_of (NoFile error) = Some refusals.NoFile
refusal_of Memory = Some refusals.Memory
refusal_of (Output error) = None

-- memory ran out, or the writer failed: all that can end a run that has begun
abbrev pub IsRunFailure : Failure → Type 0
IsRunFailure Memory = Unit {0}
IsRunFailure (Output error) = Unit {0}
IsRunFailure (BadScript line) = ⊥
IsRunFailure (NoFile error) = ⊥

-- memory ran out, or the text is no script: all that can be wrong with a text
abbrev pub IsTextFailure : Failure → Type 0
IsTextFailure Memory = Unit {0}
IsTextFailure (BadScript line) = Unit {0}
IsTextFailure (NoFile error) = ⊥
IsTextFailure (Output error) = ⊥

-- memory ran out, or the reader failed: all that can end the reading of a text
abbrev pub IsInputFailure : Failure → Type 0
IsInputFailure Memory = Unit {0}
IsInputFailure (NoFile error) = Unit {0}
IsInputFailure (BadScript line) = ⊥
IsInputFailure (Output error) = ⊥
