-- A step that its owner keeps, and that a rule fills.
use Rattle.std.specs.Prelude.{[], Result, Ok, Err}
use Rattle.wire.specs.declared.packet.Step.{Step}

-- nothing is sent yet, and nothing observed
abbrev pub empty_step : Step
empty_step = record { packets = []; notes = [] }

-- the answer of a rule that fills a step, as that of one that answers a step
abbrev pub told : {E : Type 0} → Result Unit E → Step → Result Step E
told (Ok _) step = Ok step
told (Err fault) step = Err fault
