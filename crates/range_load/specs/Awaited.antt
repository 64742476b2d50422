-- The answers that a load waits for.
use Rattle.std.specs.Prelude.{Bool, false, Option, Some, None}
use Rattle.wire.specs.declared.actor.ReqNo.{ReqNo}
use Rattle.wire.specs.declared.body.Body.{Body}
use Rattle.client.specs.declared.load.LoadPhase.{LoadPhase}
use Rattle.client.specs.Load.{load_awaits}
use Rattle.model_partition.specs.Answering.{answered_number}

abbrev pub awaits_number : LoadPhase → Option ReqNo → Bool
awaits_number phase None = false
awaits_number phase (Some w) = load_awaits phase w

-- whether the load waits for the number that an answer repeats
abbrev pub is_awaited : LoadPhase → Body → Bool
is_awaited phase body = awaits_number phase (answered_number body)
