-- What a rule leaves of the map, and what its calls answer.
use Rattle.std.specs.Prelude.{◌≡◌, ◌++◌, Bool, true, false, [], ◌∷◌, Option, Some, None, Result, Ok, Err, OnOk, OnErr, IfOk, MatchResult}
use Rattle.disk.specs.declared.device.DiskFault.{DiskFault}
use Rattle.disk.specs.declared.device.DiskFault.TheVariants as disk
use Rattle.disk.specs.Disk.{DiskState}
use Rattle.disk.specs.Appends.{Records}
pub use Rattle.disk.specs.Appends.{listed}
use Rattle.wire.specs.declared.actor.ActorId.{ActorId}
use Rattle.wire.specs.declared.actor.ActorId.TheVariants.{Map}
use Rattle.wire.specs.declared.actor.ReqNo.{ReqNo}
use Rattle.wire.specs.declared.body.AppendBody.TheVariants.{Refused}
use Rattle.wire.specs.declared.body.Body.TheVariants as bodies
use Rattle.wire.specs.declared.packet.Step.{Step}
use Rattle.wire.specs.declared.refusal.Refusal.{Refusal}
use Rattle.wire.specs.declared.refusal.Refusal.TheVariants as refusals
use Rattle.model_streams.specs.Outcome.{Outcome, packet}
use Rattle.model_partition.specs.Map.{MapState}
use Rattle.pmap.specs.declared.fault.MapFault.{MapFault}
use Rattle.pmap.specs.declared.fault.MapFault.TheVariants as faults
use Rattle.pmap.specs.MapWithFile.{MapWithFile, map_of, MakesMap}

pub record MapPerforms {D : Type 0} (state : D → DiskState) (old new : MapWithFile D) (o : Outcome MapState) (result : Result Step DiskFault) : Type 0 where
  pub after : OnOk result (map_of new ≡ o.after)
  pub packets : IfOk result (λ step. step.packets ≡ o.packets)
  pub notes : IfOk result (λ step. step.notes ≡ o.notes)
  -- everything but the file is as it was
  pub same : OnErr result (map_of new ≡ map_of old)
  pub file : Records state old.file new.file (listed o.written) result
  -- what a restart makes of the records where the new one stands
  pub stands : MakesMap (old.file.records ++ listed o.written) o.after

-- the answer of a call that was not refused, as a rule's
abbrev pub rule_fault : MapFault → DiskFault
rule_fault faults.DiskFailed = disk.Failed
rule_fault fault = disk.Memory

abbrev pub as_rule : Result Step MapFault → Result Step DiskFault
as_rule (Ok step) = Ok step
as_rule (Err fault) = Err (rule_fault fault)

-- the fault of a refusal that a call meets
abbrev pub fault_of : Refusal → MapFault
fault_of refusals.LeaseHeld = faults.LeaseHeld
fault_of refusals.BadSplitKey = faults.BadSplitKey
fault_of refusals.NotAdjacent = faults.NotAdjacent
fault_of refusals.GenerationChanged = faults.GenerationChanged
fault_of refusal = faults.NotOwner

-- a fault that is none of these
abbrev pub is_failure : MapFault → Bool
is_failure faults.DiskFailed = true
is_failure faults.Memory = true
is_failure fault = false

abbrev pub refusal_of : MapFault → Option Refusal
refusal_of faults.NotOwner = Some refusals.NotOwner
refusal_of faults.LeaseHeld = Some refusals.LeaseHeld
refusal_of faults.BadSplitKey = Some refusals.BadSplitKey
refusal_of faults.NotAdjacent = Some refusals.NotAdjacent
refusal_of faults.GenerationChanged = Some refusals.GenerationChanged
refusal_of faults.DiskFailed = None
refusal_of faults.Memory = None

-- a refusal goes to who called, where memory is left for that; the disk's failure and want of memory stay as they are
abbrev pub AnswersFault : ActorId → ReqNo → MapFault → Option Refusal → Result Step DiskFault → Type 0
AnswersFault to q fault None told = told ≡ Err (rule_fault fault)
AnswersFault to q fault (Some refusal) told =
    MatchResult told (λ step. step ≡ record { packets = packet Map to (bodies.Append (Refused q refusal)) ∷ []; notes = [] }) (λ e. e ≡ disk.Memory)

-- what comes of a call by a packet
abbrev pub AnswersCall : ActorId → ReqNo → Result Step MapFault → Result Step DiskFault → Type 0
AnswersCall to q (Ok step) told = told ≡ Ok step
AnswersCall to q (Err fault) told = AnswersFault to q fault (refusal_of fault) told
