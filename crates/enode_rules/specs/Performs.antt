-- What a rule leaves of a replica.
use Rattle.std.specs.Prelude.{◌≡◌, [], Option, Some, None, Result, IsErrOf, OnOk, OnErr, IfOk, IfErr}
use Rattle.disk.specs.declared.device.DiskFault.{DiskFault}
use Rattle.disk.specs.declared.device.DiskFault.TheVariants.{Failed, Memory}
use Rattle.disk.specs.Disk.{DiskState}
use Rattle.disk.specs.Filed.{Filed}
use Rattle.disk.specs.Appends.{Records}
pub use Rattle.disk.specs.Appends.{listed}
use Rattle.wire.specs.declared.packet.Step.{Step}
use Rattle.model_streams.specs.Outcome.{Outcome}
use Rattle.model_streams.specs.Node.{Replica}

-- a replica and its node's file after a rule
pub record ReplicaPerforms {D : Type 0} (state : D → DiskState) (was is : Replica) (old new : Filed D) (o : Outcome (Option Replica)) (result : Result Step DiskFault) : Type 0 where
  pub after : OnOk result (Some is ≡ o.after)
  pub packets : IfOk result (λ step. step.packets ≡ o.packets)
  pub notes : IfOk result (λ step. step.notes ≡ o.notes)
  pub same : OnErr result (is ≡ was)
  -- a rule that writes a record observes nothing
  pub shows : IsErrOf result Failed → o.notes ≡ []
  pub file : Records state old new (listed o.written) result

-- a replica after a rule that writes no record
pub record ReplicaPerformsInMemory (was is : Replica) (o : Outcome (Option Replica)) (result : Result Step DiskFault) : Type 0 where
  pub after : OnOk result (Some is ≡ o.after)
  pub packets : IfOk result (λ step. step.packets ≡ o.packets)
  pub notes : IfOk result (λ step. step.notes ≡ o.notes)
  pub same : OnErr result (is ≡ was)
  pub unwritten : o.written ≡ None
  pub fault : IfErr result (λ x. x ≡ Memory)
