-- What a rule leaves of a node.
use Rattle.std.specs.Prelude.{◌≡◌, ◌≢◌, ℕ, List, [], Option, None, Result, IsErrOf, OnOk, OnErr, IfOk, IfErr}
use Rattle.disk.specs.declared.device.DiskFault.{DiskFault}
use Rattle.disk.specs.declared.device.DiskFault.TheVariants.{Failed, Memory}
use Rattle.disk.specs.Disk.{DiskState}
use Rattle.disk.specs.Filed.{Filed}
use Rattle.disk.specs.Appends.{Records}
pub use Rattle.disk.specs.Appends.{listed}
use Rattle.wire.specs.declared.packet.Step.{Step}
use Rattle.model_streams.specs.Outcome.{Outcome}
use Rattle.model_streams.specs.Node.{Replica}
use Rattle.enode.specs.Node.{find}

-- a node's replicas and its file after a rule about extent e
pub record NodePerforms {D : Type 0} (state : D → DiskState) (was is : List (ℕ × Replica)) (old new : Filed D) (e : ℕ) (o : Outcome (Option Replica)) (result : Result Step DiskFault) : Type 0 where
  pub here : OnOk result (find is e ≡ o.after)
  pub elsewhere : OnOk result ((f : ℕ) → f ≢ e → find is f ≡ find was f)
  pub packets : IfOk result (λ step. step.packets ≡ o.packets)
  pub notes : IfOk result (λ step. step.notes ≡ o.notes)
  pub same : OnErr result ((f : ℕ) → find is f ≡ find was f)
  pub shows : IsErrOf result Failed → o.notes ≡ []
  pub file : Records state old new (listed o.written) result

-- what a rule about an extent without a replica answers: none is there afterwards either, and no record is written
pub record AnswersWithoutReplica (o : Outcome (Option Replica)) (result : Result Step DiskFault) : Type 0 where
  pub after : o.after ≡ None
  pub unwritten : o.written ≡ None
  pub packets : IfOk result (λ step. step.packets ≡ o.packets)
  pub notes : IfOk result (λ step. step.notes ≡ o.notes)
  pub fault : IfErr result (λ x. x ≡ Memory)
