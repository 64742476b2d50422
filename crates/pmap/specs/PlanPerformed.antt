-- What is left of a table and its file once a plan is done.
use Rattle.std.specs.Prelude.{◌≡◌, Result, OnOk, OnErr, IfOk}
use Rattle.disk.specs.declared.device.DiskFault.{DiskFault}
use Rattle.disk.specs.Disk.{DiskState}
use Rattle.disk.specs.Filed.{Filed}
use Rattle.disk.specs.Appends.{Records, listed}
use Rattle.wire.specs.declared.packet.Step.{Step}
use Rattle.model_streams.specs.Outcome.{Outcome}
use Rattle.model_partition.specs.Map.{MapState}

pub record PlanPerformed {D : Type 0} (state : D → DiskState) (was is : MapState) (old new : Filed D) (o : Outcome MapState) (result : Result Step DiskFault) : Type 0 where
  pub after : OnOk result (is ≡ o.after)
  pub packets : IfOk result (λ step. step.packets ≡ o.packets)
  pub notes : IfOk result (λ step. step.notes ≡ o.notes)
  pub same : OnErr result (is ≡ was)
  pub file : Records state old new (listed o.written) result
