-- What is left of a table and its file once a plan is done.
use Rattle.std.specs.Prelude.{◌≡◌, Result, OnOk, OnErr, IfOk}
use Rattle.disk.specs.declared.device.DiskFault.{DiskFault}
use Rattle.disk.specs.Disk.{DiskState}
use Rattle.disk.specs.Filed.{Filed}
use Rattle.disk.specs.Appends.{Records}
use Rattle.wire.specs.declared.packet.Step.{Step}
use Rattle.manager_state.specs.Table.{ManagerTableState}
use Rattle.manager_rules.specs.declared.plan.Plan.{Plan}
use Rattle.manager_rules.specs.Plan.{changed_by, written_by}
use Rattle.manager.specs.Performs.{listed}

pub record PlanPerformed {D : Type 0} (state : D → DiskState) (was is : ManagerTableState) (old new : Filed D) (plan : Plan) (result : Result Step DiskFault) : Type 0 where
  pub after : OnOk result (is ≡ changed_by was plan.change)
  pub step : IfOk result (λ step. step ≡ plan.step)
  pub same : OnErr result (is ≡ was)
  pub file : Records state old new (listed (written_by plan.change)) result
