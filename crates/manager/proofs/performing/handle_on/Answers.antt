use Rattle.std.proofs.Common.{subst, sym}
use Rattle.manager_state.specs.Table.{plain}
use Rattle.manager_state.proofs.Tables.{catalog_shows}
use Rattle.manager_rules.specs.declared.plan.Plan.{Plan}
use Rattle.manager_rules.specs.Plan.{CanChange, planned}
use Rattle.manager_rules.proofs.Planning.{plan_follows}
use Rattle.manager.proofs.RecordedPlans.{short}
use Rattle.manager.proofs.performing.handle_on.Goals as goal

pub returns-in-Err-clause-done : goal.returns-in-Err-clause-done
returns-in-Err-clause-done g c = short g.D.Disk.state _ _ (planned (plain c.args.table.now) c.args.packet.now c.args.packet.now.body)

pub perform-requires-clause-can : goal.perform-requires-clause-can
perform-requires-clause-can g c =
    subst (λ (p : Plan). CanChange (plain c.args.table.now) p.change) (sym c.in-Ok.ensures.gives)
    (plan_follows (plain c.args.table.now) _ (catalog_shows (plain c.args.table.now)) c.args.packet.now c.args.packet.now.body).can
