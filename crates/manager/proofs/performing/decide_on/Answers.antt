use Rattle.std.proofs.Common.{subst, sym}
use Rattle.manager_state.specs.Table.{plain}
use Rattle.manager_state.proofs.Tables.{catalog_shows}
use Rattle.manager_rules.specs.declared.plan.Plan.{Plan}
use Rattle.manager_rules.specs.Plan.{CanChange}
use Rattle.manager_rules.proofs.Planning.{decision_follows}
use Rattle.manager.proofs.performing.decide_on.Goals as goal

pub perform-requires-clause-can : goal.perform-requires-clause-can
perform-requires-clause-can g c =
    subst (λ (p : Plan). CanChange (plain c.args.table.now) p.change) (sym c.in-Ok.ensures.gives)
    (decision_follows (plain c.args.table.now) _ (catalog_shows (plain c.args.table.now)) c.args.extent).can
