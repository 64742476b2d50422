use Rattle.std.proofs.Common.{sym, ◌∙◌}
use Rattle.manager_state.specs.Table.{plain}
use Rattle.manager_state.proofs.Tables.{catalog_shows}
use Rattle.manager_rules.specs.Plan.{planned}
use Rattle.manager_rules.proofs.Planning.{plan_follows}
use Rattle.disk.proofs.Made.{running}
use Rattle.disk.proofs.Steps.{records_failed}
use Rattle.manager.proofs.ReplaysRecords.{performed, stays, step_few}
use Rattle.manager.proofs.manager.Manager.handle.Goals as goal

pub invariant_of-self : goal.invariant_of-self
invariant_of-self g c =
    stays g.D.Disk.state (plain c.self.inside.table) (plain c.handle_on.new.table) _ _ _ c.handle_on.result c.handle_on.ensures.done c.handle_on.ensures.again
    (plan_follows (plain c.self.inside.table) _ (catalog_shows (plain c.self.inside.table)) c.args.packet.now c.args.packet.now.body).can (running _ _ _ _ c.self.invariant (sym c.is_stopped.ensures ∙ c.if-is_stopped.false))

pub returns-clause-performed : goal.returns-clause-performed
returns-clause-performed g c = rw (← c.self.view_is) (λ up b shows.
    performed g.D.Disk.state c.self.inside.table c.handle_on.new.table _ _ _ _ c.handle_on.result c.handle_on.ensures.done c.handle_on.ensures.again
    (plan_follows _ b shows c.args.packet.now c.args.packet.now.body) (running _ _ _ _ c.self.invariant (sym c.is_stopped.ensures ∙ c.if-is_stopped.false)))

pub returns-clause-few : goal.returns-clause-few
returns-clause-few g c = step_few (planned (plain c.self.inside.table) c.args.packet.now c.args.packet.now.body) c.handle_on.result (plan_follows (plain c.self.inside.table) _ (catalog_shows (plain c.self.inside.table)) c.args.packet.now c.args.packet.now.body).few c.handle_on.ensures.done.step

pub returns-clause-failed : goal.returns-clause-failed
returns-clause-failed g c = rw (← c.self.view_is) (λ bad. records_failed g.D.Disk.state _ _ _ c.handle_on.result c.handle_on.ensures.done.file bad)
