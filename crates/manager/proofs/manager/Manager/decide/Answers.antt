use Rattle.std.proofs.Common.{ℕ, Result, IfOk, ap, sym, ◌∙◌, subst}
use Rattle.disk.specs.declared.device.DiskFault.{DiskFault}
use Rattle.wire.specs.declared.packet.Step.{Step}
use Rattle.model_streams.specs.Bounds.{AreFew}
use Rattle.model_streams.specs.Maps.{entry_at}
use Rattle.model_streams.specs.Manager.{decide_rule}
use Rattle.manager_state.specs.Table.{plain}
use Rattle.manager_state.proofs.Tables.{catalog_shows}
use Rattle.manager_rules.specs.Plan.{decide}
use Rattle.manager_rules.proofs.Planning.{decision_follows}
use Rattle.manager.specs.Manager.{ManagerState, state_of}
use Rattle.manager.specs.Performs.{ManagerPerforms, as_rule}
use Rattle.disk.proofs.Made.{running}
use Rattle.disk.proofs.Steps.{records_failed}
use Rattle.manager.proofs.ReplaysRecords.{performed, stays, step_few}
use Rattle.manager.proofs.Decisions.{rule_step}
use Rattle.manager.proofs.manager.Manager.decide.Goals as goal

pub invariant_of-self : goal.invariant_of-self
invariant_of-self g c =
    let up = ap (λ (s : ManagerState _). s.file.stopped) c.self.view_is ∙ c.requires.running in
    stays g.D.Disk.state (plain c.self.inside.table) (plain c.decide_on-done.new.table) _ _ _ c.decide_on-done.result c.decide_on-done.ensures.done c.decide_on-done.ensures.again
    (decision_follows (plain c.self.inside.table) _ (catalog_shows (plain c.self.inside.table)) c.extent.inside.0).can (running _ _ _ _ c.self.invariant up)

pub returns-in-None-clause-performed : goal.returns-in-None-clause-performed
returns-in-None-clause-performed g c =
    let up = ap (λ (s : ManagerState _). s.file.stopped) c.self.view_is ∙ c.requires.running in
    rw (← c.self.view_is) (λ none b shows.
    let was = state_of c.self.inside.table c.self.inside.file in
    let is = state_of c.decide_on-done.new.table c.decide_on-done.new.file in
    subst (λ (e : ℕ). ManagerPerforms g.D.Disk.state was is (decide_rule b e (b.extent e)) (as_rule c.answer.result)) c.extent.view_is
    (subst (λ (w : Result Step DiskFault). ManagerPerforms g.D.Disk.state was is (decide_rule b c.extent.inside.0 (b.extent c.extent.inside.0)) w) (sym c.answer.ensures.rule)
    (performed g.D.Disk.state c.self.inside.table c.decide_on-done.new.table _ _ _ _ c.decide_on-done.result c.decide_on-done.ensures.done c.decide_on-done.ensures.again
    (decision_follows _ b shows c.extent.inside.0) (running _ _ _ _ c.self.invariant up))))

pub returns-in-None-clause-few : goal.returns-in-None-clause-few
returns-in-None-clause-few g c =
    let plan = decide c.self.inside.table.target c.extent.inside.0 (entry_at c.self.inside.table.extents c.extent.inside.0) in
    rule_step (λ (s : Step). AreFew s.packets s.notes) c.answer.result
    (subst (λ (w : Result Step DiskFault). IfOk w (λ s. AreFew s.packets s.notes)) (sym c.answer.ensures.rule)
    (step_few plan c.decide_on-done.result (decision_follows (plain c.self.inside.table) _ (catalog_shows (plain c.self.inside.table)) c.extent.inside.0).few c.decide_on-done.ensures.done.step))

pub returns-in-None-clause-failed : goal.returns-in-None-clause-failed
returns-in-None-clause-failed g c = rw (← c.self.view_is) (λ bad. records_failed g.D.Disk.state _ _ _ c.decide_on-done.result c.decide_on-done.ensures.done.file (sym c.answer.ensures.rule ∙ ap as_rule bad))
