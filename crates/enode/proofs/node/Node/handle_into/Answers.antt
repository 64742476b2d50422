use Rattle.std.proofs.Common.{◌<◌, Result, IfOk, ap, sym, ◌∙◌, subst}
use Rattle.disk.proofs.Steps.{records_failed}
use Rattle.enode_rules.specs.KeptStep.{told}
use Rattle.enode.specs.Faults.{as_rule}
use Rattle.enode.specs.declared.fault.NodeFault.{NodeFault}
use Rattle.enode.specs.Node.{NodeState}
use Rattle.disk.specs.declared.device.DiskFault.{DiskFault}
use Rattle.wire.specs.declared.packet.Step.{Step}
use Rattle.model_streams.specs.Bounds.{AreFew}
use Rattle.model_streams.proofs.Replay.{rule_replays}
use Rattle.model_streams.proofs.Bounds.{rule_bounded}
use Rattle.enode.proofs.FaultLemmas.{rule_step, told_step}
use Rattle.disk.proofs.Made.{running}
use Rattle.enode.proofs.ReplaysRecords.{stays, took_few}
use Rattle.enode.proofs.node.Node.handle_into.Goals as goal

pub invariant_of-self : goal.invariant_of-self
invariant_of-self g c = stays g.D.Disk.state _ _ _ _ _ _ _ (told c.take.result c.take.new.step) (running _ _ _ _ c.self.invariant (sym c.is_stopped.ensures ∙ c.if-is_stopped.false)) (rule_replays _ _ _ _) (rule_bounded _ _ _ _ ((running _ _ _ _ c.self.invariant (sym c.is_stopped.ensures ∙ c.if-is_stopped.false)).few _)) c.take.ensures

pub returns-clause-few : goal.returns-clause-few
returns-clause-few g c =
    told_step (λ (s : Step). AreFew s.packets s.notes) c.answer.result c.take.new.step
    (rule_step (λ (s : Step). AreFew s.packets s.notes) (told c.answer.result c.take.new.step)
    (subst (λ (w : Result Step DiskFault). IfOk w (λ s. AreFew s.packets s.notes)) (sym (c.answer.ensures.rule c.take.new.step))
    (took_few g.D.Disk.state _ _ _ _ _ _ (told c.take.result c.take.new.step) (rule_bounded _ _ _ _ ((running _ _ _ _ c.self.invariant (sym c.is_stopped.ensures ∙ c.if-is_stopped.false)).few _)) c.take.ensures)))

pub returns-clause-failed : goal.returns-clause-failed
returns-clause-failed g c = λ bad.
    subst (λ (n : NodeState _). (g.D.Disk.state n.file.disk).failures < (g.D.Disk.state c.take.new.file.disk).failures) c.self.view_is
    (records_failed g.D.Disk.state _ _ _ (told c.take.result c.take.new.step) c.take.ensures.file
    (sym (c.answer.ensures.rule c.take.new.step) ∙ ap (λ (r : Result Unit NodeFault). as_rule (told r c.take.new.step)) bad))
