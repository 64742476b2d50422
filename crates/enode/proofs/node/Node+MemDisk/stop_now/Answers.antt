use Rattle.std.proofs.Common.{rules, ap, ◌∙◌}
use Rattle.disk.specs.Filed.{Filed}
use Rattle.disk.proofs.Made.{still_made}
use Rattle.enode.proofs.node.Node+MemDisk.stop_now.Goals as goal

pub invariant_of-self : goal.invariant_of-self
invariant_of-self c = still_made _ _ _ _ _ _ c.self.invariant (λ up. ap (λ (f : Filed _). f.stopped) c.halt.ensures) (ap (λ (f : Filed _). f.records) c.halt.ensures ∙ c.cancel_stop.ensures.same.2)

pub returns-clause-replicas : goal.returns-clause-replicas
returns-clause-replicas c = search rules
