use Rattle.std.proofs.Common.{rules, ◌∙◌}
use Rattle.disk.proofs.Made.{still_made}
use Rattle.enode.proofs.node.Node+MemDisk.stop_at.Goals as goal

pub invariant_of-self : goal.invariant_of-self
invariant_of-self c = still_made _ _ _ _ _ _ c.self.invariant (λ down. c.stop_at.ensures.same.0 ∙ down) c.stop_at.ensures.same.2

pub returns-clause-told : goal.returns-clause-told
returns-clause-told c = search rules

pub returns-clause-disk : goal.returns-clause-disk
returns-clause-disk c = search rules
