use Rattle.stamp.proofs.audits.audit_of.Goals as goal

pub returns-in-Ok-clause-honest : goal.returns-in-Ok-clause-honest
returns-in-Ok-clause-honest c = rw c.as_slice.ensures.value at c.in-Ok.ensures.honest
