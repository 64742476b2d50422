use Rattle.stamp_run.proofs.KeepLemmas.{stands_answer}
use Rattle.stamp_run.proofs.trace.TraceOf.stands.Goals as goal

pub returns-clause-answers : goal.returns-clause-answers
returns-clause-answers g c =
    rw (← c.self.view_is, ← c.pass.view_is)
    (stands_answer c.self.inside.journal.entries c.pass.inside.pass _ _ c.stands.result c.stands.ensures.stands c.pass.invariant.1)
