use Rattle.stamp_run.proofs.AnswerLemmas.{answers_too}
use Rattle.stamp_run.proofs.run_pass.Pass.keep_answer.Goals as goal

pub invariant_of-self : goal.invariant_of-self
invariant_of-self g c =
    (c.self.invariant.0, rw c.with_answer.ensures (answers_too _ _ _ _ c.self.invariant.1 (rw (← c.self.view_is) at c.requires)))
