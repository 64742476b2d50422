use Rattle.std.proofs.Common.{ap}
use Rattle.stamp_run.specs.Traces.{RunJournal, TraceState}
use Rattle.stamp_run.proofs.KeepLemmas.{same_passes}
use Rattle.stamp_run.proofs.trace.TraceOf.admit.Goals as goal

pub returns-in_default-clause-same : goal.returns-in_default-clause-same
returns-in_default-clause-same g c =
    let state : RunJournal → TraceState = λ j. record { journal = j; next = c.self.inside.next; room = c.self.inside.room } in
    rw (← c.self.view_is) (ap state (same_passes c.self.inside.journal c.admit.new.self _ c.in_ok-pass.ensures.ok))

pub returns-clause-same : goal.returns-clause-same
returns-clause-same g c =
    let state : RunJournal → TraceState = λ j. record { journal = j; next = c.self.inside.next; room = c.self.inside.room } in
    rw (← c.self.view_is) (ap state (same_passes c.self.inside.journal c.admit.new.self _ c.in_ok-pass.ensures.ok))
