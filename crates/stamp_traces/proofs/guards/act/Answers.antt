use Rattle.stamp_traces.proofs.guards.act.Goals as goal

pub returns-in-Ok-commit-clause-found : goal.returns-in-Ok-commit-clause-found
returns-in-Ok-commit-clause-found g c =
    rw (← c.in-Ok.ensures.ok.0, ← c.in-Ok.ensures.step.4) (rw c.in_ok-mark.ensures.ok at c.in-Ok-commit.ensures.found)
