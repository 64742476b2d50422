use Rattle.stamp_traces.proofs.guards.commit.Goals as goal

pub returns-in-Ok-clause-found : goal.returns-in-Ok-clause-found
returns-in-Ok-clause-found g c = rw c.requires.of.0 c.in-Ok.ensures.found

pub returns-in-Ok-clause-leaves : goal.returns-in-Ok-clause-leaves
returns-in-Ok-clause-leaves g c = rw (c.requires.of.0, c.requires.of.1) c.in-Ok.ensures.leaves
