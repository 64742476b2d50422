use Rattle.enode_replica.proofs.waiting.Waiting.end_at.Goals as goal

pub returns-clause-rising : goal.returns-clause-rising
returns-clause-rising c = rw (← c.self.view_is, ← c.self.invariant.kept) c.self.invariant.rising
