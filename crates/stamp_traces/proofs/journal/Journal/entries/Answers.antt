use Rattle.stamp_traces.proofs.journal.Journal.entries.Goals as goal

pub returns-clause-leads : goal.returns-clause-leads
returns-clause-leads g c = rw (← c.self.view_is) (c.self.invariant.0.states, c.self.invariant.0.leads)
