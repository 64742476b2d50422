use Rattle.laws_traces.proofs.Growing.{events_after, legal_after, observed_after, sent_after}
use Rattle.laws_traces.proofs.traces.traces_grow.Goals as goal

pub returns-clause-legal : goal.returns-clause-legal
returns-clause-legal c = legal_after

pub returns-clause-sent : goal.returns-clause-sent
returns-clause-sent c = sent_after

pub returns-clause-events : goal.returns-clause-events
returns-clause-events c = events_after

pub returns-clause-shown : goal.returns-clause-shown
returns-clause-shown c = observed_after
