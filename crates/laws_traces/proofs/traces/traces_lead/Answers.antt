use Rattle.laws_traces.proofs.Observations.{trace_agrees, trace_honest, trace_keeps}
use Rattle.laws_traces.proofs.Reaching.{reaches}
use Rattle.laws_traces.proofs.traces.traces_lead.Goals as goal

pub returns-clause-leads : goal.returns-clause-leads
returns-clause-leads c = reaches

pub returns-clause-agree : goal.returns-clause-agree
returns-clause-agree c = trace_agrees

pub returns-clause-kept : goal.returns-clause-kept
returns-clause-kept c = trace_keeps

pub returns-clause-honest : goal.returns-clause-honest
returns-clause-honest c = trace_honest
