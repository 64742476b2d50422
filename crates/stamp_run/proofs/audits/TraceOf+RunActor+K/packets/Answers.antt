use Rattle.laws_traces.proofs.Observations.{trace_agrees, trace_honest, trace_keeps}
use Rattle.stamp_run.proofs.TraceLemmas.{legal_trace}
use Rattle.stamp_run.proofs.audits.TraceOf+RunActor+K.packets.Goals as goal

pub returns-clause-agree : goal.returns-clause-agree
returns-clause-agree g c =
    let xs = c.self.inside.journal.entries in
    let legal = legal_trace g.K.Identity.numbers xs c.entries-entries.ensures.leads c.self.invariant.0.legal in
    rw (← c.self.view_is) (λ numbers. trace_agrees g.K.Identity.numbers numbers xs legal)

pub returns-clause-kept : goal.returns-clause-kept
returns-clause-kept g c =
    let xs = c.self.inside.journal.entries in
    let legal = legal_trace g.K.Identity.numbers xs c.entries-entries.ensures.leads c.self.invariant.0.legal in
    rw (← c.self.view_is) (λ numbers. trace_keeps g.K.Identity.numbers numbers xs legal)

pub returns-clause-honest : goal.returns-clause-honest
returns-clause-honest g c =
    let xs = c.self.inside.journal.entries in
    let legal = legal_trace g.K.Identity.numbers xs c.entries-entries.ensures.leads c.self.invariant.0.legal in
    rw (← c.self.view_is) (λ numbers. trace_honest g.K.Identity.numbers numbers xs legal)
