use Rattle.std.proofs.Common.{◌∙◌, ap, map, ℕ}
use Rattle.model_streams.specs.declared.event.Event.{Event}
use Rattle.stamp_run.specs.Logs.{Logged}
use Rattle.stamp_run.proofs.LogLemmas.{log_events, log_passes}
use Rattle.stamp_run.proofs.trace.TraceOf.copy_log.Goals as goal

pub returns-clause-events : goal.returns-clause-events
returns-clause-events g c =
    rw (← c.self.view_is)
    (c.in_ok-events.ensures ∙ (ap (map {B = Event} (λ (l : Logged). l.event)) c.as_slice.ensures.value ∙ (ap (map {B = Event} (λ (l : Logged). l.event)) c.self.invariant.0.log ∙ log_events c.self.inside.journal.entries)))

pub returns-clause-passes : goal.returns-clause-passes
returns-clause-passes g c =
    rw (← c.self.view_is)
    (c.in_ok-passes.ensures ∙ (ap (map {B = ℕ} (λ (l : Logged). l.pass)) c.as_slice-2.ensures.value ∙ (ap (map {B = ℕ} (λ (l : Logged). l.pass)) c.self.invariant.0.log ∙ log_passes c.self.inside.journal.entries)))
