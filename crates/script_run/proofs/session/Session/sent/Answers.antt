use Rattle.std.proofs.Common.{◌∙◌, ap, subst}
use Rattle.world.specs.Cluster.{IsRun}
use Rattle.script_run.specs.Playing.{SessionState}
use Rattle.script_run.proofs.session.Session.sent.Goals as goal

pub returns-clause-sent : goal.returns-clause-sent
returns-clause-sent c = c.sent.ensures.sent ∙ ap (λ (s : SessionState). s.run.stream_layer.post) c.self.view_is

pub returns-clause-led : goal.returns-clause-led
returns-clause-led c = subst (λ (s : SessionState). IsRun s.run) c.self.view_is c.sent.ensures.led
