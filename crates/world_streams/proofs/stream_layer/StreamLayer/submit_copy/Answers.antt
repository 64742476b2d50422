use Rattle.std.proofs.Common.{sym, ◌∙◌, ap, [], ◌∷◌}
use Rattle.wire.specs.declared.actor.ActorId.TheVariants.{User}
use Rattle.model_streams.specs.Outcome.{packet}
use Rattle.model_streams.specs.StreamSystem.{is_request}
use Rattle.world_streams.proofs.EventSimulation.{sent_in, submitted, unsubmitted, is_asked, is_unasked}
use Rattle.world_streams.proofs.stream_layer.StreamLayer.submit_copy.Goals as goal

pub returns-in-None-clause-ok : goal.returns-in-None-clause-ok
returns-in-None-clause-ok c = unsubmitted c.args.self.now c.args.user c.args.to c.args.body.now (is_unasked (is_request c.args.body.now) c.args.body.now (sym c.in-None.is ∙ c.in_ok-request.ensures))

pub returns-in_ok-send-in-Some-clause-ok : goal.returns-in_ok-send-in-Some-clause-ok
returns-in_ok-send-in-Some-clause-ok c =
    let asked = is_asked (is_request c.args.body.now) c.args.body.now c.in-Some.body (sym c.in-Some.is ∙ c.in_ok-request.ensures) in
    submitted c.args.self.now c.send.new.self c.args.user c.args.to c.args.body.now asked.0
    (c.in_ok-send-in-Some.ensures.ok ∙ ap (λ b. sent_in c.args.self.now (packet (User c.args.user) c.args.to b ∷ [])) asked.1)
