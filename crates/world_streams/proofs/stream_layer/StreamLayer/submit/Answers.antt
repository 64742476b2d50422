use Rattle.std.proofs.Common.{sym, ◌∙◌}
use Rattle.world_streams.proofs.EventSimulation.{submitted, unsubmitted}
use Rattle.world_streams.proofs.stream_layer.StreamLayer.submit.Goals as goal

pub returns-then-not-is_request-clause-ok : goal.returns-then-not-is_request-clause-ok
returns-then-not-is_request-clause-ok c = unsubmitted c.args.self.now c.args.user c.args.to c.args.body (sym c.is_request.ensures ∙ c.if-not-is_request.true)

pub returns-clause-ok : goal.returns-clause-ok
returns-clause-ok c = submitted c.args.self.now c.send.new.self c.args.user c.args.to c.args.body (sym c.is_request.ensures ∙ c.if-not-is_request.false) c.in_ok-send.ensures.ok
