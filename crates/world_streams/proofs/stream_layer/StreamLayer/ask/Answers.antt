use Rattle.std.proofs.Common.{sym, ◌∙◌}
use Rattle.std.proofs.lemmas.Result.{on_ok_weaker}
use Rattle.world_streams.proofs.EventSimulation.{asked}
use Rattle.world_streams.proofs.stream_layer.StreamLayer.ask.Goals as goal

pub returns-clause-ok : goal.returns-clause-ok
returns-clause-ok c =
    on_ok_weaker c.send.result (asked c.args.self.now c.send.new.self c.args.server c.args.to c.args.body (sym c.is_call.ensures ∙ c.if-not-is_call.false)) c.send.ensures.ok
