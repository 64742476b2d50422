use Rattle.std.proofs.Common.{sym, ◌∙◌}
use Rattle.world_nodes.proofs.Stopping.{stop_now}
use Rattle.world_nodes.proofs.node_actor.stop.Goals as goal

pub returns-then-call-eq0 : goal.returns-then-call-eq0
returns-then-call-eq0 c = λ n w m.
    let up = sym c.is_stopped.ensures ∙ c.if-is_stopped.false in
    stop_now n c.args.call c.args.keep c.args.node.now c.stop_now.new.self w up c.if-call-eq0.true m (c.stop_now.ensures.replays up) c.stop_now.ensures.same.0 c.stop_now.ensures.same.2 c.stop_now.ensures.stopped
