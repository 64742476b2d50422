use Rattle.std.proofs.Common.{sym, ◌∙◌}
use Rattle.world_manager.proofs.ManagerSimulation.{manager_stop_now}
use Rattle.world_manager.proofs.manager_actor.stop.Goals as goal

pub returns-then-call-eq0 : goal.returns-then-call-eq0
returns-then-call-eq0 c = λ w m.
    manager_stop_now c.args.call c.args.keep c.args.manager.now c.stop_now.new.self w (sym c.is_stopped.ensures ∙ c.if-is_stopped.false) c.if-call-eq0.true m (c.stop_now.ensures.replays (sym c.is_stopped.ensures ∙ c.if-is_stopped.false)) c.stop_now.ensures.file.1 c.stop_now.ensures.stopped
