use Rattle.std.proofs.Common.{sym, ap, ◌∙◌, subst}
use Rattle.disk.specs.File.{IsFileOf}
use Rattle.disk.specs.Memory.{memory_state}
use Rattle.manager.specs.Manager.{table_of}
use Rattle.world_manager.proofs.ManagerSimulation.{manager_restarts}
use Rattle.world_manager.proofs.manager_actor.restart.Goals as goal

pub returns-in-Ok-restart-clause-ok : goal.returns-in-Ok-restart-clause-ok
returns-in-Ok-restart-clause-ok c = λ w m.
    let h = c.in-Ok-restart.ensures in
    manager_restarts c.args.manager.now c.in-Ok-restart.started w
    (sym c.is_stopped.ensures ∙ c.if-not-is_stopped.false) m h.running
    (h.only c.args.manager.now.file.version c.args.manager.now.file.records
    (subst (λ f. IsFileOf f.version f.records (memory_state c.in-Ok.disk).seen) c.file.ensures.value c.in-Ok.ensures.stands)).1
    (h.steady c.in-Ok.ensures.steady).1 h.replays (ap table_of h.fresh)
