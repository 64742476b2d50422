use Rattle.std.proofs.Common.{sym, ◌∙◌, subst}
use Rattle.disk.specs.File.{IsFileOf}
use Rattle.disk.specs.Memory.{memory_state}
use Rattle.world_nodes.proofs.Stopping.{restarts}
use Rattle.enode.specs.Node.{IsRestart}
use Rattle.world_nodes.proofs.node_actor.restart.Goals as goal

pub returns-in-Ok-restart-clause-ok : goal.returns-in-Ok-restart-clause-ok
returns-in-Ok-restart-clause-ok c = λ n w there m.
    let h = c.in-Ok-restart.ensures in
    restarts n c.args.node.now c.in-Ok-restart.started w
    (sym c.is_stopped.ensures ∙ c.if-not-is_stopped.false) there m
    (h.number ∙ c.number.ensures) h.running (h.only c.args.node.now.file.version c.args.node.now.file.records
    (subst (λ f. IsFileOf f.version f.records (memory_state c.in-Ok.disk).seen) c.file.ensures.value c.in-Ok.ensures.stands)).1 (h.steady c.in-Ok.ensures.steady).1
    (subst (λ k. IsRestart k c.in-Ok-restart.started.replicas c.in-Ok-restart.started.file.records) c.number.ensures h.replays)
