use Rattle.std.proofs.Common.{refl, sym, ◌∙◌}
use Rattle.world_steps.specs.ActorStep.{nothing}
use Rattle.world_manager.specs.Seen.{seen_of}
use Rattle.world_manager.proofs.ManagerCalls.{handled_ok, handled_broken, handled_short}
use Rattle.world_manager.proofs.ManagerSimulation.{served_down}
use Rattle.world_manager.proofs.manager_actor.give.Goals as goal

pub returns-in-Ok-clause-ok : goal.returns-in-Ok-clause-ok
returns-in-Ok-clause-ok c = rw c.of_streams.ensures (handled_ok c.args.packet.now c.args.manager.now c.handle.new.self c.in-Ok.step (sym c.is_stopped.ensures ∙ c.if-is_stopped.false) (c.in-Ok.ensures.replays (sym c.is_stopped.ensures ∙ c.if-is_stopped.false)) (c.in-Ok.ensures.performed (sym c.is_stopped.ensures ∙ c.if-is_stopped.false)))

pub returns-in-Err-Failed-clause-ok : goal.returns-in-Err-Failed-clause-ok
returns-in-Err-Failed-clause-ok c = rw c.silent-in-Err-Failed.ensures (handled_broken c.args.packet.now c.args.manager.now c.handle.new.self c.in-Err-Failed.field-0 c.in-Err-Failed.field-0-is (sym c.is_stopped.ensures ∙ c.if-is_stopped.false) (c.in-Err-Failed.ensures.replays (sym c.is_stopped.ensures ∙ c.if-is_stopped.false))
    (c.in-Err-Failed.ensures.performed (sym c.is_stopped.ensures ∙ c.if-is_stopped.false)))

pub returns-in-Err-Memory-clause-err : goal.returns-in-Err-Memory-clause-err
returns-in-Err-Memory-clause-err c = handled_short c.args.packet.now c.args.manager.now c.handle.new.self c.in-Err-Memory.field-0 c.in-Err-Memory.field-0-is (c.in-Err-Memory.ensures.performed (sym c.is_stopped.ensures ∙ c.if-is_stopped.false))

pub returns-then-is_stopped-clause-ok : goal.returns-then-is_stopped-clause-ok
returns-then-is_stopped-clause-ok c = rw c.silent.ensures (λ w m. served_down (seen_of c.args.manager.now) w _ nothing (sym c.is_stopped.ensures ∙ c.if-is_stopped.true) m refl refl)
