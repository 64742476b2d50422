use Rattle.std.proofs.Common.{ap, sym, ◌∙◌}
use Rattle.enode.specs.Faults.{rule_fault}
use Rattle.world_nodes.proofs.NodeSimulation.{gave_down, takes_ok, takes_failed, stays_same}
use Rattle.world_nodes.specs.Seen.{seen_of}
use Rattle.world_nodes.proofs.node_actor.give.Goals as goal

pub returns-in-Ok-clause-ok : goal.returns-in-Ok-clause-ok
returns-in-Ok-clause-ok c = λ n w m. takes_ok n c.args.packet.now c.args.node.now c.handle_into.new.self w c.handle_into.new.step (sym c.is_stopped.ensures ∙ c.if-is_stopped.false) m c.in-Ok.ensures.number (c.in-Ok.ensures.performed (sym c.is_stopped.ensures ∙ c.if-is_stopped.false))

pub returns-in-Err-Failed-clause-ok : goal.returns-in-Err-Failed-clause-ok
returns-in-Err-Failed-clause-ok c = rw c.empty.ensures (λ n w m. takes_failed n c.args.packet.now c.args.node.now c.handle_into.new.self w (rule_fault c.in-Err-Failed.field-0) (ap rule_fault c.in-Err-Failed.field-0-is) (sym c.is_stopped.ensures ∙ c.if-is_stopped.false) m c.in-Err-Failed.ensures.number
    (c.in-Err-Failed.ensures.replays (sym c.is_stopped.ensures ∙ c.if-is_stopped.false)) (c.in-Err-Failed.ensures.performed (sym c.is_stopped.ensures ∙ c.if-is_stopped.false)))

pub returns-in-Err-Memory-clause-err : goal.returns-in-Err-Memory-clause-err
returns-in-Err-Memory-clause-err c = stays_same c.args.packet.now c.args.node.now c.handle_into.new.self (rule_fault c.in-Err-Memory.field-0) (ap rule_fault c.in-Err-Memory.field-0-is) c.in-Err-Memory.ensures.number (c.in-Err-Memory.ensures.performed (sym c.is_stopped.ensures ∙ c.if-is_stopped.false))

pub returns-then-is_stopped-clause-ok : goal.returns-then-is_stopped-clause-ok
returns-then-is_stopped-clause-ok c = rw c.requires (λ n w m. gave_down n c.args.packet.now (seen_of c.args.node.now) w (sym c.is_stopped.ensures ∙ c.if-is_stopped.true) m)
