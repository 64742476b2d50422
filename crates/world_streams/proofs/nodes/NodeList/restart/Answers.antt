use Rattle.std.proofs.Common.{◌-◌, ℕ, List, sym, subst, arith, OnOk}
use Rattle.wire.specs.declared.actor.ActorId.TheVariants.{Node}
use Rattle.model_streams.specs.StreamSystem.{StreamSystem, restart}
use Rattle.world_steps.specs.ActorStep.{nothing}
use Rattle.world_nodes.specs.Seen.{NodeSeen}
use Rattle.world_streams.specs.Nodes.{NodesMirror, NodesStep}
use Rattle.world_streams.proofs.NodeList.{is_absent, before_number, restart_nobody}
use Rattle.world_streams.proofs.nodes.NodeList.restart.Goals as goal

pub returns-then-at-len-clause-ok : goal.returns-then-at-len-clause-ok
returns-then-at-len-clause-ok c =
    subst (λ (xs : List NodeSeen). (w : StreamSystem) → NodesMirror xs w → NodesStep xs w (restart w (Node c.args.number)) nothing) c.self.view_is
    (restart_nobody c.args.number c.self.inside.items.items
    (is_absent c.self.inside.items.items c.args.number (c.from-at.result - 1) (before_number c.args.number c.from-at.result c.if-number-eq0.false c.from-at.ensures) (omega (arith, c.self.inside.items.ok, c.len.ensures, c.if-at-len.true))))

pub returns-clause-ok : goal.returns-clause-ok
returns-clause-ok c =
    subst (λ (xs : List NodeSeen). OnOk c.restart_at.result ((w : StreamSystem) → NodesMirror xs w → NodesStep c.restart_at.new.nodes.items w (restart w (Node c.args.number)) nothing)) c.self.view_is
    (subst (λ (n : ℕ). OnOk c.restart_at.result ((w : StreamSystem) → NodesMirror c.self.inside.items.items w → NodesStep c.restart_at.new.nodes.items w (restart w (Node n)) nothing))
    (sym (before_number c.args.number c.from-at.result c.if-number-eq0.false c.from-at.ensures)) c.restart_at.ensures.ok)
