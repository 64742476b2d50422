use Rattle.std.proofs.Common.{◌-◌, ℕ, List, sym, subst, arith}
use Rattle.wire.specs.declared.actor.ActorId.TheVariants.{Node}
use Rattle.model_streams.specs.StreamSystem.{StreamSystem, stop}
use Rattle.world_steps.specs.ActorStep.{nothing}
use Rattle.world_nodes.specs.Seen.{NodeSeen}
use Rattle.world_streams.specs.Nodes.{NodesMirror, NodesStep}
use Rattle.world_streams.proofs.NodeList.{is_absent, before_number, stop_nobody}
use Rattle.world_streams.proofs.nodes.NodeList.stop.Goals as goal

pub returns-then-at-len : goal.returns-then-at-len
returns-then-at-len c =
    subst (λ (xs : List NodeSeen). (w : StreamSystem) → NodesMirror xs w → NodesStep xs w (stop w (Node c.args.number) c.args.call c.args.keep) nothing) c.self.view_is
    (stop_nobody c.args.number c.args.call c.args.keep c.self.inside.items.items
    (is_absent c.self.inside.items.items c.args.number (c.from-at.result - 1) (before_number c.args.number c.from-at.result c.if-number-eq0.false c.from-at.ensures) (omega (arith, c.self.inside.items.ok, c.len.ensures, c.if-at-len.true))))

pub returns : goal.returns
returns c =
    subst (λ (xs : List NodeSeen). (w : StreamSystem) → NodesMirror xs w → NodesStep c.stop_at.new.nodes.items w (stop w (Node c.args.number) c.args.call c.args.keep) nothing) c.self.view_is
    (subst (λ (n : ℕ). (w : StreamSystem) → NodesMirror c.self.inside.items.items w → NodesStep c.stop_at.new.nodes.items w (stop w (Node n) c.args.call c.args.keep) nothing)
    (sym (before_number c.args.number c.from-at.result c.if-number-eq0.false c.from-at.ensures)) c.stop_at.ensures)
