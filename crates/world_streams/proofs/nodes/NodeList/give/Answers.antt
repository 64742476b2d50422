use Rattle.std.proofs.Common.{◌≡◌, ◌-◌, List, sym, refl, subst, arith, OnOk, None}
use Rattle.model_streams.specs.StreamSystem.{StreamSystem, node_takes}
use Rattle.model_streams.specs.Maps.{entry_at}
use Rattle.world_steps.specs.ActorStep.{nothing, stream_step}
use Rattle.world_nodes.specs.Seen.{NodeSeen}
use Rattle.world_streams.specs.Nodes.{NodesMirror, NodesStep}
use Rattle.world_streams.proofs.NodeList.{went_nowhere, is_absent, before_number}
use Rattle.world_streams.proofs.nodes.NodeList.give.Goals as goal

pub returns-then-number-eq0-clause-ok : goal.returns-then-number-eq0-clause-ok
returns-then-number-eq0-clause-ok c = rw c.requires
    (went_nowhere c.args.number c.args.self.now c.args.packet.now (subst (λ n. entry_at c.args.self.now n ≡ None) (sym c.if-number-eq0.true) refl))

pub returns-then-at-len-clause-ok : goal.returns-then-at-len-clause-ok
returns-then-at-len-clause-ok c = rw c.requires
    (subst (λ (xs : List NodeSeen). (w : StreamSystem) → NodesMirror xs w → NodesStep xs w (node_takes w c.args.number c.args.packet.now) nothing) c.self.view_is
    (went_nowhere c.args.number c.self.inside.items.items c.args.packet.now
    (is_absent c.self.inside.items.items c.args.number (c.from-at.result - 1) (before_number c.args.number c.from-at.result c.if-number-eq0.false c.from-at.ensures) (omega (arith, c.self.inside.items.ok, c.len.ensures, c.if-at-len.true)))))

pub returns-clause-ok : goal.returns-clause-ok
returns-clause-ok c =
    subst (λ (xs : List NodeSeen). OnOk c.give_at.result ((w : StreamSystem) → NodesMirror xs w → NodesStep c.give_at.new.nodes.items w (node_takes w c.args.number c.args.packet.now) (stream_step c.give_at.new.step))) c.self.view_is
    (subst (λ n. OnOk c.give_at.result ((w : StreamSystem) → NodesMirror c.self.inside.items.items w → NodesStep c.give_at.new.nodes.items w (node_takes w n c.args.packet.now) (stream_step c.give_at.new.step)))
    (sym (before_number c.args.number c.from-at.result c.if-number-eq0.false c.from-at.ensures)) c.give_at.ensures.ok)
