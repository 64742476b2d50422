use Rattle.std.proofs.Common.{refl, sym}
use Rattle.replica.specs.State.{content_of}
use Rattle.replica.specs.declared.phase.Phase.TheVariants.{Open, Frozen}
use Rattle.stamp.proofs.TextLemmas.{sealed-absent, sealed-other, sealed-some}
use Rattle.stamp.proofs.texts.sealed_replica.Goals as goal

pub returns-in_default-replica-clause-none : goal.returns-in_default-replica-clause-none
returns-in_default-replica-clause-none c = sealed-absent c.args.actor.now c.args.extent c.in-Some.node.now c.in-Some.ensures c.in_default-replica.ensures

pub returns-in-Sealed-clause-some : goal.returns-in-Sealed-clause-some
returns-in-Sealed-clause-some c =
    sealed-some c.args.actor.now c.args.extent c.in-Some.node.now (content_of c.in-Some-replica.replica.now) c.in-Some.ensures c.in-Some-replica.ensures (sym c.in-Sealed.ensures)

pub returns-in-Frozen-clause-none : goal.returns-in-Frozen-clause-none
returns-in-Frozen-clause-none c =
    sealed-other c.args.actor.now c.args.extent c.in-Some.node.now (content_of c.in-Some-replica.replica.now) Frozen c.in-Some.ensures c.in-Some-replica.ensures (sym c.in-Frozen.ensures) refl

pub returns-in-Open-clause-none : goal.returns-in-Open-clause-none
returns-in-Open-clause-none c =
    sealed-other c.args.actor.now c.args.extent c.in-Some.node.now (content_of c.in-Some-replica.replica.now) Open c.in-Some.ensures c.in-Some-replica.ensures (sym c.in-Open.ensures) refl
