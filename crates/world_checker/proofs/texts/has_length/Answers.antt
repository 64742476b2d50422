use Rattle.std.proofs.Common.{arith}
use Rattle.world_checker.proofs.Showing.{not_so, length_next}
use Rattle.world_checker.proofs.texts.has_length.Goals as goal

pub returns-then-size-rest : goal.returns-then-size-rest
returns-then-size-rest c =
    let next = length_next c.args.groups.now c.loop-group.group-index c.group-item.result c.size-size.result c.loop-group-test.true c.group-item.is c.size-size.ensures.value in
    not_so (λ e. absurd (omega (arith, e, next, c.loop-group.invariant, c.if-size-rest.true)))

pub loop-group-preserved : goal.loop-group-preserved
loop-group-preserved c =
    let next = length_next c.args.groups.now c.loop-group.group-index c.group-item.result c.size-size.result c.loop-group-test.true c.group-item.is c.size-size.ensures.value in
    omega (arith, next, c.loop-group.invariant, c.if-size-rest.false)
