use Rattle.std.proofs.Common.{◌≡◌, ◌∙◌, refl, subst}
use Rattle.model_partition.specs.Range.{RangeState}
use Rattle.range_core.specs.Steps.{outcome}
use Rattle.range_core.specs.Waiters.{waiter_rule}
use Rattle.range_core.specs.contracts.state.RangeState.{the_view}
use Rattle.range_core.proofs.state.RangeState.load.Goals as goal

pub returns-in-Ok-clause-ok : goal.returns-in-Ok-clause-ok
returns-in-Ok-clause-ok c =
    subst (λ (r : RangeState). waiter_rule c.args.waiter c.args.context.now r c.args.packet.now.body ≡ outcome c.settle.result c.settle.new.self) c.self.view_is
    (c.in-Ok.ensures.ok (the_view c.self.inside) refl ∙ c.settle.ensures.rule)
