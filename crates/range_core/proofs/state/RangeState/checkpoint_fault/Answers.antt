use Rattle.std.proofs.Common.{◌≡◌, subst}
use Rattle.model_partition.specs.Range.{RangeState}
use Rattle.model_partition.specs.Checkpoints as rules
use Rattle.range_core.specs.contracts.state.RangeState.{the_view}
use Rattle.range_core.proofs.state.RangeState.checkpoint_fault.Goals as goal

pub returns-clause-value : goal.returns-clause-value
returns-clause-value c =
    subst (λ (r : RangeState). c.checkpoint_fault.result ≡ rules.checkpoint_fault r) c.self.view_is
    (c.checkpoint_fault.ensures (the_view c.self.inside))
