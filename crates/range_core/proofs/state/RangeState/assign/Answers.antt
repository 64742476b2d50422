use Rattle.std.proofs.Common.{ap, ◌∙◌}
use Rattle.range_reads.specs.Lookups.{LookupsState}
use Rattle.model_partition.specs.RangeSteps.{put}
use Rattle.model_partition.specs.Range.{RangeState}
use Rattle.model_partition.specs.Server.{new_range}
use Rattle.range_core.proofs.state.RangeState.assign.Goals as goal

pub returns-clause-range : goal.returns-clause-range
returns-clause-range c =
    let base : RangeState = new_range c.args.context.now c.args.range c.args.generation c.args.until in
    c.of.ensures base
    ∙ ap (λ (l : LookupsState). record (put c.in_ok-content.content base) { gets = l.gets; held = l.held }) c.in_ok-lookups.ensures
    ∙ c.in_ok-content.ensures.content c.args.until
