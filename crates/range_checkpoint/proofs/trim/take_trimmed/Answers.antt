use Rattle.std.proofs.Common.{◌∙◌, [], sym, ap}
use Rattle.model_partition.specs.Range.{RangeState, answers}
use Rattle.model_partition.specs.RangeSteps.{put}
use Rattle.range_checkpoint.proofs.Noted.{told_none, told_some}
use Rattle.range_checkpoint.proofs.trim.take_trimmed.Goals as goal

pub returns-in-None-clause-ok : goal.returns-in-None-clause-ok
returns-in-None-clause-ok c = λ d w r. told_none d (put c.args.content.now r) c.args.content.now.control w (sym c.trim_out.ensures ∙ c.in-None.is)

pub returns-in_ok-trimmed-in-Some-clause-ok : goal.returns-in_ok-trimmed-in-Some-clause-ok
returns-in_ok-trimmed-in-Some-clause-ok c = λ d w r.
    told_some d (put c.args.content.now r) c.args.content.now.control w _ (sym c.trim_out.ensures ∙ c.in-Some.is)
    ∙ ap (λ (x : RangeState). answers d x []) (sym (c.in_ok-trimmed-in-Some.ensures.ok r))
