use Rattle.std.proofs.Common.{◌∙◌}
use Rattle.model_partition.specs.RangeSteps.{put}
use Rattle.range_checkpoint.proofs.Told.{rows_other}
use Rattle.range_checkpoint.proofs.row_answers.rows_told.Goals as goal

pub returns-clause-ok : goal.returns-clause-ok
returns-clause-ok c = λ r.
    rows_other c.args.context.now (put c.args.content.now r) c.args.packet.now.body _ c.requires.other c.requires.stands c.in_ok-reaction.ensures.ok
    ∙ c.told.ensures c.args.context.now (record (put c.args.content.now r) { rows = c.take_answer.new.client })
