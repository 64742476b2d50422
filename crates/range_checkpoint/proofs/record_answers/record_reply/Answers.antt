use Rattle.std.proofs.Common.{◌∙◌}
use Rattle.model_partition.specs.RangeSteps.{put}
use Rattle.range_checkpoint.proofs.Recorded.{record_others}
use Rattle.range_checkpoint.proofs.record_answers.record_reply.Goals as goal

pub returns-clause-ok : goal.returns-clause-ok
returns-clause-ok c = λ r.
    record_others c.args.context.now (put c.args.content.now r) c.args.packet.now.body _ c.requires.serving c.requires.other c.in_ok-reaction.ensures.ok
    ∙ c.told.ensures c.args.context.now (record (put c.args.content.now r) { metadata = c.take_answer.new.client })
