use Rattle.std.proofs.Common.{◌∙◌}
use Rattle.range_merge.proofs.RecordAppends.{write_other}
use Rattle.range_merge.proofs.write_answers.write_told.Goals as goal

pub returns-clause-ok : goal.returns-clause-ok
returns-clause-ok c = λ job what.
    write_other c.args.context.now c.args.left.now c.args.right.now job what c.args.client.now c.args.packet.now.body _ c.requires.other c.in_ok-reaction.ensures.ok
    ∙ c.other_told.ensures.told job what c.take_answer.new.client
