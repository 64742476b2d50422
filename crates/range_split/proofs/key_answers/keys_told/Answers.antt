use Rattle.std.proofs.Common.{◌∙◌}
use Rattle.range_split.proofs.KeyAnswers.{keys_other}
use Rattle.range_split.proofs.key_answers.keys_told.Goals as goal

pub returns-clause-ok : goal.returns-clause-ok
returns-clause-ok c = λ job side.
    keys_other c.args.context.now c.args.state.now job side c.args.client.now c.args.packet.now.body _ c.requires.other c.in_ok-reaction.ensures.ok
    ∙ c.other_told.ensures.told job side c.take_answer.new.client
