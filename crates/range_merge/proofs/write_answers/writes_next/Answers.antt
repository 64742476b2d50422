use Rattle.range_merge.proofs.RecordAppends.{next_sent}
use Rattle.range_merge.proofs.write_answers.writes_next.Goals as goal

pub returns : goal.returns
returns c = λ l r job blocks_are may.
    next_sent c.args.context.now l r job c.args.client.now c.take_answer.new.client c.send.new.client c.args.packet.now.body c.args.blocks c.send.result
    c.in-Ok.reaction.packet c.in-Ok.reaction.news c.requires.stands c.in-Ok.ensures.ok blocks_are may c.send.ensures
