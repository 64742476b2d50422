use Rattle.client.proofs.ContentAnswers.{told_is}
use Rattle.client.proofs.client.StreamClient.on_reply.Goals as goal

pub returns-in-Ok-clause-content : goal.returns-in-Ok-clause-content
returns-in-Ok-clause-content c =
    told_is c.args.self.now c.args.request.now c.args.packet.now.body c.reply.new.client c.in-Ok.reaction.packet c.in-Ok.reaction.news c.in-Ok.ensures.ok
