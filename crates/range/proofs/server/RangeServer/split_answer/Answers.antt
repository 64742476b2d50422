use Rattle.std.proofs.Common.{rules, ◌∙◌, sym}
use Rattle.range.proofs.Settled.{answered_so}
use Rattle.range.proofs.server.RangeServer.split_answer.Goals as goal

pub returns-in-Ok-clause-ok : goal.returns-in-Ok-clause-ok
returns-in-Ok-clause-ok c = rw (← c.self.view_is) (
    answered_so
    (record { context = c.self.inside.context; ranges = c.self.inside.ranges.entries; splits = c.self.inside.splits.entries; merges = c.self.inside.merges.entries })
    c.settle_split.new.self c.args.packet.now c.args.request.now c.in-Some.range c.in-Some-get_mut.state.now c.reply.new.state
    c.in-Some-get_mut-2.job.now c.reply.new.job (c.get_mut.follows.lender c.reply.new.state).entries
    (c.get_mut-2.follows.lender c.reply.new.job).entries c.in-Ok.taken c.settle_split.result
    c.get_mut-2.ensures.ordered (sym c.split_awaiting.ensures ∙ c.in-Some.is) (sym c.in-Some-get_mut.ensures.value)
    (sym c.in-Some-get_mut-2.ensures.value) (search rules) (search rules) c.in-Ok.ensures.ok c.settle_split.ensures.context
    c.settle_split.ensures.ranges c.settle_split.ensures.splits c.settle_split.ensures.merges c.settle_split.ensures.sent)
