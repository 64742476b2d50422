use Rattle.std.proofs.Common.{rules, ap, sym, ◌∙◌}
use Rattle.model_partition.specs.Server.{ServerState, merge_of, range_of, stepped}
use Rattle.range.specs.ServerStep.{trim_of}
use Rattle.range.proofs.Merged.{answered_alone, settled_step}
use Rattle.range.proofs.server.RangeServer.answer.Goals as goal

pub returns-in-Ok-clause-ok : goal.returns-in-Ok-clause-ok
returns-in-Ok-clause-ok c = rw (← c.self.view_is) (
    answered_alone (record { context = c.self.inside.context; ranges = c.self.inside.ranges.entries; splits = c.self.inside.splits.entries; merges = c.self.inside.merges.entries })
    c.args.packet.now c.args.request.now c.in-Some.range c.in-Some-get_mut.state.now (sym c.awaiting.ensures ∙ c.in-Some.is)
    (sym c.in-Some-get_mut.ensures.value)
    (ap (λ (x : ServerState). trim_of (merge_of x.merges c.in-Some.range) (range_of x.ranges c.in-Some.range) c.args.request.now c.args.packet.now.body) c.self.view_is
    ∙ sym c.left_trim.ensures ∙ c.in_default-left_trim.is)
    ∙ ap (stepped (record { context = c.self.inside.context; ranges = c.self.inside.ranges.entries; splits = c.self.inside.splits.entries; merges = c.self.inside.merges.entries }) c.in-Some.range)
    c.in-Ok.ensures.ok
    ∙ settled_step (record { context = c.self.inside.context; ranges = c.self.inside.ranges.entries; splits = c.self.inside.splits.entries; merges = c.self.inside.merges.entries })
    c.settle.new.self c.in-Some.range c.in-Some-get_mut.state.now c.answer.new.self (c.get_mut.follows.lender c.answer.new.self).entries
    c.in-Ok.taken c.settle.result (sym c.in-Some-get_mut.ensures.value) (search rules) c.settle.ensures.value)
