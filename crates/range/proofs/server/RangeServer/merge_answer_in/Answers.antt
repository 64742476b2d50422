use Rattle.std.proofs.Common.{rules, ◌∙◌, sym}
use Rattle.range.proofs.Merged.{answered_so, none_answered, unmet}
use Rattle.range.proofs.server.RangeServer.merge_answer_in.Goals as goal

pub returns-then-not-are_held-clause-ok : goal.returns-then-not-are_held-clause-ok
returns-then-not-are_held-clause-ok c = rw (← c.self.view_is) (
    none_answered (record { context = c.self.inside.context; ranges = c.self.inside.ranges.entries; splits = c.self.inside.splits.entries; merges = c.self.inside.merges.entries })
    c.args.packet.now c.args.left c.in-Some.job.now (c.get_mut.follows.lender c.in-Some.job.now).entries c.nothing-then-not-are_held.result
    (sym c.in-Some.ensures.value) (search rules) (sym c.are_held.ensures ∙ c.if-not-are_held.true) c.nothing-then-not-are_held.ensures)

pub returns-in-Ok-clause-ok : goal.returns-in-Ok-clause-ok
returns-in-Ok-clause-ok c = rw (← c.self.view_is) (
    answered_so (record { context = c.self.inside.context; ranges = c.self.inside.ranges.entries; splits = c.self.inside.splits.entries; merges = c.self.inside.merges.entries })
    c.settle_merge.new.self c.args.packet.now c.args.left c.in-Some.job.now c.reply_to_both.new.job c.reply_to_both.new.ranges.entries
    (c.get_mut.follows.lender c.reply_to_both.new.job).entries c.in-Ok.taken c.settle_merge.result c.get_mut.ensures.ordered
    (sym c.in-Some.ensures.value) (sym c.are_held.ensures ∙ c.if-not-are_held.false) c.in-Ok.ensures.ok (search rules)
    c.settle_merge.ensures.context c.settle_merge.ensures.ranges c.settle_merge.ensures.splits c.settle_merge.ensures.merges c.settle_merge.ensures.sent)

pub returns-in-Err-clause-err : goal.returns-in-Err-clause-err
returns-in-Err-clause-err c = rw (← c.self.view_is) (
    unmet (record { context = c.self.inside.context; ranges = c.self.inside.ranges.entries; splits = c.self.inside.splits.entries; merges = c.self.inside.merges.entries })
    c.args.left c.in-Some.job.now c.reply_to_both.new.job c.reply_to_both.new.ranges.entries (c.get_mut.follows.lender c.reply_to_both.new.job).entries
    (sym c.in-Some.ensures.value) c.in-Err.ensures.ranges (search rules) c.in-Err.ensures.kept)
