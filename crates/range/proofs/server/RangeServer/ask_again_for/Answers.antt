use Rattle.std.proofs.Common.{rules, ap, sym, ◌∙◌}
use Rattle.model_partition.specs.Server.{range_of}
use Rattle.range_merge.specs.Steps.{MergeTaken}
use Rattle.range.proofs.BothRanges.{both_alike, left_absent, right_absent}
use Rattle.range.proofs.Merged.{asked_merge, none_asked}
use Rattle.range.proofs.server.RangeServer.ask_again_for.Goals as goal

pub returns-then-eq-clause-value : goal.returns-then-eq-clause-value
returns-then-eq-clause-value c = λ notes. rw (← c.self.view_is) (
    none_asked (record { context = c.self.inside.context; ranges = c.self.inside.ranges.entries; splits = c.self.inside.splits.entries; merges = c.self.inside.merges.entries })
    c.args.left c.in-Some.job.now (c.get_mut.follows.lender c.in-Some.job.now).entries c.args.sent.items notes
    (sym c.in-Some.ensures.value) (search rules) (both_alike c.self.inside.ranges.entries c.in-Some.job.now (sym c.eq.ensures ∙ c.if-eq.true)))

pub returns-in_default-get-clause-value : goal.returns-in_default-get-clause-value
returns-in_default-get-clause-value c = λ notes. rw (← c.self.view_is) (
    none_asked (record { context = c.self.inside.context; ranges = c.self.inside.ranges.entries; splits = c.self.inside.splits.entries; merges = c.self.inside.merges.entries })
    c.args.left c.in-Some.job.now (c.get_mut.follows.lender c.in-Some.job.now).entries c.args.sent.items notes
    (sym c.in-Some.ensures.value) (search rules)
    (left_absent c.self.inside.ranges.entries c.in-Some.job.now (ap (range_of c.self.inside.ranges.entries) (sym c.low.view_is) ∙ sym c.in_default-get.ensures.value)))

pub returns-in_default-get-2-clause-value : goal.returns-in_default-get-2-clause-value
returns-in_default-get-2-clause-value c = λ notes. rw (← c.self.view_is) (
    none_asked (record { context = c.self.inside.context; ranges = c.self.inside.ranges.entries; splits = c.self.inside.splits.entries; merges = c.self.inside.merges.entries })
    c.args.left c.in-Some.job.now (c.get_mut.follows.lender c.in-Some.job.now).entries c.args.sent.items notes
    (sym c.in-Some.ensures.value) (search rules)
    (right_absent c.self.inside.ranges.entries c.in-Some.job.now (ap (range_of c.self.inside.ranges.entries) (sym c.high.view_is) ∙ sym c.in_default-get-2.ensures.value)))

pub returns-clause-value : goal.returns-clause-value
returns-clause-value c = λ notes. rw (← c.self.view_is) (
    asked_merge (record { context = c.self.inside.context; ranges = c.self.inside.ranges.entries; splits = c.self.inside.splits.entries; merges = c.self.inside.merges.entries })
    c.args.left c.in-Some.job.now c.give_up-taken.new.job
    (c.get_mut.follows.lender c.give_up-taken.new.job).entries c.in-Some-get.one.now c.in-Some-get-2.other.now
    c.args.sent.items notes c.give_up-taken.result c.taken.inside.count c.taken.inside.packets.items
    c.get_mut.ensures.ordered (sym c.in-Some.ensures.value) (search rules) (sym c.eq.ensures ∙ c.if-eq.false)
    (ap (range_of c.self.inside.ranges.entries) (sym c.low.view_is) ∙ sym c.in-Some-get.ensures.value)
    (ap (range_of c.self.inside.ranges.entries) (sym c.high.view_is) ∙ sym c.in-Some-get-2.ensures.value)
    c.give_up-taken.ensures.value c.give_up-taken.ensures.left c.give_up-taken.ensures.right c.give_up-taken.ensures.under_way
    (ap (λ (t : MergeTaken). t.count) c.taken.view_is) (ap (λ (t : MergeTaken). t.packets) c.taken.view_is))
