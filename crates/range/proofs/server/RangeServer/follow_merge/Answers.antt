use Rattle.std.proofs.Common.{rules, ◌≡◌, Some, ap, sym, ◌∙◌}
use Rattle.model_partition.specs.Server.{ServerState, merge_of, range_of}
use Rattle.range_merge.specs.Steps.{MergeTaken}
use Rattle.range.specs.ServerStep.{merge_room}
use Rattle.range.proofs.BothRanges.{both_alike, left_absent, right_absent}
use Rattle.range.proofs.Merged.{followed_merge, no_room, none_follows}
use Rattle.range.proofs.server.RangeServer.follow_merge.Goals as goal

pub returns-in_default-room-clause-value : goal.returns-in_default-room-clause-value
returns-in_default-room-clause-value c = λ notes. rw (← c.self.view_is) (
    no_room (record { context = c.self.inside.context; ranges = c.self.inside.ranges.entries; splits = c.self.inside.splits.entries; merges = c.self.inside.merges.entries })
    c.args.range c.args.left c.in-Some.job.now (c.get_mut.follows.lender c.in-Some.job.now).entries c.args.sent.items notes c.get_mut.ensures.ordered
    (sym c.in-Some.ensures.value) (search rules)
    (ap (λ (x : ServerState). merge_room (merge_of x.merges c.args.left)) c.self.view_is ∙ sym c.requires.room ∙ c.in_default-room.is))

pub returns-then-eq-clause-value : goal.returns-then-eq-clause-value
returns-then-eq-clause-value c = λ notes. rw (← c.self.view_is) (
    none_follows (record { context = c.self.inside.context; ranges = c.self.inside.ranges.entries; splits = c.self.inside.splits.entries; merges = c.self.inside.merges.entries })
    c.args.range c.args.left c.in-Some.job.now (c.get_mut.follows.lender c.in-Some.job.now).entries c.args.sent.items notes
    (sym c.in-Some.ensures.value) (search rules) (both_alike c.self.inside.ranges.entries c.in-Some.job.now (sym c.eq.ensures ∙ c.if-eq.true)))

pub returns-in_default-get-clause-value : goal.returns-in_default-get-clause-value
returns-in_default-get-clause-value c = λ notes. rw (← c.self.view_is) (
    none_follows (record { context = c.self.inside.context; ranges = c.self.inside.ranges.entries; splits = c.self.inside.splits.entries; merges = c.self.inside.merges.entries })
    c.args.range c.args.left c.in-Some.job.now (c.get_mut.follows.lender c.in-Some.job.now).entries c.args.sent.items notes
    (sym c.in-Some.ensures.value) (search rules)
    (left_absent c.self.inside.ranges.entries c.in-Some.job.now (ap (range_of c.self.inside.ranges.entries) (sym c.low.view_is) ∙ sym c.in_default-get.ensures.value)))

pub returns-in_default-get-2-clause-value : goal.returns-in_default-get-2-clause-value
returns-in_default-get-2-clause-value c = λ notes. rw (← c.self.view_is) (
    none_follows (record { context = c.self.inside.context; ranges = c.self.inside.ranges.entries; splits = c.self.inside.splits.entries; merges = c.self.inside.merges.entries })
    c.args.range c.args.left c.in-Some.job.now (c.get_mut.follows.lender c.in-Some.job.now).entries c.args.sent.items notes
    (sym c.in-Some.ensures.value) (search rules)
    (right_absent c.self.inside.ranges.entries c.in-Some.job.now (ap (range_of c.self.inside.ranges.entries) (sym c.high.view_is) ∙ sym c.in_default-get-2.ensures.value)))

pub returns-clause-value : goal.returns-clause-value
returns-clause-value c = λ notes. rw (← c.self.view_is) (
    let low : range_of c.self.inside.ranges.entries c.in-Some.job.now.left ≡ Some c.in-Some-get.one.now =
    ap (range_of c.self.inside.ranges.entries) (sym c.low.view_is) ∙ sym c.in-Some-get.ensures.value in
    let high : range_of c.self.inside.ranges.entries c.in-Some.job.now.right ≡ Some c.in-Some-get-2.other.now =
    ap (range_of c.self.inside.ranges.entries) (sym c.high.view_is) ∙ sym c.in-Some-get-2.ensures.value in
    followed_merge (record { context = c.self.inside.context; ranges = c.self.inside.ranges.entries; splits = c.self.inside.splits.entries; merges = c.self.inside.merges.entries })
    c.pause_both.new.self c.args.range c.args.left c.in-Some.job.now c.follow-taken.new.job
    (c.get_mut.follows.lender c.follow-taken.new.job).entries c.in-Some-get.one.now c.in-Some-get-2.other.now c.side_of-side.result
    c.args.sent.items notes c.follow-taken.result.taken c.follow-taken.result.pauses c.taken.inside.count c.taken.inside.packets.items
    c.get_mut.ensures.ordered (sym c.in-Some.ensures.value) (search rules) (sym c.eq.ensures ∙ c.if-eq.false)
    low high c.side_of-side.ensures c.follow-taken.ensures.value c.follow-taken.ensures.left c.follow-taken.ensures.right
    c.follow-taken.ensures.under_way (ap (λ (t : MergeTaken). t.count) c.taken.view_is) (ap (λ (t : MergeTaken). t.packets) c.taken.view_is)
    (c.pause_both.ensures c.in-Some-get.one.now c.in-Some-get-2.other.now low high))
