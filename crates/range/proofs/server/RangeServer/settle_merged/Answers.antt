use Rattle.std.proofs.Common.{is_some, ap, sym, ◌∙◌}
use Rattle.model_partition.specs.Server.{ServerState, merge_of}
use Rattle.range_core.specs.Steps.{RangeStep}
use Rattle.range.proofs.Merged.{merged_on}
use Rattle.range.proofs.server.RangeServer.settle_merged.Goals as goal

pub returns-clause-value : goal.returns-clause-value
returns-clause-value c = λ r. rw (← c.self.view_is, ← c.taken.view_is) (λ known.
    merged_on (record { context = c.self.inside.context; ranges = c.self.inside.ranges.entries; splits = c.self.inside.splits.entries; merges = c.self.inside.merges.entries })
    c.args.range c.args.left (merge_of c.self.inside.merges.entries c.args.left)
    (record { dropped = c.taken.inside.dropped; count = c.taken.inside.count; packets = c.taken.inside.packets.items; notes = c.taken.inside.notes.items })
    r c.into_parts-packets.result.0.items c.into_parts-packets.result.1.items
    (ap (λ (x : ServerState). is_some (merge_of x.merges c.args.left)) c.self.view_is ∙ c.requires.held) known c.if-taken.false
    (c.into_parts-packets.ensures.packets ∙ sym (ap (λ (t : RangeStep). t.packets) c.taken.view_is))
    (c.into_parts-packets.ensures.notes ∙ sym (ap (λ (t : RangeStep). t.notes) c.taken.view_is))
    ∙ c.follow_merge.ensures.value c.into_parts-packets.result.1.items)
