use Rattle.std.proofs.Common.{◌∙◌, ap, sym}
use Rattle.range_core.specs.Steps.{RangeStep}
use Rattle.model_partition.specs.Server.{split_of}
use Rattle.range.proofs.Settled.{given_up_on}
use Rattle.range.proofs.server.RangeServer.settle_apart_again.Goals as goal

pub returns-clause-value : goal.returns-clause-value
returns-clause-value c = λ r. rw (← c.self.view_is, ← c.taken.view_is) (λ known.
    given_up_on
    (record { context = c.self.inside.context; ranges = c.self.inside.ranges.entries; splits = c.self.inside.splits.entries; merges = c.self.inside.merges.entries })
    c.args.range (split_of c.self.inside.splits.entries c.args.range)
    (record { dropped = c.taken.inside.dropped; count = c.taken.inside.count; packets = c.taken.inside.packets.items; notes = c.taken.inside.notes.items })
    r c.into_parts-packets.result.0.items c.into_parts-packets.result.1.items
    c.if-taken.false
    (c.into_parts-packets.ensures.packets ∙ sym (ap (λ (t : RangeStep). t.packets) c.taken.view_is))
    (c.into_parts-packets.ensures.notes ∙ sym (ap (λ (t : RangeStep). t.notes) c.taken.view_is))
    ∙ c.ask_again.ensures.value r c.into_parts-packets.result.1.items known)
