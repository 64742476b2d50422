use Rattle.std.proofs.Common.{rules, ap, sym, ◌∙◌}
use Rattle.model_partition.specs.Server.{transacts_in, stepped}
use Rattle.range.proofs.Merged.{settled_step}
use Rattle.range.proofs.server.RangeServer.transact.Goals as goal

pub returns-in-Ok-clause-ok : goal.returns-in-Ok-clause-ok
returns-in-Ok-clause-ok c = rw (← c.self.view_is, ← c.range.view_is) (
    ap (transacts_in (record { context = c.self.inside.context; ranges = c.self.inside.ranges.entries; splits = c.self.inside.splits.entries; merges = c.self.inside.merges.entries }) c.args.packet.now c.range.inside.0 c.args.changes.now c.args.request.now)
    (sym c.in-Some.ensures.value)
    ∙ ap (stepped (record { context = c.self.inside.context; ranges = c.self.inside.ranges.entries; splits = c.self.inside.splits.entries; merges = c.self.inside.merges.entries }) c.range.inside.0)
    c.in-Ok.ensures.ok
    ∙ settled_step (record { context = c.self.inside.context; ranges = c.self.inside.ranges.entries; splits = c.self.inside.splits.entries; merges = c.self.inside.merges.entries })
    c.settle.new.self c.range.inside.0 c.in-Some.state.now c.transact.new.self (c.get_mut.follows.lender c.transact.new.self).entries
    c.in-Ok.taken c.settle.result (sym c.in-Some.ensures.value) (search rules) c.settle.ensures.value)
