use Rattle.std.proofs.Common.{arith}
use Rattle.model_partition.specs.Map.{dropped_if}
use Rattle.pmap_table.proofs.Places.{change_more, change_ends}
use Rattle.pmap_table.proofs.entries.drop_in_each.Goals as goal

pub loop-entry-preserved : goal.loop-entry-preserved
loop-entry-preserved c =
    change_more (dropped_if c.args.range) c.loop-entry.entry-index c.args.entries.now c.loop-entry.entries c.entry-item.result c.drop_if.new.entry c.loop-entry-test.true c.loop-entry.invariant c.drop_if.ensures

pub returns : goal.returns
returns c = change_ends (dropped_if c.args.range) c.loop-entry.entry-index c.args.entries.now c.loop-entry.entries (omega arith) c.loop-entry.invariant
