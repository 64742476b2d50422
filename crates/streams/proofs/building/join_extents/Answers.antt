use Rattle.std.proofs.Common.{◌∙◌}
use Rattle.streams.specs.Table.{streams_with}
use Rattle.streams.proofs.BuildingLemmas.{join_more}
use Rattle.streams.proofs.building.join_extents.Goals as goal

pub loop-source-preserved : goal.loop-source-preserved
loop-source-preserved c =
    let before = c.loop-source.invariant in
    record {
      name = c.join.ensures.name ∙ before.name;
      stream = join_more (streams_with c.args.table.now c.args.made.now) c.args.sources.now c.loop-source.source-index _ _ _ c.source-item.result _ c.loop-source-test.true c.source-item.is before.stream c.extents_of.ensures c.in_ok-join.ensures.stream;
    }
