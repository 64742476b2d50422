use Rattle.streams.specs.Table.{streams_of, streams_with}
use Rattle.streams.proofs.BuildingLemmas.{over_nothing, built_more}
use Rattle.streams.proofs.table.StreamTable.build.Goals as goal

pub loop-m-init : goal.loop-m-init
loop-m-init c = over_nothing _ (streams_of c.args.self.now) c.new-made.ensures

pub loop-m-preserved : goal.loop-m-preserved
loop-m-preserved c =
    built_more (streams_of c.args.self.now) (streams_with c.args.self.now c.loop-m.made) _ c.args.list.now c.loop-m.m-index c.m-item.result c.loop-m-test.true c.m-item.is
    c.loop-m.invariant c.in_ok-build_one.ensures
