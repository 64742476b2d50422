use Rattle.std.proofs.Common.{arith, ap}
use Rattle.wire.specs.declared.streams.Source.{Source}
use Rattle.streams.proofs.BuildingLemmas.{greatest_more}
use Rattle.streams.proofs.building.greatest_generation.Goals as goal

pub loop-source-preserved : goal.loop-source-preserved
loop-source-preserved c =
    let source = c.source-item.result in
    let more = greatest_more c.args.sources.now c.loop-source.source-index source c.loop-source-test.true in
    let here = ap (λ (s : Source). s.generation) c.source-item.is in
    omega (arith, more, here, c.loop-source.invariant, c.greater-greatest.ensures)
