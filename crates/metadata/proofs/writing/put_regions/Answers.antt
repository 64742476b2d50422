use Rattle.std.proofs.Common.{List, ◌++◌, length, ap, take_all, ◌∙◌}
use Rattle.std.specs.List.{flat_map}
use Rattle.metadata.specs.declared.record.Region.{Region}
use Rattle.blocks.specs.Record.{number}
use Rattle.metadata.specs.Record.{region, IsRegion}
use Rattle.metadata.proofs.Loop.{one_more, All-at}
use Rattle.metadata.proofs.writing.put_regions.Goals as goal

pub put_region-requires : goal.put_region-requires
put_region-requires c = All-at IsRegion c.args.all.now c.loop-one.one-index c.one-item.result c.loop-one-test.true c.one-item.is c.requires.fit

pub loop-one-preserved : goal.loop-one-preserved
loop-one-preserved c =
    one_more region c.args.out.now.items (number 1 (length c.args.all.now)) c.loop-one.out.items c.put_region.new.out.items c.args.all.now c.loop-one.one-index c.one-item.result c.loop-one-test.true c.one-item.is c.in_ok-put_region.ensures c.loop-one.invariant

pub returns : goal.returns
returns c = c.loop-one.invariant ∙ ap (λ (xs : List Region). c.args.out.now.items ++ (number 1 (length c.args.all.now) ++ flat_map region xs)) (take_all c.loop-one.one-index c.args.all.now c.loop-one-test.false)
