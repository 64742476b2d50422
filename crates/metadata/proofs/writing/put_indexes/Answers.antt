use Rattle.std.proofs.Common.{List, ◌++◌, length, ap, take_all, ◌∙◌}
use Rattle.std.specs.List.{flat_map}
use Rattle.metadata.specs.declared.record.IndexRange.{IndexRange}
use Rattle.blocks.specs.Record.{number}
use Rattle.metadata.specs.Record.{index, IsIndex}
use Rattle.metadata.proofs.Loop.{one_more, All-at}
use Rattle.metadata.proofs.writing.put_indexes.Goals as goal

pub put_index-requires : goal.put_index-requires
put_index-requires c = All-at IsIndex c.args.all.now c.loop-one.one-index c.one-item.result c.loop-one-test.true c.one-item.is c.requires.fit

pub loop-one-preserved : goal.loop-one-preserved
loop-one-preserved c =
    one_more index c.args.out.now.items (number 1 (length c.args.all.now)) c.loop-one.out.items c.put_index.new.out.items c.args.all.now c.loop-one.one-index c.one-item.result c.loop-one-test.true c.one-item.is c.in_ok-put_index.ensures c.loop-one.invariant

pub returns : goal.returns
returns c = c.loop-one.invariant ∙ ap (λ (xs : List IndexRange). c.args.out.now.items ++ (number 1 (length c.args.all.now) ++ flat_map index xs)) (take_all c.loop-one.one-index c.args.all.now c.loop-one-test.false)
