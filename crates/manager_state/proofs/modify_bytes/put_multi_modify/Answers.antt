use Rattle.std.proofs.Common.{length}
use Rattle.manager_state.proofs.Spelling.{modify_more, few_at}
use Rattle.manager_state.proofs.modify_bytes.put_multi_modify.Goals as goal

pub put_modify-requires : goal.put_modify-requires
put_modify-requires c = record { few = few_at c.args.list.now c.loop-one.one-index c.one-item.result c.requires.few c.loop-one-test.true c.one-item.is }

pub loop-one-preserved : goal.loop-one-preserved
loop-one-preserved c =
    modify_more c.args.out.now.items 7 (length c.args.list.now) c.loop-one.out.items c.put_modify.new.out.items c.args.list.now c.loop-one.one-index c.one-item.result c.loop-one-test.true c.one-item.is
    c.in_ok-put_modify.ensures c.loop-one.invariant
