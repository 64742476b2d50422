use Rattle.std.proofs.Common.{length}
use Rattle.manager_state.proofs.Spelling.{source_more}
use Rattle.manager_state.proofs.modify_bytes.put_sources.Goals as goal

pub loop-one-preserved : goal.loop-one-preserved
loop-one-preserved c =
    source_more c.args.out.now.items (length c.args.all.now) c.loop-one.out.items c.put_source.new.out.items c.args.all.now c.loop-one.one-index c.one-item.result c.loop-one-test.true c.one-item.is
    c.in_ok-put_source.ensures c.loop-one.invariant
