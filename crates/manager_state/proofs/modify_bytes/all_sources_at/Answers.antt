use Rattle.blocks.specs.Format.{many_at}
use Rattle.model_streams.specs.RecordBytes.{source_at}
use Rattle.blocks.proofs.Loop.{goes_on, ends}
use Rattle.manager_state.proofs.modify_bytes.all_sources_at.Goals as goal

pub returns-in-Err : goal.returns-in-Err
returns-in-Err c =
    ends source_at c.in-Err.fault c.loop.read.items c.args.count c.loop.counter c.loop.rest.now (many_at source_at c.args.count c.args.bytes.now) c.loop-test.true c.in-Err.ensures c.loop.invariant.read

pub loop-preserved : goal.loop-preserved
loop-preserved c =
    let items = c.in_ok-push-in-Ok.ensures.items in
    rw items (record {
      read = goes_on source_at c.loop.read.items c.args.count c.loop.counter c.loop.rest.now c.in-Ok.one c.in-Ok.after.now (many_at source_at c.args.count c.args.bytes.now) c.loop-test.true c.in-Ok.ensures c.loop.invariant.read;
    })
