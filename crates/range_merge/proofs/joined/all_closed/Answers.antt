use Rattle.model_partition.specs.JoinedRanges.{closed_region, is_record_region}
use Rattle.range_merge.proofs.RecordSizes.{if_none, one_has_none}
use Rattle.range_merge.proofs.joined.all_closed.Goals as goal

pub returns-in-None-clause-none : goal.returns-in-None-clause-none
returns-in-None-clause-none c =
    one_has_none is_record_region (closed_region c.args.keys.now c.args.log.now c.args.first) c.args.all.now c.loop-one.one-index c.one-item.result
    c.loop-one-test.true c.one-item.is (if_none c.in_ok-closed_region.field-0 c.in-None.is c.in_ok-closed_region.ensures.none)
