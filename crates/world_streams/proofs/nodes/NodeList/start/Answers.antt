use Rattle.world_streams.proofs.NodeList.{one_more}
use Rattle.world_streams.proofs.nodes.NodeList.start.Goals as goal

pub loop-before-preserved : goal.loop-before-preserved
loop-before-preserved c = one_more c.loop-before.before c.loop-before.items.items _ c.in_ok-start.field-0 c.loop-before.invariant c.in_ok-start.ensures c.in_ok-push.ensures.items
