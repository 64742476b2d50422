use Rattle.std.proofs.Common.{arith}
use Rattle.checkpoint.proofs.PageGroups.{no_pages_are}
use Rattle.checkpoint.proofs.checkpoint_pages.CheckpointPages.new.Goals as goal

pub invariant_of-result : goal.invariant_of-result
invariant_of-result c = (omega arith, rw (c.new.ensures.items, c.new-2.ensures.items) no_pages_are)
