use Rattle.std.proofs.Common.{arith}
use Rattle.checkpoint.proofs.PageGroups.{pages_begin}
use Rattle.checkpoint.proofs.checkpoint_pages.CheckpointPages.of.Goals as goal

pub invariant_of-result : goal.invariant_of-result
invariant_of-result c =
    (omega arith, rw (c.new.ensures.items, c.has_place.ensures, c.in_ok-pages.ensures.pages) (pages_begin c.args.entries.now.entries c.requires c.in_ok-pages.ensures.ascending))
