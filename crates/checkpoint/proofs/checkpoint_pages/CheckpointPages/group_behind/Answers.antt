use Rattle.std.proofs.Common.{sym, subst}
use Rattle.std.specs.List.{AllByRecursion}
use Rattle.checkpoint.specs.PageGroups.{HasBlock}
use Rattle.checkpoint.proofs.PageGroups.{all_back}
use Rattle.checkpoint.proofs.checkpoint_pages.CheckpointPages.group_behind.Goals as goal

pub group_of_first-requires : goal.group_of_first-requires
group_of_first-requires c = subst (AllByRecursion HasBlock) (sym c.pages_behind.ensures) (all_back HasBlock 64 c.unwritten.result.now c.unwritten.ensures.blocks)
