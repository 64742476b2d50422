use Rattle.std.proofs.Common.{◌∙◌, sym, ap, subst, List}
use Rattle.std.specs.List.{AllByRecursion}
use Rattle.block_types.specs.Limits.{IsGroup}
use Rattle.checkpoint_format.specs.declared.page.Page.{Page}
use Rattle.checkpoint.specs.PageGroups.{HasBlock, page_group}
use Rattle.checkpoint.proofs.PageGroups.{all_first, group_is}
use Rattle.checkpoint.proofs.checkpoint_pages.group_of_first.Goals as goal

pub blocks_of-requires : goal.blocks_of-requires
blocks_of-requires c = subst (AllByRecursion HasBlock) (sym c.first_pages.ensures) (all_first HasBlock 64 c.args.pages.now c.requires)

pub of-requires : goal.of-requires
of-requires c =
    subst IsGroup (sym (c.in_ok-blocks.ensures ∙ ap (λ (pages : List Page). page_group pages) c.first_pages.ensures))
    (group_is c.args.pages.now c.requires (sym c.is_empty.ensures ∙ c.if-is_empty.false))
