use Rattle.std.proofs.Common.{Some, sym, subst, ◌∙◌}
use Rattle.std.proofs.lemmas.Bool.{ltb-true}
use Rattle.checkpoint_format.specs.Page.{entries_at}
use Rattle.checkpoint.specs.Merges.{MergeState, IsWithPage}
use Rattle.checkpoint.proofs.Changes.{with_page_is}
use Rattle.checkpoint.proofs.page_merge.PageMerge.with_page.Goals as goal

pub returns-in_ok-more_at_hand-in-Some-2 : goal.returns-in_ok-more_at_hand-in-Some-2
returns-in_ok-more_at_hand-in-Some-2 g c =
    let all = c.in_ok-more_at_hand-in-Some-2.field-0 in
    subst (λ (m : MergeState). IsWithPage (g.P.Pages.source c.args.pages.now) c.args.keys.now m (entries_at c.args.page.now) (Some all)) c.self.view_is
    (with_page_is (g.P.Pages.source c.args.pages.now) c.args.keys.now _ c.self.inside.left.items c.in-Some.next.now (entries_at c.args.page.now) c.in-Some-2.found all (ltb-true _ _ (sym c.in-Some.ensures.item.0)) c.in-Some.ensures.item.1
    (sym c.in-Some-2.is ∙ c.in_ok-page_changes.ensures) c.in_ok-more_at_hand-in-Some-2.ensures)
