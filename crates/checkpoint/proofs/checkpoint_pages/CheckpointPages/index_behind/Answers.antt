use Rattle.std.proofs.Common.{◌≡◌, ◌++◌, ◌∙◌, List, take, sym, ap, subst, true}
use Rattle.checkpoint_format.specs.declared.index.PageAt.{PageAt}
use Rattle.checkpoint_format.specs.declared.page.Page.{Page}
use Rattle.checkpoint_format.specs.Index.{IsIndex, fits_a_group}
use Rattle.checkpoint.specs.PageGroups.{PagesState}
use Rattle.checkpoint.proofs.PageGroups.{index_is, next_placed, pages_placed}
use Rattle.checkpoint.proofs.checkpoint_pages.CheckpointPages.index_behind.Goals as goal

pub returns-clause-range : goal.returns-clause-range
returns-clause-range c =
    let first = c.first_pages.ensures ∙ ap (λ (l : List Page). take 64 l) (c.unwritten.ensures.value ∙ sym (ap (λ (p : PagesState). p.unwritten) c.self.view_is)) in
    let are = next_placed c.self.inside.index c.self.inside.pages.items c.first_pages.result.now c.self.inside.standing c.args.extent c.args.offset c.append.new.self c.in_ok-placed.placed.items
    first c.in_ok-placed.ensures (c.in_ok-append.ensures.ok ∙ ap (λ (l : List PageAt). l ++ c.in_ok-placed.placed.items) c.in_ok-pages.ensures) in
    subst (λ (p : PagesState). fits_a_group p.index ≡ true → IsIndex p.index) (sym are) (index_is _ (pages_placed _ c.args.extent c.args.offset c.self.invariant.1))
