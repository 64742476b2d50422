use Rattle.std.proofs.Common.{◌∙◌, List, take, sym, ap, subst}
use Rattle.checkpoint_format.specs.declared.page.Page.{Page}
use Rattle.checkpoint.specs.PageGroups.{ArePages, PagesState, with_next_placed}
use Rattle.checkpoint.proofs.PageGroups.{counted_in, next_placed, pages_placed}
use Rattle.checkpoint.proofs.checkpoint_pages.CheckpointPages.place_next.Goals as goal

pub invariant_of-self-2 : goal.invariant_of-self-2
invariant_of-self-2 c =
    let first = c.first_pages-pages.ensures ∙ ap (λ (l : List Page). take 64 l) (c.unwritten.ensures.value ∙ sym (ap (λ (p : PagesState). p.unwritten) c.self.view_is)) in
    let are = next_placed c.self.inside.index c.self.inside.pages.items c.first_pages-pages.result.now c.self.inside.standing c.args.extent c.args.offset c.append.new.self c.in_ok-placed.placed.items
    first c.in_ok-placed.ensures c.in_ok-append.ensures.ok in (
      counted_in c.self.inside.pages.items c.first_pages-pages.result.now c.self.inside.standing c.self.invariant.0 first,
      subst ArePages (sym are) (pages_placed _ c.args.extent c.args.offset c.self.invariant.1),
    )

pub returns-clause-ok : goal.returns-clause-ok
returns-clause-ok c =
    let first = c.first_pages-pages.ensures ∙ ap (λ (l : List Page). take 64 l) (c.unwritten.ensures.value ∙ sym (ap (λ (p : PagesState). p.unwritten) c.self.view_is)) in
    next_placed c.self.inside.index c.self.inside.pages.items c.first_pages-pages.result.now c.self.inside.standing c.args.extent c.args.offset c.append.new.self c.in_ok-placed.placed.items
    first c.in_ok-placed.ensures c.in_ok-append.ensures.ok
    ∙ ap (λ (p : PagesState). with_next_placed p c.args.extent c.args.offset) c.self.view_is
