use Rattle.std.proofs.Common.{ap, sym, ◌∙◌, subst, arith}
use Rattle.std.specs.List.{AllByRecursion}
use Rattle.block_types.specs.Limits.{IsBlock, IsGroup}
use Rattle.replica.specs.Groups.{Group}
use Rattle.replica.specs.Placed.{Placed}
use Rattle.replica.proofs.Spelling.{group_place, groups_counted}
use Rattle.replica.proofs.placed.PlacedGroups.group_at.Goals as goal

pub index-requires : goal.index-requires
index-requires c = omega (arith, c.requires, groups_counted _ _ _ _ _ _ _ c.self.invariant (ap (λ (v : Placed). v.groups) c.self.view_is))

pub offset_bounds-deref-first : goal.offset_bounds-deref-first
offset_bounds-deref-first c =
    let place = group_place c.args.self.now.groups _ _ _ _ _ c.deref.result.now _ c.args.index c.start_of-at.result c.blocks_before-first.result c.index.result.now c.self.invariant (ap (λ (v : Placed). v.groups) c.self.view_is) c.deref.ensures.value c.requires c.index.ensures c.blocks_before-first.ensures c.start_of-at.ensures in
    omega (arith, place.order, place.within)

pub slice_bounds-blocks_at-count : goal.slice_bounds-blocks_at-count
slice_bounds-blocks_at-count c =
    let place = group_place c.args.self.now.groups _ _ _ _ _ c.deref.result.now _ c.args.index c.start_of-at.result c.blocks_before-first.result c.index.result.now c.self.invariant (ap (λ (v : Placed). v.groups) c.self.view_is) c.deref.ensures.value c.requires c.index.ensures c.blocks_before-first.ensures c.start_of-at.ensures in
    place.order

pub slice_bounds-blocks_at-start : goal.slice_bounds-blocks_at-start
slice_bounds-blocks_at-start c =
    let place = group_place c.args.self.now.groups _ _ _ _ _ c.deref.result.now _ c.args.index c.start_of-at.result c.blocks_before-first.result c.index.result.now c.self.invariant (ap (λ (v : Placed). v.groups) c.self.view_is) c.deref.ensures.value c.requires c.index.ensures c.blocks_before-first.ensures c.start_of-at.ensures in
    place.order

pub slice_bounds-blocks_at-end : goal.slice_bounds-blocks_at-end
slice_bounds-blocks_at-end c =
    let place = group_place c.args.self.now.groups _ _ _ _ _ c.deref.result.now _ c.args.index c.start_of-at.result c.blocks_before-first.result c.index.result.now c.self.invariant (ap (λ (v : Placed). v.groups) c.self.view_is) c.deref.ensures.value c.requires c.index.ensures c.blocks_before-first.ensures c.start_of-at.ensures in
    place.within

pub blocks_at-requires-clause-blocks : goal.blocks_at-requires-clause-blocks
blocks_at-requires-clause-blocks c =
    let place = group_place c.args.self.now.groups _ _ _ _ _ c.deref.result.now _ c.args.index c.start_of-at.result c.blocks_before-first.result c.index.result.now c.self.invariant (ap (λ (v : Placed). v.groups) c.self.view_is) c.deref.ensures.value c.requires c.index.ensures c.blocks_before-first.ensures c.start_of-at.ensures in
    subst (λ (g : Group). AllByRecursion IsBlock g) (sym place.blocks) place.is.2

pub blocks_at-requires-clause-few : goal.blocks_at-requires-clause-few
blocks_at-requires-clause-few c =
    let place = group_place c.args.self.now.groups _ _ _ _ _ c.deref.result.now _ c.args.index c.start_of-at.result c.blocks_before-first.result c.index.result.now c.self.invariant (ap (λ (v : Placed). v.groups) c.self.view_is) c.deref.ensures.value c.requires c.index.ensures c.blocks_before-first.ensures c.start_of-at.ensures in
    place.few

pub of-requires : goal.of-requires
of-requires c =
    let place = group_place c.args.self.now.groups _ _ _ _ _ c.deref.result.now _ c.args.index c.start_of-at.result c.blocks_before-first.result c.index.result.now c.self.invariant (ap (λ (v : Placed). v.groups) c.self.view_is) c.deref.ensures.value c.requires c.index.ensures c.blocks_before-first.ensures c.start_of-at.ensures in
    subst IsGroup (sym (c.in_ok-blocks.ensures ∙ place.blocks)) place.is

pub returns : goal.returns
returns c =
    let place = group_place c.args.self.now.groups _ _ _ _ _ c.deref.result.now _ c.args.index c.start_of-at.result c.blocks_before-first.result c.index.result.now c.self.invariant (ap (λ (v : Placed). v.groups) c.self.view_is) c.deref.ensures.value c.requires c.index.ensures c.blocks_before-first.ensures c.start_of-at.ensures in
    c.in_ok-of.ensures ∙ c.in_ok-blocks.ensures ∙ place.blocks
