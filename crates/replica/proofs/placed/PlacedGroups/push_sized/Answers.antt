use Rattle.std.proofs.Common.{◌++◌, ◌∷◌, [], length, refl, ap, ◌∙◌, subst, arith, length-append}
use Rattle.replica.specs.Groups.{joined}
use Rattle.replica.specs.Placed.{Placed}
use Rattle.replica.specs.Spelled.{IsSpelled, block_sizes}
use Rattle.replica.proofs.Lengths.{group_size-size}
use Rattle.replica.proofs.Placing.{pushed-rise}
use Rattle.replica.proofs.Spelling.{one_more, settled, spelled_groups, blocks_within, count_within, length-block_sizes, length-sizes_of}
use Rattle.replica.proofs.placed.PlacedGroups.push_sized.Goals as goal

pub overflow_cast-len : goal.overflow_cast-len
overflow_cast-len c =
    let here = c.self.inside in
    let is : IsSpelled c.args.self.now.groups here.ends.ends here.lasts.items here.sizes.items here.text.bytes here.length =
    subst (λ (v : Placed). IsSpelled v.groups here.ends.ends here.lasts.items here.sizes.items here.text.bytes here.length) c.self.view_is c.self.invariant
    in
    let g = c.args.group.now in
    let gs = c.args.self.now.groups in
    omega (arith, ap length c.add_blocks.ensures.sizes, length-append here.sizes.items (block_sizes c.blocks-2.result.now), length-block_sizes c.blocks-2.result.now, ap length c.blocks-2.ensures.value, ap length is.measured, length-sizes_of gs, count_within gs is.all, blocks_within g c.blocks-2.ensures.fits, group_size-size g, c.requires.sized, c.requires.bound, c.requires.below)

pub push-requires-clause-rises : goal.push-requires-clause-rises
push-requires-clause-rises c =
    let here = c.self.inside in
    let is : IsSpelled c.args.self.now.groups here.ends.ends here.lasts.items here.sizes.items here.text.bytes here.length =
    subst (λ (v : Placed). IsSpelled v.groups here.ends.ends here.lasts.items here.sizes.items here.text.bytes here.length) c.self.view_is c.self.invariant
    in
    pushed-rise c.args.self.now.groups here.ends.ends here.length c.args.size _ c.args.group.now is.placed c.blocks-2.ensures.fits c.requires.sized refl

pub invariant_of-self : goal.invariant_of-self
invariant_of-self c =
    let here = c.self.inside in
    let is : IsSpelled c.args.self.now.groups here.ends.ends here.lasts.items here.sizes.items here.text.bytes here.length =
    subst (λ (v : Placed). IsSpelled v.groups here.ends.ends here.lasts.items here.sizes.items here.text.bytes here.length) c.self.view_is c.self.invariant
    in
    settled (c.args.self.now.groups ++ c.args.group.now ∷ []) _ _ _ _ _
    (one_more c.args.self.now.groups here.ends.ends here.lasts.items here.sizes.items here.text.bytes c.push.new.self.ends c.push_reserved.new.self.items c.add_blocks.new.sizes.items c.add_blocks.new.text.bytes here.length c.args.size _ _ c.args.group.now
    is c.blocks-2.ensures.fits c.requires.sized refl c.push.ensures.value c.push_reserved.ensures.items (omega (arith, c.len.ensures)) (c.add_blocks.ensures.sizes ∙ ap (λ x. here.sizes.items ++ block_sizes x) c.blocks-2.ensures.value) (c.add_blocks.ensures.bytes ∙ ap (λ x. here.text.bytes ++ joined x) c.blocks-2.ensures.value))

pub returns-clause-value : goal.returns-clause-value
returns-clause-value c =
    let here = c.self.inside in
    let is : IsSpelled c.args.self.now.groups here.ends.ends here.lasts.items here.sizes.items here.text.bytes here.length =
    subst (λ (v : Placed). IsSpelled v.groups here.ends.ends here.lasts.items here.sizes.items here.text.bytes here.length) c.self.view_is c.self.invariant
    in
    spelled_groups (c.args.self.now.groups ++ c.args.group.now ∷ []) _ _ _ _ _
    (one_more c.args.self.now.groups here.ends.ends here.lasts.items here.sizes.items here.text.bytes c.push.new.self.ends c.push_reserved.new.self.items c.add_blocks.new.sizes.items c.add_blocks.new.text.bytes here.length c.args.size _ _ c.args.group.now
    is c.blocks-2.ensures.fits c.requires.sized refl c.push.ensures.value c.push_reserved.ensures.items (omega (arith, c.len.ensures)) (c.add_blocks.ensures.sizes ∙ ap (λ x. here.sizes.items ++ block_sizes x) c.blocks-2.ensures.value) (c.add_blocks.ensures.bytes ∙ ap (λ x. here.text.bytes ++ joined x) c.blocks-2.ensures.value))
