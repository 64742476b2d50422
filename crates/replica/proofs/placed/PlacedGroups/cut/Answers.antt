use Rattle.std.proofs.Common.{take, ap, sym, ◌∙◌, subst, arith}
use Rattle.replica.specs.Groups.{text_length}
use Rattle.replica.specs.Placed.{Placed, found_or}
use Rattle.replica.specs.Spelled.{IsSpelled}
use Rattle.replica.proofs.Placing.{front_within}
use Rattle.replica.proofs.Spelling.{first_ones, settled, spelled_groups}
use Rattle.replica.proofs.placed.PlacedGroups.cut.Goals as goal

pub invariant_of-self : goal.invariant_of-self
invariant_of-self c =
    let here = c.self.inside in
    let is : IsSpelled c.args.self.now.groups here.ends.ends here.lasts.items here.sizes.items here.text.bytes here.length =
    subst (λ (v : Placed). IsSpelled v.groups here.ends.ends here.lasts.items here.sizes.items here.text.bytes here.length) c.self.view_is c.self.invariant
    in
    settled (take c.in-Some.index c.args.self.now.groups) _ _ _ _ c.args.upto
    (first_ones c.args.self.now.groups here.ends.ends here.lasts.items here.sizes.items here.text.bytes c.truncate-2.new.self.ends c.truncate-3.new.self.items c.truncate-4.new.self.items c.truncate.new.self.bytes here.length c.in-Some.index c.args.upto c.blocks_before-blocks.result
    is c.in-Some.ensures.start c.blocks_before-blocks.ensures c.truncate-2.ensures c.truncate-3.ensures.items c.truncate-4.ensures.items c.truncate.ensures)

pub returns-clause-value : goal.returns-clause-value
returns-clause-value c =
    let here = c.self.inside in
    let is : IsSpelled c.args.self.now.groups here.ends.ends here.lasts.items here.sizes.items here.text.bytes here.length =
    subst (λ (v : Placed). IsSpelled v.groups here.ends.ends here.lasts.items here.sizes.items here.text.bytes here.length) c.self.view_is c.self.invariant
    in
    spelled_groups (take c.in-Some.index c.args.self.now.groups) _ _ _ _ c.args.upto
    (first_ones c.args.self.now.groups here.ends.ends here.lasts.items here.sizes.items here.text.bytes c.truncate-2.new.self.ends c.truncate-3.new.self.items c.truncate-4.new.self.items c.truncate.new.self.bytes here.length c.in-Some.index c.args.upto c.blocks_before-blocks.result
    is c.in-Some.ensures.start c.blocks_before-blocks.ensures c.truncate-2.ensures c.truncate-3.ensures.items c.truncate-4.ensures.items c.truncate.ensures) ∙
    sym (ap (λ x. found_or x c.args.self.now.groups) c.in-Some.ensures.found)

pub returns-clause-shorter : goal.returns-clause-shorter
returns-clause-shorter c =
    let here = c.self.inside in
    let is : IsSpelled c.args.self.now.groups here.ends.ends here.lasts.items here.sizes.items here.text.bytes here.length =
    subst (λ (v : Placed). IsSpelled v.groups here.ends.ends here.lasts.items here.sizes.items here.text.bytes here.length) c.self.view_is c.self.invariant
    in
    let left =
    spelled_groups (take c.in-Some.index c.args.self.now.groups) _ _ _ _ c.args.upto
    (first_ones c.args.self.now.groups here.ends.ends here.lasts.items here.sizes.items here.text.bytes c.truncate-2.new.self.ends c.truncate-3.new.self.items c.truncate-4.new.self.items c.truncate.new.self.bytes here.length c.in-Some.index c.args.upto c.blocks_before-blocks.result
    is c.in-Some.ensures.start c.blocks_before-blocks.ensures c.truncate-2.ensures c.truncate-3.ensures.items c.truncate-4.ensures.items c.truncate.ensures)
    in
    omega (arith, ap text_length left, front_within c.args.self.now.groups c.in-Some.index)
