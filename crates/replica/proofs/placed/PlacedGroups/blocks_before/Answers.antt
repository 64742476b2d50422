use Rattle.std.proofs.Common.{length, ap, subst, arith}
use Rattle.replica.specs.Placed.{Placed}
use Rattle.replica.specs.Spelled.{IsSpelled}
use Rattle.replica.proofs.Spelling.{last_at, lasts-length}
use Rattle.replica.proofs.placed.PlacedGroups.blocks_before.Goals as goal

pub index-requires : goal.index-requires
index-requires c =
    let here = c.self.inside in
    let is : IsSpelled c.args.self.now.groups here.ends.ends here.lasts.items here.sizes.items here.text.bytes here.length =
    subst (λ (v : Placed). IsSpelled v.groups here.ends.ends here.lasts.items here.sizes.items here.text.bytes here.length) c.self.view_is c.self.invariant
    in
    omega (arith, c.requires, c.in-Some.ensures.0, c.in-Some.ensures.1, ap length is.counted, lasts-length 0 c.args.self.now.groups)

pub returns-in-Some : goal.returns-in-Some
returns-in-Some c =
    let here = c.self.inside in
    let is : IsSpelled c.args.self.now.groups here.ends.ends here.lasts.items here.sizes.items here.text.bytes here.length =
    subst (λ (v : Placed). IsSpelled v.groups here.ends.ends here.lasts.items here.sizes.items here.text.bytes here.length) c.self.view_is c.self.invariant
    in
    last_at c.args.self.now.groups here.ends.ends here.lasts.items here.sizes.items here.text.bytes here.length c.args.index _ _ is c.requires c.in-Some.ensures.0 c.in-Some.ensures.1 c.index.ensures
