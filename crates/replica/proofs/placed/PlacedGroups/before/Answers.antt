use Rattle.std.proofs.Common.{subst}
use Rattle.replica.specs.Placed.{Placed}
use Rattle.replica.specs.Spelled.{IsSpelled}
use Rattle.replica.proofs.Placing.{placed_before}
use Rattle.replica.proofs.placed.PlacedGroups.before.Goals as goal

pub returns : goal.returns
returns c =
    let here = c.self.inside in
    let is : IsSpelled c.args.self.now.groups here.ends.ends here.lasts.items here.sizes.items here.text.bytes here.length =
    subst (λ (v : Placed). IsSpelled v.groups here.ends.ends here.lasts.items here.sizes.items here.text.bytes here.length) c.self.view_is c.self.invariant
    in
    placed_before c.args.self.now.groups here.ends.ends here.length c.args.offset c.find.result is.placed c.find.ensures.value
