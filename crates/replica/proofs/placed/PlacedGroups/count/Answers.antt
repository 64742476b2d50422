use Rattle.std.proofs.Common.{length, ap, subst, ◌∙◌}
use Rattle.replica.specs.Placed.{Placed}
use Rattle.replica.specs.Spelled.{IsSpelled}
use Rattle.replica.proofs.Placing.{ends-length}
use Rattle.replica.proofs.placed.PlacedGroups.count.Goals as goal

pub returns : goal.returns
returns c =
    let here = c.self.inside in
    let is : IsSpelled c.args.self.now.groups here.ends.ends here.lasts.items here.sizes.items here.text.bytes here.length =
    subst (λ (v : Placed). IsSpelled v.groups here.ends.ends here.lasts.items here.sizes.items here.text.bytes here.length) c.self.view_is c.self.invariant
    in
    c.len.ensures.value ∙ ap length is.placed.ends ∙ ends-length 0 c.args.self.now.groups
