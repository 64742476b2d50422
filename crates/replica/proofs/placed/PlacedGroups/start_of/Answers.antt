use Rattle.std.proofs.Common.{subst}
use Rattle.replica.specs.Placed.{Placed}
use Rattle.replica.specs.Spelled.{IsSpelled}
use Rattle.replica.proofs.Placing.{starts, start_within}
use Rattle.replica.proofs.placed.PlacedGroups.start_of.Goals as goal

pub end_at-requires-clause-within : goal.end_at-requires-clause-within
end_at-requires-clause-within c =
    let here = c.self.inside in
    let is : IsSpelled c.args.self.now.groups here.ends.ends here.lasts.items here.sizes.items here.text.bytes here.length =
    subst (λ (v : Placed). IsSpelled v.groups here.ends.ends here.lasts.items here.sizes.items here.text.bytes here.length) c.self.view_is c.self.invariant
    in
    start_within c.args.self.now.groups here.ends.ends here.length c.args.index c.in-Some.last is.placed c.requires c.in-Some.ensures.0 c.in-Some.ensures.1

pub returns-in-Some : goal.returns-in-Some
returns-in-Some c =
    let here = c.self.inside in
    let is : IsSpelled c.args.self.now.groups here.ends.ends here.lasts.items here.sizes.items here.text.bytes here.length =
    subst (λ (v : Placed). IsSpelled v.groups here.ends.ends here.lasts.items here.sizes.items here.text.bytes here.length) c.self.view_is c.self.invariant
    in
    starts _ _ _ c.args.index _ _ is.placed c.requires c.in-Some.ensures.0 c.in-Some.ensures.1 c.end_at.ensures.value
