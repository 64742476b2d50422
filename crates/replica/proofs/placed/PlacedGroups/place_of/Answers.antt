use Rattle.std.proofs.Common.{◌≡◌, ◌<◌, take, sym, ap, subst, ◌∙◌, arith}
use Rattle.replica.specs.Groups.{text_length}
use Rattle.replica.specs.Placed.{Placed, NoneEmpty}
use Rattle.replica.specs.Reading.{groups_to}
use Rattle.replica.proofs.Placing.{boundary, no_boundary}
use Rattle.replica.proofs.placed.PlacedGroups.place_of.Goals as goal

pub returns-then-start_of-upto-clause-found : goal.returns-then-start_of-upto-clause-found
returns-then-start_of-upto-clause-found c =
    let groups = c.args.self.now.groups in
    let index = c.before-index.result in
    let full = subst (λ (v : Placed). NoneEmpty v.groups) c.self.view_is c.self.invariant.placed.full in
    let at : text_length (take index groups) ≡ c.args.upto = sym c.start_of.ensures ∙ c.if-start_of-upto.true in
    ap (λ n. groups_to n groups) (sym at) ∙ boundary groups index c.before-index.ensures.within full

pub returns-else-start_of-upto-clause-found : goal.returns-else-start_of-upto-clause-found
returns-else-start_of-upto-clause-found c =
    let place = c.before-index.ensures in
    let below : text_length (take c.before-index.result c.args.self.now.groups) < c.args.upto = omega (arith, place.start, c.start_of.ensures, c.if-start_of-upto.false) in
    no_boundary c.args.self.now.groups c.before-index.result c.args.upto place.within below place.next
