use Rattle.std.proofs.Common.{◌+◌, ◌≤◌, length, take, drop, ap, sym, ◌∙◌, subst, arith}
use Rattle.std.proofs.lemmas.Bool.{leb-true}
use Rattle.replica.specs.Groups.{text}
use Rattle.replica.specs.Placed.{Placed}
use Rattle.replica.specs.Reading.{bytes_at}
use Rattle.replica.specs.Spelled.{IsSpelled}
use Rattle.replica.proofs.Copying.{filled, part_length}
use Rattle.replica.proofs.placed.PlacedGroups.read_into.Goals as goal

pub returns-clause-ok : goal.returns-clause-ok
returns-clause-ok c =
    let here = c.self.inside in
    let is : IsSpelled c.args.self.now.groups here.ends.ends here.lasts.items here.sizes.items here.text.bytes here.length =
    subst (λ (v : Placed). IsSpelled v.groups here.ends.ends here.lasts.items here.sizes.items here.text.bytes here.length) c.self.view_is c.self.invariant
    in
    let groups = c.args.self.now.groups in
    let count = length c.args.out.now in
    let enough : c.args.offset + count ≤ length (text groups) = leb-true (c.args.offset + count) (length (text groups)) (sym c.has.ensures ∙ c.if-not-has.false) in
    filled c.write_to-end.new.out (bytes_at c.args.offset count groups) c.write_to-end.result
    (c.write_to-end.ensures.written ∙ ap (λ x. take count (drop c.args.offset x)) is.spelled) (omega (arith, part_length c.args.offset count (text groups) enough, c.write_to-end.ensures.len))
