use Rattle.std.proofs.Common.{ℕ, List, ◌++◌, length, ap, ◌∙◌, arith}
use Rattle.blocks.specs.Woven.{Weave, woven}
use Rattle.blocks.proofs.Weaving.{placed_more, own_more, own_woven}
use Rattle.blocks.proofs.woven.Woven.put.Goals as goal

pub invariant_of-self-2 : goal.invariant_of-self-2
invariant_of-self-2 c =
    let was = c.self.inside in
    own_woven was.own.items c.args.bytes.now c.extend_from_slice.new.self.items was.pieces.items was.settled was.len _ c.in_ok-len.len _ c.self.invariant c.in_ok-extend_from_slice.ensures.items c.in_ok-len.ensures.sum c.in_ok-len.ensures.bound (λ some. c.in_ok-make_room_for.ensures.ok (omega (arith, some, c.len.ensures)))

pub returns-clause-ok : goal.returns-clause-ok
returns-clause-ok c =
    let was = c.self.inside in
    ap (λ (l : List ℕ). woven 0 l was.pieces.items) c.in_ok-extend_from_slice.ensures.items
    ∙ own_more 0 was.own.items c.args.bytes.now was.pieces.items (placed_more 0 was.settled (length was.own.items) was.pieces.items c.self.invariant.within c.self.invariant.placed)
    ∙ ap (λ (w : Weave). w.bytes ++ c.args.bytes.now) c.self.view_is
