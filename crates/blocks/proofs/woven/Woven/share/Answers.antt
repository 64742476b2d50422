use Rattle.std.proofs.Common.{◌≡◌, ℕ, List, ◌++◌, length, ap, subst, vec_capacity, ◌∙◌, arith}
use Rattle.blocks.specs.Woven.{Weave, woven, IsWoven}
use Rattle.blocks.specs.declared.woven.Piece.{Piece}
use Rattle.blocks.proofs.Weaving.{placed_more, piece_more, piece_woven}
use Rattle.blocks.proofs.woven.Woven.share.Goals as goal

pub invariant_of-self-2 : goal.invariant_of-self-2
invariant_of-self-2 c =
    let was = c.self.inside in
    let behind : c.len-3.result ≡ length was.own.items = omega (arith, c.len-3.ensures) in
    let settled : length was.own.items ≡ c.len-self-inside.result = omega (arith, c.len-self-inside.ensures) in
    let piece : Piece = record { behind = c.len-3.result; bytes = c.in_ok-clone.field-0 } in
    subst (λ (n : ℕ). IsWoven was.own.items c.push.new.self.items n c.in_ok-len.len (vec_capacity c.make_room.new.spare)) settled (piece_woven was.own.items was.pieces.items c.push.new.self.items piece was.settled was.len _ c.in_ok-len.len _ c.self.invariant c.in_ok-push.ensures.items behind (omega (arith, c.in_ok-len.ensures.sum, c.len-2.ensures.value, ap length c.in_ok-clone.ensures.cases)) c.in_ok-len.ensures.bound c.in_ok-make_room.ensures.ok)

pub returns-clause-ok : goal.returns-clause-ok
returns-clause-ok c =
    let was = c.self.inside in
    let behind : c.len-3.result ≡ length was.own.items = omega (arith, c.len-3.ensures) in
    let piece : Piece = record { behind = c.len-3.result; bytes = c.in_ok-clone.field-0 } in
    ap (λ (l : List Piece). woven 0 was.own.items l) c.in_ok-push.ensures.items
    ∙ piece_more 0 was.own.items was.pieces.items piece behind (placed_more 0 was.settled (length was.own.items) was.pieces.items c.self.invariant.within c.self.invariant.placed)
    ∙ ap (λ (l : List ℕ). woven 0 was.own.items was.pieces.items ++ l) c.in_ok-clone.ensures.cases
    ∙ ap (λ (w : Weave). w.bytes ++ c.args.bytes.now) c.self.view_is
