use Rattle.std.proofs.Common.{◌≡◌, ℕ, ◌+◌, List, [], ◌++◌, length, ap, subst, vec_capacity, ◌∙◌, arith}
use Rattle.blocks.specs.Woven.{Weave, woven, moved, IsWoven}
use Rattle.blocks.specs.declared.woven.Piece.{Piece}
use Rattle.blocks.proofs.Weaving.{placed_more, both_value, both_woven}
use Rattle.blocks.proofs.woven.Woven.append.Goals as goal

pub move_all-requires-clause-placed : goal.move_all-requires-clause-placed
move_all-requires-clause-placed c =
    let it = c.other.inside in
    placed_more 0 it.settled c.len-4.result it.pieces.items (omega (arith, c.other.invariant.within, c.len-4.ensures)) c.other.invariant.placed

pub invariant_of-self-2 : goal.invariant_of-self-2
invariant_of-self-2 c =
    let was = c.self.inside in
    let it = c.other.inside in
    let base : c.len-3.result ≡ length was.own.items = omega (arith, c.len-3.ensures, ap length c.in_ok-reserve.ensures.items) in
    let place : length was.own.items ≡ c.len-5.result = omega (arith, c.len-5.ensures, ap length c.in_ok-reserve.ensures.items) in
    let bytes : c.put_reserved.new.out.items ≡ was.own.items ++ it.own.items = c.put_reserved.ensures.items ∙ ap (λ (l : List ℕ). l ++ c.deref.result.now) c.in_ok-reserve.ensures.items ∙ ap (λ (l : List ℕ). was.own.items ++ l) c.deref.ensures.value in
    let shifted : c.move_all.new.pieces.items ≡ moved (length was.own.items) it.pieces.items = c.move_all.ensures.items ∙ ap (λ (n : ℕ). moved n it.pieces.items) base in
    let joined : c.append_pieces.new.pieces.items ≡ c.reserve-2.new.self.items ++ c.move_all.new.pieces.items = c.append_pieces.ensures.0 in
    let alls : c.append_pieces.new.pieces.items ≡ was.pieces.items ++ c.move_all.new.pieces.items = joined ∙ ap (λ (l : List Piece). l ++ c.move_all.new.pieces.items) c.in_ok-reserve-2.ensures.items in
    subst (λ (n : ℕ). IsWoven c.put_reserved.new.out.items c.append_pieces.new.pieces.items (n + it.settled) c.in_ok-len.len (vec_capacity c.make_room.new.spare)) place (both_woven was.own.items it.own.items c.put_reserved.new.out.items was.pieces.items it.pieces.items c.move_all.new.pieces.items c.append_pieces.new.pieces.items was.settled was.len _ it.settled it.len _ c.in_ok-len.len _ c.self.invariant c.other.invariant bytes shifted alls c.in_ok-len.ensures.sum c.in_ok-len.ensures.bound c.in_ok-make_room.ensures.ok)

pub returns-clause-ok : goal.returns-clause-ok
returns-clause-ok c =
    let was = c.self.inside in
    let it = c.other.inside in
    let base : c.len-3.result ≡ length was.own.items = omega (arith, c.len-3.ensures, ap length c.in_ok-reserve.ensures.items) in
    let bytes : c.put_reserved.new.out.items ≡ was.own.items ++ it.own.items = c.put_reserved.ensures.items ∙ ap (λ (l : List ℕ). l ++ c.deref.result.now) c.in_ok-reserve.ensures.items ∙ ap (λ (l : List ℕ). was.own.items ++ l) c.deref.ensures.value in
    let shifted : c.move_all.new.pieces.items ≡ moved (length was.own.items) it.pieces.items = c.move_all.ensures.items ∙ ap (λ (n : ℕ). moved n it.pieces.items) base in
    let joined : c.append_pieces.new.pieces.items ≡ c.reserve-2.new.self.items ++ c.move_all.new.pieces.items = c.append_pieces.ensures.0 in
    let alls : c.append_pieces.new.pieces.items ≡ was.pieces.items ++ moved (length was.own.items) it.pieces.items = joined ∙ ap (λ (l : List Piece). l ++ c.move_all.new.pieces.items) c.in_ok-reserve-2.ensures.items ∙ ap (λ (l : List Piece). was.pieces.items ++ l) shifted in (
      both_value was.own.items it.own.items c.put_reserved.new.out.items was.pieces.items it.pieces.items c.append_pieces.new.pieces.items was.settled was.len _ c.self.invariant bytes alls
          ∙ ap (λ (w : Weave). w.bytes ++ woven 0 it.own.items it.pieces.items) c.self.view_is
          ∙ ap (λ (w : Weave). c.args.self.now.bytes ++ w.bytes) c.other.view_is,
      ap (λ (l : List Piece). woven 0 c.clear.new.self.items l) c.append_pieces.ensures.1 ∙ ap (λ (l : List ℕ). woven 0 l []) c.clear.ensures.items,
    )
