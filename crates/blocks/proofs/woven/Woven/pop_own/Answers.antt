use Rattle.std.proofs.Common.{◌∷◌, [], ap, sym, ◌∙◌, arith, length, length-append}
use Rattle.blocks.specs.Woven.{Weave, woven}
use Rattle.blocks.proofs.Weaving.{less_value, less_woven}
use Rattle.blocks.proofs.woven.Woven.pop_own.Goals as goal

pub overflow_sub-self : goal.overflow_sub-self
overflow_sub-self c =
    let was = c.self.inside in
    omega (arith, c.self.invariant.counted, ap length (less_value was.own.items c.take_last-last.new.self.items c.take_last-last.result was.pieces.items was.settled was.len _ c.self.invariant c.take_last-last.ensures.items (omega (arith, c.if-len-self.false, c.len.ensures))), length-append (woven 0 c.take_last-last.new.self.items was.pieces.items) (c.take_last-last.result ∷ []))

pub invariant_of-self : goal.invariant_of-self
invariant_of-self c =
    let was = c.self.inside in
    less_woven was.own.items c.take_last-last.new.self.items c.take_last-last.result was.pieces.items was.settled was.len _ c.self.invariant c.take_last-last.ensures.items (omega (arith, c.if-len-self.false, c.len.ensures))

pub returns-clause-some : goal.returns-clause-some
returns-clause-some c =
    let was = c.self.inside in
    sym (ap (λ (w : Weave). w.bytes) c.self.view_is) ∙ less_value was.own.items c.take_last-last.new.self.items c.take_last-last.result was.pieces.items was.settled was.len _ c.self.invariant c.take_last-last.ensures.items (omega (arith, c.if-len-self.false, c.len.ensures))
