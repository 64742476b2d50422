use Rattle.std.proofs.Common.{length}
use Rattle.blocks.proofs.Weaving.{placed_more}
use Rattle.blocks.proofs.woven.Woven.join.Goals as goal

pub join_into-requires-clause-placed : goal.join_into-requires-clause-placed
join_into-requires-clause-placed c =
    let was = c.self.inside in
    rw (c.deref.ensures.value, c.deref-2.ensures.value) (placed_more 0 was.settled (length was.own.items) was.pieces.items c.self.invariant.within c.self.invariant.placed)
