use Rattle.std.proofs.Common.{arith, ap, length, length-append, drop, slice_range, length-drop}
use Rattle.blocks.specs.Woven.{woven}
use Rattle.blocks.proofs.Weaving.{next_placed, next_length, last_length}
use Rattle.blocks.proofs.woven.join_into.Goals as goal

pub slice_bounds-put_reserved-end : goal.slice_bounds-put_reserved-end
slice_bounds-put_reserved-end c = (next_placed c.args.own.now c.args.pieces.now c.loop-piece.piece-index c.piece-item.result c.piece-item.is c.loop-piece-test.true c.loop-piece.from c.loop-piece.invariant.placed).1

pub put_reserved-requires : goal.put_reserved-requires
put_reserved-requires c =
    omega (arith, c.requires.room, c.loop-piece.invariant.room, ap length c.loop-piece.invariant.rest, next_length c.args.own.now c.args.pieces.now c.loop-piece.piece-index c.piece-item.result c.piece-item.is c.loop-piece-test.true c.loop-piece.from, length-append c.loop-piece.out.items (woven c.loop-piece.from c.args.own.now (drop c.loop-piece.piece-index c.args.pieces.now)), length-append c.args.out.now.items (woven 0 c.args.own.now c.args.pieces.now))

pub put_reserved-requires-in-loop-piece : goal.put_reserved-requires-in-loop-piece
put_reserved-requires-in-loop-piece c =
    omega (arith, c.requires.room, c.loop-piece.invariant.room, c.put_reserved.ensures.capacity, ap length c.put_reserved.ensures.items, ap length c.as_slice.ensures, ap length c.loop-piece.invariant.rest, next_length c.args.own.now c.args.pieces.now c.loop-piece.piece-index c.piece-item.result c.piece-item.is c.loop-piece-test.true c.loop-piece.from, length-append c.loop-piece.out.items (woven c.loop-piece.from c.args.own.now (drop c.loop-piece.piece-index c.args.pieces.now)), length-append c.args.out.now.items (woven 0 c.args.own.now c.args.pieces.now), length-append c.loop-piece.out.items (slice_range c.args.own.now c.loop-piece.from c.piece-item.result.behind))

pub put_reserved-requires-2 : goal.put_reserved-requires-2
put_reserved-requires-2 c =
    omega (arith, c.requires.room, c.loop-piece.invariant.room, ap length c.loop-piece.invariant.rest, last_length c.args.own.now c.args.pieces.now c.loop-piece.piece-index c.loop-piece.from (omega (arith, c.loop-piece-test.false)), length-append c.loop-piece.out.items (woven c.loop-piece.from c.args.own.now (drop c.loop-piece.piece-index c.args.pieces.now)), length-append c.args.out.now.items (woven 0 c.args.own.now c.args.pieces.now), length-drop c.loop-piece.from c.args.own.now)
