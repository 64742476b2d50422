use Rattle.std.proofs.Common.{◌≡◌, ◌-◌, length, arith}
use Rattle.std.proofs.lemmas.Result.{err_from_is_err_and}
use Rattle.commitlog.specs.Record.{piece_count}
use Rattle.commitlog.specs.Reading.{joined}
use Rattle.commitlog.proofs.Loop.{piece_goes_on, piece_ends}
use Rattle.commitlog.proofs.Pieces.{piece_takes}
use Rattle.commitlog.proofs.reading.pieces_of.Goals as goal

pub returns-in_err-piece : goal.returns-in_err-piece
returns-in_err-piece c =
    let p = err_from_is_err_and c.from_residual.result c.from_residual.ensures.1 in
    rw (p.1, p.2) (piece_ends 65536 c.in_err-piece.field-0.0 c.loop.text.items (piece_count c.args.size) c.loop.counter c.loop.left c.loop.rest.now (joined 65536 (piece_count c.args.size) c.args.size c.args.blocks.now) c.loop-test.true c.in_err-piece.ensures c.loop.invariant)

pub loop-preserved : goal.loop-preserved
loop-preserved c =
    let size = (piece_takes 65536 (omega arith) c.loop.left c.loop.rest.now c.in_ok-piece.piece.now c.in_ok-piece.after.now c.in_ok-piece.ensures).1 in
    let less : c.loop.left - length c.in_ok-piece.piece.now ≡ c.loop.left - 65536 = omega (arith, size) in
    rw c.in_ok-extend_from_slice.ensures.items (piece_goes_on 65536 c.loop.text.items (piece_count c.args.size) c.loop.counter c.loop.left (c.loop.left - length c.in_ok-piece.piece.now) c.loop.rest.now c.in_ok-piece.piece.now c.in_ok-piece.after.now (joined 65536 (piece_count c.args.size) c.args.size c.args.blocks.now) c.loop-test.true c.in_ok-piece.ensures less c.loop.invariant)
