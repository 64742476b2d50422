use Rattle.std.proofs.Common.{◌≡◌, ◌-◌, ap, arith, length, length-drop, drop, ◌∙◌, ℕ, min, take}
use Rattle.commitlog.specs.Record.{piece_count, pieces}
use Rattle.commitlog.proofs.Pieces.{piece_written}
use Rattle.commitlog.proofs.writing.pieces_of.Goals as goal

pub loop-preserved : goal.loop-preserved
loop-preserved c =
    let end = c.min-end.ensures ∙ ap (λ (n : ℕ). min n 65536) c.len-in-loop.ensures.value in
    let front = c.in_ok-split_to.ensures.front ∙ ap (λ (n : ℕ). take n c.loop.rest) end in
    let more = c.in_ok-split_to.ensures.rest ∙ ap (λ (n : ℕ). drop n c.loop.rest) end in
    let left : length c.split_to.new.self ≡ length c.loop.rest - c.min-end.result = ap length c.in_ok-split_to.ensures.rest ∙ length-drop c.min-end.result c.loop.rest in
    record {
      pieces = rw c.in_ok-push.ensures.items (piece_written 65536 c.loop.made.items (piece_count c.len.result) c.loop.counter c.loop.rest c.in_ok-split_to.field-0 c.split_to.new.self (pieces c.args.text.items) c.loop-test.true front more c.loop.invariant.pieces);
      enough = omega (arith, left, end, c.loop.invariant.enough, c.loop-test.true);
    }
