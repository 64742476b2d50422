use Rattle.std.proofs.Common.{◌≡◌, ◌<◌, ◌≤◌, ◌/◌, ◌%◌, ◌+◌, ◌-◌, ◌++◌, length, take, drop, ap, ◌∙◌, arith}
use Rattle.replica.specs.Buffers.{Text}
use Rattle.replica.proofs.Buffering.{all-at, within_one}
use Rattle.replica.proofs.buffers.Buffers.piece.Goals as goal

pub slice-requires-clause-in_bounds : goal.slice-requires-clause-in_bounds
slice-requires-clause-in_bounds c =
    let full = c.self.inside.full.items in
    let within : c.args.from / 65536 < length full = omega (arith, c.if-index-len.false, c.len.ensures) in
    let size : length c.index-buffer.result.now ≡ 65536 = ap length c.index-buffer.ensures ∙ all-at 65536 (c.args.from / 65536) full c.index-buffer.result.now c.self.invariant within in
    omega (arith, size, c.if-most-start.false)

pub returns : goal.returns
returns c =
    let full = c.self.inside.full.items in
    let from = c.args.from in
    let most = c.args.most in
    let within : from / 65536 < length full = omega (arith, c.if-index-len.false, c.len.ensures) in
    let fits : from % 65536 + most ≤ 65536 = omega (arith, c.if-most-start.false) in
    let span : from % 65536 + most - from % 65536 ≡ most = omega arith in
    c.in_ok-slice.ensures.ok ∙ ap (λ n. take n (drop (from % 65536) c.index-buffer.result.now)) span ∙
    within_one full (c.self.inside.part ++ c.self.inside.last.bytes) c.args.self.now.bytes c.index-buffer.result.now from most c.self.invariant within c.index-buffer.ensures fits (ap (λ (v : Text). v.bytes) c.self.view_is)
