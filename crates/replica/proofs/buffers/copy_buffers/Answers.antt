use Rattle.std.proofs.Common.{◌≡◌, ◌∷◌, ◌++◌, ◌+◌, ◌-◌, take, drop, ap, sym, ◌∙◌, arith}
use Rattle.std.proofs.lemmas.List.{drop_more}
use Rattle.replica.specs.Groups.{joined}
use Rattle.replica.proofs.Buffering.{copied_on}
use Rattle.replica.proofs.buffers.copy_buffers.Goals as goal

pub loop-buffer-preserved : goal.loop-buffer-preserved
loop-buffer-preserved c =
    let buffers = c.args.buffers.now in
    let rest = c.args.first.now ++ c.args.second.now in
    let index = c.loop-buffer.buffer-index in
    let buffer = c.buffer-item.result in
    let cut : drop index buffers ≡ buffer ∷ drop (index + 1) buffers = drop_more buffers index buffer c.loop-buffer-test.true ∙ ap (λ x. x ∷ drop (index + 1) buffers) (sym c.buffer-item.is) in
    copied_on c.loop-buffer.out.items c.copy_part.new.out.items c.loop-buffer.most _ c.loop-buffer.from _ buffer (drop (index + 1) buffers) rest _
    (c.in_ok-copy_part.ensures ∙ ap (λ x. c.loop-buffer.out.items ++ take c.loop-buffer.most (drop c.loop-buffer.from x)) c.as_slice.ensures) (omega (arith, c.len-in-loop-buffer.ensures, c.len-before.ensures)) (c.saturating_sub-from.ensures ∙ ap (λ x. c.loop-buffer.from - x) c.len.ensures.value)
    (ap (λ x. c.loop-buffer.out.items ++ take c.loop-buffer.most (drop c.loop-buffer.from (joined x ++ rest))) (sym cut) ∙ c.loop-buffer.invariant)
