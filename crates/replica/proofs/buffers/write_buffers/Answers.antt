use Rattle.std.proofs.Common.{◌≡◌, [], ◌∷◌, ◌++◌, ◌+◌, ◌-◌, length, take, drop, ap, sym, ◌∙◌, arith}
use Rattle.std.proofs.lemmas.List.{drop_more, drop_all}
use Rattle.replica.specs.Groups.{joined}
use Rattle.replica.proofs.Copying.{written}
use Rattle.replica.proofs.Buffering.{written_on}
use Rattle.replica.proofs.buffers.write_buffers.Goals as goal

pub loop-buffer-preserved : goal.loop-buffer-preserved
loop-buffer-preserved c =
    let buffers = c.args.buffers.now in
    let rest = c.args.first.now ++ c.args.second.now in
    let index = c.loop-buffer.buffer-index in
    let buffer = c.buffer-item.result in
    let out = c.loop-buffer.out in
    let at = c.loop-buffer.at in
    let wrote = c.write_part-at.ensures in
    let cut : drop index buffers ≡ buffer ∷ drop (index + 1) buffers = drop_more buffers index buffer c.loop-buffer-test.true ∙ ap (λ x. x ∷ drop (index + 1) buffers) (sym c.buffer-item.is) in
    record {
      within = omega (arith, wrote.within, wrote.len);
      len = wrote.len ∙ c.loop-buffer.invariant.len;
      written =
          written_on out c.write_part-at.new.out at c.write_part-at.result c.loop-buffer.from c.saturating_sub-from.result buffer (drop (index + 1) buffers) rest _
          c.loop-buffer.invariant.within wrote.within wrote.len (wrote.written ∙ ap (λ x. take at out ++ take (length out - at) (drop c.loop-buffer.from x)) c.as_slice.ensures) (c.saturating_sub-from.ensures ∙ ap (λ x. c.loop-buffer.from - x) c.len.ensures.value)
          (ap (λ x. take at out ++ take (length out - at) (drop c.loop-buffer.from (joined x ++ rest))) (sym cut) ∙ c.loop-buffer.invariant.written);
    }

pub returns-clause-written : goal.returns-clause-written
returns-clause-written c =
    let first = c.args.first.now in
    let second = c.args.second.now in
    let out = c.loop-buffer.out in
    let at = c.loop-buffer.at in
    let from = c.loop-buffer.from in
    let new = c.write_part-at-2.new.out in
    let end = c.write_part-at-2.result in
    let wrote = c.write_part-at-2.ensures in
    let none : drop c.loop-buffer.buffer-index c.args.buffers.now ≡ [] = drop_all c.loop-buffer.buffer-index c.args.buffers.now (omega (arith, c.loop-buffer-test.false)) in
    c.write_part.ensures.written ∙
    written out new at end from c.saturating_sub.result first second _ c.loop-buffer.invariant.within wrote.within wrote.len wrote.written c.saturating_sub.ensures
    (ap (λ x. take at out ++ take (length out - at) (drop from (joined x ++ (first ++ second)))) (sym none) ∙ c.loop-buffer.invariant.written)
