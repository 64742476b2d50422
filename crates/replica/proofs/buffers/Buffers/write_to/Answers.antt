use Rattle.std.proofs.Common.{length, take, ap, ◌∙◌, arith}
use Rattle.replica.specs.Buffers.{Text}
use Rattle.replica.proofs.Buffering.{left}
use Rattle.replica.proofs.buffers.Buffers.write_to.Goals as goal

pub returns-clause-written : goal.returns-clause-written
returns-clause-written c =
    let k = c.min-skipped.result in
    c.write_buffers.ensures.written ∙ ap (λ x. take (length c.args.out.now) x) (left c.self.inside.full.items c.deref.result.now c.self.inside.part c.self.inside.last.bytes c.as_slice.result.now c.as_slice-2.result.now c.args.self.now.bytes c.args.from k c.self.invariant c.deref.ensures.value c.as_slice.ensures c.as_slice-2.ensures
    (omega (arith, c.min-skipped.ensures, c.len.ensures, c.deref.ensures.len)) (omega (arith, c.min-skipped.ensures)) (ap (λ (v : Text). v.bytes) c.self.view_is))
