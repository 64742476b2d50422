use Rattle.std.proofs.Common.{◌≡◌, ◌*◌, ◌-◌, ◌++◌, length, take, drop, ap, ◌∙◌, arith}
use Rattle.std.proofs.lemmas.Result.{on_ok_weaker}
use Rattle.replica.specs.Buffers.{Text}
use Rattle.replica.specs.Groups.{joined}
use Rattle.replica.proofs.Buffering.{left}
use Rattle.replica.proofs.buffers.Buffers.copy_to.Goals as goal

pub returns : goal.returns
returns c =
    let out = c.args.out.now.items in
    let k = c.min-skipped.result in
    let held = c.deref.result.now in
    let p = c.as_slice.result.now in
    let l = c.as_slice-2.result.now in
    on_ok_weaker c.copy_buffers.result
    (λ (e : c.copy_buffers.new.out.items ≡ out ++ take c.args.most (drop (c.args.from - k * 65536) (joined (take (length held - k) (drop k held)) ++ (p ++ l)))).
    e ∙ ap (λ x. out ++ take c.args.most x) (left c.self.inside.full.items held c.self.inside.part c.self.inside.last.bytes p l c.args.self.now.bytes c.args.from k c.self.invariant c.deref.ensures.value c.as_slice.ensures c.as_slice-2.ensures (omega (arith, c.min-skipped.ensures, c.len.ensures, c.deref.ensures.len)) (omega (arith, c.min-skipped.ensures)) (ap (λ (v : Text). v.bytes) c.self.view_is)))
    c.copy_buffers.ensures
