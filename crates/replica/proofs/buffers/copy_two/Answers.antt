use Rattle.std.proofs.Common.{◌≡◌, ◌-◌, ◌++◌, take, drop, refl, ◌∙◌, arith}
use Rattle.std.proofs.lemmas.Result.{on_ok_weaker}
use Rattle.replica.proofs.Copying.{piece}
use Rattle.replica.proofs.buffers.copy_two.Goals as goal

pub returns : goal.returns
returns c =
    let out = c.args.out.now.items in
    let first = c.args.first.now in
    let second = c.args.second.now in
    on_ok_weaker c.copy_part-2.result
    (λ (e : c.copy_part-2.new.out.items ≡ c.copy_part.new.out.items ++ take (c.args.most - (c.len.result - c.len-before.result)) (drop c.saturating_sub.result second)).
    e ∙ piece out c.copy_part.new.out.items c.args.most _ c.args.from c.saturating_sub.result first second (out ++ take c.args.most (drop c.args.from (first ++ second))) c.in_ok-copy_part.ensures (omega (arith, c.len.ensures, c.len-before.ensures)) c.saturating_sub.ensures refl)
    c.copy_part-2.ensures
