use Rattle.std.proofs.Common.{◌≡◌, ◌∷◌, ◌++◌, ◌+◌, ◌-◌, take, drop, ap, sym, ◌∙◌, arith}
use Rattle.std.proofs.lemmas.Grind.{common_steps}
use Rattle.std.proofs.lemmas.List.{drop_more}
use Rattle.replica.specs.Groups.{joined}
use Rattle.replica.proofs.Copying.{piece}
use Rattle.replica.proofs.parts.copy_group.Goals as goal

pub loop-block-preserved : goal.loop-block-preserved
loop-block-preserved c =
    let blocks = c.blocks-block-items.result.now in
    let index = c.loop-block.block-index in
    let block = c.block-item.result in
    let cut : drop index blocks ≡ block ∷ drop (index + 1) blocks = drop_more blocks index block c.loop-block-test.true ∙ ap (λ x. x ∷ drop (index + 1) blocks) (sym c.block-item.is) in
    piece c.loop-block.out.items c.copy_part.new.out.items c.loop-block.most _ c.loop-block.from _ block (joined (drop (index + 1) blocks)) _
    (c.in_ok-copy_part.ensures ∙ ap (λ x. c.loop-block.out.items ++ take c.loop-block.most (drop c.loop-block.from x)) c.as_slice.ensures) (omega (arith, c.len-in-loop-block.ensures, c.len-before.ensures)) (c.saturating_sub-from.ensures ∙ ap (λ x. c.loop-block.from - x) c.len.ensures.value)
    (ap (λ x. c.loop-block.out.items ++ take c.loop-block.most (drop c.loop-block.from (joined x))) (sym cut) ∙ c.loop-block.invariant)

pub overflow_sub-most : goal.overflow_sub-most
overflow_sub-most c = grind (arith, common_steps)

pub overflow_sub-most-in-loop-block : goal.overflow_sub-most-in-loop-block
overflow_sub-most-in-loop-block c = grind (arith, common_steps)

pub returns : goal.returns
returns c = grind (arith, common_steps)
