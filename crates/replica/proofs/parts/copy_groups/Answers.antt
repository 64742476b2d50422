use Rattle.std.proofs.Common.{◌≡◌, ◌∷◌, ◌++◌, ◌+◌, ◌-◌, take, drop, ap, sym, ◌∙◌, arith}
use Rattle.std.proofs.lemmas.Grind.{common_steps}
use Rattle.std.proofs.lemmas.List.{drop_more}
use Rattle.replica.specs.Groups.{joined, text}
use Rattle.replica.proofs.Lengths.{group_size-size}
use Rattle.replica.proofs.Copying.{piece}
use Rattle.replica.proofs.parts.copy_groups.Goals as goal

pub loop-group-preserved : goal.loop-group-preserved
loop-group-preserved c =
    let groups = c.args.groups.now in
    let index = c.loop-group.group-index in
    let group = c.group-item.result in
    let cut : drop index groups ≡ group ∷ drop (index + 1) groups = drop_more groups index group c.loop-group-test.true ∙ ap (λ x. x ∷ drop (index + 1) groups) (sym c.group-item.is) in
    piece c.loop-group.out.items c.copy_group.new.out.items c.loop-group.most _ c.loop-group.from _ (joined group) (text (drop (index + 1) groups)) _
    c.in_ok-copy_group.ensures (omega (arith, c.len.ensures, c.len-before.ensures)) (c.saturating_sub-from.ensures ∙ ap (λ x. c.loop-group.from - x) (c.size.ensures.value ∙ group_size-size group))
    (ap (λ x. c.loop-group.out.items ++ take c.loop-group.most (drop c.loop-group.from (text x))) (sym cut) ∙ c.loop-group.invariant)

pub overflow_sub-most : goal.overflow_sub-most
overflow_sub-most c = grind (arith, common_steps)

pub overflow_sub-most-in-loop-group : goal.overflow_sub-most-in-loop-group
overflow_sub-most-in-loop-group c = grind (arith, common_steps)

pub returns-after-loop-group : goal.returns-after-loop-group
returns-after-loop-group c = grind (arith, common_steps)
