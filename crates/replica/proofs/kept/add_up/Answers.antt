use Rattle.std.proofs.Common.{◌≡◌, ◌+◌, ◌∷◌, ◌++◌, [], take, drop, ap, sym, subst, ◌∙◌, arith}
use Rattle.std.specs.List.{AllByRecursion}
use Rattle.std.proofs.lemmas.List.{drop_more, take_more}
use Rattle.block_types.specs.Limits.{IsGroup}
use Rattle.replica.specs.Groups.{text_length}
use Rattle.replica.proofs.Lengths.{group_size-size}
use Rattle.replica.proofs.Placing.{All-push, length-cons, apart}
use Rattle.replica.proofs.kept.add_up.Goals as goal

pub returns-in_default-clause-value : goal.returns-in_default-clause-value
returns-in_default-clause-value c =
    let groups = c.args.groups.now in
    let index = c.loop-group.group-index in
    let group = c.group-item.result in
    let cut : drop index groups ≡ group ∷ drop (index + 1) groups = drop_more groups index group c.loop-group-test.true ∙ ap (λ x. x ∷ drop (index + 1) groups) (sym c.group-item.is) in
    apart (text_length groups) c.args.sum (omega (arith, c.loop-group.invariant.sum, ap text_length cut, length-cons group (drop (index + 1) groups), c.size.ensures.value, group_size-size group, c.in_default.ensures))

pub loop-group-preserved : goal.loop-group-preserved
loop-group-preserved c =
    let groups = c.args.groups.now in
    let index = c.loop-group.group-index in
    let group = c.group-item.result in
    let cut : drop index groups ≡ group ∷ drop (index + 1) groups = drop_more groups index group c.loop-group-test.true ∙ ap (λ x. x ∷ drop (index + 1) groups) (sym c.group-item.is) in
    record {
      sum = omega (arith, c.loop-group.invariant.sum, ap text_length cut, length-cons group (drop (index + 1) groups), c.size.ensures.value, group_size-size group, c.in-Some.ensures);
      each = subst (AllByRecursion IsGroup) (sym (take_more groups index group c.loop-group-test.true ∙ ap (λ x. take index groups ++ x ∷ []) (sym c.group-item.is))) (All-push IsGroup (take index groups) group c.loop-group.invariant.each c.blocks-blocks.ensures.fits);
    }
