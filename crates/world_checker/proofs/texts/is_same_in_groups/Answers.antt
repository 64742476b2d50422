use Rattle.std.proofs.Common.{◌≡◌, length, ℕ, ◌+◌, ◌++◌, drop, sym, ap, subst, ◌∙◌, arith}
use Rattle.std.proofs.lemmas.Grind.{common_steps}
use Rattle.std.specs.Bool.{Decides}
use Rattle.std.proofs.lemmas.Bool.Decides.{not_from_Decides}
use Rattle.replica.specs.Groups.{joined, text}
use Rattle.replica.proofs.Lengths.{group_size-size}
use Rattle.model_streams.specs.Honest.{SameWhereBoth}
use Rattle.world_checker.proofs.Showing.{not_so, shown_first, shown_rest, shown_all, next_of}
use Rattle.world_checker.proofs.texts.is_same_in_groups.Goals as goal

pub returns-then-not-is_same_in_blocks : goal.returns-then-not-is_same_in_blocks
returns-then-not-is_same_in_blocks c =
    let xs = c.args.bytes.now in
    let at = c.loop-group.at in
    let rest = text (drop (c.loop-group.group-index + 1) c.args.groups.now) in
    let here : text (drop c.loop-group.group-index c.args.groups.now) ≡ joined c.group-item.result ++ rest = ap text (next_of c.args.groups.now c.loop-group.group-index c.group-item.result c.loop-group-test.true c.group-item.is) in
    let tells : Decides c.is_same_in_blocks.result (SameWhereBoth c.args.offset xs at (joined c.group-item.result)) = subst (λ l. Decides c.is_same_in_blocks.result (SameWhereBoth c.args.offset xs at (joined l))) c.blocks-in-loop-group.ensures.value c.is_same_in_blocks.ensures in
    not_so (λ s. not_from_Decides c.is_same_in_blocks.result tells c.if-not-is_same_in_blocks.true (shown_first c.args.offset xs at (joined c.group-item.result) rest (subst (SameWhereBoth c.args.offset xs at) here (c.loop-group.invariant.0 s))))

pub loop-group-preserved : goal.loop-group-preserved
loop-group-preserved c =
    let o = c.args.offset in
    let xs = c.args.bytes.now in
    let at = c.loop-group.at in
    let rest = text (drop (c.loop-group.group-index + 1) c.args.groups.now) in
    let here : text (drop c.loop-group.group-index c.args.groups.now) ≡ joined c.group-item.result ++ rest = ap text (next_of c.args.groups.now c.loop-group.group-index c.group-item.result c.loop-group-test.true c.group-item.is) in
    let tells : Decides c.is_same_in_blocks.result (SameWhereBoth o xs at (joined c.group-item.result)) = subst (λ l. Decides c.is_same_in_blocks.result (SameWhereBoth c.args.offset xs at (joined l))) c.blocks-in-loop-group.ensures.value c.is_same_in_blocks.ensures in
    let sized : at + length (joined c.group-item.result) ≡ at + c.from-at.result = ap (λ (m : ℕ). at + m) (sym (group_size-size c.group-item.result) ∙ (sym c.size.ensures.value ∙ sym c.from-at.ensures)) in (
      (λ s. subst (λ n. SameWhereBoth o xs n rest) sized (shown_rest o xs at (joined c.group-item.result) rest (subst (SameWhereBoth o xs at) here (c.loop-group.invariant.0 s)))),
      (λ s. c.loop-group.invariant.1 (subst (SameWhereBoth o xs at) (sym here)
          (shown_all o xs at (joined c.group-item.result) rest (tells.0 c.if-not-is_same_in_blocks.false) (subst (λ n. SameWhereBoth o xs n rest) (sym sized) s)))),
    )

pub returns : goal.returns
returns c = grind (arith, common_steps)
