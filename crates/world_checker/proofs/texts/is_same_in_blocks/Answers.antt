use Rattle.std.proofs.Common.{◌≡◌, length, ℕ, ◌+◌, List, ◌++◌, drop, sym, ap, subst, arith}
use Rattle.std.proofs.lemmas.Grind.{common_steps}
use Rattle.std.specs.Bool.{Decides}
use Rattle.std.specs.List.{AllByRecursion}
use Rattle.block_types.specs.Limits.{IsBlock}
use Rattle.std.proofs.lemmas.Bool.Decides.{not_from_Decides}
use Rattle.replica.specs.Groups.{joined}
use Rattle.model_streams.specs.Honest.{SameWhereBoth}
use Rattle.world_checker.proofs.Showing.{not_so, shown_first, shown_rest, shown_all, next_of}
use Rattle.world_checker.proofs.texts.is_same_in_blocks.Goals as goal

pub returns-then-not-is_same_where_both : goal.returns-then-not-is_same_where_both
returns-then-not-is_same_where_both c =
    let xs = c.args.bytes.now in
    let at = c.loop-block.at in
    let rest = joined (drop (c.loop-block.block-index + 1) c.args.blocks.now) in
    let here : joined (drop c.loop-block.block-index c.args.blocks.now) ≡ c.block-item.result ++ rest = ap joined (next_of c.args.blocks.now c.loop-block.block-index c.block-item.result c.loop-block-test.true c.block-item.is) in
    let tells : Decides c.is_same_where_both.result (SameWhereBoth c.args.offset xs at (c.block-item.result)) = subst (λ m. Decides c.is_same_where_both.result (SameWhereBoth m xs at c.block-item.result)) c.from-start.ensures (subst (λ (l : List ℕ). Decides c.is_same_where_both.result (SameWhereBoth c.from-start.result xs at l)) c.as_slice-shown.ensures c.is_same_where_both.ensures) in
    not_so (λ s. not_from_Decides c.is_same_where_both.result tells c.if-not-is_same_where_both.true (shown_first c.args.offset xs at (c.block-item.result) rest (subst (SameWhereBoth c.args.offset xs at) here (c.loop-block.invariant.same.0 s))))

pub loop-block-preserved : goal.loop-block-preserved
loop-block-preserved c =
    let o = c.args.offset in
    let xs = c.args.bytes.now in
    let at = c.loop-block.at in
    let rest = joined (drop (c.loop-block.block-index + 1) c.args.blocks.now) in
    let here : joined (drop c.loop-block.block-index c.args.blocks.now) ≡ c.block-item.result ++ rest = ap joined (next_of c.args.blocks.now c.loop-block.block-index c.block-item.result c.loop-block-test.true c.block-item.is) in
    let tells : Decides c.is_same_where_both.result (SameWhereBoth o xs at (c.block-item.result)) = subst (λ m. Decides c.is_same_where_both.result (SameWhereBoth m xs at c.block-item.result)) c.from-start.ensures (subst (λ (l : List ℕ). Decides c.is_same_where_both.result (SameWhereBoth c.from-start.result xs at l)) c.as_slice-shown.ensures c.is_same_where_both.ensures) in
    let sized : at + length (c.block-item.result) ≡ at + length c.as_slice-shown.result.now = ap (λ (l : List ℕ). at + length l) (sym c.as_slice-shown.ensures) in record {
      same = (
        (λ s. subst (λ n. SameWhereBoth o xs n rest) sized (shown_rest o xs at (c.block-item.result) rest (subst (SameWhereBoth o xs at) here (c.loop-block.invariant.same.0 s)))),
        (λ s. c.loop-block.invariant.same.1 (subst (SameWhereBoth o xs at) (sym here)
            (shown_all o xs at (c.block-item.result) rest (tells.0 c.if-not-is_same_where_both.false) (subst (λ n. SameWhereBoth o xs n rest) (sym sized) s)))),
      );
      good = (subst (AllByRecursion IsBlock) (next_of c.args.blocks.now c.loop-block.block-index c.block-item.result c.loop-block-test.true c.block-item.is) c.loop-block.invariant.good).1;
    }

pub returns : goal.returns
returns c = grind (arith, common_steps)
