use Rattle.std.proofs.Common.{◌≡◌, ◌<◌, ℕ, List, get_or, ◌+◌, ◌++◌, ◌∷◌, [], length, take, drop, ap, sym, subst, ◌∙◌, arith, append_assoc, length-append}
use Rattle.std.proofs.lemmas.List.{drop_more}
use Rattle.std.specs.List.{AllByRecursion}
use Rattle.block_types.specs.Limits.{IsBlock}
use Rattle.replica.specs.Groups.{joined}
use Rattle.replica.specs.Spelled.{block_sizes}
use Rattle.replica.proofs.Spelling.{joined-more, sizes-more, first_blocks}
use Rattle.replica.proofs.placed.add_blocks.Goals as goal

next_block : (blocks : List (List ℕ)) (i : ℕ) (b : List ℕ) → i < length blocks → b ≡ get_or blocks i b → AllByRecursion IsBlock (drop i blocks) → IsBlock b × AllByRecursion IsBlock (drop (i + 1) blocks)
next_block blocks i b within is good = subst (AllByRecursion IsBlock) (drop_more blocks i b within ∙ ap (λ x. x ∷ drop (i + 1) blocks) (sym is)) good

pub push-requires : goal.push-requires
push-requires c =
    let blocks = c.args.blocks.now in
    let i = c.loop-block.block-index in
    let b = c.block-item.result in
    let more = joined-more blocks i b c.loop-block-test.true c.block-item.is in
    omega (arith, first_blocks blocks (i + 1), ap length more, length-append (joined (take i blocks)) b, c.loop-block.invariant.spare, c.requires.text, ap length c.as_slice-bytes.ensures)

pub overflow_cast-bytes : goal.overflow_cast-bytes
overflow_cast-bytes c =
    let good = next_block c.args.blocks.now c.loop-block.block-index c.block-item.result c.loop-block-test.true c.block-item.is c.loop-block.invariant.good in
    omega (arith, good.0.1, ap length c.as_slice-bytes.ensures)

pub loop-block-preserved : goal.loop-block-preserved
loop-block-preserved c =
    let blocks = c.args.blocks.now in
    let i = c.loop-block.block-index in
    let b = c.block-item.result in
    let more = joined-more blocks i b c.loop-block-test.true c.block-item.is in
    let bytes : c.as_slice-bytes.result.now ≡ b = c.as_slice-bytes.ensures in
    record {
      bytes = c.push.ensures.bytes ∙ ap (λ x. x ++ c.as_slice-bytes.result.now) c.loop-block.invariant.bytes ∙ append_assoc c.args.text.now.bytes (joined (take i blocks)) c.as_slice-bytes.result.now ∙ ap (λ x. c.args.text.now.bytes ++ (joined (take i blocks) ++ x)) bytes ∙ ap (λ x. c.args.text.now.bytes ++ x) (sym more);
      spare = omega (arith, c.push.ensures.room, c.loop-block.invariant.spare, ap length more, length-append (joined (take i blocks)) b, ap length bytes);
      sizes = c.push_reserved.ensures.items ∙ ap (λ x. x ++ length c.as_slice-bytes.result.now ∷ []) c.loop-block.invariant.sizes ∙ append_assoc c.args.sizes.now.items (block_sizes (take i blocks)) (length c.as_slice-bytes.result.now ∷ []) ∙ ap (λ x. c.args.sizes.now.items ++ (block_sizes (take i blocks) ++ length x ∷ [])) bytes ∙ ap (λ x. c.args.sizes.now.items ++ x) (sym (sizes-more blocks i b c.loop-block-test.true c.block-item.is));
      len = omega (arith, c.push_reserved.ensures.len, c.loop-block.invariant.len);
      capacity = c.push_reserved.ensures.capacity ∙ c.loop-block.invariant.capacity;
      good = (next_block blocks i b c.loop-block-test.true c.block-item.is c.loop-block.invariant.good).1;
    }
