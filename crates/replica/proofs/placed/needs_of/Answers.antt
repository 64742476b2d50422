use Rattle.std.proofs.Common.{◌≡◌, ◌+◌, length, ap, arith}
use Rattle.replica.proofs.Lengths.{group_size-size}
use Rattle.replica.proofs.Placing.{front_within}
use Rattle.replica.proofs.Spelling.{text-more, count-more, blocks_within}
use Rattle.replica.proofs.placed.needs_of.Goals as goal

pub overflow_add-blocks : goal.overflow_add-blocks
overflow_add-blocks c =
    let g = c.group-item.result in
    omega (arith, blocks_within g c.blocks-in-loop-group.ensures.fits, ap length c.blocks-in-loop-group.ensures.value, c.loop-group.invariant.fewer, c.size.ensures.value, group_size-size g, c.in-Some.ensures)

pub loop-group-preserved : goal.loop-group-preserved
loop-group-preserved c =
    let g = c.group-item.result in
    let gs = c.args.groups.now in
    let i = c.loop-group.group-index in
    let more = text-more gs i g c.loop-group-test.true c.group-item.is in
    let count = count-more gs i g c.loop-group-test.true c.group-item.is in
    let same : length c.blocks-in-loop-group.result.now ≡ length g = ap length c.blocks-in-loop-group.ensures.value in
    record {
      text = omega (arith, more, c.loop-group.invariant.text, c.size.ensures.value, group_size-size g, c.in-Some.ensures);
      blocks = omega (arith, count, same, c.loop-group.invariant.blocks);
      fewer = omega (arith, blocks_within g c.blocks-in-loop-group.ensures.fits, same, c.loop-group.invariant.fewer, c.size.ensures.value, group_size-size g, c.in-Some.ensures);
    }

pub returns-in_default-clause-none : goal.returns-in_default-clause-none
returns-in_default-clause-none c =
    let g = c.group-item.result in
    let gs = c.args.groups.now in
    let i = c.loop-group.group-index in
    let more = text-more gs i g c.loop-group-test.true c.group-item.is in
    let past = c.in_default.ensures in
    omega (arith, more, front_within gs (i + 1), c.loop-group.invariant.text, c.size.ensures.value, group_size-size g, past)
