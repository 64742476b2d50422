use Rattle.std.proofs.Common.{◌≡◌, ◌+◌, ◌∙◌, [], ◌∷◌, arith, length-append}
use Rattle.replica.specs.Groups.{size}
use Rattle.replica.proofs.Lengths.{group_size-size}
use Rattle.world_checker.proofs.Beginning.{starts_more, next_start}
use Rattle.world_checker.proofs.starts.starts_of_groups.Goals as goal

pub loop-group-preserved : goal.loop-group-preserved
loop-group-preserved c =
    let groups = c.args.groups.now in
    let i = c.loop-group.group-index in
    let at = c.loop-group.at in
    let x = c.group-item.result in
    let sized : c.size.result ≡ size x = c.size.ensures.value ∙ group_size-size x in
    let ended : c.in-Some.end ≡ at + c.size.result = c.in-Some.ensures.1 in
    rw c.in_ok-push.ensures.items (record {
      counted = omega (arith, c.loop-group.invariant.counted, length-append c.loop-group.starts.items (at ∷ []));
      at = ended ∙ next_start groups c.loop-group.starts.items i at x c.loop-group-test.true c.group-item.is c.loop-group.invariant.at c.size.result sized;
      starts = starts_more groups c.loop-group.starts.items i at x c.loop-group-test.true c.group-item.is c.loop-group.invariant.counted c.loop-group.invariant.at c.loop-group.invariant.starts;
    })
