use Rattle.std.proofs.Common.{take, ap, arith}
use Rattle.replica.specs.Groups.{text_length}
use Rattle.replica.proofs.Lengths.{text_length-append}
use Rattle.replica.proofs.Placing.{front_within}
use Rattle.replica.proofs.placed.PlacedGroups.extend.Goals as goal

pub push-requires-clause-below : goal.push-requires-clause-below
push-requires-clause-below c =
    omega (arith, c.requires.below, ap text_length c.loop-group.invariant.groups, text_length-append c.args.self.now.groups (take c.loop-group.group-index c.args.groups.now), front_within c.args.groups.now c.loop-group.group-index)
