use Rattle.std.proofs.Common.{◌≡◌, ◌+◌, arith}
use Rattle.replica.specs.Groups.{size}
use Rattle.replica.proofs.Lengths.{group_size-size}
use Rattle.world_checker.proofs.Showing.{at_most}
use Rattle.world_checker.proofs.compare.ends_within.Goals as goal

pub returns : goal.returns
returns c =
    let total : c.from.result + c.from-2.result ≡ c.args.offset + size c.args.group.now = omega (arith, c.from.ensures, c.from-2.ensures, c.size.ensures.value, group_size-size c.args.group.now) in
    at_most (c.from.result + c.from-2.result) c.from-3.result (c.args.offset + size c.args.group.now) c.args.length total c.from-3.ensures
