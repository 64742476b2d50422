use Rattle.std.proofs.Common.{◌≡◌, ◌++◌, take, drop}
use Rattle.replica.specs.Groups.{joined}
use Rattle.replica.proofs.parts.copy_group.Given as goal

abbrev pub invariant-loop-block : goal.invariant-loop-block
invariant-loop-block l = l.out.items ++ take l.most (drop l.from (joined (drop l.block-index l.block-items))) ≡ l.fn.out.items ++ take l.most-2 (drop l.from-2 (joined l.group))
