use Rattle.std.proofs.Common.{◌≡◌, ◌++◌, take, drop}
use Rattle.replica.specs.Groups.{text}
use Rattle.replica.proofs.parts.copy_groups.Given as goal

abbrev pub invariant-loop-group : goal.invariant-loop-group
invariant-loop-group l = l.out.items ++ take l.most (drop l.from (text (drop l.group-index l.groups))) ≡ l.fn.out.items ++ take l.most-2 (drop l.from-2 (text l.groups))
