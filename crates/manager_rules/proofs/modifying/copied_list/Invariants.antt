use Rattle.std.proofs.Common.{◌≡◌, take}
use Rattle.manager_rules.proofs.modifying.copied_list.Given as goal

abbrev pub invariant-loop-m : goal.invariant-loop-m
invariant-loop-m l = l.items.items ≡ take l.m-index l.list
