use Rattle.std.proofs.Common.{take}
use Rattle.std.specs.List.{All}
use Rattle.manager_state.specs.RecordBytes.{IsModifyInRange}
use Rattle.manager_rules.proofs.modifying.read_list.Given as goal

abbrev pub invariant-loop-m : goal.invariant-loop-m
invariant-loop-m l = All IsModifyInRange (take l.m-index l.list)
