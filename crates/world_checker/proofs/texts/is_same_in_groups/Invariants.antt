use Rattle.std.proofs.Common.{◌↔◌, drop}
use Rattle.replica.specs.Groups.{text}
use Rattle.model_streams.specs.Honest.{SameWhereBoth}
use Rattle.world_checker.proofs.texts.is_same_in_groups.Given as goal

abbrev pub invariant-loop-group : goal.invariant-loop-group
invariant-loop-group l =
    SameWhereBoth l.offset l.bytes 0 (text l.groups) ↔ SameWhereBoth l.offset l.bytes l.at (text (drop l.group-index l.groups))
