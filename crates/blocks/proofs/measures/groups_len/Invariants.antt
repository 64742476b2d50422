use Rattle.std.proofs.Common.{◌≡◌, ◌+◌, length, drop}
use Rattle.std.specs.List.{flat_map}
use Rattle.blocks.specs.Record.{group, groups}
use Rattle.blocks.proofs.measures.groups_len.Given as goal

abbrev pub invariant-loop-one : goal.invariant-loop-one
invariant-loop-one l = l.len + length (flat_map (group l.version) (drop l.one-index l.all)) ≡ length (groups l.version l.all)
