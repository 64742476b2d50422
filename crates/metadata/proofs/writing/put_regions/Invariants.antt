use Rattle.std.proofs.Common.{◌≡◌, ◌++◌, length, take}
use Rattle.std.specs.List.{flat_map}
use Rattle.blocks.specs.Record.{number}
use Rattle.metadata.specs.Record.{region}
use Rattle.metadata.proofs.writing.put_regions.Given as goal

abbrev pub invariant-loop-one : goal.invariant-loop-one
invariant-loop-one l = l.out.items ≡ l.fn.out.items ++ (number 1 (length l.all) ++ flat_map region (take l.one-index l.all))
