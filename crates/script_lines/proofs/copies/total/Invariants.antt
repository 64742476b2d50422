use Rattle.std.proofs.Common.{◌≡◌, length, take}
use Rattle.std.specs.List.{flat_map}
use Rattle.script_lines.specs.Copies.{bytes_of}
use Rattle.script_lines.proofs.copies.total.Given as goal

abbrev pub invariant-loop-part : goal.invariant-loop-part
invariant-loop-part l = l.total ≡ length (flat_map bytes_of (take l.part-index l.parts))
