use Rattle.std.proofs.Common.{◌≡◌, drop, map, take}
use Rattle.std.specs.List.{flat_map}
use Rattle.script_lines.specs.Copies.{bytes_of}
use Rattle.script_lines.proofs.copies.spelled_out.Given as goal

abbrev pub invariant-loop-part : goal.invariant-loop-part
invariant-loop-part l = record {
  left : l.rest ≡ flat_map bytes_of (drop l.part-index l.parts);
  cut : l.pieces.items ≡ map bytes_of (take l.part-index l.parts);
}
