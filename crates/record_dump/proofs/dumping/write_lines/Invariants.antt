use Rattle.std.proofs.Common.{take}
use Rattle.std.specs.Io.KnownBytes.{Appends}
use Rattle.record_dump.specs.Dump.{lines_of}
use Rattle.record_dump.proofs.dumping.write_lines.Given as goal

abbrev pub invariant-loop-shown : goal.invariant-loop-shown
invariant-loop-shown g l = Appends (g.W.Write.contents l.fn.writer) (g.W.Write.contents l.writer) (lines_of (take l.shown-index l.records))
