use Rattle.std.proofs.Common.{take}
use Rattle.std.specs.Io.KnownBytes.{Appends}
use Rattle.script_run.specs.Output.{lines_of_notes}
use Rattle.script_run.proofs.printing.print_notes.Given as goal

abbrev pub invariant-loop-note : goal.invariant-loop-note
invariant-loop-note g l = Appends (g.W.Write.contents l.fn.writer) (g.W.Write.contents l.writer) (lines_of_notes (take l.note-index l.notes))
