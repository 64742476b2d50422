use Rattle.script_run.proofs.Texts.{notes_next}
use Rattle.script_run.proofs.printing.print_notes.Goals as goal

pub loop-note-preserved : goal.loop-note-preserved
loop-note-preserved g c =
    notes_next (g.W.Write.contents c.args.writer.now) (g.W.Write.contents c.loop-note.writer) (g.W.Write.contents c.print_note.new.writer)
    c.args.notes.now c.loop-note.note-index c.note-item.result c.note-item.is c.loop-note-test.true c.loop-note.invariant
    c.in_ok-print_note.ensures.printed
