use Rattle.record_dump.proofs.Lines.{lines_next}
use Rattle.record_dump.proofs.dumping.write_lines.Goals as goal

pub loop-shown-preserved : goal.loop-shown-preserved
loop-shown-preserved g c =
    lines_next (g.W.Write.contents c.args.writer.now) (g.W.Write.contents c.loop-shown.writer) (g.W.Write.contents c.write_line.new.writer)
    c.args.records.now c.loop-shown.shown-index c.shown-item.result c.shown-item.is c.loop-shown-test.true c.loop-shown.invariant
    c.in_ok-write_line.ensures.written
