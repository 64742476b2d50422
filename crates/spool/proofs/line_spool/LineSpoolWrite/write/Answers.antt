use Rattle.spool.proofs.Growth.{line-more}
use Rattle.spool.proofs.line_spool.LineSpoolWrite.write.Goals as goal

pub returns-clause-grows : goal.returns-clause-grows
returns-clause-grows g c = λ grew.
    let line = c.make_room.ensures.grows grew in
    line-more _ _ _ _ c.in_ok-extend_from_slice.ensures.items line.0 line.1
