use Rattle.std.proofs.Common.{arith, [], ◌∷◌, length-append}
use Rattle.world_checker.proofs.Beginning.{all_starts_more}
use Rattle.world_checker.proofs.starts.starts_of.Goals as goal

pub loop-note-preserved : goal.loop-note-preserved
loop-note-preserved c =
    let starts = c.loop-note.starts.items in
    let v = c.in_ok-starts_of_note.field-0 in
    rw c.in_ok-push.ensures.items (record {
      counted = omega (arith, c.loop-note.invariant.counted, length-append starts (v ∷ []));
      starts = all_starts_more c.args.notes.now starts c.loop-note.note-index c.note-item.result v c.loop-note-test.true c.note-item.is c.loop-note.invariant.counted c.loop-note.invariant.starts c.in_ok-starts_of_note.ensures;
    })
