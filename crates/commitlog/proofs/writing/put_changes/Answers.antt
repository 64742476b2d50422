use Rattle.std.proofs.Common.{◌+◌, ◌++◌, List, length, drop, ap, sym, ◌∙◌, subst, append_assoc, length-append, arith}
use Rattle.std.specs.List.{flat_map, AllByRecursion}
use Rattle.wire.specs.declared.transaction.Change.{Change}
use Rattle.commitlog.specs.Record.{change_values, transaction_values, text_change, text_changes, change_bytes, IsChange}
use Rattle.commitlog.proofs.Loop.{left_at}
use Rattle.commitlog.proofs.writing.put_changes.Goals as goal

pub put_change-requires-clause-fits : goal.put_change-requires-clause-fits
put_change-requires-clause-fits c =
    let left = left_at c.args.changes.now c.loop-change.change-index c.change-item.result c.loop-change-test.true c.change-item.is in
    (subst (AllByRecursion IsChange) left c.loop-change.invariant.fits).0

pub put_change-requires-clause-room : goal.put_change-requires-clause-room
put_change-requires-clause-room c =
    let left = left_at c.args.changes.now c.loop-change.change-index c.change-item.result c.loop-change-test.true c.change-item.is in
    omega (arith, c.requires.room, c.loop-change.invariant.next, ap (λ (l : List Change). length (transaction_values l)) left, length-append (change_values c.change-item.result) (transaction_values (drop (c.loop-change.change-index + 1) c.args.changes.now)))

pub loop-change-preserved : goal.loop-change-preserved
loop-change-preserved c =
    let left = left_at c.args.changes.now c.loop-change.change-index c.change-item.result c.loop-change-test.true c.change-item.is in
    let rest = drop (c.loop-change.change-index + 1) c.args.changes.now in
    record {
      text = rw (c.in_ok-next.ensures.text, c.in_ok-next.ensures.next) (append_assoc c.loop-change.out.items (change_bytes (text_change c.loop-change.next c.change-item.result)) _ ∙ sym (ap (λ (l : List Change). c.loop-change.out.items ++ flat_map change_bytes (text_changes c.loop-change.next l)) left) ∙ c.loop-change.invariant.text);
      next = omega (arith, c.loop-change.invariant.next, c.in_ok-next.ensures.next, ap (λ (l : List Change). length (transaction_values l)) left, length-append (change_values c.change-item.result) (transaction_values rest));
      fits = (subst (AllByRecursion IsChange) left c.loop-change.invariant.fits).1;
    }
