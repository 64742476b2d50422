use Rattle.std.proofs.Common.{◌+◌, ◌∷◌, [], ◌++◌, List, drop, ap, sym, ◌∙◌, subst, append_assoc, arith}
use Rattle.std.specs.List.{AllByRecursion}
use Rattle.block_types.specs.Limits.{group_size}
use Rattle.wire.specs.declared.transaction.Change.{Change}
use Rattle.commitlog.specs.Record.{change_values, transaction_values, IsChange}
use Rattle.commitlog.specs.Places.{kept_change, kept_changes}
use Rattle.commitlog.proofs.Loop.{left_at}
use Rattle.commitlog.proofs.Measures.{group_size-append}
use Rattle.commitlog.proofs.placing.put_cells.Goals as goal

pub kept_change-requires-clause-fits : goal.kept_change-requires-clause-fits
kept_change-requires-clause-fits c =
    let left = left_at c.args.changes.now c.loop-change.change-index c.change-item.result c.loop-change-test.true c.change-item.is in
    (subst (AllByRecursion IsChange) left c.loop-change.invariant.fits).0

pub kept_change-requires-clause-room : goal.kept_change-requires-clause-room
kept_change-requires-clause-room c =
    let left = left_at c.args.changes.now c.loop-change.change-index c.change-item.result c.loop-change-test.true c.change-item.is in
    omega (arith, c.requires.room, c.loop-change.invariant.next, ap (λ (l : List Change). group_size (transaction_values l)) left, group_size-append (change_values c.change-item.result) (transaction_values (drop (c.loop-change.change-index + 1) c.args.changes.now)))

pub loop-change-preserved : goal.loop-change-preserved
loop-change-preserved c =
    let left = left_at c.args.changes.now c.loop-change.change-index c.change-item.result c.loop-change-test.true c.change-item.is in
    record {
      cells = rw (c.in_ok-push.ensures.items, c.in_ok-kept.ensures.0, c.in_ok-kept.ensures.1) (append_assoc c.loop-change.out.items (kept_change c.args.extent c.loop-change.next c.change-item.result ∷ []) _ ∙ sym (ap (λ (l : List Change). c.loop-change.out.items ++ kept_changes c.args.extent c.loop-change.next l) left) ∙ c.loop-change.invariant.cells);
      next = omega (arith, c.loop-change.invariant.next, c.in_ok-kept.ensures.1, ap (λ (l : List Change). group_size (transaction_values l)) left, group_size-append (change_values c.change-item.result) (transaction_values (drop (c.loop-change.change-index + 1) c.args.changes.now)));
      fits = (subst (AllByRecursion IsChange) left c.loop-change.invariant.fits).1;
    }
