use Rattle.std.proofs.Common.{◌++◌, ℕ, List, take, drop, ap, arith, subst, sym, ◌∙◌}
use Rattle.std.specs.List.{flat_map, AllByRecursion}
use Rattle.block_types.specs.Limits.{group_size}
use Rattle.wire.specs.declared.transaction.Change.{Change}
use Rattle.memtable.specs.declared.cell.Cell.{Cell}
use Rattle.commitlog.specs.declared.log_record.LogRecord.{LogRecord}
use Rattle.commitlog.specs.Record.{transaction_values, IsTransaction}
use Rattle.commitlog.specs.Places.{kept_transactions}
use Rattle.commitlog.proofs.Entries.{IsRow, kept_fit}
use Rattle.commitlog.proofs.Measures.{size-spelling}
use Rattle.commitlog.proofs.Skipped.{values_cut, All-drop, kept_from}
use Rattle.commitlog.proofs.placing.cells_from.Goals as goal

pub overflow_add-start : goal.overflow_add-start
overflow_add-start c = omega (arith, c.requires.room, size-spelling c.args.written.now, c.text_size.ensures.value)

pub offset_after_all-first-requires : goal.offset_after_all-first-requires
offset_after_all-first-requires c =
    let front = ap (λ (ts : List (List Change)). group_size (flat_map transaction_values ts)) (c.split_at.ensures.front ∙ ap (take c.args.old) (c.deref.ensures.value ∙ ap (λ (w : LogRecord). w.transactions) c.written.view_is)) in
    omega (arith, c.requires.room, size-spelling c.args.written.now, c.text_size.ensures.value, front, values_cut c.args.old c.args.written.now.transactions)

pub put_all_cells-requires-clause-fits : goal.put_all_cells-requires-clause-fits
put_all_cells-requires-clause-fits c =
    subst (AllByRecursion IsTransaction) (sym (c.split_at.ensures.back ∙ ap (drop c.args.old) (c.deref.ensures.value ∙ ap (λ (w : LogRecord). w.transactions) c.written.view_is))) (All-drop IsTransaction c.args.old c.args.written.now.transactions c.requires.fits.transactions)

pub put_all_cells-requires-clause-room : goal.put_all_cells-requires-clause-room
put_all_cells-requires-clause-room c =
    let front = ap (λ (ts : List (List Change)). group_size (flat_map transaction_values ts)) (c.split_at.ensures.front ∙ ap (take c.args.old) (c.deref.ensures.value ∙ ap (λ (w : LogRecord). w.transactions) c.written.view_is)) in
    let back = ap (λ (ts : List (List Change)). group_size (flat_map transaction_values ts)) (c.split_at.ensures.back ∙ ap (drop c.args.old) (c.deref.ensures.value ∙ ap (λ (w : LogRecord). w.transactions) c.written.view_is)) in
    omega (arith, c.requires.room, size-spelling c.args.written.now, c.text_size.ensures.value, c.offset_after_all-first.ensures, front, back, values_cut c.args.old c.args.written.now.transactions)

pub returns-clause-kept : goal.returns-clause-kept
returns-clause-kept c =
    kept_from c.args.written.now c.args.extent c.args.offset c.args.old c.text_size.result c.offset_after_all-first.result c.deref.result.now c.split_at.result.0.now c.split_at.result.1.now c.new-out.result.items c.put_all_cells.new.out.items (c.deref.ensures.value ∙ ap (λ (w : LogRecord). w.transactions) c.written.view_is) c.text_size.ensures.value c.split_at.ensures.front c.split_at.ensures.back c.offset_after_all-first.ensures c.new-out.ensures.items c.in_ok-put_all_cells.ensures

pub returns-clause-entries : goal.returns-clause-entries
returns-clause-entries c =
    let is = c.in_ok-put_all_cells.ensures ∙ ap (λ (l : List (List ℕ × Cell)). l ++ flat_map (λ t. t) (kept_transactions c.args.extent c.offset_after_all-first.result c.split_at.result.1.now)) c.new-out.ensures.items in
    let fit = subst (AllByRecursion IsTransaction) (sym (c.split_at.ensures.back ∙ ap (drop c.args.old) (c.deref.ensures.value ∙ ap (λ (w : LogRecord). w.transactions) c.written.view_is))) (All-drop IsTransaction c.args.old c.args.written.now.transactions c.requires.fits.transactions) in
    subst (λ (l : List (List ℕ × Cell)). AllByRecursion IsRow l) (sym is) (kept_fit c.args.extent c.offset_after_all-first.result c.split_at.result.1.now fit)
