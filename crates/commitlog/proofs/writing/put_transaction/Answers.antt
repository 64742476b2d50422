use Rattle.std.proofs.Common.{ℕ, List, ◌++◌, sym, ◌∙◌, ap, append_assoc, length}
use Rattle.std.specs.List.{flat_map}
use Rattle.blocks.specs.Record.{number}
use Rattle.commitlog.specs.Record.{text_changes, change_bytes}
use Rattle.commitlog.proofs.Numbering.{on_ok, length-text_changes}
use Rattle.commitlog.proofs.writing.put_transaction.Goals as goal

pub returns-clause-text : goal.returns-clause-text
returns-clause-text c =
    let rest = flat_map change_bytes (text_changes c.args.number c.args.changes.now) in
    on_ok c.put_changes.result (λ e. e ∙ ap (λ (l : List ℕ). l ++ rest) c.in_ok-put_u8.ensures.ok ∙ append_assoc c.args.out.now.items (number 1 (length c.args.changes.now)) rest
    ∙ ap (λ (k : ℕ). c.args.out.now.items ++ (number 1 k ++ rest)) (sym (length-text_changes c.args.number c.args.changes.now))) c.put_changes.ensures.text
