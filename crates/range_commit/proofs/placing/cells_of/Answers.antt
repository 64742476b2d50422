use Rattle.std.proofs.Common.{ℕ, ◌+◌, ◌-◌, ◌++◌, List, map, sym, ap, subst, ◌∙◌}
use Rattle.std.specs.List.{flat_map, AllByRecursion}
use Rattle.memtable.specs.declared.cell.Cell.{Cell}
use Rattle.commitlog.specs.Places.{kept_transactions}
use Rattle.commitlog.proofs.Entries.{IsRow, kept_fit}
use Rattle.model_partition.specs.declared.waiting.WaitingTransaction.{WaitingTransaction}
use Rattle.range_commit.proofs.Fronts.{All-changes}
use Rattle.range_commit.proofs.placing.cells_of.Goals as goal

pub returns-clause-entries : goal.returns-clause-entries
returns-clause-entries c =
    let first : ℕ = c.args.offset + (c.args.size - c.values_size.result) in
    let is = c.in_ok-put_all_cells.ensures ∙ ap (λ (l : List (List ℕ × Cell)). l ++ flat_map (λ t. t) (kept_transactions c.args.extent (c.args.offset + (c.args.size - c.values_size.result)) (map (λ (t : WaitingTransaction). t.changes) c.args.group.now))) c.new-out.ensures.items in
    subst (λ (l : List (List ℕ × Cell)). AllByRecursion IsRow l) (sym is) (kept_fit c.args.extent first (map (λ (t : WaitingTransaction). t.changes) c.args.group.now) (All-changes c.args.group.now c.requires.fits))
