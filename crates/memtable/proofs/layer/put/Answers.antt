use Rattle.std.proofs.Common.{◌≡◌, ℕ, List, [], ◌∷◌, ◌++◌, Option, arith, ap, ◌∙◌}
use Rattle.std.proofs.lemmas.Grind.{common_steps}
use Rattle.memtable.specs.declared.cell.Cell.{Cell}
use Rattle.memtable.specs.Cell.{entry_size}
use Rattle.memtable.specs.Entries.{found, old_size, entries_size, all_taken_back}
use Rattle.memtable.proofs.Undo.{undone, size_insert, size_found}
use Rattle.memtable.proofs.layer.put.Goals as goal

pub overflow_sub-result : goal.overflow_sub-result
overflow_sub-result c =
    let less : c.old_size-less.result ≡ old_size c.args.key (found c.args.layer.now.entries c.args.key) = c.old_size-less.ensures ∙ ap (λ (k : List ℕ). old_size k c.in-Ok.old) c.in_ok-back.ensures.cases ∙ ap (old_size c.args.key) c.in-Ok.ensures.old in
    omega (arith, less, size_found c.args.key c.args.layer.now.entries, c.requires.size, c.in-Some.ensures)

pub returns-in-Ok-clause-size : goal.returns-in-Ok-clause-size
returns-in-Ok-clause-size c =
    let less : c.old_size-less.result ≡ old_size c.args.key (found c.args.layer.now.entries c.args.key) = c.old_size-less.ensures ∙ ap (λ (k : List ℕ). old_size k c.in-Ok.old) c.in_ok-back.ensures.cases ∙ ap (old_size c.args.key) c.in-Ok.ensures.old in
    let added : c.entry_size-added.result ≡ entry_size c.args.key c.args.cell = c.entry_size-added.ensures.size ∙ ap (λ (k : List ℕ). entry_size k c.args.cell) c.deref.ensures in
    omega (arith, less, added, size_found c.args.key c.args.layer.now.entries, c.requires.size, c.in-Some.ensures, size_insert c.args.key c.args.cell c.args.layer.now.entries c.in-Ok.ensures.was_ordered, ap entries_size c.in-Ok.ensures.entries)

pub returns-in-Ok-clause-undos : goal.returns-in-Ok-clause-undos
returns-in-Ok-clause-undos c =
    let items = c.push_reserved.ensures.items ∙ ap (λ (us : List (List ℕ × Option Cell)). us ++ (c.in_ok-back.back, c.in-Ok.old) ∷ []) c.reserve.ensures.items ∙ ap (λ (k : List ℕ). c.args.undos.now.items ++ (k, c.in-Ok.old) ∷ []) c.in_ok-back.ensures.cases
    ∙ ap (λ (o : Option Cell). c.args.undos.now.items ++ (c.args.key, o) ∷ []) c.in-Ok.ensures.old in
    ap (λ (us : List (List ℕ × Option Cell)). all_taken_back us c.insert.new.self.entries) items
    ∙ ap (all_taken_back (c.args.undos.now.items ++ (c.args.key, found c.args.layer.now.entries c.args.key) ∷ [])) c.in-Ok.ensures.entries
    ∙ undone c.args.undos.now.items c.args.key c.args.cell c.args.layer.now.entries c.in-Ok.ensures.was_ordered

pub old_size-less-requires : goal.old_size-less-requires
old_size-less-requires c = grind (arith, common_steps)
