-- What is left of a record after its first transactions.
use Rattle.std.proofs.Common.{◌≡◌, ℕ, zero, suc, ◌+◌, List, [], ◌∷◌, ◌++◌, length, take, drop, refl, sym, ap, ◌∙◌, arith}
use Rattle.std.specs.List.{flat_map, AllByRecursion}
use Rattle.std.proofs.lemmas.List.{take-append-drop}
use Rattle.std.proofs.lemmas.List.Concat.{flat_map-append}
use Rattle.block_types.specs.Limits.{group_size}
use Rattle.wire.specs.declared.transaction.Change.{Change}
use Rattle.memtable.specs.declared.cell.Cell.{Cell}
use Rattle.commitlog.specs.declared.log_record.LogRecord.{LogRecord}
use Rattle.commitlog.specs.Record.{transaction_values, text}
use Rattle.commitlog.specs.Places.{kept_transactions, kept}
use Rattle.commitlog.proofs.Measures.{group_size-append, values_from}

-- each large value stands after those of the transactions before it
pub drop_kept : (extent offset n : ℕ) (ts : List (List Change)) → drop n (kept_transactions extent offset ts) ≡ kept_transactions extent (offset + group_size (flat_map transaction_values (take n ts))) (drop n ts)
drop_kept extent offset zero ts =
    let same : offset ≡ offset + 0 = omega arith in
    ap (λ (k : ℕ). kept_transactions extent k ts) same
drop_kept extent offset (suc n) [] = refl
drop_kept extent offset (suc n) (t ∷ ts) =
    let same : (offset + group_size (transaction_values t)) + group_size (flat_map transaction_values (take n ts)) ≡ offset + group_size (flat_map transaction_values (t ∷ take n ts)) = omega (arith, values_from transaction_values t (take n ts)) in
    drop_kept extent (offset + group_size (transaction_values t)) n ts ∙ ap (λ (k : ℕ). kept_transactions extent k (drop n ts)) same

-- the values of the first transactions, and those of the others
pub values_cut : (n : ℕ) (ts : List (List Change)) → group_size (flat_map transaction_values ts) ≡ group_size (flat_map transaction_values (take n ts)) + group_size (flat_map transaction_values (drop n ts))
values_cut n ts =
    ap (λ (l : List (List Change)). group_size (flat_map transaction_values l)) (sym (take-append-drop n ts))
    ∙ ap group_size (flat_map-append transaction_values (take n ts) (drop n ts))
    ∙ group_size-append (flat_map transaction_values (take n ts)) (flat_map transaction_values (drop n ts))

pub All-drop : {A : Type 0} (P : A → Type 0) (n : ℕ) (xs : List A) → AllByRecursion P xs → AllByRecursion P (drop n xs)
All-drop P zero xs all = all
All-drop P (suc n) [] all = tt
All-drop P (suc n) (x ∷ xs) all = All-drop P n xs all.1

-- the cells of the transactions after the first, put after no cell
pub kept_from : (r : LogRecord) (extent offset old size first : ℕ) (all before rest : List (List Change)) (none out : List (List ℕ × Cell))
    → all ≡ r.transactions → size ≡ length (text r) → before ≡ take old all → rest ≡ drop old all
    → first ≡ offset + size + group_size (flat_map transaction_values before) → none ≡ []
    → out ≡ none ++ flat_map (λ t. t) (kept_transactions extent first rest)
    → out ≡ flat_map (λ t. t) (drop old (kept r extent offset))
kept_from r extent offset old size first all before rest none out all_is size_is before_is rest_is first_is none_is out_is =
    let same : first ≡ (offset + length (text r)) + group_size (flat_map transaction_values (take old r.transactions)) =
    first_is ∙ ap (λ (k : ℕ). offset + k + group_size (flat_map transaction_values before)) size_is
    ∙ ap (λ (ts : List (List Change)). (offset + length (text r)) + group_size (flat_map transaction_values ts)) (before_is ∙ ap (take old) all_is) in
    out_is ∙ ap (λ (l : List (List ℕ × Cell)). l ++ flat_map (λ t. t) (kept_transactions extent first rest)) none_is
    ∙ ap (λ (k : ℕ). flat_map (λ t. t) (kept_transactions extent k rest)) same
    ∙ ap (λ (ts : List (List Change)). flat_map (λ t. t) (kept_transactions extent ((offset + length (text r)) + group_size (flat_map transaction_values (take old r.transactions))) ts)) (rest_is ∙ ap (drop old) all_is)
    ∙ ap (flat_map (λ t. t)) (sym (drop_kept extent (offset + length (text r)) old r.transactions))
