-- What rows keep of a record that fits may stand in a row.
use Rattle.std.proofs.Common.{◌≡◌, ℕ, ◌+◌, ◌<◌, ◌≤◌, true, false, List, [], ◌∷◌, ◌++◌, length, Option, Some, None, refl, arith}
use Rattle.std.specs.List.{flat_map, AllByRecursion}
use Rattle.std.proofs.lemmas.Bool.{ltb-true, ltb-false}
use Rattle.std.proofs.lemmas.List.Concat.{flat_map-cons}
use Rattle.block_types.specs.Limits.{group_size}
use Rattle.wire.specs.declared.transaction.Change.{Change}
use Rattle.memtable.specs.declared.cell.Cell.{Cell}
use Rattle.memtable.specs.Limits.{is_large}
use Rattle.memtable.specs.Cell.{IsCell, IsEntry}
use Rattle.commitlog.specs.Record.{change_values, transaction_values, HasValue, IsChange, IsTransaction}
use Rattle.commitlog.specs.Places.{kept_cell, kept_changes, kept_transactions}

abbrev pub IsRow : List ℕ × Cell → Type 0
IsRow e = IsEntry e.0 e.1

pub All-append : {A : Type 0} (P : A → Type 0) (xs ys : List A) → AllByRecursion P xs → AllByRecursion P ys → AllByRecursion P (xs ++ ys)
All-append P [] ys p q = q
All-append P (x ∷ xs) ys p q = (p.0, All-append P xs ys p.1 q)

cell_fits : (extent offset : ℕ) (value : Option (List ℕ)) → HasValue value → IsCell (kept_cell extent offset value)
cell_fits extent offset None h = tt
cell_fits extent offset (Some v) h =
    elim (is_large v) as (λ b. is_large v ≡ b → IsCell (kept_cell extent offset (Some v))) [
      | true ↦ λ is.
          let long : 4096 < length v = ltb-true _ _ is in
          rw is (omega arith, h)
      | false ↦ λ is.
          let short : length v ≤ 4096 = ltb-false _ _ is in
          rw is short
    ] refl

changes_fit : (extent offset : ℕ) (t : List Change) → AllByRecursion IsChange t → AllByRecursion IsRow (kept_changes extent offset t)
changes_fit extent offset [] p = tt
changes_fit extent offset (c ∷ t) p =
    ((p.0.0, cell_fits extent offset c.value p.0.1), changes_fit extent (offset + group_size (change_values c)) t p.1)

pub kept_fit : (extent offset : ℕ) (ts : List (List Change)) → AllByRecursion IsTransaction ts → AllByRecursion IsRow (flat_map (λ t. t) (kept_transactions extent offset ts))
kept_fit extent offset [] p = tt
kept_fit extent offset (t ∷ ts) p =
    rw flat_map-cons (All-append IsRow (kept_changes extent offset t) (flat_map (λ t. t) (kept_transactions extent (offset + group_size (transaction_values t)) ts)) (changes_fit extent offset t p.0.1) (kept_fit extent (offset + group_size (transaction_values t)) ts p.1))
