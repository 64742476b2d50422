-- What an insertion changes, and how it is taken back.
use Rattle.std.proofs.Common.{◌≡◌, ℕ, ◌+◌, ◌≤◌, length, true, false, List, [], ◌∷◌, ◌++◌, Option, Some, None, refl, ap, ◌∙◌, arith}
use Rattle.std.specs.Prelude.{is_some}
use Rattle.std.specs.Ordering.{ordering_reverse}
use Rattle.std.specs.declared.cmp.Ordering.{Ordering}
use Rattle.std.specs.declared.cmp.Ordering.TheVariants.{Less, Equal, Greater}
use Rattle.std.specs.Cmp.Lexicographic.{nat_list_cmp_total}
use Rattle.std.specs.List.Sorted.{IsStrictlySortedBy}
use Rattle.std.specs.Map.{keys_of}
use Rattle.std.specs.BTreeMap.{insert_entry, is_at}
use Rattle.std.proofs.lemmas.Map.{lookup-none}
use Rattle.std.proofs.lemmas.Map.Keys.{sorted_tail}
use Rattle.std.proofs.lemmas.Map.Entries.{none_below_head}
use Rattle.std.proofs.lemmas.Map.Lookups.{exact_bytes}
use Rattle.std.proofs.lemmas.List.Sums.{sum_by-cons}
use Rattle.memtable.specs.declared.cell.Cell.{Cell}
use Rattle.memtable.specs.Cell.{entry_size}
use Rattle.memtable.specs.Entries.{Entries, key_cmp, found, entries_size, old_size, taken_back, all_taken_back}

abbrev IsSorted : Entries → Type 0
IsSorted es = IsStrictlySortedBy key_cmp (keys_of es)

same : (key : List ℕ) → key_cmp key key ≡ Equal
same key = by (key_cmp key key) (nat_list_cmp_total.antisymm key key)
  where
    by : (r : Ordering) → r ≡ ordering_reverse r → r ≡ Equal
    by Less e = absurd cc
    by Equal e = refl
    by Greater e = absurd cc

-- no key of the layer, where it is below the first
below : (key : List ℕ) (e : List ℕ × Cell) (es : Entries) → IsSorted (e ∷ es) → key_cmp key e.0 ≡ Less → found (e ∷ es) key ≡ None
below key e es sorted lt = lookup-none (is_at (key_cmp key)) (e ∷ es) (none_below_head nat_list_cmp_total key e es sorted lt)

tail : (e : List ℕ × Cell) (es : Entries) → IsSorted (e ∷ es) → IsSorted es
tail e es sorted = sorted_tail key_cmp e.0 (keys_of es) sorted

taken_back_cons : (key : List ℕ) (old : Option Cell) (e : List ℕ × Cell) (es : Entries) → key_cmp key e.0 ≡ Greater → taken_back (key, old) (e ∷ es) ≡ e ∷ taken_back (key, old) es
taken_back_cons key None e es is = rw is refl
taken_back_cons key (Some cell) e es is =
    elim (is_some (found es key)) as (λ b. is_some (found es key) ≡ b → taken_back (key, Some cell) (e ∷ es) ≡ e ∷ taken_back (key, Some cell) es) [
      | true ↦ λ there. simp (is, there)
      | false ↦ λ there. simp (is, there)
    ] refl

-- an insertion taken back
pub taken_back_insert : (key : List ℕ) (cell : Cell) (es : Entries) → IsSorted es → taken_back (key, found es key) (insert_entry key_cmp es key cell) ≡ es
taken_back_insert key cell [] sorted = rw (same key) refl
taken_back_insert key cell (e ∷ es) sorted =
    elim (key_cmp key e.0) as (λ r. key_cmp key e.0 ≡ r → taken_back (key, found (e ∷ es) key) (insert_entry key_cmp (e ∷ es) key cell) ≡ e ∷ es) [
      | Less ↦ λ is.
          let none : found (e ∷ es) key ≡ None = below key e es sorted is in
          let put : insert_entry key_cmp (e ∷ es) key cell ≡ (key, cell) ∷ e ∷ es = rw is refl in
          let back : taken_back (key, None) ((key, cell) ∷ e ∷ es) ≡ e ∷ es = rw (same key) refl in
          ap (λ (o : Option Cell). taken_back (key, o) (insert_entry key_cmp (e ∷ es) key cell)) none ∙ ap (λ (l : Entries). taken_back (key, None) l) put ∙ back
      | Equal ↦ λ is. simp is
      | Greater ↦ λ is.
          let later : found (e ∷ es) key ≡ found es key = rw is refl in
          let put : insert_entry key_cmp (e ∷ es) key cell ≡ e ∷ insert_entry key_cmp es key cell = rw is refl in
          ap (λ (o : Option Cell). taken_back (key, o) (insert_entry key_cmp (e ∷ es) key cell)) later ∙ ap (λ (l : Entries). taken_back (key, found es key) l) put
          ∙ taken_back_cons key (found es key) e (insert_entry key_cmp es key cell) is ∙ ap (λ (l : Entries). e ∷ l) (taken_back_insert key cell es (tail e es sorted))
    ] refl

pub all_taken_back_push : (undos : List (List ℕ × Option Cell)) (undo : List ℕ × Option Cell) (es : Entries) → all_taken_back (undos ++ undo ∷ []) es ≡ all_taken_back undos (taken_back undo es)
all_taken_back_push [] undo es = refl
all_taken_back_push (u ∷ undos) undo es = ap (taken_back u) (all_taken_back_push undos undo es)

-- one more change, and how the key was
pub undone : (undos : List (List ℕ × Option Cell)) (key : List ℕ) (cell : Cell) (es : Entries) → IsSorted es
    → all_taken_back (undos ++ (key, found es key) ∷ []) (insert_entry key_cmp es key cell) ≡ all_taken_back undos es
undone undos key cell es sorted = all_taken_back_push undos (key, found es key) (insert_entry key_cmp es key cell) ∙ ap (all_taken_back undos) (taken_back_insert key cell es sorted)

size_cons : (e : List ℕ × Cell) (es : Entries) → entries_size (e ∷ es) ≡ entry_size e.0 e.1 + entries_size es
size_cons e es = sum_by-cons (λ (x : List ℕ × Cell). entry_size x.0 x.1) e es

-- the size with the insertion
pub size_insert : (key : List ℕ) (cell : Cell) (es : Entries) → IsSorted es → entries_size (insert_entry key_cmp es key cell) + old_size key (found es key) ≡ entries_size es + entry_size key cell
size_insert key cell [] sorted = omega (arith, size_cons (key, cell) [])
size_insert key cell (e ∷ es) sorted =
    elim (key_cmp key e.0) as (λ r. key_cmp key e.0 ≡ r → entries_size (insert_entry key_cmp (e ∷ es) key cell) + old_size key (found (e ∷ es) key) ≡ entries_size (e ∷ es) + entry_size key cell) [
      | Less ↦ λ is.
          let none : old_size key (found (e ∷ es) key) ≡ 0 = ap (old_size key) (below key e es sorted is) in
          let put : entries_size (insert_entry key_cmp (e ∷ es) key cell) ≡ entries_size ((key, cell) ∷ e ∷ es) = rw is refl in
          omega (arith, none, put, size_cons (key, cell) (e ∷ es))
      | Equal ↦ λ is.
          let old : old_size key (found (e ∷ es) key) ≡ entry_size key e.1 = rw is refl in
          let put : entries_size (insert_entry key_cmp (e ∷ es) key cell) ≡ entries_size ((e.0, cell) ∷ es) = rw is refl in
          let size : length key ≡ length e.0 = ap length (exact_bytes key e.0 is) in
          omega (arith, old, put, size, size_cons (e.0, cell) es, size_cons e es)
      | Greater ↦ λ is.
          let old : old_size key (found (e ∷ es) key) ≡ old_size key (found es key) = rw is refl in
          let put : entries_size (insert_entry key_cmp (e ∷ es) key cell) ≡ entries_size (e ∷ insert_entry key_cmp es key cell) = rw is refl in
          omega (arith, old, put, size_cons e es, size_cons e (insert_entry key_cmp es key cell), size_insert key cell es (tail e es sorted))
    ] refl

-- what is found is part of the size
pub size_found : (key : List ℕ) (es : Entries) → old_size key (found es key) ≤ entries_size es
size_found key [] = omega arith
size_found key (e ∷ es) =
    elim (key_cmp key e.0) as (λ r. key_cmp key e.0 ≡ r → old_size key (found (e ∷ es) key) ≤ entries_size (e ∷ es)) [
      | Less ↦ λ is.
          let old : old_size key (found (e ∷ es) key) ≡ old_size key (found es key) = rw is refl in
          omega (arith, old, size_cons e es, size_found key es)
      | Equal ↦ λ is.
          let old : old_size key (found (e ∷ es) key) ≡ entry_size key e.1 = rw is refl in
          let size : length key ≡ length e.0 = ap length (exact_bytes key e.0 is) in
          omega (arith, old, size, size_cons e es)
      | Greater ↦ λ is.
          let old : old_size key (found (e ∷ es) key) ≡ old_size key (found es key) = rw is refl in
          omega (arith, old, size_cons e es, size_found key es)
    ] refl
