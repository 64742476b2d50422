-- Cells of a record, put into a layer one after the other, leave the layer that its changes leave.
use Rattle.std.proofs.Common.{◌≡◌, ℕ, ◌+◌, List, [], ◌∷◌, ◌++◌, length, Option, Some, option_map, Bool, true, false, cond, refl, sym, ap, ◌∙◌, subst}
use Rattle.std.specs.Prelude.{bytes_eq, filter}
use Rattle.std.proofs.Common.{is_eq}
use Rattle.std.specs.List.{flat_map}
use Rattle.std.specs.BTreeMap.{insert_entry}
use Rattle.std.proofs.lemmas.List.Concat.{flat_map-cons}
use Rattle.std.proofs.lemmas.Map.Text.{is_eq-slice_cmp}
use Rattle.std.proofs.lemmas.Slice.Eq.{bytes_eq-Decides}
use Rattle.wire.specs.declared.transaction.Change.{Change}
use Rattle.block_types.specs.Limits.{group_size}
use Rattle.memtable.specs.declared.cell.Cell.{Cell}
use Rattle.memtable.specs.Entries.{Entries, key_cmp, found, put_all}
use Rattle.replica.specs.Groups.{joined}
use Rattle.commitlog.specs.Record.{change_values, transaction_values}
use Rattle.commitlog.specs.Places.{kept_cell, kept_changes, kept_transactions}
use Rattle.model_partition.specs.Past.{Bytes}
use Rattle.model_histories.specs.TableContents.{StandsAt, value_in}
use Rattle.laws_loads.proofs.Cells.{stands_first, stands_second, size_is, first_blocks, same_key, apart, inserted_same, inserted_other, put_both, kept_value}
use Rattle.laws_tables.specs.Layers.{Layer, layer_change, layer_transaction, layer_line}
use Rattle.laws_loads.specs.MemoryLayers.{layer_in}

-- ---- cells of some keys

found_after : (es fs : Entries) (key q : Bytes) (cell : Cell) → found es q ≡ found fs q → found (insert_entry key_cmp es key cell) q ≡ found (insert_entry key_cmp fs key cell) q
found_after es fs key q cell old = by (is_eq (key_cmp key q)) refl
  where
    by : (b : Bool) → is_eq (key_cmp key q) ≡ b → found (insert_entry key_cmp es key cell) q ≡ found (insert_entry key_cmp fs key cell) q
    by true e =
        let same : key ≡ q = same_key key q e in
        subst (λ z. found (insert_entry key_cmp es key cell) z ≡ found (insert_entry key_cmp fs key cell) z) same (inserted_same es key cell ∙ sym (inserted_same fs key cell))
    by false e = inserted_other es key q cell e ∙ old ∙ sym (inserted_other fs key q cell e)

-- a key that is let in has the cell that it had if all were let in
pub found_let_in : (lets_in : Bytes → Bool) (q : Bytes) → lets_in q ≡ true → (cells : List (Bytes × Cell)) (es fs : Entries) → found es q ≡ found fs q →
    found (put_all es (filter (λ cell. lets_in cell.0) cells)) q ≡ found (put_all fs cells) q
found_let_in lets_in q is [] es fs old = old
found_let_in lets_in q is (c ∷ cells) es fs old =
    by (λ more others same. found_let_in lets_in q is cells more others same) (lets_in c.0) refl
  where
    by : ((more others : Entries) → found more q ≡ found others q → found (put_all more (filter (λ cell. lets_in cell.0) cells)) q ≡ found (put_all others cells) q) →
        (b : Bool) → lets_in c.0 ≡ b →
        found (put_all es (cond b (c ∷ filter (λ cell. lets_in cell.0) cells) (filter (λ cell. lets_in cell.0) cells))) q ≡ found (put_all fs (c ∷ cells)) q
    by rest true e = rest (insert_entry key_cmp es c.0 c.1) (insert_entry key_cmp fs c.0 c.1) (found_after es fs c.0 q c.1 old)
    by rest false e = rest es (insert_entry key_cmp fs c.0 c.1) (old ∙ sym (inserted_other fs c.0 q c.1 (other (is_eq (key_cmp c.0 q)) refl)))
      where
        other : (b : Bool) → is_eq (key_cmp c.0 q) ≡ b → is_eq (key_cmp c.0 q) ≡ false
        other true same = let out : lets_in q ≡ false = ap lets_in (sym (same_key c.0 q same)) ∙ e in absurd (let z : true ≡ false = sym is ∙ out in cc)
        other false same = same

-- ---- cells as a layer

module _ (texts : ℕ → Bytes) where
  change_step : (b : Bool) (es : Entries) (key q : Bytes) (cell : Cell) (value : Option Bytes) (layer : Layer) → is_eq (key_cmp key q) ≡ b →
      value_in texts cell ≡ value → layer_in texts es q ≡ layer q →
      layer_in texts (insert_entry key_cmp es key cell) q ≡ layer_change (record { key = key; value = value }) layer q
  change_step true es key q cell value layer is says old =
      let same : key ≡ q = same_key key q is in
      let there : found (insert_entry key_cmp es key cell) q ≡ Some cell = subst (λ z. found (insert_entry key_cmp es key cell) z ≡ Some cell) same (inserted_same es key cell) in
      let test : bytes_eq q key ≡ true = (bytes_eq-Decides q key).1 (sym same) in
      ap (option_map (value_in texts)) there ∙ ap Some says ∙ rw test refl
  change_step false es key q cell value layer is says old =
      let test : bytes_eq q key ≡ false = sym (is_eq-slice_cmp q key) ∙ apart key q is in
      ap (option_map (value_in texts)) (inserted_other es key q cell is) ∙ old ∙ rw test refl

  -- what the cells of a transaction say of a key
  all_changes : (extent offset : ℕ) (t : List Change) (es : Entries) (layer : Layer) (q : Bytes) →
      StandsAt (texts extent) offset (joined (transaction_values t)) → layer_in texts es q ≡ layer q →
      layer_in texts (put_all es (kept_changes extent offset t)) q ≡ layer_transaction t layer q
  all_changes extent offset [] es layer q s says = says
  all_changes extent offset (c ∷ t) es layer q s says =
      let parts : StandsAt (texts extent) offset (joined (change_values c) ++ joined (transaction_values t)) =
      subst (StandsAt (texts extent) offset) (first_blocks change_values c t) s in
      let value = kept_value texts extent offset c.value (stands_first (texts extent) offset (joined (change_values c)) (joined (transaction_values t)) parts) in
      let more = stands_second (texts extent) offset (joined (change_values c)) (joined (transaction_values t)) parts in
      let place : offset + length (joined (change_values c)) ≡ offset + group_size (change_values c) = ap (λ n. offset + n) (sym (size_is (change_values c))) in
      all_changes extent (offset + group_size (change_values c)) t (insert_entry key_cmp es c.key (kept_cell extent offset c.value)) (layer_change c layer) q
      (subst (λ n. StandsAt (texts extent) n (joined (transaction_values t))) place more)
      (change_step (is_eq (key_cmp c.key q)) es c.key q (kept_cell extent offset c.value) c.value layer refl value says)

  -- what those of some transactions say of it
  pub all_transactions : (extent offset : ℕ) (ts : List (List Change)) (es : Entries) (layer : Layer) (q : Bytes) →
      StandsAt (texts extent) offset (joined (flat_map transaction_values ts)) → layer_in texts es q ≡ layer q →
      layer_in texts (put_all es (flat_map (λ changes. changes) (kept_transactions extent offset ts))) q ≡ layer_line ts layer q
  all_transactions extent offset [] es layer q s says = says
  all_transactions extent offset (t ∷ ts) es layer q s says =
      let parts : StandsAt (texts extent) offset (joined (transaction_values t) ++ joined (flat_map transaction_values ts)) =
      subst (StandsAt (texts extent) offset) (first_blocks transaction_values t ts) s in
      let first = stands_first (texts extent) offset (joined (transaction_values t)) (joined (flat_map transaction_values ts)) parts in
      let more = stands_second (texts extent) offset (joined (transaction_values t)) (joined (flat_map transaction_values ts)) parts in
      let place : offset + length (joined (transaction_values t)) ≡ offset + group_size (transaction_values t) = ap (λ n. offset + n) (sym (size_is (transaction_values t))) in
      let rest = all_transactions extent (offset + group_size (transaction_values t)) ts (put_all es (kept_changes extent offset t)) (layer_transaction t layer) q
      (subst (λ n. StandsAt (texts extent) n (joined (flat_map transaction_values ts))) place more)
      (all_changes extent offset t es layer q first says) in
      ap (λ l. layer_in texts (put_all es l) q)
      (flat_map-cons (λ changes. changes) (kept_changes extent offset t) (kept_transactions extent (offset + group_size (transaction_values t)) ts))
      ∙ ap (λ l. layer_in texts l q)
      (put_both es (kept_changes extent offset t) (flat_map (λ changes. changes) (kept_transactions extent (offset + group_size (transaction_values t)) ts)))
      ∙ rest
