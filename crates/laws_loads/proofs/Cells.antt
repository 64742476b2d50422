-- Texts and where they stand in an extent, cells that are put into a layer, and what the cells of a record have for values.
use Rattle.std.proofs.Common.{◌≡◌, ℕ, zero, suc, ◌+◌, List, [], ◌∷◌, ◌++◌, length, take, drop, Option, Some, None, Bool, true, false, refl, sym, ap, ◌∙◌, subst, cond, arith, append_assoc}
use Rattle.std.proofs.Common.{is_eq}
use Rattle.std.specs.List.{flat_map}
use Rattle.std.specs.BTreeMap.{insert_entry}
use Rattle.std.specs.declared.cmp.Ordering.TheVariants.{Less, Equal, Greater}
use Rattle.std.proofs.lemmas.Map.Text.{is_eq-slice_cmp}
use Rattle.std.proofs.lemmas.Slice.Eq.{bytes_eq-Decides}
use Rattle.wire.specs.declared.transaction.Change.{Change}
use Rattle.block_types.specs.Limits.{group_size}
use Rattle.memtable.specs.declared.cell.Cell.{Cell}
use Rattle.memtable.specs.declared.cell.Cell.TheVariants.{Inline, Placed}
use Rattle.memtable.specs.Limits.{is_large}
use Rattle.memtable.specs.Entries.{Entries, key_cmp, found, put_all}
use Rattle.std.proofs.lemmas.List.Concat.{flat_map-cons}
use Rattle.replica.specs.Groups.{Group, joined}
use Rattle.replica.proofs.Lengths.{group_size-size}
use Rattle.commitlog.specs.Record.{large, transaction_values}
use Rattle.commitlog.specs.Places.{kept_cell, kept_transactions}
use Rattle.model_partition.specs.Past.{Bytes}
use Rattle.model_histories.specs.TableContents.{StandsAt, value_in}

-- ---- texts

pub length_both : (xs ys : Bytes) → length (xs ++ ys) ≡ length xs + length ys
length_both [] ys = omega arith
length_both (x ∷ xs) ys = omega (arith, length_both xs ys)

pub drop_front : (xs ys : Bytes) (n : ℕ) → length xs ≡ n → drop n (xs ++ ys) ≡ ys
drop_front [] ys zero e = refl
drop_front [] ys (suc n) e = absurd (omega arith)
drop_front (x ∷ xs) ys zero e = absurd (omega arith)
drop_front (x ∷ xs) ys (suc n) e = drop_front xs ys n (omega arith)

pub take_front : (xs ys : Bytes) → take (length xs) (xs ++ ys) ≡ xs
take_front [] ys = refl
take_front (x ∷ xs) ys = ap (λ l. x ∷ l) (take_front xs ys)

pub taken_there : (text : Bytes) (offset : ℕ) (bytes : Bytes) → StandsAt text offset bytes → take (length bytes) (drop offset text) ≡ bytes
taken_there text offset bytes s =
    ap (λ t. take (length bytes) (drop offset t)) s.is
    ∙ ap (take (length bytes)) (drop_front s.before (bytes ++ s.behind) offset s.at)
    ∙ take_front bytes s.behind

-- the first part, and what is after it
pub stands_first : (text : Bytes) (offset : ℕ) (xs ys : Bytes) → StandsAt text offset (xs ++ ys) → StandsAt text offset xs
stands_first text offset xs ys s = record {
  before = s.before;
  behind = ys ++ s.behind;
  is = s.is ∙ ap (λ l. s.before ++ l) (append_assoc xs ys s.behind);
  at = s.at;
}

pub stands_second : (text : Bytes) (offset : ℕ) (xs ys : Bytes) → StandsAt text offset (xs ++ ys) → StandsAt text (offset + length xs) ys
stands_second text offset xs ys s = record {
  before = s.before ++ xs;
  behind = s.behind;
  is = s.is ∙ ap (λ l. s.before ++ l) (append_assoc xs ys s.behind) ∙ sym (append_assoc s.before xs (ys ++ s.behind));
  at = length_both s.before xs ∙ ap (λ n. n + length xs) s.at;
}

-- ---- blocks

pub joined_both : (xs ys : Group) → joined (xs ++ ys) ≡ joined xs ++ joined ys
joined_both [] ys = refl
joined_both (x ∷ xs) ys = ap (λ l. x ++ l) (joined_both xs ys) ∙ sym (append_assoc x (joined xs) (joined ys))

pub size_is : (g : Group) → group_size g ≡ length (joined g)
size_is g = group_size-size g

-- the blocks of the first item, and those of the others
pub first_blocks : {A : Type 0} (f : A → Group) (x : A) (xs : List A) → joined (flat_map f (x ∷ xs)) ≡ joined (f x) ++ joined (flat_map f xs)
first_blocks f x xs = ap joined (flat_map-cons f x xs) ∙ joined_both (f x) (flat_map f xs)

-- ---- a layer

pub same_key : (k q : Bytes) → is_eq (key_cmp k q) ≡ true → k ≡ q
same_key k q e = (bytes_eq-Decides k q).0 (sym (is_eq-slice_cmp k q) ∙ e)

key_same : (k q : Bytes) → k ≡ q → is_eq (key_cmp k q) ≡ true
key_same k q e = is_eq-slice_cmp k q ∙ (bytes_eq-Decides k q).1 e

pub apart : (k q : Bytes) → is_eq (key_cmp k q) ≡ false → is_eq (key_cmp q k) ≡ false
apart k q e = by (is_eq (key_cmp q k)) refl
  where
    by : (b : Bool) → is_eq (key_cmp q k) ≡ b → is_eq (key_cmp q k) ≡ false
    by false f = f
    by true f = let r : is_eq (key_cmp k q) ≡ true = key_same k q (sym (same_key q k f)) in absurd cc

pub inserted_same : (es : Entries) (k : Bytes) (cell : Cell) → found (insert_entry key_cmp es k cell) k ≡ Some cell
inserted_same [] k cell = rw (key_same k k refl) refl
inserted_same (e ∷ es) k cell =
    elim (key_cmp k e.0) as (λ r. key_cmp k e.0 ≡ r → found (insert_entry key_cmp (e ∷ es) k cell) k ≡ Some cell) [
      | Less ↦ λ r. rw (r, key_same k k refl) refl
      | Equal ↦ λ r. rw (r, r) refl
      | Greater ↦ λ r. rw (r, r) (inserted_same es k cell)
    ] refl

pub inserted_other : (es : Entries) (k q : Bytes) (cell : Cell) → is_eq (key_cmp k q) ≡ false → found (insert_entry key_cmp es k cell) q ≡ found es q
inserted_other [] k q cell ne = rw (apart k q ne) refl
inserted_other (e ∷ es) k q cell ne =
    elim (key_cmp k e.0) as (λ r. key_cmp k e.0 ≡ r → found (insert_entry key_cmp (e ∷ es) k cell) q ≡ found (e ∷ es) q) [
      | Less ↦ λ r. rw (r, apart k q ne) refl
      | Equal ↦ λ r.
          let here : k ≡ e.0 = same_key k e.0 (ap is_eq r) in
          let not : is_eq (key_cmp q e.0) ≡ false = subst (λ z. is_eq (key_cmp q z) ≡ false) here (apart k q ne) in
          rw (r, not) refl
      | Greater ↦ λ r. rw r (ap (λ x. cond (is_eq (key_cmp q e.0)) (Some e.1) x) (inserted_other es k q cell ne))
    ] refl

pub put_both : (es : Entries) (xs ys : List (Bytes × Cell)) → put_all es (xs ++ ys) ≡ put_all (put_all es xs) ys
put_both es [] ys = refl
put_both es (x ∷ xs) ys = put_both (insert_entry key_cmp es x.0 x.1) xs ys

-- ---- records

module _ (texts : ℕ → Bytes) where
  large_kept : (b : Bool) (extent offset : ℕ) (value : Bytes) → StandsAt (texts extent) offset (joined (cond b (value ∷ []) [])) →
      value_in texts (cond b (Placed (record { extent = extent; offset = offset; length = length value })) (Inline value)) ≡ Some value
  large_kept true extent offset value s = ap Some (taken_there (texts extent) offset value (stands_first (texts extent) offset value [] s))
  large_kept false extent offset value s = refl

  -- what a row keeps of a value has that value
  pub kept_value : (extent offset : ℕ) (value : Option Bytes) → StandsAt (texts extent) offset (joined (large value)) →
      value_in texts (kept_cell extent offset value) ≡ value
  kept_value extent offset None s = refl
  kept_value extent offset (Some value) s = large_kept (is_large value) extent offset value s

-- after the first n transactions the others stand
pub record Behind (text : Bytes) (extent offset n : ℕ) (ts : List (List Change)) : Type 0 where
  pub place : ℕ
  pub kept : drop n (kept_transactions extent offset ts) ≡ kept_transactions extent place (drop n ts)
  pub stands : StandsAt text place (joined (flat_map transaction_values (drop n ts)))

pub behind : (text : Bytes) (extent offset n : ℕ) (ts : List (List Change)) → StandsAt text offset (joined (flat_map transaction_values ts)) →
    Behind text extent offset n ts
behind text extent offset zero ts s = record { place = offset; kept = refl; stands = s }
behind text extent offset (suc n) [] s = record { place = offset; kept = refl; stands = s }
behind text extent offset (suc n) (t ∷ ts) s =
    let parts : StandsAt text offset (joined (transaction_values t) ++ joined (flat_map transaction_values ts)) =
    subst (StandsAt text offset) (first_blocks transaction_values t ts) s in
    let more = stands_second text offset (joined (transaction_values t)) (joined (flat_map transaction_values ts)) parts in
    let place : offset + length (joined (transaction_values t)) ≡ offset + group_size (transaction_values t) = ap (λ m. offset + m) (sym (size_is (transaction_values t))) in
    let r = behind text extent (offset + group_size (transaction_values t)) n ts (subst (λ m. StandsAt text m (joined (flat_map transaction_values ts))) place more) in
    record { place = r.place; kept = r.kept; stands = r.stands }
