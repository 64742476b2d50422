-- The values of changes: numbered in the text, and standing in blocks after it.
use Rattle.std.proofs.Common.{◌≡◌, ℕ, suc, ◌+◌, ◌<◌, ◌≤◌, true, false, cond, List, [], ◌∷◌, ◌++◌, length, Option, Some, None, Result, Ok, Err, refl, sym, ap, subst, ◌∙◌, append_assoc, arith, eq-eqb}
use Rattle.std.specs.List.{flat_map, AllByRecursion}
use Rattle.std.specs.Prelude.{◌==◌, ◌&&◌, OnOk}
use Rattle.std.proofs.lemmas.Bool.{and_parts, and_from, eqb-true, ltb-true, ltb-false, lt-ltb, le-ltb}
use Rattle.std.proofs.lemmas.List.{append-nil, length-append, nil_from_length}
use Rattle.std.proofs.lemmas.List.Concat.{flat_map-cons}
use Rattle.wire.specs.declared.transaction.Change.{Change}
use Rattle.blocks.specs.Format.{◌>>=◌}
use Rattle.blocks.proofs.Formats.{bind_some, if_some, some_is}
use Rattle.memtable.specs.Limits.{is_large}
use Rattle.commitlog.specs.declared.text_cell.TextCell.{TextCell}
use Rattle.commitlog.specs.declared.text_cell.TextCell.TheVariants.{Deleted, Inline, Large}
use Rattle.commitlog.specs.Running.{running}
use Rattle.commitlog.specs.Record.{large, change_values, transaction_values, text_cell, text_change, text_changes, text_transactions, HasValue, IsChange, IsTransaction}
use Rattle.commitlog.specs.Reading.{value_at, change_of, each_of, changes_of, transactions_of}
use Rattle.commitlog.proofs.Texts.{FitsCell, FitsChange, FitsChanges}

-- put says what stands in the text of a value that fits at the number n, with some blocks of its own; get reads it
-- again, where so many blocks are left that the next has the number n
pub record IsNumbered {A B : Type 0} (put : ℕ → B → A) (used : B → List (List ℕ)) (get : ℕ → List (List ℕ) → A → Option (B × List (List ℕ))) (P : B → Type 0) (Q : A → Type 0) : Type 0 where
  pub takes : (total n : ℕ) (blocks : List (List ℕ)) (a : A) (b : B) (rest : List (List ℕ)) → n + length blocks ≡ total → Q a → get total blocks a ≡ Some (b, rest) → (a ≡ put n b) × (blocks ≡ used b ++ rest) × P b
  pub again : (total n : ℕ) (b : B) (rest : List (List ℕ)) → n + length (used b ++ rest) ≡ total → P b → get total (used b ++ rest) (put n b) ≡ Some (b, rest)
  pub fit : (n : ℕ) (b : B) → n + length (used b) ≤ 256 → P b → Q (put n b)

-- one after the other
module _ {A B : Type 0} (put : ℕ → B → A) (used : B → List (List ℕ)) (get : ℕ → List (List ℕ) → A → Option (B × List (List ℕ))) (P : B → Type 0) (Q : A → Type 0) (one : IsNumbered put used get P Q) where
  abbrev all_put : ℕ → List B → List A
  all_put n bs = running put (λ b. length (used b)) n bs

  each_takes : (total n : ℕ) (blocks : List (List ℕ)) (items : List A) (y : List B × List (List ℕ)) → n + length blocks ≡ total → AllByRecursion Q items → each_of (get total) blocks items ≡ Some y
      → (items ≡ all_put n y.0) × (blocks ≡ flat_map used y.0 ++ y.1) × AllByRecursion P y.0
  each_takes total n blocks [] y count q e =
      subst (λ (z : List B × List (List ℕ)). ([] ≡ all_put n z.0) × (blocks ≡ flat_map used z.0 ++ z.1) × AllByRecursion P z.0) (some_is ([], blocks) y e) (refl, refl, tt)
  each_takes total n blocks (a ∷ items) y count q e =
      let b = bind_some (get total blocks a) (λ b. each_of (get total) b.1 items >>= λ others. Some (b.0 ∷ others.0, others.1)) y e in
      let o = bind_some (each_of (get total) b.0.1 items) (λ others. Some (b.0.0 ∷ others.0, others.1)) y b.2 in
      let s = one.takes total n blocks a b.0.0 b.0.1 count q.0 b.1 in
      let count2 : n + length (used b.0.0) + length b.0.1 ≡ total = omega (arith, count, ap length s.1, length-append (used b.0.0) b.0.1) in
      let t = each_takes total (n + length (used b.0.0)) b.0.1 items o.0 count2 q.1 o.1 in
      let parts : blocks ≡ (used b.0.0 ++ flat_map used o.0.0) ++ o.0.1 = s.1 ∙ ap (λ (l : List (List ℕ)). used b.0.0 ++ l) t.1 ∙ sym (append_assoc (used b.0.0) (flat_map used o.0.0) o.0.1) in
      let made : List B × List (List ℕ) = (b.0.0 ∷ o.0.0, o.0.1) in
      let items-are : a ∷ items ≡ all_put n (b.0.0 ∷ o.0.0) = ap (λ (x : A). x ∷ items) s.0 ∙ ap (λ (l : List A). put n b.0.0 ∷ l) t.0 in
      subst (λ (z : List B × List (List ℕ)). (a ∷ items ≡ all_put n z.0) × (blocks ≡ flat_map used z.0 ++ z.1) × AllByRecursion P z.0) (some_is made y o.2) (items-are, rw flat_map-cons parts, (s.2, t.2))

  each_again : (total n : ℕ) (bs : List B) (rest : List (List ℕ)) → n + length (flat_map used bs ++ rest) ≡ total → AllByRecursion P bs → each_of (get total) (flat_map used bs ++ rest) (all_put n bs) ≡ Some (bs, rest)
  each_again total n [] rest count p = refl
  each_again total n (b ∷ bs) rest count p =
      let regrouped : flat_map used (b ∷ bs) ++ rest ≡ used b ++ (flat_map used bs ++ rest) = ap (λ (l : List (List ℕ)). l ++ rest) (flat_map-cons used b bs) ∙ append_assoc (used b) (flat_map used bs) rest in
      let count1 : n + length (used b ++ (flat_map used bs ++ rest)) ≡ total = omega (arith, count, ap length regrouped) in
      let count2 : n + length (used b) + length (flat_map used bs ++ rest) ≡ total = omega (arith, count1, length-append (used b) (flat_map used bs ++ rest)) in
      ap (λ (l : List (List ℕ)). each_of (get total) l (all_put n (b ∷ bs))) regrouped ∙ rw (one.again total n b (flat_map used bs ++ rest) count1 p.0, each_again total (n + length (used b)) bs rest count2 p.1) refl

  each_fit : (n : ℕ) (bs : List B) → n + length (flat_map used bs) ≤ 256 → AllByRecursion P bs → AllByRecursion Q (all_put n bs)
  each_fit n [] le p = tt
  each_fit n (b ∷ bs) le p =
      let sum : length (flat_map used (b ∷ bs)) ≡ length (used b) + length (flat_map used bs) = ap length (flat_map-cons used b bs) ∙ length-append (used b) (flat_map used bs) in
      (one.fit n b (omega (arith, le, sum)) p.0, each_fit (n + length (used b)) bs (omega (arith, le, sum)) p.1)

  pub each_numbered : IsNumbered all_put (λ bs. flat_map used bs) (λ total blocks items. each_of (get total) blocks items) (AllByRecursion P) (AllByRecursion Q)
  each_numbered = record {
    takes = λ total n blocks items bs rest count q e. each_takes total n blocks items (bs, rest) count q e;
    again = each_again;
    fit = each_fit;
  }

pub length-running : {A B : Type 0} (put : ℕ → B → A) (size : B → ℕ) (n : ℕ) (bs : List B) → length (running put size n bs) ≡ length bs
length-running put size n [] = refl
length-running put size n (b ∷ bs) = ap suc (length-running put size (n + size b) bs)

-- ---- one value

small : (v : List ℕ) → length v ≤ 4096 → is_large v ≡ false
small v le = le-ltb _ _ le

big : (v : List ℕ) → 4097 ≤ length v → is_large v ≡ true
big v le = lt-ltb _ _ (omega arith)

value_takes : (total n : ℕ) (blocks : List (List ℕ)) (cell : TextCell) (y : Option (List ℕ) × List (List ℕ)) → n + length blocks ≡ total → FitsCell cell → value_at total blocks cell ≡ Some y
    → (cell ≡ text_cell n y.0) × (blocks ≡ large y.0 ++ y.1) × HasValue y.0
value_takes total n blocks Deleted y count q e =
    subst (λ (z : Option (List ℕ) × List (List ℕ)). (Deleted ≡ text_cell n z.0) × (blocks ≡ large z.0 ++ z.1) × HasValue z.0) (some_is (None, blocks) y e) (refl, refl, tt)
value_takes total n blocks (Inline v) y count q e =
    subst (λ (z : Option (List ℕ) × List (List ℕ)). (Inline v ≡ text_cell n z.0) × (blocks ≡ large z.0 ++ z.1) × HasValue z.0) (some_is (Some v, blocks) y e) (rw (small v q) refl, rw (small v q) refl, omega arith)
value_takes total n [] (Large m size) y count q e = absurd cc
value_takes total n (b ∷ blocks) (Large m size) y count q e =
    let g = if_some (m + length (b ∷ blocks) == total && length b == size) (Some b, blocks) y e in
    let t = and_parts (m + length (b ∷ blocks) == total) (length b == size) g.0 in
    let size-is : length b ≡ size = eqb-true _ _ t.1 in
    let sum : m + length (b ∷ blocks) ≡ total = eqb-true _ _ t.0 in
    let number-is : m ≡ n = omega arith in
    let tested : is_large b ≡ true = big b (omega (arith, q)) in
    let cell-is : Large m size ≡ text_cell n (Some b) = rw tested (ap (λ (k : ℕ). Large k size) number-is ∙ ap (λ (k : ℕ). Large n k) (sym size-is)) in
    let blocks-are : b ∷ blocks ≡ large (Some b) ++ blocks = rw tested refl in
    subst (λ (z : Option (List ℕ) × List (List ℕ)). (Large m size ≡ text_cell n z.0) × (b ∷ blocks ≡ large z.0 ++ z.1) × HasValue z.0) g.1 (cell-is, blocks-are, omega (arith, q))

value_again : (total n : ℕ) (value : Option (List ℕ)) (rest : List (List ℕ)) → n + length (large value ++ rest) ≡ total → HasValue value → value_at total (large value ++ rest) (text_cell n value) ≡ Some (value, rest)
value_again total n None rest count h = refl
value_again total n (Some v) rest count h =
    elim (is_large v) as (λ b. is_large v ≡ b → value_at total (large (Some v) ++ rest) (text_cell n (Some v)) ≡ Some (Some v, rest)) [
      | true ↦ λ is.
          let sum : n + length (v ∷ rest) ≡ total = rw is at count in
          let both : (n + length (v ∷ rest) == total && length v == length v) ≡ true = and_from _ _ (eq-eqb _ _ sum) (eq-eqb _ _ refl) in
          rw is (rw both refl)
      | false ↦ λ is. rw is refl
    ] refl

value_fit : (n : ℕ) (value : Option (List ℕ)) → n + length (large value) ≤ 256 → HasValue value → FitsCell (text_cell n value)
value_fit n None le h = tt
value_fit n (Some v) le h =
    elim (is_large v) as (λ b. is_large v ≡ b → FitsCell (text_cell n (Some v))) [
      | true ↦ λ is.
          let room : n + 1 ≤ 256 = rw is at le in
          let long : 4096 < length v = ltb-true _ _ is in
          rw is (omega arith, (omega arith, h))
      | false ↦ λ is.
          let short : length v ≤ 4096 = ltb-false _ _ is in
          rw is short
    ] refl

-- ---- a change

change_takes : (total n : ℕ) (blocks : List (List ℕ)) (a : List ℕ × TextCell) (b : Change) (rest : List (List ℕ)) → n + length blocks ≡ total → FitsChange a → change_of total blocks a ≡ Some (b, rest)
    → (a ≡ text_change n b) × (blocks ≡ change_values b ++ rest) × IsChange b
change_takes total n blocks a b rest count q e =
    let v = bind_some (value_at total blocks a.1) (λ v. Some (record { key = a.0; value = v.0 }, v.1)) (b, rest) e in
    let s = value_takes total n blocks a.1 v.0 count q.1 v.1 in
    let change : Change = record { key = a.0; value = v.0.0 } in
    let made : Change × List (List ℕ) = (change, v.0.1) in
    subst (λ (z : Change × List (List ℕ)). (a ≡ text_change n z.0) × (blocks ≡ change_values z.0 ++ z.1) × IsChange z.0) (some_is made (b, rest) v.2) (ap (λ (c : TextCell). (a.0, c)) s.0, s.1, (q.0.1, s.2))

change_numbered : IsNumbered text_change change_values change_of IsChange FitsChange
change_numbered = record {
  takes = change_takes;
  again = λ total n b rest count p. rw (value_again total n b.value rest count p.1) refl;
  fit = λ n b le p. ((omega (arith, p.0), p.0), value_fit n b.value le p.1);
}

all_changes : IsNumbered text_changes transaction_values changes_of (AllByRecursion IsChange) (AllByRecursion FitsChange)
all_changes = each_numbered text_change change_values change_of IsChange FitsChange change_numbered

transaction_numbered : IsNumbered text_changes transaction_values changes_of IsTransaction FitsChanges
transaction_numbered = record {
  takes = λ total n blocks a b rest count q e.
      let s = all_changes.takes total n blocks a b rest count q.1 e in
      let size : length a ≡ length b = ap length s.0 ∙ length-running text_change (λ c. length (change_values c)) n b in
      (s.0, s.1, (subst (λ (k : ℕ). (1 ≤ k) × (k ≤ 32)) size q.0.1, s.2));
  again = λ total n b rest count p. all_changes.again total n b rest count p.1;
  fit = λ n b le p.
      let size : length (text_changes n b) ≡ length b = length-running text_change (λ c. length (change_values c)) n b in
      ((omega (arith, size, p.0), (omega (arith, size, p.0), omega (arith, size, p.0))), all_changes.fit n b le p.1);
}

all_transactions : IsNumbered text_transactions (λ ts. flat_map transaction_values ts) (λ total blocks ts. each_of (changes_of total) blocks ts) (AllByRecursion IsTransaction) (AllByRecursion FitsChanges)
all_transactions = each_numbered text_changes transaction_values changes_of IsTransaction FitsChanges transaction_numbered

pub transactions_take : (blocks : List (List ℕ)) (items : List (List (List ℕ × TextCell))) (ts : List (List Change)) → AllByRecursion FitsChanges items → transactions_of blocks items ≡ Some ts
    → (items ≡ text_transactions 0 ts) × (blocks ≡ flat_map transaction_values ts) × AllByRecursion IsTransaction ts
unfolding transactions_of
transactions_take blocks items ts q e =
    let x = bind_some (each_of (changes_of (length blocks)) blocks items) (λ x. cond (length x.1 == 0) (Some x.0) None) ts e in
    let g = if_some (length x.0.1 == 0) x.0.0 ts x.2 in
    let s = all_transactions.takes (length blocks) 0 blocks items x.0.0 x.0.1 (omega arith) q x.1 in
    let nothing : x.0.1 ≡ [] = nil_from_length x.0.1 (eqb-true _ _ g.0) in
    let blocks-are : blocks ≡ flat_map transaction_values x.0.0 = s.1 ∙ ap (λ (l : List (List ℕ)). flat_map transaction_values x.0.0 ++ l) nothing ∙ append-nil (flat_map transaction_values x.0.0) in
    subst (λ (z : List (List Change)). (items ≡ text_transactions 0 z) × (blocks ≡ flat_map transaction_values z) × AllByRecursion IsTransaction z) g.1 (s.0, blocks-are, s.2)

pub transactions_again : (ts : List (List Change)) → AllByRecursion IsTransaction ts → transactions_of (flat_map transaction_values ts) (text_transactions 0 ts) ≡ Some ts
unfolding transactions_of
transactions_again ts p =
    let all : List (List ℕ) = flat_map transaction_values ts in
    let alone : all ++ [] ≡ all = append-nil all in
    let one : each_of (changes_of (length all)) all (text_transactions 0 ts) ≡ Some (ts, []) = ap (λ (l : List (List ℕ)). each_of (changes_of (length all)) l (text_transactions 0 ts)) (sym alone) ∙ all_transactions.again (length all) 0 ts [] (omega (arith, ap length alone)) p in
    rw one refl

pub transactions_fit : (ts : List (List Change)) → length (flat_map transaction_values ts) ≤ 256 → AllByRecursion IsTransaction ts → AllByRecursion FitsChanges (text_transactions 0 ts)
transactions_fit ts le p = all_transactions.fit 0 ts (omega arith) p

pub length-text_changes : (n : ℕ) (t : List Change) → length (text_changes n t) ≡ length t
length-text_changes n t = length-running text_change (λ c. length (change_values c)) n t

pub length-text_transactions : (n : ℕ) (ts : List (List Change)) → length (text_transactions n ts) ≡ length ts
length-text_transactions n ts = length-running text_changes (λ t. length (transaction_values t)) n ts

-- what follows on success
pub on_ok : {T E P Q : Type 0} (r : Result T E) → (P → Q) → OnOk r P → OnOk r Q
on_ok (Ok x) f p = f p
on_ok (Err e) f p = tt
