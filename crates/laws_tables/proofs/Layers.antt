-- Layers as tables: what is applied to the newest of them is applied to the table that they make together.
use Rattle.std.proofs.Common.{◌≡◌, List, [], ◌∷◌, ◌++◌, Bool, true, false, cond, Option, Some, None, refl, ap, ◌∙◌}
use Rattle.std.specs.Prelude.{is_some, bytes_eq}
use Rattle.wire.specs.declared.transaction.Change.{Change}
use Rattle.metadata.specs.declared.record.KeyRange.{KeyRange}
use Rattle.metadata.specs.declared.record.MetaItem.{MetaItem}
use Rattle.metadata.specs.Fold.{MetadataState, all_keys, taken}
use Rattle.metadata.specs.Keys.{within}
use Rattle.model_partition.specs.Past.{Bytes, Transaction, Table, after_change, after_transaction, after_line, kept}
use Rattle.laws_tables.specs.Layers.{Layer, over, flat, limited, layer_change, layer_transaction, layer_line}
use Rattle.laws_tables.specs.Runs.{fold_of}

-- ---- tables

put_cases : (b : Bool) (x y v : Option Bytes) → x ≡ y → cond b v x ≡ cond b v y
put_cases true x y v e = refl
put_cases false x y v e = e

change_at : (c : Change) (t u : Table) (k : Bytes) → t k ≡ u k → after_change c t k ≡ after_change c u k
change_at c t u k h = put_cases (bytes_eq k c.key) (t k) (u k) c.value h

transaction_at : (cs : Transaction) (t u : Table) (k : Bytes) → t k ≡ u k → after_transaction cs t k ≡ after_transaction cs u k
transaction_at [] t u k h = h
transaction_at (c ∷ cs) t u k h = transaction_at cs (after_change c t) (after_change c u) k (change_at c t u k h)

-- what a line makes of a key depends on that key alone
pub line_at : (line : List Transaction) (t u : Table) (k : Bytes) → t k ≡ u k → after_line line t k ≡ after_line line u k
line_at [] t u k h = h
line_at (x ∷ line) t u k h = line_at line (after_transaction x t) (after_transaction x u) k (transaction_at x t u k h)

pub after_line-append : (xs ys : List Transaction) (t : Table) (k : Bytes) → after_line (xs ++ ys) t k ≡ after_line ys (after_line xs t) k
after_line-append [] ys t k = refl
after_line-append (x ∷ xs) ys t k = after_line-append xs ys (after_transaction x t) k

kept_cases : (b : Bool) (x y : Option Bytes) → (b ≡ true → x ≡ y) → cond b x None ≡ cond b y None
kept_cases true x y h = h refl
kept_cases false x y h = refl

pub kept_same : (keys : KeyRange) (t u : Table) → ((key : Bytes) → within keys key ≡ true → t key ≡ u key) → (key : Bytes) → kept keys t key ≡ kept keys u key
kept_same keys t u h key = kept_cases (within keys key) (t key) (u key) (h key)

-- ---- one key of two layers

abbrev pub pick : Option (Option Bytes) → Option (Option Bytes) → Option (Option Bytes)
pick x y = cond (is_some x) x y

pick_put : (b : Bool) (v : Option Bytes) (x y : Option (Option Bytes)) → flat (pick (cond b (Some v) x) y) ≡ cond b v (flat (pick x y))
pick_put true v x y = refl
pick_put false v x y = refl

pub pick_same : (x y z : Option (Option Bytes)) → flat y ≡ flat z → flat (pick x y) ≡ flat (pick x z)
pick_same None y z e = e
pick_same (Some v) y z e = refl

pub pick_none : (x : Option (Option Bytes)) → flat (pick x None) ≡ flat x
pick_none None = refl
pick_none (Some v) = refl

pub limited_in : (keys : KeyRange) (layer : Layer) (key : Bytes) → within keys key ≡ true → limited keys layer key ≡ layer key
limited_in keys layer key w = ap (λ b. cond b (layer key) None) w

pub in_all : (key : Bytes) → within all_keys key ≡ true
in_all [] = refl
in_all (k ∷ ks) = refl

pub kept_all : (table : Table) (key : Bytes) → kept all_keys table key ≡ table key
kept_all table key = ap (λ b. cond b (table key) None) (in_all key)

-- ---- changes of the newest layer

change_is : (c : Change) (layer base : Layer) (k : Bytes) → flat (over (layer_change c layer) base k) ≡ after_change c (λ x. flat (over layer base x)) k
change_is c layer base k = pick_put (bytes_eq k c.key) c.value (layer k) (base k)

transaction_is : (cs : Transaction) (layer base : Layer) (k : Bytes) → flat (over (layer_transaction cs layer) base k) ≡ after_transaction cs (λ x. flat (over layer base x)) k
transaction_is [] layer base k = refl
transaction_is (c ∷ cs) layer base k =
    transaction_is cs (layer_change c layer) base k
    ∙ transaction_at cs (λ x. flat (over (layer_change c layer) base x)) (after_change c (λ x. flat (over layer base x))) k (change_is c layer base k)

pub layer_line_is : (line : List Transaction) (layer base : Layer) (k : Bytes) → flat (over (layer_line line layer) base k) ≡ after_line line (λ x. flat (over layer base x)) k
layer_line_is [] layer base k = refl
layer_line_is (t ∷ line) layer base k =
    layer_line_is line (layer_transaction t layer) base k
    ∙ line_at line (λ x. flat (over (layer_transaction t layer) base x)) (after_transaction t (λ x. flat (over layer base x))) k (transaction_is t layer base k)

-- ---- metadata

pub fold_last : (items : List MetaItem) (item : MetaItem) (m : MetadataState) → fold_of m (items ++ item ∷ []) ≡ taken (fold_of m items) item
fold_last [] item m = refl
fold_last (i ∷ items) item m = fold_last items item (taken m i)
