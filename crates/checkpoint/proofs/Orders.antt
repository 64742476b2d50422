-- Entries in the order of their keys.
use Rattle.std.proofs.Common.{◌≡◌, ℕ, Bool, true, false, cond, List, [], ◌∷◌, ◌++◌, Option, Some, None, refl, sym, ap, subst, ◌∙◌, append_assoc}
use Rattle.std.specs.Prelude.{◌&&◌}
use Rattle.std.specs.List.{AllByRecursion}
use Rattle.std.specs.Ordering.{ordering_reverse, is_lt, is_eq}
use Rattle.std.specs.declared.cmp.Ordering.{Ordering}
use Rattle.std.specs.declared.cmp.Ordering.TheVariants.{Less, Equal, Greater}
use Rattle.std.specs.Cmp.Lexicographic.{nat_list_cmp_total}
use Rattle.std.specs.List.Sorted.{IsStrictlySortedBy}
use Rattle.std.specs.Map.{keys_of}
use Rattle.std.specs.BTreeMap.{insert_entry, is_at}
use Rattle.std.proofs.lemmas.Map.{NonePasses, lookup-none}
use Rattle.std.proofs.lemmas.Map.Lookups.{exact_bytes}
use Rattle.memtable.specs.declared.cell.Cell.{Cell}
use Rattle.memtable.specs.Entries.{Entries, key_cmp, found, put_all, latest}
use Rattle.memtable.specs.Layers.{or_else}
use Rattle.checkpoint_format.specs.Page.{is_ascending}

abbrev pub IsSorted : Entries → Type 0
IsSorted es = IsStrictlySortedBy key_cmp (keys_of es)

-- ---- each of some

pub all_as : {A : Type 0} {P Q : A → Type 0} → ((x : A) → P x → Q x) → (xs : List A) → AllByRecursion P xs → AllByRecursion Q xs
all_as h [] all = tt
all_as h (x ∷ xs) all = (h x all.0, all_as h xs all.1)

-- ---- the order of keys

pub less_is : (r : Ordering) → is_lt r ≡ true → r ≡ Less
less_is Less e = refl
less_is Equal e = absurd cc
less_is Greater e = absurd cc

pub equal_is : (r : Ordering) → is_eq r ≡ true → r ≡ Equal
equal_is Less e = absurd cc
equal_is Equal e = refl
equal_is Greater e = absurd cc

pub equal_keys : (a b : List ℕ) → is_at (key_cmp a) b ≡ true → a ≡ b
equal_keys a b e = exact_bytes a b (equal_is (key_cmp a b) e)

turned_level : (r : Ordering) → is_eq (ordering_reverse r) ≡ is_eq r
turned_level Less = refl
turned_level Equal = refl
turned_level Greater = refl

-- whichever of two keys is looked for
pub at_back : (a b : List ℕ) → is_at (key_cmp a) b ≡ is_at (key_cmp b) a
at_back a b = ap is_eq (nat_list_cmp_total.antisymm a b) ∙ turned_level (key_cmp b a)

pub greater_back : (a b : List ℕ) → key_cmp a b ≡ Greater → key_cmp b a ≡ Less
greater_back a b e = nat_list_cmp_total.antisymm b a ∙ ap ordering_reverse e

pub less_trans : (a b c : List ℕ) → key_cmp a b ≡ Less → key_cmp b c ≡ Less → key_cmp a c ≡ Less
less_trans a b c = nat_list_cmp_total.trans a b c

-- ---- sorted entries

pub head_below : (e : List ℕ × Cell) (es : Entries) → IsSorted (e ∷ es) → AllByRecursion (λ y. key_cmp e.0 y ≡ Less) (keys_of es)
unfolding IsStrictlySortedBy
head_below e es sorted = sorted.0

pub tail : (e : List ℕ × Cell) (es : Entries) → IsSorted (e ∷ es) → IsSorted es
unfolding IsStrictlySortedBy
tail e es sorted = sorted.1

pub sorted_cons : (e : List ℕ × Cell) (es : Entries) → AllByRecursion (λ y. key_cmp e.0 y ≡ Less) (keys_of es) → IsSorted es → IsSorted (e ∷ es)
unfolding IsStrictlySortedBy
sorted_cons e es below sorted = (below, sorted)

pub sorted_none : IsSorted []
unfolding IsStrictlySortedBy
sorted_none = tt

-- below a key that is below all of them
pub below_all : (a b : List ℕ) (keys : List (List ℕ)) → key_cmp a b ≡ Less → AllByRecursion (λ y. key_cmp b y ≡ Less) keys → AllByRecursion (λ y. key_cmp a y ≡ Less) keys
below_all a b keys lt all = all_as (λ y h. less_trans a b y lt h) keys all

pub and_true : (a b : Bool) → (a && b) ≡ true → (a ≡ true) × (b ≡ true)
and_true true b e = (refl, e)
and_true false b e = absurd cc

pub sorted_from_ascending : (es : Entries) → is_ascending es ≡ true → IsSorted es
sorted_from_ascending [] e = sorted_none
sorted_from_ascending (a ∷ []) e = sorted_cons a [] tt sorted_none
sorted_from_ascending (a ∷ b ∷ es) e =
    let parts = and_true (is_lt (key_cmp a.0 b.0)) (is_ascending (b ∷ es)) e in
    let sorted = sorted_from_ascending (b ∷ es) parts.1 in
    let lt = less_is (key_cmp a.0 b.0) parts.0 in
    sorted_cons a (b ∷ es) (lt, below_all a.0 b.0 (keys_of es) lt (head_below b es sorted)) sorted

pub ascending_from_sorted : (es : Entries) → IsSorted es → is_ascending es ≡ true
ascending_from_sorted [] sorted = refl
ascending_from_sorted (a ∷ []) sorted = refl
ascending_from_sorted (a ∷ b ∷ es) sorted =
    ap (λ (r : Ordering). is_lt r && is_ascending (b ∷ es)) (head_below a (b ∷ es) sorted).0 ∙ ascending_from_sorted (b ∷ es) (tail a (b ∷ es) sorted)

-- ---- an insertion

pub all_inserted : (P : List ℕ → Type 0) (key : List ℕ) (cell : Cell) (es : Entries) → P key → AllByRecursion P (keys_of es) → AllByRecursion P (keys_of (insert_entry key_cmp es key cell))
all_inserted P key cell [] here all = (here, tt)
all_inserted P key cell (e ∷ es) here all =
    elim (key_cmp key e.0) as (λ r. key_cmp key e.0 ≡ r → AllByRecursion P (keys_of (insert_entry key_cmp (e ∷ es) key cell))) [
      | Less ↦ λ is. rw is (here, all)
      | Equal ↦ λ is. rw is all
      | Greater ↦ λ is. rw is (all.0, all_inserted P key cell es here all.1)
    ] refl

pub sorted_insert : (key : List ℕ) (cell : Cell) (es : Entries) → IsSorted es → IsSorted (insert_entry key_cmp es key cell)
sorted_insert key cell [] sorted = sorted_cons (key, cell) [] tt sorted_none
sorted_insert key cell (e ∷ es) sorted =
    elim (key_cmp key e.0) as (λ r. key_cmp key e.0 ≡ r → IsSorted (insert_entry key_cmp (e ∷ es) key cell)) [
      | Less ↦ λ is. rw is (sorted_cons (key, cell) (e ∷ es) (is, below_all key e.0 (keys_of es) is (head_below e es sorted)) sorted)
      | Equal ↦ λ is. rw is (sorted_cons (e.0, cell) es (head_below e es sorted) (tail e es sorted))
      | Greater ↦ λ is. rw is (sorted_cons e (insert_entry key_cmp es key cell)
          (all_inserted (λ y. key_cmp e.0 y ≡ Less) key cell es (greater_back key e.0 is) (head_below e es sorted))
          (sorted_insert key cell es (tail e es sorted)))
    ] refl

pub sorted_put : (es : Entries) (changes : Entries) → IsSorted es → IsSorted (put_all es changes)
sorted_put es [] sorted = sorted
sorted_put es (c ∷ changes) sorted = sorted_put (insert_entry key_cmp es c.0 c.1) changes (sorted_insert c.0 c.1 es sorted)

pub found_insert : (key : List ℕ) (cell : Cell) (es : Entries) (q : List ℕ) → found (insert_entry key_cmp es key cell) q ≡ cond (is_at (key_cmp key) q) (Some cell) (found es q)
found_insert key cell [] q = ap (λ (b : Bool). cond b (Some cell) None) (at_back q key)
found_insert key cell (e ∷ es) q =
    elim (key_cmp key e.0) as (λ r. key_cmp key e.0 ≡ r → found (insert_entry key_cmp (e ∷ es) key cell) q ≡ cond (is_at (key_cmp key) q) (Some cell) (found (e ∷ es) q)) [
      | Less ↦ λ is. rw is (ap (λ (b : Bool). cond b (Some cell) (found (e ∷ es) q)) (at_back q key))
      | Equal ↦ λ is. rw is (over (exact_bytes key e.0 is))
      | Greater ↦ λ is. rw is (ap (λ (o : Option Cell). cond (is_at (key_cmp q) e.0) (Some e.1) o) (found_insert key cell es q) ∙ behind is (is_at (key_cmp q) e.0) refl)
    ] refl
  where
    both : (b : Bool) (old rest : Option Cell) → cond b (Some cell) rest ≡ cond b (Some cell) (cond b old rest)
    both true old rest = refl
    both false old rest = refl

    over : key ≡ e.0 → cond (is_at (key_cmp q) e.0) (Some cell) (found es q) ≡ cond (is_at (key_cmp key) q) (Some cell) (cond (is_at (key_cmp q) e.0) (Some e.1) (found es q))
    over same =
        both (is_at (key_cmp q) e.0) (Some e.1) (found es q)
        ∙ ap (λ (b : Bool). cond b (Some cell) (cond (is_at (key_cmp q) e.0) (Some e.1) (found es q))) (at_back q e.0 ∙ ap (λ (k : List ℕ). is_at (key_cmp k) q) (sym same))

    behind : key_cmp key e.0 ≡ Greater → (b : Bool) → is_at (key_cmp q) e.0 ≡ b
        → cond b (Some e.1) (cond (is_at (key_cmp key) q) (Some cell) (found es q)) ≡ cond (is_at (key_cmp key) q) (Some cell) (cond b (Some e.1) (found es q))
    behind is false h = refl
    behind is true h =
        let apart : is_at (key_cmp key) q ≡ false = ap (λ (k : List ℕ). is_at (key_cmp key) k) (equal_keys q e.0 h) ∙ ap is_eq is in
        rw apart refl

pub found_put : (es : Entries) (changes : Entries) (q : List ℕ) → found (put_all es changes) q ≡ latest q changes (found es q)
found_put es [] q = refl
found_put es (c ∷ changes) q = found_put (insert_entry key_cmp es c.0 c.1) changes q ∙ ap (latest q changes) (found_insert c.0 c.1 es q)

-- no key of the entries is one that is below all of them
pub none_from_below : (q : List ℕ) (es : Entries) → AllByRecursion (λ y. key_cmp q y ≡ Less) (keys_of es) → NonePasses (is_at (key_cmp q)) es
none_from_below q [] all = tt
none_from_below q (e ∷ es) all = (ap is_eq all.0, none_from_below q es all.1)

pub absent_below : (q : List ℕ) (es : Entries) → AllByRecursion (λ y. key_cmp q y ≡ Less) (keys_of es) → found es q ≡ None
absent_below q es all = lookup-none (is_at (key_cmp q)) es (none_from_below q es all)

-- changes that are entries replace what was there
pub latest_sorted : (q : List ℕ) (es : Entries) (old : Option Cell) → IsSorted es → latest q es old ≡ or_else (found es q) old
latest_sorted q [] old sorted = refl
latest_sorted q (e ∷ es) old sorted =
    latest_sorted q es (cond (is_at (key_cmp e.0) q) (Some e.1) old) (tail e es sorted) ∙ ap (λ (b : Bool). or_else (found es q) (cond b (Some e.1) old)) (at_back e.0 q)
    ∙ by (is_at (key_cmp q) e.0) refl
  where
    by : (b : Bool) → is_at (key_cmp q) e.0 ≡ b → or_else (found es q) (cond b (Some e.1) old) ≡ or_else (cond b (Some e.1) (found es q)) old
    by false h = refl
    by true h =
        let none : found es q ≡ None = ap (found es) (equal_keys q e.0 h) ∙ absent_below e.0 es (head_below e es sorted) in
        rw none refl

-- ---- entries one behind the other

pub keys_behind : (P : List ℕ → Type 0) (xs ys : Entries) → AllByRecursion P (keys_of (xs ++ ys)) → AllByRecursion P (keys_of ys)
keys_behind P [] ys all = all
keys_behind P (x ∷ xs) ys all = keys_behind P xs ys all.1

pub sorted_behind : (xs ys : Entries) → IsSorted (xs ++ ys) → IsSorted ys
sorted_behind [] ys sorted = sorted
sorted_behind (x ∷ xs) ys sorted = sorted_behind xs ys (tail x (xs ++ ys) sorted)

pub found_append : (xs ys : Entries) (q : List ℕ) → found (xs ++ ys) q ≡ or_else (found xs q) (found ys q)
found_append [] ys q = refl
found_append (x ∷ xs) ys q = ap (λ (o : Option Cell). cond (is_at (key_cmp q) x.0) (Some x.1) o) (found_append xs ys q) ∙ by (is_at (key_cmp q) x.0)
  where
    by : (b : Bool) → cond b (Some x.1) (or_else (found xs q) (found ys q)) ≡ or_else (cond b (Some x.1) (found xs q)) (found ys q)
    by true = refl
    by false = refl

-- one that is above all goes to the end
pub insert_last : (es : Entries) (key : List ℕ) (cell : Cell) (rest : Entries) → IsSorted (es ++ (key, cell) ∷ rest) → insert_entry key_cmp es key cell ≡ es ++ (key, cell) ∷ []
insert_last [] key cell rest sorted = refl
insert_last (e ∷ es) key cell rest sorted =
    let above : key_cmp key e.0 ≡ Greater = nat_list_cmp_total.antisymm key e.0 ∙ ap ordering_reverse (at_key es (head_below e (es ++ (key, cell) ∷ rest) sorted)) in
    rw above (ap (λ (l : Entries). e ∷ l) (insert_last es key cell rest (tail e (es ++ (key, cell) ∷ rest) sorted)))
  where
    at_key : (xs : Entries) → AllByRecursion (λ y. key_cmp e.0 y ≡ Less) (keys_of (xs ++ (key, cell) ∷ rest)) → key_cmp e.0 key ≡ Less
    at_key [] all = all.0
    at_key (x ∷ xs) all = at_key xs all.1

-- one more entry of a copy, which has come so far with these left
pub copied_more : (front left rest all : Entries) (key : List ℕ) (cell : Cell) (key_copy : List ℕ) (cell_copy : Cell) → front ++ left ≡ all → left ≡ (key, cell) ∷ rest → IsSorted all
    → key_copy ≡ key → cell_copy ≡ cell → insert_entry key_cmp front key_copy cell_copy ++ rest ≡ all
copied_more front left rest all key cell key_copy cell_copy so_far next sorted same_key same_cell =
    let whole : front ++ (key, cell) ∷ rest ≡ all = ap (λ (l : Entries). front ++ l) (sym next) ∙ so_far in
    ap (λ (k : List ℕ). insert_entry key_cmp front k cell_copy ++ rest) same_key
    ∙ ap (λ (x : Cell). insert_entry key_cmp front key x ++ rest) same_cell
    ∙ ap (λ (l : Entries). l ++ rest) (insert_last front key cell rest (subst IsSorted (sym whole) sorted))
    ∙ append_assoc front ((key, cell) ∷ []) rest ∙ whole
