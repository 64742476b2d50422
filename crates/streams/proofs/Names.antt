-- Names and their order: what a search among names finds.
use Rattle.std.proofs.Common.{◌≡◌, ◌≢◌, ℕ, ◌+◌, ◌-◌, ◌*◌, ◌<◌, ◌≤◌, Bool, true, false, ◌==◌, List, length, set, Result, Ok, Err, IfOk, IfErr, refl, sym, ap, ◌∙◌, subst, arith, eq-eqb}
use Rattle.std.specs.List.{insert}
use Rattle.std.specs.List.Sorted.{IsSearchInRange, IsBinarySearchResult, IsNonDecreasingBy}
use Rattle.std.specs.Ordering.{nat_cmp, ordering_index}
use Rattle.std.proofs.lemmas.Cmp.{ranked}
use Rattle.std.proofs.lemmas.List.Edits.{length-insert, get_or-insert_below, get_or-insert_at, get_or-insert_above}
use Rattle.std.proofs.lemmas.Bool.{eqb-true, and_parts}
use Rattle.std.proofs.lemmas.Bool.Decides.{nat_tests}
use Rattle.std.proofs.lemmas.Grind.{common_steps}
use Rattle.wire.specs.declared.streams.StreamKind.{StreamKind}
use Rattle.wire.specs.declared.streams.StreamKind.TheVariants.{Metadata, Log, RowData, BlobData}
use Rattle.wire.specs.declared.streams.StreamName.{StreamName}
use Rattle.streams.specs.Streams.{kind_number}
use Rattle.streams.specs.Table.{Entry, has_name, key_of, key_at, IsStrictlySorted, IsAt, IsGapFor}

pub kind_small : (k : StreamKind) → kind_number k ≤ 3
kind_small Metadata = omega arith
kind_small Log = omega arith
kind_small RowData = omega arith
kind_small BlobData = omega arith

pub same_kind : (j k : StreamKind) → kind_number j ≡ kind_number k → j ≡ k
same_kind Metadata Metadata e = refl
same_kind Metadata Log e = absurd cc
same_kind Metadata RowData e = absurd cc
same_kind Metadata BlobData e = absurd cc
same_kind Log Metadata e = absurd cc
same_kind Log Log e = refl
same_kind Log RowData e = absurd cc
same_kind Log BlobData e = absurd cc
same_kind RowData Metadata e = absurd cc
same_kind RowData Log e = absurd cc
same_kind RowData RowData e = refl
same_kind RowData BlobData e = absurd cc
same_kind BlobData Metadata e = absurd cc
same_kind BlobData Log e = absurd cc
same_kind BlobData RowData e = absurd cc
same_kind BlobData BlobData e = refl

-- names with one key are one
pub same_name : (s u : StreamName) → key_of s ≡ key_of u → s ≡ u
same_name s u e =
    let range : s.range ≡ u.range = omega (arith, e, kind_small s.kind, kind_small u.kind) in
    let kind : s.kind ≡ u.kind = same_kind s.kind u.kind (omega (arith, e, kind_small s.kind, kind_small u.kind)) in
    ap (λ (r : ℕ). record s { range = r }) range ∙ ap (λ (k : StreamKind). record u { kind = k }) kind

-- an entry that has a name has its key
pub named_key : (range kind : ℕ) (x : Entry) → has_name range kind x ≡ true → key_of x.name ≡ range * 4 + kind
named_key range kind x e =
    let parts = and_parts (range == x.name.range) _ e in
    let r = eqb-true range x.name.range parts.0 in
    let k = eqb-true kind (kind_number x.name.kind) parts.1 in
    omega (arith, r, k)

pub has_own : (s : StreamName) (x : Entry) → x.name ≡ s → has_name s.range (kind_number s.kind) x ≡ true
has_own s x e = rw (e, eq-eqb s.range s.range refl, eq-eqb (kind_number s.kind) (kind_number s.kind) refl) refl

-- an entry of another key has another name
pub other_key : (range kind : ℕ) (x : Entry) → key_of x.name ≢ range * 4 + kind → (b : Bool) → has_name range kind x ≡ b → has_name range kind x ≡ false
other_key range kind x apart true e = absurd (apart (named_key range kind x e))
other_key range kind x apart false e = e

-- an entry with another key than this one has not a name that this one has
pub none_named : (range kind : ℕ) (x y : Entry) → has_name range kind y ≡ true → key_of x.name ≢ key_of y.name → has_name range kind x ≡ false
none_named range kind x y is apart = other_key range kind x (λ e. apart (e ∙ sym (named_key range kind y is))) _ refl

module _ (l : List Entry) (sorted : IsStrictlySorted l) (k : ℕ) where
  -- the comparisons with a key rise along the list, as a binary search asks
  comparisons_rise : IsNonDecreasingBy (λ x. ordering_index (nat_cmp (key_of x.name) k)) l
  comparisons_rise = λ i j d le within.
      let keys_rise : key_at l i d ≤ key_at l j d = grind (arith, sorted i j d, λ (same : i ≡ j). ap (λ n. key_at l n d) same) in
      grind (arith, nat_tests)

  -- a binary search by key ends at the key, or at the gap for it
  pub searched : (r : Result ℕ ℕ) → IsSearchInRange r (length l) → IsBinarySearchResult (λ x. nat_cmp (key_of x.name) k) l r → record { found : IfOk r (IsAt l k); absent : IfErr r (IsGapFor l k) }
  searched (Ok at) in_range equal = record { found = record { in_range = in_range; has_key = λ d. ranked _ k _ (sym (equal d)) }; absent = tt }
  searched (Err at) in_range parted = record {
    found = tt;
    absent = record {
      in_range = in_range;
      smaller_before = λ j d lt. ranked _ k _ (sym ((parted comparisons_rise).0 j d (omega arith) lt));
      greater_after = λ j d le lt. ranked _ k _ (sym ((parted comparisons_rise).1 j d le lt));
    };
  }

-- ---- the order after an edit

-- another entry with the same name
pub sorted_set : (l : List Entry) → IsStrictlySorted l → (at : ℕ) (y : Entry) → IsAt l (key_of y.name) at → IsStrictlySorted (set l at y)
sorted_set l sorted at y is_at i j d lt in_range = grind (arith, common_steps, sorted i j d, sorted i at d, sorted at j d, is_at.in_range, is_at.has_key d)

-- one more entry, in its gap
pub sorted_insert : (l : List Entry) → IsStrictlySorted l → (at : ℕ) (y : Entry) → IsGapFor l (key_of y.name) at → IsStrictlySorted (insert l at y)
sorted_insert l sorted at y gap i j d lt in_range =
    let new = insert l at y in
    let key = λ (x : Entry). key_of x.name in
    let length_new = length-insert l at y gap.in_range in
    let key_below : (i : ℕ) → i < at → key_at new i d ≡ key_at l i d = λ i below. ap key (get_or-insert_below l at y d i below gap.in_range) in
    let key_here : (i : ℕ) → i ≡ at → key_at new i d ≡ key y = λ i here. rw here (ap key (get_or-insert_at l at y d gap.in_range)) in
    let key_above : (i : ℕ) → at < i → key_at new i d ≡ key_at l (i - 1) d = λ i above. subst (λ q. key_at new q d ≡ key_at l (i - 1) d) {x = i - 1 + 1} (omega arith) (ap key (get_or-insert_above l at y d (i - 1) (omega arith) gap.in_range)) in
    grind (arith, key_below i, key_here i, key_above i, key_below j, key_here j, key_above j, sorted i j d, sorted i (j - 1) d, sorted (i - 1) (j - 1) d, gap.smaller_before i d, gap.greater_after (j - 1) d)
