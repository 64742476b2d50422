-- What is merged and combined is the map of the indexes.
use Rattle.std.proofs.Common.{◌≡◌, ℕ, Bool, true, false, cond, not, List, [], ◌∷◌, Option, Some, None, refl, sym, ap, ◌∙◌}
use Rattle.std.specs.Prelude.{◌&&◌, filter}
use Rattle.std.specs.List.{AllByRecursion}
use Rattle.std.specs.declared.cmp.Ordering.TheVariants.{Less}
use Rattle.std.specs.Cmp.Lexicographic.{nat_list_cmp_total}
use Rattle.std.specs.Map.{keys_of}
use Rattle.std.specs.BTreeMap.{is_at}
use Rattle.std.proofs.lemmas.Cmp.{eq_by_cmp_equiv}
use Rattle.std.proofs.lemmas.Map.Keys.{IsDistinct-from_sorted}
use Rattle.std.proofs.lemmas.Map.Entries.{lookup-filter-keys, lookup-filter-values, option_filter}
use Rattle.memtable.specs.declared.cell.Cell.{Cell}
use Rattle.memtable.specs.declared.cell.Cell.TheVariants.{Deleted, Inline, Placed}
use Rattle.memtable.specs.Entries.{Entries, IsFit, AllFit, key_cmp, found, put_all}
use Rattle.memtable.specs.Layers.{or_else}
use Rattle.memtable.proofs.Entries.{IsOfParts, all_put, fits_put}
use Rattle.checkpoint_format.specs.Page.{IsPageEntry}
use Rattle.metadata.specs.declared.record.KeyRange.{KeyRange}
use Rattle.metadata.specs.Keys.{within}
use Rattle.checkpoint.specs.Pages.{is_deleted, without_deleted, kept_within, merged, combined}
use Rattle.checkpoint.specs.Contents.{AreEntries, shown, MergedIsTheMap, MergedAreEntries, CombinedIsTheMap, CombinedAreEntries}
use Rattle.checkpoint.proofs.Orders.{IsSorted, equal_keys, head_below, tail, sorted_cons, sorted_none, sorted_from_ascending, ascending_from_sorted, sorted_put, found_put, latest_sorted}

-- ---- what a test keeps

pub all_kept : {A : Type 0} (P : A → Type 0) (p : A → Bool) (xs : List A) → AllByRecursion P xs → AllByRecursion P (filter p xs)
all_kept P p [] all = tt
all_kept {A} P p (x ∷ xs) all = by (p x) (all_kept P p xs all.1)
  where
    by : (b : Bool) → AllByRecursion P (filter p xs) → AllByRecursion P (cond b (x ∷ filter p xs) (filter p xs))
    by true others = (all.0, others)
    by false others = others

keys_kept : (P : List ℕ → Type 0) (p : List ℕ × Cell → Bool) (es : Entries) → AllByRecursion P (keys_of es) → AllByRecursion P (keys_of (filter p es))
keys_kept P p [] all = tt
keys_kept P p (e ∷ es) all = by (p e) (keys_kept P p es all.1)
  where
    by : (b : Bool) → AllByRecursion P (keys_of (filter p es)) → AllByRecursion P (keys_of (cond b (e ∷ filter p es) (filter p es)))
    by true others = (all.0, others)
    by false others = others

pub sorted_kept : (p : List ℕ × Cell → Bool) (es : Entries) → IsSorted es → IsSorted (filter p es)
sorted_kept p [] sorted = sorted_none
sorted_kept p (e ∷ es) sorted = by (p e) (sorted_kept p es (tail e es sorted))
  where
    by : (b : Bool) → IsSorted (filter p es) → IsSorted (cond b (e ∷ filter p es) (filter p es))
    by true others = sorted_cons e (filter p es) (keys_kept (λ y. key_cmp e.0 y ≡ Less) p es (head_below e es sorted)) others
    by false others = others

-- ---- what an insertion keeps

page_entry_parts : IsOfParts IsPageEntry
page_entry_parts a b of_a of_b = ((of_a.0.0, of_b.0.1), of_b.1)

pub fits_combined : (es : Entries) (newer : Option Entries) → AllByRecursion IsFit es → AllFit newer → AllByRecursion IsFit (combined es newer)
fits_combined es None all fit = all_kept IsFit (λ e. not (is_deleted e.1)) es all
fits_combined es (Some newer) all fit = all_kept IsFit (λ e. not (is_deleted e.1)) (put_all es newer) (fits_put es newer all fit)

pub sorted_entries : (es : Entries) → AreEntries es → IsSorted es
sorted_entries es are = sorted_from_ascending es are.ascending

pub put_entries : (es : Entries) (changes : Entries) → AreEntries es → AllByRecursion IsPageEntry changes → AreEntries (put_all es changes)
put_entries es changes are fit = record {
  ascending = ascending_from_sorted (put_all es changes) (sorted_put es changes (sorted_entries es are));
  each = all_put IsPageEntry page_entry_parts es changes are.each fit;
}

pub kept_entries : (p : List ℕ × Cell → Bool) (es : Entries) → AreEntries es → AreEntries (filter p es)
kept_entries p es are = record {
  ascending = ascending_from_sorted (filter p es) (sorted_kept p es (sorted_entries es are));
  each = all_kept IsPageEntry p es are.each;
}

-- ---- merging

found_within : (a b : KeyRange) (es : Entries) (key : List ℕ) → found (kept_within a b es) key ≡ cond (within a key && within b key) (found es key) None
found_within a b es key =
    lookup-filter-keys (is_at (key_cmp key)) (λ k. within a k && within b k) (within a key && within b key) (λ k at. ap (λ (k : List ℕ). within a k && within b k) (sym (equal_keys key k at))) es

and_is : (a b : Bool) → b ≡ true → (a && b) ≡ a
and_is true b e = e
and_is false b e = refl

pub merged_law : MergedIsTheMap
merged_law keys [] key all inside = refl
merged_law keys (x ∷ older) key all inside =
    let changes : Entries = kept_within x.keys keys x.entries in
    let sorted : IsSorted changes = sorted_kept (λ e. within x.keys e.0 && within keys e.0) x.entries (sorted_from_ascending x.entries all.0) in
    found_put (merged keys older) changes key ∙ latest_sorted key changes (found (merged keys older) key) sorted
    ∙ ap (λ (o : Option Cell). or_else o (found (merged keys older) key)) (found_within x.keys keys x.entries key)
    ∙ ap (λ (b : Bool). or_else (cond b (found x.entries key) None) (found (merged keys older) key)) (and_is (within x.keys key) (within keys key) inside)
    ∙ ap (or_else (cond (within x.keys key) (found x.entries key) None)) (merged_law keys older key all.1 inside)

pub merged_entries : MergedAreEntries
merged_entries keys [] all = record { ascending = refl; each = tt }
merged_entries keys (x ∷ older) all =
    put_entries (merged keys older) (kept_within x.keys keys x.entries) (merged_entries keys older all.1)
    (all_kept IsPageEntry (λ e. within x.keys e.0 && within keys e.0) x.entries all.0.each)

-- ---- combining

kept_shown : (o : Option Cell) → option_filter (λ cell. not (is_deleted cell)) o ≡ shown o
kept_shown None = refl
kept_shown (Some Deleted) = refl
kept_shown (Some (Inline value)) = refl
kept_shown (Some (Placed place)) = refl

found_shown : (es : Entries) (key : List ℕ) → IsSorted es → found (without_deleted es) key ≡ shown (found es key)
found_shown es key sorted =
    lookup-filter-values (eq_by_cmp_equiv nat_list_cmp_total) (λ cell. not (is_deleted cell)) key es (IsDistinct-from_sorted key_cmp (keys_of es) sorted)
    ∙ kept_shown (found es key)

pub combined_law : CombinedIsTheMap
combined_law entries None key ascending newer_ascending = found_shown entries key (sorted_from_ascending entries ascending)
combined_law entries (Some newer) key ascending newer_ascending =
    let sorted : IsSorted entries = sorted_from_ascending entries ascending in
    found_shown (put_all entries newer) key (sorted_put entries newer sorted)
    ∙ ap shown (found_put entries newer key ∙ latest_sorted key newer (found entries key) (sorted_from_ascending newer newer_ascending))

pub combined_entries : CombinedAreEntries
combined_entries entries None are newer_are = kept_entries (λ e. not (is_deleted e.1)) entries are
combined_entries entries (Some newer) are newer_are =
    kept_entries (λ e. not (is_deleted e.1)) (put_all entries newer) (put_entries entries newer are newer_are.each)
