-- What a look-up answers is what the map of the indexes has.
use Rattle.std.proofs.Common.{◌≡◌, ℕ, Bool, true, false, cond, not, List, [], ◌∷◌, ◌++◌, Option, Some, None, refl, sym, ap, subst, ◌∙◌}
use Rattle.std.specs.List.{AllByRecursion}
use Rattle.std.specs.Ordering.{is_lt}
use Rattle.std.specs.declared.cmp.Ordering.{Ordering}
use Rattle.std.specs.declared.cmp.Ordering.TheVariants.{Less}
use Rattle.std.specs.Map.{keys_of}
use Rattle.std.specs.BTreeMap.{is_at}
use Rattle.std.proofs.lemmas.Map.{NonePasses, lookup-none}
use Rattle.memtable.specs.declared.cell.Cell.{Cell}
use Rattle.memtable.specs.declared.cell.Cell.TheVariants.{Deleted, Inline, Placed}
use Rattle.memtable.specs.declared.cell.Place.{Place}
use Rattle.memtable.specs.Entries.{Entries, key_cmp, found}
use Rattle.memtable.specs.Layers.{or_else}
use Rattle.metadata.specs.declared.record.KeyRange.{KeyRange}
use Rattle.metadata.specs.Keys.{within}
use Rattle.checkpoint_format.specs.declared.index.PageAt.{PageAt}
use Rattle.checkpoint_format.specs.Page.{entries_at, page_bytes, pages_of, joined}
use Rattle.checkpoint_format.proofs.Pages.{pages_read, pages_joined}
use Rattle.checkpoint.specs.declared.page_lookup.Lookup.{Lookup}
use Rattle.checkpoint.specs.declared.page_lookup.Lookup.TheVariants.{Found, Absent, Need}
use Rattle.checkpoint.specs.declared.installed_index.InstalledIndex.{InstalledIndex}
use Rattle.checkpoint.specs.Lookup.{PageSource, last_or, page_for, cell_found, in_page, in_bytes, at_page, looked_in, or_older, looked_up}
use Rattle.checkpoint.specs.Pages.{AreFiled, NoPages, Next, IsSourceOf, IndexContent, cell_in}
use Rattle.checkpoint.specs.Contents.{IsContentOf, IsAnswerFor, LookupIsTheMap, shown}
use Rattle.checkpoint.proofs.Orders.{IsSorted, less_is, equal_keys, keys_behind, sorted_behind, head_below, tail, below_all, absent_below, found_append}
use Rattle.checkpoint.proofs.Merging.{sorted_entries}

abbrev IsRead : Entries → Type 0
IsRead page = entries_at (page_bytes page) ≡ Some page

-- ---- sorted pages

-- below the keys of the other entries
abbrev IsBelow : Entries → List ℕ × Cell → Type 0
IsBelow others e = AllByRecursion (λ y. key_cmp e.0 y ≡ Less) (keys_of others)

each_below : (xs ys : Entries) → IsSorted (xs ++ ys) → AllByRecursion (IsBelow ys) xs
each_below [] ys sorted = tt
each_below (x ∷ xs) ys sorted = (keys_behind (λ y. key_cmp x.0 y ≡ Less) xs ys (head_below x (xs ++ ys) sorted), each_below xs ys (tail x (xs ++ ys) sorted))

-- what holds of all keys holds of the first key of each page
first_keys : (P : List ℕ → Type 0) (filed : List PageAt) (pages : List Entries) → AreFiled filed pages → AllByRecursion P (keys_of (joined pages)) → AllByRecursion (λ q. P q.first) filed
first_keys P [] [] NoPages all = tt
first_keys P [] (_ ∷ others) filed_is all = elim filed_is [ ]
first_keys P (p ∷ filed) [] filed_is all = elim filed_is [ ]
first_keys P (p ∷ filed) ([] ∷ others) filed_is all = elim filed_is [ ]
first_keys P (p ∷ filed) ((first ∷ entries) ∷ others) (Next _ _ _ _ _ same rest) all =
    (subst P (sym same) all.0, first_keys P filed others rest (keys_behind P entries (joined others) all.1))

-- no page has a key that is below the first keys
page_below : (key : List ℕ) (filed : List PageAt) → AllByRecursion (λ q. key_cmp key q.first ≡ Less) filed → page_for filed key ≡ None
page_below key [] all = refl
page_below key (p ∷ filed) all =
    ap (λ (o : Option Place). last_or o (cond (not (is_lt (key_cmp key p.first))) (Some p.place) None)) (page_below key filed all.1)
    ∙ ap (λ (r : Ordering). cond (not (is_lt r)) (Some p.place) None) all.0

-- the page of a key has no key that an earlier page has
apart : (key : List ℕ) (place : Place) (filed : List PageAt) (others : List Entries) → AreFiled filed others → page_for filed key ≡ Some place
    → (xs : Entries) → AllByRecursion (IsBelow (joined others)) xs → NonePasses (is_at (key_cmp key)) xs
apart key place filed others rest at [] all = tt
apart key place filed others rest at (e ∷ xs) all = (by (is_at (key_cmp key) e.0) refl, apart key place filed others rest at xs all.1)
  where
    by : (b : Bool) → is_at (key_cmp key) e.0 ≡ b → b ≡ false
    by false h = refl
    by true h =
        let below : AllByRecursion (λ y. key_cmp key y ≡ Less) (keys_of (joined others)) =
        subst (λ (k : List ℕ). AllByRecursion (λ y. key_cmp k y ≡ Less) (keys_of (joined others))) (sym (equal_keys key e.0 h)) all.0 in
        let none : page_for filed key ≡ None = page_below key filed (first_keys (λ y. key_cmp key y ≡ Less) filed others rest below) in
        absurd (cc (at, none))

-- ---- one index

-- what an index may say of a key that has this cell there, or none
abbrev IsSaid : PageSource → Option Cell → Option Lookup → Type 0
IsSaid source cell None = cell ≡ None
IsSaid source cell (Some (Found other)) = (cell ≡ Some other) × (shown (Some other) ≡ Some other)
IsSaid source cell (Some Absent) = cell ≡ Some Deleted
IsSaid source cell (Some (Need place)) = source place ≡ None

cell_is : (source : PageSource) (o : Option Cell) → IsSaid source (or_else o None) (cell_found o)
cell_is source None = refl
cell_is source (Some Deleted) = refl
cell_is source (Some (Inline value)) = (refl, refl)
cell_is source (Some (Placed place)) = (refl, refl)

found_in_pages : (source : PageSource) (key : List ℕ) (filed : List PageAt) (pages : List Entries) → AreFiled filed pages → IsSourceOf source filed pages → AllByRecursion IsRead pages
    → IsSorted (joined pages) → IsSaid source (found (joined pages) key) (at_page source key (page_for filed key))
found_in_pages source key [] [] NoPages given read sorted = refl
found_in_pages source key [] (_ ∷ others) filed_is given read sorted = elim filed_is [ ]
found_in_pages source key (p ∷ filed) [] filed_is given read sorted = elim filed_is [ ]
found_in_pages source key (p ∷ filed) ([] ∷ others) filed_is given read sorted = elim filed_is [ ]
found_in_pages source key (p ∷ filed) ((first ∷ entries) ∷ others) (Next _ _ _ _ _ same rest) given read sorted =
    by_later (found_in_pages source key filed others rest given.1 read.1 (sorted_behind (first ∷ entries) (joined others) sorted)) (page_for filed key) refl
  where
    page : Entries
    page = first ∷ entries

    both : found (page ++ joined others) key ≡ or_else (found page key) (found (joined others) key)
    both = found_append page (joined others) key

    by_bytes : found (joined others) key ≡ None → (o : Option (List ℕ)) → source p.place ≡ o → IsSaid source (found (page ++ joined others) key) (in_bytes p.place key o)
    by_bytes none None at = at
    by_bytes none (Some bytes) at =
        let is : entries_at bytes ≡ Some page = ap entries_at (given.0 bytes at) ∙ read.0 in
        let cell : found (page ++ joined others) key ≡ or_else (found page key) None = both ∙ ap (or_else (found page key)) none in
        subst (λ (o : Option Entries). IsSaid source (found (page ++ joined others) key) (in_page p.place key o)) (sym is)
        (subst (λ (o : Option Cell). IsSaid source o (cell_found (found page key))) (sym cell) (cell_is source (found page key)))

    by_first : found (joined others) key ≡ None → (b : Bool) → is_lt (key_cmp key p.first) ≡ b
        → IsSaid source (found (page ++ joined others) key) (at_page source key (cond (not b) (Some p.place) None))
    by_first none true is =
        let less : key_cmp key first.0 ≡ Less = ap (key_cmp key) (sym same) ∙ less_is (key_cmp key p.first) is in
        absent_below key (page ++ joined others) (less, below_all key first.0 (keys_of (entries ++ joined others)) less (head_below first (entries ++ joined others) sorted))
    by_first none false is = by_bytes none (source p.place) refl

    by_later : IsSaid source (found (joined others) key) (at_page source key (page_for filed key)) → (o : Option Place) → page_for filed key ≡ o
        → IsSaid source (found (page ++ joined others) key) (at_page source key (last_or o (cond (not (is_lt (key_cmp key p.first))) (Some p.place) None)))
    by_later later None at =
        by_first (subst (λ (o : Option Place). IsSaid source (found (joined others) key) (at_page source key o)) at later) (is_lt (key_cmp key p.first)) refl
    by_later later (Some place) at =
        let none : found page key ≡ None = lookup-none (is_at (key_cmp key)) page (apart key place filed others rest at page (each_below page (joined others) sorted)) in
        let behind : found (page ++ joined others) key ≡ found (joined others) key = both ∙ ap (λ (o : Option Cell). or_else o (found (joined others) key)) none in
        subst (λ (o : Option Cell). IsSaid source o (at_page source key (Some place))) (sym behind)
        (subst (λ (o : Option Place). IsSaid source (found (joined others) key) (at_page source key o)) at later)

found_in_index : (source : PageSource) (x : InstalledIndex) (content : IndexContent) (key : List ℕ) → IsContentOf source x content → IsSaid source (found content.entries key) (looked_in source x.index key)
found_in_index source x content key is =
    subst (λ (es : Entries). IsSaid source (found es key) (looked_in source x.index key)) (pages_joined content.entries)
    (found_in_pages source key x.index.pages (pages_of content.entries) is.index.filed is.index.source_is (pages_read content.entries is.entries.ascending is.entries.each)
    (subst IsSorted (sym (pages_joined content.entries)) (sorted_entries content.entries is.entries)))

-- ---- all indexes

newer_first : (source : PageSource) (cell : Option Cell) (others : Option Cell) (answer : Option Lookup) (older : Lookup) → IsSaid source cell answer → IsAnswerFor source (shown others) older
    → IsAnswerFor source (shown (or_else cell others)) (or_older answer older)
newer_first source cell others None older is behind = subst (λ (o : Option Cell). IsAnswerFor source (shown (or_else o others)) older) (sym is) behind
newer_first source cell others (Some (Found other)) older is behind = ap (λ (o : Option Cell). shown (or_else o others)) is.0 ∙ is.1
newer_first source cell others (Some Absent) older is behind = ap (λ (o : Option Cell). shown (or_else o others)) is
newer_first source cell others (Some (Need place)) older is behind = is

pub lookup_law : LookupIsTheMap
lookup_law source [] [] key all = refl
lookup_law source (x ∷ installed) (content ∷ contents) key all =
    subst (λ (keys : KeyRange). IsAnswerFor source (shown (or_else (cond (within keys key) (found content.entries key) None) (cell_in contents key))) (looked_up source (x ∷ installed) key)) all.0.keys
    (by (lookup_law source installed contents key all.1) (within x.keys key))
  where
    by : IsAnswerFor source (shown (cell_in contents key)) (looked_up source installed key) → (b : Bool) → IsAnswerFor source (shown (or_else (cond b (found content.entries key) None) (cell_in contents key)))
        (cond b (or_older (looked_in source x.index key) (looked_up source installed key)) (looked_up source installed key))
    by older true = newer_first source (found content.entries key) (cell_in contents key) (looked_in source x.index key) (looked_up source installed key) (found_in_index source x content key all.0) older
    by older false = older
lookup_law source [] (content ∷ contents) key all = absurd all
lookup_law source (x ∷ installed) [] key all = absurd all
