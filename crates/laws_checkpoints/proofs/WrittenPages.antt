-- While the pages of a checkpoint are written those that stand are the first pages of its entries, and once all stand the index that
-- is written is one of these entries.
use Rattle.std.proofs.Common.{◌≡◌, ℕ, zero, suc, ◌+◌, ◌<◌, ◌≤◌, ◌^◌, Bool, true, false, List, [], ◌∷◌, ◌++◌, length, map, take, drop, Some, None, refl, sym, ap, subst, ◌∙◌, append_assoc, append-nil, arith, eqb-true}
use Rattle.std.specs.Prelude.{◌==◌, if◌then◌else◌}
use Rattle.std.specs.List.{AllByRecursion}
use Rattle.std.proofs.lemmas.Bool.{ltb-true}
use Rattle.std.proofs.lemmas.List.{take-append-drop, take-map}
use Rattle.std.proofs.lemmas.List.Sums.{sum_by-cons}
use Rattle.memtable.specs.Entries.{Entries}
use Rattle.replica.specs.Groups as groups
use Rattle.checkpoint_format.specs.declared.index.PageAt.{PageAt}
use Rattle.checkpoint_format.specs.declared.page.Page.{Page}
use Rattle.checkpoint_format.specs.Page.{page_bytes, page_of, pages_of}
use Rattle.checkpoint_format.specs.Index.{HasPlace, fits_a_group, index_group, index_size}
use Rattle.checkpoint_format.proofs.Indexes.{length-text}
use Rattle.checkpoint_format.proofs.Pages.{pages_some}
use Rattle.checkpoint.specs.Contents.{AreEntries}
use Rattle.checkpoint.specs.Pages.{AreFiled, NoPages, Next}
use Rattle.checkpoint.specs.PageGroups.{PagesState, ArePages, page_group, next_group, next_pages, pages_size, may_stand_at, pages_to_write, placed_pages, with_next_placed}
use Rattle.checkpoint.proofs.PageGroups.{all_first, index_is, pages_placed}
use Rattle.model_partition.specs.Past.{Bytes}
use Rattle.model_histories.specs.TableContents.{StandsAt}
use Rattle.laws_loads.proofs.Cells.{stands_first, stands_second}
use Rattle.laws_checkpoints.specs.IndexLayers.{PagesStand, IsWritten}
use Rattle.laws_checkpoints.specs.WritingPages.{WritesPages}
use Rattle.laws_checkpoints.proofs.WrittenIndexes.{group_stands}

-- ---- lists

drop_map : {A B : Type 0} (f : A → B) (n : ℕ) (xs : List A) → drop n (map f xs) ≡ map f (drop n xs)
drop_map f zero xs = refl
drop_map f (suc n) [] = refl
drop_map f (suc n) (x ∷ xs) = drop_map f n xs

all_both : {A : Type 0} (P : A → Type 0) (xs ys : List A) → AllByRecursion P xs → AllByRecursion P ys → AllByRecursion P (xs ++ ys)
all_both P [] ys a b = b
all_both P (x ∷ xs) ys a b = (a.0, all_both P xs ys a.1 b)

all_behind : {A : Type 0} (P : A → Type 0) (xs ys : List A) → AllByRecursion P (xs ++ ys) → AllByRecursion P ys
all_behind P [] ys all = all
all_behind P (x ∷ xs) ys all = all_behind P xs ys all.1

-- ---- places

places_fit : (extent offset : ℕ) (pages : List Page) → extent < 2 ^ 64 → offset + pages_size pages < 2 ^ 32 → AllByRecursion HasPlace (placed_pages extent offset pages)
places_fit extent offset [] known room = tt
places_fit extent offset (page ∷ pages) known room =
    let size : pages_size (page ∷ pages) ≡ length page.bytes + pages_size pages = sum_by-cons (λ (p : Page). length p.bytes) page pages in (
      (known, omega (arith, room, size), omega (arith, room, size)),
      places_fit extent (offset + length page.bytes) pages known (omega (arith, room, size)),
    )

-- each page is placed under its first key
filed_so : (extent offset : ℕ) (pages : List Entries) → AllByRecursion (λ page. 1 ≤ length page) pages → AreFiled (placed_pages extent offset (map page_of pages)) pages
filed_so extent offset [] some = NoPages
filed_so extent offset ([] ∷ pages) some = absurd (omega (arith, some.0))
filed_so extent offset ((first ∷ entries) ∷ pages) some =
    Next (record { first = first.0; place = record { extent = extent; offset = offset; length = length (page_bytes (first ∷ entries)) } }) first entries
    (placed_pages extent (offset + length (page_bytes (first ∷ entries))) (map page_of pages)) pages refl
    (filed_so extent (offset + length (page_bytes (first ∷ entries))) pages some.1)

filed_both : (at more : List PageAt) (pages others : List Entries) → AreFiled at pages → AreFiled more others → AreFiled (at ++ more) (pages ++ others)
filed_both at more pages others NoPages b = b
filed_both at more pages others (Next p first entries rest behind same a) b = Next p first entries (rest ++ more) (behind ++ others) same (filed_both rest more behind others a b)

module _ (texts : ℕ → Bytes) where
  -- where the blocks of pages stand, each page does
  pages_there : (extent offset : ℕ) (pages : List Entries) → StandsAt (texts extent) offset (groups.joined (page_group (map page_of pages))) →
      PagesStand texts (placed_pages extent offset (map page_of pages)) pages
  pages_there extent offset [] stands = tt
  pages_there extent offset (page ∷ pages) stands =
      let others : Bytes = groups.joined (page_group (map page_of pages)) in (
        (refl, stands_first (texts extent) offset (page_bytes page) others stands),
        pages_there extent (offset + length (page_bytes page)) pages (stands_second (texts extent) offset (page_bytes page) others stands),
      )

  stand_both : (at more : List PageAt) (pages others : List Entries) → PagesStand texts at pages → PagesStand texts more others → PagesStand texts (at ++ more) (pages ++ others)
  stand_both [] more [] others a b = b
  stand_both [] more (page ∷ pages) others a b = absurd a
  stand_both (p ∷ at) more [] others a b = absurd a
  stand_both (p ∷ at) more (page ∷ pages) others a b = (a.0, stand_both at more pages others a.1 b)

  -- ---- a checkpoint of these entries

  -- none stands yet
  pub writing_begins : (entries : Entries) → ArePages (pages_to_write entries) → WritesPages texts entries (pages_to_write entries)
  writing_begins entries are = record {
    written = [];
    left = pages_of entries;
    all = refl;
    stand = tt;
    filed = NoPages;
    unwritten = refl;
    places = tt;
    pages = are;
  }

  module _ (entries : Entries) (p : PagesState) (writes : WritesPages texts entries p) where
    -- the next group stands at an offset of an extent
    pub writing_goes : (extent offset : ℕ) → extent < 2 ^ 64 → may_stand_at p offset ≡ true → StandsAt (texts extent) offset (groups.joined (page_group (next_pages p))) →
        WritesPages texts entries (with_next_placed p extent offset)
    writing_goes extent offset known may stands =
        let first : List Entries = take 64 writes.left in
        let next : next_pages p ≡ map page_of first = ap (take 64) writes.unwritten ∙ take-map page_of 64 writes.left in
        let some : AllByRecursion (λ page. 1 ≤ length page) writes.left =
        all_behind (λ page. 1 ≤ length page) writes.written writes.left (subst (AllByRecursion (λ page. 1 ≤ length page)) writes.all (pages_some entries)) in
        record {
          written = writes.written ++ first;
          left = drop 64 writes.left;
          all = writes.all ∙ ap (λ l. writes.written ++ l) (sym (take-append-drop 64 writes.left)) ∙ sym (append_assoc writes.written first (drop 64 writes.left));
          stand = stand_both p.index.pages (placed_pages extent offset (next_pages p)) writes.written first writes.stand
              (subst (λ (l : List Page). PagesStand texts (placed_pages extent offset l) first) (sym next)
              (pages_there extent offset first (subst (λ (l : List Page). StandsAt (texts extent) offset (groups.joined (page_group l))) next stands)));
          filed = filed_both p.index.pages (placed_pages extent offset (next_pages p)) writes.written first writes.filed
              (subst (λ (l : List Page). AreFiled (placed_pages extent offset l) first) (sym next)
              (filed_so extent offset first (all_first (λ page. 1 ≤ length page) 64 writes.left some)));
          unwritten = ap (drop 64) writes.unwritten ∙ drop_map page_of 64 writes.left;
          places = all_both HasPlace p.index.pages (placed_pages extent offset (next_pages p)) writes.places
              (places_fit extent offset (next_pages p) known (ltb-true (offset + pages_size (next_pages p)) (2 ^ 32) may));
          pages = pages_placed p extent offset writes.pages;
        }

    -- ---- all pages stand

    none_left : p.unwritten ≡ [] → writes.written ≡ pages_of entries
    none_left empty = by writes.left (sym writes.unwritten ∙ empty) writes.all
      where
        by : (left : List Entries) → map page_of left ≡ [] → pages_of entries ≡ writes.written ++ left → writes.written ≡ pages_of entries
        by [] none all = sym (append-nil writes.written) ∙ sym all
        by (page ∷ left) none all = absurd cc

    -- so the index is one of the entries, where it stands
    pub writing_ends : p.unwritten ≡ [] → AreEntries entries → fits_a_group p.index ≡ true → (extent offset : ℕ) → StandsAt (texts extent) offset (groups.joined (index_group p.index)) →
        IsWritten texts p.index entries (record { extent = extent; offset = offset; length = index_size p.index })
    writing_ends empty are fits extent offset stands = record {
      entries_are = are;
      pages = subst (PagesStand texts p.index.pages) (none_left empty) writes.stand;
      index_is = index_is p writes.pages fits;
      has_places = writes.places;
      size = sym (length-text p.index);
      stands = group_stands texts (record { extent = extent; offset = offset; length = index_size p.index }) p.index stands;
    }

    -- and it names each page by its first key
    pub writing_files : p.unwritten ≡ [] → AreFiled p.index.pages (pages_of entries)
    writing_files empty = subst (AreFiled p.index.pages) (none_left empty) writes.filed

-- ---- the group that is appended next

-- where there is none, no page is left
pub none_unwritten : (p : PagesState) → next_group p ≡ None → p.unwritten ≡ []
none_unwritten p none = by (length p.unwritten == 0) refl none
  where
    no_page : (pages : List Page) → length pages ≡ 0 → pages ≡ []
    no_page [] e = refl
    no_page (page ∷ pages) e = absurd (omega (arith, e))

    by : (b : Bool) → (length p.unwritten == 0) ≡ b → (if b then None else Some (page_group (next_pages p))) ≡ None → p.unwritten ≡ []
    by true count e = no_page p.unwritten (eqb-true (length p.unwritten) 0 count)
    by false count e = absurd cc
