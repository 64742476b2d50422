-- The pages of a checkpoint while they are written come to an index that can be written.
use Rattle.std.proofs.Common.{◌≡◌, ℕ, zero, suc, ◌+◌, ◌≤◌, true, false, List, [], ◌∷◌, ◌++◌, length, map, take, drop, refl, sym, ap, subst, ◌∙◌, append_assoc, arith}
use Rattle.std.specs.Prelude.{nat_le, ◌==◌}
use Rattle.std.specs.List.{AllByRecursion}
use Rattle.std.specs.List.Sorted.{IsStrictlySortedBy}
use Rattle.std.specs.declared.cmp.Ordering.TheVariants.{Less}
use Rattle.std.specs.Map.{keys_of}
use Rattle.std.proofs.lemmas.Bool.{leb-true}
use Rattle.std.proofs.lemmas.List.{length-map, drop-drop, length-drop}
use Rattle.block_types.specs.Limits.{IsBlock, IsGroup}
use Rattle.memtable.specs.declared.cell.Cell.{Cell}
use Rattle.memtable.specs.Cell.{entry_size}
use Rattle.memtable.specs.Limits.{IsKey}
use Rattle.memtable.specs.Entries.{Entries, IsFit, key_cmp}
use Rattle.checkpoint_format.specs.declared.index.Index.{Index}
use Rattle.checkpoint_format.specs.declared.index.PageAt.{PageAt}
use Rattle.checkpoint_format.specs.declared.page.Page.{Page}
use Rattle.checkpoint_format.specs.Page.{first_key, page_of, page_size, pages_from, pages_of}
use Rattle.checkpoint_format.specs.Index.{IsIndex, HasFirstKey, are_ascending, fits_a_group}
use Rattle.checkpoint_format.proofs.Writing.{length-page, page_size-push, entry_small}
use Rattle.checkpoint.specs.PageGroups.{PagesState, ArePages, HasBlock, first_keys, no_pages, page_group, pages_to_write, placed_pages, with_next_placed}
use Rattle.checkpoint.proofs.Orders.{IsSorted, head_below, keys_behind, sorted_behind}

abbrev AreSorted : List (List ℕ) → Type 0
AreSorted keys = IsStrictlySortedBy key_cmp keys

sorted_nothing : AreSorted []
unfolding IsStrictlySortedBy
sorted_nothing = tt

sorted_more : (key : List ℕ) (keys : List (List ℕ)) → AllByRecursion (λ y. key_cmp key y ≡ Less) keys → AreSorted keys → AreSorted (key ∷ keys)
unfolding IsStrictlySortedBy
sorted_more key keys below sorted = (below, sorted)

sorted_parts : (key : List ℕ) (keys : List (List ℕ)) → AreSorted (key ∷ keys) → AllByRecursion (λ y. key_cmp key y ≡ Less) keys × AreSorted keys
unfolding IsStrictlySortedBy
sorted_parts key keys sorted = sorted

all_front : {A : Type 0} (P : A → Type 0) (xs ys : List A) → AllByRecursion P (xs ++ ys) → AllByRecursion P xs
all_front P [] ys all = tt
all_front P (x ∷ xs) ys all = (all.0, all_front P xs ys all.1)

pub all_back : {A : Type 0} (P : A → Type 0) (n : ℕ) (xs : List A) → AllByRecursion P xs → AllByRecursion P (drop n xs)
all_back P zero xs all = all
all_back P (suc n) [] all = tt
all_back P (suc n) (x ∷ xs) all = all_back P n xs all.1

pub all_first : {A : Type 0} (P : A → Type 0) (n : ℕ) (xs : List A) → AllByRecursion P xs → AllByRecursion P (take n xs)
all_first P zero xs all = tt
all_first P (suc n) [] all = tt
all_first P (suc n) (x ∷ xs) all = (all.0, all_first P n xs all.1)

sorted_front : (xs ys : List (List ℕ)) → AreSorted (xs ++ ys) → AreSorted xs
sorted_front [] ys sorted = sorted_nothing
sorted_front (x ∷ xs) ys sorted =
    let parts = sorted_parts x (xs ++ ys) sorted in
    sorted_more x xs (all_front (λ y. key_cmp x y ≡ Less) xs ys parts.0) (sorted_front xs ys parts.1)

-- ---- the pages of a layer

abbrev IsRoomy : Entries → Type 0
IsRoomy page = (1 ≤ length page) × (page_size page ≤ 65536) × AllByRecursion IsFit page

-- what is said of the pages that come of a page which has begun and more entries
record ArePagesOf (all : Entries) (pages : List Entries) : Type 1 where
  pub roomy : AllByRecursion IsRoomy pages
  pub each : (P : List ℕ → Type 0) → AllByRecursion P (keys_of all) → AllByRecursion P (map first_key pages)
  pub sorted : AreSorted (map first_key pages)

first_of : (P : List ℕ → Type 0) (begun entries : Entries) → 1 ≤ length begun → AllByRecursion P (keys_of (begun ++ entries)) → P (first_key begun)
first_of P [] entries some all = absurd (omega (arith, some))
first_of P (b ∷ begun) entries some all = all.0

first_below : (begun entries : Entries) → 1 ≤ length begun → IsSorted (begun ++ entries) → AllByRecursion (λ y. key_cmp (first_key begun) y ≡ Less) (keys_of entries)
first_below [] entries some sorted = absurd (omega (arith, some))
first_below (b ∷ begun) entries some sorted = keys_behind (λ y. key_cmp b.0 y ≡ Less) begun entries (head_below b (begun ++ entries) sorted)

entry_room : (e : List ℕ × Cell) → IsFit e → page_size (e ∷ []) ≤ 65536
entry_room e fits = omega (arith, page_size-push [] e, entry_small e fits)

pages_are : (begun entries : Entries) → 1 ≤ length begun → page_size begun ≤ 65536 → AllByRecursion IsFit begun → AllByRecursion IsFit entries → IsSorted (begun ++ entries) →
    ArePagesOf (begun ++ entries) (pages_from begun entries)
pages_are begun [] some room fits others sorted = record {
  roomy = ((some, room, fits), tt);
  each = λ P all. (first_of P begun [] some all, tt);
  sorted = sorted_more (first_key begun) [] tt sorted_nothing;
}
pages_are begun (e ∷ entries) some room fits others sorted =
    elim (nat_le (page_size begun + entry_size e.0 e.1) 65536) as (λ b. nat_le (page_size begun + entry_size e.0 e.1) 65536 ≡ b → ArePagesOf (begun ++ e ∷ entries) (pages_from begun (e ∷ entries))) [
      | true ↦ λ is.
          let same : (begun ++ e ∷ []) ++ entries ≡ begun ++ e ∷ entries = append_assoc begun (e ∷ []) entries in
          rw is (subst (λ all. ArePagesOf all (pages_from (begun ++ e ∷ []) entries)) same
          (pages_are (begun ++ e ∷ []) entries (longer begun e) (omega (arith, page_size-push begun e, leb-true _ _ is)) (all_pushed begun e fits others.0) others.1 (subst IsSorted (sym same) sorted)))
      | false ↦ λ is.
          let rest = pages_are (e ∷ []) entries (omega arith) (entry_room e others.0) (others.0, tt) others.1 (sorted_behind begun (e ∷ entries) sorted) in
          rw is (record {
            roomy = ((some, room, fits), rest.roomy);
            each = λ P all. (first_of P begun (e ∷ entries) some all, rest.each P (keys_behind P begun (e ∷ entries) all));
            sorted = sorted_more (first_key begun) (map first_key (pages_from (e ∷ []) entries)) (rest.each (λ y. key_cmp (first_key begun) y ≡ Less) (first_below begun (e ∷ entries) some sorted)) rest.sorted;
          })
    ] refl
  where
    longer : (es : Entries) (x : List ℕ × Cell) → 1 ≤ length (es ++ x ∷ [])
    longer [] x = omega arith
    longer (y ∷ es) x = omega arith

    all_pushed : (es : Entries) (x : List ℕ × Cell) → AllByRecursion IsFit es → IsFit x → AllByRecursion IsFit (es ++ x ∷ [])
    all_pushed [] x all fit = (fit, tt)
    all_pushed (y ∷ es) x all fit = (all.0, all_pushed es x all.1 fit)

fit_keys : (es : Entries) → AllByRecursion IsFit es → AllByRecursion IsKey (keys_of es)
fit_keys [] all = tt
fit_keys (e ∷ es) all = (all.0.0, fit_keys es all.1)

firsts_of : (pages : List Entries) → map (λ (page : Page). page.first) (map page_of pages) ≡ map first_key pages
firsts_of [] = refl
firsts_of (page ∷ pages) = ap (λ l. first_key page ∷ l) (firsts_of pages)

blocks_of : (pages : List Entries) → AllByRecursion IsRoomy pages → AllByRecursion HasBlock (map page_of pages)
blocks_of [] all = tt
blocks_of (page ∷ pages) all = ((omega (arith, length-page page), omega (arith, length-page page, all.0.1)), blocks_of pages all.1)

-- the pages of a layer, which is in the order of its keys
pub pages_begin : (es : Entries) → AllByRecursion IsFit es → IsSorted es → ArePages (pages_to_write es)
pages_begin [] fits sorted = record { keys = tt; ascending = sorted_nothing; blocks = tt }
pages_begin (e ∷ es) fits sorted =
    let are = pages_are (e ∷ []) es (omega arith) (entry_room e fits.0) (fits.0, tt) fits.1 sorted in
    let firsts = firsts_of (pages_of (e ∷ es)) in
    record {
      keys = subst (AllByRecursion IsKey) (sym firsts) (are.each IsKey (fit_keys (e ∷ es) fits));
      ascending = subst AreSorted (sym firsts) are.sorted;
      blocks = blocks_of (pages_of (e ∷ es)) are.roomy;
    }

pub no_pages_are : ArePages no_pages
no_pages_are = record { keys = tt; ascending = sorted_nothing; blocks = tt }

-- ---- pages that stand

placed_firsts : (extent offset : ℕ) (pages : List Page) → map (λ (p : PageAt). p.first) (placed_pages extent offset pages) ≡ map (λ (p : Page). p.first) pages
placed_firsts extent offset [] = refl
placed_firsts extent offset (page ∷ pages) = ap (λ l. page.first ∷ l) (placed_firsts extent (offset + length page.bytes) pages)

map_append : {A B : Type 0} (f : A → B) (xs ys : List A) → map f (xs ++ ys) ≡ map f xs ++ map f ys
map_append f [] ys = refl
map_append f (x ∷ xs) ys = ap (λ l. f x ∷ l) (map_append f xs ys)

map_split : {A B : Type 0} (f : A → B) (n : ℕ) (xs : List A) → map f (take n xs) ++ map f (drop n xs) ≡ map f xs
map_split f zero xs = refl
map_split f (suc n) [] = refl
map_split f (suc n) (x ∷ xs) = ap (λ l. f x ∷ l) (map_split f n xs)

same_firsts : (p : PagesState) (extent offset : ℕ) → first_keys (with_next_placed p extent offset) ≡ first_keys p
same_firsts p extent offset =
    ap (λ l. l ++ map (λ (q : Page). q.first) (drop 64 p.unwritten)) (map_append (λ (q : PageAt). q.first) p.index.pages (placed_pages extent offset (take 64 p.unwritten))
    ∙ ap (λ l. map (λ (q : PageAt). q.first) p.index.pages ++ l) (placed_firsts extent offset (take 64 p.unwritten)))
    ∙ append_assoc (map (λ (q : PageAt). q.first) p.index.pages) (map (λ (q : Page). q.first) (take 64 p.unwritten)) (map (λ (q : Page). q.first) (drop 64 p.unwritten))
    ∙ ap (λ l. map (λ (q : PageAt). q.first) p.index.pages ++ l) (map_split (λ (q : Page). q.first) 64 p.unwritten)

pub pages_placed : (p : PagesState) (extent offset : ℕ) → ArePages p → ArePages (with_next_placed p extent offset)
pages_placed p extent offset are = record {
  keys = subst (AllByRecursion IsKey) (sym (same_firsts p extent offset)) are.keys;
  ascending = subst AreSorted (sym (same_firsts p extent offset)) are.ascending;
  blocks = all_back HasBlock 64 p.unwritten are.blocks;
}

-- ---- the index

first_all : (pages : List PageAt) → AllByRecursion IsKey (map (λ (p : PageAt). p.first) pages) → AllByRecursion HasFirstKey pages
first_all [] all = tt
first_all (p ∷ pages) all = (all.0, first_all pages all.1)

ascends : (pages : List PageAt) → AreSorted (map (λ (p : PageAt). p.first) pages) → are_ascending pages ≡ true
ascends [] sorted = refl
ascends (p ∷ []) sorted = refl
ascends (p ∷ q ∷ pages) sorted =
    let parts = sorted_parts p.first (map (λ (x : PageAt). x.first) (q ∷ pages)) sorted in
    rw parts.0.0 (ascends (q ∷ pages) parts.1)

-- the index of pages that stand can be written where it fits a group
pub index_is : (p : PagesState) → ArePages p → fits_a_group p.index ≡ true → IsIndex p.index
index_is p are fits =
    let others = map (λ (q : Page). q.first) p.unwritten in
    record {
      keys = first_all p.index.pages (all_front IsKey (map (λ (q : PageAt). q.first) p.index.pages) others are.keys);
      ascending = ascends p.index.pages (sorted_front (map (λ (q : PageAt). q.first) p.index.pages) others are.ascending);
      fits = fits;
    }

-- ---- a group

blocks_are : (pages : List Page) → AllByRecursion HasBlock pages → AllByRecursion IsBlock (page_group pages)
blocks_are [] all = tt
blocks_are (page ∷ pages) all = (all.0, blocks_are pages all.1)

-- the first pages, where there is one, are a group
pub group_is : (pages : List Page) → AllByRecursion HasBlock pages → (length pages == 0) ≡ false → IsGroup (page_group (take 64 pages))
group_is [] all some = absurd cc
group_is (page ∷ pages) all some =
    let count : length (page_group (take 63 pages)) ≡ length (take 63 pages) = length-map (take 63 pages) (λ (p : Page). p.bytes) in
    let few : length (take 63 pages) ≤ 63 = at_most 63 pages in
    (omega arith, omega (arith, count, few), (all.0, blocks_are (take 63 pages) (all_first HasBlock 63 pages all.1)))
  where
    at_most : (n : ℕ) (xs : List Page) → length (take n xs) ≤ n
    at_most zero xs = omega arith
    at_most (suc n) [] = omega arith
    at_most (suc n) (x ∷ xs) = omega (arith, at_most n xs)

-- ---- pages beside a count of those that stand

pub drop_first : {A : Type 0} (n : ℕ) (xs : List A) → drop (length (take n xs)) xs ≡ drop n xs
drop_first zero xs = refl
drop_first (suc n) [] = refl
drop_first (suc n) (x ∷ xs) = drop_first n xs

first_few : {A : Type 0} (n : ℕ) (xs : List A) → length (take n xs) ≤ length xs
first_few zero xs = omega arith
first_few (suc n) [] = omega arith
first_few (suc n) (x ∷ xs) = omega (arith, first_few n xs)

-- the first of those that do not stand are counted with the others
pub counted_in : (items first : List Page) (standing : ℕ) → standing ≤ length items → first ≡ take 64 (drop standing items) → standing + length first ≤ length items
counted_in items first standing within are = omega (arith, within, ap length are, first_few 64 (drop standing items), length-drop standing items)

-- where they stand, the pages are those with the next group placed
pub next_placed : (index : Index) (items first : List Page) (standing extent offset : ℕ) (pages placed : List PageAt) →
    first ≡ take 64 (drop standing items) → placed ≡ placed_pages extent offset first → pages ≡ index.pages ++ placed →
    record { index = record { pages = pages; has_place = index.has_place }; unwritten = drop (standing + length first) items } ≡ with_next_placed (record { index = index; unwritten = drop standing items }) extent offset
next_placed index items first standing extent offset pages placed are stand all =
    let same : pages ≡ index.pages ++ placed_pages extent offset (take 64 (drop standing items)) =
    all ∙ ap (λ (l : List PageAt). index.pages ++ l) (stand ∙ ap (λ (l : List Page). placed_pages extent offset l) are) in
    let left : drop (standing + length first) items ≡ drop 64 (drop standing items) =
    ap (λ (l : List Page). drop (standing + length l) items) are ∙ sym (drop-drop (length (take 64 (drop standing items))) standing items) ∙ drop_first 64 (drop standing items) in
    ap (λ (l : List PageAt). record { index = record { pages = l; has_place = index.has_place }; unwritten = drop (standing + length first) items }) same
    ∙ ap (λ (l : List Page). record { index = record { pages = index.pages ++ placed_pages extent offset (take 64 (drop standing items)); has_place = index.has_place }; unwritten = l }) left

pub none_behind : {A : Type 0} (n : ℕ) (xs : List A) → length xs ≤ n → drop n xs ≡ []
none_behind zero [] few = refl
none_behind zero (x ∷ xs) few = absurd (omega (arith, few))
none_behind (suc n) [] few = refl
none_behind (suc n) (x ∷ xs) few = none_behind n xs (omega (arith, few))
