-- The pages of some entries.
use Rattle.std.proofs.Common.{◌≡◌, ℕ, ◌+◌, ◌<◌, ◌≤◌, true, false, List, [], ◌∷◌, ◌++◌, length, Some, refl, sym, ap, ◌∙◌, append_assoc, arith}
use Rattle.std.specs.Prelude.{nat_le, slice_index}
use Rattle.std.specs.Ordering.{is_lt}
use Rattle.std.specs.List.{AllByRecursion}
use Rattle.std.proofs.lemmas.Bool.{leb-true, and_parts, and_from}
use Rattle.std.proofs.lemmas.List.Concat.{flat_map-cons}
use Rattle.memtable.specs.declared.cell.Cell.{Cell}
use Rattle.memtable.specs.Cell.{entry_size}
use Rattle.memtable.specs.Entries.{Entries, key_cmp}
use Rattle.blocks.proofs.Loop.{All-push}
use Rattle.checkpoint_format.specs.Page.{IsPageEntry, entries_at, is_ascending, joined, page_bytes, page_size, pages_from, pages_of}
use Rattle.checkpoint_format.proofs.Texts.{FitsEntry, FitsPage, fits_entry, is_page_entry, all_as, entries_again, entries_take}
use Rattle.checkpoint_format.proofs.Writing.{length-page, count_small, entry_small, page_size-push}

abbrev Entry : Type 0
Entry = List ℕ × Cell

-- ---- ascending entries

ascending_front : (a b : Entries) → is_ascending (a ++ b) ≡ true → is_ascending a ≡ true
ascending_front [] b e = refl
ascending_front (x ∷ []) b e = refl
ascending_front (x ∷ y ∷ a) b e =
    let p = and_parts (is_lt (key_cmp x.0 y.0)) (is_ascending (y ∷ (a ++ b))) e in
    and_from (is_lt (key_cmp x.0 y.0)) (is_ascending (y ∷ a)) p.0 (ascending_front (y ∷ a) b p.1)

ascending_tail : (x : Entry) (b : Entries) → is_ascending (x ∷ b) ≡ true → is_ascending b ≡ true
ascending_tail x [] e = refl
ascending_tail x (y ∷ b) e = (and_parts (is_lt (key_cmp x.0 y.0)) (is_ascending (y ∷ b)) e).1

ascending_back : (a b : Entries) → is_ascending (a ++ b) ≡ true → is_ascending b ≡ true
ascending_back [] b e = e
ascending_back (x ∷ a) b e = ascending_back a b (ascending_tail x (a ++ b) e)

-- ---- each page

abbrev IsGood : Entries → Type 0
IsGood page = FitsPage page × (page_size page ≤ 65536)

good : (page : Entries) → 1 ≤ length page → page_size page ≤ 65536 → AllByRecursion FitsEntry page → is_ascending page ≡ true → IsGood page
good page some small fits ascending =
    let few = count_small page in
    ((((omega (arith, few, small), (some, omega (arith, few, small))), fits), ascending), small)

entry_room : (e : Entry) → FitsEntry e → page_size (e ∷ []) ≤ 65536
entry_room e fits = omega (arith, page_size-push [] e, entry_small e (is_page_entry e fits).0)

all_good : (begun entries : Entries) → 1 ≤ length begun → page_size begun ≤ 65536 → AllByRecursion FitsEntry begun → AllByRecursion FitsEntry entries → is_ascending (begun ++ entries) ≡ true
    → AllByRecursion IsGood (pages_from begun entries)
all_good begun [] some small fits others ascending = (good begun some small fits (ascending_front begun [] ascending), tt)
all_good begun (e ∷ entries) some small fits others ascending =
    elim (nat_le (page_size begun + entry_size e.0 e.1) 65536) as (λ b. nat_le (page_size begun + entry_size e.0 e.1) 65536 ≡ b → AllByRecursion IsGood (pages_from begun (e ∷ entries))) [
      | true ↦ λ is.
          rw is (all_good (begun ++ e ∷ []) entries (longer begun e) (omega (arith, page_size-push begun e, leb-true _ _ is)) (All-push FitsEntry begun e fits others.0) others.1
          (ap is_ascending (append_assoc begun (e ∷ []) entries) ∙ ascending))
      | false ↦ λ is.
          rw is (good begun some small fits (ascending_front begun (e ∷ entries) ascending), all_good (e ∷ []) entries (longer [] e) (entry_room e others.0) (others.0, tt) others.1 (ascending_back begun (e ∷ entries) ascending))
    ] refl
  where
    longer : (es : Entries) (x : Entry) → 1 ≤ length (es ++ x ∷ [])
    longer [] x = omega arith
    longer (y ∷ es) x = omega arith

pages_good : (entries : Entries) → is_ascending entries ≡ true → AllByRecursion IsPageEntry entries → AllByRecursion IsGood (pages_of entries)
pages_good [] ascending fits = tt
pages_good (e ∷ entries) ascending fits =
    let all = all_as fits_entry (e ∷ entries) fits in
    all_good (e ∷ []) entries (omega arith) (entry_room e all.0) (all.0, tt) all.1 ascending

pub pages_read : (entries : Entries) → is_ascending entries ≡ true → AllByRecursion IsPageEntry entries → AllByRecursion (λ page. entries_at (page_bytes page) ≡ Some page) (pages_of entries)
pages_read entries ascending fits = all_as (λ page h. entries_again page h.0 (omega (arith, length-page page, h.1))) (pages_of entries) (pages_good entries ascending fits)

pub pages_small : (entries : Entries) → is_ascending entries ≡ true → AllByRecursion IsPageEntry entries → AllByRecursion (λ page. length (page_bytes page) ≤ 65536) (pages_of entries)
pages_small entries ascending fits = all_as (λ page h. omega (arith, length-page page, h.1)) (pages_of entries) (pages_good entries ascending fits)

some_from : (begun entries : Entries) → 1 ≤ length begun → AllByRecursion (λ page. 1 ≤ length page) (pages_from begun entries)
some_from begun [] some = (some, tt)
some_from begun (e ∷ entries) some =
    elim (nat_le (page_size begun + entry_size e.0 e.1) 65536) as (λ b. nat_le (page_size begun + entry_size e.0 e.1) 65536 ≡ b → AllByRecursion (λ page. 1 ≤ length page) (pages_from begun (e ∷ entries))) [
      | true ↦ λ is. rw is (some_from (begun ++ e ∷ []) entries (longer begun e))
      | false ↦ λ is. rw is (some, some_from (e ∷ []) entries (longer [] e))
    ] refl
  where
    longer : (es : Entries) (x : Entry) → 1 ≤ length (es ++ x ∷ [])
    longer [] x = omega arith
    longer (y ∷ es) x = omega arith

pub pages_some : (entries : Entries) → AllByRecursion (λ page. 1 ≤ length page) (pages_of entries)
pages_some [] = tt
pages_some (e ∷ entries) = some_from (e ∷ []) entries (omega arith)

joined_from : (begun entries : Entries) → joined (pages_from begun entries) ≡ begun ++ entries
joined_from begun [] = flat_map-cons (λ (page : Entries). page) begun []
joined_from begun (e ∷ entries) =
    elim (nat_le (page_size begun + entry_size e.0 e.1) 65536) as (λ b. nat_le (page_size begun + entry_size e.0 e.1) 65536 ≡ b → joined (pages_from begun (e ∷ entries)) ≡ begun ++ e ∷ entries) [
      | true ↦ λ is. rw is (joined_from (begun ++ e ∷ []) entries ∙ append_assoc begun (e ∷ []) entries)
      | false ↦ λ is. rw is (flat_map-cons (λ (page : Entries). page) begun (pages_from (e ∷ []) entries) ∙ ap (λ (l : Entries). begun ++ l) (joined_from (e ∷ []) entries))
    ] refl

pub pages_joined : (entries : Entries) → joined (pages_of entries) ≡ entries
pages_joined [] = refl
pages_joined (e ∷ entries) = joined_from (e ∷ []) entries

-- ---- what bytes spell

pub page_spelled : (bytes : List ℕ) (entries : Entries) → ((i : ℕ) → slice_index bytes i < 256) → entries_at bytes ≡ Some entries → page_bytes entries ≡ bytes
page_spelled bytes entries fits e = sym (entries_take bytes entries fits e).0

pub page_ascends : (bytes : List ℕ) (entries : Entries) → ((i : ℕ) → slice_index bytes i < 256) → entries_at bytes ≡ Some entries → is_ascending entries ≡ true
page_ascends bytes entries fits e = (entries_take bytes entries fits e).1.1

pub page_in_range : (bytes : List ℕ) (entries : Entries) → ((i : ℕ) → slice_index bytes i < 256) → entries_at bytes ≡ Some entries → AllByRecursion IsPageEntry entries
page_in_range bytes entries fits e = all_as is_page_entry entries (entries_take bytes entries fits e).1.0.1
