-- A page as it grows, and the pages that are written so far.
use Rattle.std.proofs.Common.{◌≡◌, ℕ, ◌+◌, ◌<◌, ◌≤◌, true, false, List, [], ◌∷◌, ◌++◌, length, map, refl, sym, ap, subst, ◌∙◌, append_assoc, arith, ◌/◌, ◌%◌, set}
use Rattle.std.specs.Prelude.{nat_le}
use Rattle.std.specs.List.{flat_map, AllByRecursion}
use Rattle.std.proofs.Math.Nat.{mod-eq_of_lt}
use Rattle.std.proofs.lemmas.Bool.{leb-true, le-leb}
use Rattle.std.proofs.lemmas.List.{length-append, append-nil}
use Rattle.std.proofs.lemmas.List.Concat.{flat_map-cons}
use Rattle.std.proofs.lemmas.List.Sums.{sum_by-cons}
use Rattle.blocks.specs.Record.{number}
use Rattle.blocks.proofs.Formats.{length-number}
use Rattle.memtable.specs.declared.cell.Cell.{Cell}
use Rattle.memtable.specs.declared.cell.Cell.TheVariants.{Deleted, Inline, Placed}
use Rattle.memtable.specs.Cell.{IsCell, cell_size, entry_size}
use Rattle.memtable.specs.Entries.{Entries, entries_size}
use Rattle.commitlog.specs.Record.{key_bytes}
use Rattle.metadata.specs.Record.{place as place_bytes}
use Rattle.checkpoint_format.specs.declared.page.Page.{Page}
use Rattle.checkpoint_format.specs.declared.page_text.PageText.{PageText}
use Rattle.checkpoint_format.specs.Page.{cell_bytes, entry_bytes, page_bytes, page_size, pages_from, pages_of, page_of}
use Rattle.checkpoint_format.specs.Writing.{IsEntryPair, IsTextOf, pages_after, HasWritten}

abbrev Entry : Type 0
Entry = List ℕ × Cell

-- ---- sizes

length-cell : (cell : Cell) → length (cell_bytes cell) ≡ cell_size cell
length-cell Deleted = length-number 1 0
length-cell (Inline value) = omega (arith, length-append (number 1 1) (number 4 (length value) ++ value), length-append (number 4 (length value)) value, length-number 1 1, length-number 4 (length value))
length-cell (Placed p) =
    omega (
      arith,
      length-append (number 1 2) (place_bytes p),
      length-append (number 8 p.extent) (number 4 p.offset ++ number 4 p.length),
      length-append (number 4 p.offset) (number 4 p.length),
      length-number 1 2,
      length-number 8 p.extent,
      length-number 4 p.offset,
      length-number 4 p.length,
    )

length-entry : (e : Entry) → length (entry_bytes e) ≡ entry_size e.0 e.1
length-entry e =
    omega (arith, length-append (key_bytes e.0) (cell_bytes e.1), length-append (number 2 (length e.0)) e.0, length-number 2 (length e.0), length-cell e.1)

pub length-entries : (es : Entries) → length (flat_map entry_bytes es) ≡ entries_size es
length-entries [] = refl
length-entries (e ∷ es) =
    omega (arith, ap length (flat_map-cons entry_bytes e es), length-append (entry_bytes e) (flat_map entry_bytes es), length-entry e, length-entries es, sum_by-cons (λ (x : Entry). entry_size x.0 x.1) e es)

pub length-page : (es : Entries) → length (page_bytes es) ≡ page_size es
length-page es = omega (arith, length-append (number 2 (length es)) (flat_map entry_bytes es), length-number 2 (length es), length-entries es)

-- an entry has more than one byte
some_bytes : (cell : Cell) → 1 ≤ cell_size cell
some_bytes Deleted = omega arith
some_bytes (Inline value) = omega arith
some_bytes (Placed p) = omega arith

pub count_small : (es : Entries) → length es ≤ entries_size es
count_small [] = omega arith
count_small (e ∷ es) = omega (arith, count_small es, some_bytes e.1, sum_by-cons (λ (x : Entry). entry_size x.0 x.1) e es)

-- an entry is far smaller than a page
cell_small : (cell : Cell) → IsCell cell → cell_size cell ≤ 4101
cell_small Deleted h = omega arith
cell_small (Inline value) h = omega (arith, h)
cell_small (Placed p) h = omega arith

pub entry_small : (e : Entry) → IsEntryPair e → entry_size e.0 e.1 ≤ 4359
entry_small e h = omega (arith, h.0.1, cell_small e.1 h.1)

pub page_size-push : (es : Entries) (e : Entry) → page_size (es ++ e ∷ []) ≡ page_size es + entry_size e.0 e.1
page_size-push [] e = omega (arith, sum_by-cons (λ (x : Entry). entry_size x.0 x.1) e [])
page_size-push (f ∷ es) e =
    omega (arith, sum_by-cons (λ (x : Entry). entry_size x.0 x.1) f (es ++ e ∷ []), sum_by-cons (λ (x : Entry). entry_size x.0 x.1) f es, page_size-push es e)

-- ---- the pages that are written so far

pub after_in : (begun : Entries) (e : Entry) (rest : Entries) → nat_le (page_size begun + entry_size e.0 e.1) 65536 ≡ true → pages_after begun (e ∷ rest) ≡ pages_after (begun ++ e ∷ []) rest
after_in [] e rest is = refl
after_in (b ∷ begun) e rest is = rw is refl

pub after_out : (begun : Entries) (e : Entry) (rest : Entries) → IsEntryPair e → nat_le (page_size begun + entry_size e.0 e.1) 65536 ≡ false → pages_after begun (e ∷ rest) ≡ begun ∷ pages_from (e ∷ []) rest
after_out [] e rest fits is =
    let small = entry_small e fits in
    let room : nat_le (page_size [] + entry_size e.0 e.1) 65536 ≡ true = le-leb _ _ (omega (arith, small)) in
    absurd (cc (room, is))
after_out (b ∷ begun) e rest fits is = rw is refl

pub text_size : (es : Entries) (text : PageText) → IsTextOf es text → length text.bytes.items ≡ page_size es
text_size es text is = ap length is.bytes ∙ omega (arith, length-append (number 2 0) (flat_map entry_bytes es), length-number 2 0, length-entries es)

-- what the count of a text and its bytes are at most and at least
pub text_bounds : (all : Entries) (pages : List Page) (text : PageText) (rest : Entries) → HasWritten all pages text rest → (text.count < 65535) × (2 ≤ length text.bytes.items)
text_bounds all pages text rest h =
    (omega (arith, h.text_is.count, count_small h.begun, h.small), omega (arith, text_size h.begun text h.text_is))

pub step_in : (all : Entries) (pages : List Page) (text next : PageText) (e : Entry) (rest : Entries) → nat_le (length text.bytes.items + entry_size e.0 e.1) 65536 ≡ true
    → ((es : Entries) → IsTextOf es text → IsTextOf (es ++ e ∷ []) next) → HasWritten all pages text (e ∷ rest) → HasWritten all pages next rest
step_in all pages text next e rest room added h =
    let sized : nat_le (page_size h.begun + entry_size e.0 e.1) 65536 ≡ true = subst (λ (n : ℕ). nat_le (n + entry_size e.0 e.1) 65536 ≡ true) (text_size h.begun text h.text_is) room in
    record {
      begun = h.begun ++ e ∷ [];
      text_is = added h.begun h.text_is;
      pages_are = sym (ap (λ (l : List Entries). pages ++ map page_of l) (after_in h.begun e rest sized)) ∙ h.pages_are;
      small = omega (arith, page_size-push h.begun e, leb-true _ _ sized);
      fit = h.fit.1;
    }

pub step_out : (all : Entries) (pages : List Page) (page : Page) (text new next : PageText) (e : Entry) (rest : Entries) → nat_le (length text.bytes.items + entry_size e.0 e.1) 65536 ≡ false
    → ((es : Entries) → IsTextOf es text → page ≡ page_of es) → IsTextOf [] new → ((es : Entries) → IsTextOf es new → IsTextOf (es ++ e ∷ []) next)
    → HasWritten all pages text (e ∷ rest) → HasWritten all (pages ++ page ∷ []) next rest
step_out all pages page text new next e rest room made none added h =
    let sized : nat_le (page_size h.begun + entry_size e.0 e.1) 65536 ≡ false = subst (λ (n : ℕ). nat_le (n + entry_size e.0 e.1) 65536 ≡ false) (text_size h.begun text h.text_is) room in
    let more : List Page = map page_of (pages_from (e ∷ []) rest) in
    let as_page : (pages ++ page ∷ []) ++ more ≡ pages ++ page_of h.begun ∷ more = append_assoc pages (page ∷ []) more ∙ ap (λ (p : Page). pages ++ p ∷ more) (made h.begun h.text_is) in
    let size = entry_small e h.fit.0 in
    record {
      begun = e ∷ [];
      text_is = added [] none;
      pages_are = as_page ∙ sym (ap (λ (l : List Entries). pages ++ map page_of l) (after_out h.begun e rest h.fit.0 sized)) ∙ h.pages_are;
      small = omega (arith, page_size-push [] e, size);
      fit = h.fit.1;
    }

-- no entry is left
pub ends_empty : (all : Entries) (pages : List Page) (text : PageText) → HasWritten all pages text [] → text.count ≡ 0 → pages ≡ map page_of (pages_of all)
ends_empty all pages text h none = by h.begun (h.text_is.count) h.pages_are
  where
    by : (begun : Entries) → text.count ≡ length begun → pages ++ map page_of (pages_after begun []) ≡ map page_of (pages_of all) → pages ≡ map page_of (pages_of all)
    by [] count are = sym (append-nil pages) ∙ are
    by (b ∷ begun) count are = absurd (omega (arith, count, none))

pub ends_begun : (all : Entries) (pages : List Page) (page : Page) (text : PageText) → HasWritten all pages text [] → (text.count ≡ 0 → ⊥) → ((es : Entries) → IsTextOf es text → page ≡ page_of es)
    → pages ++ page ∷ [] ≡ map page_of (pages_of all)
ends_begun all pages page text h some made = ap (λ (p : Page). pages ++ p ∷ []) (made h.begun h.text_is) ∙ by h.begun h.text_is.count h.pages_are
  where
    by : (begun : Entries) → text.count ≡ length begun → pages ++ map page_of (pages_after begun []) ≡ map page_of (pages_of all) → pages ++ page_of begun ∷ [] ≡ map page_of (pages_of all)
    by [] count are = absurd (some count)
    by (b ∷ begun) count are = are

pub begins_empty : (all : Entries) (text : PageText) → IsTextOf [] text → AllByRecursion IsEntryPair all → HasWritten all [] text all
begins_empty all text is fit = record { begun = []; text_is = is; pages_are = refl; small = omega arith; fit = fit }

-- ---- the count of a page

-- the two bytes of a count
pub counted : (n : ℕ) → n < 65536 → number 2 n ≡ n / 256 ∷ n % 256 ∷ []
unfolding number
counted n lt =
    let high : n / 256 < 256 = omega (arith, lt) in
    ap (λ (x : ℕ). x ∷ n % 256 ∷ []) (mod-eq_of_lt high)

pub page_is : (es : Entries) (text : PageText) (bytes : List ℕ) → IsTextOf es text → text.count < 65536 → bytes ≡ set (set text.bytes.items 0 (text.count / 256)) 1 (text.count % 256) → bytes ≡ page_bytes es
page_is es text bytes is lt written =
    let none : number 2 0 ≡ 0 ∷ 0 ∷ [] = counted 0 (omega arith) in
    let items : text.bytes.items ≡ 0 ∷ 0 ∷ flat_map entry_bytes es = is.bytes ∙ ap (λ (l : List ℕ). l ++ flat_map entry_bytes es) none in
    written ∙ ap (λ (l : List ℕ). set (set l 0 (text.count / 256)) 1 (text.count % 256)) items
    ∙ ap (λ (l : List ℕ). l ++ flat_map entry_bytes es) (sym (counted text.count lt))
    ∙ ap (λ (n : ℕ). number 2 n ++ flat_map entry_bytes es) is.count
