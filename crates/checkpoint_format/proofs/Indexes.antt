-- The laws of pages and of indexes.
use Rattle.std.proofs.Common.{◌≡◌, ℕ, ◌+◌, ◌^◌, ◌<◌, ◌≤◌, Bool, true, false, List, [], ◌∷◌, ◌++◌, length, Some, None, Result, Ok, Err, refl, sym, ap, subst, ◌∙◌, append_assoc, arith, eq-eqb}
use Rattle.std.specs.List.{flat_map, sum_by, AllByRecursion}
use Rattle.std.specs.Prelude.{nat_le, ◌==◌, ◌&&◌, IfOk, MatchResult, if◌then◌else◌}
use Rattle.std.proofs.lemmas.Bool.{leb-true, le-leb, and_parts, and_from, eqb-true}
use Rattle.std.proofs.lemmas.List.{length-append}
use Rattle.std.proofs.lemmas.List.Concat.{flat_map-cons}
use Rattle.std.proofs.lemmas.List.Sums.{sum_by-cons}
use Rattle.block_types.specs.Limits.{IsGroup}
use Rattle.block_types.specs.declared.fault.BlockFault.{BlockFault}
use Rattle.block_types.specs.declared.fault.BlockFault.TheVariants as faults
use Rattle.blocks.specs.Record.{number}
use Rattle.blocks.specs.Format.{Gives, ◌>>=◌, number_at, only_at, many_at, whole}
use Rattle.blocks.proofs.Formats.{IsBytes, IsBytes-after, bind_some, if_some, some_is, IsFormat, number4, length-number, only_format, many_takes, many_again, whole_takes, whole_again}
use Rattle.commitlog.specs.Record.{key_bytes, pieces, piece_count}
use Rattle.commitlog.proofs.Pieces.{length-cut, cut_blocks, enough}
use Rattle.metadata.specs.Record.{flag, place as place_bytes}
use Rattle.metadata.specs.Reading.{flag_at}
use Rattle.checkpoint_format.specs.declared.index.Index.{Index}
use Rattle.checkpoint_format.specs.declared.index.PageAt.{PageAt}
use Rattle.checkpoint_format.specs.Index.{page_at_bytes, index_body, index_text, index_group, page_at_size, index_size, are_ascending, HasFirstKey, IsIndex, HasPlace, HasPlaces, one_page_at, body_at, index_at}
use Rattle.checkpoint_format.proofs.Texts.{FitsPageAt, page_at_format, flag_format, all_as}

-- ---- sizes of indexes

length-page_at : (p : PageAt) → length (page_at_bytes p) ≡ page_at_size p
length-page_at p =
    omega (
      arith,
      length-append (key_bytes p.first) (place_bytes p.place),
      length-append (number 2 (length p.first)) p.first,
      length-append (number 8 p.place.extent) (number 4 p.place.offset ++ number 4 p.place.length),
      length-append (number 4 p.place.offset) (number 4 p.place.length),
      length-number 2 (length p.first),
      length-number 8 p.place.extent,
      length-number 4 p.place.offset,
      length-number 4 p.place.length,
    )

length-pages : (pages : List PageAt) → length (flat_map page_at_bytes pages) ≡ sum_by page_at_size pages
length-pages [] = refl
length-pages (p ∷ pages) =
    omega (arith, ap length (flat_map-cons page_at_bytes p pages), length-append (page_at_bytes p) (flat_map page_at_bytes pages), length-page_at p, length-pages pages, sum_by-cons page_at_size p pages)

length-flag : (b : Bool) → length (flag b) ≡ 1
length-flag true = length-number 1 1
length-flag false = length-number 1 0

length-body : (i : Index) → length (index_body i) ≡ 5 + sum_by page_at_size i.pages
length-body i =
    omega (
      arith,
      length-append (number 4 (length i.pages)) (flag i.has_place ++ flat_map page_at_bytes i.pages),
      length-append (flag i.has_place) (flat_map page_at_bytes i.pages),
      length-number 4 (length i.pages),
      length-flag i.has_place,
      length-pages i.pages,
    )

pub length-text : (i : Index) → length (index_text i) ≡ index_size i
length-text i = omega (arith, length-append (number 4 (4 + length (index_body i))) (index_body i), length-number 4 (4 + length (index_body i)), length-body i)

-- the text begins with its size
pub text_is : (i : Index) → index_text i ≡ number 4 (index_size i) ++ index_body i
text_is i =
    let size : 4 + length (index_body i) ≡ index_size i = omega (arith, length-body i) in
    ap (λ (n : ℕ). number 4 n ++ index_body i) size

pub count_small : (pages : List PageAt) → length pages ≤ sum_by page_at_size pages
count_small [] = omega arith
count_small (p ∷ pages) = omega (arith, count_small pages, sum_by-cons page_at_size p pages)

pub size_small : (i : Index) → IsIndex i → index_size i ≤ 4194304
size_small i is = leb-true _ _ is.fits

-- a text of at most 64 blocks is cut into a group
pub is_group : (text : List ℕ) → 1 ≤ length text → length text ≤ 4194304 → IsGroup (pieces text)
is_group text some small =
    let count : length (pieces text) ≡ piece_count (length text) = length-cut 65536 (omega arith) (piece_count (length text)) text in
    let many = enough (length text) in
    (omega (arith, count, many.0, some), omega (arith, count, many.1, small), cut_blocks 65536 (omega arith) (omega arith) (piece_count (length text)) text many.1)

pub group_of : (i : Index) → IsIndex i → IsGroup (index_group i)
group_of i is = is_group (index_text i) (omega (arith, length-text i)) (omega (arith, length-text i, size_small i is))

pub text_of_is : (i : Index) (size : ℕ) (pages : List PageAt) (text : List ℕ) → size ≡ index_size i → pages ≡ i.pages
    → text ≡ number 4 size ++ (number 4 (length pages) ++ (flag i.has_place ++ flat_map page_at_bytes pages)) → text ≡ index_text i
text_of_is i size pages text size_is pages_are is =
    is ∙ ap (λ (n : ℕ). number 4 n ++ (number 4 (length pages) ++ (flag i.has_place ++ flat_map page_at_bytes pages))) size_is
    ∙ ap (λ (l : List PageAt). number 4 (index_size i) ++ (number 4 (length l) ++ (flag i.has_place ++ flat_map page_at_bytes l))) pages_are ∙ sym (text_is i)

-- ---- reading indexes

abbrev PagesOf : List PageAt → Type 0
PagesOf pages = ((length pages < 2 ^ 32) × AllByRecursion FitsPageAt pages) × (are_ascending pages ≡ true)

fits_page : (p : PageAt) → HasFirstKey p × HasPlace p → FitsPageAt p
fits_page p h = ((omega (arith, h.0), h.0), (h.1.0, (h.1.1, h.1.2)))

has_first_key : (p : PageAt) → FitsPageAt p → HasFirstKey p
has_first_key p h = h.0.1

all_fit : (pages : List PageAt) → AllByRecursion HasFirstKey pages → AllByRecursion HasPlace pages → AllByRecursion FitsPageAt pages
all_fit [] keys places = tt
all_fit (p ∷ pages) keys places = (fits_page p (keys.0, places.0), all_fit pages keys.1 places.1)

body_takes : (bytes : List ℕ) (i : Index) (rest : List ℕ) → IsBytes bytes → body_at bytes ≡ Some (i, rest) → (bytes ≡ index_body i ++ rest) × PagesOf i.pages
unfolding body_at
body_takes bytes i rest fits e =
    let make : List PageAt → Bool → Index = λ pages has. record { pages = pages; has_place = has } in
    let n = bind_some (number_at 4 bytes) (λ n. flag_at n.1 >>= λ f. only_at are_ascending (many_at one_page_at n.0) f.1 >>= λ pages. Some (make pages.0 f.0, pages.1)) (i, rest) e in
    let f = bind_some (flag_at n.0.1) (λ f. only_at are_ascending (many_at one_page_at n.0.0) f.1 >>= λ pages. Some (make pages.0 f.0, pages.1)) (i, rest) n.2 in
    let p = bind_some (only_at are_ascending (many_at one_page_at n.0.0) f.0.1) (λ pages. Some (make pages.0 f.0.0, pages.1)) (i, rest) f.2 in
    let m = bind_some (many_at one_page_at n.0.0 f.0.1) (λ a. if are_ascending a.0 then Some a else None) p.0 p.1 in
    let g = if_some (are_ascending m.0.0) m.0 p.0 m.2 in
    let sn = number4.takes bytes n.0.0 n.0.1 fits n.1 in
    let n_fits : IsBytes n.0.1 = IsBytes-after (number 4 n.0.0) n.0.1 (subst IsBytes sn.0 fits) in
    let sf = flag_format.takes n.0.1 f.0.0 f.0.1 n_fits f.1 in
    let f_fits : IsBytes f.0.1 = IsBytes-after (flag f.0.0) f.0.1 (subst IsBytes sf.0 n_fits) in
    let sp = many_takes page_at_bytes one_page_at FitsPageAt page_at_format n.0.0 f.0.1 m.0 f_fits m.1 in
    let pages : List PageAt = m.0.0 in
    let after : List ℕ = m.0.1 in
    let made : Index × List ℕ = (make pages f.0.0, after) in
    let counted : bytes ≡ number 4 (length pages) ++ n.0.1 = subst (λ (k : ℕ). bytes ≡ number 4 k ++ n.0.1) (sym sp.1) sn.0 in
    let parts : bytes ≡ index_body (make pages f.0.0) ++ after =
    counted ∙ ap (λ (l : List ℕ). number 4 (length pages) ++ l) (sf.0 ∙ ap (λ (l : List ℕ). flag f.0.0 ++ l) sp.0 ∙ sym (append_assoc (flag f.0.0) (flat_map page_at_bytes pages) after))
    ∙ sym (append_assoc (number 4 (length pages)) (flag f.0.0 ++ flat_map page_at_bytes pages) after) in
    let small : length pages < 2 ^ 32 = omega (arith, sp.1, sn.1) in
    let is : made ≡ (i, rest) = ap (λ (x : List PageAt × List ℕ). (make x.0 f.0.0, x.1)) g.1 ∙ some_is (make p.0.0 f.0.0, p.0.1) (i, rest) p.2 in
    subst (λ (y : Index × List ℕ). (bytes ≡ index_body y.0 ++ y.1) × PagesOf y.0.pages) is (parts, ((small, sp.2), g.0))

body_again : (i : Index) (rest : List ℕ) → PagesOf i.pages → body_at (index_body i ++ rest) ≡ Some (i, rest)
unfolding body_at
body_again i rest fits =
    let pages : List PageAt = i.pages in
    let all : List ℕ = flat_map page_at_bytes i.pages in
    let regrouped : index_body i ++ rest ≡ number 4 (length i.pages) ++ (flag i.has_place ++ (all ++ rest)) =
    append_assoc (number 4 (length i.pages)) (flag i.has_place ++ all) rest ∙ ap (λ (l : List ℕ). number 4 (length i.pages) ++ l) (append_assoc (flag i.has_place) all rest) in
    ap body_at regrouped
    ∙ rw (number4.again (length i.pages) (flag i.has_place ++ (all ++ rest)) fits.0.0, flag_format.again i.has_place (all ++ rest) tt, many_again page_at_bytes one_page_at FitsPageAt page_at_format i.pages rest fits.0.1, fits.1) refl

body_format : IsFormat index_body body_at (λ (i : Index). PagesOf i.pages)
body_format = record { takes = body_takes; again = body_again }

abbrev SizeTest : List ℕ → ℕ → Bool
SizeTest bytes n = (n == length bytes) && nat_le n 4194304

size_format : (bytes : List ℕ) → IsFormat (number 4) (only_at (SizeTest bytes) (number_at 4)) (λ n. (n < 2 ^ 32) × ((n ≡ length bytes) × (n ≤ 4194304)))
size_format bytes =
    only_format (SizeTest bytes) (λ n. (n ≡ length bytes) × (n ≤ 4194304))
    (λ n e. let p = and_parts (n == length bytes) (nat_le n 4194304) e in (eqb-true _ _ p.0, leb-true _ _ p.1))
    (λ n h. and_from (n == length bytes) (nat_le n 4194304) (eq-eqb _ _ h.0) (le-leb _ _ h.1)) number4

pub index_takes : (bytes : List ℕ) (i : Index) → IsBytes bytes → index_at bytes ≡ Some i → (index_text i ≡ bytes) × IsIndex i
unfolding index_at
index_takes bytes i fits e =
    let n = bind_some (only_at (SizeTest bytes) (number_at 4) bytes) (λ n. whole (body_at n.1)) i e in
    let sn = (size_format bytes).takes bytes n.0.0 n.0.1 fits n.1 in
    let t = whole_takes body_format (λ (x : Index). x) n.0.1 i (IsBytes-after (number 4 n.0.0) n.0.1 (subst IsBytes sn.0 fits)) n.2 in
    let body : n.0.1 ≡ index_body i = t.1 ∙ ap index_body t.3 in
    let pages : PagesOf i.pages = subst (λ (x : Index). PagesOf x.pages) t.3 t.2 in
    let parts : bytes ≡ number 4 n.0.0 ++ index_body i = sn.0 ∙ ap (λ (l : List ℕ). number 4 n.0.0 ++ l) body in
    let size : n.0.0 ≡ index_size i = sn.1.1.0 ∙ ap length parts ∙ omega (arith, length-append (number 4 n.0.0) (index_body i), length-number 4 n.0.0, length-body i) in
    let spelled : bytes ≡ index_text i = parts ∙ ap (λ (k : ℕ). number 4 k ++ index_body i) size ∙ sym (text_is i) in
    (sym spelled, record { keys = all_as has_first_key i.pages pages.0.1; ascending = pages.1; fits = le-leb _ _ (omega (arith, size, sn.1.1.1)) })

pub index_again : (i : Index) → IsIndex i → HasPlaces i → index_at (index_text i) ≡ Some i
unfolding index_at
index_again i is places =
    let small = size_small i is in
    let size = length-text i in
    let pages : PagesOf i.pages = ((omega (arith, small, count_small i.pages), all_fit i.pages is.keys places), is.ascending) in
    let sizes : (index_size i ≡ length (index_text i)) × (index_size i ≤ 4194304) = (sym size, small) in
    let read : only_at (SizeTest (index_text i)) (number_at 4) (index_text i) ≡ Some (index_size i, index_body i) =
    ap (only_at (SizeTest (index_text i)) (number_at 4)) (text_is i) ∙ (size_format (index_text i)).again (index_size i) (index_body i) (omega (arith, small), sizes) in
    rw read (whole_again body_format (λ (x : Index). x) i pages)

pub is_found : (bytes : List ℕ) (x : Result Index BlockFault) → IsBytes bytes → Gives (λ y. y) x (index_at bytes) → IfOk x (λ i. IsIndex i × (index_text i ≡ bytes))
is_found bytes (Ok i) fits given = let t = index_takes bytes i fits given in (t.1, t.0)
is_found bytes (Err e) fits given = tt

pub is_only : (bytes : List ℕ) (x : Result Index BlockFault) → Gives (λ y. y) x (index_at bytes) → (i : Index) → IsIndex i → HasPlaces i → index_text i ≡ bytes → MatchResult x (λ y. y ≡ i) (λ e. e ≡ faults.Memory)
is_only bytes (Ok y) given i is places same = some_is y i (sym given ∙ ap index_at (sym same) ∙ index_again i is places)
is_only bytes (Err faults.Memory) given i is places same = refl
is_only bytes (Err faults.Damaged) given i is places same =
    let again : index_at bytes ≡ Some i = ap index_at (sym same) ∙ index_again i is places in
    absurd (cc (given, again))
