-- The bytes of pages and of indexes: what is read is what was written, and what was written is read again.
use Rattle.std.proofs.Common.{◌≡◌, ℕ, zero, suc, ◌+◌, ◌^◌, ◌<◌, ◌≤◌, Bool, true, false, List, [], ◌∷◌, ◌++◌, length, Option, Some, None, refl, sym, ap, subst, ◌∙◌, append_assoc, arith, take, drop, ◌-◌}
use Rattle.std.specs.List.{AllByRecursion}
use Rattle.std.specs.Prelude.{nat_le, ◌==◌, if◌then◌else◌}
use Rattle.std.proofs.lemmas.Bool.{leb-true, le-leb}
use Rattle.std.proofs.lemmas.List.{length-append, take_at, drop_at, drop-drop}
use Rattle.block_types.specs.Limits.{is_within}
use Rattle.blocks.specs.Record.{number}
use Rattle.blocks.specs.Format.{◌>>=◌, number_at, bytes_at, only_at, whole, IsEndOf}
use Rattle.blocks.proofs.Formats.{IsBytes, IsBytes-after, bind_some, some_is, IsFormat, number1, number2, number4, number8, number-one, length-number, within, within_again, bytes_takes, bytes_again, pair_format, only_format, counted_format, whole_takes, whole_again}
use Rattle.memtable.specs.declared.cell.Cell.{Cell}
use Rattle.memtable.specs.declared.cell.Cell.TheVariants.{Deleted, Inline, Placed}
use Rattle.memtable.specs.declared.cell.Place.{Place}
use Rattle.memtable.specs.Limits.{IsKey}
use Rattle.memtable.specs.Entries.{Entries}
use Rattle.commitlog.specs.Record.{key_bytes}
use Rattle.commitlog.specs.Reading.{counted_at, is_small}
use Rattle.metadata.specs.Record.{flag, place as place_bytes}
use Rattle.metadata.specs.Reading.{flag_at, place_at}
use Rattle.checkpoint_format.specs.declared.index.PageAt.{PageAt}
use Rattle.checkpoint_format.specs.Page.{cell_bytes, entry_bytes, page_bytes, large_place_at, fields_at, cell_at, entry_at, counted_entries_at, entries_at, is_ascending, IsPageEntry}
use Rattle.checkpoint_format.specs.Index.{page_at_bytes, one_page_at}

-- the same value by another name
made_format : {A B : Type 0} {f : A → List ℕ} {F : List ℕ → Option (A × List ℕ)} {P : A → Type 0} (to : A → B) (from : B → A)
    → ((a : A) → from (to a) ≡ a) → ((b : B) → to (from b) ≡ b) → IsFormat f F P → IsFormat (λ b. f (from b)) (λ bytes. F bytes >>= λ a. Some (to a.0, a.1)) (λ b. P (from b))
made_format {A = A} {B = B} {f = f} {F = F} {P = P} to from back again format = record {
  takes = λ bytes x rest fits e.
      let a = bind_some (F bytes) (λ a. Some (to a.0, a.1)) (x, rest) e in
      let s = format.takes bytes a.0.0 a.0.1 fits a.1 in
      let made : B × List ℕ = (to a.0.0, a.0.1) in
      subst (λ (y : B × List ℕ). (bytes ≡ f (from y.0) ++ y.1) × P (from y.0)) (some_is made (x, rest) a.2)
      (subst (λ (z : A). (bytes ≡ f z ++ a.0.1) × P z) (sym (back a.0.0)) s);
  again = λ x rest fits. rw (format.again (from x) rest fits) (ap (λ (b : B). Some (b, rest)) (again x));
}

-- a length and so many bytes
sized_format : (w : ℕ) (P : ℕ → Type 0) (test : ℕ → Bool) (Q : ℕ → Type 0) → ((n : ℕ) → test n ≡ true → Q n) → ((n : ℕ) → Q n → test n ≡ true) → IsFormat (number w) (number_at w) P
    → IsFormat (λ (b : List ℕ). number w (length b) ++ b) (counted_at w test) (λ (b : List ℕ). P (length b) × Q (length b))
unfolding counted_at
sized_format w P test Q sound complete wide = record {
  takes = λ bytes x rest fits e.
      let N = only_format test Q sound complete wide in
      let n = bind_some (only_at test (number_at w) bytes) (λ n. bytes_at n.0 n.1) (x, rest) e in
      let sn = N.takes bytes n.0.0 n.0.1 fits n.1 in
      let sb = bytes_takes n.0.0 n.0.1 x rest n.2 in
      let parts : bytes ≡ number w n.0.0 ++ (x ++ rest) = sn.0 ∙ ap (λ (l : List ℕ). number w n.0.0 ++ l) sb.0 in
      let counted : bytes ≡ number w (length x) ++ (x ++ rest) = subst (λ (k : ℕ). bytes ≡ number w k ++ (x ++ rest)) (sym sb.1) parts in
      (counted ∙ sym (append_assoc (number w (length x)) x rest), subst (λ (k : ℕ). P k × Q k) (sym sb.1) sn.1);
  again = λ x rest fits.
      let N = only_format test Q sound complete wide in
      ap (counted_at w test) (append_assoc (number w (length x)) x rest) ∙ rw (N.again (length x) (x ++ rest) fits, bytes_again x rest) refl;
}

key_format : IsFormat key_bytes (counted_at 2 (is_within 1 256)) (λ (k : List ℕ). (length k < 2 ^ 16) × IsKey k)
key_format = sized_format 2 (λ n. n < 2 ^ 16) (is_within 1 256) (λ n. (1 ≤ n) × (n ≤ 256)) (within 1 256) (within_again 1 256) number2

inline_format : IsFormat (λ (v : List ℕ). number 4 (length v) ++ v) (counted_at 4 is_small) (λ (v : List ℕ). (length v < 2 ^ 32) × (length v ≤ 4096))
inline_format = sized_format 4 (λ n. n < 2 ^ 32) is_small (λ n. n ≤ 4096) (λ n e. leb-true _ _ e) (λ n h. le-leb _ _ h) number4

abbrev pub FitsPlace : Place → Type 0
FitsPlace p = (p.extent < 2 ^ 64) × ((p.offset < 2 ^ 32) × (p.length < 2 ^ 32))

place_format : IsFormat place_bytes place_at FitsPlace
unfolding place_at
place_format =
    made_format (λ x. record { extent = x.0; offset = x.1.0; length = x.1.1 }) (λ (p : Place). (p.extent, (p.offset, p.length))) (λ a. refl) (λ b. refl)
    (pair_format number8 (pair_format number4 number4))

large_place_format : IsFormat place_bytes large_place_at (λ (p : Place). FitsPlace p × ((4097 ≤ p.length) × (p.length ≤ 65536)))
unfolding large_place_at
large_place_format = only_format (λ (p : Place). is_within 4097 65536 p.length) (λ (p : Place). (4097 ≤ p.length) × (p.length ≤ 65536)) (λ p. within 4097 65536 p.length) (λ p. within_again 4097 65536 p.length) place_format

-- ---- entries

abbrev pub FitsCell : Cell → Type 0
FitsCell Deleted = Unit {0}
FitsCell (Inline v) = length v ≤ 4096
FitsCell (Placed p) = FitsPlace p × ((4097 ≤ p.length) × (p.length ≤ 65536))

fields_takes : (kind : ℕ) (fields : List ℕ) (x : Cell) (rest : List ℕ) → IsBytes fields → fields_at kind fields ≡ Some (x, rest) → (number 1 kind ++ fields ≡ cell_bytes x ++ rest) × FitsCell x
unfolding fields_at
fields_takes zero fields x rest fits e =
    let made : Cell × List ℕ = (Deleted, fields) in
    subst (λ (y : Cell × List ℕ). (number 1 0 ++ fields ≡ cell_bytes y.0 ++ y.1) × FitsCell y.0) (some_is made (x, rest) e) (refl, tt)
fields_takes (suc zero) fields x rest fits e =
    let v = bind_some (counted_at 4 is_small fields) (λ v. Some (Inline v.0, v.1)) (x, rest) e in
    let s = inline_format.takes fields v.0.0 v.0.1 fits v.1 in
    let made : Cell × List ℕ = (Inline v.0.0, v.0.1) in
    subst (λ (y : Cell × List ℕ). (number 1 1 ++ fields ≡ cell_bytes y.0 ++ y.1) × FitsCell y.0) (some_is made (x, rest) v.2)
    (ap (λ (l : List ℕ). number 1 1 ++ l) s.0 ∙ sym (append_assoc (number 1 1) (number 4 (length v.0.0) ++ v.0.0) v.0.1), s.1.1)
fields_takes (suc (suc zero)) fields x rest fits e =
    let p = bind_some (large_place_at fields) (λ p. Some (Placed p.0, p.1)) (x, rest) e in
    let s = large_place_format.takes fields p.0.0 p.0.1 fits p.1 in
    let made : Cell × List ℕ = (Placed p.0.0, p.0.1) in
    subst (λ (y : Cell × List ℕ). (number 1 2 ++ fields ≡ cell_bytes y.0 ++ y.1) × FitsCell y.0) (some_is made (x, rest) p.2)
    (ap (λ (l : List ℕ). number 1 2 ++ l) s.0 ∙ sym (append_assoc (number 1 2) (place_bytes p.0.0) p.0.1), s.1)
fields_takes (suc (suc (suc k))) fields x rest fits e = absurd cc

cell_takes : (bytes : List ℕ) (x : Cell) (rest : List ℕ) → IsBytes bytes → cell_at bytes ≡ Some (x, rest) → (bytes ≡ cell_bytes x ++ rest) × FitsCell x
unfolding cell_at
cell_takes [] x rest fits e = absurd cc
cell_takes (kind ∷ fields) x rest fits e =
    let t = fields_takes kind fields x rest (IsBytes-after (kind ∷ []) fields fits) e in
    (ap (λ (l : List ℕ). l ++ fields) (sym (number-one kind (fits 0))) ∙ t.0, t.1)

-- the kind's byte is read again
kind_again : (kind : ℕ) (fields rest : List ℕ) (x : Cell) → kind < 256 → fields_at kind fields ≡ Some (x, rest) → cell_at (number 1 kind ++ fields) ≡ Some (x, rest)
unfolding cell_at
kind_again kind fields rest x small e = rw (number-one kind small) e

cell_again : (x : Cell) (rest : List ℕ) → FitsCell x → cell_at (cell_bytes x ++ rest) ≡ Some (x, rest)
unfolding fields_at
cell_again Deleted rest fits = kind_again 0 rest rest Deleted (omega arith) refl
cell_again (Inline v) rest fits =
    ap cell_at (append_assoc (number 1 1) (number 4 (length v) ++ v) rest)
    ∙ kind_again 1 ((number 4 (length v) ++ v) ++ rest) rest (Inline v) (omega arith) (rw (inline_format.again v rest (omega (arith, fits), fits)) refl)
cell_again (Placed p) rest fits =
    ap cell_at (append_assoc (number 1 2) (place_bytes p) rest)
    ∙ kind_again 2 (place_bytes p ++ rest) rest (Placed p) (omega arith) (rw (large_place_format.again p rest fits) refl)

cell_format : IsFormat cell_bytes cell_at FitsCell
cell_format = record { takes = cell_takes; again = cell_again }

abbrev pub FitsEntry : List ℕ × Cell → Type 0
FitsEntry e = ((length e.0 < 2 ^ 16) × IsKey e.0) × FitsCell e.1

pub entry_format : IsFormat entry_bytes entry_at FitsEntry
unfolding entry_at
entry_format = pair_format key_format cell_format

pub fits_entry : (e : List ℕ × Cell) → IsPageEntry e → FitsEntry e
fits_entry (k, Deleted) h = ((omega (arith, h.0.0), h.0.0), tt)
fits_entry (k, Inline v) h = ((omega (arith, h.0.0), h.0.0), h.0.1)
fits_entry (k, Placed p) h = ((omega (arith, h.0.0), h.0.0), ((h.1.0, (h.1.1, h.1.2)), h.0.1))

pub is_page_entry : (e : List ℕ × Cell) → FitsEntry e → IsPageEntry e
is_page_entry (k, Deleted) h = ((h.0.1, tt), tt)
is_page_entry (k, Inline v) h = ((h.0.1, h.1), tt)
is_page_entry (k, Placed p) h = ((h.0.1, h.1.1), (h.1.0.0, h.1.0.1.0, h.1.0.1.1))

pub all_as : {A : Type 0} {P Q : A → Type 0} → ((x : A) → P x → Q x) → (xs : List A) → AllByRecursion P xs → AllByRecursion Q xs
all_as h [] all = tt
all_as h (x ∷ xs) all = (h x all.0, all_as h xs all.1)

-- ---- pages

abbrev pub FitsPage : Entries → Type 0
FitsPage es = (((length es < 2 ^ 16) × ((1 ≤ length es) × (length es ≤ 65535))) × AllByRecursion FitsEntry es) × (is_ascending es ≡ true)

pub page_format : IsFormat page_bytes (only_at is_ascending counted_entries_at) FitsPage
unfolding counted_entries_at
page_format =
    only_format is_ascending (λ es. is_ascending es ≡ true) (λ es e. e) (λ es e. e)
    (counted_format (only_format (is_within 1 65535) (λ n. (1 ≤ n) × (n ≤ 65535)) (within 1 65535) (within_again 1 65535) number2) entry_format)

pub entries_again : (es : Entries) → FitsPage es → length (page_bytes es) ≤ 65536 → entries_at (page_bytes es) ≡ Some es
unfolding entries_at
entries_again es fits small =
    let is : nat_le (length (page_bytes es)) 65536 ≡ true = le-leb _ _ small in
    rw is (whole_again page_format (λ (x : Entries). x) es fits)

pub entries_take : (bytes : List ℕ) (es : Entries) → IsBytes bytes → entries_at bytes ≡ Some es → (bytes ≡ page_bytes es) × FitsPage es × (length bytes ≤ 65536)
unfolding entries_at
entries_take bytes es fits e =
    let g = if_then (nat_le (length bytes) 65536) (whole (only_at is_ascending counted_entries_at bytes)) es e in
    let t = whole_takes page_format (λ (x : Entries). x) bytes es fits g.1 in
    let spelled : (bytes ≡ page_bytes es) × FitsPage es = subst (λ (x : Entries). (bytes ≡ page_bytes x) × FitsPage x) t.3 (t.1, t.2) in
    (spelled.0, spelled.1, leb-true _ _ g.0)
  where
    if_then : (b : Bool) (r : Option Entries) (y : Entries) → (if b then r else None) ≡ Some y → (b ≡ true) × (r ≡ Some y)
    if_then true r y h = (refl, h)
    if_then false r y h = absurd cc

-- ---- the parts of an entry

pub entry_parts : (bytes : List ℕ) (e : List ℕ × Cell) (after : List ℕ) → IsBytes bytes → entry_at bytes ≡ Some (e, after) → bytes ≡ number 2 (length e.0) ++ (e.0 ++ (cell_bytes e.1 ++ after))
entry_parts bytes e after fits is =
    (entry_format.takes bytes e after fits is).0
    ∙ append_assoc (key_bytes e.0) (cell_bytes e.1) after
    ∙ append_assoc (number 2 (length e.0)) e.0 (cell_bytes e.1 ++ after)

-- where the key of an entry stands
pub key_lies : (bytes key : List ℕ) (cell : Cell) (after : List ℕ) → IsBytes bytes → entry_at bytes ≡ Some ((key, cell), after) → (2 + length key ≤ length bytes) × (take (length key) (drop 2 bytes) ≡ key)
key_lies bytes key cell after fits is =
    let parts = entry_parts bytes (key, cell) after fits is in
    let rest : List ℕ = cell_bytes cell ++ after in
    let size = length-number 2 (length key) in
    let behind : drop 2 bytes ≡ key ++ rest = ap (λ (l : List ℕ). drop 2 l) parts ∙ drop_at (number 2 (length key)) (key ++ rest) 2 size in
    (omega (arith, ap length parts, length-append (number 2 (length key)) (key ++ rest), length-append key rest, size), ap (λ (l : List ℕ). take (length key) l) behind ∙ take_at key rest (length key) refl)

-- where a value stands that is beside its key
pub value_lies : (bytes key value after : List ℕ) → IsBytes bytes → entry_at bytes ≡ Some ((key, Inline value), after)
    → (length after + length value ≤ length bytes) × (take (length value) (drop (length bytes - length after - length value) bytes) ≡ value)
value_lies bytes key value after fits is =
    let front : List ℕ = number 2 (length key) ++ (key ++ (number 1 1 ++ number 4 (length value))) in
    let parts : bytes ≡ front ++ (value ++ after) = entry_parts bytes (key, Inline value) after fits is ∙ simp append_assoc in
    let size : length bytes ≡ length front + (length value + length after) = omega (arith, ap length parts, length-append front (value ++ after), length-append value after) in
    let from : length bytes - length after - length value ≡ length front = omega (arith, size) in
    let behind : drop (length bytes - length after - length value) bytes ≡ value ++ after = ap (λ (n : ℕ). drop n bytes) from ∙ ap (λ (l : List ℕ). drop (length front) l) parts ∙ drop_at front (value ++ after) (length front) refl in
    (omega (arith, size), ap (λ (l : List ℕ). take (length value) l) behind ∙ take_at value after (length value) refl)

-- ---- what is left after a part is the end

pub number_end : (bytes : List ℕ) (x : ℕ) (rest : List ℕ) → IsBytes bytes → number_at 2 bytes ≡ Some (x, rest) → IsEndOf rest bytes
number_end bytes x rest fits is = record { front = number 2 x; parts = (number2.takes bytes x rest fits is).0 }

pub entry_end : (bytes : List ℕ) (e : List ℕ × Cell) (after : List ℕ) → IsBytes bytes → entry_at bytes ≡ Some (e, after) → IsEndOf after bytes
entry_end bytes e after fits is = record { front = entry_bytes e; parts = (entry_format.takes bytes e after fits is).0 }

-- an end of an end
pub end_of_end : (text bytes after : List ℕ) → IsEndOf bytes text → IsEndOf after bytes → IsEndOf after text
end_of_end text bytes after a b =
    record { front = a.front ++ b.front; parts = a.parts ∙ ap (λ (l : List ℕ). a.front ++ l) b.parts ∙ sym (append_assoc a.front b.front after) }

pub bytes_of_end : (text bytes : List ℕ) → IsBytes text → IsEndOf bytes text → IsBytes bytes
bytes_of_end text bytes fits a = IsBytes-after a.front bytes (subst IsBytes a.parts fits)

-- where some bytes of an end stand
pub part_of_end : (text bytes : List ℕ) (from len : ℕ) → IsEndOf bytes text → from + len ≤ length bytes
    → (length bytes ≤ length text) × (length text - length bytes + from + len ≤ length text) × (take len (drop (length text - length bytes + from) text) ≡ take len (drop from bytes))
part_of_end text bytes from len a le =
    let size : length text ≡ length a.front + length bytes = ap length a.parts ∙ length-append a.front bytes in
    let start : length text - length bytes + from ≡ length a.front + from = omega (arith, size) in
    let behind : drop (length text - length bytes + from) text ≡ drop from bytes =
    ap (λ (n : ℕ). drop n text) start ∙ ap (λ (l : List ℕ). drop (length a.front + from) l) a.parts ∙ sym (drop-drop from (length a.front) (a.front ++ bytes)) ∙ ap (λ (l : List ℕ). drop from l) (drop_at a.front bytes (length a.front) refl) in
    (omega (arith, size), omega (arith, size), ap (λ (l : List ℕ). take len l) behind)

-- ---- indexes

abbrev IsFlag : ℕ → Type 0
IsFlag n = (n < 2 ^ 8) × ((0 ≤ n) × (n ≤ 1))

flag1 : IsFormat (number 1) (only_at (is_within 0 1) (number_at 1)) IsFlag
flag1 = only_format (is_within 0 1) (λ n. (0 ≤ n) × (n ≤ 1)) (within 0 1) (within_again 0 1) number1

pub flag_format : IsFormat flag flag_at (λ b. Unit {0})
unfolding flag_at
flag_format = record {
  takes = λ bytes x rest fits e.
      let n = bind_some (only_at (is_within 0 1) (number_at 1) bytes) (λ n. Some (n.0 == 1, n.1)) (x, rest) e in
      let s = flag1.takes bytes n.0.0 n.0.1 fits n.1 in
      let made : Bool × List ℕ = (n.0.0 == 1, n.0.1) in
      subst (λ (y : Bool × List ℕ). (bytes ≡ flag y.0 ++ y.1) × Unit {0}) (some_is made (x, rest) n.2) (s.0 ∙ ap (λ (k : ℕ). number 1 k ++ n.0.1) (which n.0.0 s.1), tt);
  again = λ x rest fits. goes x rest;
}
  where
    which : (n : ℕ) → IsFlag n → n ≡ (if n == 1 then 1 else 0)
    which zero h = refl
    which (suc zero) h = refl
    which (suc (suc n)) h = absurd (omega (arith, h.1.1))

    goes : (x : Bool) (rest : List ℕ) → flag_at (flag x ++ rest) ≡ Some (x, rest)
    goes true rest = rw (flag1.again 1 rest (omega arith, (omega arith, omega arith))) refl
    goes false rest = rw (flag1.again 0 rest (omega arith, (omega arith, omega arith))) refl

abbrev pub FitsPageAt : PageAt → Type 0
FitsPageAt p = ((length p.first < 2 ^ 16) × IsKey p.first) × FitsPlace p.place

pub page_at_format : IsFormat page_at_bytes one_page_at FitsPageAt
unfolding one_page_at
page_at_format =
    made_format (λ x. record { first = x.0; place = x.1 }) (λ (p : PageAt). (p.first, p.place)) (λ a. refl) (λ b. refl) (pair_format key_format place_format)
