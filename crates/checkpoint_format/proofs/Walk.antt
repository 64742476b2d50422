-- A walk through a page reads what its definition says, entry by entry.
use Rattle.std.proofs.Common.{◌≡◌, ℕ, zero, suc, ◌-◌, ◌+◌, ◌<◌, ◌≤◌, Bool, true, false, subst, List, [], ◌∷◌, ◌++◌, length, Option, Some, None, refl, sym, ap, ◌∙◌, append_assoc, arith}
use Rattle.std.specs.Prelude.{◌&&◌, nat_le, is_some, ◌==◌, if◌then◌else◌}
use Rattle.std.specs.Ordering.{is_lt}
use Rattle.std.proofs.lemmas.List.{append-nil}
use Rattle.block_types.specs.Limits.{is_within}
use Rattle.block_types.specs.declared.fault.BlockFault.{BlockFault}
use Rattle.block_types.specs.declared.fault.BlockFault.TheVariants as faults
use Rattle.blocks.specs.Format.{◌>>=◌, number_at, only_at, many_at, whole, Fails}
use Rattle.blocks.proofs.Formats.{IsBytes, IsBytes-after, bind_some, some_is, number2, only_format, within, within_again}
use Rattle.blocks.specs.Record.{number}
use Rattle.memtable.specs.declared.cell.Cell.{Cell}
use Rattle.memtable.specs.Entries.{Entries, key_cmp, found}
use Rattle.memtable.specs.Layers.{or_else}
use Rattle.std.specs.BTreeMap.{is_at}
use Rattle.checkpoint_format.specs.Page.{entry_at, counted_entries_at, entries_at, is_ascending}
use Rattle.checkpoint_format.specs.Walk.{count_at, entry_above, entries_above}
use Rattle.checkpoint_format.proofs.Texts.{entry_format}

abbrev Entry : Type 0
Entry = List ℕ × Cell

abbrev Read : Type 0
Read = Entries × List ℕ

-- each key is above the one before it, and the first above another
abbrev ascends_from : List ℕ → Entries → Bool
ascends_from last [] = true
ascends_from last (e ∷ entries) = is_lt (key_cmp last e.0) && ascends_from e.0 entries

ascends : (e : Entry) (entries : Entries) → is_ascending (e ∷ entries) ≡ ascends_from e.0 entries
ascends e [] = refl
ascends e (f ∷ entries) = ap (λ (b : Bool). is_lt (key_cmp e.0 f.0) && b) (ascends f entries)

-- ---- all entries at once, and one by one

abbrev joined_to : Entry → Option Read → Option Read
joined_to e read = read >>= λ x. Some (e ∷ x.0, x.1)

abbrev tested : (Entries → Bool) → Option Read → Option Read
tested test read = read >>= λ x. if test x.0 then Some x else None

tested_joined : (last : List ℕ) (e : Entry) (read : Option Read) → is_lt (key_cmp last e.0) ≡ true → joined_to e (tested (ascends_from e.0) read) ≡ tested (ascends_from last) (joined_to e read)
tested_joined last e None lt = refl
tested_joined last e (Some x) lt =
    elim (ascends_from e.0 x.0) as (λ b. ascends_from e.0 x.0 ≡ b → joined_to e (tested (ascends_from e.0) (Some x)) ≡ tested (ascends_from last) (joined_to e (Some x))) [
      | true ↦ λ is. rw (is, lt) refl
      | false ↦ λ is. rw (is, lt) refl
    ] refl

tested_below : (last : List ℕ) (e : Entry) (read : Option Read) → is_lt (key_cmp last e.0) ≡ false → None ≡ tested (ascends_from last) (joined_to e read)
tested_below last e None lt = refl
tested_below last e (Some x) lt = rw lt refl

opened : (last bytes : List ℕ) (e : Option (Entry × List ℕ)) → entry_at bytes ≡ e → entry_above last bytes ≡ (e >>= λ x. if is_lt (key_cmp last x.0.0) then Some x else None)
unfolding entry_above
opened last bytes e is = rw is refl

abbrev AgreesAt : ℕ → List ℕ → List ℕ → Type 0
AgreesAt n last bytes = entries_above n last bytes ≡ tested (ascends_from last) (many_at entry_at n bytes)

one_more : (n : ℕ) (last bytes : List ℕ) → ((key rest : List ℕ) → AgreesAt n key rest) → (e : Option (Entry × List ℕ)) → entry_at bytes ≡ e → AgreesAt (suc n) last bytes
one_more n last bytes others None is = rw (opened last bytes None is, is) refl
one_more n last bytes others (Some x) is =
    elim (is_lt (key_cmp last x.0.0)) as (λ b. is_lt (key_cmp last x.0.0) ≡ b → entries_above (suc n) last bytes ≡ tested (ascends_from last) (many_at entry_at (suc n) bytes)) [
      | true ↦ λ lt. rw (opened last bytes (Some x) is, is, lt, others x.0.0 x.1) (tested_joined last x.0 (many_at entry_at n x.1) lt)
      | false ↦ λ lt. rw (opened last bytes (Some x) is, is, lt) (tested_below last x.0 (many_at entry_at n x.1) lt)
    ] refl

one_by_one : (n : ℕ) (last bytes : List ℕ) → AgreesAt n last bytes
one_by_one zero last bytes = refl
one_by_one (suc n) last bytes = one_more n last bytes (λ key rest. one_by_one n key rest) (entry_at bytes) refl

-- a key has at least one byte
above_none : (key : List ℕ) → 1 ≤ length key → is_lt (key_cmp [] key) ≡ true
above_none [] some = absurd (omega arith)
above_none (b ∷ key) some = refl

from_none : (n : ℕ) (bytes : List ℕ) (x : Read) → IsBytes bytes → many_at entry_at n bytes ≡ Some x → is_ascending x.0 ≡ ascends_from [] x.0
from_none zero bytes x fits e = let is = some_is ([], bytes) x e in ap (λ (y : Read). is_ascending y.0) (sym is) ∙ ap (λ (y : Read). ascends_from [] y.0) is
from_none (suc n) bytes x fits e =
    let a = bind_some (entry_at bytes) (λ a. many_at entry_at n a.1 >>= λ others. Some (a.0 ∷ others.0, others.1)) x e in
    let b = bind_some (many_at entry_at n a.0.1) (λ others. Some (a.0.0 ∷ others.0, others.1)) x a.2 in
    let s = entry_format.takes bytes a.0.0 a.0.1 fits a.1 in
    let made : Read = (a.0.0 ∷ b.0.0, b.0.1) in
    let is = some_is made x b.2 in
    let here : is_ascending made.0 ≡ ascends_from [] made.0 = rw (ascends a.0.0 b.0.0, above_none a.0.0.0 s.1.0.1.0) refl in
    ap (λ (y : Read). is_ascending y.0) (sym is) ∙ here ∙ ap (λ (y : Read). ascends_from [] y.0) is

abbrev pub walk : ℕ → List ℕ → List ℕ → Option Entries
walk n last bytes = whole (entries_above n last bytes)

counted_walk : (n : ℕ) (bytes : List ℕ) → IsBytes bytes → whole (tested is_ascending (many_at entry_at n bytes)) ≡ walk n [] bytes
counted_walk n bytes fits =
    elim (many_at entry_at n bytes) as (λ r. many_at entry_at n bytes ≡ r → whole (tested is_ascending (many_at entry_at n bytes)) ≡ walk n [] bytes) [
      | Some x ↦ λ is. rw (one_by_one n [] bytes, is, from_none n bytes x fits is) refl
      | None ↦ λ is. rw (one_by_one n [] bytes, is) refl
    ] refl

-- what a page has is what a walk through it finds
pub entries_are : (bytes : List ℕ) → IsBytes bytes → entries_at bytes ≡ (count_at bytes >>= λ n. walk n.0 [] n.1)
unfolding entries_at counted_entries_at count_at
entries_are bytes fits =
    elim (nat_le (length bytes) 65536) as (λ b. nat_le (length bytes) 65536 ≡ b → entries_at bytes ≡ (count_at bytes >>= λ n. walk n.0 [] n.1)) [
      | true ↦ λ small. rw small (by_count (only_at (is_within 1 65535) (number_at 2) bytes) refl)
      | false ↦ λ small. rw small refl
    ] refl
  where
    by_count : (r : Option (ℕ × List ℕ)) → only_at (is_within 1 65535) (number_at 2) bytes ≡ r → whole (tested is_ascending (r >>= λ n. many_at entry_at n.0 n.1)) ≡ (r >>= λ n. walk n.0 [] n.1)
    by_count None is = refl
    by_count (Some n) is =
        let N = only_format (is_within 1 65535) (λ n. (1 ≤ n) × (n ≤ 65535)) (within 1 65535) (within_again 1 65535) number2 in
        let s = N.takes bytes n.0 n.1 fits is in
        counted_walk n.0 n.1 (IsBytes-after (number 2 n.0) n.1 (subst IsBytes s.0 fits))

-- ---- one step of a walk

walk_more : (n : ℕ) (last bytes : List ℕ) (e : Entry) (after : List ℕ) → entry_above last bytes ≡ Some (e, after) → walk (suc n) last bytes ≡ (walk n e.0 after >>= λ es. Some (e ∷ es))
walk_more n last bytes e after is = rw is (moved (entries_above n e.0 after))
  where
    moved : (read : Option Read) → whole (joined_to e read) ≡ (whole read >>= λ es. Some (e ∷ es))
    moved None = refl
    moved (Some x) =
        elim (length x.1 == 0) as (λ b. length x.1 == 0 ≡ b → whole (joined_to e (Some x)) ≡ (whole (Some x) >>= λ es. Some (e ∷ es))) [
          | true ↦ λ is. rw is refl
          | false ↦ λ is. rw is refl
        ] refl

walk_none : (n : ℕ) (last bytes : List ℕ) → entry_above last bytes ≡ None → walk (suc n) last bytes ≡ None
walk_none n last bytes is = rw is refl

one_less : (count i : ℕ) → i < count → count - i ≡ suc (count - (i + 1))
one_less count i lt = omega arith

none_left : (count i : ℕ) → count ≤ i → count - i ≡ 0
none_left count i le = omega arith

-- a loop that makes something of the entries: it has made a part of it, and what is left is still to be walked through
module _ {X : Type 0} (count i : ℕ) (last bytes : List ℕ) where
  pub walk_goes_on : (f g : Option Entries → X) (total : X) (e : Entry) (after : List ℕ) → i < count → entry_above last bytes ≡ Some (e, after)
      → ((read : Option Entries) → f (read >>= λ es. Some (e ∷ es)) ≡ g read) → f (walk (count - i) last bytes) ≡ total → g (walk (count - (i + 1)) e.0 after) ≡ total
  walk_goes_on f g total e after lt is same so_far =
      sym (same (walk (count - (i + 1)) e.0 after)) ∙ sym (ap f (ap (λ (k : ℕ). walk k last bytes) (one_less count i lt) ∙ walk_more (count - (i + 1)) last bytes e after is)) ∙ so_far

  pub walk_stops : (f : Option Entries → X) (total : X) → i < count → entry_above last bytes ≡ None → f (walk (count - i) last bytes) ≡ total → f None ≡ total
  walk_stops f total lt is so_far =
      sym (ap f (ap (λ (k : ℕ). walk k last bytes) (one_less count i lt) ∙ walk_none (count - (i + 1)) last bytes is)) ∙ so_far

  pub walk_ends : (f : Option Entries → X) (total : X) → count ≤ i → f (walk (count - i) last bytes) ≡ total → f (whole (Some ([], bytes))) ≡ total
  walk_ends f total le so_far = sym (ap f (ap (λ (k : ℕ). walk k last bytes) (none_left count i le))) ∙ so_far

-- ---- loops over the entries of a page

pub damaged : {Y : Type 0} (e : BlockFault) (read : Option Y) → e ≡ faults.Damaged → Fails e read → read ≡ None
damaged e read is fails = subst (λ (f : BlockFault). Fails f read) is fails

pub begins : (bytes : List ℕ) (count : ℕ) (rest : List ℕ) → IsBytes bytes → count_at bytes ≡ Some (count, rest) → walk (count - 0) [] rest ≡ entries_at bytes
begins bytes count rest fits is =
    let all : count - 0 ≡ count = omega arith in
    ap (λ (k : ℕ). walk k [] rest) all ∙ sym (entries_are bytes fits ∙ rw is refl)

pub never_begins : (bytes : List ℕ) → IsBytes bytes → count_at bytes ≡ None → entries_at bytes ≡ None
never_begins bytes fits is = entries_are bytes fits ∙ rw is refl

-- whether there are entries
abbrev pub has_entries : Option Entries → Bool
has_entries read = is_some read

pub has_more : (e : Entry) (read : Option Entries) → has_entries (read >>= λ es. Some (e ∷ es)) ≡ has_entries read
has_more e None = refl
has_more e (Some es) = refl

pub has_no_more : (rest : List ℕ) → has_entries (whole (Some ([], rest))) ≡ (length rest == 0)
has_no_more rest =
    elim (length rest == 0) as (λ b. length rest == 0 ≡ b → has_entries (whole (Some ([], rest))) ≡ (length rest == 0)) [
      | true ↦ λ is. rw is refl
      | false ↦ λ is. rw is refl
    ] refl

-- the entries after some
abbrev pub with_before : Entries → Option Entries → Option Entries
with_before before read = read >>= λ es. Some (before ++ es)

pub before_none : (read : Option Entries) → with_before [] read ≡ read
before_none None = refl
before_none (Some es) = refl

pub before_more : (before : Entries) (e : Entry) (read : Option Entries) → with_before before (read >>= λ es. Some (e ∷ es)) ≡ with_before (before ++ e ∷ []) read
before_more before e None = refl
before_more before e (Some es) = ap (λ (l : Entries). Some l) (simp append_assoc)

pub before_no_more : (before : Entries) (rest : List ℕ) → whole (Some (before, rest)) ≡ with_before before (whole (Some ([], rest)))
before_no_more before rest =
    elim (length rest == 0) as (λ b. length rest == 0 ≡ b → whole (Some (before, rest)) ≡ with_before before (whole (Some ([], rest)))) [
      | true ↦ λ is. rw is (ap (λ (l : Entries). Some l) (sym (append-nil before)))
      | false ↦ λ is. rw is refl
    ] refl

-- the cell that was found, or else what is found
abbrev pub with_found : Option Cell → List ℕ → Option Entries → Option (Option Cell)
with_found cell key read = read >>= λ es. Some (or_else cell (found es key))

found_in_more : (cell : Option Cell) (key : List ℕ) (e : Entry) (es : Entries) → or_else cell (found (e ∷ es) key) ≡ or_else (or_else cell (found (e ∷ []) key)) (found es key)
found_in_more (Some c) key e es = refl
found_in_more None key e es =
    elim (is_at (key_cmp key) e.0) as (λ b. is_at (key_cmp key) e.0 ≡ b → found (e ∷ es) key ≡ or_else (found (e ∷ []) key) (found es key)) [
      | true ↦ λ is. rw is refl
      | false ↦ λ is. rw is refl
    ] refl

pub found_more : (cell : Option Cell) (key : List ℕ) (e : Entry) (read : Option Entries) → with_found cell key (read >>= λ es. Some (e ∷ es)) ≡ with_found (or_else cell (found (e ∷ []) key)) key read
found_more cell key e None = refl
found_more cell key e (Some es) = ap (λ (c : Option Cell). Some c) (found_in_more cell key e es)

or_nothing : (cell : Option Cell) → cell ≡ or_else cell None
or_nothing None = refl
or_nothing (Some c) = refl

pub found_no_more : (cell : Option Cell) (key rest : List ℕ) → whole (Some (cell, rest)) ≡ with_found cell key (whole (Some ([], rest)))
found_no_more cell key rest =
    elim (length rest == 0) as (λ b. length rest == 0 ≡ b → whole (Some (cell, rest)) ≡ with_found cell key (whole (Some ([], rest)))) [
      | true ↦ λ is. rw is (ap (λ (c : Option Cell). Some c) (or_nothing cell))
      | false ↦ λ is. rw is refl
    ] refl
