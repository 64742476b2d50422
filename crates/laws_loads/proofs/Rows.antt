-- The rows that are shown of a layer are its table, where each place is shown as it stands.
use Rattle.std.proofs.Common.{◌≡◌, ℕ, zero, suc, ◌+◌, ◌-◌, ◌≤◌, List, [], ◌∷◌, ◌++◌, length, take, drop, Option, Some, None, Bool, true, false, refl, sym, ap, ◌∙◌, subst, cond, arith, nat_le, is_eq, inl, inr, eqb-true}
use Rattle.std.specs.Prelude.{bytes_eq, ◌&&◌, ◌==◌, ◌⊎◌}
use Rattle.std.specs.Ordering.{ordering_reverse}
use Rattle.std.specs.declared.cmp.Ordering.TheVariants.{Less, Equal, Greater}
use Rattle.std.specs.Cmp.Lexicographic.{nat_list_cmp_total}
use Rattle.std.specs.BTreeMap.{insert_entry}
use Rattle.std.proofs.lemmas.Bool.{leb-true}
use Rattle.std.proofs.lemmas.List.Concat.{flat_map-cons}
use Rattle.std.proofs.lemmas.Map.Text.{is_eq-slice_cmp}
use Rattle.wire.specs.declared.note.Note.{Note}
use Rattle.wire.specs.declared.note.Note.TheVariants.{Acked, SealedAt, Content, Seen, Began, Done, Loaded, Got, Split, Merged}
use Rattle.wire.specs.declared.rows.Row.{Row}
use Rattle.memtable.specs.declared.cell.Cell.{Cell}
use Rattle.memtable.specs.declared.cell.Cell.TheVariants.{Deleted, Inline, Placed}
use Rattle.memtable.specs.declared.cell.Place.{Place}
use Rattle.memtable.specs.Entries.{Entries, key_cmp, found, put_all}
use Rattle.replica.specs.Groups.{joined, text}
use Rattle.model_partition.specs.Servers.{part, shown_in, first_shown, or_later, row_if, row_of, rows_in}
use Rattle.model_partition.specs.Past.{Bytes, stored}
use Rattle.model_histories.specs.TableContents.{StandsAt, value_in, value_of, table_in, TellsRightly, AllTellRightly}
use Rattle.laws_loads.proofs.Cells.{same_key}

-- ---- keys in order

abbrev pub Later : Bytes → Entries → Type 0
Later key [] = Unit {0}
Later key (e ∷ es) = (key_cmp key e.0 ≡ Less) × Later key es

-- each key is below those after it
abbrev pub Ordered : Entries → Type 0
Ordered [] = Unit {0}
Ordered (e ∷ es) = Later e.0 es × Ordered es

later_all : (a b : Bytes) (es : Entries) → key_cmp a b ≡ Less → Later b es → Later a es
later_all a b [] lt l = tt
later_all a b (e ∷ es) lt l = (nat_list_cmp_total.trans a b e.0 lt l.0, later_all a b es lt l.1)

above : (a b : Bytes) → key_cmp a b ≡ Greater → key_cmp b a ≡ Less
above a b is = nat_list_cmp_total.antisymm b a ∙ ap ordering_reverse is

later_inserted : (a key : Bytes) (cell : Cell) (es : Entries) → key_cmp a key ≡ Less → Later a es → Later a (insert_entry key_cmp es key cell)
later_inserted a key cell [] lt l = (lt, tt)
later_inserted a key cell (e ∷ es) lt l =
    elim (key_cmp key e.0) as (λ r. key_cmp key e.0 ≡ r → Later a (insert_entry key_cmp (e ∷ es) key cell)) [
      | Less ↦ λ r. rw r (lt, l)
      | Equal ↦ λ r. rw r l
      | Greater ↦ λ r. rw r (l.0, later_inserted a key cell es lt l.1)
    ] refl

ordered_inserted : (key : Bytes) (cell : Cell) (es : Entries) → Ordered es → Ordered (insert_entry key_cmp es key cell)
ordered_inserted key cell [] o = (tt, tt)
ordered_inserted key cell (e ∷ es) o =
    elim (key_cmp key e.0) as (λ r. key_cmp key e.0 ≡ r → Ordered (insert_entry key_cmp (e ∷ es) key cell)) [
      | Less ↦ λ r. rw r ((r, later_all key e.0 es r o.0), o)
      | Equal ↦ λ r. rw r o
      | Greater ↦ λ r. rw r (later_inserted e.0 key cell es (above key e.0 r) o.0, ordered_inserted key cell es o.1)
    ] refl

pub ordered_put : (es : Entries) (changes : List (Bytes × Cell)) → Ordered es → Ordered (put_all es changes)
ordered_put es [] o = o
ordered_put es (c ∷ changes) o = ordered_put (insert_entry key_cmp es c.0 c.1) changes (ordered_inserted c.0 c.1 es o)

none_later : (key : Bytes) (es : Entries) → Later key es → found es key ≡ None
none_later key [] l = refl
none_later key (e ∷ es) l = rw l.0 (none_later key es l.1)

-- ---- places

drop_more : (xs ys : Bytes) (n m : ℕ) → length xs ≡ n → drop (n + m) (xs ++ ys) ≡ drop m ys
drop_more [] ys zero m e = ap (λ k. drop k ys) {x = 0 + m} {y = m} (omega arith)
drop_more [] ys (suc n) m e = absurd (omega arith)
drop_more (x ∷ xs) ys zero m e = absurd (omega arith)
drop_more (x ∷ xs) ys (suc n) m e = ap (λ k. drop k (x ∷ (xs ++ ys))) {x = suc n + m} {y = suc (n + m)} (omega arith) ∙ drop_more xs ys n m (omega arith)

taken_within : (xs ys : Bytes) (m n : ℕ) → m + n ≤ length xs → take n (drop m (xs ++ ys)) ≡ take n (drop m xs)
taken_within xs ys zero zero l = refl
taken_within [] ys zero (suc n) l = absurd (omega arith)
taken_within (x ∷ xs) ys zero (suc n) l = ap (λ t. x ∷ t) (taken_within xs ys zero n (omega arith))
taken_within [] ys (suc m) zero l = absurd (omega arith)
taken_within [] ys (suc m) (suc n) l = absurd (omega arith)
taken_within (x ∷ xs) ys (suc m) n l = taken_within xs ys m n (omega arith)

-- bytes that cover a place have what stands there
pub covered : (whole : Bytes) (offset : ℕ) (bytes : Bytes) (place : Place) (value : Bytes) → StandsAt whole offset bytes →
    part offset bytes place ≡ Some value → value ≡ take place.length (drop place.offset whole)
covered whole offset bytes place value s is =
    by (nat_le offset place.offset) (nat_le (place.offset + place.length) (offset + length bytes)) refl refl is
  where
    here : offset ≤ place.offset → place.offset + place.length ≤ offset + length bytes →
        take place.length (drop (place.offset - offset) bytes) ≡ take place.length (drop place.offset whole)
    here low high =
        let m : ℕ = place.offset - offset in
        sym (taken_within bytes s.behind m place.length (omega (arith, low, high)))
        ∙ ap (take place.length) (sym (drop_more s.before (bytes ++ s.behind) offset m s.at))
        ∙ (λ i. take place.length (drop (count i) (sym s.is i)))
      where
        count : offset + (place.offset - offset) ≡ place.offset
        count = omega (arith, low)

    by : (a b : Bool) → nat_le offset place.offset ≡ a → nat_le (place.offset + place.length) (offset + length bytes) ≡ b →
        cond (a && b) (Some (take place.length (drop (place.offset - offset) bytes))) None ≡ Some value → value ≡ take place.length (drop place.offset whole)
    by true true low high e =
        let same : take place.length (drop (place.offset - offset) bytes) ≡ value = cc in
        sym same ∙ here (leb-true offset place.offset low) (leb-true (place.offset + place.length) (offset + length bytes) high)
    by true false low high e = absurd cc
    by false b low high e = absurd cc

module _ (texts : ℕ → Bytes) where
  by_place : (e : ℕ) (place : Place) (offset : ℕ) (bytes value : Bytes) → (b : Bool) → (e == place.extent) ≡ b → StandsAt (texts e) offset bytes →
      cond b (part offset bytes place) None ≡ Some value → value ≡ take place.length (drop place.offset (texts place.extent))
  by_place e place offset bytes value true is s shown =
      let same : e ≡ place.extent = eqb-true e place.extent is in
      covered (texts place.extent) offset bytes place value (subst (λ x. StandsAt (texts x) offset bytes) same s) shown
  by_place e place offset bytes value false is s shown = absurd cc

  -- what an observation that tells rightly shows of a place is what stands there
  pub shown_rightly : (note : Note) (place : Place) (value : Bytes) → TellsRightly texts note → shown_in note place ≡ Some value →
      value ≡ take place.length (drop place.offset (texts place.extent))
  shown_rightly (Acked e offset group) place value right is = by_place e place offset (joined group) value (e == place.extent) refl right is
  shown_rightly (Content e node groups) place value right is = by_place e place 0 (text groups) value (e == place.extent) refl right is
  shown_rightly (Seen e node offset bytes) place value right is = by_place e place offset bytes value (e == place.extent) refl right is
  shown_rightly (SealedAt e length) place value right is = absurd cc
  shown_rightly (Began range generation number changes) place value right is = absurd cc
  shown_rightly (Done range generation number) place value right is = absurd cc
  shown_rightly (Got range generation key found) place value right is = absurd cc
  shown_rightly (Loaded range generation rows next) place value right is = absurd cc
  shown_rightly (Split range low high key) place value right is = absurd cc
  shown_rightly (Merged left right range) place value told is = absurd cc

  -- some of these observations shows the place
  abbrev pub IsCovered : List Note → Place → Type 0
  IsCovered [] place = ⊥
  IsCovered (note ∷ notes) place = ((value : Bytes) × (shown_in note place ≡ Some value)) ⊎ IsCovered notes place

  -- the earliest that covers a place shows what stands there
  pub first_rightly : (notes : List Note) (place : Place) → AllTellRightly texts notes → IsCovered notes place →
      first_shown notes place ≡ value_in texts (Placed place)
  first_rightly [] place right some = absurd some
  first_rightly (note ∷ notes) place right some = by (shown_in note place) refl some (λ later. first_rightly notes place right.1 later)
    where
      by : (x : Option Bytes) → shown_in note place ≡ x → IsCovered (note ∷ notes) place →
          (IsCovered notes place → first_shown notes place ≡ value_in texts (Placed place)) → or_later x (first_shown notes place) ≡ value_in texts (Placed place)
      by (Some value) is there more = ap Some (shown_rightly note place value right.0 is)
      by None is (inl (value, shows)) more = absurd cc
      by None is (inr later) more = more later

  -- each value by place is shown as it stands
  abbrev pub AreShown : List Note → Entries → Type 0
  AreShown notes [] = Unit {0}
  AreShown notes ((key, Deleted) ∷ es) = AreShown notes es
  AreShown notes ((key, Inline value) ∷ es) = AreShown notes es
  AreShown notes ((key, Placed place) ∷ es) = (first_shown notes place ≡ value_in texts (Placed place)) × AreShown notes es

  -- ---- rows

  pub row_step : (b : Bool) (key q value : Bytes) (rows : List Row) (es : Entries) (cell : Cell) → is_eq (key_cmp q key) ≡ b →
      value_in texts cell ≡ Some value → stored rows q ≡ table_in texts es q →
      cond (bytes_eq q key) (Some value) (stored rows q) ≡ value_of texts (cond (is_eq (key_cmp q key)) (Some cell) (found es q))
  row_step true key q value rows es cell is says more =
      let test : bytes_eq q key ≡ true = sym (is_eq-slice_cmp q key) ∙ is in
      rw (test, is) (sym says)
  row_step false key q value rows es cell is says more =
      let test : bytes_eq q key ≡ false = sym (is_eq-slice_cmp q key) ∙ is in
      rw (test, is) more

  pub none_step : (b : Bool) (key q : Bytes) (rows : List Row) (es : Entries) → is_eq (key_cmp q key) ≡ b → Later key es →
      stored rows q ≡ table_in texts es q → stored rows q ≡ value_of texts (cond b (Some Deleted) (found es q))
  none_step true key q rows es is later more =
      let same : q ≡ key = same_key q key is in
      more ∙ ap (λ x. value_of texts (found es x)) same ∙ ap (value_of texts) (none_later key es later)
  none_step false key q rows es is later more = more

  -- the rows of a layer are its table
  pub rows_say : (notes : List Note) (es : Entries) → Ordered es → AreShown notes es → (q : Bytes) → stored (rows_in notes es) q ≡ table_in texts es q
  rows_say notes [] o shown q = refl
  rows_say notes ((key, Deleted) ∷ es) o shown q =
      ap (λ rows. stored rows q) (flat_map-cons (λ entry. row_of notes entry.0 entry.1) (key, Deleted) es)
      ∙ none_step (is_eq (key_cmp q key)) key q (rows_in notes es) es refl o.0 (rows_say notes es o.1 shown q)
  rows_say notes ((key, Inline value) ∷ es) o shown q =
      ap (λ rows. stored rows q) (flat_map-cons (λ entry. row_of notes entry.0 entry.1) (key, Inline value) es)
      ∙ row_step (is_eq (key_cmp q key)) key q value (rows_in notes es) es (Inline value) refl refl (rows_say notes es o.1 shown q)
  rows_say notes ((key, Placed place) ∷ es) o shown q =
      let value : Bytes = take place.length (drop place.offset (texts place.extent)) in
      ap (λ rows. stored rows q) (flat_map-cons (λ entry. row_of notes entry.0 entry.1) (key, Placed place) es)
      ∙ ap (λ x. stored (row_if key x ++ rows_in notes es) q) shown.0
      ∙ row_step (is_eq (key_cmp q key)) key q value (rows_in notes es) es (Placed place) refl refl (rows_say notes es o.1 shown.1 q)
