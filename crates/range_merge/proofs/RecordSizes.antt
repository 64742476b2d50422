-- The records of a merge have their bytes.
use Rattle.std.proofs.Common.{◌≡◌, ℕ, zero, suc, ◌+◌, ◌*◌, ◌<◌, ◌≤◌, ◌^◌, Bool, true, false, List, [], ◌∷◌, ◌++◌, length, map, get_or, Option, Some, None, refl, sym, ap, ◌∙◌, arith, length-append}
use Rattle.std.specs.Prelude.{◌&&◌, nat_lt, nat_le, IfNone}
use Rattle.std.specs.List.{list_all, flat_map, AllByRecursion}
use Rattle.std.proofs.lemmas.Bool.{and_parts, leb-true}
use Rattle.streams.specs.declared.table.Position.{Position}
use Rattle.memtable.specs.declared.cell.Place.{Place}
use Rattle.blocks.specs.Record.{number}
use Rattle.blocks.proofs.Formats.{length-number}
use Rattle.metadata.specs.declared.record.IndexRange.{IndexRange}
use Rattle.metadata.specs.declared.record.KeyRange.{KeyRange}
use Rattle.metadata.specs.declared.record.MetaItem.TheVariants.{Ranges, Regions}
use Rattle.metadata.specs.declared.record.Region.{Region}
use Rattle.metadata.specs.Record.{Fits, IsEnd, IsHigh, IsIndex, IsKeyRange, IsNext, IsPlace, IsPosition, IsRegion, counted, end, high, index, keys, place, position, region, text}
use Rattle.model_partition.specs.Splits.{is_record_end}
use Rattle.model_partition.specs.JoinedRanges.{are_few, are_record_keys, are_record_parts, is_record_index, is_record_next, is_record_place, is_record_position, is_record_region, is_record_upto}

-- ---- what the tests say

high_of : (key : Option (List ℕ)) → is_record_end key ≡ true → IsHigh key
high_of None is = tt
high_of (Some key) is =
    let p = and_parts (nat_le 1 (length key)) (nat_le (length key) 256) is in
    (leb-true _ _ p.0, leb-true _ _ p.1)

pub keys_of : (k : KeyRange) → are_record_keys k ≡ true → IsKeyRange k
keys_of k is =
    let p = and_parts (nat_le (length k.low) 256) (is_record_end k.high) is in
    (leb-true _ _ p.0, high_of k.high p.1)

place_of : (p : Place) → is_record_place p ≡ true → IsPlace p
place_of p is =
    let x = and_parts (nat_lt p.extent (2 ^ 64)) (nat_lt p.offset (2 ^ 32) && nat_lt p.length (2 ^ 32)) is in
    let y = and_parts (nat_lt p.offset (2 ^ 32)) (nat_lt p.length (2 ^ 32)) x.1 in
    (leb-true _ _ x.0, leb-true _ _ y.0, leb-true _ _ y.1)

index_of : (i : IndexRange) → is_record_index i ≡ true → IsIndex i
index_of i is =
    let p = and_parts (is_record_place i.place) (are_record_keys i.keys) is in
    (place_of i.place p.0, keys_of i.keys p.1)

position_of : (p : Position) → is_record_position p ≡ true → IsPosition p
position_of p is =
    let x = and_parts (nat_lt p.index (2 ^ 64)) (nat_lt p.offset (2 ^ 32)) is in
    (leb-true _ _ x.0, leb-true _ _ x.1)

end_of : (upto : Option ℕ) → is_record_upto upto ≡ true → IsEnd upto
end_of None is = tt
end_of (Some upto) is = leb-true _ _ is

next_of : (next : ℕ) → is_record_next next ≡ true → IsNext next
next_of next is =
    let x = and_parts (nat_le 1 next) (nat_lt next (2 ^ 64)) is in
    (leb-true _ _ x.0, leb-true _ _ x.1)

region_of : (x : Region) → is_record_region x ≡ true → IsRegion x
region_of x is =
    let a = and_parts (is_record_position x.start) (is_record_upto x.end && (is_record_next x.next && are_record_keys x.keys)) is in
    let b = and_parts (is_record_upto x.end) (is_record_next x.next && are_record_keys x.keys) a.1 in
    let c = and_parts (is_record_next x.next) (are_record_keys x.keys) b.1 in
    (position_of x.start a.0, end_of x.end b.0, next_of x.next c.0, keys_of x.keys c.1)

all_of : {A : Type 0} (test : A → Bool) (P : A → Type 0) → ((x : A) → test x ≡ true → P x) → (xs : List A) → list_all test xs ≡ true → AllByRecursion P xs
all_of test P each [] is = tt
all_of test P each (x ∷ xs) is =
    let p = and_parts (test x) (list_all test xs) is in
    (each x p.0, all_of test P each xs p.1)

-- ---- sizes

text_size : (key : List ℕ) → length (text key) ≡ 2 + length key
text_size key = omega (arith, length-append (number 2 (length key)) key, length-number 2 (length key))

high_size : (key : Option (List ℕ)) → IsHigh key → length (high key) ≤ 259
high_size None fits = omega (arith, length-append (number 1 0) (number 2 0), length-number 1 0, length-number 2 0)
high_size (Some key) fits = omega (arith, fits.1, length-append (number 1 1) (text key), length-number 1 1, text_size key)

keys_size : (k : KeyRange) → IsKeyRange k → length (keys k) ≤ 517
keys_size k fits = omega (arith, fits.0, length-append (text k.low) (high k.high), text_size k.low, high_size k.high fits.1)

place_size : (p : Place) → length (place p) ≡ 16
place_size p = omega (arith, length-append (number 8 p.extent) (number 4 p.offset ++ number 4 p.length), length-append (number 4 p.offset) (number 4 p.length), length-number 8 p.extent, length-number 4 p.offset, length-number 4 p.length)

index_size : (i : IndexRange) → IsIndex i → length (index i) ≤ 533
index_size i fits = omega (arith, length-append (place i.place) (keys i.keys), place_size i.place, keys_size i.keys fits.1)

position_size : (p : Position) → length (position p) ≡ 12
position_size p = omega (arith, length-append (number 8 p.index) (number 4 p.offset), length-number 8 p.index, length-number 4 p.offset)

end_size : (upto : Option ℕ) → length (end upto) ≡ 9
end_size None = omega (arith, length-append (number 1 0) (number 8 0), length-number 1 0, length-number 8 0)
end_size (Some upto) = omega (arith, length-append (number 1 1) (number 8 upto), length-number 1 1, length-number 8 upto)

region_size : (x : Region) → IsRegion x → length (region x) ≤ 546
region_size x fits =
    omega (
      arith,
      length-append (position x.start) (end x.end ++ (number 8 x.next ++ keys x.keys)),
      length-append (end x.end) (number 8 x.next ++ keys x.keys),
      length-append (number 8 x.next) (keys x.keys),
      position_size x.start,
      end_size x.end,
      length-number 8 x.next,
      keys_size x.keys fits.3,
    )

indexes_size : (is : List IndexRange) → AllByRecursion IsIndex is → length (flat_map index is) ≤ 533 * length is
indexes_size [] fits = omega arith
indexes_size (i ∷ is) fits = omega (arith, length-append (index i) (flat_map index is), index_size i fits.0, indexes_size is fits.1)

regions_size : (xs : List Region) → AllByRecursion IsRegion xs → length (flat_map region xs) ≤ 546 * length xs
regions_size [] fits = omega arith
regions_size (x ∷ xs) fits = omega (arith, length-append (region x) (flat_map region xs), region_size x fits.0, regions_size xs fits.1)

-- ---- the records

-- that of the keys
pub keys_fit : (k : KeyRange) → IsKeyRange k → Fits (record { number = 1; item = Ranges k })
keys_fit k fits = (
  (omega arith, omega arith),
  fits,
  omega (
    arith,
    length-append (number 8 1) (number 1 1 ++ keys k),
    length-number 8 1,
    length-append (number 1 1) (keys k),
    length-number 1 1,
    keys_size k fits,
  ),
)

-- that of the indexes and regions
pub regions_fit : (is : List IndexRange) (xs : List Region) → are_record_parts is xs ≡ true → Fits (record { number = 2; item = Regions is xs })
regions_fit is xs may =
    let a = and_parts (are_few is xs) (list_all is_record_index is && list_all is_record_region xs) may in
    let few = and_parts (nat_le (length is) 80) (nat_le (length xs) 32) a.0 in
    let is_few : length is ≤ 80 = leb-true _ _ few.0 in
    let xs_few : length xs ≤ 32 = leb-true _ _ few.1 in
    let b = and_parts (list_all is_record_index is) (list_all is_record_region xs) a.1 in
    let is_fit : AllByRecursion IsIndex is = all_of is_record_index IsIndex index_of is b.0 in
    let xs_fit : AllByRecursion IsRegion xs = all_of is_record_region IsRegion region_of xs b.1 in (
      (omega arith, omega arith),
      (omega (arith, is_few), is_fit, omega (arith, xs_few), xs_fit),
      omega (
        arith,
        is_few,
        xs_few,
        length-append (number 8 2) (number 1 3 ++ (counted index is ++ counted region xs)),
        length-number 8 2,
        length-append (number 1 3) (counted index is ++ counted region xs),
        length-number 1 3,
        length-append (counted index is) (counted region xs),
        length-append (number 1 (length is)) (flat_map index is),
        length-number 1 (length is),
        indexes_size is is_fit,
        length-append (number 1 (length xs)) (flat_map region xs),
        length-number 1 (length xs),
        regions_size xs xs_fit,
      ),
    )

-- ---- one that has no bytes

no_and : (a b : Bool) → b ≡ false → (a && b) ≡ false
no_and true b is = is
no_and false b is = refl

no_first : (a b : Bool) → a ≡ false → (a && b) ≡ false
no_first a b is = ap (λ (x : Bool). x && b) is

-- where what is made of one has none, not all have
pub one_has_none : {A B : Type 0} (test : B → Bool) (f : A → B) (xs : List A) (i : ℕ) (x : A) → i < length xs → x ≡ get_or xs i x → test (f x) ≡ false → list_all test (map f xs) ≡ false
one_has_none test f [] i x lt is none = absurd (omega (arith, lt))
one_has_none test f (y ∷ ys) zero x lt is none = no_first (test (f y)) (list_all test (map f ys)) (ap (λ z. test (f z)) (sym is) ∙ none)
one_has_none test f (y ∷ ys) (suc i) x lt is none = no_and (test (f y)) (list_all test (map f ys)) (one_has_none test f ys i x (omega (arith, lt)) is none)

none_in : (b c d : Bool) → (b && c) ≡ false → (c ≡ false → d ≡ false) → (b && d) ≡ false
none_in true c d none then = then none
none_in false c d none then = refl

-- where some of the parts have none, not all have
pub none_before : {A : Type 0} (test : A → Bool) (xs ys : List A) → list_all test xs ≡ false → list_all test (xs ++ ys) ≡ false
none_before test [] ys none = absurd cc
none_before test (x ∷ xs) ys none = none_in (test x) (list_all test xs) (list_all test (xs ++ ys)) none (λ rest. none_before test xs ys rest)

pub none_behind : {A : Type 0} (test : A → Bool) (xs ys : List A) → list_all test ys ≡ false → list_all test (xs ++ ys) ≡ false
none_behind test [] ys none = none
none_behind test (x ∷ xs) ys none = no_and (test x) (list_all test (xs ++ ys)) (none_behind test xs ys none)

-- what holds where nothing is made
pub if_none : {A : Type 0} {X : Type 0} (o : Option A) → o ≡ None → IfNone o X → X
if_none None is x = x
if_none (Some a) is x = absurd cc
