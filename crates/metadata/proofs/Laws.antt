-- What is read is spelled so, and what is spelled so is read.
use Rattle.std.proofs.Common.{◌≡◌, ℕ, zero, suc, ◌+◌, ◌^◌, ◌<◌, ◌≤◌, Bool, true, false, List, [], ◌∷◌, ◌++◌, length, Option, Some, None, Result, Ok, Err, refl, sym, ap, subst, ◌∙◌, append_assoc, arith}
use Rattle.std.specs.List.{AllByRecursion}
use Rattle.std.specs.Prelude.{nat_le, ◌==◌, IfOk, MatchResult, if◌then◌else◌}
use Rattle.std.proofs.lemmas.Bool.{leb-true, le-leb}
use Rattle.memtable.specs.declared.cell.Place.{Place}
use Rattle.streams.specs.declared.table.Position.{Position}
use Rattle.block_types.specs.declared.fault.BlockFault.{BlockFault}
use Rattle.block_types.specs.declared.fault.BlockFault.TheVariants as faults
use Rattle.blocks.specs.Format.{Gives, ◌>>=◌, number_at, bytes_at, pair_at, only_at, many_at, whole}
use Rattle.blocks.specs.Record.{number}
use Rattle.block_types.specs.Limits.{is_within}
use Rattle.blocks.proofs.Formats.{IsBytes, IsBytes-after, bind_some, some_is, IsFormat, number1, number2, number4, number8, within, within_again, bytes_takes, bytes_again, pair_format, only_format, counted_format, whole_takes, whole_again}
use Rattle.metadata.specs.declared.record.KeyRange.{KeyRange}
use Rattle.metadata.specs.declared.record.IndexRange.{IndexRange}
use Rattle.metadata.specs.declared.record.Region.{Region}
use Rattle.metadata.specs.declared.record.MetaItem.{MetaItem}
use Rattle.metadata.specs.declared.record.MetaItem.TheVariants.{Ranges, Checkpoint, Regions, SplitStatus}
use Rattle.metadata.specs.declared.record.MetaRecord.{MetaRecord}
use Rattle.metadata.specs.Record.{text, optional, high, keys, place, position, flag, index, end, region, counted, item, spelling, IfThere, IsKey, IsHigh, IsKeyRange, IsPlace, IsPosition, IsIndex, IsEnd, IsNext, IsRegion, IsItem, Fits}
use Rattle.metadata.specs.Reading.{text_at, high_behind, high_at, keys_at, place_at, position_at, flag_at, next_at, index_at, end_behind, end_at, region_at, counted_at, ranges_at, checkpoint_at, regions_at, status_at, item_at, record_at}

-- the same value by another name
made_format : {A B : Type 0} {f : A → List ℕ} {F : List ℕ → Option (A × List ℕ)} {P : A → Type 0} (to : A → B) (from : B → A)
    → ((a : A) → from (to a) ≡ a) → ((b : B) → to (from b) ≡ b) → IsFormat f F P → IsFormat (λ b. f (from b)) (λ bytes. F bytes >>= λ a. Some (to a.0, a.1)) (λ b. P (from b))
made_format {A = A} {B = B} {f = f} {F = F} {P = P} to from back again format = record {
  takes = λ bytes x rest fits e.
      let a = bind_some (F bytes) (λ a. Some (to a.0, a.1)) (x, rest) e in
      let s = format.takes bytes a.0.0 a.0.1 fits a.1 in
      let made : B × List ℕ = (to a.0.0, a.0.1) in
      subst (λ (y : B × List ℕ). (bytes ≡ f (from y.0) ++ y.1) × P (from y.0)) (some_is made (x, rest) a.2)
      (subst (λ (z : A). (bytes ≡ f z ++ a.0.1) × P z) (sym (back a.0.0)) s);
  again = λ x rest fits. rw (format.again (from x) rest fits) (ap (λ (b : B). Some (b, rest)) (again x));
}

text_format : (low : ℕ) → IsFormat text (text_at low) (λ k. (low ≤ length k) × (length k ≤ 256))
unfolding text_at
text_format low =
    let N = only_format (is_within low 256) (λ n. (low ≤ n) × (n ≤ 256)) (within low 256) (within_again low 256) number2 in
    record {
      takes = λ bytes x rest fits e.
          let n = bind_some (only_at (is_within low 256) (number_at 2) bytes) (λ n. bytes_at n.0 n.1) (x, rest) e in
          let sn = N.takes bytes n.0.0 n.0.1 fits n.1 in
          let sb = bytes_takes n.0.0 n.0.1 x rest n.2 in
          let parts : bytes ≡ number 2 n.0.0 ++ (x ++ rest) = sn.0 ∙ ap (λ (l : List ℕ). number 2 n.0.0 ++ l) sb.0 in (
            subst (λ (k : ℕ). bytes ≡ number 2 k ++ (x ++ rest)) (sym sb.1) parts ∙ sym (append_assoc (number 2 (length x)) x rest),
            subst (λ (k : ℕ). (low ≤ k) × (k ≤ 256)) (sym sb.1) sn.1.1,
          );
      again = λ x rest fits.
          let lt : length x < 2 ^ 16 = omega (arith, fits.1) in
          ap (text_at low) (append_assoc (number 2 (length x)) x rest) ∙ rw (N.again (length x) (x ++ rest) (lt, fits)) (bytes_again x rest);
    }

-- a flag, and what stands after it
module _ {A : Type 0} (behind : ℕ → List ℕ → Option (Option A × List ℕ)) (nothing : List ℕ) (f : A → List ℕ) (P : A → Type 0) where
  optional_format : ((bytes : List ℕ) (x : Option A) (rest : List ℕ) → IsBytes bytes → behind 0 bytes ≡ Some (x, rest) → (x ≡ None) × (bytes ≡ nothing ++ rest))
      → ((bytes : List ℕ) (x : Option A) (rest : List ℕ) → IsBytes bytes → behind 1 bytes ≡ Some (x, rest) → (a : A) × (x ≡ Some a) × (bytes ≡ f a ++ rest) × P a)
      → ((flag : ℕ) (bytes : List ℕ) → behind (suc (suc flag)) bytes ≡ None)
      → ((rest : List ℕ) → behind 0 (nothing ++ rest) ≡ Some (None, rest))
      → ((x : A) (rest : List ℕ) → P x → behind 1 (f x ++ rest) ≡ Some (Some x, rest))
      → IsFormat (optional nothing f) (λ bytes. number_at 1 bytes >>= λ flag. behind flag.0 flag.1) (IfThere P)
  optional_format zero_takes one_takes others zero_again one_again = record {
    takes = λ bytes x rest fits e.
        let n = bind_some (number_at 1 bytes) (λ flag. behind flag.0 flag.1) (x, rest) e in
        let s = number1.takes bytes n.0.0 n.0.1 fits n.1 in
        let b = by_flag n.0.0 n.0.1 x rest (IsBytes-after (number 1 n.0.0) n.0.1 (subst IsBytes s.0 fits)) n.2 in
        (s.0 ∙ b.0, b.1);
    again = λ x rest fits. goes x rest fits;
  }
    where
      by_flag : (flag : ℕ) (bytes : List ℕ) (x : Option A) (rest : List ℕ) → IsBytes bytes → behind flag bytes ≡ Some (x, rest) → (number 1 flag ++ bytes ≡ optional nothing f x ++ rest) × IfThere P x
      by_flag zero bytes x rest fits e =
          let t = zero_takes bytes x rest fits e in
          subst (λ (y : Option A). (number 1 0 ++ bytes ≡ optional nothing f y ++ rest) × IfThere P y) (sym t.0)
          (ap (λ (l : List ℕ). number 1 0 ++ l) t.1 ∙ sym (append_assoc (number 1 0) nothing rest), tt)
      by_flag (suc zero) bytes x rest fits e =
          let t = one_takes bytes x rest fits e in
          subst (λ (y : Option A). (number 1 1 ++ bytes ≡ optional nothing f y ++ rest) × IfThere P y) (sym t.1)
          (ap (λ (l : List ℕ). number 1 1 ++ l) t.2 ∙ sym (append_assoc (number 1 1) (f t.0) rest), t.3)
      by_flag (suc (suc k)) bytes x rest fits e = absurd (cc (others k bytes, e))

      goes : (x : Option A) (rest : List ℕ) → IfThere P x → (number_at 1 (optional nothing f x ++ rest) >>= λ flag. behind flag.0 flag.1) ≡ Some (x, rest)
      goes None rest fits =
          let small : 0 < 2 ^ 8 = omega arith in
          ap (λ (l : List ℕ). number_at 1 l >>= λ flag. behind flag.0 flag.1) (append_assoc (number 1 0) nothing rest)
          ∙ rw (number1.again 0 (nothing ++ rest) small) (zero_again rest)
      goes (Some x) rest fits =
          let small : 1 < 2 ^ 8 = omega arith in
          ap (λ (l : List ℕ). number_at 1 l >>= λ flag. behind flag.0 flag.1) (append_assoc (number 1 1) (f x) rest)
          ∙ rw (number1.again 1 (f x ++ rest) small) (one_again x rest fits)

zero_only : (n : ℕ) → (0 ≤ n) × (n ≤ 0) → n ≡ 0
zero_only n h = omega (arith, h.1)

zero2 : IsFormat (number 2) (only_at (is_within 0 0) (number_at 2)) (λ n. (n < 2 ^ 16) × ((0 ≤ n) × (n ≤ 0)))
zero2 = only_format (is_within 0 0) (λ n. (0 ≤ n) × (n ≤ 0)) (within 0 0) (within_again 0 0) number2

zero8 : IsFormat (number 8) (only_at (is_within 0 0) (number_at 8)) (λ n. (n < 2 ^ 64) × ((0 ≤ n) × (n ≤ 0)))
zero8 = only_format (is_within 0 0) (λ n. (0 ≤ n) × (n ≤ 0)) (within 0 0) (within_again 0 0) number8

abbrev TextAndRest : Type 0
TextAndRest = Option (List ℕ) × List ℕ

abbrev NumberAndRest : Type 0
NumberAndRest = Option ℕ × List ℕ

high_format : IsFormat high high_at IsHigh
unfolding high_at high_behind
high_format =
    optional_format high_behind (number 2 0) text IsKey
    (λ bytes x rest fits e.
    let n = bind_some (only_at (is_within 0 0) (number_at 2) bytes) (λ n. Some (None, n.1)) (x, rest) e in
    let s = zero2.takes bytes n.0.0 n.0.1 fits n.1 in
    let made : TextAndRest = (None, n.0.1) in
    let is : made ≡ (x, rest) = some_is made (x, rest) n.2 in
    let at : n.0.0 ≡ 0 = zero_only n.0.0 s.1.1 in (
      sym (ap (λ (p : TextAndRest). p.0) is),
      s.0 ∙ ap (λ (k : ℕ). number 2 k ++ n.0.1) at ∙ ap (λ (l : List ℕ). number 2 0 ++ l) (ap (λ (p : TextAndRest). p.1) is),
    ))
    (λ bytes x rest fits e.
    let k = bind_some (text_at 1 bytes) (λ k. Some (Some k.0, k.1)) (x, rest) e in
    let s = (text_format 1).takes bytes k.0.0 k.0.1 fits k.1 in
    let made : TextAndRest = (Some k.0.0, k.0.1) in
    let is : made ≡ (x, rest) = some_is made (x, rest) k.2 in
    (k.0.0, sym (ap (λ (p : TextAndRest). p.0) is), s.0 ∙ ap (λ (l : List ℕ). text k.0.0 ++ l) (ap (λ (p : TextAndRest). p.1) is), s.1))
    (λ flag bytes. refl)
    (λ rest. rw (zero2.again 0 rest (omega arith, (omega arith, omega arith))) refl)
    (λ x rest fits. rw ((text_format 1).again x rest fits) refl)

end_format : IsFormat end end_at IsEnd
unfolding end_at end_behind
end_format =
    optional_format end_behind (number 8 0) (number 8) (λ upto. upto < 2 ^ 64)
    (λ bytes x rest fits e.
    let n = bind_some (only_at (is_within 0 0) (number_at 8) bytes) (λ n. Some (None, n.1)) (x, rest) e in
    let s = zero8.takes bytes n.0.0 n.0.1 fits n.1 in
    let made : NumberAndRest = (None, n.0.1) in
    let is : made ≡ (x, rest) = some_is made (x, rest) n.2 in
    let at : n.0.0 ≡ 0 = zero_only n.0.0 s.1.1 in (
      sym (ap (λ (p : NumberAndRest). p.0) is),
      s.0 ∙ ap (λ (k : ℕ). number 8 k ++ n.0.1) at ∙ ap (λ (l : List ℕ). number 8 0 ++ l) (ap (λ (p : NumberAndRest). p.1) is),
    ))
    (λ bytes x rest fits e.
    let k = bind_some (number_at 8 bytes) (λ k. Some (Some k.0, k.1)) (x, rest) e in
    let s = number8.takes bytes k.0.0 k.0.1 fits k.1 in
    let made : NumberAndRest = (Some k.0.0, k.0.1) in
    let is : made ≡ (x, rest) = some_is made (x, rest) k.2 in
    (k.0.0, sym (ap (λ (p : NumberAndRest). p.0) is), s.0 ∙ ap (λ (l : List ℕ). number 8 k.0.0 ++ l) (ap (λ (p : NumberAndRest). p.1) is), s.1))
    (λ flag bytes. refl)
    (λ rest. rw (zero8.again 0 rest (omega arith, (omega arith, omega arith))) refl)
    (λ x rest fits. rw (number8.again x rest fits) refl)

-- ---- parts of records

keys_format : IsFormat keys keys_at (λ k. ((0 ≤ length k.low) × (length k.low ≤ 256)) × IsHigh k.high)
unfolding keys_at
keys_format =
    made_format (λ x. record { low = x.0; high = x.1 }) (λ (k : KeyRange). (k.low, k.high)) (λ a. refl) (λ b. refl) (pair_format (text_format 0) high_format)

place_format : IsFormat place place_at (λ p. (p.extent < 2 ^ 64) × ((p.offset < 2 ^ 32) × (p.length < 2 ^ 32)))
unfolding place_at
place_format =
    made_format (λ x. record { extent = x.0; offset = x.1.0; length = x.1.1 }) (λ (p : Place). (p.extent, (p.offset, p.length))) (λ a. refl) (λ b. refl)
    (pair_format number8 (pair_format number4 number4))

position_format : IsFormat position position_at (λ p. (p.index < 2 ^ 64) × (p.offset < 2 ^ 32))
unfolding position_at
position_format =
    made_format (λ x. record { index = x.0; offset = x.1 }) (λ (p : Position). (p.index, p.offset)) (λ a. refl) (λ b. refl) (pair_format number8 number4)

abbrev IsFlag : ℕ → Type 0
IsFlag n = (n < 2 ^ 8) × ((0 ≤ n) × (n ≤ 1))

flag1 : IsFormat (number 1) (only_at (is_within 0 1) (number_at 1)) IsFlag
flag1 = only_format (is_within 0 1) (λ n. (0 ≤ n) × (n ≤ 1)) (within 0 1) (within_again 0 1) number1

flag_format : IsFormat flag flag_at (λ b. Unit {0})
unfolding flag_at
flag_format = record {
  takes = λ bytes x rest fits e.
      let n = bind_some (only_at (is_within 0 1) (number_at 1) bytes) (λ n. Some (n.0 == 1, n.1)) (x, rest) e in
      let s = flag1.takes bytes n.0.0 n.0.1 fits n.1 in
      let made : Bool × List ℕ = (n.0.0 == 1, n.0.1) in
      subst (λ (y : Bool × List ℕ). (bytes ≡ flag y.0 ++ y.1) × Unit {0}) (some_is made (x, rest) n.2) (s.0 ∙ ap (λ (k : ℕ). number 1 k ++ n.0.1) (which n.0.0 s.1), tt);
  again = λ x rest fits. goes x rest;
}
  where
    which : (n : ℕ) → IsFlag n → n ≡ (if n == 1 then 1 else 0)
    which zero h = refl
    which (suc zero) h = refl
    which (suc (suc n)) h = absurd (omega (arith, h.1.1))

    goes : (x : Bool) (rest : List ℕ) → flag_at (flag x ++ rest) ≡ Some (x, rest)
    goes true rest = rw (flag1.again 1 rest (omega arith, (omega arith, omega arith))) refl
    goes false rest = rw (flag1.again 0 rest (omega arith, (omega arith, omega arith))) refl

next_format : IsFormat (number 8) next_at (λ n. (n < 2 ^ 64) × (1 ≤ n))
unfolding next_at
next_format = only_format (nat_le 1) (λ n. 1 ≤ n) (λ n e. leb-true _ _ e) (λ n h. le-leb _ _ h) number8

index_format : IsFormat index index_at (λ i. ((i.place.extent < 2 ^ 64) × ((i.place.offset < 2 ^ 32) × (i.place.length < 2 ^ 32))) × (((0 ≤ length i.keys.low) × (length i.keys.low ≤ 256)) × IsHigh i.keys.high))
unfolding index_at
index_format =
    made_format (λ x. record { place = x.0; keys = x.1 }) (λ (i : IndexRange). (i.place, i.keys)) (λ a. refl) (λ b. refl) (pair_format place_format keys_format)

abbrev RegionFields : Region → Type 0
RegionFields r = ((r.start.index < 2 ^ 64) × (r.start.offset < 2 ^ 32)) × (IsEnd r.end × (((r.next < 2 ^ 64) × (1 ≤ r.next)) × (((0 ≤ length r.keys.low) × (length r.keys.low ≤ 256)) × IsHigh r.keys.high)))

region_format : IsFormat region region_at RegionFields
unfolding region_at
region_format =
    made_format (λ x. record { start = x.0; end = x.1.0; next = x.1.1.0; keys = x.1.1.1 }) (λ (r : Region). (r.start, (r.end, (r.next, r.keys)))) (λ a. refl) (λ b. refl)
    (pair_format position_format (pair_format end_format (pair_format next_format keys_format)))

-- ---- a counted list

list_format : {A : Type 0} {f : A → List ℕ} {F : List ℕ → Option (A × List ℕ)} {P : A → Type 0} → IsFormat f F P
    → IsFormat (counted f) (counted_at F) (λ xs. (length xs < 2 ^ 8) × AllByRecursion P xs)
unfolding counted_at
list_format format = counted_format number1 format

all_as : {A : Type 0} {P Q : A → Type 0} → ((x : A) → P x → Q x) → (xs : List A) → AllByRecursion P xs → AllByRecursion Q xs
all_as h [] all = tt
all_as h (x ∷ xs) all = (h x all.0, all_as h xs all.1)

-- ---- items

checkpoint_format : IsFormat (λ x. flag x.0 ++ (place x.1.0 ++ (position x.1.1.0 ++ number 8 x.1.1.1))) (pair_at flag_at (pair_at place_at (pair_at position_at next_at)))
    (λ x. Unit {0} × (((x.1.0.extent < 2 ^ 64) × ((x.1.0.offset < 2 ^ 32) × (x.1.0.length < 2 ^ 32))) × (((x.1.1.0.index < 2 ^ 64) × (x.1.1.0.offset < 2 ^ 32)) × ((x.1.1.1 < 2 ^ 64) × (1 ≤ x.1.1.1)))))
checkpoint_format = pair_format flag_format (pair_format place_format (pair_format position_format next_format))

abbrev IndexFields : IndexRange → Type 0
IndexFields i = ((i.place.extent < 2 ^ 64) × ((i.place.offset < 2 ^ 32) × (i.place.length < 2 ^ 32))) × (((0 ≤ length i.keys.low) × (length i.keys.low ≤ 256)) × IsHigh i.keys.high)

is_index : (i : IndexRange) → IndexFields i → IsIndex i
is_index i h = ((h.0.0, h.0.1.0, h.0.1.1), (h.1.0.1, h.1.1))

index_is : (i : IndexRange) → IsIndex i → IndexFields i
index_is i h = ((h.0.0, (h.0.1, h.0.2)), ((omega arith, h.1.0), h.1.1))

is_region : (r : Region) → RegionFields r → IsRegion r
is_region r h = ((h.0.0, h.0.1), h.1.0, (h.1.1.0.1, h.1.1.0.0), (h.1.1.1.0.1, h.1.1.1.1))

region_is : (r : Region) → IsRegion r → RegionFields r
region_is r h = ((h.0.0, h.0.1), (h.1, ((h.2.1, h.2.0), ((omega arith, h.3.0), h.3.1))))

abbrev RegionsFields : List IndexRange × List Region → Type 0
RegionsFields x = ((length x.0 < 2 ^ 8) × AllByRecursion IndexFields x.0) × ((length x.1 < 2 ^ 8) × AllByRecursion RegionFields x.1)

regions_format : IsFormat (λ x. counted index x.0 ++ counted region x.1) (pair_at (counted_at index_at) (counted_at region_at)) RegionsFields
regions_format = pair_format (list_format index_format) (list_format region_format)

status_format : IsFormat (λ x. number 8 x.0 ++ (number 8 x.1.0 ++ text x.1.1)) (pair_at (number_at 8) (pair_at (number_at 8) (text_at 1))) (λ x. (x.0 < 2 ^ 64) × ((x.1.0 < 2 ^ 64) × IsKey x.1.1))
status_format = pair_format number8 (pair_format number8 (text_format 1))

item_takes : (kind : ℕ) (fields : List ℕ) (y : MetaItem) → IsBytes fields → item_at kind fields ≡ Some y → (number 1 kind ++ fields ≡ item y) × IsItem y
unfolding item_at ranges_at checkpoint_at regions_at status_at
item_takes zero fields y fits e = absurd cc
item_takes (suc zero) fields y fits e =
    let t = whole_takes keys_format (λ k. Ranges k) fields y fits e in
    subst (λ (z : MetaItem). (number 1 1 ++ fields ≡ item z) × IsItem z) t.3 (ap (λ (l : List ℕ). number 1 1 ++ l) t.1, (t.2.0.1, t.2.1))
item_takes (suc (suc zero)) fields y fits e =
    let t = whole_takes checkpoint_format (λ x. Checkpoint x.0 x.1.0 x.1.1.0 x.1.1.1) fields y fits e in
    let q = t.2.1 in
    subst (λ (z : MetaItem). (number 1 2 ++ fields ≡ item z) × IsItem z) t.3
    (ap (λ (l : List ℕ). number 1 2 ++ l) t.1, ((q.0.0, q.0.1.0, q.0.1.1), (q.1.0.0, q.1.0.1), (q.1.1.1, q.1.1.0)))
item_takes (suc (suc (suc zero))) fields y fits e =
    let t = whole_takes regions_format (λ x. Regions x.0 x.1) fields y fits e in
    subst (λ (z : MetaItem). (number 1 3 ++ fields ≡ item z) × IsItem z) t.3
    (ap (λ (l : List ℕ). number 1 3 ++ l) t.1, (t.2.0.0, all_as is_index t.0.0 t.2.0.1, t.2.1.0, all_as is_region t.0.1 t.2.1.1))
item_takes (suc (suc (suc (suc zero)))) fields y fits e =
    let t = whole_takes status_format (λ x. SplitStatus x.0 x.1.0 x.1.1) fields y fits e in
    subst (λ (z : MetaItem). (number 1 4 ++ fields ≡ item z) × IsItem z) t.3 (ap (λ (l : List ℕ). number 1 4 ++ l) t.1, (t.2.0, t.2.1.0, t.2.1.1))
item_takes (suc (suc (suc (suc (suc k))))) fields y fits e = absurd cc

-- the kind's byte and the fields are read again
kind_again : (kind : ℕ) (fields : List ℕ) (y : MetaItem) → kind < 2 ^ 8 → item_at kind fields ≡ Some y
    → (number_at 1 (number 1 kind ++ fields) >>= λ k. item_at k.0 k.1) ≡ Some y
kind_again kind fields y small e = rw (number1.again kind fields small) e

item_again : (y : MetaItem) → IsItem y → (number_at 1 (item y) >>= λ k. item_at k.0 k.1) ≡ Some y
unfolding item_at ranges_at checkpoint_at regions_at status_at
item_again (Ranges k) h = kind_again 1 (keys k) (Ranges k) (omega arith) (whole_again keys_format (λ x. Ranges x) k ((omega arith, h.0), h.1))
item_again (Checkpoint combine at start next) h =
    kind_again 2 (flag combine ++ (place at ++ (position start ++ number 8 next))) (Checkpoint combine at start next) (omega arith)
    (whole_again checkpoint_format (λ x. Checkpoint x.0 x.1.0 x.1.1.0 x.1.1.1) (combine, (at, (start, next)))
    (tt, ((h.0.0, (h.0.1, h.0.2)), ((h.1.0, h.1.1), (h.2.1, h.2.0)))))
item_again (Regions indexes regions) h =
    kind_again 3 (counted index indexes ++ counted region regions) (Regions indexes regions) (omega arith)
    (whole_again regions_format (λ x. Regions x.0 x.1) (indexes, regions) ((h.0, all_as index_is indexes h.1), (h.2, all_as region_is regions h.3)))
item_again (SplitStatus low high key) h =
    kind_again 4 (number 8 low ++ (number 8 high ++ text key)) (SplitStatus low high key) (omega arith)
    (whole_again status_format (λ x. SplitStatus x.0 x.1.0 x.1.1) (low, (high, key)) (h.0, (h.1, h.2)))

-- ---- records

abbrev numbered : ℕ → MetaItem → MetaRecord
numbered n y = record { number = n; item = y }

pub record_takes : (bytes : List ℕ) (r : MetaRecord) → IsBytes bytes → record_at bytes ≡ Some r → (bytes ≡ spelling r) × (IsNext r.number × IsItem r.item)
unfolding record_at
record_takes bytes r fits e =
    let n = bind_some (next_at bytes) (λ n. number_at 1 n.1 >>= λ kind. item_at kind.0 kind.1 >>= λ item. Some (record { number = n.0; item = item })) r e in
    let k = bind_some (number_at 1 n.0.1) (λ kind. item_at kind.0 kind.1 >>= λ item. Some (record { number = n.0.0; item = item })) r n.2 in
    let i = bind_some (item_at k.0.0 k.0.1) (λ item. Some (record { number = n.0.0; item = item })) r k.2 in
    let sn = next_format.takes bytes n.0.0 n.0.1 fits n.1 in
    let rest_fits : IsBytes n.0.1 = IsBytes-after (number 8 n.0.0) n.0.1 (subst IsBytes sn.0 fits) in
    let sk = number1.takes n.0.1 k.0.0 k.0.1 rest_fits k.1 in
    let si = item_takes k.0.0 k.0.1 i.0 (IsBytes-after (number 1 k.0.0) k.0.1 (subst IsBytes sk.0 rest_fits)) i.1 in
    let made : MetaRecord = record { number = n.0.0; item = i.0 } in
    subst (λ (y : MetaRecord). (bytes ≡ spelling y) × (IsNext y.number × IsItem y.item)) (some_is made r i.2)
    (sn.0 ∙ ap (λ (l : List ℕ). number 8 n.0.0 ++ l) (sk.0 ∙ si.0), ((sn.1.1, sn.1.0), si.1))

pub record_again : (r : MetaRecord) → IsNext r.number → IsItem r.item → record_at (spelling r) ≡ Some r
unfolding record_at
record_again r number_fits item_fits =
    let item_read : (number_at 1 (item r.item) >>= λ k. item_at k.0 k.1) ≡ Some r.item = item_again r.item item_fits in
    rw (next_format.again r.number (item r.item) (number_fits.1, number_fits.0)) (joined r.number (number_at 1 (item r.item)) item_read)
  where
    joined : (n : ℕ) (read : Option (ℕ × List ℕ)) → (read >>= λ k. item_at k.0 k.1) ≡ Some r.item
        → (read >>= λ kind. item_at kind.0 kind.1 >>= λ y. Some (numbered n y)) ≡ Some (numbered n r.item)
    joined n None h = absurd cc
    joined n (Some k) h = rw h refl

-- no two records have one spelling
pub one_spelling_law : (a b : MetaRecord) → Fits a → Fits b → spelling a ≡ spelling b → a ≡ b
one_spelling_law a b fa fb same = some_is a b (sym (record_again a fa.0 fa.1) ∙ ap record_at same ∙ record_again b fb.0 fb.1)

pub is_found : (bytes : List ℕ) (x : Result MetaRecord BlockFault) → IsBytes bytes → length bytes ≤ 65536 → Gives (λ y. y) x (record_at bytes) → IfOk x (λ r. Fits r × (spelling r ≡ bytes))
is_found bytes (Ok r) fits short given =
    let t = record_takes bytes r fits given in
    ((t.1.0, t.1.1, subst (λ (l : List ℕ). length l ≤ 65536) t.0 short), sym t.0)
is_found bytes (Err e) fits short given = tt

pub is_only : (bytes : List ℕ) (x : Result MetaRecord BlockFault) → Gives (λ y. y) x (record_at bytes) → (r : MetaRecord) → Fits r → spelling r ≡ bytes → MatchResult x (λ y. y ≡ r) (λ e. e ≡ faults.Memory)
is_only bytes (Ok y) given r fits same = some_is y r (sym given ∙ ap record_at (sym same) ∙ record_again r fits.0 fits.1)
is_only bytes (Err faults.Memory) given r fits same = refl
is_only bytes (Err faults.Damaged) given r fits same =
    let again : record_at bytes ≡ Some r = ap record_at (sym same) ∙ record_again r fits.0 fits.1 in
    absurd (cc (given, again))
