-- What stands at a place or behind it: positions and places agree about it, and where what is left of a list from its first such group on
-- all stands there, that is all of the list that does.
use Rattle.std.proofs.Common.{◌≡◌, ℕ, ◌+◌, ◌<◌, ◌≤◌, ◌-◌, ◌^◌, List, [], ◌∷◌, ◌++◌, length, map, Option, Some, None, Bool, true, false, nat_lt, ◌==◌, refl, sym, ap, subst, ◌∙◌, arith}
use Rattle.std.specs.Prelude.{◌&&◌, ◌||◌, if◌then◌else◌}
use Rattle.std.proofs.lemmas.Bool.{and_parts, ltb-true, ltb-false, eqb-true}
use Rattle.std.proofs.lemmas.Bool.Decides.{nat_tests}
use Rattle.streams.specs.declared.table.Position.{Position}
use Rattle.wire.specs.declared.streams.StreamExtent.{StreamExtent}
use Rattle.client.specs.Client.{ClientState, last_extent}
use Rattle.model_partition.specs.Range.{later}
use Rattle.model_partition.specs.Loading.{Group, are_counted, has_end, has_position, is_before, length_or, log_end}
use Rattle.model_histories.specs.StreamActions.{read_end}
use Rattle.model_histories.specs.Story.{Placed}
use Rattle.model_histories.specs.ServerRun.{place_number, placed_behind}
use Rattle.laws_tables.proofs.Loads.{greater_left}
use Rattle.laws_tables.specs.Runs.{greater}
use Rattle.laws_server_runs.specs.RangeInvariant.{EndFits, LengthFits}

-- the groups at these places
abbrev pub groups_shown : List (Placed Group) → List Group
groups_shown groups = map (λ (p : Placed Group). p.group) groups

-- ---- positions

-- a position is before another exactly where its place is, since offsets have 32 bits
pub before_place : (a b : Position) → a.offset < 2 ^ 32 → b.offset < 2 ^ 32 → is_before a b ≡ nat_lt (place_number a) (place_number b)
before_place a b short_a short_b = by (nat_lt a.index b.index) (a.index == b.index) refl refl
  where
    offsets : (t : Bool) → nat_lt a.offset b.offset ≡ t → a.index ≡ b.index → nat_lt a.offset b.offset ≡ nat_lt (place_number a) (place_number b)
    offsets true e same = e ∙ sym (let t : nat_lt (place_number a) (place_number b) ≡ true = grind (arith, nat_tests) in t)
    offsets false e same = e ∙ sym (let t : nat_lt (place_number a) (place_number b) ≡ false = grind (arith, nat_tests) in t)

    by : (x y : Bool) → nat_lt a.index b.index ≡ x → (a.index == b.index) ≡ y → (x || (y && nat_lt a.offset b.offset)) ≡ nat_lt (place_number a) (place_number b)
    by true y l e = sym (let t : nat_lt (place_number a) (place_number b) ≡ true = grind (arith, nat_tests) in t)
    by false true l e = offsets (nat_lt a.offset b.offset) refl (eqb-true a.index b.index e)
    by false false l e = sym (let t : nat_lt (place_number a) (place_number b) ≡ false = grind (arith, nat_tests) in t)

-- the later of two positions stands at the greater place
later_place : (a b : Position) → a.offset < 2 ^ 32 → b.offset < 2 ^ 32 → place_number (later a b) ≡ greater (place_number a) (place_number b)
later_place a b short_a short_b = by (nat_lt a.index b.index) (a.index == b.index) (nat_lt a.offset b.offset) (a.offset == b.offset) refl refl refl refl
  where
    pa : ℕ
    pa = place_number a

    pb : ℕ
    pb = place_number b

    picked : Bool → ℕ
    picked t = if t then pb else pa

    by : (x y z w : Bool) → nat_lt a.index b.index ≡ x → (a.index == b.index) ≡ y → nat_lt a.offset b.offset ≡ z → (a.offset == b.offset) ≡ w →
        place_number (if x || (y && (z || w)) then b else a) ≡ picked (nat_lt pa pb)
    by true y z w l e o s = let t : nat_lt pa pb ≡ true = grind (arith, nat_tests) in sym (ap picked t)
    by false true true w l e o s =
        let same : a.index ≡ b.index = eqb-true a.index b.index e in
        let t : nat_lt pa pb ≡ true = grind (arith, nat_tests) in sym (ap picked t)
    by false true false true l e o s =
        let same : a.index ≡ b.index = eqb-true a.index b.index e in
        let equal : a.offset ≡ b.offset = eqb-true a.offset b.offset s in
        let t : nat_lt pa pb ≡ false = grind (arith, nat_tests) in
        let places : pb ≡ pa = omega (arith, same, equal) in
        places ∙ sym (ap picked t)
    by false true false false l e o s =
        let same : a.index ≡ b.index = eqb-true a.index b.index e in
        let t : nat_lt pa pb ≡ false = grind (arith, nat_tests) in sym (ap picked t)
    by false false z w l e o s = let t : nat_lt pa pb ≡ false = grind (arith, nat_tests) in sym (ap picked t)

greater_right : (m n : ℕ) → m ≤ n → greater m n ≡ n
greater_right m n low = by (nat_lt m n) refl
  where
    by : (b : Bool) → nat_lt m n ≡ b → (if b then n else m) ≡ n
    by true t = refl
    by false f = let high : n ≤ m = ltb-false m n f in omega (arith, low, high)

-- a log that is served has an end of 32 bits
end_has : (o : Option StreamExtent) (checked : Option ℕ) → has_end o checked ≡ true → LengthFits checked o
end_has None checked t = tt
end_has (Some x) checked t = ltb-true (length_or x.length checked) (2 ^ 32) t

pub end_fits : (c : ClientState) → has_position c ≡ true → EndFits c
end_fits c t = end_has (last_extent c.extents) c.checked (and_parts (are_counted c) (has_end (last_extent c.extents) c.checked) t).1

-- The end of what is read from a start on is the greater of this and of the end of the stream, whose last extent has a length of 32 bits.
pub end_place : (c : ClientState) (start : Position) → start.offset < 2 ^ 32 → c.base ≤ start.index → EndFits c →
    place_number (log_end c (last_extent c.extents) start) ≡ greater (place_number (read_end c (record { index = c.base; offset = 0 }))) (place_number start)
end_place c start short low fits = by (last_extent c.extents) refl
  where
    first : Position
    first = record { index = c.base; offset = 0 }

    some : (xs : List StreamExtent) (x : StreamExtent) → last_extent xs ≡ Some x → 1 ≤ length xs
    some [] x e = absurd cc
    some (y ∷ xs) x e = omega arith

    by : (last : Option StreamExtent) → last_extent c.extents ≡ last → place_number (log_end c last start) ≡ greater (place_number (log_end c last first)) (place_number start)
    by None e = sym (greater_right (place_number first) (place_number start) (omega (arith, low)))
    by (Some x) e =
        let last : Position = record { index = (c.base + length c.extents) - 1; offset = length_or x.length c.checked } in
        let there : 1 ≤ length c.extents = some c.extents x e in
        let fit : length_or x.length c.checked < 2 ^ 32 = subst (LengthFits c.checked) e fits in
        let behind : place_number first ≤ place_number last = omega (arith, there) in
        let whole : place_number (later last first) ≡ place_number last =
        later_place last first fit (omega arith) ∙ greater_left (place_number last) (place_number first) behind in
        later_place last start fit short ∙ ap (λ m. greater m (place_number start)) (sym whole)

-- ---- lists

-- these stand at the place or behind it
abbrev pub AreBehind : ℕ → List (Placed Group) → Type 0
AreBehind start [] = Unit {0}
AreBehind start (p ∷ placed) = (start ≤ p.from) × AreBehind start placed

-- those of a list that do
abbrev pub all_behind : ℕ → List (Placed Group) → List (Placed Group)
all_behind start [] = []
all_behind start (p ∷ placed) = if nat_lt p.from start then all_behind start placed else p ∷ all_behind start placed

pub behind_both : (start : ℕ) (xs ys : List (Placed Group)) → all_behind start (xs ++ ys) ≡ all_behind start xs ++ all_behind start ys
behind_both start [] ys = refl
behind_both start (p ∷ xs) ys = by (nat_lt p.from start) (all_behind start (xs ++ ys)) (all_behind start xs) (behind_both start xs ys)
  where
    by : (b : Bool) (l front : List (Placed Group)) → l ≡ front ++ all_behind start ys →
        (if b then l else p ∷ l) ≡ (if b then front else p ∷ front) ++ all_behind start ys
    by true l front e = e
    by false l front e = ap (λ k. p ∷ k) e

all_there : (start : ℕ) (placed : List (Placed Group)) → AreBehind start placed → all_behind start placed ≡ placed
all_there start [] b = refl
all_there start (p ∷ placed) b =
    let low : start ≤ p.from = b.0 in
    let t : nat_lt p.from start ≡ false = grind (arith, nat_tests) in
    ap (λ (x : Bool). if x then all_behind start placed else p ∷ all_behind start placed) t ∙ ap (λ k. p ∷ k) (all_there start placed b.1)

-- what is left from the first such group on is all that stands there
pub left_is_all : (start : ℕ) (placed : List (Placed Group)) → AreBehind start (placed_behind start placed) → all_behind start placed ≡ placed_behind start placed
left_is_all start [] b = refl
left_is_all start (p ∷ placed) b = by (nat_lt p.from start) (left_is_all start placed) b
  where
    by : (x : Bool) → (AreBehind start (placed_behind start placed) → all_behind start placed ≡ placed_behind start placed) →
        AreBehind start (if x then placed_behind start placed else p ∷ placed) →
        (if x then all_behind start placed else p ∷ all_behind start placed) ≡ (if x then placed_behind start placed else p ∷ placed)
    by true rest b = rest b
    by false rest b = ap (λ k. p ∷ k) (all_there start placed b.1)
