-- What is copied from a list in pieces.
use Rattle.std.proofs.Common.{◌≡◌, ℕ, ◌+◌, ◌-◌, ◌≤◌, List, [], ◌++◌, length, take, drop, sym, ap, ◌∙◌, inl, inr, arith, append_assoc, append-nil, length-append, length-take, length-drop}
use Rattle.std.proofs.lemmas.Grind.{common_steps}
use Rattle.std.proofs.lemmas.Bool.{cases_lt}
use Rattle.std.proofs.lemmas.List.{drop-append-le, take-append-le, take_all, length-take-le}
use Rattle.std.proofs.Math.Seq.{drop-append-add, take-append-add}

pub drop_two : (n : ℕ) (xs ys : List ℕ) → drop n (xs ++ ys) ≡ drop n xs ++ drop (n - length xs) ys
drop_two n xs ys =
    elim (cases_lt n (length xs)) [
      | inl under ↦ let none : n - length xs ≡ 0 = omega arith in drop-append-le n xs ys (omega arith) ∙ sym (ap (λ k. drop n xs ++ drop k ys) none)
      | inr over ↦
          let sum : length xs + (n - length xs) ≡ n = omega arith in
          let all : drop n xs ≡ [] = grind (arith, common_steps) in
          ap (λ k. drop k (xs ++ ys)) (sym sum) ∙ drop-append-add xs ys (n - length xs) ∙ sym (ap (λ l. l ++ drop (n - length xs) ys) all)
    ]

pub take_two : (n : ℕ) (xs ys : List ℕ) → take n (xs ++ ys) ≡ take n xs ++ take (n - length xs) ys
take_two n xs ys =
    elim (cases_lt n (length xs)) [
      | inl under ↦
          let none : n - length xs ≡ 0 = omega arith in
          take-append-le n xs ys (omega arith) ∙ sym (append-nil (take n xs)) ∙ sym (ap (λ k. take n xs ++ take k ys) none)
      | inr over ↦
          let sum : length xs + (n - length xs) ≡ n = omega arith in
          let all : take n xs ≡ xs = grind (arith, common_steps) in
          ap (λ k. take k (xs ++ ys)) (sym sum) ∙ take-append-add xs ys (n - length xs) ∙ sym (ap (λ l. l ++ take (n - length xs) ys) all)
    ]

count_left : (out more part : List ℕ) (m n : ℕ) → more ≡ out ++ take m part → n ≡ m - (length more - length out) → n ≡ m - length part
count_left out more part m n is left =
    let a : length more ≡ length out + length (take m part) = ap length is ∙ length-append out (take m part) in
    let b = simp length-take at a in
    grind (arith, common_steps)

pub piece : (out more : List ℕ) (m n f g : ℕ) (b rest whole : List ℕ) →
    more ≡ out ++ take m (drop f b) → n ≡ m - (length more - length out) → g ≡ f - length b →
    out ++ take m (drop f (b ++ rest)) ≡ whole → more ++ take n (drop g rest) ≡ whole
piece out more m n f g b rest whole is left from before =
    let less : n ≡ m - length (drop f b) = count_left out more (drop f b) m n is left in
    let split : take m (drop f (b ++ rest)) ≡ take m (drop f b) ++ take (m - length (drop f b)) (drop (f - length b) rest) = ap (take m) (drop_two f b rest) ∙ take_two m (drop f b) (drop (f - length b) rest) in
    rw (is, less, from) (append_assoc out (take m (drop f b)) (take (m - length (drop f b)) (drop (f - length b) rest)) ∙ ap (λ x. out ++ x) (sym split) ∙ before)

-- the same for what is written into a list from a place on
pub written : (old new : List ℕ) (at end f g : ℕ) (b rest whole : List ℕ) → at ≤ length old → end ≤ length old → length new ≡ length old →
    take end new ≡ take at old ++ take (length old - at) (drop f b) → g ≡ f - length b →
    take at old ++ take (length old - at) (drop f (b ++ rest)) ≡ whole → take end new ++ take (length new - end) (drop g rest) ≡ whole
written old new at end f g b rest whole under within len is from before =
    let front = length-take-le at old under in
    let back = length-take-le end new (omega arith) in
    let more : length (take end new) ≡ length (take at old) + length (take (length old - at) (drop f b)) = ap length is ∙ length-append (take at old) (take (length old - at) (drop f b)) in
    piece (take at old) (take end new) (length old - at) (length new - end) f g b rest whole is (omega (arith, front, back, more)) from before

-- all of a list is written where there is as much to write
pub filled : (new bytes : List ℕ) (end : ℕ) → take end new ≡ bytes → length bytes ≡ length new → new ≡ bytes
filled new bytes end is len = sym (take_all end new (omega (arith, length-take end new, ap length is, len))) ∙ is

pub part_length : (offset count : ℕ) (xs : List ℕ) → offset + count ≤ length xs → length (take count (drop offset xs)) ≡ count
part_length offset count xs h = simp (length-take, length-drop) (omega arith)
