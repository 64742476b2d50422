-- Texts in pieces, and what two of them show.
use Rattle.std.proofs.Common.{◌≡◌, ◌⊎◌, ℕ, ◌+◌, ◌-◌, ◌<◌, ◌≤◌, Bool, true, false, not, leb, min, List, [], ◌∷◌, ◌++◌, length, get_or, take, drop, refl, sym, ap, ◌∙◌, inl, inr, arith, length-append, length-take, length-drop}
use Rattle.std.proofs.lemmas.Grind.{common_steps}
use Rattle.std.specs.Bool.{Decides}
use Rattle.std.proofs.lemmas.Bool.Decides.{nat_tests}
use Rattle.std.proofs.lemmas.List.{drop_more, get_or-take, get_or-drop, ext_get_or}
use Rattle.block_types.specs.Limits.{group_size}
use Rattle.replica.proofs.Lengths.{group_size-size}
use Rattle.replica.specs.Groups.{Group, joined, text, size, text_length}
use Rattle.model_streams.specs.Honest.{Stands, SameWhereBoth}
use Rattle.world_checker.proofs.Places.{below_or_not}

pub not_so : {P : Type 0} → (P → ⊥) → Decides false P
not_so never = (λ e. absurd cc, λ p. absurd (never p))

-- what is shown of a text is shown of its front and of its rest
module _ (o : ℕ) (xs : List ℕ) (p : ℕ) (ys rest : List ℕ) where
  pub shown_first : SameWhereBoth o xs p (ys ++ rest) → SameWhereBoth o xs p ys
  shown_first h = λ i j a b e.
      let l : j < length (ys ++ rest) = omega (arith, length-append ys rest) in
      let k = h i j a l e in
      grind (arith, common_steps)

  pub shown_rest : SameWhereBoth o xs p (ys ++ rest) → SameWhereBoth o xs (p + length ys) rest
  shown_rest h = λ i j a b e.
      let l : length ys + j < length (ys ++ rest) = omega (arith, length-append ys rest) in
      let k = h i (length ys + j) a l (omega arith) in
      grind (arith, common_steps)

  pub shown_all : SameWhereBoth o xs p ys → SameWhereBoth o xs (p + length ys) rest → SameWhereBoth o xs p (ys ++ rest)
  shown_all f g = λ i j a b e. either i j a b e (below_or_not j (length ys))
    where
      either : (i j : ℕ) → i < length xs → j < length (ys ++ rest) → o + i ≡ p + j → (j < length ys) ⊎ (length ys ≤ j) → get_or xs i 0 ≡ get_or (ys ++ rest) j 0
      either i j a b e (inl l) = let k = f i j a l e in grind (arith, common_steps)
      either i j a b e (inr l) =
          let m : j - length ys < length rest = omega (arith, length-append ys rest) in
          let k = g i (j - length ys) a m (omega arith) in
          grind (arith, common_steps)

-- where a group stands among one and others
module _ (g x : Group) (xs : List Group) where
  length_more : (ys : List Group) → text_length (x ∷ ys) ≡ size x + text_length ys
  length_more ys = length-append (joined x) (text ys)

  -- it stands after the first, or is the first
  stands_cases : (o : ℕ) (before after : List Group) → x ∷ xs ≡ before ++ g ∷ after → text_length before ≡ o → ((o ≡ 0) × (x ≡ g)) ⊎ ((size x ≤ o) × Stands g (o - size x) xs)
  stands_cases o [] after e l = inl (sym l, cc)
  stands_cases o (y ∷ before) after e l =
      let same : x ≡ y = cc in
      let longer : text_length (x ∷ before) ≡ o = ap (λ (z : Group). text_length (z ∷ before)) same ∙ l in
      inr (omega (arith, longer, length_more before), record { before = before; after = after; split = cc; place = omega (arith, longer, length_more before) })

  pub stands_back : (o : ℕ) → size x ≤ o → Stands g (o - size x) xs → Stands g o (x ∷ xs)
  stands_back o h s =
      record { before = x ∷ s.before; after = s.after; split = ap (λ (l : List Group). x ∷ l) s.split; place = omega (arith, s.place, length_more s.before) }

  pub stands_on : (o : ℕ) → (o ≡ 0 → x ≡ g → ⊥) → Stands g o (x ∷ xs) → (size x ≤ o) × Stands g (o - size x) xs
  stands_on o not_here s = elim (stands_cases o s.before s.after s.split s.place) [ inl a ↦ absurd (not_here a.0 a.1) | inr b ↦ b ]

pub none_stand : (g : Group) (o : ℕ) → Stands g o [] → ⊥
none_stand g o s = never s.before s.split
  where
    never : (before : List Group) → [] ≡ before ++ g ∷ s.after → ⊥
    never [] e = cc
    never (y ∷ before) e = cc

-- the rest of a list, where one is next
pub next_of : {X : Type 0} (xs : List X) (i : ℕ) (x : X) → i < length xs → x ≡ get_or xs i x → drop i xs ≡ x ∷ drop (i + 1) xs
next_of xs i x lt is = drop_more xs i x lt ∙ ap (λ y. y ∷ drop (i + 1) xs) (sym is)

pub length_next : (groups : List Group) (i : ℕ) (x : Group) (n : ℕ) → i < length groups → x ≡ get_or groups i x → n ≡ group_size x
    → text_length (drop i groups) ≡ n + text_length (drop (i + 1) groups)
length_next groups i x n lt is size_is =
    ap text_length (next_of groups i x lt is) ∙ length-append (joined x) (text (drop (i + 1) groups)) ∙ ap (λ m. m + text_length (drop (i + 1) groups)) (sym (size_is ∙ group_size-size x))

plus_zero : (n : ℕ) → n ≡ 0 + n
plus_zero n = omega arith

pub from_not : (b : Bool) → false ≡ not b → true ≡ b
from_not true e = refl
from_not false e = cc

min_cases : (a b n : ℕ) → n ≡ min a b → ((n ≡ b) × (n ≤ a)) ⊎ ((n ≡ a) × (n ≤ b))
min_cases a b n e = grind arith

-- how far both go: n is the less of two lengths
module _ (xs : List ℕ) (start : ℕ) (ys : List ℕ) (n : ℕ) (within : start < length xs) (least : n ≡ min (length (take (length xs - start) (drop start xs))) (length ys)) where
  tail_length : length (take (length xs - start) (drop start xs)) ≡ length xs - start
  tail_length = simp (length-take, length-drop) (omega arith)

  pub both_go : ((n ≡ length ys) × (n + start ≤ length xs)) ⊎ ((n + start ≡ length xs) × (n ≤ length ys))
  both_go = elim (min_cases (length (take (length xs - start) (drop start xs))) (length ys) n least) [
    | inl a ↦ inl (a.0, omega (arith, a.1, tail_length))
    | inr b ↦ inr (omega (arith, b.0, tail_length), b.1)
  ]

  pub in_others : n ≤ length ys
  in_others = elim both_go [ inl a ↦ omega arith | inr b ↦ b.1 ]

  pub in_bytes : n + start ≤ length xs
  in_bytes = elim both_go [ inl a ↦ a.1 | inr b ↦ omega arith ]

  pub one_ends : (n ≡ length ys) ⊎ (n + start ≡ length xs)
  one_ends = elim both_go [ inl a ↦ inl a.0 | inr b ↦ inr b.0 ]

-- the bytes from a start on, as far as both go
module _ (xs : List ℕ) (start : ℕ) (ys : List ℕ) (n : ℕ) (within : start < length xs) (all : n ≤ length ys) (some : n + start ≤ length xs) where
  tail_at : (j : ℕ) → j < n → get_or (take n (take (length xs - start) (drop start xs))) j 0 ≡ get_or xs (start + j) 0
  tail_at j lt =
      get_or-take n (take (length xs - start) (drop start xs)) j 0 lt
      ∙ (get_or-take (length xs - start) (drop start xs) j 0 (omega arith) ∙ get_or-drop start xs j 0)

  pub from_same : (n ≡ length ys) ⊎ (n + start ≡ length xs) → take n (take (length xs - start) (drop start xs)) ≡ take n ys → SameWhereBoth 0 xs start ys
  from_same ends same = λ i j a b e.
      let lt : j < n = elim ends [ inl k ↦ omega arith | inr k ↦ omega arith ] in
      ap (λ m. get_or xs m 0) (plus_zero i ∙ e) ∙ (sym (tail_at j lt) ∙ (ap (λ l. get_or l j 0) same ∙ get_or-take n ys j 0 lt))

  pub to_same : SameWhereBoth 0 xs start ys → take n (take (length xs - start) (drop start xs)) ≡ take n ys
  to_same shown =
      ext_get_or 0 (take n (take (length xs - start) (drop start xs))) (take n ys) (simp (length-take, length-drop) (omega arith)) (λ j l.
      let lt : j < n = let m = simp (length-take, length-drop) at l in omega (arith, m) in
      tail_at j lt ∙ (shown (start + j) j (omega arith) (omega arith) (sym (plus_zero (start + j))) ∙ sym (get_or-take n ys j 0 lt)))

pub at_most : (m n a b : ℕ) → m ≡ a → n ≡ b → Decides (leb m n) (a ≤ b)
at_most m n a b e f = (λ t. grind (arith, nat_tests), λ l. grind (arith, nat_tests))
