-- Where groups end.
use Rattle.std.proofs.Common.{◌≡◌, ◌⊎◌, ℕ, ◌==◌, zero, suc, ◌+◌, ◌-◌, ◌<◌, ◌≤◌, true, false, nat_le, List, [], ◌∷◌, ◌++◌, length, take, get_or, Some, None, refl, sym, ap, ◌∙◌, subst, inl, inr, arith, length-append}
use Rattle.std.proofs.lemmas.Bool.{cases_lt}
use Rattle.std.proofs.lemmas.Bool.Decides.{nat_tests}
use Rattle.std.specs.List.{AllByRecursion}
use Rattle.block_types.specs.Limits.{IsGroup, group_size}
use Rattle.replica.specs.Groups.{Group, joined, text, size, text_length}
use Rattle.replica.specs.Ends.{RiseAbove}
use Rattle.replica.specs.Placed.{ends_from, NoneEmpty, IsPlaced, IsBefore}
use Rattle.replica.specs.Reading.{groups_to}
use Rattle.replica.proofs.Searching.{ended, ended-yes, ended-no, ended-none, ended-within}
use Rattle.replica.proofs.Lengths.{text_length-push, group_size-size}

pub ends-length : (s : ℕ) (gs : List Group) → length (ends_from s gs) ≡ length gs
ends-length s [] = refl
ends-length s (g ∷ gs) = ap (λ n. suc n) (ends-length (s + size g) gs)

pub length-cons : (g : Group) (gs : List Group) → text_length (g ∷ gs) ≡ size g + text_length gs
length-cons g gs = length-append (joined g) (text gs)

-- a sum that is less than all is not all
pub apart : (all sum : ℕ) → sum < all → false ≡ (all == sum)
apart all sum h = grind (arith, nat_tests)

pub ends-at : (s : ℕ) (gs : List Group) (i d : ℕ) → i < length gs → get_or (ends_from s gs) i d ≡ s + text_length (take (suc i) gs)
ends-at s [] i d h = absurd (omega (arith, h))
ends-at s (g ∷ gs) zero d h = omega (arith, length-cons g [])
ends-at s (g ∷ gs) (suc i) d h = omega (arith, ends-at (s + size g) gs i d (omega (arith, h)), length-cons g (take (suc i) gs))

pub ends-push : (s : ℕ) (gs : List Group) (g : Group) → ends_from s (gs ++ g ∷ []) ≡ ends_from s gs ++ (s + text_length gs + size g) ∷ []
ends-push s [] g = ap (λ n. n ∷ []) (omega arith)
ends-push s (x ∷ gs) g = ap (λ l. (s + size x) ∷ l) (ends-push (s + size x) gs g ∙ ap (λ n. ends_from (s + size x) gs ++ n ∷ []) (omega (arith, length-cons x gs)))

pub full-push : (gs : List Group) (g : Group) → NoneEmpty gs → 0 < size g → NoneEmpty (gs ++ g ∷ [])
full-push [] g full h = (h, tt)
full-push (x ∷ gs) g full h = (full.0, full-push gs g full.1 h)

rises : (gs : List Group) (i j : ℕ) → i ≤ j → text_length (take i gs) ≤ text_length (take j gs)
rises gs zero j h = omega arith
rises [] (suc i) j h = omega arith
rises (g ∷ gs) (suc i) zero h = absurd (omega (arith, h))
rises (g ∷ gs) (suc i) (suc j) h = omega (arith, rises gs i j (omega (arith, h)), length-cons g (take i gs), length-cons g (take j gs))

is_at_most : (a b : ℕ) → a ≤ b → nat_le a b ≡ true
is_at_most a b h = grind (arith, nat_tests)

is_above : (a b : ℕ) → b < a → nat_le a b ≡ false
is_above a b h = grind (arith, nat_tests)

-- the ends rise
rise : (s : ℕ) (gs : List Group) → NoneEmpty gs → RiseAbove s (ends_from s gs)
rise s [] full = tt
rise s (g ∷ gs) full = (omega (arith, full.0), rise (s + size g) gs full.1)

pub ends-rise : (gs : List Group) (es : List ℕ) (l : ℕ) → IsPlaced gs es l → RiseAbove 0 es
ends-rise gs es l is = subst (RiseAbove 0) (sym is.ends) (rise 0 gs is.full)

-- those that end at or below an offset
no_ends : (s : ℕ) (g : Group) (gs : List Group) (offset : ℕ) → NoneEmpty gs → offset < s + size g → ended offset (ends_from s (g ∷ gs)) ≡ 0
no_ends s g gs offset full h = ended-no offset (s + size g) (ends_from (s + size g) gs) h ∙ ended-none offset (s + size g) (ends_from (s + size g) gs) (rise (s + size g) gs full) (omega (arith, h))

start_at : (s : ℕ) (gs : List Group) (offset r : ℕ) → NoneEmpty gs → s ≤ offset → r ≡ ended offset (ends_from s gs) → s + text_length (take r gs) ≤ offset
start_at s gs offset zero full h is = omega (arith, h)
start_at s [] offset (suc r) full h is = absurd (omega (arith, is))
start_at s (g ∷ gs) offset (suc r) full h is =
    elim (cases_lt offset (s + size g)) [
      | inl under ↦ absurd (omega (arith, is, no_ends s g gs offset full.1 under))
      | inr over ↦
          let rest : r ≡ ended offset (ends_from (s + size g) gs) = omega (arith, is, ended-yes offset (s + size g) (ends_from (s + size g) gs) over) in
          omega (arith, length-cons g (take r gs), start_at (s + size g) gs offset r full.1 over rest)
    ]

next_at : (s : ℕ) (gs : List Group) (offset r : ℕ) → NoneEmpty gs → r ≡ ended offset (ends_from s gs) → (r ≡ length gs) ⊎ (offset < s + text_length (take (suc r) gs))
next_at s [] offset r full is = inl is
next_at s (g ∷ gs) offset zero full is =
    elim (cases_lt offset (s + size g)) [
      | inl under ↦ inr (omega (arith, length-cons g [], under))
      | inr over ↦ absurd (omega (arith, is, ended-yes offset (s + size g) (ends_from (s + size g) gs) over))
    ]
next_at s (g ∷ gs) offset (suc r) full is =
    elim (cases_lt offset (s + size g)) [
      | inl under ↦ absurd (omega (arith, is, no_ends s g gs offset full.1 under))
      | inr over ↦
          let rest : r ≡ ended offset (ends_from (s + size g) gs) = omega (arith, is, ended-yes offset (s + size g) (ends_from (s + size g) gs) over) in
          elim (next_at (s + size g) gs offset r full.1 rest) [
            | inl all ↦ inl (omega (arith, all))
            | inr before ↦ inr (omega (arith, before, length-cons g (take (suc r) gs)))
          ]
    ]

pub placed_before : (gs : List Group) (es : List ℕ) (l offset r : ℕ) → IsPlaced gs es l → r ≡ ended offset es → IsBefore gs offset r
placed_before gs es l offset r is r_is =
    let at : r ≡ ended offset (ends_from 0 gs) = r_is ∙ ap (ended offset) is.ends in
    record {
      within = omega (arith, at, ended-within offset (ends_from 0 gs), ends-length 0 gs);
      start = omega (arith, start_at 0 gs offset r is.full (omega arith) at);
      next = elim (next_at 0 gs offset r is.full at) [ inl all ↦ inl all | inr under ↦ inr (omega (arith, under)) ];
    }

some_size : (b : List ℕ) (g : Group) → 1 ≤ length b → 0 < size (b ∷ g)
some_size b g h = omega (arith, h, length-append b (joined g))

pub has_size : (g : Group) → IsGroup g → 0 < size g
has_size [] h = absurd (omega (arith, h.0))
has_size (b ∷ g) h = some_size b g h.2.0.0

-- a boundary, and a place that is none
shown : (g : Group) (gs found : List Group) (n : ℕ) → 0 < size g → n ≡ size g + text_length found → groups_to (text_length found) gs ≡ Some found → groups_to n (g ∷ gs) ≡ Some (g ∷ found)
shown g gs found n some is more =
    let rest : n - size g ≡ text_length found = omega arith in
    let over : (n == 0) ≡ false = grind (arith, nat_tests) in
    let enough : nat_le (size g) n ≡ true = is_at_most (size g) n (omega arith) in
    rw (over, enough, rest, more) refl

pub boundary : (gs : List Group) (i : ℕ) → i ≤ length gs → NoneEmpty gs → groups_to (text_length (take i gs)) gs ≡ Some (take i gs)
boundary [] zero h full = refl
boundary [] (suc i) h full = refl
boundary (g ∷ gs) zero h full = refl
boundary (g ∷ gs) (suc i) h full = shown g gs (take i gs) _ full.0 (length-cons g (take i gs)) (boundary gs i (omega (arith, h)) full.1)

not_shown : (g : Group) (gs : List Group) (n : ℕ) → 0 < n → ((size g ≤ n) → groups_to (n - size g) gs ≡ None) → groups_to n (g ∷ gs) ≡ None
not_shown g gs n some more =
    let over : (n == 0) ≡ false = grind (arith, nat_tests) in
    elim (cases_lt n (size g)) [
      | inl under ↦ let less : nat_le (size g) n ≡ false = is_above (size g) n under in rw (over, less) refl
      | inr enough ↦ let fits : nat_le (size g) n ≡ true = is_at_most (size g) n enough in rw (over, fits, more enough) refl
    ]

past : (upto : ℕ) → 0 < upto → groups_to upto [] ≡ None
past upto h = let over : (upto == 0) ≡ false = grind (arith, nat_tests) in rw over refl

pub no_boundary : (gs : List Group) (i upto : ℕ) → i ≤ length gs → text_length (take i gs) < upto → (i ≡ length gs) ⊎ (upto < text_length (take (suc i) gs)) → groups_to upto gs ≡ None
no_boundary [] i upto h low high = past upto (omega (arith, low))
no_boundary (g ∷ gs) zero upto h low (inl none) = absurd (omega (arith, none))
no_boundary (g ∷ gs) zero upto h low (inr under) = not_shown g gs upto (omega (arith, low)) (λ enough. absurd (omega (arith, enough, under, length-cons g [])))
no_boundary (g ∷ gs) (suc i) upto h low (inl all) = not_shown g gs upto (omega (arith, low)) (λ enough. no_boundary gs i (upto - size g) (omega (arith, h)) (omega (arith, low, enough, length-cons g (take i gs))) (inl (omega (arith, all))))
no_boundary (g ∷ gs) (suc i) upto h low (inr under) = not_shown g gs upto (omega (arith, low)) (λ enough. no_boundary gs i (upto - size g) (omega (arith, h)) (omega (arith, low, enough, length-cons g (take i gs))) (inr (omega (arith, under, enough, length-cons g (take (suc i) gs)))))

-- one more
pub pushed : (gs more : List Group) (es ends : List ℕ) (l n end : ℕ) (g : Group) → IsPlaced gs es l → IsGroup g → n ≡ group_size g → end ≡ l + n →
    more ≡ gs ++ g ∷ [] → ends ≡ es ++ end ∷ [] → IsPlaced more ends end
pushed gs more es ends l n end g is group size_is end_is more_is ends_is =
    let n_is : n ≡ size g = size_is ∙ group_size-size g in
    let at : end ≡ 0 + text_length gs + size g = omega (arith, end_is, n_is, is.length) in
    record {
      ends = ends_is ∙ ap (λ l. l ++ end ∷ []) is.ends ∙ ap (λ k. ends_from 0 gs ++ k ∷ []) at ∙ sym (ends-push 0 gs g) ∙ ap (ends_from 0) (sym more_is);
      length = rw more_is (omega (arith, at, text_length-push gs g));
      full = subst NoneEmpty (sym more_is) (full-push gs g is.full (has_size g group));
    }

pub pushed-rise : (gs : List Group) (es : List ℕ) (l n end : ℕ) (g : Group) → IsPlaced gs es l → IsGroup g → n ≡ group_size g → end ≡ l + n → RiseAbove 0 (es ++ end ∷ [])
pushed-rise gs es l n end g is group size_is end_is = ends-rise (gs ++ g ∷ []) (es ++ end ∷ []) end (pushed gs (gs ++ g ∷ []) es (es ++ end ∷ []) l n end g is group size_is end_is refl refl)

ends-take : (s : ℕ) (gs : List Group) (i : ℕ) → take i (ends_from s gs) ≡ ends_from s (take i gs)
ends-take s gs zero = refl
ends-take s [] (suc i) = refl
ends-take s (g ∷ gs) (suc i) = ap (λ l. (s + size g) ∷ l) (ends-take (s + size g) gs i)

full-take : (gs : List Group) (i : ℕ) → NoneEmpty gs → NoneEmpty (take i gs)
full-take gs zero full = tt
full-take [] (suc i) full = tt
full-take (g ∷ gs) (suc i) full = (full.0, full-take gs i full.1)

-- cut to the first ones
pub cut : (gs : List Group) (es : List ℕ) (l i upto : ℕ) (left : List Group) (ends : List ℕ) → IsPlaced gs es l → text_length (take i gs) ≡ upto → left ≡ take i gs → ends ≡ take i es → IsPlaced left ends upto
cut gs es l i upto left ends is start left_is ends_is = record {
  ends = ends_is ∙ ap (take i) is.ends ∙ ends-take 0 gs i ∙ ap (ends_from 0) (sym left_is);
  length = sym (ap text_length left_is ∙ start);
  full = subst NoneEmpty (sym left_is) (full-take gs i is.full);
}

pub front_within : (gs : List Group) (i : ℕ) → text_length (take i gs) ≤ text_length gs
front_within gs zero = omega arith
front_within [] (suc i) = omega arith
front_within (g ∷ gs) (suc i) = omega (arith, front_within gs i, length-cons g gs, length-cons g (take i gs))

-- where a group starts that is not the first
pub starts : (gs : List Group) (es : List ℕ) (l i last x : ℕ) → IsPlaced gs es l → i ≤ length gs → 1 ≤ i → last ≡ i - 1 → x ≡ get_or es last 0 → x ≡ text_length (take i gs)
starts gs es l zero last x is h one last_is x_is = absurd (omega (arith, one))
starts gs es l (suc i) last x is h one last_is x_is =
    let at : last ≡ i = omega (arith, last_is) in
    x_is ∙ ap (λ (k : ℕ). get_or es k 0) at ∙ ap (λ (k : List ℕ). get_or k i 0) is.ends ∙ omega (arith, ends-at 0 gs i 0 (omega (arith, h)))

pub start_within : (gs : List Group) (es : List ℕ) (l i last : ℕ) → IsPlaced gs es l → i ≤ length gs → 1 ≤ i → last ≡ i - 1 → last < length es
start_within gs es l i last is h one last_is = omega (arith, last_is, h, one, ap length is.ends, ends-length 0 gs)

-- with one more group at the end each is a group
pub All-push : {A : Type 0} (P : A → Type 0) (xs : List A) (x : A) → AllByRecursion P xs → P x → AllByRecursion P (xs ++ x ∷ [])
All-push P [] x all p = (p, tt)
All-push P (y ∷ xs) x all p = (all.0, All-push P xs x all.1 p)
