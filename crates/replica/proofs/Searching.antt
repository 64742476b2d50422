-- What a search among ends that rise comes to, and how many of them it reads.
use Rattle.std.proofs.Common.{◌≡◌, ℕ, ◌==◌, zero, suc, ◌+◌, ◌/◌, ◌^◌, pow-suc, ◌<◌, ◌≤◌, true, false, nat_le, List, [], ◌∷◌, length, get_or, take, refl, sym, ap, ◌∙◌, inl, inr, arith}
use Rattle.std.proofs.lemmas.Bool.{cases_lt}
use Rattle.std.proofs.lemmas.Bool.Decides.{nat_tests}
use Rattle.std.specs.List.{filter}
use Rattle.replica.specs.Ends.{RiseAbove, halvings, binary_digits}

-- how many are at or below an offset
abbrev pub ended : ℕ → List ℕ → ℕ
ended offset ends = length (filter (λ e. nat_le e offset) ends)

is_at_most : (a b : ℕ) → a ≤ b → nat_le a b ≡ true
is_at_most a b h = grind (arith, nat_tests)

is_above : (a b : ℕ) → b < a → nat_le a b ≡ false
is_above a b h = grind (arith, nat_tests)

pub ended-yes : (offset end : ℕ) (ends : List ℕ) → end ≤ offset → ended offset (end ∷ ends) ≡ suc (ended offset ends)
ended-yes offset end ends h = let e : nat_le end offset ≡ true = is_at_most end offset h in rw e refl

pub ended-no : (offset end : ℕ) (ends : List ℕ) → offset < end → ended offset (end ∷ ends) ≡ ended offset ends
ended-no offset end ends h = let e : nat_le end offset ≡ false = is_above end offset h in rw e refl

pub ended-none : (offset last : ℕ) (ends : List ℕ) → RiseAbove last ends → offset ≤ last → ended offset ends ≡ 0
ended-none offset last [] rise h = refl
ended-none offset last (end ∷ ends) rise h = ended-no offset end ends (omega (arith, rise.0, h)) ∙ ended-none offset end ends rise.1 (omega (arith, rise.0, h))

above_last : (last : ℕ) (ends : List ℕ) (i : ℕ) → RiseAbove last ends → i < length ends → last < get_or ends i 0
above_last last [] i rise h = absurd (omega (arith, h))
above_last last (end ∷ ends) zero rise h = rise.0
above_last last (end ∷ ends) (suc i) rise h = omega (arith, rise.0, above_last end ends i rise.1 (omega (arith, h)))

-- an end at or below the offset, and one above it
pub ended-more : (offset last : ℕ) (ends : List ℕ) (i : ℕ) → RiseAbove last ends → i < length ends → get_or ends i 0 ≤ offset → i < ended offset ends
ended-more offset last [] i rise h at = absurd (omega (arith, h))
ended-more offset last (end ∷ ends) zero rise h at = omega (arith, ended-yes offset end ends at)
ended-more offset last (end ∷ ends) (suc i) rise h at =
    let below : end ≤ offset = omega (arith, at, above_last end ends i rise.1 (omega (arith, h))) in
    omega (arith, ended-yes offset end ends below, ended-more offset end ends i rise.1 (omega (arith, h)) at)

pub ended-fewer : (offset last : ℕ) (ends : List ℕ) (i : ℕ) → RiseAbove last ends → i < length ends → offset < get_or ends i 0 → ended offset ends ≤ i
ended-fewer offset last [] i rise h at = absurd (omega (arith, h))
ended-fewer offset last (end ∷ ends) zero rise h at = omega (arith, ended-no offset end ends at, ended-none offset end ends rise.1 (omega (arith, at)))
ended-fewer offset last (end ∷ ends) (suc i) rise h at =
    let rest : ended offset ends ≤ i = ended-fewer offset end ends i rise.1 (omega (arith, h)) at in
    elim (cases_lt offset end) [
      | inl under ↦ omega (arith, ended-no offset end ends under, rest)
      | inr over ↦ omega (arith, ended-yes offset end ends over, rest)
    ]

pub ended-within : (offset : ℕ) (ends : List ℕ) → ended offset ends ≤ length ends
ended-within offset [] = omega arith
ended-within offset (end ∷ ends) =
    elim (cases_lt offset end) [
      | inl under ↦ omega (arith, ended-no offset end ends under, ended-within offset ends)
      | inr over ↦ omega (arith, ended-yes offset end ends over, ended-within offset ends)
    ]

pub rise-take : (last : ℕ) (ends : List ℕ) (count : ℕ) → RiseAbove last ends → RiseAbove last (take count ends)
rise-take last ends zero rise = tt
rise-take last [] (suc count) rise = tt
rise-take last (end ∷ ends) (suc count) rise = (rise.0, rise-take end ends count rise.1)

-- binary digits
halvings-none : (most : ℕ) → halvings most 0 ≡ 0
halvings-none zero = refl
halvings-none (suc most) = refl

halvings-one : (most n : ℕ) → 0 < n → halvings (suc most) n ≡ 1 + halvings most (n / 2)
halvings-one most n h = let some : (n == 0) ≡ false = grind (arith, nat_tests) in rw some refl

halvings-same : (a b n : ℕ) → n ≤ a → n ≤ b → halvings a n ≡ halvings b n
halvings-same zero b n h k = let none : n ≡ 0 = omega (arith, h) in rw none (sym (halvings-none b))
halvings-same (suc a) zero n h k = let none : n ≡ 0 = omega (arith, k) in rw none refl
halvings-same (suc a) (suc b) n h k =
    elim (cases_lt 0 n) [
      | inl some ↦ halvings-one a n some ∙ ap (λ x. 1 + x) (halvings-same a b (n / 2) (omega (arith, h, some)) (omega (arith, k, some))) ∙ sym (halvings-one b n some)
      | inr none ↦ let is : n ≡ 0 = omega (arith, none) in rw is refl
    ]

pub binary_digits-half : (n : ℕ) → 0 < n → binary_digits n ≡ 1 + binary_digits (n / 2)
unfolding binary_digits
binary_digits-half zero h = absurd (omega (arith, h))
binary_digits-half (suc n) h = halvings-one n (suc n) h ∙ ap (λ x. 1 + x) (halvings-same n (suc n / 2) (suc n / 2) (omega arith) (omega arith))

halvings-rise : (most a b : ℕ) → a ≤ b → halvings most a ≤ halvings most b
halvings-rise zero a b h = omega arith
halvings-rise (suc most) a b h =
    elim (cases_lt 0 a) [
      | inl some ↦ omega (arith, halvings-one most a some, halvings-one most b (omega (arith, some, h)), halvings-rise most (a / 2) (b / 2) (omega (arith, h)))
      | inr none ↦ let is : a ≡ 0 = omega (arith, none) in rw is (omega arith)
    ]

pub binary_digits-rise : (a b : ℕ) → a ≤ b → binary_digits a ≤ binary_digits b
unfolding binary_digits
binary_digits-rise a b h = omega (arith, halvings-same a b a (omega arith) h, halvings-rise b a b h)

-- one look fewer for at most half as many
pub one_probe : (n m : ℕ) → 0 < n → m ≤ n / 2 → binary_digits m + 1 ≤ binary_digits n
one_probe n m some h = omega (arith, binary_digits-half n some, binary_digits-rise m (n / 2) h)

halvings-short : (k most n : ℕ) → n < 2 ^ k → halvings most n ≤ k
halvings-short zero most n h = let none : n ≡ 0 = omega (arith, h) in rw (none, halvings-none most) (omega arith)
halvings-short (suc k) zero n h = omega arith
halvings-short (suc k) (suc most) n h =
    elim (cases_lt 0 n) [
      | inl some ↦ omega (arith, halvings-one most n some, halvings-short k most (n / 2) (omega (arith, h, pow-suc 2 k)))
      | inr none ↦ let is : n ≡ 0 = omega (arith, none) in rw is (omega arith)
    ]

pub binary_digits-short : (n : ℕ) → n < 2 ^ 64 → binary_digits n ≤ 64
unfolding binary_digits
binary_digits-short n h = halvings-short 64 n n h
