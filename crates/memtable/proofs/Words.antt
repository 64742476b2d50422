-- Lists of bytes that are compared as the numbers that some of their bytes spell.
use Rattle.std.proofs.Common.{◌≡◌, ℕ, zero, suc, ◌+◌, ◌-◌, ◌*◌, ◌≤◌, ◌<◌, min, List, [], ◌∷◌, length, get_or, take, drop, Fits, w8, refl, sym, ap, subst, ◌∙◌, ◌⊎◌, inl, inr, arith, length-drop, get_or-drop, drop-cons}
use Rattle.std.specs.Ordering.{MatchOrdering, nat_cmp, ordering_then}
use Rattle.std.specs.Cmp.Lexicographic.{slice_cmp}
use Rattle.std.specs.declared.cmp.Ordering.{Ordering}
use Rattle.std.specs.declared.cmp.Ordering.TheVariants.{Less, Equal, Greater}
use Rattle.std.proofs.lemmas.Cmp.{ranked, by_ranked}
use Rattle.memtable.specs.Words.{number_behind, number_at}

abbrev AreBytes : List ℕ → Type 0
AreBytes xs = (k : ℕ) → Fits w8 (get_or xs k 0)

abbrev order : List ℕ → List ℕ → Ordering
order = slice_cmp nat_cmp

-- the bytes before a place are equal
abbrev pub AreAlike : List ℕ → List ℕ → ℕ → Type 0
AreAlike xs ys n = (k : ℕ) → k < n → get_or xs k 0 ≡ get_or ys k 0

-- two numbers compare as the lists do, and are equal only where the bytes before a place are
pub record Settles (xs ys : List ℕ) (n x y : ℕ) : Type 0 where
  pub apart : (x ≡ y → ⊥) → order xs ys ≡ nat_cmp x y
  pub alike : x ≡ y → AreAlike xs ys n

-- ---- the order of two numbers

rank : (x y : ℕ) → MatchOrdering (nat_cmp x y) (x < y) (x ≡ y) (y < x)
rank x y = ranked x y (nat_cmp x y) refl

below : (x y : ℕ) → x < y → nat_cmp x y ≡ Less
below x y lt = by_ranked (x < y) (x ≡ y) (y < x) (nat_cmp x y) (rank x y) (λ e _. e) (λ _ e. absurd (omega arith)) (λ _ gt. absurd (omega arith))

above : (x y : ℕ) → y < x → nat_cmp x y ≡ Greater
above x y gt = by_ranked (x < y) (x ≡ y) (y < x) (nat_cmp x y) (rank x y) (λ _ lt. absurd (omega arith)) (λ _ e. absurd (omega arith)) (λ e _. e)

level : (x y : ℕ) → x ≡ y → nat_cmp x y ≡ Equal
level x y same = by_ranked (x < y) (x ≡ y) (y < x) (nat_cmp x y) (rank x y) (λ _ lt. absurd (omega arith)) (λ e _. e) (λ _ gt. absurd (omega arith))

-- ---- the order of lists, behind what is alike

first_is : (x y : ℕ) (xs ys : List ℕ) (r : Ordering) → nat_cmp x y ≡ r → order (x ∷ xs) (y ∷ ys) ≡ ordering_then r (order xs ys)
first_is x y xs ys r e = ap (λ (o : Ordering). ordering_then o (order xs ys)) e

past : (i : ℕ) (xs ys : List ℕ) → i ≤ length xs → i ≤ length ys → AreAlike xs ys i → order xs ys ≡ order (drop i xs) (drop i ys)
past zero xs ys p q h = refl
past (suc i) [] ys p q h = absurd (omega arith)
past (suc i) (x ∷ xs) [] p q h = absurd (omega arith)
past (suc i) (x ∷ xs) (y ∷ ys) p q h =
    first_is x y xs ys Equal (level x y (h 0 (omega arith))) ∙ past i xs ys (omega arith) (omega arith) (λ k lt. h (suc k) (omega arith))

-- where the bytes of the shorter one are alike the lengths decide
pub by_lengths : (xs ys : List ℕ) (n : ℕ) → n ≡ min (length xs) (length ys) → AreAlike xs ys n → nat_cmp (length xs) (length ys) ≡ order xs ys
by_lengths [] [] n is h = level 0 0 refl
by_lengths [] (y ∷ ys) n is h = below 0 (suc (length ys)) (omega arith)
by_lengths (x ∷ xs) [] n is h = above (suc (length xs)) 0 (omega arith)
by_lengths (x ∷ xs) (y ∷ ys) n is h =
    let rest = by_lengths xs ys (min (length xs) (length ys)) refl (λ k lt. h (suc k) (omega arith)) in
    let more = same_rank (length xs) (length ys) in
    more ∙ rest ∙ sym (first_is x y xs ys Equal (level x y (h 0 (omega arith))))
  where
    same_rank : (m n : ℕ) → nat_cmp (suc m) (suc n) ≡ nat_cmp m n
    same_rank m n = by_ranked (m < n) (m ≡ n) (n < m) (nat_cmp m n) (rank m n)
        (λ e lt. below (suc m) (suc n) (omega arith) ∙ sym e) (λ e same. level (suc m) (suc n) (omega arith) ∙ sym e) (λ e gt. above (suc m) (suc n) (omega arith) ∙ sym e)

-- ---- bytes as numbers

-- what is above in front stays above with more bytes behind
rises : (n a b : ℕ) (xs ys : List ℕ) → n ≤ length xs → n ≤ length ys → AreBytes xs → a < b → number_behind a (take n xs) < number_behind b (take n ys)
rises zero a b xs ys p q bytes lt = lt
rises (suc n) a b [] ys p q bytes lt = absurd (omega arith)
rises (suc n) a b (x ∷ xs) [] p q bytes lt = absurd (omega arith)
rises (suc n) a b (x ∷ xs) (y ∷ ys) p q bytes lt =
    let small : x < 256 = (bytes 0).fits in
    rises n (a * 256 + x) (b * 256 + y) xs ys (omega arith) (omega arith) (λ k. bytes (suc k)) (omega arith)

spelled : (n a : ℕ) (xs ys : List ℕ) → n ≤ length xs → n ≤ length ys → AreBytes xs → AreBytes ys → Settles xs ys n (number_behind a (take n xs)) (number_behind a (take n ys))
spelled zero a xs ys p q of_xs of_ys = record { apart = λ unequal. absurd (unequal refl); alike = λ _ k lt. absurd (omega arith) }
spelled (suc n) a [] ys p q of_xs of_ys = absurd (omega arith)
spelled (suc n) a (x ∷ xs) [] p q of_xs of_ys = absurd (omega arith)
spelled (suc n) a (x ∷ xs) (y ∷ ys) p q of_xs of_ys =
    by (spelled n (a * 256 + x) xs ys (omega arith) (omega arith) (λ k. of_xs (suc k)) (λ k. of_ys (suc k))) (nat_cmp x y) refl (rank x y)
  where
    by : Settles xs ys n (number_behind (a * 256 + x) (take n xs)) (number_behind (a * 256 + x) (take n ys)) → (r : Ordering) → nat_cmp x y ≡ r → MatchOrdering r (x < y) (x ≡ y) (y < x)
        → Settles (x ∷ xs) (y ∷ ys) (suc n) (number_behind (a * 256 + x) (take n xs)) (number_behind (a * 256 + y) (take n ys))
    by rest Less e lies =
        let lt : x < y = lies in
        let less = rises n (a * 256 + x) (a * 256 + y) xs ys (omega arith) (omega arith) (λ k. of_xs (suc k)) (omega arith) in
        record { apart = λ _. first_is x y xs ys Less e ∙ sym (below _ _ less); alike = λ same. absurd (omega arith) }
    by rest Greater e lies =
        let gt : y < x = lies in
        let less = rises n (a * 256 + y) (a * 256 + x) ys xs (omega arith) (omega arith) (λ k. of_ys (suc k)) (omega arith) in
        record { apart = λ _. first_is x y xs ys Greater e ∙ sym (above _ _ less); alike = λ same. absurd (omega arith) }
    by rest Equal e lies =
        let same_first : x ≡ y = lies in
        let both = subst (λ (z : ℕ). Settles xs ys n (number_behind (a * 256 + x) (take n xs)) (number_behind (a * 256 + z) (take n ys))) same_first rest in
        record { apart = λ unequal. first_is x y xs ys Equal e ∙ both.apart unequal; alike = λ same. joined same_first (both.alike same) }
      where
        joined : x ≡ y → AreAlike xs ys n → AreAlike (x ∷ xs) (y ∷ ys) (suc n)
        joined same_first rest_alike zero lt = same_first
        joined same_first rest_alike (suc k) lt = rest_alike k (omega arith)

-- so many bytes from a place on, where those before it are alike: equal numbers are equal bytes, and others compare as the lists do
window : (xs ys : List ℕ) → AreBytes xs → AreBytes ys → (at n : ℕ) → at + n ≤ length xs → at + n ≤ length ys → AreAlike xs ys at → Settles xs ys (at + n) (number_at at n xs) (number_at at n ys)
window xs ys of_xs of_ys at n p q before =
    let here = spelled n 0 (drop at xs) (drop at ys) (omega (arith, length-drop at xs)) (omega (arith, length-drop at ys)) (moved xs of_xs) (moved ys of_ys) in
    record {
      apart = λ unequal. past at xs ys (omega arith) (omega arith) before ∙ here.apart unequal;
      alike = λ same k lt. by k lt (here.alike same) (split k at);
    }
  where
    moved : (zs : List ℕ) → AreBytes zs → AreBytes (drop at zs)
    moved zs bytes k = subst (Fits w8) (sym (get_or-drop at zs k 0)) (bytes (at + k))

    split : (k i : ℕ) → (k < i) ⊎ (i ≤ k)
    split k i = by_ranked (k < i) (k ≡ i) (i < k) (nat_cmp k i) (rank k i) (λ _ lt. inl lt) (λ _ e. inr (omega arith)) (λ _ gt. inr (omega arith))

    by : (k : ℕ) → k < at + n → AreAlike (drop at xs) (drop at ys) n → (k < at) ⊎ (at ≤ k) → get_or xs k 0 ≡ get_or ys k 0
    by k lt behind (inl front) = before k front
    by k lt behind (inr back) =
        let is : at + (k - at) ≡ k = omega arith in
        let there = sym (get_or-drop at xs (k - at) 0) ∙ behind (k - at) (omega arith) ∙ get_or-drop at ys (k - at) 0 in
        subst (λ (j : ℕ). get_or xs j 0 ≡ get_or ys j 0) is there

pub word : (xs ys : List ℕ) → AreBytes xs → AreBytes ys → (at n x y : ℕ) → at + n ≤ length xs → at + n ≤ length ys → x ≡ number_at at n xs → y ≡ number_at at n ys → AreAlike xs ys at → Settles xs ys (at + n) x y
word xs ys of_xs of_ys at n x y p q x_is y_is before =
    subst (λ (z : ℕ). Settles xs ys (at + n) z y) (sym x_is) (subst (λ (z : ℕ). Settles xs ys (at + n) (number_at at n xs) z) (sym y_is) (window xs ys of_xs of_ys at n p q before))

pub fewer : (xs ys : List ℕ) (i j : ℕ) → i ≤ j → AreAlike xs ys j → AreAlike xs ys i
fewer xs ys i j le alike k lt = alike k (omega arith)

pub none_before : (xs ys : List ℕ) → AreAlike xs ys 0
none_before xs ys k lt = absurd (omega arith)

-- one byte
pub byte : (xs ys : List ℕ) → AreBytes xs → AreBytes ys → (at : ℕ) → at < length xs → at < length ys → AreAlike xs ys at → Settles xs ys (at + 1) (get_or xs at 0) (get_or ys at 0)
byte xs ys of_xs of_ys at p q before = word xs ys of_xs of_ys at 1 _ _ (omega arith) (omega arith) (read xs p) (read ys q) before
  where
    read : (zs : List ℕ) → at < length zs → get_or zs at 0 ≡ number_at at 1 zs
    read zs lt = sym (ap (λ (l : List ℕ). number_behind 0 (take 1 l)) (drop-cons zs at 0 lt) ∙ omega arith)
