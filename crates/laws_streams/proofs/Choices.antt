-- Choices by a test, and functions that are changed at one place.
use Rattle.std.proofs.Common.{◌≡◌, ◌≢◌, ◌⊎◌, ℕ, zero, suc, ◌<◌, ◌&&◌, ◌==◌, List, [], ◌∷◌, ◌++◌, Some, slice_get, Contains, AllPairs, length, drop, slice_index_or, refl, sym, inl, inr, arith, eqb-true, subst}
use Rattle.std.proofs.lemmas.Bool.{eqb-false, and_cases, and_parts}
use Rattle.model_streams.specs.Maps.{changed, changed_at}
use Rattle.model_streams.proofs.Tests.{if_elim}
pub use Rattle.model_streams.proofs.Tests.{changed_elim}

-- a function that is changed at (n, e) has a property at (m, k), if the new value has it where they are the same
pub changed_at_elim : {A : Type 0} (P : A → Type 0) (n e : ℕ) (v : A) (f : ℕ → ℕ → A) (m k : ℕ) →
    (m ≡ n → k ≡ e → P v) → ((m ≢ n) ⊎ (k ≢ e) → P (f m k)) → P (changed_at n e v f m k)
changed_at_elim P n e v f m k same other =
    if_elim P ((m == n) && (k == e)) v (f m k)
    (λ t. let b = and_parts (m == n) (k == e) t in same (eqb-true m n b.0) (eqb-true k e b.1))
    (λ t. other (elim (and_cases (m == n) (k == e) t) [ inl x ↦ inl (eqb-false m n x) | inr x ↦ inr (eqb-false k e x) ]))

pub changed_at-same : {A : Type 0} (n e : ℕ) (v : A) (f : ℕ → ℕ → A) → changed_at n e v f n e ≡ v
changed_at-same n e v f = changed_at_elim (λ x. x ≡ v) n e v f n e (λ p q. refl) (λ o. elim o [ inl x ↦ absurd (x refl) | inr x ↦ absurd (x refl) ])

pub changed_at-other : {A : Type 0} (n e : ℕ) (v : A) (f : ℕ → ℕ → A) (m k : ℕ) → (m ≢ n) ⊎ (k ≢ e) → changed_at n e v f m k ≡ f m k
changed_at-other n e v f m k o =
    changed_at_elim (λ x. x ≡ f m k) n e v f m k (λ p q. elim o [ inl x ↦ absurd (x p) | inr x ↦ absurd (x q) ]) (λ h. refl)

pub changed-same : {A : Type 0} (e : ℕ) (v : A) (f : ℕ → A) → changed e v f e ≡ v
changed-same e v f = changed_elim (λ x. x ≡ v) e v f e (λ p. refl) (λ o. absurd (o refl))

pub changed-other : {A : Type 0} (e : ℕ) (v : A) (f : ℕ → A) (k : ℕ) → k ≢ e → changed e v f k ≡ f k
changed-other e v f k o = changed_elim (λ x. x ≡ f k) e v f k (λ p. absurd (o p)) (λ h. refl)

-- P holds of each element, by cases on the list
abbrev pub Each : {A : Type 0} → (A → Type 0) → List A → Type 0
Each P [] = Unit {0}
Each P (x ∷ xs) = P x × Each P xs

pub each-append : {A : Type 0} (P : A → Type 0) (xs ys : List A) → Each P xs → Each P ys → Each P (xs ++ ys)
each-append P [] ys a b = b
each-append P (x ∷ xs) ys a b = (a.0, each-append P xs ys a.1 b)

pub each-weaker : {A : Type 0} (P Q : A → Type 0) → ((x : A) → P x → Q x) → (xs : List A) → Each P xs → Each Q xs
each-weaker P Q f [] a = tt
each-weaker P Q f (x ∷ xs) a = (f x a.0, each-weaker P Q f xs a.1)

pub each-get : {A : Type 0} (P : A → Type 0) (xs : List A) (k : ℕ) (x : A) → Each P xs → slice_get xs k ≡ Some x → P x
each-get P [] k x a e = absurd (cc)
each-get P (y ∷ ys) zero x a e = let s : y ≡ x = cc in subst P s a.0
each-get P (y ∷ ys) (suc k) x a e = each-get P ys k x a.1 e

pub each-contains : {A : Type 0} (P : A → Type 0) (xs : List A) (x : A) → Each P xs → Contains xs x → P x
each-contains P [] x a (k, lt, e) = absurd (omega arith)
each-contains P (y ∷ ys) x a (zero, lt, e) = subst P e a.0
each-contains P (y ∷ ys) x a (suc k, lt, e) = each-contains P ys x a.1 (k, omega arith, e)

pub each-at : {A : Type 0} (P : A → Type 0) (xs : List A) (k : ℕ) (d : A) → k < length xs → Each P xs → P (slice_index_or xs k d)
each-at P [] k d h a = absurd (omega arith)
each-at P (x ∷ xs) zero d h a = a.0
each-at P (x ∷ xs) (suc k) d h a = each-at P xs k d (omega arith) a.1

pub each-drop : {A : Type 0} (P : A → Type 0) (k : ℕ) (xs : List A) → Each P xs → Each P (drop k xs)
each-drop P zero xs a = a
each-drop P (suc k) [] a = tt
each-drop P (suc k) (x ∷ xs) a = each-drop P k xs a.1

pub contains_get : {A : Type 0} (xs : List A) (k : ℕ) (x : A) → slice_get xs k ≡ Some x → Contains xs x
contains_get [] k x e = absurd cc
contains_get (y ∷ ys) zero x e = let s : y ≡ x = cc in (0, omega arith, s)
contains_get (y ∷ ys) (suc k) x e = let m = contains_get ys k x e in (suc m.0, omega (arith, m.1), m.2)

pub contains_left : {A : Type 0} (xs ys : List A) (x : A) → Contains xs x → Contains (xs ++ ys) x
contains_left [] ys x (k, l, e) = absurd (omega arith)
contains_left (z ∷ zs) ys x (zero, l, e) = (0, omega arith, e)
contains_left (z ∷ zs) ys x (suc k, l, e) = let m = contains_left zs ys x (k, omega arith, e) in (suc m.0, omega (arith, m.1), m.2)

pub contains_last : {A : Type 0} (xs : List A) (x : A) → Contains (xs ++ x ∷ []) x
contains_last [] x = (0, omega arith, refl)
contains_last (y ∷ ys) x = let m = contains_last ys x in (suc m.0, omega (arith, m.1), m.2)

pub contains_pushed : {A : Type 0} (xs : List A) (y x : A) → Contains (xs ++ y ∷ []) x → Contains xs x ⊎ (x ≡ y)
contains_pushed [] y x (zero, l, e) = inr (sym e)
contains_pushed [] y x (suc k, l, e) = absurd (omega arith)
contains_pushed (z ∷ zs) y x (zero, l, e) = inl (0, omega arith, e)
contains_pushed (z ∷ zs) y x (suc k, l, e) =
    elim (contains_pushed zs y x (k, omega arith, e)) [ inl m ↦ inl (suc m.0, omega (arith, m.1), m.2) | inr s ↦ inr s ]

-- R holds of each element and each later one
abbrev pub EachPair : {A : Type 0} → (A → A → Type 0) → List A → Type 0
EachPair R [] = Unit {0}
EachPair R (x ∷ xs) = Each (R x) xs × EachPair R xs

pub pairs-append : {A : Type 0} (R : A → A → Type 0) (xs ys : List A) → EachPair R xs → EachPair R ys → Each (λ x. Each (R x) ys) xs → EachPair R (xs ++ ys)
pairs-append R [] ys a b c = b
pairs-append R (x ∷ xs) ys a b c = (each-append (R x) xs ys a.0 c.0, pairs-append R xs ys a.1 b c.1)

pub all_pairs : {A : Type 0} (R : A → A → Type 0) (xs : List A) → EachPair R xs → AllPairs R xs
all_pairs R [] a i j d l h = absurd (omega arith)
all_pairs R (x ∷ xs) a zero zero d l h = absurd (omega arith)
all_pairs R (x ∷ xs) a zero (suc j) d l h = each-at (R x) xs j d (omega arith) a.0
all_pairs R (x ∷ xs) a (suc i) zero d l h = absurd (omega arith)
all_pairs R (x ∷ xs) a (suc i) (suc j) d l h = all_pairs R xs a.1 i j d (omega arith) (omega arith)
