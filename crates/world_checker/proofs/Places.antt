-- Places in a list, and which of two comes first.
use Rattle.std.proofs.Common.{◌≡◌, ◌⊎◌, ℕ, zero, suc, ◌+◌, ◌<◌, ◌≤◌, List, [], ◌∷◌, length, get_or, Some, refl, arith}

pub same_at : {X : Type 0} (xs : List X) (i : ℕ) (d e : X) → i < length xs → get_or xs i d ≡ get_or xs i e
same_at [] i d e l = absurd (omega arith)
same_at (x ∷ xs) zero d e l = refl
same_at (x ∷ xs) (suc i) d e l = same_at xs i d e (omega arith)

pub three : (i j : ℕ) → (i < j) ⊎ ((j < i) ⊎ (i ≡ j))
three i j = grind arith

pub below_or_at : (i n : ℕ) → i < n + 1 → (i < n) ⊎ (i ≡ n)
below_or_at i n l = grind arith

pub below_or_not : (m n : ℕ) → (m < n) ⊎ (n ≤ m)
below_or_not m n = grind arith

pub same_number : (a b : ℕ) → (Some a ≡ Some b) → a ≡ b
same_number a b e = cc
