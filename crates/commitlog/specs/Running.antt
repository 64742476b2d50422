-- A count that runs along a list.
use Rattle.std.specs.Prelude.{ℕ, ◌+◌, List, [], ◌∷◌}

-- what f gives of each item at the count, which is n before the first item and grows by the size of each
abbrev pub running : {A B : Type 0} → (ℕ → A → B) → (A → ℕ) → ℕ → List A → List B
running f size n [] = []
running f size n (x ∷ xs) = f n x ∷ running f size (n + size x) xs
