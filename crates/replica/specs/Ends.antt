-- Where groups end, and how many of their ends a search reads.
use Rattle.std.specs.Prelude.{ℕ, zero, suc, ◌+◌, ◌/◌, ◌<◌, ◌==◌, if◌then◌else◌, List, [], ◌∷◌}

-- the ends, and for how many more of them there is memory
pub record EndList : Type 0 where
  pub ends : List ℕ
  pub room : ℕ

-- each is above the one before it, and the first above this one
abbrev pub RiseAbove : ℕ → List ℕ → Type 0
RiseAbove last [] = Unit {0}
RiseAbove last (end ∷ ends) = (last < end) × RiseAbove end ends

-- how often a number is halved until it is 0, at most so many times
abbrev pub halvings : ℕ → ℕ → ℕ
halvings zero n = 0
halvings (suc most) n = if n == 0 then 0 else 1 + halvings most (n / 2)

-- how many binary digits a number has; 0 has none
unfoldable pub binary_digits : ℕ → ℕ
binary_digits n = halvings n n
