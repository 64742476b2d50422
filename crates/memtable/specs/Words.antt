-- Bytes as numbers.
use Rattle.std.specs.Prelude.{ℕ, ◌+◌, ◌*◌, List, [], ◌∷◌, take, drop}

-- the number that bytes spell behind those of another, the first byte the greatest
abbrev pub number_behind : ℕ → List ℕ → ℕ
number_behind n [] = n
number_behind n (byte ∷ bytes) = number_behind (n * 256 + byte) bytes

-- the number that so many bytes spell, from a place on
abbrev pub number_at : ℕ → ℕ → List ℕ → ℕ
number_at at count bytes = number_behind 0 (take count (drop at bytes))
