-- What keys and values are allowed.
use Rattle.std.specs.Prelude.{ℕ, ◌≤◌, Bool, List, length, nat_lt}

abbrev pub IsKey : List ℕ → Type 0
IsKey key = (1 ≤ length key) × (length key ≤ 256)

abbrev pub IsValue : List ℕ → Type 0
IsValue value = length value ≤ 65536

-- more than 4,096 bytes
abbrev pub is_large : List ℕ → Bool
is_large value = nat_lt 4096 (length value)
