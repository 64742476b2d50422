-- The blocks of an append.
use Rattle.std.specs.Prelude.{ℕ, Bool, ◌&&◌, not, nat_lt, nat_le, length, List}
use Rattle.std.specs.List.{list_any}

-- a block has 1 to 65,536 bytes
abbrev pub is_block : List ℕ → Bool
is_block block = nat_lt 0 (length block) && nat_le (length block) 65536

-- some block has no byte, or too many
abbrev pub has_bad_block : List (List ℕ) → Bool
has_bad_block blocks = list_any (λ b. not (is_block b)) blocks
