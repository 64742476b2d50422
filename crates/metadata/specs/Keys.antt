-- Which keys a range of keys has.
use Rattle.std.specs.Prelude.{Bool, true, not, ◌&&◌, ℕ, List, Option, Some, None}
use Rattle.std.specs.Cmp.Lexicographic.{slice_cmp}
use Rattle.std.specs.Ordering.{nat_cmp, is_lt}
use Rattle.metadata.specs.declared.record.KeyRange.{KeyRange}

abbrev pub below_high : Option (List ℕ) → List ℕ → Bool
below_high None key = true
below_high (Some high) key = is_lt (slice_cmp nat_cmp key high)

-- from low on and below high, in byte order
abbrev pub within : KeyRange → List ℕ → Bool
within keys key = not (is_lt (slice_cmp nat_cmp key keys.low)) && below_high keys.high key
