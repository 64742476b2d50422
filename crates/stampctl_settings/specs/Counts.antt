-- How large a count of a storm may be.
use Rattle.std.specs.Prelude.{ℕ}
use Rattle.world_setup.specs.Limits.{IsFromTo}

-- one to a million
abbrev pub IsCount : ℕ → Type 0
IsCount = IsFromTo 1 1000000
