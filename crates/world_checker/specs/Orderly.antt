-- Where groups that do not overlap begin, by where they end.
use Rattle.std.specs.Prelude.{◌≡◌, ℕ, ◌<◌, ◌≤◌, Option, Some}

-- each begins before it ends, and one that ends before another ends where that begins or before
pub record IsOrderly (starts : ℕ → Option ℕ) : Type 0 where
  pub some : (end start : ℕ) → starts end ≡ Some start → start < end
  pub apart : (end start last first : ℕ) → starts end ≡ Some start → starts last ≡ Some first → end < last → end ≤ first
