-- Groups that bring a replica to its length.
use Rattle.std.specs.Prelude.{◌≡◌, ℕ, ◌+◌, ◌≤◌, List, length}
use Rattle.std.specs.List.{AllByRecursion}
use Rattle.block_types.specs.Limits.{IsGroup}
use Rattle.replica.specs.Groups.{Group, text_length}
use Rattle.replica.specs.Replay.{longest}

-- groups that end at a length of an extent
pub record IsFill (from end : ℕ) (groups : List Group) : Type 0 where
  pub some : 1 ≤ length groups
  pub each : AllByRecursion IsGroup groups
  pub sum : from + text_length groups ≡ end
  pub bound : end ≤ longest
