-- Where a numbered group stands in the line that a log makes.
use Rattle.std.specs.Prelude.{◌≡◌, ℕ, suc, ◌+◌, List, ◌++◌, length}
use Rattle.commitlog.specs.Replay.{Numbered}

-- the number after the last of a group
abbrev pub next_after : {A : Type 0} → Numbered A → ℕ
next_after group = group.first + length group.items

-- the group stands in the line at its numbers
pub record StandsIn {A : Type 0} (line : List A) (group : Numbered A) : Type 0 where
  pub before : List A
  pub after : List A
  pub is : line ≡ before ++ (group.items ++ after)
  pub at : suc (length before) ≡ group.first
