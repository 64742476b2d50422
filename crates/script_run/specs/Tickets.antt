-- The tickets of users.
use Rattle.std.specs.Prelude.{◌≡◌, ℕ, suc, ◌^◌, ◌-◌, List, min}
use Rattle.std.specs.Map.{lookup}
use Rattle.std.specs.BTreeMap.{is_at}
use Rattle.std.specs.Option.{unwrap_or}
use Rattle.std.specs.Ordering.{nat_cmp}

-- how many tickets a user has taken, of a table that has users with theirs
abbrev pub taken_by : List (ℕ × ℕ) → ℕ → ℕ
taken_by tickets user = unwrap_or (lookup (is_at (nat_cmp user)) tickets) 0

-- the user takes this ticket, the next of its own
pub record Takes (tickets : List (ℕ × ℕ)) (user ticket : ℕ) (after : List (ℕ × ℕ)) : Type 0 where
  pub next : ticket ≡ taken_by tickets user
  pub counted : taken_by after user ≡ min (suc ticket) (2 ^ 64 - 1)
  pub others : (other : ℕ) → (other ≡ user → ⊥) → taken_by after other ≡ taken_by tickets other
