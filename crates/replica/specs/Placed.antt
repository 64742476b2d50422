-- Groups, and where each of them ends.
use Rattle.std.specs.Prelude.{◌≡◌, ◌⊎◌, ℕ, suc, ◌+◌, ◌<◌, ◌≤◌, List, [], ◌∷◌, length, take, Option, Some, None}
use Rattle.replica.specs.Groups.{Group, size, text_length}
use Rattle.replica.specs.Room.{Room}

-- and for what there is memory
pub record Placed : Type 0 where
  pub groups : List Group
  pub room : Room

-- the end of each, where the first one starts there
abbrev pub ends_from : ℕ → List Group → List ℕ
ends_from start [] = []
ends_from start (group ∷ groups) = (start + size group) ∷ ends_from (start + size group) groups

-- each group has a byte
abbrev pub NoneEmpty : List Group → Type 0
NoneEmpty [] = Unit {0}
NoneEmpty (group ∷ groups) = (0 < size group) × NoneEmpty groups

pub record IsPlaced (groups : List Group) (stops : List ℕ) (len : ℕ) : Type 0 where
  pub ends : stops ≡ ends_from 0 groups
  pub length : len ≡ text_length groups
  pub full : NoneEmpty groups

-- the first groups, so many, end at or before an offset, and the one after them ends after it
pub record IsBefore (groups : List Group) (offset index : ℕ) : Type 0 where
  pub within : index ≤ length groups
  pub start : text_length (take index groups) ≤ offset
  pub next : (index ≡ length groups) ⊎ (offset < text_length (take (suc index) groups))

-- so many of the first groups
abbrev pub first : Option ℕ → List Group → Option (List Group)
first None groups = None
first (Some count) groups = Some (take count groups)

-- the groups that were found, or else all
abbrev pub found_or : Option (List Group) → List Group → List Group
found_or None groups = groups
found_or (Some found) groups = found
