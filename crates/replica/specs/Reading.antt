-- What is read from a replica.
use Rattle.std.specs.Prelude.{ℕ, List, [], ◌∷◌, ◌-◌, Option, Some, None, ◌==◌, nat_le, length, take, drop, if◌then◌else◌}
use Rattle.replica.specs.Groups.{Group, text, size}

-- so many bytes from an offset on
abbrev pub bytes_at : ℕ → ℕ → List Group → List ℕ
bytes_at offset count groups = take count (drop offset (text groups))

abbrev pub after_group : Group → Option (List Group) → Option (List Group)
after_group group None = None
after_group group (Some groups) = Some (group ∷ groups)

-- the first groups, of this many bytes together; none where a group goes over that boundary
abbrev pub groups_to : ℕ → List Group → Option (List Group)
groups_to upto [] = if upto == 0 then Some [] else None
groups_to upto (group ∷ groups) =
    if upto == 0 then Some []
    else if nat_le (size group) upto then after_group group (groups_to (upto - size group) groups) else None

abbrev pub behind : List Group → Option (List Group) → Option (List Group)
behind groups None = None
behind groups (Some front) = Some (drop (length front) groups)

-- the groups after that boundary; none where a group goes over it
abbrev pub groups_from : ℕ → List Group → Option (List Group)
groups_from from groups = behind groups (groups_to from groups)
