-- Groups, as their text, the sizes of their blocks and the number of the last block of each spell them.
use Rattle.std.specs.Prelude.{◌≡◌, ℕ, ◌+◌, ◌-◌, List, [], ◌∷◌, length, take, drop, ◌++◌}
use Rattle.std.specs.List.{AllByRecursion}
use Rattle.block_types.specs.Limits.{IsGroup}
use Rattle.replica.specs.Groups.{Group, size, text}
use Rattle.replica.specs.Placed.{IsPlaced}

-- the blocks of these sizes, one after the other
abbrev pub blocks_of : List ℕ → List ℕ → Group
blocks_of [] bytes = []
blocks_of (n ∷ sizes) bytes = take n bytes ∷ blocks_of sizes (drop n bytes)

-- the groups, so many blocks after the first ones
unfoldable pub groups_of : ℕ → List ℕ → List ℕ → List ℕ → List Group
groups_of before [] sizes bytes = []
groups_of before (last ∷ lasts) sizes bytes =
    let group : Group = blocks_of (take (last - before) sizes) bytes in
    group ∷ groups_of last lasts (drop (last - before) sizes) (drop (size group) bytes)

-- how many blocks there are up to the last one of each group
abbrev pub lasts_from : ℕ → List Group → List ℕ
lasts_from before [] = []
lasts_from before (group ∷ groups) = (before + length group) ∷ lasts_from (before + length group) groups

-- how many bytes each block of a group has
abbrev pub block_sizes : Group → List ℕ
block_sizes [] = []
block_sizes (block ∷ blocks) = length block ∷ block_sizes blocks

-- and each block of groups
abbrev pub sizes_of : List Group → List ℕ
sizes_of [] = []
sizes_of (group ∷ groups) = block_sizes group ++ sizes_of groups

pub record IsSpelled (groups : List Group) (stops lasts sizes bytes : List ℕ) (len : ℕ) : Type 0 where
  pub placed : IsPlaced groups stops len
  pub counted : lasts ≡ lasts_from 0 groups
  pub measured : sizes ≡ sizes_of groups
  pub spelled : bytes ≡ text groups
  pub all : AllByRecursion IsGroup groups
