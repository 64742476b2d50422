-- For what there is memory.
use Rattle.std.specs.Prelude.{ℕ, ◌+◌, ◌≤◌, List, [], ◌∷◌, length}
use Rattle.replica.specs.Groups.{Group, size, text_length}

-- for how many more bytes, blocks and groups
pub record Room : Type 0 where
  pub text : ℕ
  pub blocks : ℕ
  pub groups : ℕ

-- how many blocks groups have
abbrev pub block_count : List Group → ℕ
block_count [] = 0
block_count (group ∷ groups) = length group + block_count groups

-- there is memory for these groups
pub record HasRoom (room : Room) (more : List Group) : Type 0 where
  pub text : text_length more ≤ room.text
  pub blocks : block_count more ≤ room.blocks
  pub groups : length more ≤ room.groups

-- a group took no more of the memory than it needs
pub record TakesRoom (before after : Room) (group : Group) : Type 0 where
  pub text : before.text ≤ after.text + size group
  pub blocks : before.blocks ≤ after.blocks + length group
  pub groups : before.groups ≤ after.groups + 1
