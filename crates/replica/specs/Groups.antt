-- Groups of blocks, and their text (after Calder et al., SOSP 2011, section 4.1).
use Rattle.std.specs.Prelude.{ℕ, List, [], ◌∷◌, ◌++◌, length}

-- a group is a list of blocks, and a block is bytes
abbrev pub Group : Type 0
Group = List (List ℕ)

-- the blocks' bytes joined
abbrev pub joined : Group → List ℕ
joined [] = []
joined (block ∷ blocks) = block ++ joined blocks

-- the bytes of all groups joined
abbrev pub text : List Group → List ℕ
text [] = []
text (group ∷ groups) = joined group ++ text groups

-- how many bytes a group has
abbrev pub size : Group → ℕ
size group = length (joined group)

-- how many bytes a list of groups has
abbrev pub text_length : List Group → ℕ
text_length groups = length (text groups)
