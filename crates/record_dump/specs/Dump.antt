-- The lines of records.
use Rattle.std.specs.Prelude.{◌≡◌, ℕ, List, [], ◌∷◌, ◌++◌, codes, decimal, length}
use Rattle.std.specs.List.{flat_map}
use Rattle.block_types.specs.Limits.{group_size}
use Rattle.block_types.specs.declared.record.Record.{Record}
use Rattle.block_types.specs.declared.record.Record.TheVariants as kinds
use Rattle.block_types.specs.declared.record.Version.{Version}
use Rattle.disk.specs.File.{IsFileOf}

-- 32 is the blank; the size of an append is that of its group, and that of a manage is all behind the kind
abbrev pub line_of : Record → List ℕ
line_of (kinds.Make extent fence target nodes) =
    codes "make " ++ decimal extent ++ 32 ∷ decimal fence ++ 32 ∷ decimal target
    ++ 32 ∷ decimal nodes.primary ++ 32 ∷ decimal nodes.second ++ 32 ∷ decimal nodes.third
line_of (kinds.Append extent offset group) = codes "append " ++ decimal extent ++ 32 ∷ decimal offset ++ 32 ∷ decimal (group_size group)
line_of (kinds.Fence extent generation) = codes "fence " ++ decimal extent ++ 32 ∷ decimal generation
line_of (kinds.Freeze extent) = codes "freeze " ++ decimal extent
line_of (kinds.Seal extent size) = codes "seal " ++ decimal extent ++ 32 ∷ decimal size
line_of (kinds.Fill extent from size groups) = codes "fill " ++ decimal extent ++ 32 ∷ decimal from ++ 32 ∷ decimal size
line_of (kinds.Manage text) = codes "manage " ++ decimal (length text)

-- each line, and a newline (10) after it
abbrev pub lines_of : List Record → List ℕ
lines_of = flat_map (λ r. line_of r ++ 10 ∷ [])

-- the text is the lines of a file with these bytes, in either version
pub record IsDumpOf (file text : List ℕ) : Type 0 where
  pub version : Version
  pub records : List Record
  pub is : IsFileOf version records file
  pub lines : text ≡ lines_of records
