-- What a replica holds.
use Rattle.std.specs.Prelude.{ℕ, List, [], ◌∷◌, ◌++◌}
use Rattle.block_types.specs.declared.record.Nodes.{Nodes}
use Rattle.replica.specs.declared.phase.Phase.{Phase}
use Rattle.replica.specs.declared.phase.Phase.TheVariants.{Open, Frozen, Sealed}
use Rattle.replica.specs.Groups.{Group}
use Rattle.replica.specs.Room.{Room}

pub record Content : Type 0 where
  pub places : Nodes
  pub target : ℕ
  pub fence : ℕ
  pub phase : Phase
  pub groups : List Group

-- and for what there is memory
pub record StoredContent : Type 0 where
  pub content : Content
  pub room : Room

-- an open replica with nothing in it
abbrev pub new_content : Nodes → ℕ → ℕ → Content
new_content places target fence = record { places = places; target = target; fence = fence; phase = Open; groups = [] }

-- with one more group at the end
abbrev pub appended : Content → Group → Content
appended content group = record content { groups = content.groups ++ group ∷ [] }

-- listens to no generation below this one
abbrev pub fenced : Content → ℕ → Content
fenced content fence = record content { fence = fence }

-- takes no more groups
abbrev pub frozen : Content → Content
frozen content = record content { phase = Frozen }

-- just these groups, for good
abbrev pub sealed_with : Content → List Group → Content
sealed_with content groups = record content { phase = Sealed; groups = groups }
