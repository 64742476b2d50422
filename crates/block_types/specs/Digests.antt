-- The digests of blocks.
use Rattle.std.specs.Prelude.{◌≡◌, ℕ, List, [], ◌∷◌, map, get_or, Option, Some, None}
use Rattle.std.specs.Arc.{arc_slice_items}
use Rattle.sha2.specs.Sha256.{sha256}
use Rattle.block_types.specs.declared.digests.Known.{Known}
use Rattle.block_types.specs.declared.digests.Known.TheVariants.{Nothing, One, All}

-- what is known, as a list
abbrev pub digests_in : Known → Option (List (List ℕ))
digests_in Nothing = None
digests_in (One digest) = Some (digest ∷ [])
digests_in (All digests) = Some (arc_slice_items digests)

-- those that are known are the blocks' own
abbrev pub AreDigests : List (List ℕ) → Option (List (List ℕ)) → Type 0
AreDigests blocks None = Unit {0}
AreDigests blocks (Some digests) = digests ≡ map sha256 blocks

-- one that is known is that of the block at an index
abbrev pub IsDigestAt : List (List ℕ) → ℕ → Option (List ℕ) → Type 0
IsDigestAt blocks index None = Unit {0}
IsDigestAt blocks index (Some digest) = digest ≡ sha256 (get_or blocks index [])
