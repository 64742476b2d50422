-- The digests that are compared while blocks are read.
use Rattle.std.specs.Prelude.{ℕ, List, [], ◌∷◌, map}
use Rattle.sha2.specs.Sha256.{sha256}
use Rattle.block_types.specs.declared.record.Version.{Version}
use Rattle.block_types.specs.declared.record.Version.TheVariants.{V1, V2}

-- that of one block: version 1 has none
abbrev pub compared : Version → List ℕ → List (List ℕ)
compared V1 b = []
compared V2 b = sha256 b ∷ []

-- those of blocks, in order
abbrev pub all_compared : Version → List (List ℕ) → List (List ℕ)
all_compared V1 bs = []
all_compared V2 bs = map sha256 bs
