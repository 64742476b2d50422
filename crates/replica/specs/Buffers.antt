-- A text in buffers.
use Rattle.std.specs.Prelude.{◌≡◌, ℕ, List, [], ◌∷◌, length}

-- the bytes, and for how many more of them there is memory
pub record Text : Type 0 where
  pub bytes : List ℕ
  pub spare : ℕ

-- each buffer has this many bytes
abbrev pub AllFull : ℕ → List (List ℕ) → Type 0
AllFull size [] = Unit {0}
AllFull size (buffer ∷ buffers) = (length buffer ≡ size) × AllFull size buffers
