-- Bytes of which long pieces are shared.
use Rattle.std.specs.Prelude.{◌≡◌, ℕ, ◌+◌, ◌≤◌, ◌<◌, ◌^◌, Bool, ◌==◌, List, [], ◌∷◌, ◌++◌, length, drop}
use Rattle.std.specs.List.{slice_range}
use Rattle.blocks.specs.declared.woven.Piece.{Piece}

-- bytes in order, and whether they lie in one buffer
pub record Weave : Type 0 where
  pub bytes : List ℕ
  pub joined : Bool

-- the own bytes from one place on, each piece after as many of them as it says
abbrev pub woven : ℕ → List ℕ → List Piece → List ℕ
woven from own [] = drop from own
woven from own (p ∷ ps) = slice_range own from p.behind ++ (p.bytes ++ woven p.behind own ps)

abbrev pub weave : List ℕ → List Piece → Weave
weave own pieces = record { bytes = woven 0 own pieces; joined = length pieces == 0 }

-- the pieces, each behind so many own bytes more
abbrev pub moved : ℕ → List Piece → List Piece
moved base [] = []
moved base (p ∷ ps) = record p { behind = p.behind + base } ∷ moved base ps

-- the pieces are in order, and none stands after so many own bytes
abbrev pub ArePlaced : ℕ → ℕ → List Piece → Type 0
ArePlaced from end [] = from ≤ end
ArePlaced from end (p ∷ ps) = (from ≤ p.behind) × ArePlaced p.behind end ps

-- The last piece stands after so many own bytes or fewer, so many bytes there are together, which are no more than a buffer can have,
-- and there is room to join them.
pub record IsWoven (own : List ℕ) (pieces : List Piece) (settled len space : ℕ) : Type 0 where
  pub placed : ArePlaced 0 settled pieces
  pub within : settled ≤ length own
  pub counted : len ≡ length (woven 0 own pieces)
  pub bound : len < 2 ^ 63
  pub room : 0 < length pieces → len ≤ space
