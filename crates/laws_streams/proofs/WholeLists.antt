-- The whole list of a stream: the extents that have left it, and those that stand in it.
use Rattle.std.proofs.Common.{◌≡◌, ℕ, suc, ◌+◌, List, [], ◌∷◌, ◌++◌, length, slice_get, refl, ap, ◌∙◌, arith, append_assoc}
use Rattle.streams.specs.Streams.{Stream, base_of, whole, last_of, longer}

-- what stands behind the first list
pub get_behind : {A : Type 0} (past rest : List A) (i : ℕ) → slice_get (past ++ rest) (length past + i) ≡ slice_get rest i
get_behind [] rest i = let same : 0 + i ≡ i = omega arith in ap (slice_get rest) same
get_behind (x ∷ past) rest i =
    let next : suc (length past) + i ≡ suc (length past + i) = omega arith in
    ap (slice_get (x ∷ (past ++ rest))) next ∙ get_behind past rest i

last_behind : (xs ys : List ℕ) (y : ℕ) → last_of (xs ++ y ∷ ys) ≡ last_of (y ∷ ys)
last_behind [] ys y = refl
last_behind (x ∷ []) ys y = refl
last_behind (x ∷ z ∷ xs) ys y = last_behind (z ∷ xs) ys y

-- an extent that stands in the stream, by its index
pub whole_get : (x : Stream) (i : ℕ) → slice_get (whole x) (base_of x + i) ≡ slice_get x.extents i
whole_get x i = get_behind x.gone x.extents i

-- the last extent does not leave, so it is the last one of all
pub whole_last : (x : Stream) → (x.extents ≡ [] → x.gone ≡ []) → last_of (whole x) ≡ last_of x.extents
whole_last x ends = by_extents x.extents refl
  where
    by_extents : (es : List ℕ) → x.extents ≡ es → last_of (x.gone ++ es) ≡ last_of es
    by_extents [] is = ap (λ (g : List ℕ). last_of (g ++ [])) (ends is)
    by_extents (e ∷ es) is = last_behind x.gone es e

pub whole_longer : (e : ℕ) (x : Stream) → whole (longer e x) ≡ whole x ++ e ∷ []
whole_longer e x = rw append_assoc refl

pub none_whole : (x : Stream) → x.gone ≡ [] → x.extents ≡ [] → whole x ≡ []
none_whole x gone none = rw (gone, none) refl
