use Rattle.std.proofs.Common.{◌≡◌, ℕ, List, [], ◌∷◌, ◌-◌, length, slice_get, refl, ◌∙◌, ap, arith}
use Rattle.streams.specs.Streams.{last_of}
use Rattle.streams.proofs.listed.Listed.last.Goals as goal

last_at : (x : ℕ) (xs : List ℕ) → slice_get (x ∷ xs) (length xs) ≡ last_of (x ∷ xs)
last_at x [] = refl
last_at x (y ∷ ys) = last_at y ys

last_is : (xs : List ℕ) → slice_get xs (length xs - 1) ≡ last_of xs
last_is [] = refl
last_is (x ∷ xs) =
    let end : length (x ∷ xs) - 1 ≡ length xs = omega arith in
    ap (λ (n : ℕ). slice_get (x ∷ xs) n) end ∙ last_at x xs

pub returns : goal.returns
returns c =
    c.copied.ensures ∙ c.last.ensures.value ∙ ap (λ (xs : List ℕ). slice_get xs (length xs - 1)) c.extents.ensures ∙ last_is c.args.self.now.stream.extents
