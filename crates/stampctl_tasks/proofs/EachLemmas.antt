-- What holds of each element of a list, as a loop comes to it.
use Rattle.std.proofs.Common.{◌≡◌, ◌∙◌, ◌<◌, ◌+◌, ℕ, ap, sym, subst, List, ◌∷◌, drop, get_or, length}
use Rattle.std.specs.List.{AllByRecursion}
use Rattle.std.proofs.lemmas.List.{drop_more}

module _ {X : Type 0} (P : X → Type 0) (xs : List X) (i : ℕ) (x : X) (is : x ≡ get_or xs i x) (below : i < length xs) where
  next : drop i xs ≡ x ∷ drop (i + 1) xs
  next = drop_more xs i x below ∙ ap (λ (y : X). y ∷ drop (i + 1) xs) (sym is)

  pub next_left : AllByRecursion P (drop i xs) → P x × AllByRecursion P (drop (i + 1) xs)
  next_left all = subst (AllByRecursion P) next all

  pub next_done : P x → (AllByRecursion P (drop i xs) → AllByRecursion P xs) → AllByRecursion P (drop (i + 1) xs) → AllByRecursion P xs
  next_done holds done rest = done (subst (AllByRecursion P) (sym next) (holds, rest))
