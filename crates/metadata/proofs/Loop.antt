-- A loop that writes one element after the other.
use Rattle.std.proofs.Common.{◌≡◌, ℕ, ◌+◌, ◌<◌, List, [], ◌∷◌, ◌++◌, length, get_or, take, sym, ap, subst, ◌∙◌, append_assoc}
use Rattle.std.specs.List.{flat_map, AllByRecursion}
use Rattle.std.proofs.lemmas.List.{take_more, flat_map_more}
use Rattle.std.proofs.lemmas.List.Elements.{All-get_or, All-from_recursion}

-- one element more is written after the count
pub one_more : {A : Type 0} (f : A → List ℕ) (old count out new : List ℕ) (xs : List A) (i : ℕ) (x : A) → i < length xs → x ≡ get_or xs i x → new ≡ out ++ f x
    → out ≡ old ++ (count ++ flat_map f (take i xs)) → new ≡ old ++ (count ++ flat_map f (take (i + 1) xs))
one_more {A = A} f old count out new xs i x lt is step so_far =
    let taken : take (i + 1) xs ≡ take i xs ++ x ∷ [] = take_more xs i x lt ∙ ap (λ (y : A). take i xs ++ y ∷ []) (sym is) in
    step ∙ ap (λ (l : List ℕ). l ++ f x) (so_far ∙ sym (append_assoc old count (flat_map f (take i xs)))) ∙ flat_map_more f (old ++ count) (take i xs) x
    ∙ append_assoc old count (flat_map f (take i xs ++ x ∷ [])) ∙ ap (λ (ys : List A). old ++ (count ++ flat_map f ys)) (sym taken)

-- what holds of all holds of the one at an index
pub All-at : {A : Type 0} (P : A → Type 0) (xs : List A) (i : ℕ) (x : A) → i < length xs → x ≡ get_or xs i x → AllByRecursion P xs → P x
All-at P xs i x lt is all = subst P (sym is) (All-get_or P xs i x lt (All-from_recursion P xs all))
