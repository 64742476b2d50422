-- Lists, looked up one after another.
use Rattle.std.proofs.Common.{◌≡◌, ◌<◌, ◌+◌, ℕ, List, Some, sym, ◌∙◌, subst, arith, below_more}
use Rattle.std.specs.Prelude.{slice_get}
use Rattle.std.proofs.lemmas.Option.{same_Some}

-- what holds of the first items, so many, and of the next one, holds of the first ones with that one
pub first_more : {X : Type 0} (P : X → Type 0) (xs : List X) (n : ℕ) (x : X) → ((k : ℕ) (y : X) → k < n → slice_get xs k ≡ Some y → P y) → slice_get xs n ≡ Some x → P x →
    (k : ℕ) (y : X) → k < n + 1 → slice_get xs k ≡ Some y → P y
first_more {X} P xs n x before at here k y lt there =
    below_more (λ (m : ℕ). (z : X) → slice_get xs m ≡ Some z → P z) n (λ m below z is. before m z below is) (λ z is. subst P (same_Some x z (sym at ∙ is)) here) k lt y there
