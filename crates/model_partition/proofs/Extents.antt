-- The places of extents.
use Rattle.std.proofs.Common.{◌≡◌, ℕ, true, false, List, [], ◌∷◌, ◌++◌, Some, None, refl}
use Rattle.std.specs.Prelude.{◌==◌}
use Rattle.block_types.specs.declared.record.Nodes.{Nodes}
use Rattle.wire.specs.declared.streams.StreamExtent.{StreamExtent}
use Rattle.model_partition.specs.PlaceReads.{places_in}

pub found_first : (xs ys : List StreamExtent) (e : ℕ) (places : Nodes) → Some places ≡ places_in xs e → Some places ≡ places_in (xs ++ ys) e
found_first [] ys e places is = cc
found_first (x ∷ xs) ys e places is =
    elim (x.extent == e) as (λ b. (x.extent == e) ≡ b → Some places ≡ places_in (x ∷ (xs ++ ys)) e) [
      | true ↦ λ here. rw here (rw here at is)
      | false ↦ λ there. rw there (found_first xs ys e places (rw there at is))
    ] refl

pub found_later : (xs ys : List StreamExtent) (e : ℕ) → None ≡ places_in xs e → places_in (xs ++ ys) e ≡ places_in ys e
found_later [] ys e is = refl
found_later (x ∷ xs) ys e is =
    elim (x.extent == e) as (λ b. (x.extent == e) ≡ b → places_in (x ∷ (xs ++ ys)) e ≡ places_in ys e) [
      | true ↦ λ here. let none = rw here at is in cc
      | false ↦ λ there. rw there (found_later xs ys e (rw there at is))
    ] refl
