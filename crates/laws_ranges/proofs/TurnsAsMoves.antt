-- Turns of one incarnation are moves of the machine of its stream.
use Rattle.std.proofs.Common.{◌≡◌, ℕ, List, [], ◌∷◌, ◌++◌, Bool, true, false, refl, sym, ap, ◌∙◌, subst, arith, if◌then◌else◌, ◌==◌}
use Rattle.std.proofs.lemmas.Bool.Decides.{nat_tests}
use Rattle.replica.specs.Groups.{Group}
use Rattle.model_histories.specs.ServerTurns.{Turn, Whole, Move, Above, moved, after_all, AreMoves, IsTurn}
use Rattle.laws_tables.proofs.Index.{index_is_right}
use Rattle.laws_ranges.specs.Serves.{Stand, turned, after_turns, AreTurns, IsCounted}

module _ (generation : ℕ → ℕ) where
  abbrev Machine : Type 0
  Machine = Whole Group generation

  -- where an incarnation stands
  abbrev pub stand_of : Machine → ℕ → Stand
  stand_of x i = record { state = x.state; phase = x.phase i }

  abbrev pub moves_of : ℕ → List (Turn Group) → List (Move Group generation)
  moves_of i [] = []
  moves_of i (t ∷ ts) = Above i t ∷ moves_of i ts

  moved_stand : (x : Machine) (i : ℕ) (t : Turn Group) → stand_of (moved Group generation x (Above i t)) i ≡ turned generation i (stand_of x i) t
  moved_stand x i t = go (i == i) (same i)
    where
      same : (n : ℕ) → (n == n) ≡ true
      same n = grind (arith, nat_tests)

      after : Stand
      after = turned generation i (stand_of x i) t

      go : (b : Bool) → b ≡ true → record { state = after.state; phase = if b then after.phase else x.phase i } ≡ after
      go true e = refl
      go false e = absurd (cc)

  -- they lead to where the turns lead
  pub stands_after : (i : ℕ) (ts : List (Turn Group)) (earlier : List (Move Group generation)) →
      stand_of (after_all Group generation (moves_of i ts ++ earlier)) i ≡ after_turns generation i (stand_of (after_all Group generation earlier) i) ts
  stands_after i [] earlier = refl
  stands_after i (t ∷ ts) earlier =
      moved_stand (after_all Group generation (moves_of i ts ++ earlier)) i t ∙ ap (λ y. turned generation i y t) (stands_after i ts earlier)

  -- the others stand where they stood
  pub others_stand : (i j : ℕ) (ts : List (Turn Group)) (earlier : List (Move Group generation)) → (j ≡ i → ⊥) →
      (after_all Group generation (moves_of i ts ++ earlier)).phase j ≡ (after_all Group generation earlier).phase j
  others_stand i j [] earlier other = refl
  others_stand i j (t ∷ ts) earlier other = go (j == i) refl (others_stand i j ts earlier other)
    where
      x : Machine
      x = after_all Group generation (moves_of i ts ++ earlier)

      go : (b : Bool) → (j == i) ≡ b → x.phase j ≡ (after_all Group generation earlier).phase j →
          (if b then (turned generation i (stand_of x i) t).phase else x.phase j) ≡ (after_all Group generation earlier).phase j
      go true e k = absurd (other (grind (arith, nat_tests)))
      go false e k = k

  -- they are allowed
  pub are_moves : (i : ℕ) (ts : List (Turn Group)) (earlier : List (Move Group generation)) → AreMoves Group generation earlier →
      AreTurns generation i (stand_of (after_all Group generation earlier) i) ts → AreMoves Group generation (moves_of i ts ++ earlier)
  are_moves i [] earlier ok a = ok
  are_moves i (t ∷ ts) earlier ok a =
      (subst (λ y. IsTurn Group generation y.state i y.phase t) (sym (stands_after i ts earlier)) a.0, are_moves i ts earlier ok a.1)

  -- an Extend that is waited for counts one extent more
  pub is_counted : (i : ℕ) (moves : List (Move Group generation)) → AreMoves Group generation moves → IsCounted i (stand_of (after_all Group generation moves) i)
  is_counted i moves ok n m append group stands fact = index_is_right Group generation moves ok i n m append group stands fact
