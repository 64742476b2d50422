-- Where copies stand: those of the extents below an index stand below the place where its extent begins, and are not among those
-- from that place on.
use Rattle.std.proofs.Common.{◌≡◌, ℕ, zero, suc, ◌<◌, ◌≤◌, List, [], ◌∷◌, ◌++◌, length, map, Bool, true, false, nat_lt, Some, ◌==◌, refl, sym, subst, arith, if◌then◌else◌}
use Rattle.std.proofs.lemmas.Bool.Decides.{nat_tests}
use Rattle.std.proofs.lemmas.Bool.{ltb-false}
use Rattle.replica.specs.Groups.{Group}
use Rattle.model_histories.specs.ServerRun.{placed_behind}
use Rattle.model_histories.specs.Story.{Copy, Placed, placed, from_place}
use Rattle.model_histories.specs.StreamMachine as machine
use Rattle.laws_stream_machine.proofs.ExtentSteps.{chain_le}
use Rattle.laws_ranges.proofs.SealedCopies.{first_none, first_more}
use Rattle.laws_log_reads.specs.Reads.{IsSized}

-- each begins below a place
abbrev pub AreBelow : ℕ → List (Copy Group) → Type 0
AreBelow place [] = Unit {0}
AreBelow place (c ∷ copies) = (c.from < place) × AreBelow place copies

pub below_both : (place : ℕ) (xs ys : List (Copy Group)) → AreBelow place xs → AreBelow place ys → AreBelow place (xs ++ ys)
below_both place [] ys a b = b
below_both place (x ∷ xs) ys a b = (a.0, below_both place xs ys a.1 b)

pub below_more : (place above : ℕ) (xs : List (Copy Group)) → place ≤ above → AreBelow place xs → AreBelow above xs
below_more place above [] le a = tt
below_more place above (x ∷ xs) le a = (let lt : x.from < place = a.0 in omega (arith, lt, le), below_more place above xs le a.1)

-- copies that stand one behind the other begin below their end
pub chain_below : (at : ℕ) (xs : List (Copy Group)) (end place : ℕ) → machine.Chain at xs end → end ≤ place → AreBelow place xs
chain_below at [] end place c le = tt
chain_below at (x ∷ xs) end place c le =
    let lt : x.from < x.to = c.1 in
    let more : x.to ≤ end = chain_le x.to xs end c.2 in
    (omega (arith, lt, more, le), chain_below x.to xs end place c.2 le)

-- none stands below the stream's first place
pub none_below : (xs : List (Copy Group)) → AreBelow (machine.base 0) xs → xs ≡ []
none_below [] a = refl
none_below (x ∷ xs) a = absurd (let lt : x.from < machine.base 0 = a.0 in omega (arith, lt))

-- ---- the copies from a place on

-- those before it are left out
pub behind_below : (start : ℕ) (xs : List (Copy Group)) (ys : List (Placed Group)) → AreBelow start xs → placed_behind start (map placed xs ++ ys) ≡ placed_behind start ys
behind_below start [] ys a = refl
behind_below start (x ∷ xs) ys a = go (nat_lt x.from start) refl (behind_below start xs ys a.1)
  where
    go : (t : Bool) → nat_lt x.from start ≡ t → placed_behind start (map placed xs ++ ys) ≡ placed_behind start ys →
        (if t then placed_behind start (map placed xs ++ ys) else placed x ∷ (map placed xs ++ ys)) ≡ placed_behind start ys
    go true e more = more
    go false e more = absurd (let lt : x.from < start = a.0 in let le : start ≤ x.from = ltb-false x.from start e in omega (arith, lt, le))

-- the rest is where the copies say
pub behind_placed : (start : ℕ) (xs : List (Copy Group)) → placed_behind start (map placed xs) ≡ map placed (from_place start xs)
behind_placed start [] = refl
behind_placed start (x ∷ xs) = go (nat_lt x.from start) (behind_placed start xs)
  where
    go : (t : Bool) → placed_behind start (map placed xs) ≡ map placed (from_place start xs) →
        (if t then placed_behind start (map placed xs) else placed x ∷ map placed xs) ≡ map placed (if t then from_place start xs else x ∷ xs)
    go true more = more
    go false more = refl

-- ---- the sealed extents of a stream

-- each of an index below their count is there
there : (n : ℕ) (xs : List (machine.SealedExtent Group)) → n < length xs → (y : machine.SealedExtent Group) × (machine.shut_at n xs ≡ Some y)
there n [] lt = absurd (omega (arith, lt))
there n (x ∷ older) lt = go (n == length older) refl (λ k. there n older k)
  where
    go : (b : Bool) → (n == length older) ≡ b → (n < length older → (y : machine.SealedExtent Group) × (machine.shut_at n older ≡ Some y)) →
        (y : machine.SealedExtent Group) × ((if b then Some x else machine.shut_at n older) ≡ Some y)
    go true t deeper = (x, refl)
    go false t deeper = deeper (let k : n ≡ length older → ⊥ = (λ e. grind (arith, nat_tests)) in omega (arith, lt, k))

-- those below an index end before its extent begins
pub sealed_below : (i : ℕ) (s : machine.MachineState Group) → IsSized i s → (n : ℕ) → n ≤ length s.core.shut → AreBelow (machine.base n) (machine.all_shut (machine.first n s.core.shut))
sealed_below i s sizes zero le = subst (λ xs. AreBelow (machine.base 0) (machine.all_shut xs)) (sym (first_none s.core.shut)) tt
sealed_below i s sizes (suc n) le =
    let y = there n s.core.shut (omega (arith, le)) in
    let stands = sizes.sealed n y.0 y.1 in
    let older : AreBelow (machine.base n) (machine.all_shut (machine.first n s.core.shut)) = sealed_below i s sizes n (omega (arith, le)) in
    subst (λ xs. AreBelow (machine.base (suc n)) xs) (sym (first_more s.core.shut n y.0 y.1))
    (below_both (machine.base (suc n)) (machine.all_shut (machine.first n s.core.shut)) y.0.copies
    (below_more (machine.base n) (machine.base (suc n)) (machine.all_shut (machine.first n s.core.shut)) (omega arith) older)
    (chain_below (machine.base n) y.0.copies y.0.end (machine.base (suc n)) stands.0 stands.2))
