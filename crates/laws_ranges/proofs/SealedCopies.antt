-- The copies of the first extents of a stream, one extent at a time, and where these end.
use Rattle.std.proofs.Common.{◌≡◌, ℕ, zero, suc, ◌<◌, ◌≤◌, List, [], ◌∷◌, ◌++◌, length, Bool, true, false, Some, nat_le, refl, sym, ap, ◌∙◌, arith, ◌==◌, if◌then◌else◌}
use Rattle.std.proofs.lemmas.Bool.Decides.{nat_tests}
use Rattle.std.proofs.lemmas.Bool.{leb-true, leb-false, eqb-true}
use Rattle.replica.specs.Groups.{Group}
use Rattle.model_histories.specs.StreamMachine.{SealedExtent, shut_at, first, all_shut, last_end}
use Rattle.laws_ranges.proofs.MachineSteps.{is_within}

-- all of a list is its first so many
pub first_all : (xs : List (SealedExtent Group)) (n : ℕ) → length xs ≤ n → first n xs ≡ xs
first_all [] n le = refl
first_all (x ∷ older) n le = go (nat_le n (length older)) refl
  where
    go : (b : Bool) → nat_le n (length older) ≡ b → (if b then first n older else x ∷ older) ≡ x ∷ older
    go true t = let k : n ≤ length older = leb-true n (length older) t in absurd (omega (arith, k, le))
    go false t = refl

-- the first n, where more than n are there
first_older : (x : SealedExtent Group) (older : List (SealedExtent Group)) (n : ℕ) → n ≤ length older → first n (x ∷ older) ≡ first n older
first_older x older n le = go (nat_le n (length older)) refl
  where
    go : (b : Bool) → nat_le n (length older) ≡ b → (if b then first n older else x ∷ older) ≡ first n older
    go true t = refl
    go false t = let k : length older < n = leb-false n (length older) t in absurd (omega (arith, k, le))

-- none of them
pub first_none : (xs : List (SealedExtent Group)) → first 0 xs ≡ []
first_none [] = refl
first_none (x ∷ older) = first_older x older 0 (omega arith) ∙ first_none older

-- one extent more
pub first_more : (xs : List (SealedExtent Group)) (n : ℕ) (y : SealedExtent Group) → shut_at n xs ≡ Some y → all_shut (first (suc n) xs) ≡ all_shut (first n xs) ++ y.copies
first_more [] n y e = absurd cc
first_more (x ∷ older) n y e = go (n == length older) refl e (λ k. first_more older n y k)
  where
    newest : n ≡ length older → x ≡ y → all_shut (first (suc n) (x ∷ older)) ≡ all_shut (first n (x ∷ older)) ++ y.copies
    newest here same =
        let whole : first (suc n) (x ∷ older) ≡ x ∷ older = first_all (x ∷ older) (suc n) (omega (arith, here)) in
        let rest : first n (x ∷ older) ≡ older = first_older x older n (omega (arith, here)) ∙ first_all older n (omega (arith, here)) in
        ap all_shut whole ∙ ap (λ (z : SealedExtent Group). all_shut older ++ z.copies) same ∙ ap (λ zs. all_shut zs ++ y.copies) (sym rest)

    go : (b : Bool) → (n == length older) ≡ b → (if b then Some x else shut_at n older) ≡ Some y →
        (shut_at n older ≡ Some y → all_shut (first (suc n) older) ≡ all_shut (first n older) ++ y.copies) →
        all_shut (first (suc n) (x ∷ older)) ≡ all_shut (first n (x ∷ older)) ++ y.copies
    go true t k more = newest (eqb-true n (length older) t) (let z : x ≡ y = cc in z)
    go false t k more =
        let inside : suc n ≤ length older = is_within n older y k in
        ap all_shut (first_older x older (suc n) inside) ∙ more k ∙ ap (λ zs. all_shut zs ++ y.copies) (sym (first_older x older n (omega (arith, inside))))

-- they end where the last of them ends
pub first_end : (xs : List (SealedExtent Group)) (n : ℕ) (y : SealedExtent Group) → shut_at n xs ≡ Some y → last_end (first (suc n) xs) ≡ y.end
first_end [] n y e = absurd cc
first_end (x ∷ older) n y e = go (n == length older) refl e (λ k. first_end older n y k)
  where
    newest : n ≡ length older → x ≡ y → last_end (first (suc n) (x ∷ older)) ≡ y.end
    newest here same = ap last_end (first_all (x ∷ older) (suc n) (omega (arith, here))) ∙ ap (λ (z : SealedExtent Group). z.end) same

    go : (b : Bool) → (n == length older) ≡ b → (if b then Some x else shut_at n older) ≡ Some y → (shut_at n older ≡ Some y → last_end (first (suc n) older) ≡ y.end) → last_end (first (suc n) (x ∷ older)) ≡ y.end
    go true t k more = newest (eqb-true n (length older) t) (let z : x ≡ y = cc in z)
    go false t k more = ap last_end (first_older x older (suc n) (is_within n older y k)) ∙ more k

-- each extent below their count is there
there : (n : ℕ) (xs : List (SealedExtent Group)) → suc n ≤ length xs → (y : SealedExtent Group) × (shut_at n xs ≡ Some y)
there n [] le = absurd (omega arith)
there n (x ∷ older) le = go (n == length older) refl (λ k. there n older k)
  where
    go : (b : Bool) → (n == length older) ≡ b → (suc n ≤ length older → (y : SealedExtent Group) × (shut_at n older ≡ Some y)) → (y : SealedExtent Group) × ((if b then Some x else shut_at n older) ≡ Some y)
    go true t deeper = (x, refl)
    go false t deeper = deeper (let k : n ≡ length older → ⊥ = (λ e. grind (arith, nat_tests)) in omega (arith, le, k))

-- where no extent is taken back, there are as many
pub grown_within : (xs ys : List (SealedExtent Group)) → ((e : ℕ) (y : SealedExtent Group) → shut_at e xs ≡ Some y → shut_at e ys ≡ Some y) → (n : ℕ) → n ≤ length xs → n ≤ length ys
grown_within xs ys grown zero le = omega arith
grown_within xs ys grown (suc n) le = let y = there n xs le in is_within n ys y.0 (grown n y.0 y.1)

-- and the first of them stand as they stood
pub first_grown : (xs ys : List (SealedExtent Group)) → ((e : ℕ) (y : SealedExtent Group) → shut_at e xs ≡ Some y → shut_at e ys ≡ Some y) → (n : ℕ) → n ≤ length xs → all_shut (first n xs) ≡ all_shut (first n ys)
first_grown xs ys grown zero le = ap all_shut (first_none xs) ∙ sym (ap all_shut (first_none ys))
first_grown xs ys grown (suc n) le =
    let y = there n xs le in
    first_more xs n y.0 y.1 ∙ ap (λ cs. cs ++ y.0.copies) (first_grown xs ys grown n (omega (arith, le))) ∙ sym (first_more ys n y.0 (grown n y.0 y.1))
