-- Reading one after the other, as a loop does, where each step leaves a state for the next.
use Rattle.std.proofs.Common.{◌≡◌, ℕ, suc, ◌-◌, ◌+◌, ◌<◌, List, [], ◌∷◌, ◌++◌, length, get_or, drop, Option, Some, None, refl, sym, ap, ◌∙◌, append_assoc, arith}
use Rattle.std.proofs.lemmas.List.{drop_more}
use Rattle.block_types.specs.declared.fault.BlockFault.{BlockFault}
use Rattle.block_types.specs.declared.fault.BlockFault.TheVariants as faults
use Rattle.blocks.specs.Format.{◌>>=◌, Fails}
use Rattle.commitlog.specs.Reading.{each_of, piece_at, joined}

-- what was read before, and what is still read
abbrev pub with_done : {A S : Type 0} → List A → Option (List A × S) → Option (List A × S)
with_done front read = read >>= λ x. Some (front ++ x.0, x.1)

-- what is left at an index
pub left_at : {A : Type 0} (xs : List A) (i : ℕ) (x : A) → i < length xs → x ≡ get_or xs i x → drop i xs ≡ x ∷ drop (i + 1) xs
left_at {A = A} xs i x lt is = drop_more xs i x lt ∙ ap (λ (y : A). y ∷ drop (i + 1) xs) (sym is)

regroup : {A S : Type 0} (front : List A) (a : A) (read : Option (List A × S)) → with_done front (read >>= λ x. Some (a ∷ x.0, x.1)) ≡ with_done (front ++ a ∷ []) read
regroup {A = A} front a (Some x) = ap (λ (l : List A). Some (l, x.1)) (simp append_assoc)
regroup front a None = refl

module _ {S A B : Type 0} (f : S → A → Option (B × S)) where
  pub each_goes_on : (front : List B) (s : S) (x : A) (xs : List A) (b : B) (after : S) (total : Option (List B × S)) → f s x ≡ Some (b, after)
      → with_done front (each_of f s (x ∷ xs)) ≡ total → with_done (front ++ b ∷ []) (each_of f after xs) ≡ total
  each_goes_on front s x xs b after total h so_far =
      let one : with_done front (each_of f s (x ∷ xs)) ≡ with_done (front ++ b ∷ []) (each_of f after xs) = rw h (regroup front b (each_of f after xs)) in
      sym one ∙ so_far

  pub each_ends : (e : BlockFault) (front : List B) (s : S) (x : A) (xs : List A) (total : Option (List B × S)) → Fails e (f s x)
      → with_done front (each_of f s (x ∷ xs)) ≡ total → Fails e total
  each_ends faults.Memory front s x xs total h so_far = tt
  each_ends faults.Damaged front s x xs total h so_far =
      let one : with_done front (each_of f s (x ∷ xs)) ≡ None = rw h refl in
      sym so_far ∙ one

  -- the same of what is left at an index
  pub each_steps : (front : List B) (s : S) (xs : List A) (i : ℕ) (x : A) (b : B) (after : S) (total : Option (List B × S)) → i < length xs → x ≡ get_or xs i x → f s x ≡ Some (b, after)
      → with_done front (each_of f s (drop i xs)) ≡ total → with_done (front ++ b ∷ []) (each_of f after (drop (i + 1) xs)) ≡ total
  each_steps front s xs i x b after total lt is h so_far = each_goes_on front s x (drop (i + 1) xs) b after total h (sym (ap (λ (l : List A). with_done front (each_of f s l)) (left_at xs i x lt is)) ∙ so_far)

  pub each_stops : (e : BlockFault) (front : List B) (s : S) (xs : List A) (i : ℕ) (x : A) (total : Option (List B × S)) → i < length xs → x ≡ get_or xs i x → Fails e (f s x)
      → with_done front (each_of f s (drop i xs)) ≡ total → Fails e total
  each_stops e front s xs i x total lt is h so_far = each_ends e front s x (drop (i + 1) xs) total h (sym (ap (λ (l : List A). with_done front (each_of f s l)) (left_at xs i x lt is)) ∙ so_far)

rejoin : {S : Type 0} (front b : List ℕ) (read : Option (List ℕ × S)) → with_done front (read >>= λ x. Some (b ++ x.0, x.1)) ≡ with_done (front ++ b) read
rejoin {S = S} front b (Some x) = ap (λ (l : List ℕ). Some (l, x.1)) (sym (append_assoc front b x.0))
rejoin front b None = refl

-- the pieces of a text
module _ (full : ℕ) where
  pub piece_goes_on : (front : List ℕ) (count i size left : ℕ) (blocks : List (List ℕ)) (piece : List ℕ) (after : List (List ℕ)) (total : Option (List ℕ × List (List ℕ))) → i < count
      → piece_at full size blocks ≡ Some (piece, after) → left ≡ size - full
      → with_done front (joined full (count - i) size blocks) ≡ total → with_done (front ++ piece) (joined full (count - (i + 1)) left after) ≡ total
  piece_goes_on front count i size left blocks piece after total lt h less so_far =
      let k : count - i ≡ suc (count - (i + 1)) = omega arith in
      let one : with_done front (joined full (count - i) size blocks) ≡ with_done (front ++ piece) (joined full (count - (i + 1)) left after) = rw (k, h, less) (rejoin front piece (joined full (count - (i + 1)) (size - full) after)) in
      sym one ∙ so_far

  pub piece_ends : (e : BlockFault) (front : List ℕ) (count i size : ℕ) (blocks : List (List ℕ)) (total : Option (List ℕ × List (List ℕ))) → i < count
      → Fails e (piece_at full size blocks)
      → with_done front (joined full (count - i) size blocks) ≡ total → Fails e total
  piece_ends faults.Memory front count i size blocks total lt h so_far = tt
  piece_ends faults.Damaged front count i size blocks total lt h so_far =
      let k : count - i ≡ suc (count - (i + 1)) = omega arith in
      let one : with_done front (joined full (count - i) size blocks) ≡ None = rw (k, h) refl in
      sym so_far ∙ one
