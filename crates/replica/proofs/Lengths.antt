-- The length of the text of groups.
use Rattle.std.proofs.Common.{◌≡◌, ℕ, ◌+◌, List, [], ◌∷◌, ◌++◌, length, refl, ◌∙◌, arith, append_assoc, length-append}
use Rattle.std.specs.List.{fold}
use Rattle.block_types.specs.Limits.{group_size}
use Rattle.replica.specs.Groups.{Group, joined, text, size, text_length}

pub text-append : (xs ys : List Group) → text (xs ++ ys) ≡ text xs ++ text ys
text-append [] ys = refl
text-append (x ∷ xs) ys = rw (text-append xs ys, append_assoc)

pub text_length-append : (xs ys : List Group) → text_length (xs ++ ys) ≡ text_length xs + text_length ys
text_length-append xs ys = rw (text-append xs ys) (length-append (text xs) (text ys))

pub text_length-push : (xs : List Group) (x : Group) → text_length (xs ++ x ∷ []) ≡ text_length xs + size x
text_length-push xs x = rw (text-append xs (x ∷ [])) (omega (arith, length-append (text xs) (text (x ∷ [])), length-append (joined x) []))

fold_size : (k : ℕ) (g : Group) → fold (λ a x. a + length x) k g ≡ k + size g
fold_size k [] = omega arith
fold_size k (b ∷ g) = omega (arith, fold_size (k + length b) g, length-append b (joined g))

-- the bytes of a group, counted in two ways
pub group_size-size : (g : Group) → group_size g ≡ size g
group_size-size g = fold_size 0 g ∙ zero_more (size g)
  where
    zero_more : (n : ℕ) → 0 + n ≡ n
    zero_more n = omega arith
