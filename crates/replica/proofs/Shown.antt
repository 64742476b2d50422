-- The text of the groups up to a boundary.
use Rattle.std.proofs.Common.{◌≡◌, ℕ, Bool, if◌then◌else◌, ◌-◌, ◌==◌, true, false, nat_le, List, [], ◌∷◌, ◌++◌, take, Option, Some, None, refl, sym, ap, ◌∙◌, arith, eqb-true}
use Rattle.std.proofs.lemmas.Bool.Decides.{nat_tests}
use Rattle.std.proofs.lemmas.List.{take_all}
use Rattle.replica.specs.Groups.{Group, joined, text, size}
use Rattle.replica.specs.Reading.{groups_to, after_group}
use Rattle.replica.proofs.Copying.{take_two}

same_if : {A : Type 0} (x y : A) → Some x ≡ Some y → x ≡ y
same_if x y e = cc

abbrev none_shown : List Group
none_shown = []

nothing : (upto : ℕ) (gs found : List Group) → (upto == 0) ≡ true → Some none_shown ≡ Some found → text found ≡ take upto (text gs)
nothing upto gs found zero is =
    let none : upto ≡ 0 = eqb-true upto 0 zero in
    ap text (sym (same_if none_shown found is)) ∙ sym (ap (λ n. take n (text gs)) none)

behind : (upto : ℕ) (g : Group) (gs found : List Group) (rest : Option (List Group)) → nat_le (size g) upto ≡ true →
    ((more : List Group) → rest ≡ Some more → text more ≡ take (upto - size g) (text gs)) → after_group g rest ≡ Some found → text found ≡ take upto (joined g ++ text gs)
behind upto g gs found None fits more is = absurd cc
behind upto g gs found (Some rest) fits more is =
    let whole : take upto (joined g) ≡ joined g = take_all upto (joined g) (grind (arith, nat_tests)) in
    ap text (sym (same_if (g ∷ rest) found is)) ∙ ap (λ l. joined g ++ l) (more rest refl) ∙ ap (λ l. l ++ take (upto - size g) (text gs)) (sym whole) ∙ sym (take_two upto (joined g) (text gs))

at_the_end : (upto : ℕ) (found : List Group) (b : Bool) → (upto == 0) ≡ b → (if b then Some [] else None) ≡ Some found → text found ≡ take upto []
at_the_end upto found true zero is = nothing upto [] found zero is
at_the_end upto found false zero is = absurd cc

at_a_group : (upto : ℕ) (g : Group) (gs found : List Group) (b c : Bool) → (upto == 0) ≡ b → nat_le (size g) upto ≡ c →
    ((more : List Group) → groups_to (upto - size g) gs ≡ Some more → text more ≡ take (upto - size g) (text gs)) →
    (if b then Some [] else if c then after_group g (groups_to (upto - size g) gs) else None) ≡ Some found → text found ≡ take upto (joined g ++ text gs)
at_a_group upto g gs found true c zero fits more is = nothing upto (g ∷ gs) found zero is
at_a_group upto g gs found false true zero fits more is = behind upto g gs found (groups_to (upto - size g) gs) fits more is
at_a_group upto g gs found false false zero fits more is = absurd cc

pub groups_text : (upto : ℕ) (gs found : List Group) → groups_to upto gs ≡ Some found → text found ≡ take upto (text gs)
groups_text upto [] found is = at_the_end upto found (upto == 0) refl is
groups_text upto (g ∷ gs) found is = at_a_group upto g gs found (upto == 0) (nat_le (size g) upto) refl refl (λ more e. groups_text (upto - size g) gs more e) is
