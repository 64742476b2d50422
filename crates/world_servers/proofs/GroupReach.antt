-- How far groups reach.
use Rattle.std.proofs.Common.{◌≡◌, ℕ, ◌-◌, Bool, true, false, List, ◌∷◌, refl, sym, arith, nat_le}
use Rattle.std.proofs.lemmas.Bool.{leb-true, le-leb}
use Rattle.block_types.specs.Limits.{group_size as counted}
use Rattle.replica.specs.Groups.{Group, size, text_length}
use Rattle.replica.proofs.Lengths.{group_size-size}
use Rattle.replica.proofs.Placing.{length-cons}

pub counted_is : (group : Group) → counted group ≡ size group
counted_is group = group_size-size group

both_ways : (a b : Bool) → (a ≡ true → b ≡ true) → (b ≡ true → a ≡ true) → a ≡ b
both_ways true b f g = sym (f refl)
both_ways false true f g = g refl
both_ways false false f g = refl

-- after the first group, so much less has to be there
pub less : (end n : ℕ) (group : Group) (groups : List Group) → n ≡ counted group → nat_le end (text_length (group ∷ groups)) ≡ nat_le (end - n) (text_length groups)
less end n group groups is =
    both_ways (nat_le end (text_length (group ∷ groups))) (nat_le (end - n) (text_length groups))
    (λ t. le-leb (end - n) (text_length groups) (let l = leb-true end (text_length (group ∷ groups)) t in omega (arith, l, is, group_size-size group, length-cons group groups)))
    (λ t. le-leb end (text_length (group ∷ groups)) (let l = leb-true (end - n) (text_length groups) t in omega (arith, l, is, group_size-size group, length-cons group groups)))
