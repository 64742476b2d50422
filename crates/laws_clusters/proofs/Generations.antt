-- Each generation has incarnations without end: a list of rows, of which each counts from 0 one further than the one before.
use Rattle.std.proofs.Common.{◌≡◌, ℕ, zero, suc, ◌+◌, ◌≤◌, ◌<◌, true, false, refl, ap, ◌∙◌, arith, if◌then◌else◌, nat_lt}
use Rattle.std.proofs.lemmas.Bool.Decides.{nat_tests}

-- a row and how far it has counted
record Count : Type 0 where
  row : ℕ
  at : ℕ

on : Count → Count
on c = if nat_lt c.at c.row then record { row = c.row; at = suc c.at } else record { row = suc c.row; at = 0 }

counted : ℕ → Count
counted zero = record { row = 0; at = 0 }
counted (suc i) = on (counted i)

-- the generation of an incarnation
pub generation_at : ℕ → ℕ
generation_at i = (counted i).at

on_within : (r a : ℕ) → a < r → on (record { row = r; at = a }) ≡ record { row = r; at = suc a }
unfolding on
on_within r a l = let t : nat_lt a r ≡ true = grind (arith, nat_tests) in rw t refl

on_end : (r : ℕ) → on (record { row = r; at = r }) ≡ record { row = suc r; at = 0 }
unfolding on
on_end r = let t : nat_lt r r ≡ false = grind (arith, nat_tests) in rw t refl

step_is : (i : ℕ) → counted (suc i) ≡ on (counted i)
unfolding counted
step_is i = refl

-- from the start of a row to each number of it
along : (i r : ℕ) → counted i ≡ record { row = r; at = 0 } → (a : ℕ) → a ≤ r → counted (i + a) ≡ record { row = r; at = a }
along i r is zero l = ap counted {x = i + 0} {y = i} (omega arith) ∙ is
along i r is (suc a) l =
    ap counted {x = i + suc a} {y = suc (i + a)} (omega arith) ∙ step_is (i + a) ∙ ap on (along i r is a (omega arith)) ∙ on_within r a (omega arith)

-- each row is begun, no earlier than its number
record Begun (r : ℕ) : Type 0 where
  i : ℕ
  late : r ≤ i
  is : counted i ≡ record { row = r; at = 0 }

begun : (r : ℕ) → Begun r
unfolding counted
begun zero = record { i = 0; late = omega arith; is = refl }
begun (suc r) =
    let b : Begun r = begun r in
    let late : r ≤ b.i = b.late in
    record {
      i = suc (b.i + r);
      late = omega (arith, late);
      is = step_is (b.i + r) ∙ ap on (along b.i r b.is r (omega arith)) ∙ on_end r;
    }

-- an incarnation of any generation, after any number
pub plenty : (g n : ℕ) → (i : ℕ) × (n ≤ i) × (generation_at i ≡ g)
unfolding generation_at
plenty g n =
    let b : Begun (g + n) = begun (g + n) in
    let late : g + n ≤ b.i = b.late in
    (b.i + g, omega (arith, late), ap (λ (c : Count). c.at) (along b.i (g + n) b.is g (omega arith)))
