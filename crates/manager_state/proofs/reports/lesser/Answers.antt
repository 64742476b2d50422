use Rattle.std.proofs.Common.{ℕ, Some, ap, ◌≡◌, ◌∙◌, arith, min, nat_le, if◌then◌else◌}
use Rattle.std.proofs.lemmas.Bool.Decides.{nat_tests}
use Rattle.manager_state.proofs.reports.lesser.Goals as goal

least : (a b : ℕ) → min a b ≡ (if nat_le a b then a else b)
least a b = grind (arith, nat_tests)

pub returns-in-Some-Some : goal.returns-in-Some-Some
returns-in-Some-Some c = rw (c.in-Some-Some.is-0, c.in-Some-Some.is-1) (ap (λ (n : ℕ). Some n) (c.min.ensures ∙ least c.in-Some-Some.one c.in-Some-Some.other))
