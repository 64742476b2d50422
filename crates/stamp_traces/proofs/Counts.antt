-- A relation that is an equation: what a counter has counted.
use Rattle.std.proofs.Common.{◌≡◌, ◌+◌, ◌<◌, ◌≤◌, ◌⊎◌, inl, inr, ℕ, List, [], ◌∷◌, length, sym, ap, arith, length-append}
use Rattle.std.proofs.lemmas.Bool.Decides.{nat_tests}
use Rattle.stamp_traces.specs.Traces.{Entry, taken_by, events_of_actor, IsStep, LeadsFrom, LeavesAt}
use Rattle.stamp_traces.specs.declared.counter.Counter.{Counter}

abbrev pub Counts : Counter → ℕ → Counter → ℕ → Type 0
Counts s e t r = (t.count ≡ s.count + 1) × (r ≡ t.count)

count-step : (s u : ℕ → Counter) (x : Entry ℕ ℕ) (n : ℕ) → IsStep Counts s x u → (u n).count ≡ (s n).count + length (taken_by n x)
count-step s u x n step = let takers = step.takers n in let others = step.others n in grind (arith, nat_tests)

pub counts : (s t : ℕ → Counter) (xs : List (Entry ℕ ℕ)) (n : ℕ) → LeadsFrom Counts s xs t → (t n).count ≡ (s n).count + length (events_of_actor n xs)
counts s t [] n same = let e : (t n).count ≡ (s n).count = ap (λ c. c.count) (sym (same n)) in omega (arith, e)
counts s t (x ∷ xs) n leads =
    let first = count-step s leads.0 x n leads.1 in
    let rest = counts leads.0 t xs n leads.2 in
    omega (arith, first, rest, length-append {A = ℕ})

-- where the trace leaves a counter that began at none
pub counted : (xs : List (Entry ℕ ℕ)) (n : ℕ) (c : Counter) → LeavesAt Counts (λ n. record { count = 0 }) xs n c → c.count ≡ length (events_of_actor n xs)
counted xs n c l = let e = ap (λ c. c.count) l.2 in let f = counts (λ n. record { count = 0 }) l.0 xs n l.1 in omega (arith, e, f)
