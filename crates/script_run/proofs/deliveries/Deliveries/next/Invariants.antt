use Rattle.std.proofs.Common.{◌≡◌, ◌<◌, ◌≤◌, ℕ, true}
use Rattle.script_run.specs.Deliveries.{is_noted, is_past}
use Rattle.script_run.proofs.deliveries.Deliveries.next.Given as goal

-- all below the number are past, and noted now; of the others nothing has changed
abbrev pub invariant-loop-number : goal.invariant-loop-number
invariant-loop-number l =
    ((m : ℕ) → m < l.number → is_past l.cut l.sent l.fn.self m ≡ true)
    × ((m : ℕ) → m < l.number → is_noted l.self m ≡ true)
    × ((m : ℕ) → l.number ≤ m → is_noted l.self m ≡ is_noted l.fn.self m)
