use Rattle.std.proofs.Common.{◌≡◌, ◌<◌, ℕ, [], get_or, length, map}
use Rattle.script_lines.specs.Words.{Denotes}
use Rattle.script_lines.proofs.word.numbers.Given as goal

abbrev pub invariant-loop-i : goal.invariant-loop-i
invariant-loop-i g l = (length l.numbers ≡ g.row.N)
    × ((k : ℕ) → k < l.i → Denotes (get_or l.numbers k 0) (get_or (map (λ w. w.now) l.words) k []))
